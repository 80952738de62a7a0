-- Renames in their three forms.
use Rattle.std.specs.Prelude.{◌≡◌, ℕ, false, List, [], ◌∷◌, codes}
use Rattle.std.proofs.Common.{refl}
use Rattle.jv_model.specs.declared.basics.How.TheVariants.{Plain, NoReplace, Exchange}
use Rattle.jv_model.specs.declared.op.Op.TheVariants as op
use Rattle.jv_model.proofs.ReplyTextExamples.{replies_on_literals}
use Rattle.jv_model.proofs.TreeComputeLaws.{tree_computes}
use Rattle.jv_model_examples.proofs.trees.TreeRuns.{Event, Asks, Ticks, texts, plain_start, trash_start}

-- What a rename replaces goes as by an unlink or an rmdir; kinds have to agree.
abbrev renames_replace_events : List Event
renames_replace_events =
    Asks 0 (op.Mount false)
    ∷ Asks 0 (op.Create (codes "/f") 420)
    ∷ Asks 0 (op.Create (codes "/g") 420)
    ∷ Asks 0 (op.Mkdir (codes "/d") 493)
    ∷ Asks 0 (op.Mkdir (codes "/d/e") 493)
    ∷ Asks 0 (op.Mkdir (codes "/h") 493)
    ∷ Asks 0 (op.Rename (codes "/q") (codes "/f") Plain)
    ∷ Asks 0 (op.Rename (codes "/f") (codes "/d") Plain)
    ∷ Asks 0 (op.Rename (codes "/d") (codes "/f") Plain)
    ∷ Asks 0 (op.Rename (codes "/h") (codes "/d") Plain)
    ∷ Asks 0 (op.Rename (codes "/f") (codes "/g") NoReplace)
    ∷ Asks 0 (op.Rename (codes "/f") (codes "/q") Exchange)
    ∷ Ticks 7
    ∷ Asks 0 (op.Rename (codes "/f") (codes "/g") Plain)
    ∷ Asks 0 (op.Fstat 1)
    ∷ Asks 0 (op.Fstat 2)
    ∷ Asks 0 (op.Close 2)
    ∷ Asks 0 (op.Rename (codes "/d/e") (codes "/h") Plain)
    ∷ Asks 0 (op.Stat (codes "/d"))
    ∷ Asks 0 (op.Stat (codes "/"))
    ∷ Asks 0 (op.Readdir (codes "/"))
    ∷ Asks 0 (op.Lookup (codes "/h/.."))
    ∷ Asks 0 op.Statfs
    ∷ Asks 0 (op.Rename (codes "/h") (codes "/d/k") NoReplace)
    ∷ Asks 0 (op.Lookup (codes "/d/k/.."))
    ∷ Asks 0 (op.Stat (codes "/"))
    ∷ []

abbrev renames_replace_texts : List (List ℕ)
renames_replace_texts =
    codes "ok 1"
    ∷ codes "ok 1 2"
    ∷ codes "ok 2 3"
    ∷ codes "ok 4"
    ∷ codes "ok 5"
    ∷ codes "ok 6"
    ∷ codes "err ENOENT"
    ∷ codes "err EISDIR"
    ∷ codes "err ENOTDIR"
    ∷ codes "err ENOTEMPTY"
    ∷ codes "err EEXIST"
    ∷ codes "err ENOENT"
    ∷ codes "-"
    ∷ codes "ok"
    ∷ codes "ok 2 f 0644 1 0 0 0 1000 1007"
    ∷ codes "ok 3 f 0644 0 0 0 0 1000 1007"
    ∷ codes "ok"
    ∷ codes "ok"
    ∷ codes "ok 4 d 0755 2 0 0 4096 1007 1007"
    ∷ codes "ok 1 d 0777 4 0 0 4096 1007 1007"
    ∷ codes "ok d:4 g:2 h:5"
    ∷ codes "ok 1"
    ∷ codes "ok 12288 0 3 0"
    ∷ codes "ok"
    ∷ codes "ok 4"
    ∷ codes "ok 1 d 0777 3 0 0 4096 1007 1007"
    ∷ []

renames_replace : texts plain_start renames_replace_events ≡ renames_replace_texts
unfolding tree_computes replies_on_literals
renames_replace = refl

-- A directory moves neither to itself nor below, and with an exchange nothing above it moves into it either. Where both
-- names name one inode, nothing changes.
abbrev nothing_moves_into_itself_events : List Event
nothing_moves_into_itself_events =
    Asks 0 (op.Mount false)
    ∷ Asks 0 (op.Mkdir (codes "/a") 493)
    ∷ Asks 0 (op.Mkdir (codes "/a/b") 493)
    ∷ Asks 0 (op.Mkdir (codes "/a/b/c") 493)
    ∷ Asks 0 (op.Create (codes "/f") 420)
    ∷ Asks 0 (op.Link (codes "/f") (codes "/g"))
    ∷ Ticks 9
    ∷ Asks 0 (op.Rename (codes "/a") (codes "/a/x") Plain)
    ∷ Asks 0 (op.Rename (codes "/a") (codes "/a/b/x") Plain)
    ∷ Asks 0 (op.Rename (codes "/a") (codes "/a/b/c") Plain)
    ∷ Asks 0 (op.Rename (codes "/a") (codes "/a/b/c") Exchange)
    ∷ Asks 0 (op.Rename (codes "/a/b/c") (codes "/a") Exchange)
    ∷ Asks 0 (op.Rename (codes "/f") (codes "/f/x") Plain)
    ∷ Asks 0 (op.Rename (codes "/a/b/c") (codes "/a") Plain)
    ∷ Asks 0 (op.Rename (codes "/a") (codes "/a") Plain)
    ∷ Asks 0 (op.Rename (codes "/a") (codes "/a") Exchange)
    ∷ Asks 0 (op.Rename (codes "/a") (codes "/a") NoReplace)
    ∷ Asks 0 (op.Rename (codes "/f") (codes "/g") Plain)
    ∷ Asks 0 (op.Rename (codes "/f") (codes "/g") Exchange)
    ∷ Asks 0 (op.Readdir (codes "/"))
    ∷ Asks 0 (op.Stat (codes "/"))
    ∷ Asks 0 (op.Stat (codes "/f"))
    ∷ Asks 0 (op.Rename (codes "/a/b") (codes "/f") Exchange)
    ∷ Asks 0 (op.Readdir (codes "/"))
    ∷ Asks 0 (op.Readdir (codes "/a"))
    ∷ Asks 0 (op.Stat (codes "/f"))
    ∷ Asks 0 (op.Stat (codes "/a"))
    ∷ Asks 0 (op.Lookup (codes "/f/.."))
    ∷ Asks 0 (op.Lookup (codes "/f/c/.."))
    ∷ Asks 0 (op.Rename (codes "/f") (codes "/a/b") Exchange)
    ∷ Asks 0 (op.Lookup (codes "/a/b/c/../.."))
    ∷ Asks 0 (op.Lookup (codes "/f"))
    ∷ []

abbrev nothing_moves_into_itself_texts : List (List ℕ)
nothing_moves_into_itself_texts =
    codes "ok 1"
    ∷ codes "ok 2"
    ∷ codes "ok 3"
    ∷ codes "ok 4"
    ∷ codes "ok 1 5"
    ∷ codes "ok"
    ∷ codes "-"
    ∷ codes "err EINVAL"
    ∷ codes "err EINVAL"
    ∷ codes "err EINVAL"
    ∷ codes "err EINVAL"
    ∷ codes "err EINVAL"
    ∷ codes "err ENOTDIR"
    ∷ codes "err ENOTEMPTY"
    ∷ codes "ok"
    ∷ codes "ok"
    ∷ codes "err EEXIST"
    ∷ codes "ok"
    ∷ codes "ok"
    ∷ codes "ok a:2 f:5 g:5"
    ∷ codes "ok 1 d 0777 3 0 0 4096 1000 1000"
    ∷ codes "ok 5 f 0644 2 0 0 0 1000 1000"
    ∷ codes "ok"
    ∷ codes "ok a:2 f:3 g:5"
    ∷ codes "ok b:5"
    ∷ codes "ok 3 d 0755 3 0 0 4096 1000 1009"
    ∷ codes "ok 2 d 0755 2 0 0 4096 1009 1009"
    ∷ codes "ok 1"
    ∷ codes "ok 3"
    ∷ codes "ok"
    ∷ codes "ok 2"
    ∷ codes "ok 5"
    ∷ []

nothing_moves_into_itself : texts plain_start nothing_moves_into_itself_events ≡ nothing_moves_into_itself_texts
unfolding tree_computes replies_on_literals
nothing_moves_into_itself = refl

-- On a volume with trash a replaced file goes there, by the name that it had.
abbrev replaced_files_go_to_the_trash_events : List Event
replaced_files_go_to_the_trash_events =
    Asks 0 (op.Mount false)
    ∷ Asks 0 (op.Mkdir (codes "/d") 493)
    ∷ Asks 0 (op.Create (codes "/d/f") 420)
    ∷ Asks 0 (op.Create (codes "/g") 420)
    ∷ Asks 0 (op.Rename (codes "/g") (codes "/d/f") Plain)
    ∷ Asks 0 (op.Readdir (codes "/d"))
    ∷ Asks 0 (op.Readdir (codes "/.trash/1970-01-01-00"))
    ∷ Asks 0 (op.Rename (codes "/.trash/1970-01-01-00/2-3-f") (codes "/g") NoReplace)
    ∷ Asks 0 (op.Lookup (codes "/g"))
    ∷ []

abbrev replaced_files_go_to_the_trash_texts : List (List ℕ)
replaced_files_go_to_the_trash_texts =
    codes "ok 1"
    ∷ codes "ok 2"
    ∷ codes "ok 1 3"
    ∷ codes "ok 2 4"
    ∷ codes "ok"
    ∷ codes "ok f:4"
    ∷ codes "ok 2-3-f:3"
    ∷ codes "ok"
    ∷ codes "ok 3"
    ∷ []

replaced_files_go_to_the_trash : texts trash_start replaced_files_go_to_the_trash_events ≡ replaced_files_go_to_the_trash_texts
unfolding tree_computes replies_on_literals
replaced_files_go_to_the_trash = refl
