-- Files and directories removed on a volume without trash.
use Rattle.std.specs.Prelude.{◌≡◌, ℕ, false, List, [], ◌∷◌, codes}
use Rattle.std.proofs.Common.{refl}
use Rattle.jv_model.specs.declared.op.Op.TheVariants as op
use Rattle.jv_model.proofs.ReplyTextExamples.{replies_on_literals}
use Rattle.jv_model.proofs.TreeComputeLaws.{tree_computes}
use Rattle.jv_model_examples.proofs.trees.TreeRuns.{Event, Asks, Ticks, texts, plain_start}

-- A file goes with its last name, and each name sets the change time of what is left.
abbrev links_are_counted_events : List Event
links_are_counted_events =
    Asks 0 (op.Mount false)
    ∷ Asks 0 (op.Create (codes "/f") 420)
    ∷ Asks 0 (op.Close 1)
    ∷ Asks 0 (op.Link (codes "/f") (codes "/g"))
    ∷ Asks 0 (op.Link (codes "/f") (codes "/g"))
    ∷ Asks 0 (op.Unlink (codes "/q"))
    ∷ Ticks 5
    ∷ Asks 0 (op.Unlink (codes "/f"))
    ∷ Asks 0 (op.Stat (codes "/g"))
    ∷ Asks 0 (op.Stat (codes "/"))
    ∷ Asks 0 op.Statfs
    ∷ Asks 0 (op.Unlink (codes "/g"))
    ∷ Asks 0 op.Statfs
    ∷ []

abbrev links_are_counted_texts : List (List ℕ)
links_are_counted_texts =
    codes "ok 1"
    ∷ codes "ok 1 2"
    ∷ codes "ok"
    ∷ codes "ok"
    ∷ codes "err EEXIST"
    ∷ codes "err ENOENT"
    ∷ codes "-"
    ∷ codes "ok"
    ∷ codes "ok 2 f 0644 1 0 0 0 1000 1005"
    ∷ codes "ok 1 d 0777 2 0 0 4096 1005 1005"
    ∷ codes "ok 4096 0 1 0"
    ∷ codes "ok"
    ∷ codes "ok 0 0 0 0"
    ∷ []

links_are_counted : texts plain_start links_are_counted_events ≡ links_are_counted_texts
unfolding tree_computes replies_on_literals
links_are_counted = refl

-- A directory goes where it is empty, and its parent has a link less.
abbrev directories_go_empty_events : List Event
directories_go_empty_events =
    Asks 0 (op.Mount false)
    ∷ Asks 0 (op.Mkdir (codes "/d") 493)
    ∷ Asks 0 (op.Create (codes "/d/f") 420)
    ∷ Asks 0 (op.Rmdir (codes "/q"))
    ∷ Asks 0 (op.Rmdir (codes "/d/f"))
    ∷ Asks 0 (op.Rmdir (codes "/d"))
    ∷ Asks 0 (op.Unlink (codes "/d/f"))
    ∷ Asks 0 (op.Stat (codes "/"))
    ∷ Asks 0 (op.Unlink (codes "/d"))
    ∷ Asks 0 (op.Rmdir (codes "/d"))
    ∷ Asks 0 (op.Stat (codes "/"))
    ∷ Asks 0 (op.Rmdir (codes "/d"))
    ∷ []

abbrev directories_go_empty_texts : List (List ℕ)
directories_go_empty_texts =
    codes "ok 1"
    ∷ codes "ok 2"
    ∷ codes "ok 1 3"
    ∷ codes "err ENOENT"
    ∷ codes "err ENOTDIR"
    ∷ codes "err ENOTEMPTY"
    ∷ codes "ok"
    ∷ codes "ok 1 d 0777 3 0 0 4096 1000 1000"
    ∷ codes "err EPERM"
    ∷ codes "ok"
    ∷ codes "ok 1 d 0777 2 0 0 4096 1000 1000"
    ∷ codes "err ENOENT"
    ∷ []

directories_go_empty : texts plain_start directories_go_empty_events ≡ directories_go_empty_texts
unfolding tree_computes replies_on_literals
directories_go_empty = refl

-- No directory gets a second name.
abbrev links_to_directories_are_refused_events : List Event
links_to_directories_are_refused_events =
    Asks 0 (op.Mount false)
    ∷ Asks 0 (op.Mkdir (codes "/d") 493)
    ∷ Asks 0 (op.Link (codes "/d") (codes "/e"))
    ∷ Asks 0 (op.Link (codes "/") (codes "/e"))
    ∷ Asks 0 (op.Link (codes "/q") (codes "/e"))
    ∷ Asks 0 (op.Symlink (codes "d") (codes "/l"))
    ∷ Asks 0 (op.Link (codes "/l") (codes "/d"))
    ∷ Asks 0 (op.Link (codes "/l") (codes "/e"))
    ∷ Asks 0 (op.Readdir (codes "/e"))
    ∷ []

abbrev links_to_directories_are_refused_texts : List (List ℕ)
links_to_directories_are_refused_texts =
    codes "ok 1"
    ∷ codes "ok 2"
    ∷ codes "err EPERM"
    ∷ codes "err EPERM"
    ∷ codes "err ENOENT"
    ∷ codes "ok 3"
    ∷ codes "err EEXIST"
    ∷ codes "ok"
    ∷ codes "ok -"
    ∷ []

links_to_directories_are_refused : texts plain_start links_to_directories_are_refused_events ≡ links_to_directories_are_refused_texts
unfolding tree_computes replies_on_literals
links_to_directories_are_refused = refl
