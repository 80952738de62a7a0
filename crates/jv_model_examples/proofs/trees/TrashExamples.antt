-- The trash: where removed files go, and how long they stay.
use Rattle.std.specs.Prelude.{◌≡◌, ℕ, false, List, [], ◌∷◌, codes}
use Rattle.std.proofs.Common.{refl}
use Rattle.jv_model.specs.declared.basics.How.TheVariants.{Plain, NoReplace, Exchange}
use Rattle.jv_model.specs.declared.op.Op.TheVariants as op
use Rattle.jv_model.proofs.ReplyTextExamples.{replies_on_literals}
use Rattle.jv_model.proofs.TreeComputeLaws.{tree_computes}
use Rattle.jv_model_examples.proofs.trees.TreeRuns.{Event, Asks, Ticks, Purges, texts, trash_start}

-- Only the last entry of a file or a symlink goes to the trash, also where the file is open; a directory is removed at
-- once. An entry of the trash is removed for good.
abbrev last_names_go_to_the_trash_events : List Event
last_names_go_to_the_trash_events =
    Asks 0 (op.Mount false)
    ∷ Asks 0 (op.Mkdir (codes "/d") 493)
    ∷ Asks 0 (op.Create (codes "/d/f") 420)
    ∷ Asks 0 (op.Link (codes "/d/f") (codes "/g"))
    ∷ Asks 0 (op.Symlink (codes "g") (codes "/l"))
    ∷ Ticks 10
    ∷ Asks 0 (op.Unlink (codes "/d/f"))
    ∷ Asks 0 (op.Stat (codes "/g"))
    ∷ Ticks 1
    ∷ Asks 0 (op.Unlink (codes "/g"))
    ∷ Asks 0 (op.Unlink (codes "/l"))
    ∷ Asks 0 (op.Rmdir (codes "/d"))
    ∷ Asks 0 (op.Readdir (codes "/"))
    ∷ Asks 0 (op.Readdir (codes "/.trash/1970-01-01-00"))
    ∷ Asks 0 (op.Stat (codes "/.trash/1970-01-01-00"))
    ∷ Asks 0 (op.Stat (codes "/.trash"))
    ∷ Asks 0 (op.Fstat 1)
    ∷ Asks 0 op.Statfs
    ∷ Asks 0 (op.Unlink (codes "/.trash/1970-01-01-00/1-3-g"))
    ∷ Asks 0 (op.Fstat 1)
    ∷ Asks 0 (op.Unlink (codes "/.trash/1970-01-01-00/1-4-l"))
    ∷ Asks 0 (op.Readdir (codes "/.trash/1970-01-01-00"))
    ∷ Asks 0 (op.Close 1)
    ∷ Asks 0 op.Statfs
    ∷ []

abbrev last_names_go_to_the_trash_texts : List (List ℕ)
last_names_go_to_the_trash_texts =
    codes "ok 1"
    ∷ codes "ok 2"
    ∷ codes "ok 1 3"
    ∷ codes "ok"
    ∷ codes "ok 4"
    ∷ codes "-"
    ∷ codes "ok"
    ∷ codes "ok 3 f 0644 1 0 0 0 1000 1010"
    ∷ codes "-"
    ∷ codes "ok"
    ∷ codes "ok"
    ∷ codes "ok"
    ∷ codes "ok -"
    ∷ codes "ok 1-3-g:3 1-4-l:4"
    ∷ codes "ok 9223372032866421456 d 0555 2 0 0 4096 1011 1011"
    ∷ codes "ok 9223372032828243968 d 0555 3 0 0 4096 1011 1011"
    ∷ codes "ok 3 f 0644 1 0 0 0 1000 1011"
    ∷ codes "ok 8192 0 2 0"
    ∷ codes "ok"
    ∷ codes "ok 3 f 0644 0 0 0 0 1000 1011"
    ∷ codes "ok"
    ∷ codes "ok -"
    ∷ codes "ok"
    ∷ codes "ok 0 0 0 0"
    ∷ []

last_names_go_to_the_trash : texts trash_start last_names_go_to_the_trash_events ≡ last_names_go_to_the_trash_texts
unfolding tree_computes replies_on_literals
last_names_go_to_the_trash = refl

-- Nothing is made in the trash, and its own directories stay as they are. Its files may be read, changed and taken out.
abbrev the_trash_is_closed_events : List Event
the_trash_is_closed_events =
    Asks 0 (op.Mount false)
    ∷ Asks 0 (op.Create (codes "/f") 420)
    ∷ Asks 0 (op.Create (codes "/g") 420)
    ∷ Asks 0 (op.Unlink (codes "/f"))
    ∷ Asks 0 (op.Lookup (codes "/.trash"))
    ∷ Asks 0 (op.Readdir (codes "/"))
    ∷ Asks 0 (op.Create (codes "/.trash") 420)
    ∷ Asks 0 (op.Unlink (codes "/.trash"))
    ∷ Asks 0 (op.Rmdir (codes "/.trash"))
    ∷ Asks 0 (op.Rename (codes "/.trash") (codes "/t") Plain)
    ∷ Asks 0 (op.Rename (codes "/g") (codes "/.trash") Plain)
    ∷ Asks 0 (op.Link (codes "/.trash") (codes "/t"))
    ∷ Asks 0 (op.Chmod (codes "/.trash") 511)
    ∷ Asks 0 (op.Readlink (codes "/.trash"))
    ∷ Asks 0 (op.Create (codes "/.trash/x") 420)
    ∷ Asks 0 (op.Unlink (codes "/.trash/x"))
    ∷ Asks 0 (op.Rmdir (codes "/.trash/1970-01-01-00"))
    ∷ Asks 0 (op.Rename (codes "/.trash/1970-01-01-00") (codes "/t") Plain)
    ∷ Asks 0 (op.Chown (codes "/.trash/1970-01-01-00") 1 1)
    ∷ Asks 0 (op.Create (codes "/.trash/1970-01-01-00/x") 420)
    ∷ Asks 0 (op.Symlink (codes "x") (codes "/.trash/1970-01-01-00/x"))
    ∷ Asks 0 (op.Link (codes "/g") (codes "/.trash/1970-01-01-00/x"))
    ∷ Asks 0 (op.Rename (codes "/g") (codes "/.trash/1970-01-01-00/x") Plain)
    ∷ Asks 0 (op.Link (codes "/.trash/1970-01-01-00/1-2-f") (codes "/t"))
    ∷ Asks 0 (op.Rename (codes "/.trash/1970-01-01-00/1-2-f") (codes "/g") Exchange)
    ∷ Asks 0 (op.Rename (codes "/g") (codes "/.trash/1970-01-01-00/1-2-f") Exchange)
    ∷ Asks 0 (op.Rmdir (codes "/.trash/1970-01-01-00/1-2-f"))
    ∷ Asks 0 (op.Chmod (codes "/.trash/1970-01-01-00/1-2-f") 384)
    ∷ Asks 0 (op.Rename (codes "/.trash/1970-01-01-00/1-2-f") (codes "/g") NoReplace)
    ∷ Asks 0 (op.Rename (codes "/.trash/1970-01-01-00/1-2-f") (codes "/g") Plain)
    ∷ Asks 0 (op.Stat (codes "/g"))
    ∷ Asks 0 (op.Readdir (codes "/.trash/1970-01-01-00"))
    ∷ Asks 0 (op.Mkdir (codes "/d") 493)
    ∷ Asks 0 (op.Create (codes "/d/.trash") 420)
    ∷ []

abbrev the_trash_is_closed_texts : List (List ℕ)
the_trash_is_closed_texts =
    codes "ok 1"
    ∷ codes "ok 1 2"
    ∷ codes "ok 2 3"
    ∷ codes "ok"
    ∷ codes "ok 9223372032828243968"
    ∷ codes "ok g:3"
    ∷ codes "err EPERM"
    ∷ codes "err EPERM"
    ∷ codes "err EPERM"
    ∷ codes "err EPERM"
    ∷ codes "err EPERM"
    ∷ codes "err EPERM"
    ∷ codes "err EPERM"
    ∷ codes "err EINVAL"
    ∷ codes "err EPERM"
    ∷ codes "err EPERM"
    ∷ codes "err EPERM"
    ∷ codes "err EPERM"
    ∷ codes "err EPERM"
    ∷ codes "err EPERM"
    ∷ codes "err EPERM"
    ∷ codes "err EPERM"
    ∷ codes "err EPERM"
    ∷ codes "err EPERM"
    ∷ codes "err EPERM"
    ∷ codes "err EPERM"
    ∷ codes "err ENOTDIR"
    ∷ codes "ok"
    ∷ codes "err EEXIST"
    ∷ codes "ok"
    ∷ codes "ok 2 f 0600 1 0 0 0 1000 1000"
    ∷ codes "ok 1-3-g:3"
    ∷ codes "ok 4"
    ∷ codes "ok 3 5"
    ∷ []

the_trash_is_closed : texts trash_start the_trash_is_closed_events ≡ the_trash_is_closed_texts
unfolding tree_computes replies_on_literals
the_trash_is_closed = refl

-- The first hour of 1970 is due first, though its directory has the greatest inode; a cleaning changes no times.
abbrev hours_are_due_in_their_order_events : List Event
hours_are_due_in_their_order_events =
    Asks 0 (op.Mount false)
    ∷ Asks 0 (op.Create (codes "/f") 420)
    ∷ Asks 0 (op.Create (codes "/e") 420)
    ∷ Asks 0 (op.Create (codes "/g") 420)
    ∷ Asks 0 (op.Unlink (codes "/f"))
    ∷ Asks 0 (op.Unlink (codes "/e"))
    ∷ Ticks 2600
    ∷ Asks 0 (op.Unlink (codes "/g"))
    ∷ Asks 0 (op.Readdir (codes "/.trash"))
    ∷ Purges
    ∷ Ticks 86399
    ∷ Purges
    ∷ Ticks 1
    ∷ Purges
    ∷ Purges
    ∷ Asks 0 (op.Stat (codes "/.trash/1970-01-01-00"))
    ∷ Purges
    ∷ Purges
    ∷ Asks 0 (op.Stat (codes "/.trash"))
    ∷ Ticks 3600
    ∷ Purges
    ∷ Purges
    ∷ Asks 0 (op.Readdir (codes "/.trash"))
    ∷ Asks 0 (op.Fstat 3)
    ∷ []

abbrev hours_are_due_in_their_order_texts : List (List ℕ)
hours_are_due_in_their_order_texts =
    codes "ok 1"
    ∷ codes "ok 1 2"
    ∷ codes "ok 2 3"
    ∷ codes "ok 3 4"
    ∷ codes "ok"
    ∷ codes "ok"
    ∷ codes "-"
    ∷ codes "ok"
    ∷ codes "ok 1970-01-01-00:9223372032866421456 1970-01-01-01:9223372032828243969"
    ∷ codes "none"
    ∷ codes "-"
    ∷ codes "none"
    ∷ codes "-"
    ∷ codes "purged 2"
    ∷ codes "purged 3"
    ∷ codes "ok 9223372032866421456 d 0555 2 0 0 4096 1000 1000"
    ∷ codes "purged 9223372032866421456"
    ∷ codes "none"
    ∷ codes "ok 9223372032828243968 d 0555 3 0 0 4096 3600 3600"
    ∷ codes "-"
    ∷ codes "purged 4"
    ∷ codes "purged 9223372032828243969"
    ∷ codes "ok -"
    ∷ codes "err ESTALE inode 4"
    ∷ []

hours_are_due_in_their_order : texts trash_start hours_are_due_in_their_order_events ≡ hours_are_due_in_their_order_texts
unfolding tree_computes replies_on_literals
hours_are_due_in_their_order = refl
