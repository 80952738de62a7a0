-- Worked rows of operations on a tree, with what they print.
use Rattle.std.specs.Prelude.{◌≡◌, ℕ, false, List, [], ◌∷◌, ◌++◌, replicate, codes}
use Rattle.std.proofs.Common.{refl}
use Rattle.jv_model.specs.declared.basics.How.TheVariants.{Plain, NoReplace, Exchange}
use Rattle.jv_model.specs.declared.op.Op.TheVariants as op
use Rattle.jv_model.proofs.ReplyTextExamples.{replies_on_literals}
use Rattle.jv_model.proofs.TreeComputeLaws.{tree_computes}
use Rattle.jv_model_examples.proofs.trees.TreeRuns.{Event, Asks, Ticks, Expires, Purges, texts, start_of, plain_setting, plain_start, trash_start}

-- Directories, links and symlinks, each with what is refused of them.
abbrev paths_are_walked_events : List Event
paths_are_walked_events =
    Asks 0 (op.Mount false)
    ∷ Asks 0 (op.Mkdir (codes "/a") 493)
    ∷ Asks 0 (op.Mkdir (codes "/a") 493)
    ∷ Asks 0 (op.Mkdir (codes "/a/b") 448)
    ∷ Asks 0 (op.Stat (codes "/a"))
    ∷ Asks 0 (op.Rmdir (codes "/a"))
    ∷ Asks 0 (op.Unlink (codes "/a"))
    ∷ Asks 0 (op.Rename (codes "/a") (codes "/a/b/c") Plain)
    ∷ Asks 0 (op.Symlink (codes "/a/b") (codes "/l"))
    ∷ Asks 0 (op.Readlink (codes "/l"))
    ∷ Asks 0 (op.Lstat (codes "/l"))
    ∷ Asks 0 (op.Stat (codes "/l"))
    ∷ Asks 0 (op.Create (codes "/a/f") 420)
    ∷ Asks 0 (op.Stat (codes "/a/f/q"))
    ∷ Asks 0 (op.Link (codes "/a/f") (codes "/g"))
    ∷ Asks 0 (op.Stat (codes "/g"))
    ∷ Asks 0 (op.Rename (codes "/a/b") (codes "/g") NoReplace)
    ∷ Asks 0 (op.Rename (codes "/a/b") (codes "/g") Exchange)
    ∷ Asks 0 (op.Readdir (codes "/"))
    ∷ Asks 0 (op.Readdir (codes "/g"))
    ∷ Asks 0 (op.Symlink (codes "x") (codes "/x"))
    ∷ Asks 0 (op.Stat (codes "/x"))
    ∷ Asks 0 (op.Chmod (codes "/a") 457)
    ∷ Asks 0 (op.Chown (codes "/a") 5 6)
    ∷ Asks 0 (op.Utimes (codes "/a") 77)
    ∷ Asks 0 (op.Stat (codes "/a"))
    ∷ Asks 0 op.Statfs
    ∷ Asks 0 (op.Mkdir (47 ∷ replicate 256 110) 493)
    ∷ []

abbrev paths_are_walked_texts : List (List ℕ)
paths_are_walked_texts =
    codes "ok 1"
    ∷ codes "ok 2"
    ∷ codes "err EEXIST"
    ∷ codes "ok 3"
    ∷ codes "ok 2 d 0755 3 0 0 4096 1000 1000"
    ∷ codes "err ENOTEMPTY"
    ∷ codes "err EPERM"
    ∷ codes "err EINVAL"
    ∷ codes "ok 4"
    ∷ codes "ok /a/b"
    ∷ codes "ok 4 l 0777 1 0 0 4 1000 1000"
    ∷ codes "ok 3 d 0700 2 0 0 4096 1000 1000"
    ∷ codes "ok 1 5"
    ∷ codes "err ENOTDIR"
    ∷ codes "ok"
    ∷ codes "ok 5 f 0644 2 0 0 0 1000 1000"
    ∷ codes "err EEXIST"
    ∷ codes "ok"
    ∷ codes "ok a:2 g:3 l:4"
    ∷ codes "ok -"
    ∷ codes "ok 6"
    ∷ codes "err ELOOP"
    ∷ codes "ok"
    ∷ codes "ok"
    ∷ codes "ok"
    ∷ codes "ok 2 d 0711 2 5 6 4096 77 1000"
    ∷ codes "ok 20480 0 5 0"
    ∷ codes "err ENAMETOOLONG"
    ∷ []

paths_are_walked : texts plain_start paths_are_walked_events ≡ paths_are_walked_texts
unfolding tree_computes replies_on_literals
paths_are_walked = refl

-- A symlink in the middle of a path is followed before `..`.
abbrev dots_follow_symlinks_events : List Event
dots_follow_symlinks_events =
    Asks 0 (op.Mount false)
    ∷ Asks 0 (op.Mkdir (codes "/a") 493)
    ∷ Asks 0 (op.Mkdir (codes "/a/b") 448)
    ∷ Asks 0 (op.Stat (codes "/a"))
    ∷ Asks 0 (op.Symlink (codes "/a/b") (codes "/l"))
    ∷ Asks 0 (op.Readdir (codes "/l/.."))
    ∷ Asks 0 (op.Readdir (codes "/"))
    ∷ Asks 0 (op.Readlink (codes "/a"))
    ∷ Asks 0 op.Statfs
    ∷ []

abbrev dots_follow_symlinks_texts : List (List ℕ)
dots_follow_symlinks_texts =
    codes "ok 1"
    ∷ codes "ok 2"
    ∷ codes "ok 3"
    ∷ codes "ok 2 d 0755 3 0 0 4096 1000 1000"
    ∷ codes "ok 4"
    ∷ codes "ok b:3"
    ∷ codes "ok a:2 l:4"
    ∷ codes "err EINVAL"
    ∷ codes "ok 12288 0 3 0"
    ∷ []

dots_follow_symlinks : texts plain_start dots_follow_symlinks_events ≡ dots_follow_symlinks_texts
unfolding tree_computes replies_on_literals
dots_follow_symlinks = refl

-- A volume of one inode.
abbrev inodes_run_out_events : List Event
inodes_run_out_events =
    Asks 0 (op.Mount false)
    ∷ Asks 0 (op.Create (codes "/f") 420)
    ∷ Asks 0 (op.Mkdir (codes "/d") 493)
    ∷ Asks 0 op.Statfs
    ∷ []

abbrev inodes_run_out_texts : List (List ℕ)
inodes_run_out_texts =
    codes "ok 1"
    ∷ codes "ok 1 2"
    ∷ codes "err ENOSPC"
    ∷ codes "ok 4096 0 1 1"
    ∷ []

inodes_run_out : texts (start_of (record plain_setting { inodes = 1 }) 1000) inodes_run_out_events ≡ inodes_run_out_texts
unfolding tree_computes replies_on_literals
inodes_run_out = refl

-- A volume of a GiB and two inodes.
abbrev space_runs_out_events : List Event
space_runs_out_events =
    Asks 0 (op.Mount false)
    ∷ Asks 0 (op.Create (codes "/f") 420)
    ∷ Asks 0 (op.Truncate 1 1073741824)
    ∷ Asks 0 (op.Create (codes "/g") 420)
    ∷ Asks 0 (op.Truncate 1 0)
    ∷ Asks 0 (op.Create (codes "/g") 420)
    ∷ Asks 0 (op.Mkdir (codes "/d") 493)
    ∷ []

abbrev space_runs_out_texts : List (List ℕ)
space_runs_out_texts =
    codes "ok 1"
    ∷ codes "ok 1 2"
    ∷ codes "ok"
    ∷ codes "err ENOSPC"
    ∷ codes "ok"
    ∷ codes "ok 2 3"
    ∷ codes "err ENOSPC"
    ∷ []

space_runs_out : texts (start_of (record plain_setting { capacity = 1; inodes = 2 }) 1000) space_runs_out_events ≡ space_runs_out_texts
unfolding tree_computes replies_on_literals
space_runs_out = refl

-- A file that is open stays without a name where its own client removed it, and is gone where another did.
abbrev open_files_stay_events : List Event
open_files_stay_events =
    Asks 0 (op.Mount false)
    ∷ Asks 1 (op.Mount false)
    ∷ Asks 0 (op.Create (codes "/f") 420)
    ∷ Asks 0 (op.Write 1 0 (104 ∷ 105 ∷ []))
    ∷ Asks 0 (op.Unlink (codes "/f"))
    ∷ Asks 0 (op.Stat (codes "/f"))
    ∷ Asks 0 (op.Fstat 1)
    ∷ Asks 0 (op.Read 1 0 9)
    ∷ Asks 0 op.Statfs
    ∷ Asks 0 (op.Close 1)
    ∷ Asks 0 op.Statfs
    ∷ Asks 0 (op.Create (codes "/g") 420)
    ∷ Asks 0 (op.Write 1 0 (106 ∷ []))
    ∷ Asks 1 (op.Unlink (codes "/g"))
    ∷ Asks 0 (op.Read 1 0 9)
    ∷ Asks 0 (op.Truncate 1 0)
    ∷ Asks 0 (op.Fstat 1)
    ∷ Asks 0 (op.Close 1)
    ∷ []

abbrev open_files_stay_texts : List (List ℕ)
open_files_stay_texts =
    codes "ok 1"
    ∷ codes "ok 2"
    ∷ codes "ok 1 2"
    ∷ codes "ok 2"
    ∷ codes "ok"
    ∷ codes "err ENOENT"
    ∷ codes "ok 2 f 0644 0 0 0 2 1000 1000"
    ∷ codes "ok 6869"
    ∷ codes "ok 4096 0 1 0"
    ∷ codes "ok"
    ∷ codes "ok 0 0 0 0"
    ∷ codes "ok 1 3"
    ∷ codes "ok 1"
    ∷ codes "ok"
    ∷ codes "err ESTALE inode 3"
    ∷ codes "err ESTALE inode 3"
    ∷ codes "err ESTALE inode 3"
    ∷ codes "ok"
    ∷ []

open_files_stay : texts plain_start open_files_stay_events ≡ open_files_stay_texts
unfolding tree_computes replies_on_literals
open_files_stay = refl

-- A removed file stays in the trash of its hour for a day, and can be taken out of it.
abbrev trash_keeps_a_day_events : List Event
trash_keeps_a_day_events =
    Asks 0 (op.Mount false)
    ∷ Asks 0 (op.Create (codes "/f") 420)
    ∷ Asks 0 (op.Close 1)
    ∷ Asks 0 (op.Unlink (codes "/f"))
    ∷ Asks 0 (op.Readdir (codes "/.trash"))
    ∷ Asks 0 (op.Readdir (codes "/.trash/2024-02-29-23"))
    ∷ Asks 0 (op.Stat (codes "/.trash/2024-02-29-23"))
    ∷ Asks 0 (op.Rename (codes "/.trash/2024-02-29-23/1-2-f") (codes "/g") Plain)
    ∷ Asks 0 (op.Lookup (codes "/g"))
    ∷ Asks 0 (op.Mkdir (codes "/.trash/x") 493)
    ∷ Asks 0 (op.Create (47 ∷ replicate 255 110) 420)
    ∷ Asks 0 (op.Close 1)
    ∷ Asks 0 (op.Unlink (47 ∷ replicate 255 110))
    ∷ Asks 0 (op.Readdir (codes "/.trash/2024-02-29-23"))
    ∷ Asks 0 op.Statfs
    ∷ Ticks 86400
    ∷ Purges
    ∷ Ticks 1
    ∷ Purges
    ∷ Asks 0 (op.Readdir (codes "/.trash"))
    ∷ Purges
    ∷ Purges
    ∷ Asks 0 (op.Readdir (codes "/.trash"))
    ∷ Asks 0 op.Statfs
    ∷ []

abbrev trash_keeps_a_day_texts : List (List ℕ)
trash_keeps_a_day_texts =
    codes "ok 1"
    ∷ codes "ok 1 2"
    ∷ codes "ok"
    ∷ codes "ok"
    ∷ codes "ok 2024-02-29-23:9223372032828718759"
    ∷ codes "ok 1-2-f:2"
    ∷ codes "ok 9223372032828718759 d 0555 2 0 0 4096 1709251199 1709251199"
    ∷ codes "ok"
    ∷ codes "ok 2"
    ∷ codes "err EPERM"
    ∷ codes "ok 1 3"
    ∷ codes "ok"
    ∷ codes "ok"
    ∷ (codes "ok 1-3-" ++ replicate 251 110 ++ codes ":3")
    ∷ codes "ok 8192 0 2 0"
    ∷ codes "-"
    ∷ codes "none"
    ∷ codes "-"
    ∷ codes "purged 3"
    ∷ codes "ok 2024-02-29-23:9223372032828718759"
    ∷ codes "purged 9223372032828718759"
    ∷ codes "none"
    ∷ codes "ok -"
    ∷ codes "ok 4096 0 1 0"
    ∷ []

trash_keeps_a_day : texts (start_of (record plain_setting { trash_days = 1 }) 1709251199) trash_keeps_a_day_events ≡ trash_keeps_a_day_texts
unfolding tree_computes replies_on_literals
trash_keeps_a_day = refl

-- Four clients on a volume with trash: a file is moved and removed while another client has it open.
abbrev a_day_of_use_events : List Event
a_day_of_use_events =
    Asks 0 (op.Mount false)
    ∷ Asks 1 (op.Mount false)
    ∷ Asks 2 (op.Mount false)
    ∷ Asks 3 (op.Mount false)
    ∷ Asks 0 (op.Mkdir (codes "/home") 493)
    ∷ Asks 0 (op.Mkdir (codes "/home/docs") 493)
    ∷ Asks 0 (op.Create (codes "/home/big") 420)
    ∷ Asks 0 (op.Write 1 0 (97 ∷ 97 ∷ []))
    ∷ Asks 0 (op.Close 1)
    ∷ Ticks 28800
    ∷ Asks 0 op.Beat
    ∷ Asks 1 op.Beat
    ∷ Asks 2 op.Beat
    ∷ Asks 3 op.Beat
    ∷ Asks 1 (op.Open (codes "/home/big"))
    ∷ Asks 1 (op.Read 1 0 4)
    ∷ Asks 2 (op.Rename (codes "/home/big") (codes "/home/docs/big") Plain)
    ∷ Asks 3 (op.Unlink (codes "/home/docs/big"))
    ∷ Asks 3 (op.Readdir (codes "/.trash/1970-01-01-08"))
    ∷ Asks 1 (op.Read 1 0 4)
    ∷ Expires 0
    ∷ Purges
    ∷ Asks 1 (op.Close 1)
    ∷ Asks 0 op.Umount
    ∷ Asks 1 op.Umount
    ∷ Asks 2 op.Umount
    ∷ Asks 3 op.Umount
    ∷ []

abbrev a_day_of_use_texts : List (List ℕ)
a_day_of_use_texts =
    codes "ok 1"
    ∷ codes "ok 2"
    ∷ codes "ok 3"
    ∷ codes "ok 4"
    ∷ codes "ok 2"
    ∷ codes "ok 3"
    ∷ codes "ok 1 4"
    ∷ codes "ok 2"
    ∷ codes "ok"
    ∷ codes "-"
    ∷ codes "ok"
    ∷ codes "ok"
    ∷ codes "ok"
    ∷ codes "ok"
    ∷ codes "ok 1 4"
    ∷ codes "ok 6161"
    ∷ codes "ok"
    ∷ codes "ok"
    ∷ codes "ok 3-4-big:4"
    ∷ codes "ok 6161"
    ∷ codes "none"
    ∷ codes "none"
    ∷ codes "ok"
    ∷ codes "ok"
    ∷ codes "ok"
    ∷ codes "ok"
    ∷ codes "ok"
    ∷ []

a_day_of_use : texts trash_start a_day_of_use_events ≡ a_day_of_use_texts
unfolding tree_computes replies_on_literals
a_day_of_use = refl
