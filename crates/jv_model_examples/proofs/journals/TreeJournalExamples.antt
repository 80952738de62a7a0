-- Whole journals of metadata operations, with what they print.
use Rattle.std.proofs.Common.{◌≡◌, false, List, [], ◌∷◌, replicate, refl, codes}
use Rattle.jv_model.specs.declared.act.Act.{Act}
use Rattle.jv_model.specs.declared.act.ActKind.TheVariants.{Mounted, Meta, Opened, Truncated, Answered}
use Rattle.jv_model.specs.declared.act.Told.TheVariants.{Fine, Refused as ToldRefused}
use Rattle.jv_model.specs.declared.fault.Fault.TheVariants.{AlreadyExists, NotADirectory, DirectoryNotEmpty, Invalid, NameTooLong, NoSpace, SymlinkLoop, NotPermitted}
use Rattle.jv_model.specs.declared.basics.How.TheVariants.{Plain, NoReplace, Exchange}
use Rattle.jv_model.specs.declared.op.Line.TheVariants.{Do}
use Rattle.jv_model.specs.declared.op.Op.TheVariants.{Mount, Stat, Lstat, Mkdir, Create, Truncate, Readdir, Chmod, Chown, Utimes, Statfs, Symlink, Readlink, Unlink, Rmdir, Link, Rename}
use Rattle.jv_model.specs.declared.setting.Setting.{Setting}
use Rattle.jv_model.specs.promise.journal.Steps.{Decided}
use Rattle.jv_model.specs.promise.journal.Past.{Setup, text_of}
use Rattle.jv_model.specs.promise.journal.Legal.{Legal}
use Rattle.jv_model.proofs.ReplyTextExamples.{replies_on_literals}
use Rattle.jv_model_examples.proofs.journals.JournalRuns.{run_of, run_on, entry, printed, journals_compute, ◌∴◌}
use Rattle.jv_model_examples.proofs.trees.TreeRuns.{plain_setting}

-- a volume with both limits
abbrev small_setting : Setting
small_setting = record plain_setting { capacity = 1; inodes = 2 }

-- Directories, links and symlinks, each with what is refused of them.
abbrev paths_run : Setup
paths_run = run_of (
    Do 0 (Mount false)
    ∷ Do 0 (Mkdir (codes "/a") 493)
    ∷ Do 0 (Mkdir (codes "/a") 493)
    ∷ Do 0 (Mkdir (codes "/a/b") 448)
    ∷ Do 0 (Stat (codes "/a"))
    ∷ Do 0 (Rmdir (codes "/a"))
    ∷ Do 0 (Unlink (codes "/a"))
    ∷ Do 0 (Rename (codes "/a") (codes "/a/b/c") Plain)
    ∷ Do 0 (Symlink (codes "/a/b") (codes "/l"))
    ∷ Do 0 (Readlink (codes "/l"))
    ∷ Do 0 (Lstat (codes "/l"))
    ∷ Do 0 (Stat (codes "/l"))
    ∷ Do 0 (Create (codes "/a/f") 420)
    ∷ Do 0 (Stat (codes "/a/f/q"))
    ∷ Do 0 (Link (codes "/a/f") (codes "/g"))
    ∷ Do 0 (Stat (codes "/g"))
    ∷ Do 0 (Rename (codes "/a/b") (codes "/g") NoReplace)
    ∷ Do 0 (Rename (codes "/a/b") (codes "/g") Exchange)
    ∷ Do 0 (Readdir (codes "/"))
    ∷ Do 0 (Readdir (codes "/g"))
    ∷ Do 0 (Symlink (codes "x") (codes "/x"))
    ∷ Do 0 (Stat (codes "/x"))
    ∷ Do 0 (Chmod (codes "/a") 457)
    ∷ Do 0 (Chown (codes "/a") 5 6)
    ∷ Do 0 (Utimes (codes "/a") 77)
    ∷ Do 0 (Stat (codes "/a"))
    ∷ Do 0 Statfs
    ∷ Do 0 (Mkdir (47 ∷ replicate 256 110) 493)
    ∷ []
    )

abbrev paths_journal : List Act
paths_journal =
    entry 1 0 (Mounted 1)
    ∷ entry 1 0 (Answered (Fine 1 0 0 0))
    ∷ entry 2 0 Meta
    ∷ entry 2 0 (Answered (Fine 2 0 0 0))
    ∷ entry 3 0 Meta
    ∷ entry 3 0 (Answered (ToldRefused AlreadyExists))
    ∷ entry 4 0 Meta
    ∷ entry 4 0 (Answered (Fine 3 0 0 0))
    ∷ entry 5 0 Meta
    ∷ entry 5 0 (Answered (Fine 0 0 0 0))
    ∷ entry 6 0 Meta
    ∷ entry 6 0 (Answered (ToldRefused DirectoryNotEmpty))
    ∷ entry 7 0 Meta
    ∷ entry 7 0 (Answered (ToldRefused NotPermitted))
    ∷ entry 8 0 Meta
    ∷ entry 8 0 (Answered (ToldRefused Invalid))
    ∷ entry 9 0 Meta
    ∷ entry 9 0 (Answered (Fine 4 0 0 0))
    ∷ entry 10 0 Meta
    ∷ entry 10 0 (Answered (Fine 0 0 0 0))
    ∷ entry 11 0 Meta
    ∷ entry 11 0 (Answered (Fine 0 0 0 0))
    ∷ entry 12 0 Meta
    ∷ entry 12 0 (Answered (Fine 0 0 0 0))
    ∷ entry 13 0 (Opened 1 5)
    ∷ entry 13 0 (Answered (Fine 1 5 0 0))
    ∷ entry 14 0 Meta
    ∷ entry 14 0 (Answered (ToldRefused NotADirectory))
    ∷ entry 15 0 Meta
    ∷ entry 15 0 (Answered (Fine 0 0 0 0))
    ∷ entry 16 0 Meta
    ∷ entry 16 0 (Answered (Fine 0 0 0 0))
    ∷ entry 17 0 Meta
    ∷ entry 17 0 (Answered (ToldRefused AlreadyExists))
    ∷ entry 18 0 Meta
    ∷ entry 18 0 (Answered (Fine 0 0 0 0))
    ∷ entry 19 0 Meta
    ∷ entry 19 0 (Answered (Fine 0 0 0 0))
    ∷ entry 20 0 Meta
    ∷ entry 20 0 (Answered (Fine 0 0 0 0))
    ∷ entry 21 0 Meta
    ∷ entry 21 0 (Answered (Fine 6 0 0 0))
    ∷ entry 22 0 Meta
    ∷ entry 22 0 (Answered (ToldRefused SymlinkLoop))
    ∷ entry 23 0 Meta
    ∷ entry 23 0 (Answered (Fine 0 0 0 0))
    ∷ entry 24 0 Meta
    ∷ entry 24 0 (Answered (Fine 0 0 0 0))
    ∷ entry 25 0 Meta
    ∷ entry 25 0 (Answered (Fine 0 0 0 0))
    ∷ entry 26 0 Meta
    ∷ entry 26 0 (Answered (Fine 0 0 0 0))
    ∷ entry 27 0 Meta
    ∷ entry 27 0 (Answered (Fine 20480 0 5 0))
    ∷ entry 28 0 Meta
    ∷ entry 28 0 (Answered (ToldRefused NameTooLong))
    ∷ []

paths_is_legal : Legal paths_run paths_journal
unfolding journals_compute
paths_is_legal = record {
  ends = refl;
  allowed =
      record { line = refl; complete = refl; moment = refl; stands = record { own = refl; behind = refl; may = record { doing = _; busy = refl; begins_is = refl; may = record { ready = refl; transacts = refl; same = refl } } } }
      ∴ record { line = refl; complete = refl; moment = refl; stands = record { own = refl; behind = refl; may = record { doing = _; busy = refl; begins_is = refl; may = Decided _ refl refl } } }
      ∴ record { line = refl; complete = refl; moment = refl; stands = record { own = refl; behind = refl; may = record { doing = _; busy = refl; begins_is = refl; may = record { ready = refl; transacts = refl; same = refl } } } }
      ∴ record { line = refl; complete = refl; moment = refl; stands = record { own = refl; behind = refl; may = record { doing = _; busy = refl; begins_is = refl; may = Decided _ refl refl } } }
      ∴ record { line = refl; complete = refl; moment = refl; stands = record { own = refl; behind = refl; may = record { doing = _; busy = refl; begins_is = refl; may = record { ready = refl; transacts = refl; same = refl } } } }
      ∴ record { line = refl; complete = refl; moment = refl; stands = record { own = refl; behind = refl; may = record { doing = _; busy = refl; begins_is = refl; may = Decided _ refl refl } } }
      ∴ record { line = refl; complete = refl; moment = refl; stands = record { own = refl; behind = refl; may = record { doing = _; busy = refl; begins_is = refl; may = record { ready = refl; transacts = refl; same = refl } } } }
      ∴ record { line = refl; complete = refl; moment = refl; stands = record { own = refl; behind = refl; may = record { doing = _; busy = refl; begins_is = refl; may = Decided _ refl refl } } }
      ∴ record { line = refl; complete = refl; moment = refl; stands = record { own = refl; behind = refl; may = record { doing = _; busy = refl; begins_is = refl; may = record { ready = refl; transacts = refl; same = refl } } } }
      ∴ record { line = refl; complete = refl; moment = refl; stands = record { own = refl; behind = refl; may = record { doing = _; busy = refl; begins_is = refl; may = Decided _ refl refl } } }
      ∴ record { line = refl; complete = refl; moment = refl; stands = record { own = refl; behind = refl; may = record { doing = _; busy = refl; begins_is = refl; may = record { ready = refl; transacts = refl; same = refl } } } }
      ∴ record { line = refl; complete = refl; moment = refl; stands = record { own = refl; behind = refl; may = record { doing = _; busy = refl; begins_is = refl; may = Decided _ refl refl } } }
      ∴ record { line = refl; complete = refl; moment = refl; stands = record { own = refl; behind = refl; may = record { doing = _; busy = refl; begins_is = refl; may = record { ready = refl; transacts = refl; same = refl } } } }
      ∴ record { line = refl; complete = refl; moment = refl; stands = record { own = refl; behind = refl; may = record { doing = _; busy = refl; begins_is = refl; may = Decided _ refl refl } } }
      ∴ record { line = refl; complete = refl; moment = refl; stands = record { own = refl; behind = refl; may = record { doing = _; busy = refl; begins_is = refl; may = record { ready = refl; transacts = refl; same = refl } } } }
      ∴ record { line = refl; complete = refl; moment = refl; stands = record { own = refl; behind = refl; may = record { doing = _; busy = refl; begins_is = refl; may = Decided _ refl refl } } }
      ∴ record { line = refl; complete = refl; moment = refl; stands = record { own = refl; behind = refl; may = record { doing = _; busy = refl; begins_is = refl; may = record { ready = refl; transacts = refl; same = refl } } } }
      ∴ record { line = refl; complete = refl; moment = refl; stands = record { own = refl; behind = refl; may = record { doing = _; busy = refl; begins_is = refl; may = Decided _ refl refl } } }
      ∴ record { line = refl; complete = refl; moment = refl; stands = record { own = refl; behind = refl; may = record { doing = _; busy = refl; begins_is = refl; may = record { ready = refl; transacts = refl; same = refl } } } }
      ∴ record { line = refl; complete = refl; moment = refl; stands = record { own = refl; behind = refl; may = record { doing = _; busy = refl; begins_is = refl; may = Decided _ refl refl } } }
      ∴ record { line = refl; complete = refl; moment = refl; stands = record { own = refl; behind = refl; may = record { doing = _; busy = refl; begins_is = refl; may = record { ready = refl; transacts = refl; same = refl } } } }
      ∴ record { line = refl; complete = refl; moment = refl; stands = record { own = refl; behind = refl; may = record { doing = _; busy = refl; begins_is = refl; may = Decided _ refl refl } } }
      ∴ record { line = refl; complete = refl; moment = refl; stands = record { own = refl; behind = refl; may = record { doing = _; busy = refl; begins_is = refl; may = record { ready = refl; transacts = refl; same = refl } } } }
      ∴ record { line = refl; complete = refl; moment = refl; stands = record { own = refl; behind = refl; may = record { doing = _; busy = refl; begins_is = refl; may = Decided _ refl refl } } }
      ∴ record { line = refl; complete = refl; moment = refl; stands = record { own = refl; behind = refl; may = record { doing = _; busy = refl; begins_is = refl; may = record { ready = refl; transacts = refl; same = refl } } } }
      ∴ record { line = refl; complete = refl; moment = refl; stands = record { own = refl; behind = refl; may = record { doing = _; busy = refl; begins_is = refl; may = Decided _ refl refl } } }
      ∴ record { line = refl; complete = refl; moment = refl; stands = record { own = refl; behind = refl; may = record { doing = _; busy = refl; begins_is = refl; may = record { ready = refl; transacts = refl; same = refl } } } }
      ∴ record { line = refl; complete = refl; moment = refl; stands = record { own = refl; behind = refl; may = record { doing = _; busy = refl; begins_is = refl; may = Decided _ refl refl } } }
      ∴ record { line = refl; complete = refl; moment = refl; stands = record { own = refl; behind = refl; may = record { doing = _; busy = refl; begins_is = refl; may = record { ready = refl; transacts = refl; same = refl } } } }
      ∴ record { line = refl; complete = refl; moment = refl; stands = record { own = refl; behind = refl; may = record { doing = _; busy = refl; begins_is = refl; may = Decided _ refl refl } } }
      ∴ record { line = refl; complete = refl; moment = refl; stands = record { own = refl; behind = refl; may = record { doing = _; busy = refl; begins_is = refl; may = record { ready = refl; transacts = refl; same = refl } } } }
      ∴ record { line = refl; complete = refl; moment = refl; stands = record { own = refl; behind = refl; may = record { doing = _; busy = refl; begins_is = refl; may = Decided _ refl refl } } }
      ∴ record { line = refl; complete = refl; moment = refl; stands = record { own = refl; behind = refl; may = record { doing = _; busy = refl; begins_is = refl; may = record { ready = refl; transacts = refl; same = refl } } } }
      ∴ record { line = refl; complete = refl; moment = refl; stands = record { own = refl; behind = refl; may = record { doing = _; busy = refl; begins_is = refl; may = Decided _ refl refl } } }
      ∴ record { line = refl; complete = refl; moment = refl; stands = record { own = refl; behind = refl; may = record { doing = _; busy = refl; begins_is = refl; may = record { ready = refl; transacts = refl; same = refl } } } }
      ∴ record { line = refl; complete = refl; moment = refl; stands = record { own = refl; behind = refl; may = record { doing = _; busy = refl; begins_is = refl; may = Decided _ refl refl } } }
      ∴ record { line = refl; complete = refl; moment = refl; stands = record { own = refl; behind = refl; may = record { doing = _; busy = refl; begins_is = refl; may = record { ready = refl; transacts = refl; same = refl } } } }
      ∴ record { line = refl; complete = refl; moment = refl; stands = record { own = refl; behind = refl; may = record { doing = _; busy = refl; begins_is = refl; may = Decided _ refl refl } } }
      ∴ record { line = refl; complete = refl; moment = refl; stands = record { own = refl; behind = refl; may = record { doing = _; busy = refl; begins_is = refl; may = record { ready = refl; transacts = refl; same = refl } } } }
      ∴ record { line = refl; complete = refl; moment = refl; stands = record { own = refl; behind = refl; may = record { doing = _; busy = refl; begins_is = refl; may = Decided _ refl refl } } }
      ∴ record { line = refl; complete = refl; moment = refl; stands = record { own = refl; behind = refl; may = record { doing = _; busy = refl; begins_is = refl; may = record { ready = refl; transacts = refl; same = refl } } } }
      ∴ record { line = refl; complete = refl; moment = refl; stands = record { own = refl; behind = refl; may = record { doing = _; busy = refl; begins_is = refl; may = Decided _ refl refl } } }
      ∴ record { line = refl; complete = refl; moment = refl; stands = record { own = refl; behind = refl; may = record { doing = _; busy = refl; begins_is = refl; may = record { ready = refl; transacts = refl; same = refl } } } }
      ∴ record { line = refl; complete = refl; moment = refl; stands = record { own = refl; behind = refl; may = record { doing = _; busy = refl; begins_is = refl; may = Decided _ refl refl } } }
      ∴ record { line = refl; complete = refl; moment = refl; stands = record { own = refl; behind = refl; may = record { doing = _; busy = refl; begins_is = refl; may = record { ready = refl; transacts = refl; same = refl } } } }
      ∴ record { line = refl; complete = refl; moment = refl; stands = record { own = refl; behind = refl; may = record { doing = _; busy = refl; begins_is = refl; may = Decided _ refl refl } } }
      ∴ record { line = refl; complete = refl; moment = refl; stands = record { own = refl; behind = refl; may = record { doing = _; busy = refl; begins_is = refl; may = record { ready = refl; transacts = refl; same = refl } } } }
      ∴ record { line = refl; complete = refl; moment = refl; stands = record { own = refl; behind = refl; may = record { doing = _; busy = refl; begins_is = refl; may = Decided _ refl refl } } }
      ∴ record { line = refl; complete = refl; moment = refl; stands = record { own = refl; behind = refl; may = record { doing = _; busy = refl; begins_is = refl; may = record { ready = refl; transacts = refl; same = refl } } } }
      ∴ record { line = refl; complete = refl; moment = refl; stands = record { own = refl; behind = refl; may = record { doing = _; busy = refl; begins_is = refl; may = Decided _ refl refl } } }
      ∴ record { line = refl; complete = refl; moment = refl; stands = record { own = refl; behind = refl; may = record { doing = _; busy = refl; begins_is = refl; may = record { ready = refl; transacts = refl; same = refl } } } }
      ∴ record { line = refl; complete = refl; moment = refl; stands = record { own = refl; behind = refl; may = record { doing = _; busy = refl; begins_is = refl; may = Decided _ refl refl } } }
      ∴ record { line = refl; complete = refl; moment = refl; stands = record { own = refl; behind = refl; may = record { doing = _; busy = refl; begins_is = refl; may = record { ready = refl; transacts = refl; same = refl } } } }
      ∴ record { line = refl; complete = refl; moment = refl; stands = record { own = refl; behind = refl; may = record { doing = _; busy = refl; begins_is = refl; may = Decided _ refl refl } } }
      ∴ record { line = refl; complete = refl; moment = refl; stands = record { own = refl; behind = refl; may = record { doing = _; busy = refl; begins_is = refl; may = record { ready = refl; transacts = refl; same = refl } } } }
      ∴ record { line = refl; complete = refl; moment = refl; stands = record { own = refl; behind = refl; may = record { doing = _; busy = refl; begins_is = refl; may = Decided _ refl refl } } }
      ∴ tt;
}

paths_prints : text_of paths_run paths_journal ≡ printed (
    codes "ok 1"
    ∷ codes "ok 2"
    ∷ codes "err EEXIST"
    ∷ codes "ok 3"
    ∷ codes "ok 2 d 0755 3 0 0 4096 1000 1000"
    ∷ codes "err ENOTEMPTY"
    ∷ codes "err EPERM"
    ∷ codes "err EINVAL"
    ∷ codes "ok 4"
    ∷ codes "ok /a/b"
    ∷ codes "ok 4 l 0777 1 0 0 4 1000 1000"
    ∷ codes "ok 3 d 0700 2 0 0 4096 1000 1000"
    ∷ codes "ok 1 5"
    ∷ codes "err ENOTDIR"
    ∷ codes "ok"
    ∷ codes "ok 5 f 0644 2 0 0 0 1000 1000"
    ∷ codes "err EEXIST"
    ∷ codes "ok"
    ∷ codes "ok a:2 g:3 l:4"
    ∷ codes "ok -"
    ∷ codes "ok 6"
    ∷ codes "err ELOOP"
    ∷ codes "ok"
    ∷ codes "ok"
    ∷ codes "ok"
    ∷ codes "ok 2 d 0711 2 5 6 4096 77 1000"
    ∷ codes "ok 20480 0 5 0"
    ∷ codes "err ENAMETOOLONG"
    ∷ []
    )
unfolding journals_compute replies_on_literals
paths_prints = refl

-- A volume of one GiB and two inodes: what passes its limits is refused.
abbrev limits_run : Setup
limits_run = run_on small_setting 1000 (
    Do 0 (Mount false)
    ∷ Do 0 (Create (codes "/f") 420)
    ∷ Do 0 (Truncate 1 1073741824)
    ∷ Do 0 (Create (codes "/g") 420)
    ∷ Do 0 (Truncate 1 0)
    ∷ Do 0 (Create (codes "/g") 420)
    ∷ Do 0 (Mkdir (codes "/d") 493)
    ∷ []
    )

abbrev limits_journal : List Act
limits_journal =
    entry 1 0 (Mounted 1)
    ∷ entry 1 0 (Answered (Fine 1 0 0 0))
    ∷ entry 2 0 (Opened 1 2)
    ∷ entry 2 0 (Answered (Fine 1 2 0 0))
    ∷ entry 3 0 (Truncated 2 1073741824)
    ∷ entry 3 0 (Answered (Fine 0 0 0 0))
    ∷ entry 4 0 Meta
    ∷ entry 4 0 (Answered (ToldRefused NoSpace))
    ∷ entry 5 0 (Truncated 2 0)
    ∷ entry 5 0 (Answered (Fine 0 0 0 0))
    ∷ entry 6 0 (Opened 2 3)
    ∷ entry 6 0 (Answered (Fine 2 3 0 0))
    ∷ entry 7 0 Meta
    ∷ entry 7 0 (Answered (ToldRefused NoSpace))
    ∷ []

limits_is_legal : Legal limits_run limits_journal
unfolding journals_compute
limits_is_legal = record {
  ends = refl;
  allowed =
      record { line = refl; complete = refl; moment = refl; stands = record { own = refl; behind = refl; may = record { doing = _; busy = refl; begins_is = refl; may = record { ready = refl; transacts = refl; same = refl } } } }
      ∴ record { line = refl; complete = refl; moment = refl; stands = record { own = refl; behind = refl; may = record { doing = _; busy = refl; begins_is = refl; may = Decided _ refl refl } } }
      ∴ record { line = refl; complete = refl; moment = refl; stands = record { own = refl; behind = refl; may = record { doing = _; busy = refl; begins_is = refl; may = record { ready = refl; transacts = refl; same = refl } } } }
      ∴ record { line = refl; complete = refl; moment = refl; stands = record { own = refl; behind = refl; may = record { doing = _; busy = refl; begins_is = refl; may = Decided _ refl refl } } }
      ∴ record { line = refl; complete = refl; moment = refl; stands = record { own = refl; behind = refl; may = record { doing = _; busy = refl; begins_is = refl; may = record { ready = refl; same = refl } } } }
      ∴ record { line = refl; complete = refl; moment = refl; stands = record { own = refl; behind = refl; may = record { doing = _; busy = refl; begins_is = refl; may = Decided _ refl refl } } }
      ∴ record { line = refl; complete = refl; moment = refl; stands = record { own = refl; behind = refl; may = record { doing = _; busy = refl; begins_is = refl; may = record { ready = refl; transacts = refl; same = refl } } } }
      ∴ record { line = refl; complete = refl; moment = refl; stands = record { own = refl; behind = refl; may = record { doing = _; busy = refl; begins_is = refl; may = Decided _ refl refl } } }
      ∴ record { line = refl; complete = refl; moment = refl; stands = record { own = refl; behind = refl; may = record { doing = _; busy = refl; begins_is = refl; may = record { ready = refl; same = refl } } } }
      ∴ record { line = refl; complete = refl; moment = refl; stands = record { own = refl; behind = refl; may = record { doing = _; busy = refl; begins_is = refl; may = Decided _ refl refl } } }
      ∴ record { line = refl; complete = refl; moment = refl; stands = record { own = refl; behind = refl; may = record { doing = _; busy = refl; begins_is = refl; may = record { ready = refl; transacts = refl; same = refl } } } }
      ∴ record { line = refl; complete = refl; moment = refl; stands = record { own = refl; behind = refl; may = record { doing = _; busy = refl; begins_is = refl; may = Decided _ refl refl } } }
      ∴ record { line = refl; complete = refl; moment = refl; stands = record { own = refl; behind = refl; may = record { doing = _; busy = refl; begins_is = refl; may = record { ready = refl; transacts = refl; same = refl } } } }
      ∴ record { line = refl; complete = refl; moment = refl; stands = record { own = refl; behind = refl; may = record { doing = _; busy = refl; begins_is = refl; may = Decided _ refl refl } } }
      ∴ tt;
}

limits_prints : text_of limits_run limits_journal ≡ printed (
    codes "ok 1"
    ∷ codes "ok 1 2"
    ∷ codes "ok"
    ∷ codes "err ENOSPC"
    ∷ codes "ok"
    ∷ codes "ok 2 3"
    ∷ codes "err ENOSPC"
    ∷ []
    )
unfolding journals_compute replies_on_literals
limits_prints = refl
