-- Whole journals of files that are written, closed, opened and read, with what they print.
use Rattle.std.proofs.Common.{◌≡◌, false, List, [], ◌∷◌, replicate, refl, codes, lit≤, lit<}
use Rattle.jv_model.specs.declared.act.Act.{Act}
use Rattle.jv_model.specs.declared.act.ActKind.TheVariants.{Mounted, Meta, Opened, Look, Commit, Truncated, Quiet, Answered}
use Rattle.jv_model.specs.declared.act.Told.TheVariants.{Fine, Looks, Refused as ToldRefused}
use Rattle.jv_model.specs.declared.fault.Fault.TheVariants.{BadHandle, FileTooLarge, NotConnected}
use Rattle.jv_model.specs.declared.op.Line.TheVariants.{Do}
use Rattle.jv_model.specs.declared.op.Op.TheVariants.{Mount, Umount, Stat, Fstat, Create, Open, Close, Flush, Read, Write, Truncate, Stats}
use Rattle.jv_model.specs.promise.journal.Steps.{Decided, AtOnce, CountsCache, ReadsViews}
use Rattle.jv_model.specs.promise.journal.Past.{Setup, text_of}
use Rattle.jv_model.specs.promise.journal.Legal.{Legal, Refuses}
use Rattle.jv_model.proofs.ReplyTextExamples.{replies_on_literals}
use Rattle.jv_model_examples.proofs.journals.JournalRuns.{run_of, entry, printed, journals_compute, ◌∴◌}

-- A file is written, closed, opened and read, also past its end, in no byte, and by a handle that isn't open; then the
-- counts of the cache. A write may not go past the end of the longest file.
abbrev first_close_run : Setup
first_close_run = run_of (
    Do 0 (Mount false)
    ∷ Do 0 (Create (codes "/f") 420)
    ∷ Do 0 (Write 1 0 (104 ∷ 105 ∷ []))
    ∷ Do 0 (Close 1)
    ∷ Do 0 (Open (codes "/f"))
    ∷ Do 0 (Read 1 0 10)
    ∷ Do 0 (Read 1 2 5)
    ∷ Do 0 (Read 1 9 5)
    ∷ Do 0 (Read 1 0 0)
    ∷ Do 0 (Read 2 0 1)
    ∷ Do 0 (Write 1 1099511627776 (0 ∷ []))
    ∷ Do 0 (Read 1 0 10)
    ∷ Do 0 Stats
    ∷ []
    )

abbrev first_close_journal : List Act
first_close_journal =
    entry 1 0 (Mounted 1)
    ∷ entry 1 0 (Answered (Fine 1 0 0 0))
    ∷ entry 2 0 (Opened 1 2)
    ∷ entry 2 0 (Answered (Fine 1 2 0 0))
    ∷ entry 3 0 (Answered (Fine 2 0 0 0))
    ∷ entry 4 0 Quiet
    ∷ entry 4 0 Quiet
    ∷ entry 4 0 (Commit 2 0 2 0)
    ∷ entry 4 0 (Answered (Fine 0 0 0 0))
    ∷ entry 5 0 (Opened 1 2)
    ∷ entry 5 0 (Answered (Fine 1 2 0 0))
    ∷ entry 6 0 (Look 2 0)
    ∷ entry 6 0 Quiet
    ∷ entry 6 0 (Answered (Looks 12 0 2))
    ∷ entry 7 0 (Answered (Looks 12 0 0))
    ∷ entry 8 0 (Answered (Looks 12 0 0))
    ∷ entry 9 0 (Answered (Looks 0 0 0))
    ∷ entry 10 0 (Answered (ToldRefused BadHandle))
    ∷ entry 11 0 (Answered (ToldRefused FileTooLarge))
    ∷ entry 12 0 (Answered (Looks 12 0 2))
    ∷ entry 13 0 (Answered (Fine 1 1 1 0))
    ∷ []

first_close_is_legal : Legal first_close_run first_close_journal
unfolding journals_compute
first_close_is_legal = record {
  ends = refl;
  allowed =
      record { line = refl; complete = refl; moment = refl; stands = record { own = refl; behind = refl; may = record { doing = _; busy = refl; begins_is = refl; may = record { ready = refl; transacts = refl; same = refl } } } }
      ∴ record { line = refl; complete = refl; moment = refl; stands = record { own = refl; behind = refl; may = record { doing = _; busy = refl; begins_is = refl; may = Decided _ refl refl } } }
      ∴ record { line = refl; complete = refl; moment = refl; stands = record { own = refl; behind = refl; may = record { doing = _; busy = refl; begins_is = refl; may = record { ready = refl; transacts = refl; same = refl } } } }
      ∴ record { line = refl; complete = refl; moment = refl; stands = record { own = refl; behind = refl; may = record { doing = _; busy = refl; begins_is = refl; may = Decided _ refl refl } } }
      ∴ record { line = refl; complete = refl; moment = refl; stands = record { own = refl; behind = refl; may = record { doing = _; busy = refl; begins_is = refl; may = AtOnce (record { ready = refl; first = refl; same = refl }) } } }
      ∴ record { line = refl; complete = refl; moment = refl; stands = record { own = refl; behind = refl; may = record { doing = _; busy = refl; begins_is = refl; may = refl } } }
      ∴ record { line = refl; complete = refl; moment = refl; stands = record { own = refl; behind = refl; may = record { doing = _; busy = refl; begins_is = refl; may = refl } } }
      ∴ record { line = refl; complete = refl; moment = refl; stands = record { own = refl; behind = refl; may = record { doing = _; busy = refl; begins_is = refl; may = record { requests = lit≤ tt; segment = refl; behind = refl; session = refl; file = refl; in_time = lit< tt; room = refl } } } }
      ∴ record { line = refl; complete = refl; moment = refl; stands = record { own = refl; behind = refl; may = record { doing = _; busy = refl; begins_is = refl; may = Decided _ refl refl } } }
      ∴ record { line = refl; complete = refl; moment = refl; stands = record { own = refl; behind = refl; may = record { doing = _; busy = refl; begins_is = refl; may = record { ready = refl; transacts = refl; same = refl } } } }
      ∴ record { line = refl; complete = refl; moment = refl; stands = record { own = refl; behind = refl; may = record { doing = _; busy = refl; begins_is = refl; may = Decided _ refl refl } } }
      ∴ record { line = refl; complete = refl; moment = refl; stands = record { own = refl; behind = refl; may = record { doing = _; busy = refl; begins_is = refl; may = record { goes_on = refl; file = (refl, refl); session = refl; there = refl } } } }
      ∴ record { line = refl; complete = refl; moment = refl; stands = record { own = refl; behind = refl; may = record { doing = _; busy = refl; begins_is = refl; may = refl } } }
      ∴ record { line = refl; complete = refl; moment = refl; stands = record { own = refl; behind = refl; may = record { doing = _; busy = refl; begins_is = refl; may = ReadsViews (record { goes_on = refl; file = _; opened = refl; first = 12; second = 0; bytes = _; reads = refl; same = refl }) } } }
      ∴ record { line = refl; complete = refl; moment = refl; stands = record { own = refl; behind = refl; may = record { doing = _; busy = refl; begins_is = refl; may = ReadsViews (record { goes_on = refl; file = _; opened = refl; first = 12; second = 0; bytes = _; reads = refl; same = refl }) } } }
      ∴ record { line = refl; complete = refl; moment = refl; stands = record { own = refl; behind = refl; may = record { doing = _; busy = refl; begins_is = refl; may = ReadsViews (record { goes_on = refl; file = _; opened = refl; first = 12; second = 0; bytes = _; reads = refl; same = refl }) } } }
      ∴ record { line = refl; complete = refl; moment = refl; stands = record { own = refl; behind = refl; may = record { doing = _; busy = refl; begins_is = refl; may = AtOnce (record { ready = refl; first = refl; same = refl }) } } }
      ∴ record { line = refl; complete = refl; moment = refl; stands = (refl, Refuses refl) }
      ∴ record { line = refl; complete = refl; moment = refl; stands = (refl, Refuses refl) }
      ∴ record { line = refl; complete = refl; moment = refl; stands = record { own = refl; behind = refl; may = record { doing = _; busy = refl; begins_is = refl; may = ReadsViews (record { goes_on = refl; file = _; opened = refl; first = 12; second = 0; bytes = _; reads = refl; same = refl }) } } }
      ∴ record { line = refl; complete = refl; moment = refl; stands = record { own = refl; behind = refl; may = record { doing = _; busy = refl; begins_is = refl; may = CountsCache 1 1 1 refl refl refl refl } } }
      ∴ tt;
}

first_close_prints : text_of first_close_run first_close_journal ≡ printed (
    codes "ok 1"
    ∷ codes "ok 1 2"
    ∷ codes "ok 2"
    ∷ codes "ok"
    ∷ codes "ok 1 2"
    ∷ codes "ok 6869"
    ∷ codes "ok -"
    ∷ codes "ok -"
    ∷ codes "ok -"
    ∷ codes "err EBADF"
    ∷ codes "err EFBIG"
    ∷ codes "ok 6869"
    ∷ codes "ok 1 1 1 0"
    ∷ []
    )
unfolding journals_compute replies_on_literals
first_close_prints = refl

-- Another client sees what was closed once it opens the file, and not by a file that it had open before.
abbrev reopening_run : Setup
reopening_run = run_of (
    Do 0 (Mount false)
    ∷ Do 1 (Mount false)
    ∷ Do 0 (Create (codes "/f") 420)
    ∷ Do 0 (Write 1 0 (111 ∷ 108 ∷ 100 ∷ []))
    ∷ Do 0 (Close 1)
    ∷ Do 1 (Open (codes "/f"))
    ∷ Do 1 (Read 1 0 10)
    ∷ Do 0 (Open (codes "/f"))
    ∷ Do 0 (Write 1 0 (110 ∷ 101 ∷ 119 ∷ []))
    ∷ Do 0 (Close 1)
    ∷ Do 1 (Read 1 0 10)
    ∷ Do 1 (Open (codes "/f"))
    ∷ Do 1 (Read 2 0 10)
    ∷ []
    )

abbrev reopening_journal : List Act
reopening_journal =
    entry 1 0 (Mounted 1)
    ∷ entry 1 0 (Answered (Fine 1 0 0 0))
    ∷ entry 2 1 (Mounted 2)
    ∷ entry 2 1 (Answered (Fine 2 0 0 0))
    ∷ entry 3 0 (Opened 1 2)
    ∷ entry 3 0 (Answered (Fine 1 2 0 0))
    ∷ entry 4 0 (Answered (Fine 3 0 0 0))
    ∷ entry 5 0 Quiet
    ∷ entry 5 0 Quiet
    ∷ entry 5 0 (Commit 2 0 3 0)
    ∷ entry 5 0 (Answered (Fine 0 0 0 0))
    ∷ entry 6 1 (Opened 1 2)
    ∷ entry 6 1 (Answered (Fine 1 2 0 0))
    ∷ entry 7 1 (Look 2 0)
    ∷ entry 7 1 Quiet
    ∷ entry 7 1 (Answered (Looks 14 0 3))
    ∷ entry 8 0 (Opened 1 2)
    ∷ entry 8 0 (Answered (Fine 1 2 0 0))
    ∷ entry 9 0 (Answered (Fine 3 0 0 0))
    ∷ entry 10 0 Quiet
    ∷ entry 10 0 Quiet
    ∷ entry 10 0 (Commit 2 0 3 0)
    ∷ entry 10 0 (Answered (Fine 0 0 0 0))
    ∷ entry 11 1 (Answered (Looks 14 0 3))
    ∷ entry 12 1 (Opened 2 2)
    ∷ entry 12 1 (Answered (Fine 2 2 0 0))
    ∷ entry 13 1 (Look 2 0)
    ∷ entry 13 1 Quiet
    ∷ entry 13 1 (Answered (Looks 27 0 3))
    ∷ []

reopening_is_legal : Legal reopening_run reopening_journal
unfolding journals_compute
reopening_is_legal = record {
  ends = refl;
  allowed =
      record { line = refl; complete = refl; moment = refl; stands = record { own = refl; behind = refl; may = record { doing = _; busy = refl; begins_is = refl; may = record { ready = refl; transacts = refl; same = refl } } } }
      ∴ record { line = refl; complete = refl; moment = refl; stands = record { own = refl; behind = refl; may = record { doing = _; busy = refl; begins_is = refl; may = Decided _ refl refl } } }
      ∴ record { line = refl; complete = refl; moment = refl; stands = record { own = refl; behind = refl; may = record { doing = _; busy = refl; begins_is = refl; may = record { ready = refl; transacts = refl; same = refl } } } }
      ∴ record { line = refl; complete = refl; moment = refl; stands = record { own = refl; behind = refl; may = record { doing = _; busy = refl; begins_is = refl; may = Decided _ refl refl } } }
      ∴ record { line = refl; complete = refl; moment = refl; stands = record { own = refl; behind = refl; may = record { doing = _; busy = refl; begins_is = refl; may = record { ready = refl; transacts = refl; same = refl } } } }
      ∴ record { line = refl; complete = refl; moment = refl; stands = record { own = refl; behind = refl; may = record { doing = _; busy = refl; begins_is = refl; may = Decided _ refl refl } } }
      ∴ record { line = refl; complete = refl; moment = refl; stands = record { own = refl; behind = refl; may = record { doing = _; busy = refl; begins_is = refl; may = AtOnce (record { ready = refl; first = refl; same = refl }) } } }
      ∴ record { line = refl; complete = refl; moment = refl; stands = record { own = refl; behind = refl; may = record { doing = _; busy = refl; begins_is = refl; may = refl } } }
      ∴ record { line = refl; complete = refl; moment = refl; stands = record { own = refl; behind = refl; may = record { doing = _; busy = refl; begins_is = refl; may = refl } } }
      ∴ record { line = refl; complete = refl; moment = refl; stands = record { own = refl; behind = refl; may = record { doing = _; busy = refl; begins_is = refl; may = record { requests = lit≤ tt; segment = refl; behind = refl; session = refl; file = refl; in_time = lit< tt; room = refl } } } }
      ∴ record { line = refl; complete = refl; moment = refl; stands = record { own = refl; behind = refl; may = record { doing = _; busy = refl; begins_is = refl; may = Decided _ refl refl } } }
      ∴ record { line = refl; complete = refl; moment = refl; stands = record { own = refl; behind = refl; may = record { doing = _; busy = refl; begins_is = refl; may = record { ready = refl; transacts = refl; same = refl } } } }
      ∴ record { line = refl; complete = refl; moment = refl; stands = record { own = refl; behind = refl; may = record { doing = _; busy = refl; begins_is = refl; may = Decided _ refl refl } } }
      ∴ record { line = refl; complete = refl; moment = refl; stands = record { own = refl; behind = refl; may = record { doing = _; busy = refl; begins_is = refl; may = record { goes_on = refl; file = (refl, refl); session = refl; there = refl } } } }
      ∴ record { line = refl; complete = refl; moment = refl; stands = record { own = refl; behind = refl; may = record { doing = _; busy = refl; begins_is = refl; may = refl } } }
      ∴ record { line = refl; complete = refl; moment = refl; stands = record { own = refl; behind = refl; may = record { doing = _; busy = refl; begins_is = refl; may = ReadsViews (record { goes_on = refl; file = _; opened = refl; first = 14; second = 0; bytes = _; reads = refl; same = refl }) } } }
      ∴ record { line = refl; complete = refl; moment = refl; stands = record { own = refl; behind = refl; may = record { doing = _; busy = refl; begins_is = refl; may = record { ready = refl; transacts = refl; same = refl } } } }
      ∴ record { line = refl; complete = refl; moment = refl; stands = record { own = refl; behind = refl; may = record { doing = _; busy = refl; begins_is = refl; may = Decided _ refl refl } } }
      ∴ record { line = refl; complete = refl; moment = refl; stands = record { own = refl; behind = refl; may = record { doing = _; busy = refl; begins_is = refl; may = AtOnce (record { ready = refl; first = refl; same = refl }) } } }
      ∴ record { line = refl; complete = refl; moment = refl; stands = record { own = refl; behind = refl; may = record { doing = _; busy = refl; begins_is = refl; may = refl } } }
      ∴ record { line = refl; complete = refl; moment = refl; stands = record { own = refl; behind = refl; may = record { doing = _; busy = refl; begins_is = refl; may = refl } } }
      ∴ record { line = refl; complete = refl; moment = refl; stands = record { own = refl; behind = refl; may = record { doing = _; busy = refl; begins_is = refl; may = record { requests = lit≤ tt; segment = refl; behind = refl; session = refl; file = refl; in_time = lit< tt; room = refl } } } }
      ∴ record { line = refl; complete = refl; moment = refl; stands = record { own = refl; behind = refl; may = record { doing = _; busy = refl; begins_is = refl; may = Decided _ refl refl } } }
      ∴ record { line = refl; complete = refl; moment = refl; stands = record { own = refl; behind = refl; may = record { doing = _; busy = refl; begins_is = refl; may = ReadsViews (record { goes_on = refl; file = _; opened = refl; first = 14; second = 0; bytes = _; reads = refl; same = refl }) } } }
      ∴ record { line = refl; complete = refl; moment = refl; stands = record { own = refl; behind = refl; may = record { doing = _; busy = refl; begins_is = refl; may = record { ready = refl; transacts = refl; same = refl } } } }
      ∴ record { line = refl; complete = refl; moment = refl; stands = record { own = refl; behind = refl; may = record { doing = _; busy = refl; begins_is = refl; may = Decided _ refl refl } } }
      ∴ record { line = refl; complete = refl; moment = refl; stands = record { own = refl; behind = refl; may = record { doing = _; busy = refl; begins_is = refl; may = record { goes_on = refl; file = (refl, refl); session = refl; there = refl } } } }
      ∴ record { line = refl; complete = refl; moment = refl; stands = record { own = refl; behind = refl; may = record { doing = _; busy = refl; begins_is = refl; may = refl } } }
      ∴ record { line = refl; complete = refl; moment = refl; stands = record { own = refl; behind = refl; may = record { doing = _; busy = refl; begins_is = refl; may = ReadsViews (record { goes_on = refl; file = _; opened = refl; first = 27; second = 0; bytes = _; reads = refl; same = refl }) } } }
      ∴ tt;
}

reopening_prints : text_of reopening_run reopening_journal ≡ printed (
    codes "ok 1"
    ∷ codes "ok 2"
    ∷ codes "ok 1 2"
    ∷ codes "ok 3"
    ∷ codes "ok"
    ∷ codes "ok 1 2"
    ∷ codes "ok 6f6c64"
    ∷ codes "ok 1 2"
    ∷ codes "ok 3"
    ∷ codes "ok"
    ∷ codes "ok 6f6c64"
    ∷ codes "ok 2 2"
    ∷ codes "ok 6e6577"
    ∷ []
    )
unfolding journals_compute replies_on_literals
reopening_prints = refl

-- A write over the border of two windows is two commits, and a read of both cites two looks.
abbrev two_windows_run : Setup
two_windows_run = run_of (
    Do 0 (Mount false)
    ∷ Do 0 (Create (codes "/f") 420)
    ∷ Do 0 (Write 1 67108860 (1 ∷ 2 ∷ 3 ∷ 4 ∷ 5 ∷ 6 ∷ 7 ∷ 8 ∷ []))
    ∷ Do 0 (Flush 1)
    ∷ Do 0 (Read 1 67108858 12)
    ∷ Do 0 (Fstat 1)
    ∷ []
    )

abbrev two_windows_journal : List Act
two_windows_journal =
    entry 1 0 (Mounted 1)
    ∷ entry 1 0 (Answered (Fine 1 0 0 0))
    ∷ entry 2 0 (Opened 1 2)
    ∷ entry 2 0 (Answered (Fine 1 2 0 0))
    ∷ entry 3 0 (Answered (Fine 8 0 0 0))
    ∷ entry 4 0 Quiet
    ∷ entry 4 0 Quiet
    ∷ entry 4 0 (Commit 2 67108860 4 0)
    ∷ entry 4 0 Quiet
    ∷ entry 4 0 Quiet
    ∷ entry 4 0 (Commit 2 67108864 4 0)
    ∷ entry 4 0 (Answered (Fine 0 0 0 0))
    ∷ entry 5 0 (Look 2 0)
    ∷ entry 5 0 Quiet
    ∷ entry 5 0 (Look 2 1)
    ∷ entry 5 0 Quiet
    ∷ entry 5 0 (Answered (Looks 13 15 10))
    ∷ entry 6 0 Meta
    ∷ entry 6 0 (Answered (Fine 0 0 0 0))
    ∷ []

two_windows_is_legal : Legal two_windows_run two_windows_journal
unfolding journals_compute
two_windows_is_legal = record {
  ends = refl;
  allowed =
      record { line = refl; complete = refl; moment = refl; stands = record { own = refl; behind = refl; may = record { doing = _; busy = refl; begins_is = refl; may = record { ready = refl; transacts = refl; same = refl } } } }
      ∴ record { line = refl; complete = refl; moment = refl; stands = record { own = refl; behind = refl; may = record { doing = _; busy = refl; begins_is = refl; may = Decided _ refl refl } } }
      ∴ record { line = refl; complete = refl; moment = refl; stands = record { own = refl; behind = refl; may = record { doing = _; busy = refl; begins_is = refl; may = record { ready = refl; transacts = refl; same = refl } } } }
      ∴ record { line = refl; complete = refl; moment = refl; stands = record { own = refl; behind = refl; may = record { doing = _; busy = refl; begins_is = refl; may = Decided _ refl refl } } }
      ∴ record { line = refl; complete = refl; moment = refl; stands = record { own = refl; behind = refl; may = record { doing = _; busy = refl; begins_is = refl; may = AtOnce (record { ready = refl; first = refl; same = refl }) } } }
      ∴ record { line = refl; complete = refl; moment = refl; stands = record { own = refl; behind = refl; may = record { doing = _; busy = refl; begins_is = refl; may = refl } } }
      ∴ record { line = refl; complete = refl; moment = refl; stands = record { own = refl; behind = refl; may = record { doing = _; busy = refl; begins_is = refl; may = refl } } }
      ∴ record { line = refl; complete = refl; moment = refl; stands = record { own = refl; behind = refl; may = record { doing = _; busy = refl; begins_is = refl; may = record { requests = lit≤ tt; segment = refl; behind = refl; session = refl; file = refl; in_time = lit< tt; room = refl } } } }
      ∴ record { line = refl; complete = refl; moment = refl; stands = record { own = refl; behind = refl; may = record { doing = _; busy = refl; begins_is = refl; may = refl } } }
      ∴ record { line = refl; complete = refl; moment = refl; stands = record { own = refl; behind = refl; may = record { doing = _; busy = refl; begins_is = refl; may = refl } } }
      ∴ record { line = refl; complete = refl; moment = refl; stands = record { own = refl; behind = refl; may = record { doing = _; busy = refl; begins_is = refl; may = record { requests = lit≤ tt; segment = refl; behind = refl; session = refl; file = refl; in_time = lit< tt; room = refl } } } }
      ∴ record { line = refl; complete = refl; moment = refl; stands = record { own = refl; behind = refl; may = record { doing = _; busy = refl; begins_is = refl; may = Decided _ refl refl } } }
      ∴ record { line = refl; complete = refl; moment = refl; stands = record { own = refl; behind = refl; may = record { doing = _; busy = refl; begins_is = refl; may = record { goes_on = refl; file = (refl, refl); session = refl; there = refl } } } }
      ∴ record { line = refl; complete = refl; moment = refl; stands = record { own = refl; behind = refl; may = record { doing = _; busy = refl; begins_is = refl; may = refl } } }
      ∴ record { line = refl; complete = refl; moment = refl; stands = record { own = refl; behind = refl; may = record { doing = _; busy = refl; begins_is = refl; may = record { goes_on = refl; file = (refl, refl); session = refl; there = refl } } } }
      ∴ record { line = refl; complete = refl; moment = refl; stands = record { own = refl; behind = refl; may = record { doing = _; busy = refl; begins_is = refl; may = refl } } }
      ∴ record { line = refl; complete = refl; moment = refl; stands = record { own = refl; behind = refl; may = record { doing = _; busy = refl; begins_is = refl; may = ReadsViews (record { goes_on = refl; file = _; opened = refl; first = 13; second = 15; bytes = _; reads = refl; same = refl }) } } }
      ∴ record { line = refl; complete = refl; moment = refl; stands = record { own = refl; behind = refl; may = record { doing = _; busy = refl; begins_is = refl; may = record { ready = refl; transacts = refl; same = refl } } } }
      ∴ record { line = refl; complete = refl; moment = refl; stands = record { own = refl; behind = refl; may = record { doing = _; busy = refl; begins_is = refl; may = Decided _ refl refl } } }
      ∴ tt;
}

two_windows_prints : text_of two_windows_run two_windows_journal ≡ printed (
    codes "ok 1"
    ∷ codes "ok 1 2"
    ∷ codes "ok 8"
    ∷ codes "ok"
    ∷ codes "ok 00000102030405060708"
    ∷ codes "ok 2 f 0644 1 0 0 67108868 1000 1000"
    ∷ []
    )
unfolding journals_compute replies_on_literals
two_windows_prints = refl

-- Writes over one another, with a hole.
abbrev overlaps_run : Setup
overlaps_run = run_of (
    Do 0 (Mount false)
    ∷ Do 0 (Create (codes "/f") 420)
    ∷ Do 0 (Write 1 0 (replicate 10 97))
    ∷ Do 0 (Flush 1)
    ∷ Do 0 (Write 1 3 (98 ∷ 98 ∷ []))
    ∷ Do 0 (Flush 1)
    ∷ Do 0 (Write 1 100000 (99 ∷ []))
    ∷ Do 0 (Flush 1)
    ∷ Do 0 (Read 1 0 12)
    ∷ Do 0 (Read 1 99998 10)
    ∷ []
    )

abbrev overlaps_journal : List Act
overlaps_journal =
    entry 1 0 (Mounted 1)
    ∷ entry 1 0 (Answered (Fine 1 0 0 0))
    ∷ entry 2 0 (Opened 1 2)
    ∷ entry 2 0 (Answered (Fine 1 2 0 0))
    ∷ entry 3 0 (Answered (Fine 10 0 0 0))
    ∷ entry 4 0 Quiet
    ∷ entry 4 0 Quiet
    ∷ entry 4 0 (Commit 2 0 10 0)
    ∷ entry 4 0 (Answered (Fine 0 0 0 0))
    ∷ entry 5 0 (Answered (Fine 2 0 0 0))
    ∷ entry 6 0 Quiet
    ∷ entry 6 0 Quiet
    ∷ entry 6 0 (Commit 2 3 2 0)
    ∷ entry 6 0 (Answered (Fine 0 0 0 0))
    ∷ entry 7 0 (Answered (Fine 1 0 0 0))
    ∷ entry 8 0 Quiet
    ∷ entry 8 0 Quiet
    ∷ entry 8 0 (Commit 2 100000 1 0)
    ∷ entry 8 0 (Answered (Fine 0 0 0 0))
    ∷ entry 9 0 (Look 2 0)
    ∷ entry 9 0 Quiet
    ∷ entry 9 0 Quiet
    ∷ entry 9 0 (Answered (Looks 20 0 12))
    ∷ entry 10 0 Quiet
    ∷ entry 10 0 (Answered (Looks 20 0 3))
    ∷ []

overlaps_is_legal : Legal overlaps_run overlaps_journal
unfolding journals_compute
overlaps_is_legal = record {
  ends = refl;
  allowed =
      record { line = refl; complete = refl; moment = refl; stands = record { own = refl; behind = refl; may = record { doing = _; busy = refl; begins_is = refl; may = record { ready = refl; transacts = refl; same = refl } } } }
      ∴ record { line = refl; complete = refl; moment = refl; stands = record { own = refl; behind = refl; may = record { doing = _; busy = refl; begins_is = refl; may = Decided _ refl refl } } }
      ∴ record { line = refl; complete = refl; moment = refl; stands = record { own = refl; behind = refl; may = record { doing = _; busy = refl; begins_is = refl; may = record { ready = refl; transacts = refl; same = refl } } } }
      ∴ record { line = refl; complete = refl; moment = refl; stands = record { own = refl; behind = refl; may = record { doing = _; busy = refl; begins_is = refl; may = Decided _ refl refl } } }
      ∴ record { line = refl; complete = refl; moment = refl; stands = record { own = refl; behind = refl; may = record { doing = _; busy = refl; begins_is = refl; may = AtOnce (record { ready = refl; first = refl; same = refl }) } } }
      ∴ record { line = refl; complete = refl; moment = refl; stands = record { own = refl; behind = refl; may = record { doing = _; busy = refl; begins_is = refl; may = refl } } }
      ∴ record { line = refl; complete = refl; moment = refl; stands = record { own = refl; behind = refl; may = record { doing = _; busy = refl; begins_is = refl; may = refl } } }
      ∴ record { line = refl; complete = refl; moment = refl; stands = record { own = refl; behind = refl; may = record { doing = _; busy = refl; begins_is = refl; may = record { requests = lit≤ tt; segment = refl; behind = refl; session = refl; file = refl; in_time = lit< tt; room = refl } } } }
      ∴ record { line = refl; complete = refl; moment = refl; stands = record { own = refl; behind = refl; may = record { doing = _; busy = refl; begins_is = refl; may = Decided _ refl refl } } }
      ∴ record { line = refl; complete = refl; moment = refl; stands = record { own = refl; behind = refl; may = record { doing = _; busy = refl; begins_is = refl; may = AtOnce (record { ready = refl; first = refl; same = refl }) } } }
      ∴ record { line = refl; complete = refl; moment = refl; stands = record { own = refl; behind = refl; may = record { doing = _; busy = refl; begins_is = refl; may = refl } } }
      ∴ record { line = refl; complete = refl; moment = refl; stands = record { own = refl; behind = refl; may = record { doing = _; busy = refl; begins_is = refl; may = refl } } }
      ∴ record { line = refl; complete = refl; moment = refl; stands = record { own = refl; behind = refl; may = record { doing = _; busy = refl; begins_is = refl; may = record { requests = lit≤ tt; segment = refl; behind = refl; session = refl; file = refl; in_time = lit< tt; room = refl } } } }
      ∴ record { line = refl; complete = refl; moment = refl; stands = record { own = refl; behind = refl; may = record { doing = _; busy = refl; begins_is = refl; may = Decided _ refl refl } } }
      ∴ record { line = refl; complete = refl; moment = refl; stands = record { own = refl; behind = refl; may = record { doing = _; busy = refl; begins_is = refl; may = AtOnce (record { ready = refl; first = refl; same = refl }) } } }
      ∴ record { line = refl; complete = refl; moment = refl; stands = record { own = refl; behind = refl; may = record { doing = _; busy = refl; begins_is = refl; may = refl } } }
      ∴ record { line = refl; complete = refl; moment = refl; stands = record { own = refl; behind = refl; may = record { doing = _; busy = refl; begins_is = refl; may = refl } } }
      ∴ record { line = refl; complete = refl; moment = refl; stands = record { own = refl; behind = refl; may = record { doing = _; busy = refl; begins_is = refl; may = record { requests = lit≤ tt; segment = refl; behind = refl; session = refl; file = refl; in_time = lit< tt; room = refl } } } }
      ∴ record { line = refl; complete = refl; moment = refl; stands = record { own = refl; behind = refl; may = record { doing = _; busy = refl; begins_is = refl; may = Decided _ refl refl } } }
      ∴ record { line = refl; complete = refl; moment = refl; stands = record { own = refl; behind = refl; may = record { doing = _; busy = refl; begins_is = refl; may = record { goes_on = refl; file = (refl, refl); session = refl; there = refl } } } }
      ∴ record { line = refl; complete = refl; moment = refl; stands = record { own = refl; behind = refl; may = record { doing = _; busy = refl; begins_is = refl; may = refl } } }
      ∴ record { line = refl; complete = refl; moment = refl; stands = record { own = refl; behind = refl; may = record { doing = _; busy = refl; begins_is = refl; may = refl } } }
      ∴ record { line = refl; complete = refl; moment = refl; stands = record { own = refl; behind = refl; may = record { doing = _; busy = refl; begins_is = refl; may = ReadsViews (record { goes_on = refl; file = _; opened = refl; first = 20; second = 0; bytes = _; reads = refl; same = refl }) } } }
      ∴ record { line = refl; complete = refl; moment = refl; stands = record { own = refl; behind = refl; may = record { doing = _; busy = refl; begins_is = refl; may = refl } } }
      ∴ record { line = refl; complete = refl; moment = refl; stands = record { own = refl; behind = refl; may = record { doing = _; busy = refl; begins_is = refl; may = ReadsViews (record { goes_on = refl; file = _; opened = refl; first = 20; second = 0; bytes = _; reads = refl; same = refl }) } } }
      ∴ tt;
}

overlaps_prints : text_of overlaps_run overlaps_journal ≡ printed (
    codes "ok 1"
    ∷ codes "ok 1 2"
    ∷ codes "ok 10"
    ∷ codes "ok"
    ∷ codes "ok 2"
    ∷ codes "ok"
    ∷ codes "ok 1"
    ∷ codes "ok"
    ∷ codes "ok 6161616262+61x5+0000"
    ∷ codes "ok 000063"
    ∷ []
    )
unfolding journals_compute replies_on_literals
overlaps_prints = refl

-- A file is cut, and made longer by zeros.
abbrev truncations_run : Setup
truncations_run = run_of (
    Do 0 (Mount false)
    ∷ Do 0 (Create (codes "/f") 420)
    ∷ Do 0 (Write 1 0 (104 ∷ 101 ∷ 108 ∷ 108 ∷ 111 ∷ []))
    ∷ Do 0 (Truncate 1 3)
    ∷ Do 0 (Truncate 1 10)
    ∷ Do 0 (Read 1 0 20)
    ∷ []
    )

abbrev truncations_journal : List Act
truncations_journal =
    entry 1 0 (Mounted 1)
    ∷ entry 1 0 (Answered (Fine 1 0 0 0))
    ∷ entry 2 0 (Opened 1 2)
    ∷ entry 2 0 (Answered (Fine 1 2 0 0))
    ∷ entry 3 0 (Answered (Fine 5 0 0 0))
    ∷ entry 4 0 Quiet
    ∷ entry 4 0 Quiet
    ∷ entry 4 0 (Commit 2 0 5 0)
    ∷ entry 4 0 (Truncated 2 3)
    ∷ entry 4 0 (Answered (Fine 0 0 0 0))
    ∷ entry 5 0 (Truncated 2 10)
    ∷ entry 5 0 (Answered (Fine 0 0 0 0))
    ∷ entry 6 0 (Look 2 0)
    ∷ entry 6 0 Quiet
    ∷ entry 6 0 (Answered (Looks 13 0 10))
    ∷ []

truncations_is_legal : Legal truncations_run truncations_journal
unfolding journals_compute
truncations_is_legal = record {
  ends = refl;
  allowed =
      record { line = refl; complete = refl; moment = refl; stands = record { own = refl; behind = refl; may = record { doing = _; busy = refl; begins_is = refl; may = record { ready = refl; transacts = refl; same = refl } } } }
      ∴ record { line = refl; complete = refl; moment = refl; stands = record { own = refl; behind = refl; may = record { doing = _; busy = refl; begins_is = refl; may = Decided _ refl refl } } }
      ∴ record { line = refl; complete = refl; moment = refl; stands = record { own = refl; behind = refl; may = record { doing = _; busy = refl; begins_is = refl; may = record { ready = refl; transacts = refl; same = refl } } } }
      ∴ record { line = refl; complete = refl; moment = refl; stands = record { own = refl; behind = refl; may = record { doing = _; busy = refl; begins_is = refl; may = Decided _ refl refl } } }
      ∴ record { line = refl; complete = refl; moment = refl; stands = record { own = refl; behind = refl; may = record { doing = _; busy = refl; begins_is = refl; may = AtOnce (record { ready = refl; first = refl; same = refl }) } } }
      ∴ record { line = refl; complete = refl; moment = refl; stands = record { own = refl; behind = refl; may = record { doing = _; busy = refl; begins_is = refl; may = refl } } }
      ∴ record { line = refl; complete = refl; moment = refl; stands = record { own = refl; behind = refl; may = record { doing = _; busy = refl; begins_is = refl; may = refl } } }
      ∴ record { line = refl; complete = refl; moment = refl; stands = record { own = refl; behind = refl; may = record { doing = _; busy = refl; begins_is = refl; may = record { requests = lit≤ tt; segment = refl; behind = refl; session = refl; file = refl; in_time = lit< tt; room = refl } } } }
      ∴ record { line = refl; complete = refl; moment = refl; stands = record { own = refl; behind = refl; may = record { doing = _; busy = refl; begins_is = refl; may = record { ready = refl; same = refl } } } }
      ∴ record { line = refl; complete = refl; moment = refl; stands = record { own = refl; behind = refl; may = record { doing = _; busy = refl; begins_is = refl; may = Decided _ refl refl } } }
      ∴ record { line = refl; complete = refl; moment = refl; stands = record { own = refl; behind = refl; may = record { doing = _; busy = refl; begins_is = refl; may = record { ready = refl; same = refl } } } }
      ∴ record { line = refl; complete = refl; moment = refl; stands = record { own = refl; behind = refl; may = record { doing = _; busy = refl; begins_is = refl; may = Decided _ refl refl } } }
      ∴ record { line = refl; complete = refl; moment = refl; stands = record { own = refl; behind = refl; may = record { doing = _; busy = refl; begins_is = refl; may = record { goes_on = refl; file = (refl, refl); session = refl; there = refl } } } }
      ∴ record { line = refl; complete = refl; moment = refl; stands = record { own = refl; behind = refl; may = record { doing = _; busy = refl; begins_is = refl; may = refl } } }
      ∴ record { line = refl; complete = refl; moment = refl; stands = record { own = refl; behind = refl; may = record { doing = _; busy = refl; begins_is = refl; may = ReadsViews (record { goes_on = refl; file = _; opened = refl; first = 13; second = 0; bytes = _; reads = refl; same = refl }) } } }
      ∴ tt;
}

truncations_prints : text_of truncations_run truncations_journal ≡ printed (
    codes "ok 1"
    ∷ codes "ok 1 2"
    ∷ codes "ok 5"
    ∷ codes "ok"
    ∷ codes "ok"
    ∷ codes "ok 68656c+00x7"
    ∷ []
    )
unfolding journals_compute replies_on_literals
truncations_prints = refl

-- A buffer of four bytes: a write that would pass it commits all that is pending first, and an unmount commits the rest.
abbrev full_buffer_run : Setup
full_buffer_run = record (run_of (
    Do 0 (Mount false)
    ∷ Do 0 (Create (codes "/f") 420)
    ∷ Do 0 (Create (codes "/g") 420)
    ∷ Do 0 (Write 2 0 (97 ∷ 98 ∷ 99 ∷ []))
    ∷ Do 0 (Write 1 0 (100 ∷ []))
    ∷ Do 0 (Write 1 9 (101 ∷ []))
    ∷ Do 0 (Write 2 3 (102 ∷ 103 ∷ 104 ∷ 105 ∷ 106 ∷ []))
    ∷ Do 0 Umount
    ∷ Do 0 (Fstat 1)
    ∷ Do 0 (Mount false)
    ∷ Do 0 (Stat (codes "/f"))
    ∷ Do 0 (Stat (codes "/g"))
    ∷ []
    )) { limits = record { buffer = 4; entries = 16; writeback = false } }

abbrev full_buffer_journal : List Act
full_buffer_journal =
    entry 1 0 (Mounted 1)
    ∷ entry 1 0 (Answered (Fine 1 0 0 0))
    ∷ entry 2 0 (Opened 1 2)
    ∷ entry 2 0 (Answered (Fine 1 2 0 0))
    ∷ entry 3 0 (Opened 2 3)
    ∷ entry 3 0 (Answered (Fine 2 3 0 0))
    ∷ entry 4 0 (Answered (Fine 3 0 0 0))
    ∷ entry 5 0 (Answered (Fine 1 0 0 0))
    ∷ entry 6 0 Quiet
    ∷ entry 6 0 Quiet
    ∷ entry 6 0 (Commit 2 0 1 0)
    ∷ entry 6 0 Quiet
    ∷ entry 6 0 Quiet
    ∷ entry 6 0 (Commit 3 0 3 0)
    ∷ entry 6 0 (Answered (Fine 1 0 0 0))
    ∷ entry 7 0 Quiet
    ∷ entry 7 0 Quiet
    ∷ entry 7 0 (Commit 2 9 1 0)
    ∷ entry 7 0 (Answered (Fine 5 0 0 0))
    ∷ entry 8 0 Quiet
    ∷ entry 8 0 Quiet
    ∷ entry 8 0 (Commit 3 3 5 0)
    ∷ entry 8 0 Meta
    ∷ entry 8 0 (Answered (Fine 0 0 0 0))
    ∷ entry 9 0 (Answered (ToldRefused NotConnected))
    ∷ entry 10 0 (Mounted 2)
    ∷ entry 10 0 (Answered (Fine 2 0 0 0))
    ∷ entry 11 0 Meta
    ∷ entry 11 0 (Answered (Fine 0 0 0 0))
    ∷ entry 12 0 Meta
    ∷ entry 12 0 (Answered (Fine 0 0 0 0))
    ∷ []

full_buffer_is_legal : Legal full_buffer_run full_buffer_journal
unfolding journals_compute
full_buffer_is_legal = record {
  ends = refl;
  allowed =
      record { line = refl; complete = refl; moment = refl; stands = record { own = refl; behind = refl; may = record { doing = _; busy = refl; begins_is = refl; may = record { ready = refl; transacts = refl; same = refl } } } }
      ∴ record { line = refl; complete = refl; moment = refl; stands = record { own = refl; behind = refl; may = record { doing = _; busy = refl; begins_is = refl; may = Decided _ refl refl } } }
      ∴ record { line = refl; complete = refl; moment = refl; stands = record { own = refl; behind = refl; may = record { doing = _; busy = refl; begins_is = refl; may = record { ready = refl; transacts = refl; same = refl } } } }
      ∴ record { line = refl; complete = refl; moment = refl; stands = record { own = refl; behind = refl; may = record { doing = _; busy = refl; begins_is = refl; may = Decided _ refl refl } } }
      ∴ record { line = refl; complete = refl; moment = refl; stands = record { own = refl; behind = refl; may = record { doing = _; busy = refl; begins_is = refl; may = record { ready = refl; transacts = refl; same = refl } } } }
      ∴ record { line = refl; complete = refl; moment = refl; stands = record { own = refl; behind = refl; may = record { doing = _; busy = refl; begins_is = refl; may = Decided _ refl refl } } }
      ∴ record { line = refl; complete = refl; moment = refl; stands = record { own = refl; behind = refl; may = record { doing = _; busy = refl; begins_is = refl; may = AtOnce (record { ready = refl; first = refl; same = refl }) } } }
      ∴ record { line = refl; complete = refl; moment = refl; stands = record { own = refl; behind = refl; may = record { doing = _; busy = refl; begins_is = refl; may = AtOnce (record { ready = refl; first = refl; same = refl }) } } }
      ∴ record { line = refl; complete = refl; moment = refl; stands = record { own = refl; behind = refl; may = record { doing = _; busy = refl; begins_is = refl; may = refl } } }
      ∴ record { line = refl; complete = refl; moment = refl; stands = record { own = refl; behind = refl; may = record { doing = _; busy = refl; begins_is = refl; may = refl } } }
      ∴ record { line = refl; complete = refl; moment = refl; stands = record { own = refl; behind = refl; may = record { doing = _; busy = refl; begins_is = refl; may = record { requests = lit≤ tt; segment = refl; behind = refl; session = refl; file = refl; in_time = lit< tt; room = refl } } } }
      ∴ record { line = refl; complete = refl; moment = refl; stands = record { own = refl; behind = refl; may = record { doing = _; busy = refl; begins_is = refl; may = refl } } }
      ∴ record { line = refl; complete = refl; moment = refl; stands = record { own = refl; behind = refl; may = record { doing = _; busy = refl; begins_is = refl; may = refl } } }
      ∴ record { line = refl; complete = refl; moment = refl; stands = record { own = refl; behind = refl; may = record { doing = _; busy = refl; begins_is = refl; may = record { requests = lit≤ tt; segment = refl; behind = refl; session = refl; file = refl; in_time = lit< tt; room = refl } } } }
      ∴ record { line = refl; complete = refl; moment = refl; stands = record { own = refl; behind = refl; may = record { doing = _; busy = refl; begins_is = refl; may = Decided _ refl refl } } }
      ∴ record { line = refl; complete = refl; moment = refl; stands = record { own = refl; behind = refl; may = record { doing = _; busy = refl; begins_is = refl; may = refl } } }
      ∴ record { line = refl; complete = refl; moment = refl; stands = record { own = refl; behind = refl; may = record { doing = _; busy = refl; begins_is = refl; may = refl } } }
      ∴ record { line = refl; complete = refl; moment = refl; stands = record { own = refl; behind = refl; may = record { doing = _; busy = refl; begins_is = refl; may = record { requests = lit≤ tt; segment = refl; behind = refl; session = refl; file = refl; in_time = lit< tt; room = refl } } } }
      ∴ record { line = refl; complete = refl; moment = refl; stands = record { own = refl; behind = refl; may = record { doing = _; busy = refl; begins_is = refl; may = Decided _ refl refl } } }
      ∴ record { line = refl; complete = refl; moment = refl; stands = record { own = refl; behind = refl; may = record { doing = _; busy = refl; begins_is = refl; may = refl } } }
      ∴ record { line = refl; complete = refl; moment = refl; stands = record { own = refl; behind = refl; may = record { doing = _; busy = refl; begins_is = refl; may = refl } } }
      ∴ record { line = refl; complete = refl; moment = refl; stands = record { own = refl; behind = refl; may = record { doing = _; busy = refl; begins_is = refl; may = record { requests = lit≤ tt; segment = refl; behind = refl; session = refl; file = refl; in_time = lit< tt; room = refl } } } }
      ∴ record { line = refl; complete = refl; moment = refl; stands = record { own = refl; behind = refl; may = record { doing = _; busy = refl; begins_is = refl; may = record { ready = refl; transacts = refl; same = refl } } } }
      ∴ record { line = refl; complete = refl; moment = refl; stands = record { own = refl; behind = refl; may = record { doing = _; busy = refl; begins_is = refl; may = Decided _ refl refl } } }
      ∴ record { line = refl; complete = refl; moment = refl; stands = (refl, Refuses refl) }
      ∴ record { line = refl; complete = refl; moment = refl; stands = record { own = refl; behind = refl; may = record { doing = _; busy = refl; begins_is = refl; may = record { ready = refl; transacts = refl; same = refl } } } }
      ∴ record { line = refl; complete = refl; moment = refl; stands = record { own = refl; behind = refl; may = record { doing = _; busy = refl; begins_is = refl; may = Decided _ refl refl } } }
      ∴ record { line = refl; complete = refl; moment = refl; stands = record { own = refl; behind = refl; may = record { doing = _; busy = refl; begins_is = refl; may = record { ready = refl; transacts = refl; same = refl } } } }
      ∴ record { line = refl; complete = refl; moment = refl; stands = record { own = refl; behind = refl; may = record { doing = _; busy = refl; begins_is = refl; may = Decided _ refl refl } } }
      ∴ record { line = refl; complete = refl; moment = refl; stands = record { own = refl; behind = refl; may = record { doing = _; busy = refl; begins_is = refl; may = record { ready = refl; transacts = refl; same = refl } } } }
      ∴ record { line = refl; complete = refl; moment = refl; stands = record { own = refl; behind = refl; may = record { doing = _; busy = refl; begins_is = refl; may = Decided _ refl refl } } }
      ∴ tt;
}

full_buffer_prints : text_of full_buffer_run full_buffer_journal ≡ printed (
    codes "ok 1"
    ∷ codes "ok 1 2"
    ∷ codes "ok 2 3"
    ∷ codes "ok 3"
    ∷ codes "ok 1"
    ∷ codes "ok 1"
    ∷ codes "ok 5"
    ∷ codes "ok"
    ∷ codes "err ENOTCONN"
    ∷ codes "ok 2"
    ∷ codes "ok 2 f 0644 1 0 0 10 1000 1000"
    ∷ codes "ok 3 f 0644 1 0 0 8 1000 1000"
    ∷ []
    )
unfolding journals_compute replies_on_literals
full_buffer_prints = refl
