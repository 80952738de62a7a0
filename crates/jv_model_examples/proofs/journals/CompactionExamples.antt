-- Whole journals of compactions, with what they print.
use Rattle.std.proofs.Common.{◌≡◌, false, List, [], ◌∷◌, refl, codes, lit≤, lit<}
use Rattle.jv_model.specs.declared.act.Act.{Act}
use Rattle.jv_model.specs.declared.act.ActKind.TheVariants.{Mounted, Opened, Look, Commit, Truncated, Compacted, Quiet, Answered}
use Rattle.jv_model.specs.declared.act.Told.TheVariants.{Fine, Looks, Refused as ToldRefused}
use Rattle.jv_model.specs.declared.fault.Fault.TheVariants.{Contended}
use Rattle.jv_model.specs.declared.fault.Busy.TheVariants.{Lists}
use Rattle.jv_model.specs.declared.op.Line.TheVariants.{Do, Begin, Step, Run}
use Rattle.jv_model.specs.declared.op.Op.TheVariants.{Mount, Create, Open, Flush, Read, Write, Truncate, Compact}
use Rattle.jv_model.specs.promise.journal.Steps.{Decided, AtOnce, ReadsViews, HasCompacted, First, HasReplaced, AnotherList, Refuses as IsRefusedBy}
use Rattle.jv_model.specs.promise.journal.Past.{Setup, text_of}
use Rattle.jv_model.specs.promise.journal.Legal.{Legal}
use Rattle.jv_model.proofs.ReplyTextExamples.{replies_on_literals}
use Rattle.jv_model_examples.proofs.journals.JournalRuns.{run_of, entry, printed, journals_compute, ◌∴◌}

-- A compaction keeps what another client commits while it goes on.
abbrev compaction_run : Setup
compaction_run = run_of (
    Do 0 (Mount false)
    ∷ Do 1 (Mount false)
    ∷ Do 0 (Create (codes "/f") 420)
    ∷ Do 0 (Write 1 0 (97 ∷ []))
    ∷ Do 0 (Flush 1)
    ∷ Do 0 (Write 1 1 (98 ∷ []))
    ∷ Do 0 (Flush 1)
    ∷ Do 0 (Write 1 2 (99 ∷ []))
    ∷ Do 0 (Flush 1)
    ∷ Do 0 (Write 1 3 (100 ∷ []))
    ∷ Do 0 (Flush 1)
    ∷ Do 0 (Write 1 4 (101 ∷ []))
    ∷ Do 0 (Flush 1)
    ∷ Begin 0 (Compact (codes "/f") 0)
    ∷ Step 0
    ∷ Do 1 (Open (codes "/f"))
    ∷ Do 1 (Write 1 0 (122 ∷ []))
    ∷ Do 1 (Flush 1)
    ∷ Run 0
    ∷ Do 0 (Read 1 0 9)
    ∷ []
    )

abbrev compaction_journal : List Act
compaction_journal =
    entry 1 0 (Mounted 1)
    ∷ entry 1 0 (Answered (Fine 1 0 0 0))
    ∷ entry 2 1 (Mounted 2)
    ∷ entry 2 1 (Answered (Fine 2 0 0 0))
    ∷ entry 3 0 (Opened 1 2)
    ∷ entry 3 0 (Answered (Fine 1 2 0 0))
    ∷ entry 4 0 (Answered (Fine 1 0 0 0))
    ∷ entry 5 0 Quiet
    ∷ entry 5 0 Quiet
    ∷ entry 5 0 (Commit 2 0 1 0)
    ∷ entry 5 0 (Answered (Fine 0 0 0 0))
    ∷ entry 6 0 (Answered (Fine 1 0 0 0))
    ∷ entry 7 0 Quiet
    ∷ entry 7 0 Quiet
    ∷ entry 7 0 (Commit 2 1 1 0)
    ∷ entry 7 0 (Answered (Fine 0 0 0 0))
    ∷ entry 8 0 (Answered (Fine 1 0 0 0))
    ∷ entry 9 0 Quiet
    ∷ entry 9 0 Quiet
    ∷ entry 9 0 (Commit 2 2 1 0)
    ∷ entry 9 0 (Answered (Fine 0 0 0 0))
    ∷ entry 10 0 (Answered (Fine 1 0 0 0))
    ∷ entry 11 0 Quiet
    ∷ entry 11 0 Quiet
    ∷ entry 11 0 (Commit 2 3 1 0)
    ∷ entry 11 0 (Answered (Fine 0 0 0 0))
    ∷ entry 12 0 (Answered (Fine 1 0 0 0))
    ∷ entry 13 0 Quiet
    ∷ entry 13 0 Quiet
    ∷ entry 13 0 (Commit 2 4 1 0)
    ∷ entry 13 0 (Answered (Fine 0 0 0 0))
    ∷ entry 15 0 (Look 2 0)
    ∷ entry 16 1 (Opened 1 2)
    ∷ entry 16 1 (Answered (Fine 1 2 0 0))
    ∷ entry 17 1 (Answered (Fine 1 0 0 0))
    ∷ entry 18 1 Quiet
    ∷ entry 18 1 Quiet
    ∷ entry 18 1 (Commit 2 0 1 0)
    ∷ entry 18 1 (Answered (Fine 0 0 0 0))
    ∷ entry 19 0 Quiet
    ∷ entry 19 0 Quiet
    ∷ entry 19 0 Quiet
    ∷ entry 19 0 Quiet
    ∷ entry 19 0 Quiet
    ∷ entry 19 0 Quiet
    ∷ entry 19 0 Quiet
    ∷ entry 19 0 (Compacted 2 0 0 5)
    ∷ entry 19 0 (Answered (Fine 5 2 0 0))
    ∷ entry 20 0 (Look 2 0)
    ∷ entry 20 0 Quiet
    ∷ entry 20 0 Quiet
    ∷ entry 20 0 (Answered (Looks 49 0 5))
    ∷ []

compaction_is_legal : Legal compaction_run compaction_journal
unfolding journals_compute
compaction_is_legal = record {
  ends = refl;
  allowed =
      record { line = refl; complete = refl; moment = refl; stands = record { own = refl; behind = refl; may = record { doing = _; busy = refl; begins_is = refl; may = record { ready = refl; transacts = refl; same = refl } } } }
      ∴ record { line = refl; complete = refl; moment = refl; stands = record { own = refl; behind = refl; may = record { doing = _; busy = refl; begins_is = refl; may = Decided _ refl refl } } }
      ∴ record { line = refl; complete = refl; moment = refl; stands = record { own = refl; behind = refl; may = record { doing = _; busy = refl; begins_is = refl; may = record { ready = refl; transacts = refl; same = refl } } } }
      ∴ record { line = refl; complete = refl; moment = refl; stands = record { own = refl; behind = refl; may = record { doing = _; busy = refl; begins_is = refl; may = Decided _ refl refl } } }
      ∴ record { line = refl; complete = refl; moment = refl; stands = record { own = refl; behind = refl; may = record { doing = _; busy = refl; begins_is = refl; may = record { ready = refl; transacts = refl; same = refl } } } }
      ∴ record { line = refl; complete = refl; moment = refl; stands = record { own = refl; behind = refl; may = record { doing = _; busy = refl; begins_is = refl; may = Decided _ refl refl } } }
      ∴ record { line = refl; complete = refl; moment = refl; stands = record { own = refl; behind = refl; may = record { doing = _; busy = refl; begins_is = refl; may = AtOnce (record { ready = refl; first = refl; same = refl }) } } }
      ∴ record { line = refl; complete = refl; moment = refl; stands = record { own = refl; behind = refl; may = record { doing = _; busy = refl; begins_is = refl; may = refl } } }
      ∴ record { line = refl; complete = refl; moment = refl; stands = record { own = refl; behind = refl; may = record { doing = _; busy = refl; begins_is = refl; may = refl } } }
      ∴ record { line = refl; complete = refl; moment = refl; stands = record { own = refl; behind = refl; may = record { doing = _; busy = refl; begins_is = refl; may = record { requests = lit≤ tt; segment = refl; behind = refl; session = refl; file = refl; in_time = lit< tt; room = refl } } } }
      ∴ record { line = refl; complete = refl; moment = refl; stands = record { own = refl; behind = refl; may = record { doing = _; busy = refl; begins_is = refl; may = Decided _ refl refl } } }
      ∴ record { line = refl; complete = refl; moment = refl; stands = record { own = refl; behind = refl; may = record { doing = _; busy = refl; begins_is = refl; may = AtOnce (record { ready = refl; first = refl; same = refl }) } } }
      ∴ record { line = refl; complete = refl; moment = refl; stands = record { own = refl; behind = refl; may = record { doing = _; busy = refl; begins_is = refl; may = refl } } }
      ∴ record { line = refl; complete = refl; moment = refl; stands = record { own = refl; behind = refl; may = record { doing = _; busy = refl; begins_is = refl; may = refl } } }
      ∴ record { line = refl; complete = refl; moment = refl; stands = record { own = refl; behind = refl; may = record { doing = _; busy = refl; begins_is = refl; may = record { requests = lit≤ tt; segment = refl; behind = refl; session = refl; file = refl; in_time = lit< tt; room = refl } } } }
      ∴ record { line = refl; complete = refl; moment = refl; stands = record { own = refl; behind = refl; may = record { doing = _; busy = refl; begins_is = refl; may = Decided _ refl refl } } }
      ∴ record { line = refl; complete = refl; moment = refl; stands = record { own = refl; behind = refl; may = record { doing = _; busy = refl; begins_is = refl; may = AtOnce (record { ready = refl; first = refl; same = refl }) } } }
      ∴ record { line = refl; complete = refl; moment = refl; stands = record { own = refl; behind = refl; may = record { doing = _; busy = refl; begins_is = refl; may = refl } } }
      ∴ record { line = refl; complete = refl; moment = refl; stands = record { own = refl; behind = refl; may = record { doing = _; busy = refl; begins_is = refl; may = refl } } }
      ∴ record { line = refl; complete = refl; moment = refl; stands = record { own = refl; behind = refl; may = record { doing = _; busy = refl; begins_is = refl; may = record { requests = lit≤ tt; segment = refl; behind = refl; session = refl; file = refl; in_time = lit< tt; room = refl } } } }
      ∴ record { line = refl; complete = refl; moment = refl; stands = record { own = refl; behind = refl; may = record { doing = _; busy = refl; begins_is = refl; may = Decided _ refl refl } } }
      ∴ record { line = refl; complete = refl; moment = refl; stands = record { own = refl; behind = refl; may = record { doing = _; busy = refl; begins_is = refl; may = AtOnce (record { ready = refl; first = refl; same = refl }) } } }
      ∴ record { line = refl; complete = refl; moment = refl; stands = record { own = refl; behind = refl; may = record { doing = _; busy = refl; begins_is = refl; may = refl } } }
      ∴ record { line = refl; complete = refl; moment = refl; stands = record { own = refl; behind = refl; may = record { doing = _; busy = refl; begins_is = refl; may = refl } } }
      ∴ record { line = refl; complete = refl; moment = refl; stands = record { own = refl; behind = refl; may = record { doing = _; busy = refl; begins_is = refl; may = record { requests = lit≤ tt; segment = refl; behind = refl; session = refl; file = refl; in_time = lit< tt; room = refl } } } }
      ∴ record { line = refl; complete = refl; moment = refl; stands = record { own = refl; behind = refl; may = record { doing = _; busy = refl; begins_is = refl; may = Decided _ refl refl } } }
      ∴ record { line = refl; complete = refl; moment = refl; stands = record { own = refl; behind = refl; may = record { doing = _; busy = refl; begins_is = refl; may = AtOnce (record { ready = refl; first = refl; same = refl }) } } }
      ∴ record { line = refl; complete = refl; moment = refl; stands = record { own = refl; behind = refl; may = record { doing = _; busy = refl; begins_is = refl; may = refl } } }
      ∴ record { line = refl; complete = refl; moment = refl; stands = record { own = refl; behind = refl; may = record { doing = _; busy = refl; begins_is = refl; may = refl } } }
      ∴ record { line = refl; complete = refl; moment = refl; stands = record { own = refl; behind = refl; may = record { doing = _; busy = refl; begins_is = refl; may = record { requests = lit≤ tt; segment = refl; behind = refl; session = refl; file = refl; in_time = lit< tt; room = refl } } } }
      ∴ record { line = refl; complete = refl; moment = refl; stands = record { own = refl; behind = refl; may = record { doing = _; busy = refl; begins_is = refl; may = Decided _ refl refl } } }
      ∴ record { line = refl; complete = refl; moment = refl; stands = record { own = refl; behind = refl; may = record { doing = _; busy = refl; begins_is = refl; may = First refl refl } } }
      ∴ record { line = refl; complete = refl; moment = refl; stands = record { own = refl; behind = refl; may = record { doing = _; busy = refl; begins_is = refl; may = record { ready = refl; transacts = refl; same = refl } } } }
      ∴ record { line = refl; complete = refl; moment = refl; stands = record { own = refl; behind = refl; may = record { doing = _; busy = refl; begins_is = refl; may = Decided _ refl refl } } }
      ∴ record { line = refl; complete = refl; moment = refl; stands = record { own = refl; behind = refl; may = record { doing = _; busy = refl; begins_is = refl; may = AtOnce (record { ready = refl; first = refl; same = refl }) } } }
      ∴ record { line = refl; complete = refl; moment = refl; stands = record { own = refl; behind = refl; may = record { doing = _; busy = refl; begins_is = refl; may = refl } } }
      ∴ record { line = refl; complete = refl; moment = refl; stands = record { own = refl; behind = refl; may = record { doing = _; busy = refl; begins_is = refl; may = refl } } }
      ∴ record { line = refl; complete = refl; moment = refl; stands = record { own = refl; behind = refl; may = record { doing = _; busy = refl; begins_is = refl; may = record { requests = lit≤ tt; segment = refl; behind = refl; session = refl; file = refl; in_time = lit< tt; room = refl } } } }
      ∴ record { line = refl; complete = refl; moment = refl; stands = record { own = refl; behind = refl; may = record { doing = _; busy = refl; begins_is = refl; may = Decided _ refl refl } } }
      ∴ record { line = refl; complete = refl; moment = refl; stands = record { own = refl; behind = refl; may = record { doing = _; busy = refl; begins_is = refl; may = refl } } }
      ∴ record { line = refl; complete = refl; moment = refl; stands = record { own = refl; behind = refl; may = record { doing = _; busy = refl; begins_is = refl; may = refl } } }
      ∴ record { line = refl; complete = refl; moment = refl; stands = record { own = refl; behind = refl; may = record { doing = _; busy = refl; begins_is = refl; may = refl } } }
      ∴ record { line = refl; complete = refl; moment = refl; stands = record { own = refl; behind = refl; may = record { doing = _; busy = refl; begins_is = refl; may = refl } } }
      ∴ record { line = refl; complete = refl; moment = refl; stands = record { own = refl; behind = refl; may = record { doing = _; busy = refl; begins_is = refl; may = refl } } }
      ∴ record { line = refl; complete = refl; moment = refl; stands = record { own = refl; behind = refl; may = record { doing = _; busy = refl; begins_is = refl; may = refl } } }
      ∴ record { line = refl; complete = refl; moment = refl; stands = record { own = refl; behind = refl; may = record { doing = _; busy = refl; begins_is = refl; may = refl } } }
      ∴ record { line = refl; complete = refl; moment = refl; stands = record { own = refl; behind = refl; may = record { doing = _; busy = refl; begins_is = refl; may = record { k = _; stage = refl; goes_on = refl; own = (refl, refl); rises = lit≤ tt; ends = lit≤ tt; session = refl; there = refl; in_time = refl } } } }
      ∴ record { line = refl; complete = refl; moment = refl; stands = record { own = refl; behind = refl; may = record { doing = _; busy = refl; begins_is = refl; may = HasCompacted (HasReplaced _ 5 2 refl refl (lit≤ tt) refl) } } }
      ∴ record { line = refl; complete = refl; moment = refl; stands = record { own = refl; behind = refl; may = record { doing = _; busy = refl; begins_is = refl; may = record { goes_on = refl; file = (refl, refl); session = refl; there = refl } } } }
      ∴ record { line = refl; complete = refl; moment = refl; stands = record { own = refl; behind = refl; may = record { doing = _; busy = refl; begins_is = refl; may = refl } } }
      ∴ record { line = refl; complete = refl; moment = refl; stands = record { own = refl; behind = refl; may = record { doing = _; busy = refl; begins_is = refl; may = refl } } }
      ∴ record { line = refl; complete = refl; moment = refl; stands = record { own = refl; behind = refl; may = record { doing = _; busy = refl; begins_is = refl; may = ReadsViews (record { goes_on = refl; file = _; opened = refl; first = 49; second = 0; bytes = _; reads = refl; same = refl }) } } }
      ∴ tt;
}

compaction_prints : text_of compaction_run compaction_journal ≡ printed (
    codes "ok 1"
    ∷ codes "ok 2"
    ∷ codes "ok 1 2"
    ∷ codes "ok 1"
    ∷ codes "ok"
    ∷ codes "ok 1"
    ∷ codes "ok"
    ∷ codes "ok 1"
    ∷ codes "ok"
    ∷ codes "ok 1"
    ∷ codes "ok"
    ∷ codes "ok 1"
    ∷ codes "ok"
    ∷ codes "begun"
    ∷ codes "more"
    ∷ codes "ok 1 2"
    ∷ codes "ok 1"
    ∷ codes "ok"
    ∷ codes "ok 5 2"
    ∷ codes "ok 7a62636465"
    ∷ []
    )
unfolding journals_compute replies_on_literals
compaction_prints = refl

-- A compaction gives up where another client cut the file while it went on.
abbrev contended_compaction_run : Setup
contended_compaction_run = run_of (
    Do 0 (Mount false)
    ∷ Do 1 (Mount false)
    ∷ Do 0 (Create (codes "/f") 420)
    ∷ Do 0 (Write 1 0 (97 ∷ []))
    ∷ Do 0 (Flush 1)
    ∷ Do 0 (Write 1 1 (98 ∷ []))
    ∷ Do 0 (Flush 1)
    ∷ Do 0 (Write 1 2 (99 ∷ []))
    ∷ Do 0 (Flush 1)
    ∷ Do 0 (Write 1 3 (100 ∷ []))
    ∷ Do 0 (Flush 1)
    ∷ Do 0 (Write 1 4 (101 ∷ []))
    ∷ Do 0 (Flush 1)
    ∷ Begin 0 (Compact (codes "/f") 0)
    ∷ Step 0
    ∷ Do 1 (Open (codes "/f"))
    ∷ Do 1 (Truncate 1 0)
    ∷ Run 0
    ∷ Do 0 (Read 1 0 9)
    ∷ []
    )

abbrev contended_compaction_journal : List Act
contended_compaction_journal =
    entry 1 0 (Mounted 1)
    ∷ entry 1 0 (Answered (Fine 1 0 0 0))
    ∷ entry 2 1 (Mounted 2)
    ∷ entry 2 1 (Answered (Fine 2 0 0 0))
    ∷ entry 3 0 (Opened 1 2)
    ∷ entry 3 0 (Answered (Fine 1 2 0 0))
    ∷ entry 4 0 (Answered (Fine 1 0 0 0))
    ∷ entry 5 0 Quiet
    ∷ entry 5 0 Quiet
    ∷ entry 5 0 (Commit 2 0 1 0)
    ∷ entry 5 0 (Answered (Fine 0 0 0 0))
    ∷ entry 6 0 (Answered (Fine 1 0 0 0))
    ∷ entry 7 0 Quiet
    ∷ entry 7 0 Quiet
    ∷ entry 7 0 (Commit 2 1 1 0)
    ∷ entry 7 0 (Answered (Fine 0 0 0 0))
    ∷ entry 8 0 (Answered (Fine 1 0 0 0))
    ∷ entry 9 0 Quiet
    ∷ entry 9 0 Quiet
    ∷ entry 9 0 (Commit 2 2 1 0)
    ∷ entry 9 0 (Answered (Fine 0 0 0 0))
    ∷ entry 10 0 (Answered (Fine 1 0 0 0))
    ∷ entry 11 0 Quiet
    ∷ entry 11 0 Quiet
    ∷ entry 11 0 (Commit 2 3 1 0)
    ∷ entry 11 0 (Answered (Fine 0 0 0 0))
    ∷ entry 12 0 (Answered (Fine 1 0 0 0))
    ∷ entry 13 0 Quiet
    ∷ entry 13 0 Quiet
    ∷ entry 13 0 (Commit 2 4 1 0)
    ∷ entry 13 0 (Answered (Fine 0 0 0 0))
    ∷ entry 15 0 (Look 2 0)
    ∷ entry 16 1 (Opened 1 2)
    ∷ entry 16 1 (Answered (Fine 1 2 0 0))
    ∷ entry 17 1 (Truncated 2 0)
    ∷ entry 17 1 (Answered (Fine 0 0 0 0))
    ∷ entry 18 0 Quiet
    ∷ entry 18 0 Quiet
    ∷ entry 18 0 Quiet
    ∷ entry 18 0 Quiet
    ∷ entry 18 0 Quiet
    ∷ entry 18 0 Quiet
    ∷ entry 18 0 Quiet
    ∷ entry 18 0 Quiet
    ∷ entry 18 0 (Answered (ToldRefused (Contended (Lists 5 0))))
    ∷ entry 19 0 (Look 2 0)
    ∷ entry 19 0 (Answered (Looks 46 0 0))
    ∷ []

contended_compaction_is_legal : Legal contended_compaction_run contended_compaction_journal
unfolding journals_compute
contended_compaction_is_legal = record {
  ends = refl;
  allowed =
      record { line = refl; complete = refl; moment = refl; stands = record { own = refl; behind = refl; may = record { doing = _; busy = refl; begins_is = refl; may = record { ready = refl; transacts = refl; same = refl } } } }
      ∴ record { line = refl; complete = refl; moment = refl; stands = record { own = refl; behind = refl; may = record { doing = _; busy = refl; begins_is = refl; may = Decided _ refl refl } } }
      ∴ record { line = refl; complete = refl; moment = refl; stands = record { own = refl; behind = refl; may = record { doing = _; busy = refl; begins_is = refl; may = record { ready = refl; transacts = refl; same = refl } } } }
      ∴ record { line = refl; complete = refl; moment = refl; stands = record { own = refl; behind = refl; may = record { doing = _; busy = refl; begins_is = refl; may = Decided _ refl refl } } }
      ∴ record { line = refl; complete = refl; moment = refl; stands = record { own = refl; behind = refl; may = record { doing = _; busy = refl; begins_is = refl; may = record { ready = refl; transacts = refl; same = refl } } } }
      ∴ record { line = refl; complete = refl; moment = refl; stands = record { own = refl; behind = refl; may = record { doing = _; busy = refl; begins_is = refl; may = Decided _ refl refl } } }
      ∴ record { line = refl; complete = refl; moment = refl; stands = record { own = refl; behind = refl; may = record { doing = _; busy = refl; begins_is = refl; may = AtOnce (record { ready = refl; first = refl; same = refl }) } } }
      ∴ record { line = refl; complete = refl; moment = refl; stands = record { own = refl; behind = refl; may = record { doing = _; busy = refl; begins_is = refl; may = refl } } }
      ∴ record { line = refl; complete = refl; moment = refl; stands = record { own = refl; behind = refl; may = record { doing = _; busy = refl; begins_is = refl; may = refl } } }
      ∴ record { line = refl; complete = refl; moment = refl; stands = record { own = refl; behind = refl; may = record { doing = _; busy = refl; begins_is = refl; may = record { requests = lit≤ tt; segment = refl; behind = refl; session = refl; file = refl; in_time = lit< tt; room = refl } } } }
      ∴ record { line = refl; complete = refl; moment = refl; stands = record { own = refl; behind = refl; may = record { doing = _; busy = refl; begins_is = refl; may = Decided _ refl refl } } }
      ∴ record { line = refl; complete = refl; moment = refl; stands = record { own = refl; behind = refl; may = record { doing = _; busy = refl; begins_is = refl; may = AtOnce (record { ready = refl; first = refl; same = refl }) } } }
      ∴ record { line = refl; complete = refl; moment = refl; stands = record { own = refl; behind = refl; may = record { doing = _; busy = refl; begins_is = refl; may = refl } } }
      ∴ record { line = refl; complete = refl; moment = refl; stands = record { own = refl; behind = refl; may = record { doing = _; busy = refl; begins_is = refl; may = refl } } }
      ∴ record { line = refl; complete = refl; moment = refl; stands = record { own = refl; behind = refl; may = record { doing = _; busy = refl; begins_is = refl; may = record { requests = lit≤ tt; segment = refl; behind = refl; session = refl; file = refl; in_time = lit< tt; room = refl } } } }
      ∴ record { line = refl; complete = refl; moment = refl; stands = record { own = refl; behind = refl; may = record { doing = _; busy = refl; begins_is = refl; may = Decided _ refl refl } } }
      ∴ record { line = refl; complete = refl; moment = refl; stands = record { own = refl; behind = refl; may = record { doing = _; busy = refl; begins_is = refl; may = AtOnce (record { ready = refl; first = refl; same = refl }) } } }
      ∴ record { line = refl; complete = refl; moment = refl; stands = record { own = refl; behind = refl; may = record { doing = _; busy = refl; begins_is = refl; may = refl } } }
      ∴ record { line = refl; complete = refl; moment = refl; stands = record { own = refl; behind = refl; may = record { doing = _; busy = refl; begins_is = refl; may = refl } } }
      ∴ record { line = refl; complete = refl; moment = refl; stands = record { own = refl; behind = refl; may = record { doing = _; busy = refl; begins_is = refl; may = record { requests = lit≤ tt; segment = refl; behind = refl; session = refl; file = refl; in_time = lit< tt; room = refl } } } }
      ∴ record { line = refl; complete = refl; moment = refl; stands = record { own = refl; behind = refl; may = record { doing = _; busy = refl; begins_is = refl; may = Decided _ refl refl } } }
      ∴ record { line = refl; complete = refl; moment = refl; stands = record { own = refl; behind = refl; may = record { doing = _; busy = refl; begins_is = refl; may = AtOnce (record { ready = refl; first = refl; same = refl }) } } }
      ∴ record { line = refl; complete = refl; moment = refl; stands = record { own = refl; behind = refl; may = record { doing = _; busy = refl; begins_is = refl; may = refl } } }
      ∴ record { line = refl; complete = refl; moment = refl; stands = record { own = refl; behind = refl; may = record { doing = _; busy = refl; begins_is = refl; may = refl } } }
      ∴ record { line = refl; complete = refl; moment = refl; stands = record { own = refl; behind = refl; may = record { doing = _; busy = refl; begins_is = refl; may = record { requests = lit≤ tt; segment = refl; behind = refl; session = refl; file = refl; in_time = lit< tt; room = refl } } } }
      ∴ record { line = refl; complete = refl; moment = refl; stands = record { own = refl; behind = refl; may = record { doing = _; busy = refl; begins_is = refl; may = Decided _ refl refl } } }
      ∴ record { line = refl; complete = refl; moment = refl; stands = record { own = refl; behind = refl; may = record { doing = _; busy = refl; begins_is = refl; may = AtOnce (record { ready = refl; first = refl; same = refl }) } } }
      ∴ record { line = refl; complete = refl; moment = refl; stands = record { own = refl; behind = refl; may = record { doing = _; busy = refl; begins_is = refl; may = refl } } }
      ∴ record { line = refl; complete = refl; moment = refl; stands = record { own = refl; behind = refl; may = record { doing = _; busy = refl; begins_is = refl; may = refl } } }
      ∴ record { line = refl; complete = refl; moment = refl; stands = record { own = refl; behind = refl; may = record { doing = _; busy = refl; begins_is = refl; may = record { requests = lit≤ tt; segment = refl; behind = refl; session = refl; file = refl; in_time = lit< tt; room = refl } } } }
      ∴ record { line = refl; complete = refl; moment = refl; stands = record { own = refl; behind = refl; may = record { doing = _; busy = refl; begins_is = refl; may = Decided _ refl refl } } }
      ∴ record { line = refl; complete = refl; moment = refl; stands = record { own = refl; behind = refl; may = record { doing = _; busy = refl; begins_is = refl; may = First refl refl } } }
      ∴ record { line = refl; complete = refl; moment = refl; stands = record { own = refl; behind = refl; may = record { doing = _; busy = refl; begins_is = refl; may = record { ready = refl; transacts = refl; same = refl } } } }
      ∴ record { line = refl; complete = refl; moment = refl; stands = record { own = refl; behind = refl; may = record { doing = _; busy = refl; begins_is = refl; may = Decided _ refl refl } } }
      ∴ record { line = refl; complete = refl; moment = refl; stands = record { own = refl; behind = refl; may = record { doing = _; busy = refl; begins_is = refl; may = record { ready = refl; same = refl } } } }
      ∴ record { line = refl; complete = refl; moment = refl; stands = record { own = refl; behind = refl; may = record { doing = _; busy = refl; begins_is = refl; may = Decided _ refl refl } } }
      ∴ record { line = refl; complete = refl; moment = refl; stands = record { own = refl; behind = refl; may = record { doing = _; busy = refl; begins_is = refl; may = refl } } }
      ∴ record { line = refl; complete = refl; moment = refl; stands = record { own = refl; behind = refl; may = record { doing = _; busy = refl; begins_is = refl; may = refl } } }
      ∴ record { line = refl; complete = refl; moment = refl; stands = record { own = refl; behind = refl; may = record { doing = _; busy = refl; begins_is = refl; may = refl } } }
      ∴ record { line = refl; complete = refl; moment = refl; stands = record { own = refl; behind = refl; may = record { doing = _; busy = refl; begins_is = refl; may = refl } } }
      ∴ record { line = refl; complete = refl; moment = refl; stands = record { own = refl; behind = refl; may = record { doing = _; busy = refl; begins_is = refl; may = refl } } }
      ∴ record { line = refl; complete = refl; moment = refl; stands = record { own = refl; behind = refl; may = record { doing = _; busy = refl; begins_is = refl; may = refl } } }
      ∴ record { line = refl; complete = refl; moment = refl; stands = record { own = refl; behind = refl; may = record { doing = _; busy = refl; begins_is = refl; may = refl } } }
      ∴ record { line = refl; complete = refl; moment = refl; stands = record { own = refl; behind = refl; may = record { doing = _; busy = refl; begins_is = refl; may = refl } } }
      ∴ record { line = refl; complete = refl; moment = refl; stands = record { own = refl; behind = refl; may = record { doing = _; busy = refl; begins_is = refl; may = IsRefusedBy _ refl (AnotherList _ 5 0 refl refl refl refl refl refl refl) refl } } }
      ∴ record { line = refl; complete = refl; moment = refl; stands = record { own = refl; behind = refl; may = record { doing = _; busy = refl; begins_is = refl; may = record { goes_on = refl; file = (refl, refl); session = refl; there = refl } } } }
      ∴ record { line = refl; complete = refl; moment = refl; stands = record { own = refl; behind = refl; may = record { doing = _; busy = refl; begins_is = refl; may = ReadsViews (record { goes_on = refl; file = _; opened = refl; first = 46; second = 0; bytes = _; reads = refl; same = refl }) } } }
      ∴ tt;
}

contended_compaction_prints : text_of contended_compaction_run contended_compaction_journal ≡ printed (
    codes "ok 1"
    ∷ codes "ok 2"
    ∷ codes "ok 1 2"
    ∷ codes "ok 1"
    ∷ codes "ok"
    ∷ codes "ok 1"
    ∷ codes "ok"
    ∷ codes "ok 1"
    ∷ codes "ok"
    ∷ codes "ok 1"
    ∷ codes "ok"
    ∷ codes "ok 1"
    ∷ codes "ok"
    ∷ codes "begun"
    ∷ codes "more"
    ∷ codes "ok 1 2"
    ∷ codes "ok"
    ∷ codes "err EBUSY list 5 0"
    ∷ codes "ok -"
    ∷ []
    )
unfolding journals_compute replies_on_literals
contended_compaction_prints = refl

-- A compaction of the second window of a file: its span is counted from the start of the window.
abbrev later_window_run : Setup
later_window_run = run_of (
    Do 0 (Mount false)
    ∷ Do 0 (Create (codes "/f") 420)
    ∷ Do 0 (Write 1 67108864 (97 ∷ []))
    ∷ Do 0 (Flush 1)
    ∷ Do 0 (Write 1 67108865 (98 ∷ []))
    ∷ Do 0 (Flush 1)
    ∷ Do 0 (Compact (codes "/f") 1)
    ∷ Do 0 (Read 1 67108864 4)
    ∷ []
    )

abbrev later_window_journal : List Act
later_window_journal =
    entry 1 0 (Mounted 1)
    ∷ entry 1 0 (Answered (Fine 1 0 0 0))
    ∷ entry 2 0 (Opened 1 2)
    ∷ entry 2 0 (Answered (Fine 1 2 0 0))
    ∷ entry 3 0 (Answered (Fine 1 0 0 0))
    ∷ entry 4 0 Quiet
    ∷ entry 4 0 Quiet
    ∷ entry 4 0 (Commit 2 67108864 1 0)
    ∷ entry 4 0 (Answered (Fine 0 0 0 0))
    ∷ entry 5 0 (Answered (Fine 1 0 0 0))
    ∷ entry 6 0 Quiet
    ∷ entry 6 0 Quiet
    ∷ entry 6 0 (Commit 2 67108865 1 0)
    ∷ entry 6 0 (Answered (Fine 0 0 0 0))
    ∷ entry 7 0 (Look 2 1)
    ∷ entry 7 0 Quiet
    ∷ entry 7 0 Quiet
    ∷ entry 7 0 Quiet
    ∷ entry 7 0 Quiet
    ∷ entry 7 0 (Compacted 2 1 0 2)
    ∷ entry 7 0 (Answered (Fine 2 1 0 0))
    ∷ entry 8 0 (Look 2 1)
    ∷ entry 8 0 Quiet
    ∷ entry 8 0 (Answered (Looks 22 0 2))
    ∷ []

later_window_is_legal : Legal later_window_run later_window_journal
unfolding journals_compute
later_window_is_legal = record {
  ends = refl;
  allowed =
      record { line = refl; complete = refl; moment = refl; stands = record { own = refl; behind = refl; may = record { doing = _; busy = refl; begins_is = refl; may = record { ready = refl; transacts = refl; same = refl } } } }
      ∴ record { line = refl; complete = refl; moment = refl; stands = record { own = refl; behind = refl; may = record { doing = _; busy = refl; begins_is = refl; may = Decided _ refl refl } } }
      ∴ record { line = refl; complete = refl; moment = refl; stands = record { own = refl; behind = refl; may = record { doing = _; busy = refl; begins_is = refl; may = record { ready = refl; transacts = refl; same = refl } } } }
      ∴ record { line = refl; complete = refl; moment = refl; stands = record { own = refl; behind = refl; may = record { doing = _; busy = refl; begins_is = refl; may = Decided _ refl refl } } }
      ∴ record { line = refl; complete = refl; moment = refl; stands = record { own = refl; behind = refl; may = record { doing = _; busy = refl; begins_is = refl; may = AtOnce (record { ready = refl; first = refl; same = refl }) } } }
      ∴ record { line = refl; complete = refl; moment = refl; stands = record { own = refl; behind = refl; may = record { doing = _; busy = refl; begins_is = refl; may = refl } } }
      ∴ record { line = refl; complete = refl; moment = refl; stands = record { own = refl; behind = refl; may = record { doing = _; busy = refl; begins_is = refl; may = refl } } }
      ∴ record { line = refl; complete = refl; moment = refl; stands = record { own = refl; behind = refl; may = record { doing = _; busy = refl; begins_is = refl; may = record { requests = lit≤ tt; segment = refl; behind = refl; session = refl; file = refl; in_time = lit< tt; room = refl } } } }
      ∴ record { line = refl; complete = refl; moment = refl; stands = record { own = refl; behind = refl; may = record { doing = _; busy = refl; begins_is = refl; may = Decided _ refl refl } } }
      ∴ record { line = refl; complete = refl; moment = refl; stands = record { own = refl; behind = refl; may = record { doing = _; busy = refl; begins_is = refl; may = AtOnce (record { ready = refl; first = refl; same = refl }) } } }
      ∴ record { line = refl; complete = refl; moment = refl; stands = record { own = refl; behind = refl; may = record { doing = _; busy = refl; begins_is = refl; may = refl } } }
      ∴ record { line = refl; complete = refl; moment = refl; stands = record { own = refl; behind = refl; may = record { doing = _; busy = refl; begins_is = refl; may = refl } } }
      ∴ record { line = refl; complete = refl; moment = refl; stands = record { own = refl; behind = refl; may = record { doing = _; busy = refl; begins_is = refl; may = record { requests = lit≤ tt; segment = refl; behind = refl; session = refl; file = refl; in_time = lit< tt; room = refl } } } }
      ∴ record { line = refl; complete = refl; moment = refl; stands = record { own = refl; behind = refl; may = record { doing = _; busy = refl; begins_is = refl; may = Decided _ refl refl } } }
      ∴ record { line = refl; complete = refl; moment = refl; stands = record { own = refl; behind = refl; may = record { doing = _; busy = refl; begins_is = refl; may = First refl refl } } }
      ∴ record { line = refl; complete = refl; moment = refl; stands = record { own = refl; behind = refl; may = record { doing = _; busy = refl; begins_is = refl; may = refl } } }
      ∴ record { line = refl; complete = refl; moment = refl; stands = record { own = refl; behind = refl; may = record { doing = _; busy = refl; begins_is = refl; may = refl } } }
      ∴ record { line = refl; complete = refl; moment = refl; stands = record { own = refl; behind = refl; may = record { doing = _; busy = refl; begins_is = refl; may = refl } } }
      ∴ record { line = refl; complete = refl; moment = refl; stands = record { own = refl; behind = refl; may = record { doing = _; busy = refl; begins_is = refl; may = refl } } }
      ∴ record { line = refl; complete = refl; moment = refl; stands = record { own = refl; behind = refl; may = record { doing = _; busy = refl; begins_is = refl; may = record { k = _; stage = refl; goes_on = refl; own = (refl, refl); rises = lit≤ tt; ends = lit≤ tt; session = refl; there = refl; in_time = refl } } } }
      ∴ record { line = refl; complete = refl; moment = refl; stands = record { own = refl; behind = refl; may = record { doing = _; busy = refl; begins_is = refl; may = HasCompacted (HasReplaced _ 2 1 refl refl (lit≤ tt) refl) } } }
      ∴ record { line = refl; complete = refl; moment = refl; stands = record { own = refl; behind = refl; may = record { doing = _; busy = refl; begins_is = refl; may = record { goes_on = refl; file = (refl, refl); session = refl; there = refl } } } }
      ∴ record { line = refl; complete = refl; moment = refl; stands = record { own = refl; behind = refl; may = record { doing = _; busy = refl; begins_is = refl; may = refl } } }
      ∴ record { line = refl; complete = refl; moment = refl; stands = record { own = refl; behind = refl; may = record { doing = _; busy = refl; begins_is = refl; may = ReadsViews (record { goes_on = refl; file = _; opened = refl; first = 22; second = 0; bytes = _; reads = refl; same = refl }) } } }
      ∴ tt;
}

later_window_prints : text_of later_window_run later_window_journal ≡ printed (
    codes "ok 1"
    ∷ codes "ok 1 2"
    ∷ codes "ok 1"
    ∷ codes "ok"
    ∷ codes "ok 1"
    ∷ codes "ok"
    ∷ codes "ok 2 1"
    ∷ codes "ok 6162"
    ∷ []
    )
unfolding journals_compute replies_on_literals
later_window_prints = refl
