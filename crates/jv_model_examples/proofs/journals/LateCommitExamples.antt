-- Whole journals of commits that come long after their blocks, with what they print.
use Rattle.std.proofs.Common.{◌≡◌, true, false, List, [], ◌∷◌, refl, codes, lit≤, lit<}
use Rattle.jv_model.specs.declared.act.Act.{Act}
use Rattle.jv_model.specs.declared.act.ActKind.TheVariants.{Mounted, Opened, Look, Commit, Quiet, Ticked, Answered}
use Rattle.jv_model.specs.declared.act.Told.TheVariants.{Fine, Looks, Refused as ToldRefused}
use Rattle.jv_model.specs.declared.fault.Fault.TheVariants.{TimedOut}
use Rattle.jv_model.specs.declared.op.Line.TheVariants.{Do, Begin, Step, Tick}
use Rattle.jv_model.specs.declared.op.Op.TheVariants.{Mount, Create, Flush, Read, Write, Gc}
use Rattle.jv_model.specs.promise.journal.Steps.{Decided, AtOnce, ReadsViews, HasCollected, CommitLate, Refuses as IsRefusedBy}
use Rattle.jv_model.specs.promise.journal.Past.{Setup, text_of}
use Rattle.jv_model.specs.promise.journal.Legal.{Legal}
use Rattle.jv_model.proofs.ReplyTextExamples.{replies_on_literals}
use Rattle.jv_model_examples.proofs.journals.JournalRuns.{run_of, entry, entry_at, printed, journals_compute, ◌∴◌}

-- A commit 3,599 seconds after its block was sent.
abbrev timely_commit_run : Setup
timely_commit_run = run_of (
    Do 0 (Mount false)
    ∷ Do 1 (Mount false)
    ∷ Do 0 (Create (codes "/f") 420)
    ∷ Do 0 (Write 1 0 (120 ∷ []))
    ∷ Begin 0 (Flush 1)
    ∷ Step 0
    ∷ Step 0
    ∷ Tick 3599
    ∷ Do 1 (Gc true)
    ∷ Step 0
    ∷ []
    )

abbrev timely_commit_journal : List Act
timely_commit_journal =
    entry 1 0 (Mounted 1)
    ∷ entry 1 0 (Answered (Fine 1 0 0 0))
    ∷ entry 2 1 (Mounted 2)
    ∷ entry 2 1 (Answered (Fine 2 0 0 0))
    ∷ entry 3 0 (Opened 1 2)
    ∷ entry 3 0 (Answered (Fine 1 2 0 0))
    ∷ entry 4 0 (Answered (Fine 1 0 0 0))
    ∷ entry 6 0 Quiet
    ∷ entry 7 0 Quiet
    ∷ entry_at 4599 8 255 (Ticked 3599)
    ∷ entry_at 4599 9 1 Quiet
    ∷ entry_at 4599 9 1 Quiet
    ∷ entry_at 4599 9 1 (Answered (Fine 0 0 0 0))
    ∷ entry_at 4599 10 0 (Commit 2 0 1 0)
    ∷ entry_at 4599 10 0 (Answered (Fine 0 0 0 0))
    ∷ []

timely_commit_is_legal : Legal timely_commit_run timely_commit_journal
unfolding journals_compute
timely_commit_is_legal = record {
  ends = refl;
  allowed =
      record { line = refl; complete = refl; moment = refl; stands = record { own = refl; behind = refl; may = record { doing = _; busy = refl; begins_is = refl; may = record { ready = refl; transacts = refl; same = refl } } } }
      ∴ record { line = refl; complete = refl; moment = refl; stands = record { own = refl; behind = refl; may = record { doing = _; busy = refl; begins_is = refl; may = Decided _ refl refl } } }
      ∴ record { line = refl; complete = refl; moment = refl; stands = record { own = refl; behind = refl; may = record { doing = _; busy = refl; begins_is = refl; may = record { ready = refl; transacts = refl; same = refl } } } }
      ∴ record { line = refl; complete = refl; moment = refl; stands = record { own = refl; behind = refl; may = record { doing = _; busy = refl; begins_is = refl; may = Decided _ refl refl } } }
      ∴ record { line = refl; complete = refl; moment = refl; stands = record { own = refl; behind = refl; may = record { doing = _; busy = refl; begins_is = refl; may = record { ready = refl; transacts = refl; same = refl } } } }
      ∴ record { line = refl; complete = refl; moment = refl; stands = record { own = refl; behind = refl; may = record { doing = _; busy = refl; begins_is = refl; may = Decided _ refl refl } } }
      ∴ record { line = refl; complete = refl; moment = refl; stands = record { own = refl; behind = refl; may = record { doing = _; busy = refl; begins_is = refl; may = AtOnce (record { ready = refl; first = refl; same = refl }) } } }
      ∴ record { line = refl; complete = refl; moment = refl; stands = record { own = refl; behind = refl; may = record { doing = _; busy = refl; begins_is = refl; may = refl } } }
      ∴ record { line = refl; complete = refl; moment = refl; stands = record { own = refl; behind = refl; may = record { doing = _; busy = refl; begins_is = refl; may = refl } } }
      ∴ record { line = refl; complete = refl; moment = refl; stands = (refl, refl) }
      ∴ record { line = refl; complete = refl; moment = refl; stands = record { own = refl; behind = refl; may = record { doing = _; busy = refl; begins_is = refl; may = refl } } }
      ∴ record { line = refl; complete = refl; moment = refl; stands = record { own = refl; behind = refl; may = record { doing = _; busy = refl; begins_is = refl; may = refl } } }
      ∴ record { line = refl; complete = refl; moment = refl; stands = record { own = refl; behind = refl; may = record { doing = _; busy = refl; begins_is = refl; may = HasCollected 0 0 refl refl } } }
      ∴ record { line = refl; complete = refl; moment = refl; stands = record { own = refl; behind = refl; may = record { doing = _; busy = refl; begins_is = refl; may = record { requests = lit≤ tt; segment = refl; behind = refl; session = refl; file = refl; in_time = lit< tt; room = refl } } } }
      ∴ record { line = refl; complete = refl; moment = refl; stands = record { own = refl; behind = refl; may = record { doing = _; busy = refl; begins_is = refl; may = Decided _ refl refl } } }
      ∴ tt;
}

timely_commit_prints : text_of timely_commit_run timely_commit_journal ≡ printed (
    codes "ok 1"
    ∷ codes "ok 2"
    ∷ codes "ok 1 2"
    ∷ codes "ok 1"
    ∷ codes "begun"
    ∷ codes "more"
    ∷ codes "more"
    ∷ codes "now 4599"
    ∷ codes "ok 0 0"
    ∷ codes "ok"
    ∷ []
    )
unfolding journals_compute replies_on_literals
timely_commit_prints = refl

-- A commit 3,600 seconds after its block was sent comes too late: the block may be gone. Another flush brings it anew.
abbrev late_commit_run : Setup
late_commit_run = run_of (
    Do 0 (Mount false)
    ∷ Do 1 (Mount false)
    ∷ Do 0 (Create (codes "/f") 420)
    ∷ Do 0 (Write 1 0 (120 ∷ []))
    ∷ Begin 0 (Flush 1)
    ∷ Step 0
    ∷ Step 0
    ∷ Tick 3600
    ∷ Do 1 (Gc true)
    ∷ Step 0
    ∷ Do 0 (Flush 1)
    ∷ Do 0 (Read 1 0 4)
    ∷ []
    )

abbrev late_commit_journal : List Act
late_commit_journal =
    entry 1 0 (Mounted 1)
    ∷ entry 1 0 (Answered (Fine 1 0 0 0))
    ∷ entry 2 1 (Mounted 2)
    ∷ entry 2 1 (Answered (Fine 2 0 0 0))
    ∷ entry 3 0 (Opened 1 2)
    ∷ entry 3 0 (Answered (Fine 1 2 0 0))
    ∷ entry 4 0 (Answered (Fine 1 0 0 0))
    ∷ entry 6 0 Quiet
    ∷ entry 7 0 Quiet
    ∷ entry_at 4600 8 255 (Ticked 3600)
    ∷ entry_at 4600 9 1 Quiet
    ∷ entry_at 4600 9 1 Quiet
    ∷ entry_at 4600 9 1 Quiet
    ∷ entry_at 4600 9 1 (Answered (Fine 1 1 0 0))
    ∷ entry_at 4600 10 0 Quiet
    ∷ entry_at 4600 10 0 (Answered (ToldRefused (TimedOut 1000 4600)))
    ∷ entry_at 4600 11 0 Quiet
    ∷ entry_at 4600 11 0 Quiet
    ∷ entry_at 4600 11 0 (Commit 2 0 1 0)
    ∷ entry_at 4600 11 0 (Answered (Fine 0 0 0 0))
    ∷ entry_at 4600 12 0 (Look 2 0)
    ∷ entry_at 4600 12 0 Quiet
    ∷ entry_at 4600 12 0 (Answered (Looks 21 0 1))
    ∷ []

late_commit_is_legal : Legal late_commit_run late_commit_journal
unfolding journals_compute
late_commit_is_legal = record {
  ends = refl;
  allowed =
      record { line = refl; complete = refl; moment = refl; stands = record { own = refl; behind = refl; may = record { doing = _; busy = refl; begins_is = refl; may = record { ready = refl; transacts = refl; same = refl } } } }
      ∴ record { line = refl; complete = refl; moment = refl; stands = record { own = refl; behind = refl; may = record { doing = _; busy = refl; begins_is = refl; may = Decided _ refl refl } } }
      ∴ record { line = refl; complete = refl; moment = refl; stands = record { own = refl; behind = refl; may = record { doing = _; busy = refl; begins_is = refl; may = record { ready = refl; transacts = refl; same = refl } } } }
      ∴ record { line = refl; complete = refl; moment = refl; stands = record { own = refl; behind = refl; may = record { doing = _; busy = refl; begins_is = refl; may = Decided _ refl refl } } }
      ∴ record { line = refl; complete = refl; moment = refl; stands = record { own = refl; behind = refl; may = record { doing = _; busy = refl; begins_is = refl; may = record { ready = refl; transacts = refl; same = refl } } } }
      ∴ record { line = refl; complete = refl; moment = refl; stands = record { own = refl; behind = refl; may = record { doing = _; busy = refl; begins_is = refl; may = Decided _ refl refl } } }
      ∴ record { line = refl; complete = refl; moment = refl; stands = record { own = refl; behind = refl; may = record { doing = _; busy = refl; begins_is = refl; may = AtOnce (record { ready = refl; first = refl; same = refl }) } } }
      ∴ record { line = refl; complete = refl; moment = refl; stands = record { own = refl; behind = refl; may = record { doing = _; busy = refl; begins_is = refl; may = refl } } }
      ∴ record { line = refl; complete = refl; moment = refl; stands = record { own = refl; behind = refl; may = record { doing = _; busy = refl; begins_is = refl; may = refl } } }
      ∴ record { line = refl; complete = refl; moment = refl; stands = (refl, refl) }
      ∴ record { line = refl; complete = refl; moment = refl; stands = record { own = refl; behind = refl; may = record { doing = _; busy = refl; begins_is = refl; may = refl } } }
      ∴ record { line = refl; complete = refl; moment = refl; stands = record { own = refl; behind = refl; may = record { doing = _; busy = refl; begins_is = refl; may = refl } } }
      ∴ record { line = refl; complete = refl; moment = refl; stands = record { own = refl; behind = refl; may = record { doing = _; busy = refl; begins_is = refl; may = refl } } }
      ∴ record { line = refl; complete = refl; moment = refl; stands = record { own = refl; behind = refl; may = record { doing = _; busy = refl; begins_is = refl; may = HasCollected 1 1 refl refl } } }
      ∴ record { line = refl; complete = refl; moment = refl; stands = record { own = refl; behind = refl; may = record { doing = _; busy = refl; begins_is = refl; may = refl } } }
      ∴ record { line = refl; complete = refl; moment = refl; stands = record { own = refl; behind = refl; may = record { doing = _; busy = refl; begins_is = refl; may = IsRefusedBy _ refl (CommitLate _ (record { requests = lit≤ tt; next = refl; session = refl; there = refl }) (lit≤ tt) refl) refl } } }
      ∴ record { line = refl; complete = refl; moment = refl; stands = record { own = refl; behind = refl; may = record { doing = _; busy = refl; begins_is = refl; may = refl } } }
      ∴ record { line = refl; complete = refl; moment = refl; stands = record { own = refl; behind = refl; may = record { doing = _; busy = refl; begins_is = refl; may = refl } } }
      ∴ record { line = refl; complete = refl; moment = refl; stands = record { own = refl; behind = refl; may = record { doing = _; busy = refl; begins_is = refl; may = record { requests = lit≤ tt; segment = refl; behind = refl; session = refl; file = refl; in_time = lit< tt; room = refl } } } }
      ∴ record { line = refl; complete = refl; moment = refl; stands = record { own = refl; behind = refl; may = record { doing = _; busy = refl; begins_is = refl; may = Decided _ refl refl } } }
      ∴ record { line = refl; complete = refl; moment = refl; stands = record { own = refl; behind = refl; may = record { doing = _; busy = refl; begins_is = refl; may = record { goes_on = refl; file = (refl, refl); session = refl; there = refl } } } }
      ∴ record { line = refl; complete = refl; moment = refl; stands = record { own = refl; behind = refl; may = record { doing = _; busy = refl; begins_is = refl; may = refl } } }
      ∴ record { line = refl; complete = refl; moment = refl; stands = record { own = refl; behind = refl; may = record { doing = _; busy = refl; begins_is = refl; may = ReadsViews (record { goes_on = refl; file = _; opened = refl; first = 21; second = 0; bytes = _; reads = refl; same = refl }) } } }
      ∴ tt;
}

late_commit_prints : text_of late_commit_run late_commit_journal ≡ printed (
    codes "ok 1"
    ∷ codes "ok 2"
    ∷ codes "ok 1 2"
    ∷ codes "ok 1"
    ∷ codes "begun"
    ∷ codes "more"
    ∷ codes "more"
    ∷ codes "now 4600"
    ∷ codes "ok 1 1"
    ∷ codes "err ETIMEDOUT 1000 4600"
    ∷ codes "ok"
    ∷ codes "ok 78"
    ∷ []
    )
unfolding journals_compute replies_on_literals
late_commit_prints = refl
