-- Whole journals in which a client crashes, with what they print.
use Rattle.std.proofs.Common.{◌≡◌, false, List, [], ◌∷◌, refl, codes, lit<}
use Rattle.jv_model.specs.declared.act.Act.{Act}
use Rattle.jv_model.specs.declared.act.ActKind.TheVariants.{Mounted, Opened, Look, Expired, Quiet, Crashed, Ticked, Answered}
use Rattle.jv_model.specs.declared.act.Told.TheVariants.{Fine, Looks, Refused as ToldRefused}
use Rattle.jv_model.specs.declared.fault.Fault.TheVariants.{NotConnected, InProgress}
use Rattle.jv_model.specs.declared.op.Line.TheVariants.{Do, Begin, Step, Crash, Tick}
use Rattle.jv_model.specs.declared.op.Op.TheVariants.{Mount, Stat, Create, Open, Flush, Read, Write, Clean}
use Rattle.jv_model.specs.promise.journal.Steps.{Decided, AtOnce, ReadsViews, CleanedUp}
use Rattle.jv_model.specs.promise.journal.Past.{Setup, text_of}
use Rattle.jv_model.specs.promise.journal.Legal.{Legal, Refuses}
use Rattle.jv_model.proofs.ReplyTextExamples.{replies_on_literals}
use Rattle.jv_model_examples.proofs.journals.JournalRuns.{run_of, entry, entry_at, printed, journals_compute, ◌∴◌}

-- A client crashes in the middle of a flush: nothing was committed, and its session is expired once it is due.
abbrev crash_run : Setup
crash_run = run_of (
    Do 0 (Mount false)
    ∷ Do 1 (Mount false)
    ∷ Do 0 (Create (codes "/f") 420)
    ∷ Do 0 (Write 1 0 (120 ∷ []))
    ∷ Begin 0 (Flush 1)
    ∷ Do 0 (Stat (codes "/f"))
    ∷ Step 0
    ∷ Crash 0
    ∷ Step 0
    ∷ Do 0 (Stat (codes "/f"))
    ∷ Do 1 (Open (codes "/f"))
    ∷ Do 1 (Read 1 0 5)
    ∷ Tick 60
    ∷ Do 1 Clean
    ∷ Do 0 (Mount false)
    ∷ []
    )

abbrev crash_journal : List Act
crash_journal =
    entry 1 0 (Mounted 1)
    ∷ entry 1 0 (Answered (Fine 1 0 0 0))
    ∷ entry 2 1 (Mounted 2)
    ∷ entry 2 1 (Answered (Fine 2 0 0 0))
    ∷ entry 3 0 (Opened 1 2)
    ∷ entry 3 0 (Answered (Fine 1 2 0 0))
    ∷ entry 4 0 (Answered (Fine 1 0 0 0))
    ∷ entry 6 0 (Answered (ToldRefused InProgress))
    ∷ entry 7 0 Quiet
    ∷ entry 8 0 Crashed
    ∷ entry 10 0 (Answered (ToldRefused NotConnected))
    ∷ entry 11 1 (Opened 1 2)
    ∷ entry 11 1 (Answered (Fine 1 2 0 0))
    ∷ entry 12 1 (Look 2 0)
    ∷ entry 12 1 (Answered (Looks 14 0 0))
    ∷ entry_at 1060 13 255 (Ticked 60)
    ∷ entry_at 1060 14 1 (Expired 1)
    ∷ entry_at 1060 14 1 Quiet
    ∷ entry_at 1060 14 1 Quiet
    ∷ entry_at 1060 14 1 Quiet
    ∷ entry_at 1060 14 1 Quiet
    ∷ entry_at 1060 14 1 (Answered (Fine 1 0 0 0))
    ∷ entry_at 1060 15 0 (Mounted 3)
    ∷ entry_at 1060 15 0 (Answered (Fine 3 0 0 0))
    ∷ []

crash_is_legal : Legal crash_run crash_journal
unfolding journals_compute
crash_is_legal = record {
  ends = refl;
  allowed =
      record { line = refl; complete = refl; moment = refl; stands = record { own = refl; behind = refl; may = record { doing = _; busy = refl; begins_is = refl; may = record { ready = refl; transacts = refl; same = refl } } } }
      ∴ record { line = refl; complete = refl; moment = refl; stands = record { own = refl; behind = refl; may = record { doing = _; busy = refl; begins_is = refl; may = Decided _ refl refl } } }
      ∴ record { line = refl; complete = refl; moment = refl; stands = record { own = refl; behind = refl; may = record { doing = _; busy = refl; begins_is = refl; may = record { ready = refl; transacts = refl; same = refl } } } }
      ∴ record { line = refl; complete = refl; moment = refl; stands = record { own = refl; behind = refl; may = record { doing = _; busy = refl; begins_is = refl; may = Decided _ refl refl } } }
      ∴ record { line = refl; complete = refl; moment = refl; stands = record { own = refl; behind = refl; may = record { doing = _; busy = refl; begins_is = refl; may = record { ready = refl; transacts = refl; same = refl } } } }
      ∴ record { line = refl; complete = refl; moment = refl; stands = record { own = refl; behind = refl; may = record { doing = _; busy = refl; begins_is = refl; may = Decided _ refl refl } } }
      ∴ record { line = refl; complete = refl; moment = refl; stands = record { own = refl; behind = refl; may = record { doing = _; busy = refl; begins_is = refl; may = AtOnce (record { ready = refl; first = refl; same = refl }) } } }
      ∴ record { line = refl; complete = refl; moment = refl; stands = (refl, Refuses refl) }
      ∴ record { line = refl; complete = refl; moment = refl; stands = record { own = refl; behind = refl; may = record { doing = _; busy = refl; begins_is = refl; may = refl } } }
      ∴ record { line = refl; complete = refl; moment = refl; stands = (refl, refl) }
      ∴ record { line = refl; complete = refl; moment = refl; stands = (refl, Refuses refl) }
      ∴ record { line = refl; complete = refl; moment = refl; stands = record { own = refl; behind = refl; may = record { doing = _; busy = refl; begins_is = refl; may = record { ready = refl; transacts = refl; same = refl } } } }
      ∴ record { line = refl; complete = refl; moment = refl; stands = record { own = refl; behind = refl; may = record { doing = _; busy = refl; begins_is = refl; may = Decided _ refl refl } } }
      ∴ record { line = refl; complete = refl; moment = refl; stands = record { own = refl; behind = refl; may = record { doing = _; busy = refl; begins_is = refl; may = record { goes_on = refl; file = (refl, refl); session = refl; there = refl } } } }
      ∴ record { line = refl; complete = refl; moment = refl; stands = record { own = refl; behind = refl; may = record { doing = _; busy = refl; begins_is = refl; may = ReadsViews (record { goes_on = refl; file = _; opened = refl; first = 14; second = 0; bytes = _; reads = refl; same = refl }) } } }
      ∴ record { line = refl; complete = refl; moment = refl; stands = (refl, refl) }
      ∴ record { line = refl; complete = refl; moment = refl; stands = record { own = refl; behind = refl; may = record { doing = _; busy = refl; begins_is = refl; may = (record { k = _; stage = refl; at = refl; few = lit< tt; session = refl }, refl) } } }
      ∴ record { line = refl; complete = refl; moment = refl; stands = record { own = refl; behind = refl; may = record { doing = _; busy = refl; begins_is = refl; may = refl } } }
      ∴ record { line = refl; complete = refl; moment = refl; stands = record { own = refl; behind = refl; may = record { doing = _; busy = refl; begins_is = refl; may = refl } } }
      ∴ record { line = refl; complete = refl; moment = refl; stands = record { own = refl; behind = refl; may = record { doing = _; busy = refl; begins_is = refl; may = refl } } }
      ∴ record { line = refl; complete = refl; moment = refl; stands = record { own = refl; behind = refl; may = record { doing = _; busy = refl; begins_is = refl; may = refl } } }
      ∴ record { line = refl; complete = refl; moment = refl; stands = record { own = refl; behind = refl; may = record { doing = _; busy = refl; begins_is = refl; may = CleanedUp (record { k = _; stage = refl; session = refl; over = refl; same = refl }) } } }
      ∴ record { line = refl; complete = refl; moment = refl; stands = record { own = refl; behind = refl; may = record { doing = _; busy = refl; begins_is = refl; may = record { ready = refl; transacts = refl; same = refl } } } }
      ∴ record { line = refl; complete = refl; moment = refl; stands = record { own = refl; behind = refl; may = record { doing = _; busy = refl; begins_is = refl; may = Decided _ refl refl } } }
      ∴ tt;
}

crash_prints : text_of crash_run crash_journal ≡ printed (
    codes "ok 1"
    ∷ codes "ok 2"
    ∷ codes "ok 1 2"
    ∷ codes "ok 1"
    ∷ codes "begun"
    ∷ codes "err EALREADY"
    ∷ codes "more"
    ∷ codes "crashed"
    ∷ codes "idle"
    ∷ codes "err ENOTCONN"
    ∷ codes "ok 1 2"
    ∷ codes "ok -"
    ∷ codes "now 1060"
    ∷ codes "ok 1 0 0 0"
    ∷ codes "ok 3"
    ∷ []
    )
unfolding journals_compute replies_on_literals
crash_prints = refl
