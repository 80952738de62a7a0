-- A whole journal of a client that keeps its blocks and uploads them later, with what it prints.
use Rattle.std.proofs.Common.{◌≡◌, true, false, List, [], ◌∷◌, replicate, refl, codes, lit≤, lit<, ◌||◌, ◌==◌}
use Rattle.jv_model.specs.declared.act.Act.{Act}
use Rattle.jv_model.specs.declared.act.ActKind.TheVariants.{Mounted, Opened, Look, Commit, Settled, Quiet, Miss, Answered}
use Rattle.jv_model.specs.declared.act.Told.TheVariants.{Fine, Looks, Refused as ToldRefused}
use Rattle.jv_model.specs.declared.fault.Fault.TheVariants.{TryAgain, Contended}
use Rattle.jv_model.specs.declared.fault.Busy.TheVariants.{Misses}
use Rattle.jv_model.specs.declared.op.Line.TheVariants.{Do, Drain}
use Rattle.jv_model.specs.declared.op.Op.TheVariants.{Mount, Create, Open, Close, Read, Write, Upload}
use Rattle.jv_model.specs.promise.client.Origins.{ACommit}
use Rattle.jv_model.specs.promise.journal.Steps.{Decided, AtOnce, ReadsViews, HasUploaded, Owes, Sent, FoundNone, BlockOwed, MissedTooOften, InReading, Refuses as IsRefusedBy}
use Rattle.jv_model.specs.promise.journal.Past.{Setup, text_of}
use Rattle.jv_model.specs.promise.journal.Legal.{Legal, Sends, Ends}
use Rattle.jv_model.proofs.ReplyTextExamples.{replies_on_literals}
use Rattle.jv_model_examples.proofs.journals.JournalRuns.{run_of, entry, printed, journals_compute, ◌∴◌}

-- Blocks that a client keeps are missing for others until it uploads them. A journal knows no sizes of blocks: here they
-- are small.
abbrev writeback_run : Setup
writeback_run = run_of (
    Do 0 (Mount true)
    ∷ Do 1 (Mount false)
    ∷ Do 0 (Create (codes "/w") 420)
    ∷ Do 0 (Write 1 0 (replicate 700 97))
    ∷ Do 0 (Close 1)
    ∷ Do 1 (Open (codes "/w"))
    ∷ Do 1 (Read 1 0 4)
    ∷ Do 0 (Open (codes "/w"))
    ∷ Do 0 (Read 1 0 4)
    ∷ Do 0 Upload
    ∷ Do 0 Upload
    ∷ Do 0 Upload
    ∷ Do 1 (Read 1 0 4)
    ∷ []
    )

abbrev writeback_journal : List Act
writeback_journal =
    entry 1 0 (Mounted 1)
    ∷ entry 1 0 (Answered (Fine 1 0 0 0))
    ∷ entry 2 1 (Mounted 2)
    ∷ entry 2 1 (Answered (Fine 2 0 0 0))
    ∷ entry 3 0 (Opened 1 2)
    ∷ entry 3 0 (Answered (Fine 1 2 0 0))
    ∷ entry 4 0 (Answered (Fine 700 0 0 0))
    ∷ entry 5 0 Quiet
    ∷ entry 5 0 Quiet
    ∷ entry 5 0 Quiet
    ∷ entry 5 0 (Commit 2 0 700 2)
    ∷ entry 5 0 (Answered (Fine 0 0 0 0))
    ∷ entry 6 1 (Opened 1 2)
    ∷ entry 6 1 (Answered (Fine 1 2 0 0))
    ∷ entry 7 1 (Look 2 0)
    ∷ entry 7 1 (Miss 2 0)
    ∷ entry 7 1 (Look 2 0)
    ∷ entry 7 1 (Answered (ToldRefused (TryAgain 11)))
    ∷ entry 8 0 (Opened 1 2)
    ∷ entry 8 0 (Answered (Fine 1 2 0 0))
    ∷ entry 9 0 (Look 2 0)
    ∷ entry 9 0 Quiet
    ∷ entry 9 0 (Answered (Looks 21 0 4))
    ∷ entry 10 0 Quiet
    ∷ entry 10 0 (Answered (Fine 1 0 400 1))
    ∷ entry 11 0 (Settled 11)
    ∷ entry 11 0 (Answered (Fine 1 1 300 1))
    ∷ entry 12 0 (Answered (Fine 0 0 0 0))
    ∷ entry 13 1 Quiet
    ∷ entry 13 1 (Answered (Looks 17 0 4))
    ∷ []

writeback_is_legal : Legal writeback_run writeback_journal
unfolding journals_compute
writeback_is_legal = record {
  ends = refl;
  allowed =
      record { line = refl; complete = refl; moment = refl; stands = record { own = refl; behind = refl; may = record { doing = _; busy = refl; begins_is = refl; may = record { ready = refl; transacts = refl; same = refl } } } }
      ∴ record { line = refl; complete = refl; moment = refl; stands = record { own = refl; behind = refl; may = record { doing = _; busy = refl; begins_is = refl; may = Decided _ refl refl } } }
      ∴ record { line = refl; complete = refl; moment = refl; stands = record { own = refl; behind = refl; may = record { doing = _; busy = refl; begins_is = refl; may = record { ready = refl; transacts = refl; same = refl } } } }
      ∴ record { line = refl; complete = refl; moment = refl; stands = record { own = refl; behind = refl; may = record { doing = _; busy = refl; begins_is = refl; may = Decided _ refl refl } } }
      ∴ record { line = refl; complete = refl; moment = refl; stands = record { own = refl; behind = refl; may = record { doing = _; busy = refl; begins_is = refl; may = record { ready = refl; transacts = refl; same = refl } } } }
      ∴ record { line = refl; complete = refl; moment = refl; stands = record { own = refl; behind = refl; may = record { doing = _; busy = refl; begins_is = refl; may = Decided _ refl refl } } }
      ∴ record { line = refl; complete = refl; moment = refl; stands = record { own = refl; behind = refl; may = record { doing = _; busy = refl; begins_is = refl; may = AtOnce (record { ready = refl; first = refl; same = refl }) } } }
      ∴ record { line = refl; complete = refl; moment = refl; stands = record { own = refl; behind = refl; may = record { doing = _; busy = refl; begins_is = refl; may = refl } } }
      ∴ record { line = refl; complete = refl; moment = refl; stands = record { own = refl; behind = refl; may = record { doing = _; busy = refl; begins_is = refl; may = refl } } }
      ∴ record { line = refl; complete = refl; moment = refl; stands = record { own = refl; behind = refl; may = record { doing = _; busy = refl; begins_is = refl; may = refl } } }
      ∴ record { line = refl; complete = refl; moment = refl; stands = record { own = refl; behind = refl; may = record { doing = _; busy = refl; begins_is = refl; may = record { requests = lit≤ tt; segment = refl; behind = refl; session = refl; file = refl; in_time = lit< tt; room = refl } } } }
      ∴ record { line = refl; complete = refl; moment = refl; stands = record { own = refl; behind = refl; may = record { doing = _; busy = refl; begins_is = refl; may = Decided _ refl refl } } }
      ∴ record { line = refl; complete = refl; moment = refl; stands = record { own = refl; behind = refl; may = record { doing = _; busy = refl; begins_is = refl; may = record { ready = refl; transacts = refl; same = refl } } } }
      ∴ record { line = refl; complete = refl; moment = refl; stands = record { own = refl; behind = refl; may = record { doing = _; busy = refl; begins_is = refl; may = Decided _ refl refl } } }
      ∴ record { line = refl; complete = refl; moment = refl; stands = record { own = refl; behind = refl; may = record { doing = _; busy = refl; begins_is = refl; may = record { goes_on = refl; file = (refl, refl); session = refl; there = refl } } } }
      ∴ record { line = refl; complete = refl; moment = refl; stands = record { own = refl; behind = refl; may = record { doing = _; busy = refl; begins_is = refl; may = record { goes_on = refl; file = _; opened = refl; own = refl; asked = _; at = refl; view = _; fresh = refl; gone = Owes 0 (ACommit 11) (lit≤ tt) (lit< tt) refl } } } }
      ∴ record { line = refl; complete = refl; moment = refl; stands = record { own = refl; behind = refl; may = record { doing = _; busy = refl; begins_is = refl; may = record { goes_on = refl; file = (refl, refl); session = refl; there = refl } } } }
      ∴ record { line = refl; complete = refl; moment = refl; stands = record { own = refl; behind = refl; may = record { doing = _; busy = refl; begins_is = refl; may = IsRefusedBy _ refl (BlockOwed 0 (ACommit 11) _ _ _ _ (InReading (record { misses = _; window = _; file = _; asked = _; stage = refl; opened = refl; part = refl; fresh = refl; begins = refl; ends = refl })) (lit≤ tt) (lit< tt) refl refl) refl } } }
      ∴ record { line = refl; complete = refl; moment = refl; stands = record { own = refl; behind = refl; may = record { doing = _; busy = refl; begins_is = refl; may = record { ready = refl; transacts = refl; same = refl } } } }
      ∴ record { line = refl; complete = refl; moment = refl; stands = record { own = refl; behind = refl; may = record { doing = _; busy = refl; begins_is = refl; may = Decided _ refl refl } } }
      ∴ record { line = refl; complete = refl; moment = refl; stands = record { own = refl; behind = refl; may = record { doing = _; busy = refl; begins_is = refl; may = record { goes_on = refl; file = (refl, refl); session = refl; there = refl } } } }
      ∴ record { line = refl; complete = refl; moment = refl; stands = record { own = refl; behind = refl; may = record { doing = _; busy = refl; begins_is = refl; may = refl } } }
      ∴ record { line = refl; complete = refl; moment = refl; stands = record { own = refl; behind = refl; may = record { doing = _; busy = refl; begins_is = refl; may = ReadsViews (record { goes_on = refl; file = _; opened = refl; first = 21; second = 0; bytes = _; reads = refl; same = refl }) } } }
      ∴ record { line = refl; complete = refl; moment = refl; stands = record { own = refl; behind = refl; may = record { doing = _; busy = refl; begins_is = refl; may = refl } } }
      ∴ record { line = refl; complete = refl; moment = refl; stands = record { own = refl; behind = refl; may = record { doing = _; busy = refl; begins_is = refl; may = HasUploaded refl (Sent 1 0 400 refl refl) } } }
      ∴ record { line = refl; complete = refl; moment = refl; stands = record { own = refl; behind = refl; may = record { doing = _; busy = refl; begins_is = refl; may = record { ready = refl; uploads = refl; owed = refl } } } }
      ∴ record { line = refl; complete = refl; moment = refl; stands = record { own = refl; behind = refl; may = record { doing = _; busy = refl; begins_is = refl; may = HasUploaded refl (Sent 1 1 300 refl refl) } } }
      ∴ record { line = refl; complete = refl; moment = refl; stands = record { own = refl; behind = refl; may = record { doing = _; busy = refl; begins_is = refl; may = HasUploaded refl (FoundNone refl refl refl refl) } } }
      ∴ record { line = refl; complete = refl; moment = refl; stands = record { own = refl; behind = refl; may = record { doing = _; busy = refl; begins_is = refl; may = refl } } }
      ∴ record { line = refl; complete = refl; moment = refl; stands = record { own = refl; behind = refl; may = record { doing = _; busy = refl; begins_is = refl; may = ReadsViews (record { goes_on = refl; file = _; opened = refl; first = 17; second = 0; bytes = _; reads = refl; same = refl }) } } }
      ∴ tt;
}

writeback_prints : text_of writeback_run writeback_journal ≡ printed (
    codes "ok 1"
    ∷ codes "ok 2"
    ∷ codes "ok 1 2"
    ∷ codes "ok 700"
    ∷ codes "ok"
    ∷ codes "ok 1 2"
    ∷ codes "err EAGAIN 11"
    ∷ codes "ok 1 2"
    ∷ codes "ok 61x4"
    ∷ codes "ok test/chunks/0/0/1_0_400"
    ∷ codes "ok test/chunks/0/0/1_1_300"
    ∷ codes "ok -"
    ∷ codes "ok 61x4"
    ∷ []
    )
unfolding journals_compute replies_on_literals
writeback_prints = refl

-- Blocks that a client keeps are uploaded by threads, and by a line that waits for them.
abbrev pub drained_run : Setup
drained_run = record (run_of (
    Do 0 (Mount true)
    ∷ Do 1 (Mount false)
    ∷ Do 0 (Create (codes "/w") 420)
    ∷ Do 0 (Write 1 0 (replicate 8 97))
    ∷ Do 0 (Close 1)
    ∷ Drain 0
    ∷ Do 1 (Open (codes "/w"))
    ∷ Do 1 (Read 1 6 9)
    ∷ []
    )) { uploads = 3; by_worker = λ entry. (entry == 15) || (entry == 16) || (entry == 18) || (entry == 25) }

abbrev pub drained_journal : List Act
drained_journal =
    entry 1 0 (Mounted 1)
    ∷ entry 1 0 (Answered (Fine 1 0 0 0))
    ∷ entry 2 1 (Mounted 2)
    ∷ entry 2 1 (Answered (Fine 2 0 0 0))
    ∷ entry 3 0 (Opened 1 2)
    ∷ entry 3 0 (Answered (Fine 1 2 0 0))
    ∷ entry 4 0 (Answered (Fine 8 0 0 0))
    ∷ entry 5 0 Quiet
    ∷ entry 5 0 Quiet
    ∷ entry 5 0 Quiet
    ∷ entry 5 0 Quiet
    ∷ entry 5 0 Quiet
    ∷ entry 5 0 (Commit 2 0 8 4)
    ∷ entry 5 0 (Answered (Fine 0 0 0 0))
    ∷ entry 5 255 Quiet
    ∷ entry 6 255 Quiet
    ∷ entry 6 255 Quiet
    ∷ entry 6 255 (Settled 13)
    ∷ entry 6 255 (Answered (Fine 0 0 0 0))
    ∷ entry 7 1 (Opened 1 2)
    ∷ entry 7 1 (Answered (Fine 1 2 0 0))
    ∷ entry 8 1 (Look 2 0)
    ∷ entry 8 1 Quiet
    ∷ entry 8 1 (Answered (Looks 22 0 2))
    ∷ []

drained_is_legal : Legal drained_run drained_journal
unfolding journals_compute
drained_is_legal = record {
  ends = refl;
  allowed =
      record { line = refl; complete = refl; moment = refl; stands = record { own = refl; behind = refl; may = record { doing = _; busy = refl; begins_is = refl; may = record { ready = refl; transacts = refl; same = refl } } } }
      ∴ record { line = refl; complete = refl; moment = refl; stands = record { own = refl; behind = refl; may = record { doing = _; busy = refl; begins_is = refl; may = Decided _ refl refl } } }
      ∴ record { line = refl; complete = refl; moment = refl; stands = record { own = refl; behind = refl; may = record { doing = _; busy = refl; begins_is = refl; may = record { ready = refl; transacts = refl; same = refl } } } }
      ∴ record { line = refl; complete = refl; moment = refl; stands = record { own = refl; behind = refl; may = record { doing = _; busy = refl; begins_is = refl; may = Decided _ refl refl } } }
      ∴ record { line = refl; complete = refl; moment = refl; stands = record { own = refl; behind = refl; may = record { doing = _; busy = refl; begins_is = refl; may = record { ready = refl; transacts = refl; same = refl } } } }
      ∴ record { line = refl; complete = refl; moment = refl; stands = record { own = refl; behind = refl; may = record { doing = _; busy = refl; begins_is = refl; may = Decided _ refl refl } } }
      ∴ record { line = refl; complete = refl; moment = refl; stands = record { own = refl; behind = refl; may = record { doing = _; busy = refl; begins_is = refl; may = AtOnce (record { ready = refl; first = refl; same = refl }) } } }
      ∴ record { line = refl; complete = refl; moment = refl; stands = record { own = refl; behind = refl; may = record { doing = _; busy = refl; begins_is = refl; may = refl } } }
      ∴ record { line = refl; complete = refl; moment = refl; stands = record { own = refl; behind = refl; may = record { doing = _; busy = refl; begins_is = refl; may = refl } } }
      ∴ record { line = refl; complete = refl; moment = refl; stands = record { own = refl; behind = refl; may = record { doing = _; busy = refl; begins_is = refl; may = refl } } }
      ∴ record { line = refl; complete = refl; moment = refl; stands = record { own = refl; behind = refl; may = record { doing = _; busy = refl; begins_is = refl; may = refl } } }
      ∴ record { line = refl; complete = refl; moment = refl; stands = record { own = refl; behind = refl; may = record { doing = _; busy = refl; begins_is = refl; may = refl } } }
      ∴ record { line = refl; complete = refl; moment = refl; stands = record { own = refl; behind = refl; may = record { doing = _; busy = refl; begins_is = refl; may = record { requests = lit≤ tt; segment = refl; behind = refl; session = refl; file = refl; in_time = lit< tt; room = refl } } } }
      ∴ record { line = refl; complete = refl; moment = refl; stands = record { own = refl; behind = refl; may = record { doing = _; busy = refl; begins_is = refl; may = Decided _ refl refl } } }
      ∴ record { line = refl; complete = refl; moment = (lit≤ tt, lit≤ tt); stands = (refl, refl, tt, refl, refl) }
      ∴ record { line = refl; complete = refl; moment = (lit≤ tt, lit≤ tt); stands = (refl, refl, tt, refl, refl) }
      ∴ record { line = refl; complete = refl; moment = refl; stands = (refl, Sends tt) }
      ∴ record { line = refl; complete = refl; moment = (lit≤ tt, lit≤ tt); stands = (refl, refl, refl, refl, refl) }
      ∴ record { line = refl; complete = refl; moment = refl; stands = (refl, Ends refl refl) }
      ∴ record { line = refl; complete = refl; moment = refl; stands = record { own = refl; behind = refl; may = record { doing = _; busy = refl; begins_is = refl; may = record { ready = refl; transacts = refl; same = refl } } } }
      ∴ record { line = refl; complete = refl; moment = refl; stands = record { own = refl; behind = refl; may = record { doing = _; busy = refl; begins_is = refl; may = Decided _ refl refl } } }
      ∴ record { line = refl; complete = refl; moment = refl; stands = record { own = refl; behind = refl; may = record { doing = _; busy = refl; begins_is = refl; may = record { goes_on = refl; file = (refl, refl); session = refl; there = refl } } } }
      ∴ record { line = refl; complete = refl; moment = refl; stands = record { own = refl; behind = refl; may = record { doing = _; busy = refl; begins_is = refl; may = refl } } }
      ∴ record { line = refl; complete = refl; moment = refl; stands = record { own = refl; behind = refl; may = record { doing = _; busy = refl; begins_is = refl; may = ReadsViews (record { goes_on = refl; file = _; opened = refl; first = 22; second = 0; bytes = _; reads = refl; same = refl }) } } }
      ∴ tt;
}

drained_prints : text_of drained_run drained_journal ≡ printed (
    codes "ok 1"
    ∷ codes "ok 2"
    ∷ codes "ok 1 2"
    ∷ codes "ok 8"
    ∷ codes "ok"
    ∷ codes "ok"
    ∷ codes "ok 1 2"
    ∷ codes "ok 6161"
    ∷ []
    )
unfolding journals_compute replies_on_literals
drained_prints = refl

-- A read gives up where it misses a block for the tenth time.
abbrev pub ten_misses_run : Setup
ten_misses_run = record (run_of (
    Do 0 (Mount false)
    ∷ Do 1 (Mount false)
    ∷ Do 0 (Create (codes "/w") 420)
    ∷ Do 0 (Write 1 0 (replicate 4 97))
    ∷ Do 0 (Close 1)
    ∷ Do 1 (Open (codes "/w"))
    ∷ Do 1 (Read 1 0 4)
    ∷ []
    )) { limits = record { buffer = 33554432; entries = 16; writeback = true } }

abbrev pub ten_misses_journal : List Act
ten_misses_journal =
    entry 1 0 (Mounted 1)
    ∷ entry 1 0 (Answered (Fine 1 0 0 0))
    ∷ entry 2 1 (Mounted 2)
    ∷ entry 2 1 (Answered (Fine 2 0 0 0))
    ∷ entry 3 0 (Opened 1 2)
    ∷ entry 3 0 (Answered (Fine 1 2 0 0))
    ∷ entry 4 0 (Answered (Fine 4 0 0 0))
    ∷ entry 5 0 Quiet
    ∷ entry 5 0 Quiet
    ∷ entry 5 0 (Commit 2 0 4 1)
    ∷ entry 5 0 (Answered (Fine 0 0 0 0))
    ∷ entry 6 1 (Opened 1 2)
    ∷ entry 6 1 (Answered (Fine 1 2 0 0))
    ∷ entry 7 1 (Look 2 0)
    ∷ entry 7 1 (Miss 2 0)
    ∷ entry 7 1 (Look 2 0)
    ∷ entry 7 1 (Miss 2 0)
    ∷ entry 7 1 (Look 2 0)
    ∷ entry 7 1 (Miss 2 0)
    ∷ entry 7 1 (Look 2 0)
    ∷ entry 7 1 (Miss 2 0)
    ∷ entry 7 1 (Look 2 0)
    ∷ entry 7 1 (Miss 2 0)
    ∷ entry 7 1 (Look 2 0)
    ∷ entry 7 1 (Miss 2 0)
    ∷ entry 7 1 (Look 2 0)
    ∷ entry 7 1 (Miss 2 0)
    ∷ entry 7 1 (Look 2 0)
    ∷ entry 7 1 (Miss 2 0)
    ∷ entry 7 1 (Look 2 0)
    ∷ entry 7 1 (Miss 2 0)
    ∷ entry 7 1 (Look 2 0)
    ∷ entry 7 1 (Miss 2 0)
    ∷ entry 7 1 (Look 2 0)
    ∷ entry 7 1 (Answered (ToldRefused (Contended (Misses 10))))
    ∷ []

ten_misses_is_legal : Legal ten_misses_run ten_misses_journal
unfolding journals_compute
ten_misses_is_legal = record {
  ends = refl;
  allowed =
      record { line = refl; complete = refl; moment = refl; stands = record { own = refl; behind = refl; may = record { doing = _; busy = refl; begins_is = refl; may = record { ready = refl; transacts = refl; same = refl } } } }
      ∴ record { line = refl; complete = refl; moment = refl; stands = record { own = refl; behind = refl; may = record { doing = _; busy = refl; begins_is = refl; may = Decided _ refl refl } } }
      ∴ record { line = refl; complete = refl; moment = refl; stands = record { own = refl; behind = refl; may = record { doing = _; busy = refl; begins_is = refl; may = record { ready = refl; transacts = refl; same = refl } } } }
      ∴ record { line = refl; complete = refl; moment = refl; stands = record { own = refl; behind = refl; may = record { doing = _; busy = refl; begins_is = refl; may = Decided _ refl refl } } }
      ∴ record { line = refl; complete = refl; moment = refl; stands = record { own = refl; behind = refl; may = record { doing = _; busy = refl; begins_is = refl; may = record { ready = refl; transacts = refl; same = refl } } } }
      ∴ record { line = refl; complete = refl; moment = refl; stands = record { own = refl; behind = refl; may = record { doing = _; busy = refl; begins_is = refl; may = Decided _ refl refl } } }
      ∴ record { line = refl; complete = refl; moment = refl; stands = record { own = refl; behind = refl; may = record { doing = _; busy = refl; begins_is = refl; may = AtOnce (record { ready = refl; first = refl; same = refl }) } } }
      ∴ record { line = refl; complete = refl; moment = refl; stands = record { own = refl; behind = refl; may = record { doing = _; busy = refl; begins_is = refl; may = refl } } }
      ∴ record { line = refl; complete = refl; moment = refl; stands = record { own = refl; behind = refl; may = record { doing = _; busy = refl; begins_is = refl; may = refl } } }
      ∴ record { line = refl; complete = refl; moment = refl; stands = record { own = refl; behind = refl; may = record { doing = _; busy = refl; begins_is = refl; may = record { requests = lit≤ tt; segment = refl; behind = refl; session = refl; file = refl; in_time = lit< tt; room = refl } } } }
      ∴ record { line = refl; complete = refl; moment = refl; stands = record { own = refl; behind = refl; may = record { doing = _; busy = refl; begins_is = refl; may = Decided _ refl refl } } }
      ∴ record { line = refl; complete = refl; moment = refl; stands = record { own = refl; behind = refl; may = record { doing = _; busy = refl; begins_is = refl; may = record { ready = refl; transacts = refl; same = refl } } } }
      ∴ record { line = refl; complete = refl; moment = refl; stands = record { own = refl; behind = refl; may = record { doing = _; busy = refl; begins_is = refl; may = Decided _ refl refl } } }
      ∴ record { line = refl; complete = refl; moment = refl; stands = record { own = refl; behind = refl; may = record { doing = _; busy = refl; begins_is = refl; may = record { goes_on = refl; file = (refl, refl); session = refl; there = refl } } } }
      ∴ record { line = refl; complete = refl; moment = refl; stands = record { own = refl; behind = refl; may = record { doing = _; busy = refl; begins_is = refl; may = record { goes_on = refl; file = _; opened = refl; own = refl; asked = _; at = refl; view = _; fresh = refl; gone = Owes 0 (ACommit 10) (lit≤ tt) (lit< tt) refl } } } }
      ∴ record { line = refl; complete = refl; moment = refl; stands = record { own = refl; behind = refl; may = record { doing = _; busy = refl; begins_is = refl; may = record { goes_on = refl; file = (refl, refl); session = refl; there = refl } } } }
      ∴ record { line = refl; complete = refl; moment = refl; stands = record { own = refl; behind = refl; may = record { doing = _; busy = refl; begins_is = refl; may = record { goes_on = refl; file = _; opened = refl; own = refl; asked = _; at = refl; view = _; fresh = refl; gone = Owes 0 (ACommit 10) (lit≤ tt) (lit< tt) refl } } } }
      ∴ record { line = refl; complete = refl; moment = refl; stands = record { own = refl; behind = refl; may = record { doing = _; busy = refl; begins_is = refl; may = record { goes_on = refl; file = (refl, refl); session = refl; there = refl } } } }
      ∴ record { line = refl; complete = refl; moment = refl; stands = record { own = refl; behind = refl; may = record { doing = _; busy = refl; begins_is = refl; may = record { goes_on = refl; file = _; opened = refl; own = refl; asked = _; at = refl; view = _; fresh = refl; gone = Owes 0 (ACommit 10) (lit≤ tt) (lit< tt) refl } } } }
      ∴ record { line = refl; complete = refl; moment = refl; stands = record { own = refl; behind = refl; may = record { doing = _; busy = refl; begins_is = refl; may = record { goes_on = refl; file = (refl, refl); session = refl; there = refl } } } }
      ∴ record { line = refl; complete = refl; moment = refl; stands = record { own = refl; behind = refl; may = record { doing = _; busy = refl; begins_is = refl; may = record { goes_on = refl; file = _; opened = refl; own = refl; asked = _; at = refl; view = _; fresh = refl; gone = Owes 0 (ACommit 10) (lit≤ tt) (lit< tt) refl } } } }
      ∴ record { line = refl; complete = refl; moment = refl; stands = record { own = refl; behind = refl; may = record { doing = _; busy = refl; begins_is = refl; may = record { goes_on = refl; file = (refl, refl); session = refl; there = refl } } } }
      ∴ record { line = refl; complete = refl; moment = refl; stands = record { own = refl; behind = refl; may = record { doing = _; busy = refl; begins_is = refl; may = record { goes_on = refl; file = _; opened = refl; own = refl; asked = _; at = refl; view = _; fresh = refl; gone = Owes 0 (ACommit 10) (lit≤ tt) (lit< tt) refl } } } }
      ∴ record { line = refl; complete = refl; moment = refl; stands = record { own = refl; behind = refl; may = record { doing = _; busy = refl; begins_is = refl; may = record { goes_on = refl; file = (refl, refl); session = refl; there = refl } } } }
      ∴ record { line = refl; complete = refl; moment = refl; stands = record { own = refl; behind = refl; may = record { doing = _; busy = refl; begins_is = refl; may = record { goes_on = refl; file = _; opened = refl; own = refl; asked = _; at = refl; view = _; fresh = refl; gone = Owes 0 (ACommit 10) (lit≤ tt) (lit< tt) refl } } } }
      ∴ record { line = refl; complete = refl; moment = refl; stands = record { own = refl; behind = refl; may = record { doing = _; busy = refl; begins_is = refl; may = record { goes_on = refl; file = (refl, refl); session = refl; there = refl } } } }
      ∴ record { line = refl; complete = refl; moment = refl; stands = record { own = refl; behind = refl; may = record { doing = _; busy = refl; begins_is = refl; may = record { goes_on = refl; file = _; opened = refl; own = refl; asked = _; at = refl; view = _; fresh = refl; gone = Owes 0 (ACommit 10) (lit≤ tt) (lit< tt) refl } } } }
      ∴ record { line = refl; complete = refl; moment = refl; stands = record { own = refl; behind = refl; may = record { doing = _; busy = refl; begins_is = refl; may = record { goes_on = refl; file = (refl, refl); session = refl; there = refl } } } }
      ∴ record { line = refl; complete = refl; moment = refl; stands = record { own = refl; behind = refl; may = record { doing = _; busy = refl; begins_is = refl; may = record { goes_on = refl; file = _; opened = refl; own = refl; asked = _; at = refl; view = _; fresh = refl; gone = Owes 0 (ACommit 10) (lit≤ tt) (lit< tt) refl } } } }
      ∴ record { line = refl; complete = refl; moment = refl; stands = record { own = refl; behind = refl; may = record { doing = _; busy = refl; begins_is = refl; may = record { goes_on = refl; file = (refl, refl); session = refl; there = refl } } } }
      ∴ record { line = refl; complete = refl; moment = refl; stands = record { own = refl; behind = refl; may = record { doing = _; busy = refl; begins_is = refl; may = record { goes_on = refl; file = _; opened = refl; own = refl; asked = _; at = refl; view = _; fresh = refl; gone = Owes 0 (ACommit 10) (lit≤ tt) (lit< tt) refl } } } }
      ∴ record { line = refl; complete = refl; moment = refl; stands = record { own = refl; behind = refl; may = record { doing = _; busy = refl; begins_is = refl; may = record { goes_on = refl; file = (refl, refl); session = refl; there = refl } } } }
      ∴ record { line = refl; complete = refl; moment = refl; stands = record { own = refl; behind = refl; may = record { doing = _; busy = refl; begins_is = refl; may = record { goes_on = refl; file = _; opened = refl; own = refl; asked = _; at = refl; view = _; fresh = refl; gone = Owes 0 (ACommit 10) (lit≤ tt) (lit< tt) refl } } } }
      ∴ record { line = refl; complete = refl; moment = refl; stands = record { own = refl; behind = refl; may = record { doing = _; busy = refl; begins_is = refl; may = record { goes_on = refl; file = (refl, refl); session = refl; there = refl } } } }
      ∴ record { line = refl; complete = refl; moment = refl; stands = record { own = refl; behind = refl; may = record { doing = _; busy = refl; begins_is = refl; may = IsRefusedBy _ refl (MissedTooOften _ _ refl refl) refl } } }
      ∴ tt;
}

ten_misses_prints : text_of ten_misses_run ten_misses_journal ≡ printed (
    codes "ok 1"
    ∷ codes "ok 2"
    ∷ codes "ok 1 2"
    ∷ codes "ok 4"
    ∷ codes "ok"
    ∷ codes "ok 1 2"
    ∷ codes "err EBUSY misses 10"
    ∷ []
    )
unfolding journals_compute replies_on_literals
ten_misses_prints = refl
