-- Whole journals in which something is cleaned up, with what they print.
use Rattle.std.proofs.Common.{◌≡◌, true, false, List, [], ◌∷◌, ◌++◌, replicate, refl, codes, lit≤, lit<}
use Rattle.jv_model.specs.declared.act.Act.{Act}
use Rattle.jv_model.specs.declared.act.ActKind.TheVariants.{Mounted, Meta, Opened, Look, Commit, Copied, Compacted, Expired, Purged, Cleaned, Quiet, Miss, Ticked, Answered}
use Rattle.jv_model.specs.declared.act.Told.TheVariants.{Fine, Looks, Refused as ToldRefused}
use Rattle.jv_model.specs.declared.fault.Fault.TheVariants.{NotFound, NotPermitted, Stale, NotConnected}
use Rattle.jv_model.specs.declared.fault.Gone.TheVariants.{Session, Node}
use Rattle.jv_model.specs.declared.basics.How.TheVariants.{Plain}
use Rattle.jv_model.specs.declared.op.Line.TheVariants.{Do, Begin, Step, Run, Tick}
use Rattle.jv_model.specs.declared.op.Op.TheVariants.{Mount, Lookup, Stat, Mkdir, Create, Open, Close, Flush, Read, Write, Copy, Readdir, Unlink, Rename, Compact, Clean, Gc}
use Rattle.jv_model.specs.declared.setting.Setting.{Setting}
use Rattle.jv_model.specs.promise.journal.Steps.{Decided, OfOneBlock, OfBlocks, AtOnce, ReadsViews, CleanedUp, HasCompacted, HasCollected, First, MayBeCleaned, HasReplaced, SessionGone, Refuses as IsRefusedBy}
use Rattle.jv_model.specs.promise.journal.Past.{Setup, text_of}
use Rattle.jv_model.specs.promise.journal.Legal.{Legal, Refuses}
use Rattle.jv_model.proofs.ReplyTextExamples.{replies_on_literals}
use Rattle.jv_model_examples.proofs.journals.JournalRuns.{run_of, run_on, entry, entry_at, printed, journals_compute, ◌∴◌}
use Rattle.jv_model_examples.proofs.trees.TreeRuns.{plain_setting}

-- a volume that keeps what is removed for a day
abbrev trash_setting : Setting
trash_setting = record plain_setting { trash_days = 1 }

-- A block is missing for a reader after another client compacted its file and cleaned up: it reads the window anew.
abbrev cleaned_block_run : Setup
cleaned_block_run = run_of (
    Do 0 (Mount false)
    ∷ Do 1 (Mount false)
    ∷ Do 0 (Create (codes "/f") 420)
    ∷ Do 0 (Write 1 0 (replicate 5 97 ++ replicate 5 98))
    ∷ Do 0 (Flush 1)
    ∷ Do 0 (Write 1 10 (99 ∷ []))
    ∷ Do 0 (Flush 1)
    ∷ Do 1 (Open (codes "/f"))
    ∷ Begin 1 (Read 1 0 11)
    ∷ Step 1
    ∷ Step 1
    ∷ Do 0 (Compact (codes "/f") 0)
    ∷ Do 0 Clean
    ∷ Step 1
    ∷ Run 1
    ∷ []
    )

abbrev cleaned_block_journal : List Act
cleaned_block_journal =
    entry 1 0 (Mounted 1)
    ∷ entry 1 0 (Answered (Fine 1 0 0 0))
    ∷ entry 2 1 (Mounted 2)
    ∷ entry 2 1 (Answered (Fine 2 0 0 0))
    ∷ entry 3 0 (Opened 1 2)
    ∷ entry 3 0 (Answered (Fine 1 2 0 0))
    ∷ entry 4 0 (Answered (Fine 10 0 0 0))
    ∷ entry 5 0 Quiet
    ∷ entry 5 0 Quiet
    ∷ entry 5 0 Quiet
    ∷ entry 5 0 (Commit 2 0 10 0)
    ∷ entry 5 0 (Answered (Fine 0 0 0 0))
    ∷ entry 6 0 (Answered (Fine 1 0 0 0))
    ∷ entry 7 0 Quiet
    ∷ entry 7 0 Quiet
    ∷ entry 7 0 (Commit 2 10 1 0)
    ∷ entry 7 0 (Answered (Fine 0 0 0 0))
    ∷ entry 8 1 (Opened 1 2)
    ∷ entry 8 1 (Answered (Fine 1 2 0 0))
    ∷ entry 10 1 (Look 2 0)
    ∷ entry 11 1 Quiet
    ∷ entry 12 0 (Look 2 0)
    ∷ entry 12 0 Quiet
    ∷ entry 12 0 Quiet
    ∷ entry 12 0 Quiet
    ∷ entry 12 0 Quiet
    ∷ entry 12 0 Quiet
    ∷ entry 12 0 Quiet
    ∷ entry 12 0 Quiet
    ∷ entry 12 0 (Compacted 2 0 0 11)
    ∷ entry 12 0 (Answered (Fine 2 1 0 0))
    ∷ entry 13 0 Quiet
    ∷ entry 13 0 Quiet
    ∷ entry 13 0 Quiet
    ∷ entry 13 0 Quiet
    ∷ entry 13 0 Quiet
    ∷ entry 13 0 Quiet
    ∷ entry 13 0 (Cleaned 9 1)
    ∷ entry 13 0 Quiet
    ∷ entry 13 0 Quiet
    ∷ entry 13 0 (Cleaned 9 2)
    ∷ entry 13 0 Quiet
    ∷ entry 13 0 (Answered (Fine 0 0 0 2))
    ∷ entry 14 1 (Miss 2 0)
    ∷ entry 15 1 (Look 2 0)
    ∷ entry 15 1 Quiet
    ∷ entry 15 1 Quiet
    ∷ entry 15 1 Quiet
    ∷ entry 15 1 (Answered (Looks 45 0 11))
    ∷ []

cleaned_block_is_legal : Legal cleaned_block_run cleaned_block_journal
unfolding journals_compute
cleaned_block_is_legal = record {
  ends = refl;
  allowed =
      record { line = refl; complete = refl; moment = refl; stands = record { own = refl; behind = refl; may = record { doing = _; busy = refl; begins_is = refl; may = record { ready = refl; transacts = refl; same = refl } } } }
      ∴ record { line = refl; complete = refl; moment = refl; stands = record { own = refl; behind = refl; may = record { doing = _; busy = refl; begins_is = refl; may = Decided _ refl refl } } }
      ∴ record { line = refl; complete = refl; moment = refl; stands = record { own = refl; behind = refl; may = record { doing = _; busy = refl; begins_is = refl; may = record { ready = refl; transacts = refl; same = refl } } } }
      ∴ record { line = refl; complete = refl; moment = refl; stands = record { own = refl; behind = refl; may = record { doing = _; busy = refl; begins_is = refl; may = Decided _ refl refl } } }
      ∴ record { line = refl; complete = refl; moment = refl; stands = record { own = refl; behind = refl; may = record { doing = _; busy = refl; begins_is = refl; may = record { ready = refl; transacts = refl; same = refl } } } }
      ∴ record { line = refl; complete = refl; moment = refl; stands = record { own = refl; behind = refl; may = record { doing = _; busy = refl; begins_is = refl; may = Decided _ refl refl } } }
      ∴ record { line = refl; complete = refl; moment = refl; stands = record { own = refl; behind = refl; may = record { doing = _; busy = refl; begins_is = refl; may = AtOnce (record { ready = refl; first = refl; same = refl }) } } }
      ∴ record { line = refl; complete = refl; moment = refl; stands = record { own = refl; behind = refl; may = record { doing = _; busy = refl; begins_is = refl; may = refl } } }
      ∴ record { line = refl; complete = refl; moment = refl; stands = record { own = refl; behind = refl; may = record { doing = _; busy = refl; begins_is = refl; may = refl } } }
      ∴ record { line = refl; complete = refl; moment = refl; stands = record { own = refl; behind = refl; may = record { doing = _; busy = refl; begins_is = refl; may = refl } } }
      ∴ record { line = refl; complete = refl; moment = refl; stands = record { own = refl; behind = refl; may = record { doing = _; busy = refl; begins_is = refl; may = record { requests = lit≤ tt; segment = refl; behind = refl; session = refl; file = refl; in_time = lit< tt; room = refl } } } }
      ∴ record { line = refl; complete = refl; moment = refl; stands = record { own = refl; behind = refl; may = record { doing = _; busy = refl; begins_is = refl; may = Decided _ refl refl } } }
      ∴ record { line = refl; complete = refl; moment = refl; stands = record { own = refl; behind = refl; may = record { doing = _; busy = refl; begins_is = refl; may = AtOnce (record { ready = refl; first = refl; same = refl }) } } }
      ∴ record { line = refl; complete = refl; moment = refl; stands = record { own = refl; behind = refl; may = record { doing = _; busy = refl; begins_is = refl; may = refl } } }
      ∴ record { line = refl; complete = refl; moment = refl; stands = record { own = refl; behind = refl; may = record { doing = _; busy = refl; begins_is = refl; may = refl } } }
      ∴ record { line = refl; complete = refl; moment = refl; stands = record { own = refl; behind = refl; may = record { doing = _; busy = refl; begins_is = refl; may = record { requests = lit≤ tt; segment = refl; behind = refl; session = refl; file = refl; in_time = lit< tt; room = refl } } } }
      ∴ record { line = refl; complete = refl; moment = refl; stands = record { own = refl; behind = refl; may = record { doing = _; busy = refl; begins_is = refl; may = Decided _ refl refl } } }
      ∴ record { line = refl; complete = refl; moment = refl; stands = record { own = refl; behind = refl; may = record { doing = _; busy = refl; begins_is = refl; may = record { ready = refl; transacts = refl; same = refl } } } }
      ∴ record { line = refl; complete = refl; moment = refl; stands = record { own = refl; behind = refl; may = record { doing = _; busy = refl; begins_is = refl; may = Decided _ refl refl } } }
      ∴ record { line = refl; complete = refl; moment = refl; stands = record { own = refl; behind = refl; may = record { doing = _; busy = refl; begins_is = refl; may = record { goes_on = refl; file = (refl, refl); session = refl; there = refl } } } }
      ∴ record { line = refl; complete = refl; moment = refl; stands = record { own = refl; behind = refl; may = record { doing = _; busy = refl; begins_is = refl; may = refl } } }
      ∴ record { line = refl; complete = refl; moment = refl; stands = record { own = refl; behind = refl; may = record { doing = _; busy = refl; begins_is = refl; may = First refl refl } } }
      ∴ record { line = refl; complete = refl; moment = refl; stands = record { own = refl; behind = refl; may = record { doing = _; busy = refl; begins_is = refl; may = refl } } }
      ∴ record { line = refl; complete = refl; moment = refl; stands = record { own = refl; behind = refl; may = record { doing = _; busy = refl; begins_is = refl; may = refl } } }
      ∴ record { line = refl; complete = refl; moment = refl; stands = record { own = refl; behind = refl; may = record { doing = _; busy = refl; begins_is = refl; may = refl } } }
      ∴ record { line = refl; complete = refl; moment = refl; stands = record { own = refl; behind = refl; may = record { doing = _; busy = refl; begins_is = refl; may = refl } } }
      ∴ record { line = refl; complete = refl; moment = refl; stands = record { own = refl; behind = refl; may = record { doing = _; busy = refl; begins_is = refl; may = refl } } }
      ∴ record { line = refl; complete = refl; moment = refl; stands = record { own = refl; behind = refl; may = record { doing = _; busy = refl; begins_is = refl; may = refl } } }
      ∴ record { line = refl; complete = refl; moment = refl; stands = record { own = refl; behind = refl; may = record { doing = _; busy = refl; begins_is = refl; may = refl } } }
      ∴ record { line = refl; complete = refl; moment = refl; stands = record { own = refl; behind = refl; may = record { doing = _; busy = refl; begins_is = refl; may = record { k = _; stage = refl; goes_on = refl; own = (refl, refl); rises = lit≤ tt; ends = lit≤ tt; session = refl; there = refl; in_time = refl } } } }
      ∴ record { line = refl; complete = refl; moment = refl; stands = record { own = refl; behind = refl; may = record { doing = _; busy = refl; begins_is = refl; may = HasCompacted (HasReplaced _ 2 1 refl refl (lit≤ tt) refl) } } }
      ∴ record { line = refl; complete = refl; moment = refl; stands = record { own = refl; behind = refl; may = record { doing = _; busy = refl; begins_is = refl; may = refl } } }
      ∴ record { line = refl; complete = refl; moment = refl; stands = record { own = refl; behind = refl; may = record { doing = _; busy = refl; begins_is = refl; may = refl } } }
      ∴ record { line = refl; complete = refl; moment = refl; stands = record { own = refl; behind = refl; may = record { doing = _; busy = refl; begins_is = refl; may = refl } } }
      ∴ record { line = refl; complete = refl; moment = refl; stands = record { own = refl; behind = refl; may = record { doing = _; busy = refl; begins_is = refl; may = refl } } }
      ∴ record { line = refl; complete = refl; moment = refl; stands = record { own = refl; behind = refl; may = record { doing = _; busy = refl; begins_is = refl; may = refl } } }
      ∴ record { line = refl; complete = refl; moment = refl; stands = record { own = refl; behind = refl; may = record { doing = _; busy = refl; begins_is = refl; may = refl } } }
      ∴ record { line = refl; complete = refl; moment = refl; stands = record { own = refl; behind = refl; may = record { doing = _; busy = refl; begins_is = refl; may = (refl, OfBlocks (record { k = _; stage = refl; at = refl; few = lit< tt; session = refl })) } } }
      ∴ record { line = refl; complete = refl; moment = refl; stands = record { own = refl; behind = refl; may = record { doing = _; busy = refl; begins_is = refl; may = refl } } }
      ∴ record { line = refl; complete = refl; moment = refl; stands = record { own = refl; behind = refl; may = record { doing = _; busy = refl; begins_is = refl; may = refl } } }
      ∴ record { line = refl; complete = refl; moment = refl; stands = record { own = refl; behind = refl; may = record { doing = _; busy = refl; begins_is = refl; may = (refl, OfOneBlock (record { k = _; stage = refl; at = refl; few = lit< tt; session = refl })) } } }
      ∴ record { line = refl; complete = refl; moment = refl; stands = record { own = refl; behind = refl; may = record { doing = _; busy = refl; begins_is = refl; may = refl } } }
      ∴ record { line = refl; complete = refl; moment = refl; stands = record { own = refl; behind = refl; may = record { doing = _; busy = refl; begins_is = refl; may = CleanedUp (record { k = _; stage = refl; session = refl; over = refl; same = refl }) } } }
      ∴ record { line = refl; complete = refl; moment = refl; stands = record { own = refl; behind = refl; may = record { doing = _; busy = refl; begins_is = refl; may = record { goes_on = refl; file = _; opened = refl; own = refl; asked = _; at = refl; view = _; fresh = refl; gone = MayBeCleaned refl } } } }
      ∴ record { line = refl; complete = refl; moment = refl; stands = record { own = refl; behind = refl; may = record { doing = _; busy = refl; begins_is = refl; may = record { goes_on = refl; file = (refl, refl); session = refl; there = refl } } } }
      ∴ record { line = refl; complete = refl; moment = refl; stands = record { own = refl; behind = refl; may = record { doing = _; busy = refl; begins_is = refl; may = refl } } }
      ∴ record { line = refl; complete = refl; moment = refl; stands = record { own = refl; behind = refl; may = record { doing = _; busy = refl; begins_is = refl; may = refl } } }
      ∴ record { line = refl; complete = refl; moment = refl; stands = record { own = refl; behind = refl; may = record { doing = _; busy = refl; begins_is = refl; may = refl } } }
      ∴ record { line = refl; complete = refl; moment = refl; stands = record { own = refl; behind = refl; may = record { doing = _; busy = refl; begins_is = refl; may = ReadsViews (record { goes_on = refl; file = _; opened = refl; first = 45; second = 0; bytes = _; reads = refl; same = refl }) } } }
      ∴ tt;
}

cleaned_block_prints : text_of cleaned_block_run cleaned_block_journal ≡ printed (
    codes "ok 1"
    ∷ codes "ok 2"
    ∷ codes "ok 1 2"
    ∷ codes "ok 10"
    ∷ codes "ok"
    ∷ codes "ok 1"
    ∷ codes "ok"
    ∷ codes "ok 1 2"
    ∷ codes "begun"
    ∷ codes "more"
    ∷ codes "more"
    ∷ codes "ok 2 1"
    ∷ codes "ok 0 0 0 2"
    ∷ codes "more"
    ∷ codes "ok 61x5+62x5+63"
    ∷ []
    )
unfolding journals_compute replies_on_literals
cleaned_block_prints = refl

-- A file without a name stays for the client that removed it while it had it open; one that another client removed is gone.
abbrev sustained_run : Setup
sustained_run = run_of (
    Do 0 (Mount false)
    ∷ Do 1 (Mount false)
    ∷ Do 0 (Create (codes "/f") 420)
    ∷ Do 0 (Write 1 0 (104 ∷ 105 ∷ []))
    ∷ Do 0 (Flush 1)
    ∷ Do 0 (Unlink (codes "/f"))
    ∷ Do 0 (Stat (codes "/f"))
    ∷ Do 0 (Read 1 0 9)
    ∷ Do 0 (Close 1)
    ∷ Do 0 (Create (codes "/g") 420)
    ∷ Do 0 (Write 1 0 (106 ∷ []))
    ∷ Do 0 (Flush 1)
    ∷ Do 1 (Unlink (codes "/g"))
    ∷ Do 0 (Read 1 0 9)
    ∷ Do 0 (Close 1)
    ∷ Do 1 Clean
    ∷ []
    )

abbrev sustained_journal : List Act
sustained_journal =
    entry 1 0 (Mounted 1)
    ∷ entry 1 0 (Answered (Fine 1 0 0 0))
    ∷ entry 2 1 (Mounted 2)
    ∷ entry 2 1 (Answered (Fine 2 0 0 0))
    ∷ entry 3 0 (Opened 1 2)
    ∷ entry 3 0 (Answered (Fine 1 2 0 0))
    ∷ entry 4 0 (Answered (Fine 2 0 0 0))
    ∷ entry 5 0 Quiet
    ∷ entry 5 0 Quiet
    ∷ entry 5 0 (Commit 2 0 2 0)
    ∷ entry 5 0 (Answered (Fine 0 0 0 0))
    ∷ entry 6 0 Meta
    ∷ entry 6 0 (Answered (Fine 0 0 0 0))
    ∷ entry 7 0 Meta
    ∷ entry 7 0 (Answered (ToldRefused NotFound))
    ∷ entry 8 0 (Look 2 0)
    ∷ entry 8 0 Quiet
    ∷ entry 8 0 (Answered (Looks 16 0 2))
    ∷ entry 9 0 Meta
    ∷ entry 9 0 (Answered (Fine 0 0 0 0))
    ∷ entry 10 0 (Opened 1 3)
    ∷ entry 10 0 (Answered (Fine 1 3 0 0))
    ∷ entry 11 0 (Answered (Fine 1 0 0 0))
    ∷ entry 12 0 Quiet
    ∷ entry 12 0 Quiet
    ∷ entry 12 0 (Commit 3 0 1 0)
    ∷ entry 12 0 (Answered (Fine 0 0 0 0))
    ∷ entry 13 1 Meta
    ∷ entry 13 1 (Answered (Fine 0 0 0 0))
    ∷ entry 14 0 Quiet
    ∷ entry 14 0 (Answered (ToldRefused (Stale (Node 3))))
    ∷ entry 15 0 (Answered (Fine 0 0 0 0))
    ∷ entry 16 1 Quiet
    ∷ entry 16 1 Quiet
    ∷ entry 16 1 (Cleaned 8 2)
    ∷ entry 16 1 (Cleaned 8 3)
    ∷ entry 16 1 Quiet
    ∷ entry 16 1 Quiet
    ∷ entry 16 1 Quiet
    ∷ entry 16 1 (Cleaned 9 1)
    ∷ entry 16 1 Quiet
    ∷ entry 16 1 Quiet
    ∷ entry 16 1 (Cleaned 9 2)
    ∷ entry 16 1 Quiet
    ∷ entry 16 1 (Answered (Fine 0 0 2 2))
    ∷ []

sustained_is_legal : Legal sustained_run sustained_journal
unfolding journals_compute
sustained_is_legal = record {
  ends = refl;
  allowed =
      record { line = refl; complete = refl; moment = refl; stands = record { own = refl; behind = refl; may = record { doing = _; busy = refl; begins_is = refl; may = record { ready = refl; transacts = refl; same = refl } } } }
      ∴ record { line = refl; complete = refl; moment = refl; stands = record { own = refl; behind = refl; may = record { doing = _; busy = refl; begins_is = refl; may = Decided _ refl refl } } }
      ∴ record { line = refl; complete = refl; moment = refl; stands = record { own = refl; behind = refl; may = record { doing = _; busy = refl; begins_is = refl; may = record { ready = refl; transacts = refl; same = refl } } } }
      ∴ record { line = refl; complete = refl; moment = refl; stands = record { own = refl; behind = refl; may = record { doing = _; busy = refl; begins_is = refl; may = Decided _ refl refl } } }
      ∴ record { line = refl; complete = refl; moment = refl; stands = record { own = refl; behind = refl; may = record { doing = _; busy = refl; begins_is = refl; may = record { ready = refl; transacts = refl; same = refl } } } }
      ∴ record { line = refl; complete = refl; moment = refl; stands = record { own = refl; behind = refl; may = record { doing = _; busy = refl; begins_is = refl; may = Decided _ refl refl } } }
      ∴ record { line = refl; complete = refl; moment = refl; stands = record { own = refl; behind = refl; may = record { doing = _; busy = refl; begins_is = refl; may = AtOnce (record { ready = refl; first = refl; same = refl }) } } }
      ∴ record { line = refl; complete = refl; moment = refl; stands = record { own = refl; behind = refl; may = record { doing = _; busy = refl; begins_is = refl; may = refl } } }
      ∴ record { line = refl; complete = refl; moment = refl; stands = record { own = refl; behind = refl; may = record { doing = _; busy = refl; begins_is = refl; may = refl } } }
      ∴ record { line = refl; complete = refl; moment = refl; stands = record { own = refl; behind = refl; may = record { doing = _; busy = refl; begins_is = refl; may = record { requests = lit≤ tt; segment = refl; behind = refl; session = refl; file = refl; in_time = lit< tt; room = refl } } } }
      ∴ record { line = refl; complete = refl; moment = refl; stands = record { own = refl; behind = refl; may = record { doing = _; busy = refl; begins_is = refl; may = Decided _ refl refl } } }
      ∴ record { line = refl; complete = refl; moment = refl; stands = record { own = refl; behind = refl; may = record { doing = _; busy = refl; begins_is = refl; may = record { ready = refl; transacts = refl; same = refl } } } }
      ∴ record { line = refl; complete = refl; moment = refl; stands = record { own = refl; behind = refl; may = record { doing = _; busy = refl; begins_is = refl; may = Decided _ refl refl } } }
      ∴ record { line = refl; complete = refl; moment = refl; stands = record { own = refl; behind = refl; may = record { doing = _; busy = refl; begins_is = refl; may = record { ready = refl; transacts = refl; same = refl } } } }
      ∴ record { line = refl; complete = refl; moment = refl; stands = record { own = refl; behind = refl; may = record { doing = _; busy = refl; begins_is = refl; may = Decided _ refl refl } } }
      ∴ record { line = refl; complete = refl; moment = refl; stands = record { own = refl; behind = refl; may = record { doing = _; busy = refl; begins_is = refl; may = record { goes_on = refl; file = (refl, refl); session = refl; there = refl } } } }
      ∴ record { line = refl; complete = refl; moment = refl; stands = record { own = refl; behind = refl; may = record { doing = _; busy = refl; begins_is = refl; may = refl } } }
      ∴ record { line = refl; complete = refl; moment = refl; stands = record { own = refl; behind = refl; may = record { doing = _; busy = refl; begins_is = refl; may = ReadsViews (record { goes_on = refl; file = _; opened = refl; first = 16; second = 0; bytes = _; reads = refl; same = refl }) } } }
      ∴ record { line = refl; complete = refl; moment = refl; stands = record { own = refl; behind = refl; may = record { doing = _; busy = refl; begins_is = refl; may = record { ready = refl; transacts = refl; same = refl } } } }
      ∴ record { line = refl; complete = refl; moment = refl; stands = record { own = refl; behind = refl; may = record { doing = _; busy = refl; begins_is = refl; may = Decided _ refl refl } } }
      ∴ record { line = refl; complete = refl; moment = refl; stands = record { own = refl; behind = refl; may = record { doing = _; busy = refl; begins_is = refl; may = record { ready = refl; transacts = refl; same = refl } } } }
      ∴ record { line = refl; complete = refl; moment = refl; stands = record { own = refl; behind = refl; may = record { doing = _; busy = refl; begins_is = refl; may = Decided _ refl refl } } }
      ∴ record { line = refl; complete = refl; moment = refl; stands = record { own = refl; behind = refl; may = record { doing = _; busy = refl; begins_is = refl; may = AtOnce (record { ready = refl; first = refl; same = refl }) } } }
      ∴ record { line = refl; complete = refl; moment = refl; stands = record { own = refl; behind = refl; may = record { doing = _; busy = refl; begins_is = refl; may = refl } } }
      ∴ record { line = refl; complete = refl; moment = refl; stands = record { own = refl; behind = refl; may = record { doing = _; busy = refl; begins_is = refl; may = refl } } }
      ∴ record { line = refl; complete = refl; moment = refl; stands = record { own = refl; behind = refl; may = record { doing = _; busy = refl; begins_is = refl; may = record { requests = lit≤ tt; segment = refl; behind = refl; session = refl; file = refl; in_time = lit< tt; room = refl } } } }
      ∴ record { line = refl; complete = refl; moment = refl; stands = record { own = refl; behind = refl; may = record { doing = _; busy = refl; begins_is = refl; may = Decided _ refl refl } } }
      ∴ record { line = refl; complete = refl; moment = refl; stands = record { own = refl; behind = refl; may = record { doing = _; busy = refl; begins_is = refl; may = record { ready = refl; transacts = refl; same = refl } } } }
      ∴ record { line = refl; complete = refl; moment = refl; stands = record { own = refl; behind = refl; may = record { doing = _; busy = refl; begins_is = refl; may = Decided _ refl refl } } }
      ∴ record { line = refl; complete = refl; moment = refl; stands = record { own = refl; behind = refl; may = record { doing = _; busy = refl; begins_is = refl; may = refl } } }
      ∴ record { line = refl; complete = refl; moment = refl; stands = record { own = refl; behind = refl; may = record { doing = _; busy = refl; begins_is = refl; may = Decided _ refl refl } } }
      ∴ record { line = refl; complete = refl; moment = refl; stands = record { own = refl; behind = refl; may = record { doing = _; busy = refl; begins_is = refl; may = AtOnce (record { ready = refl; first = refl; same = refl }) } } }
      ∴ record { line = refl; complete = refl; moment = refl; stands = record { own = refl; behind = refl; may = record { doing = _; busy = refl; begins_is = refl; may = refl } } }
      ∴ record { line = refl; complete = refl; moment = refl; stands = record { own = refl; behind = refl; may = record { doing = _; busy = refl; begins_is = refl; may = refl } } }
      ∴ record { line = refl; complete = refl; moment = refl; stands = record { own = refl; behind = refl; may = record { doing = _; busy = refl; begins_is = refl; may = (record { k = _; stage = refl; at = refl; few = lit< tt; session = refl }, record { was = lit< tt; gone = refl; once = refl }) } } }
      ∴ record { line = refl; complete = refl; moment = refl; stands = record { own = refl; behind = refl; may = record { doing = _; busy = refl; begins_is = refl; may = (record { k = _; stage = refl; at = refl; few = lit< tt; session = refl }, record { was = lit< tt; gone = refl; once = refl }) } } }
      ∴ record { line = refl; complete = refl; moment = refl; stands = record { own = refl; behind = refl; may = record { doing = _; busy = refl; begins_is = refl; may = refl } } }
      ∴ record { line = refl; complete = refl; moment = refl; stands = record { own = refl; behind = refl; may = record { doing = _; busy = refl; begins_is = refl; may = refl } } }
      ∴ record { line = refl; complete = refl; moment = refl; stands = record { own = refl; behind = refl; may = record { doing = _; busy = refl; begins_is = refl; may = refl } } }
      ∴ record { line = refl; complete = refl; moment = refl; stands = record { own = refl; behind = refl; may = record { doing = _; busy = refl; begins_is = refl; may = (refl, OfOneBlock (record { k = _; stage = refl; at = refl; few = lit< tt; session = refl })) } } }
      ∴ record { line = refl; complete = refl; moment = refl; stands = record { own = refl; behind = refl; may = record { doing = _; busy = refl; begins_is = refl; may = refl } } }
      ∴ record { line = refl; complete = refl; moment = refl; stands = record { own = refl; behind = refl; may = record { doing = _; busy = refl; begins_is = refl; may = refl } } }
      ∴ record { line = refl; complete = refl; moment = refl; stands = record { own = refl; behind = refl; may = record { doing = _; busy = refl; begins_is = refl; may = (refl, OfOneBlock (record { k = _; stage = refl; at = refl; few = lit< tt; session = refl })) } } }
      ∴ record { line = refl; complete = refl; moment = refl; stands = record { own = refl; behind = refl; may = record { doing = _; busy = refl; begins_is = refl; may = refl } } }
      ∴ record { line = refl; complete = refl; moment = refl; stands = record { own = refl; behind = refl; may = record { doing = _; busy = refl; begins_is = refl; may = CleanedUp (record { k = _; stage = refl; session = refl; over = refl; same = refl }) } } }
      ∴ tt;
}

sustained_prints : text_of sustained_run sustained_journal ≡ printed (
    codes "ok 1"
    ∷ codes "ok 2"
    ∷ codes "ok 1 2"
    ∷ codes "ok 2"
    ∷ codes "ok"
    ∷ codes "ok"
    ∷ codes "err ENOENT"
    ∷ codes "ok 6869"
    ∷ codes "ok"
    ∷ codes "ok 1 3"
    ∷ codes "ok 1"
    ∷ codes "ok"
    ∷ codes "ok"
    ∷ codes "err ESTALE inode 3"
    ∷ codes "ok"
    ∷ codes "ok 0 0 2 2"
    ∷ []
    )
unfolding journals_compute replies_on_literals
sustained_prints = refl

-- A copied file keeps its bytes when the other one is removed and cleaned up.
abbrev copied_run : Setup
copied_run = run_of (
    Do 0 (Mount false)
    ∷ Do 0 (Create (codes "/a") 420)
    ∷ Do 0 (Write 1 0 (replicate 7 97))
    ∷ Do 0 (Flush 1)
    ∷ Do 0 (Create (codes "/b") 420)
    ∷ Do 0 (Copy 1 0 2 0 70000)
    ∷ Do 0 (Close 1)
    ∷ Do 0 (Unlink (codes "/a"))
    ∷ Do 0 Clean
    ∷ Tick 3600
    ∷ Do 0 (Gc true)
    ∷ Do 0 (Read 2 0 3)
    ∷ []
    )

abbrev copied_journal : List Act
copied_journal =
    entry 1 0 (Mounted 1)
    ∷ entry 1 0 (Answered (Fine 1 0 0 0))
    ∷ entry 2 0 (Opened 1 2)
    ∷ entry 2 0 (Answered (Fine 1 2 0 0))
    ∷ entry 3 0 (Answered (Fine 7 0 0 0))
    ∷ entry 4 0 Quiet
    ∷ entry 4 0 Quiet
    ∷ entry 4 0 Quiet
    ∷ entry 4 0 (Commit 2 0 7 0)
    ∷ entry 4 0 (Answered (Fine 0 0 0 0))
    ∷ entry 5 0 (Opened 2 3)
    ∷ entry 5 0 (Answered (Fine 2 3 0 0))
    ∷ entry 6 0 (Copied 2 0 3 0 7)
    ∷ entry 6 0 (Answered (Fine 7 0 0 0))
    ∷ entry 7 0 (Answered (Fine 0 0 0 0))
    ∷ entry 8 0 Meta
    ∷ entry 8 0 (Answered (Fine 0 0 0 0))
    ∷ entry 9 0 Quiet
    ∷ entry 9 0 Quiet
    ∷ entry 9 0 (Cleaned 8 2)
    ∷ entry 9 0 Quiet
    ∷ entry 9 0 Quiet
    ∷ entry 9 0 (Answered (Fine 0 0 1 0))
    ∷ entry_at 4600 10 255 (Ticked 3600)
    ∷ entry_at 4600 11 0 Quiet
    ∷ entry_at 4600 11 0 Quiet
    ∷ entry_at 4600 11 0 (Answered (Fine 0 0 0 0))
    ∷ entry_at 4600 12 0 (Look 3 0)
    ∷ entry_at 4600 12 0 Quiet
    ∷ entry_at 4600 12 0 (Answered (Looks 28 0 3))
    ∷ []

copied_is_legal : Legal copied_run copied_journal
unfolding journals_compute
copied_is_legal = record {
  ends = refl;
  allowed =
      record { line = refl; complete = refl; moment = refl; stands = record { own = refl; behind = refl; may = record { doing = _; busy = refl; begins_is = refl; may = record { ready = refl; transacts = refl; same = refl } } } }
      ∴ record { line = refl; complete = refl; moment = refl; stands = record { own = refl; behind = refl; may = record { doing = _; busy = refl; begins_is = refl; may = Decided _ refl refl } } }
      ∴ record { line = refl; complete = refl; moment = refl; stands = record { own = refl; behind = refl; may = record { doing = _; busy = refl; begins_is = refl; may = record { ready = refl; transacts = refl; same = refl } } } }
      ∴ record { line = refl; complete = refl; moment = refl; stands = record { own = refl; behind = refl; may = record { doing = _; busy = refl; begins_is = refl; may = Decided _ refl refl } } }
      ∴ record { line = refl; complete = refl; moment = refl; stands = record { own = refl; behind = refl; may = record { doing = _; busy = refl; begins_is = refl; may = AtOnce (record { ready = refl; first = refl; same = refl }) } } }
      ∴ record { line = refl; complete = refl; moment = refl; stands = record { own = refl; behind = refl; may = record { doing = _; busy = refl; begins_is = refl; may = refl } } }
      ∴ record { line = refl; complete = refl; moment = refl; stands = record { own = refl; behind = refl; may = record { doing = _; busy = refl; begins_is = refl; may = refl } } }
      ∴ record { line = refl; complete = refl; moment = refl; stands = record { own = refl; behind = refl; may = record { doing = _; busy = refl; begins_is = refl; may = refl } } }
      ∴ record { line = refl; complete = refl; moment = refl; stands = record { own = refl; behind = refl; may = record { doing = _; busy = refl; begins_is = refl; may = record { requests = lit≤ tt; segment = refl; behind = refl; session = refl; file = refl; in_time = lit< tt; room = refl } } } }
      ∴ record { line = refl; complete = refl; moment = refl; stands = record { own = refl; behind = refl; may = record { doing = _; busy = refl; begins_is = refl; may = Decided _ refl refl } } }
      ∴ record { line = refl; complete = refl; moment = refl; stands = record { own = refl; behind = refl; may = record { doing = _; busy = refl; begins_is = refl; may = record { ready = refl; transacts = refl; same = refl } } } }
      ∴ record { line = refl; complete = refl; moment = refl; stands = record { own = refl; behind = refl; may = record { doing = _; busy = refl; begins_is = refl; may = Decided _ refl refl } } }
      ∴ record { line = refl; complete = refl; moment = refl; stands = record { own = refl; behind = refl; may = record { doing = _; busy = refl; begins_is = refl; may = record { ready = refl; same = refl } } } }
      ∴ record { line = refl; complete = refl; moment = refl; stands = record { own = refl; behind = refl; may = record { doing = _; busy = refl; begins_is = refl; may = Decided _ refl refl } } }
      ∴ record { line = refl; complete = refl; moment = refl; stands = record { own = refl; behind = refl; may = record { doing = _; busy = refl; begins_is = refl; may = AtOnce (record { ready = refl; first = refl; same = refl }) } } }
      ∴ record { line = refl; complete = refl; moment = refl; stands = record { own = refl; behind = refl; may = record { doing = _; busy = refl; begins_is = refl; may = record { ready = refl; transacts = refl; same = refl } } } }
      ∴ record { line = refl; complete = refl; moment = refl; stands = record { own = refl; behind = refl; may = record { doing = _; busy = refl; begins_is = refl; may = Decided _ refl refl } } }
      ∴ record { line = refl; complete = refl; moment = refl; stands = record { own = refl; behind = refl; may = record { doing = _; busy = refl; begins_is = refl; may = refl } } }
      ∴ record { line = refl; complete = refl; moment = refl; stands = record { own = refl; behind = refl; may = record { doing = _; busy = refl; begins_is = refl; may = refl } } }
      ∴ record { line = refl; complete = refl; moment = refl; stands = record { own = refl; behind = refl; may = record { doing = _; busy = refl; begins_is = refl; may = (record { k = _; stage = refl; at = refl; few = lit< tt; session = refl }, record { was = lit< tt; gone = refl; once = refl }) } } }
      ∴ record { line = refl; complete = refl; moment = refl; stands = record { own = refl; behind = refl; may = record { doing = _; busy = refl; begins_is = refl; may = refl } } }
      ∴ record { line = refl; complete = refl; moment = refl; stands = record { own = refl; behind = refl; may = record { doing = _; busy = refl; begins_is = refl; may = refl } } }
      ∴ record { line = refl; complete = refl; moment = refl; stands = record { own = refl; behind = refl; may = record { doing = _; busy = refl; begins_is = refl; may = CleanedUp (record { k = _; stage = refl; session = refl; over = refl; same = refl }) } } }
      ∴ record { line = refl; complete = refl; moment = refl; stands = (refl, refl) }
      ∴ record { line = refl; complete = refl; moment = refl; stands = record { own = refl; behind = refl; may = record { doing = _; busy = refl; begins_is = refl; may = refl } } }
      ∴ record { line = refl; complete = refl; moment = refl; stands = record { own = refl; behind = refl; may = record { doing = _; busy = refl; begins_is = refl; may = refl } } }
      ∴ record { line = refl; complete = refl; moment = refl; stands = record { own = refl; behind = refl; may = record { doing = _; busy = refl; begins_is = refl; may = HasCollected 0 0 refl refl } } }
      ∴ record { line = refl; complete = refl; moment = refl; stands = record { own = refl; behind = refl; may = record { doing = _; busy = refl; begins_is = refl; may = record { goes_on = refl; file = (refl, refl); session = refl; there = refl } } } }
      ∴ record { line = refl; complete = refl; moment = refl; stands = record { own = refl; behind = refl; may = record { doing = _; busy = refl; begins_is = refl; may = refl } } }
      ∴ record { line = refl; complete = refl; moment = refl; stands = record { own = refl; behind = refl; may = record { doing = _; busy = refl; begins_is = refl; may = ReadsViews (record { goes_on = refl; file = _; opened = refl; first = 28; second = 0; bytes = _; reads = refl; same = refl }) } } }
      ∴ tt;
}

copied_prints : text_of copied_run copied_journal ≡ printed (
    codes "ok 1"
    ∷ codes "ok 1 2"
    ∷ codes "ok 7"
    ∷ codes "ok"
    ∷ codes "ok 2 3"
    ∷ codes "ok 7"
    ∷ codes "ok"
    ∷ codes "ok"
    ∷ codes "ok 0 0 1 0"
    ∷ codes "now 4600"
    ∷ codes "ok 0 0"
    ∷ codes "ok 616161"
    ∷ []
    )
unfolding journals_compute replies_on_literals
copied_prints = refl

-- The session of a client that cleans up is expired by another one, between a slice that it found and the removal of its
-- block: the removal needs no session, and what comes after it is refused.
abbrev pub expired_cleaner_run : Setup
expired_cleaner_run = run_of (
    Do 0 (Mount false)
    ∷ Do 1 (Mount false)
    ∷ Do 0 (Create (codes "/f") 420)
    ∷ Do 0 (Write 1 0 (104 ∷ 105 ∷ []))
    ∷ Do 0 (Close 1)
    ∷ Do 0 (Unlink (codes "/f"))
    ∷ Begin 0 Clean
    ∷ Step 0
    ∷ Step 0
    ∷ Step 0
    ∷ Step 0
    ∷ Step 0
    ∷ Tick 60
    ∷ Do 1 Clean
    ∷ Step 0
    ∷ Step 0
    ∷ Do 0 (Stat (codes "/"))
    ∷ []
    )

abbrev pub expired_cleaner_journal : List Act
expired_cleaner_journal =
    entry 1 0 (Mounted 1)
    ∷ entry 1 0 (Answered (Fine 1 0 0 0))
    ∷ entry 2 1 (Mounted 2)
    ∷ entry 2 1 (Answered (Fine 2 0 0 0))
    ∷ entry 3 0 (Opened 1 2)
    ∷ entry 3 0 (Answered (Fine 1 2 0 0))
    ∷ entry 4 0 (Answered (Fine 2 0 0 0))
    ∷ entry 5 0 Quiet
    ∷ entry 5 0 Quiet
    ∷ entry 5 0 (Commit 2 0 2 0)
    ∷ entry 5 0 (Answered (Fine 0 0 0 0))
    ∷ entry 6 0 Meta
    ∷ entry 6 0 (Answered (Fine 0 0 0 0))
    ∷ entry 8 0 Quiet
    ∷ entry 9 0 Quiet
    ∷ entry 10 0 (Cleaned 8 2)
    ∷ entry 11 0 Quiet
    ∷ entry 12 0 Quiet
    ∷ entry_at 1060 13 255 (Ticked 60)
    ∷ entry_at 1060 14 1 (Expired 1)
    ∷ entry_at 1060 14 1 Quiet
    ∷ entry_at 1060 14 1 Quiet
    ∷ entry_at 1060 14 1 Quiet
    ∷ entry_at 1060 14 1 Quiet
    ∷ entry_at 1060 14 1 Quiet
    ∷ entry_at 1060 14 1 (Cleaned 9 1)
    ∷ entry_at 1060 14 1 Quiet
    ∷ entry_at 1060 14 1 (Answered (Fine 1 0 0 1))
    ∷ entry_at 1060 15 0 Quiet
    ∷ entry_at 1060 16 0 Quiet
    ∷ entry_at 1060 16 0 (Answered (ToldRefused (Stale (Session 1))))
    ∷ entry_at 1060 17 0 (Answered (ToldRefused NotConnected))
    ∷ []

expired_cleaner_is_legal : Legal expired_cleaner_run expired_cleaner_journal
unfolding journals_compute
expired_cleaner_is_legal = record {
  ends = refl;
  allowed =
      record { line = refl; complete = refl; moment = refl; stands = record { own = refl; behind = refl; may = record { doing = _; busy = refl; begins_is = refl; may = record { ready = refl; transacts = refl; same = refl } } } }
      ∴ record { line = refl; complete = refl; moment = refl; stands = record { own = refl; behind = refl; may = record { doing = _; busy = refl; begins_is = refl; may = Decided _ refl refl } } }
      ∴ record { line = refl; complete = refl; moment = refl; stands = record { own = refl; behind = refl; may = record { doing = _; busy = refl; begins_is = refl; may = record { ready = refl; transacts = refl; same = refl } } } }
      ∴ record { line = refl; complete = refl; moment = refl; stands = record { own = refl; behind = refl; may = record { doing = _; busy = refl; begins_is = refl; may = Decided _ refl refl } } }
      ∴ record { line = refl; complete = refl; moment = refl; stands = record { own = refl; behind = refl; may = record { doing = _; busy = refl; begins_is = refl; may = record { ready = refl; transacts = refl; same = refl } } } }
      ∴ record { line = refl; complete = refl; moment = refl; stands = record { own = refl; behind = refl; may = record { doing = _; busy = refl; begins_is = refl; may = Decided _ refl refl } } }
      ∴ record { line = refl; complete = refl; moment = refl; stands = record { own = refl; behind = refl; may = record { doing = _; busy = refl; begins_is = refl; may = AtOnce (record { ready = refl; first = refl; same = refl }) } } }
      ∴ record { line = refl; complete = refl; moment = refl; stands = record { own = refl; behind = refl; may = record { doing = _; busy = refl; begins_is = refl; may = refl } } }
      ∴ record { line = refl; complete = refl; moment = refl; stands = record { own = refl; behind = refl; may = record { doing = _; busy = refl; begins_is = refl; may = refl } } }
      ∴ record { line = refl; complete = refl; moment = refl; stands = record { own = refl; behind = refl; may = record { doing = _; busy = refl; begins_is = refl; may = record { requests = lit≤ tt; segment = refl; behind = refl; session = refl; file = refl; in_time = lit< tt; room = refl } } } }
      ∴ record { line = refl; complete = refl; moment = refl; stands = record { own = refl; behind = refl; may = record { doing = _; busy = refl; begins_is = refl; may = Decided _ refl refl } } }
      ∴ record { line = refl; complete = refl; moment = refl; stands = record { own = refl; behind = refl; may = record { doing = _; busy = refl; begins_is = refl; may = record { ready = refl; transacts = refl; same = refl } } } }
      ∴ record { line = refl; complete = refl; moment = refl; stands = record { own = refl; behind = refl; may = record { doing = _; busy = refl; begins_is = refl; may = Decided _ refl refl } } }
      ∴ record { line = refl; complete = refl; moment = refl; stands = record { own = refl; behind = refl; may = record { doing = _; busy = refl; begins_is = refl; may = refl } } }
      ∴ record { line = refl; complete = refl; moment = refl; stands = record { own = refl; behind = refl; may = record { doing = _; busy = refl; begins_is = refl; may = refl } } }
      ∴ record { line = refl; complete = refl; moment = refl; stands = record { own = refl; behind = refl; may = record { doing = _; busy = refl; begins_is = refl; may = (record { k = _; stage = refl; at = refl; few = lit< tt; session = refl }, record { was = lit< tt; gone = refl; once = refl }) } } }
      ∴ record { line = refl; complete = refl; moment = refl; stands = record { own = refl; behind = refl; may = record { doing = _; busy = refl; begins_is = refl; may = refl } } }
      ∴ record { line = refl; complete = refl; moment = refl; stands = record { own = refl; behind = refl; may = record { doing = _; busy = refl; begins_is = refl; may = refl } } }
      ∴ record { line = refl; complete = refl; moment = refl; stands = (refl, refl) }
      ∴ record { line = refl; complete = refl; moment = refl; stands = record { own = refl; behind = refl; may = record { doing = _; busy = refl; begins_is = refl; may = (record { k = _; stage = refl; at = refl; few = lit< tt; session = refl }, refl) } } }
      ∴ record { line = refl; complete = refl; moment = refl; stands = record { own = refl; behind = refl; may = record { doing = _; busy = refl; begins_is = refl; may = refl } } }
      ∴ record { line = refl; complete = refl; moment = refl; stands = record { own = refl; behind = refl; may = record { doing = _; busy = refl; begins_is = refl; may = refl } } }
      ∴ record { line = refl; complete = refl; moment = refl; stands = record { own = refl; behind = refl; may = record { doing = _; busy = refl; begins_is = refl; may = refl } } }
      ∴ record { line = refl; complete = refl; moment = refl; stands = record { own = refl; behind = refl; may = record { doing = _; busy = refl; begins_is = refl; may = refl } } }
      ∴ record { line = refl; complete = refl; moment = refl; stands = record { own = refl; behind = refl; may = record { doing = _; busy = refl; begins_is = refl; may = refl } } }
      ∴ record { line = refl; complete = refl; moment = refl; stands = record { own = refl; behind = refl; may = record { doing = _; busy = refl; begins_is = refl; may = (refl, OfOneBlock (record { k = _; stage = refl; at = refl; few = lit< tt; session = refl })) } } }
      ∴ record { line = refl; complete = refl; moment = refl; stands = record { own = refl; behind = refl; may = record { doing = _; busy = refl; begins_is = refl; may = refl } } }
      ∴ record { line = refl; complete = refl; moment = refl; stands = record { own = refl; behind = refl; may = record { doing = _; busy = refl; begins_is = refl; may = CleanedUp (record { k = _; stage = refl; session = refl; over = refl; same = refl }) } } }
      ∴ record { line = refl; complete = refl; moment = refl; stands = record { own = refl; behind = refl; may = record { doing = _; busy = refl; begins_is = refl; may = refl } } }
      ∴ record { line = refl; complete = refl; moment = refl; stands = record { own = refl; behind = refl; may = record { doing = _; busy = refl; begins_is = refl; may = refl } } }
      ∴ record { line = refl; complete = refl; moment = refl; stands = record { own = refl; behind = refl; may = record { doing = _; busy = refl; begins_is = refl; may = IsRefusedBy _ refl (SessionGone refl refl refl) refl } } }
      ∴ record { line = refl; complete = refl; moment = refl; stands = (refl, Refuses refl) }
      ∴ tt;
}

expired_cleaner_prints : text_of expired_cleaner_run expired_cleaner_journal ≡ printed (
    codes "ok 1"
    ∷ codes "ok 2"
    ∷ codes "ok 1 2"
    ∷ codes "ok 2"
    ∷ codes "ok"
    ∷ codes "ok"
    ∷ codes "begun"
    ∷ codes "more"
    ∷ codes "more"
    ∷ codes "more"
    ∷ codes "more"
    ∷ codes "more"
    ∷ codes "now 1060"
    ∷ codes "ok 1 0 0 1"
    ∷ codes "more"
    ∷ codes "err ESTALE session 1"
    ∷ codes "err ENOTCONN"
    ∷ []
    )
unfolding journals_compute replies_on_literals
expired_cleaner_prints = refl

-- The session of a client that collects is expired by another one: what was listed isn't judged.
abbrev pub expired_collector_run : Setup
expired_collector_run = run_of (
    Do 0 (Mount false)
    ∷ Do 1 (Mount false)
    ∷ Begin 0 (Gc false)
    ∷ Step 0
    ∷ Tick 60
    ∷ Do 1 Clean
    ∷ Step 0
    ∷ []
    )

abbrev expired_collector_journal : List Act
expired_collector_journal =
    entry 1 0 (Mounted 1)
    ∷ entry 1 0 (Answered (Fine 1 0 0 0))
    ∷ entry 2 1 (Mounted 2)
    ∷ entry 2 1 (Answered (Fine 2 0 0 0))
    ∷ entry 4 0 Quiet
    ∷ entry_at 1060 5 255 (Ticked 60)
    ∷ entry_at 1060 6 1 (Expired 1)
    ∷ entry_at 1060 6 1 Quiet
    ∷ entry_at 1060 6 1 Quiet
    ∷ entry_at 1060 6 1 Quiet
    ∷ entry_at 1060 6 1 Quiet
    ∷ entry_at 1060 6 1 (Answered (Fine 1 0 0 0))
    ∷ entry_at 1060 7 0 Quiet
    ∷ entry_at 1060 7 0 (Answered (ToldRefused (Stale (Session 1))))
    ∷ []

expired_collector_is_legal : Legal expired_collector_run expired_collector_journal
unfolding journals_compute
expired_collector_is_legal = record {
  ends = refl;
  allowed =
      record { line = refl; complete = refl; moment = refl; stands = record { own = refl; behind = refl; may = record { doing = _; busy = refl; begins_is = refl; may = record { ready = refl; transacts = refl; same = refl } } } }
      ∴ record { line = refl; complete = refl; moment = refl; stands = record { own = refl; behind = refl; may = record { doing = _; busy = refl; begins_is = refl; may = Decided _ refl refl } } }
      ∴ record { line = refl; complete = refl; moment = refl; stands = record { own = refl; behind = refl; may = record { doing = _; busy = refl; begins_is = refl; may = record { ready = refl; transacts = refl; same = refl } } } }
      ∴ record { line = refl; complete = refl; moment = refl; stands = record { own = refl; behind = refl; may = record { doing = _; busy = refl; begins_is = refl; may = Decided _ refl refl } } }
      ∴ record { line = refl; complete = refl; moment = refl; stands = record { own = refl; behind = refl; may = record { doing = _; busy = refl; begins_is = refl; may = refl } } }
      ∴ record { line = refl; complete = refl; moment = refl; stands = (refl, refl) }
      ∴ record { line = refl; complete = refl; moment = refl; stands = record { own = refl; behind = refl; may = record { doing = _; busy = refl; begins_is = refl; may = (record { k = _; stage = refl; at = refl; few = lit< tt; session = refl }, refl) } } }
      ∴ record { line = refl; complete = refl; moment = refl; stands = record { own = refl; behind = refl; may = record { doing = _; busy = refl; begins_is = refl; may = refl } } }
      ∴ record { line = refl; complete = refl; moment = refl; stands = record { own = refl; behind = refl; may = record { doing = _; busy = refl; begins_is = refl; may = refl } } }
      ∴ record { line = refl; complete = refl; moment = refl; stands = record { own = refl; behind = refl; may = record { doing = _; busy = refl; begins_is = refl; may = refl } } }
      ∴ record { line = refl; complete = refl; moment = refl; stands = record { own = refl; behind = refl; may = record { doing = _; busy = refl; begins_is = refl; may = refl } } }
      ∴ record { line = refl; complete = refl; moment = refl; stands = record { own = refl; behind = refl; may = record { doing = _; busy = refl; begins_is = refl; may = CleanedUp (record { k = _; stage = refl; session = refl; over = refl; same = refl }) } } }
      ∴ record { line = refl; complete = refl; moment = refl; stands = record { own = refl; behind = refl; may = record { doing = _; busy = refl; begins_is = refl; may = refl } } }
      ∴ record { line = refl; complete = refl; moment = refl; stands = record { own = refl; behind = refl; may = record { doing = _; busy = refl; begins_is = refl; may = Decided _ refl refl } } }
      ∴ tt;
}

expired_collector_prints : text_of expired_collector_run expired_collector_journal ≡ printed (
    codes "ok 1"
    ∷ codes "ok 2"
    ∷ codes "begun"
    ∷ codes "more"
    ∷ codes "now 1060"
    ∷ codes "ok 1 0 0 0"
    ∷ codes "err ESTALE session 1"
    ∷ []
    )
unfolding journals_compute replies_on_literals
expired_collector_prints = refl

-- The trash: names in it, what may be done there, and when it is due.
abbrev trash_run : Setup
trash_run = run_on trash_setting 1709251199 (
    Do 0 (Mount false)
    ∷ Do 0 (Create (codes "/f") 420)
    ∷ Do 0 (Close 1)
    ∷ Do 0 (Unlink (codes "/f"))
    ∷ Do 0 (Readdir (codes "/.trash"))
    ∷ Do 0 (Readdir (codes "/.trash/2024-02-29-23"))
    ∷ Do 0 (Rename (codes "/.trash/2024-02-29-23/1-2-f") (codes "/g") Plain)
    ∷ Do 0 (Lookup (codes "/g"))
    ∷ Do 0 (Mkdir (codes "/.trash/x") 493)
    ∷ Do 0 (Create (47 ∷ replicate 255 110) 420)
    ∷ Do 0 (Close 1)
    ∷ Do 0 (Unlink (47 ∷ replicate 255 110))
    ∷ Do 0 (Readdir (codes "/.trash/2024-02-29-23"))
    ∷ Tick 86400
    ∷ Do 0 Clean
    ∷ Tick 1
    ∷ Do 0 Clean
    ∷ []
    )

abbrev trash_journal : List Act
trash_journal =
    entry_at 1709251199 1 0 (Mounted 1)
    ∷ entry_at 1709251199 1 0 (Answered (Fine 1 0 0 0))
    ∷ entry_at 1709251199 2 0 (Opened 1 2)
    ∷ entry_at 1709251199 2 0 (Answered (Fine 1 2 0 0))
    ∷ entry_at 1709251199 3 0 (Answered (Fine 0 0 0 0))
    ∷ entry_at 1709251199 4 0 Meta
    ∷ entry_at 1709251199 4 0 (Answered (Fine 0 0 0 0))
    ∷ entry_at 1709251199 5 0 Meta
    ∷ entry_at 1709251199 5 0 (Answered (Fine 0 0 0 0))
    ∷ entry_at 1709251199 6 0 Meta
    ∷ entry_at 1709251199 6 0 (Answered (Fine 0 0 0 0))
    ∷ entry_at 1709251199 7 0 Meta
    ∷ entry_at 1709251199 7 0 (Answered (Fine 0 0 0 0))
    ∷ entry_at 1709251199 8 0 Meta
    ∷ entry_at 1709251199 8 0 (Answered (Fine 2 0 0 0))
    ∷ entry_at 1709251199 9 0 Meta
    ∷ entry_at 1709251199 9 0 (Answered (ToldRefused NotPermitted))
    ∷ entry_at 1709251199 10 0 (Opened 1 3)
    ∷ entry_at 1709251199 10 0 (Answered (Fine 1 3 0 0))
    ∷ entry_at 1709251199 11 0 (Answered (Fine 0 0 0 0))
    ∷ entry_at 1709251199 12 0 Meta
    ∷ entry_at 1709251199 12 0 (Answered (Fine 0 0 0 0))
    ∷ entry_at 1709251199 13 0 Meta
    ∷ entry_at 1709251199 13 0 (Answered (Fine 0 0 0 0))
    ∷ entry_at 1709337599 14 255 (Ticked 86400)
    ∷ entry_at 1709337599 15 0 Quiet
    ∷ entry_at 1709337599 15 0 Quiet
    ∷ entry_at 1709337599 15 0 Quiet
    ∷ entry_at 1709337599 15 0 Quiet
    ∷ entry_at 1709337599 15 0 (Answered (Fine 0 0 0 0))
    ∷ entry_at 1709337600 16 255 (Ticked 1)
    ∷ entry_at 1709337600 17 0 Quiet
    ∷ entry_at 1709337600 17 0 (Purged 3)
    ∷ entry_at 1709337600 17 0 (Purged 9223372032828718759)
    ∷ entry_at 1709337600 17 0 Quiet
    ∷ entry_at 1709337600 17 0 (Cleaned 8 3)
    ∷ entry_at 1709337600 17 0 Quiet
    ∷ entry_at 1709337600 17 0 Quiet
    ∷ entry_at 1709337600 17 0 (Answered (Fine 0 1 1 0))
    ∷ []

trash_is_legal : Legal trash_run trash_journal
unfolding journals_compute
trash_is_legal = record {
  ends = refl;
  allowed =
      record { line = refl; complete = refl; moment = refl; stands = record { own = refl; behind = refl; may = record { doing = _; busy = refl; begins_is = refl; may = record { ready = refl; transacts = refl; same = refl } } } }
      ∴ record { line = refl; complete = refl; moment = refl; stands = record { own = refl; behind = refl; may = record { doing = _; busy = refl; begins_is = refl; may = Decided _ refl refl } } }
      ∴ record { line = refl; complete = refl; moment = refl; stands = record { own = refl; behind = refl; may = record { doing = _; busy = refl; begins_is = refl; may = record { ready = refl; transacts = refl; same = refl } } } }
      ∴ record { line = refl; complete = refl; moment = refl; stands = record { own = refl; behind = refl; may = record { doing = _; busy = refl; begins_is = refl; may = Decided _ refl refl } } }
      ∴ record { line = refl; complete = refl; moment = refl; stands = record { own = refl; behind = refl; may = record { doing = _; busy = refl; begins_is = refl; may = AtOnce (record { ready = refl; first = refl; same = refl }) } } }
      ∴ record { line = refl; complete = refl; moment = refl; stands = record { own = refl; behind = refl; may = record { doing = _; busy = refl; begins_is = refl; may = record { ready = refl; transacts = refl; same = refl } } } }
      ∴ record { line = refl; complete = refl; moment = refl; stands = record { own = refl; behind = refl; may = record { doing = _; busy = refl; begins_is = refl; may = Decided _ refl refl } } }
      ∴ record { line = refl; complete = refl; moment = refl; stands = record { own = refl; behind = refl; may = record { doing = _; busy = refl; begins_is = refl; may = record { ready = refl; transacts = refl; same = refl } } } }
      ∴ record { line = refl; complete = refl; moment = refl; stands = record { own = refl; behind = refl; may = record { doing = _; busy = refl; begins_is = refl; may = Decided _ refl refl } } }
      ∴ record { line = refl; complete = refl; moment = refl; stands = record { own = refl; behind = refl; may = record { doing = _; busy = refl; begins_is = refl; may = record { ready = refl; transacts = refl; same = refl } } } }
      ∴ record { line = refl; complete = refl; moment = refl; stands = record { own = refl; behind = refl; may = record { doing = _; busy = refl; begins_is = refl; may = Decided _ refl refl } } }
      ∴ record { line = refl; complete = refl; moment = refl; stands = record { own = refl; behind = refl; may = record { doing = _; busy = refl; begins_is = refl; may = record { ready = refl; transacts = refl; same = refl } } } }
      ∴ record { line = refl; complete = refl; moment = refl; stands = record { own = refl; behind = refl; may = record { doing = _; busy = refl; begins_is = refl; may = Decided _ refl refl } } }
      ∴ record { line = refl; complete = refl; moment = refl; stands = record { own = refl; behind = refl; may = record { doing = _; busy = refl; begins_is = refl; may = record { ready = refl; transacts = refl; same = refl } } } }
      ∴ record { line = refl; complete = refl; moment = refl; stands = record { own = refl; behind = refl; may = record { doing = _; busy = refl; begins_is = refl; may = Decided _ refl refl } } }
      ∴ record { line = refl; complete = refl; moment = refl; stands = record { own = refl; behind = refl; may = record { doing = _; busy = refl; begins_is = refl; may = record { ready = refl; transacts = refl; same = refl } } } }
      ∴ record { line = refl; complete = refl; moment = refl; stands = record { own = refl; behind = refl; may = record { doing = _; busy = refl; begins_is = refl; may = Decided _ refl refl } } }
      ∴ record { line = refl; complete = refl; moment = refl; stands = record { own = refl; behind = refl; may = record { doing = _; busy = refl; begins_is = refl; may = record { ready = refl; transacts = refl; same = refl } } } }
      ∴ record { line = refl; complete = refl; moment = refl; stands = record { own = refl; behind = refl; may = record { doing = _; busy = refl; begins_is = refl; may = Decided _ refl refl } } }
      ∴ record { line = refl; complete = refl; moment = refl; stands = record { own = refl; behind = refl; may = record { doing = _; busy = refl; begins_is = refl; may = AtOnce (record { ready = refl; first = refl; same = refl }) } } }
      ∴ record { line = refl; complete = refl; moment = refl; stands = record { own = refl; behind = refl; may = record { doing = _; busy = refl; begins_is = refl; may = record { ready = refl; transacts = refl; same = refl } } } }
      ∴ record { line = refl; complete = refl; moment = refl; stands = record { own = refl; behind = refl; may = record { doing = _; busy = refl; begins_is = refl; may = Decided _ refl refl } } }
      ∴ record { line = refl; complete = refl; moment = refl; stands = record { own = refl; behind = refl; may = record { doing = _; busy = refl; begins_is = refl; may = record { ready = refl; transacts = refl; same = refl } } } }
      ∴ record { line = refl; complete = refl; moment = refl; stands = record { own = refl; behind = refl; may = record { doing = _; busy = refl; begins_is = refl; may = Decided _ refl refl } } }
      ∴ record { line = refl; complete = refl; moment = refl; stands = (refl, refl) }
      ∴ record { line = refl; complete = refl; moment = refl; stands = record { own = refl; behind = refl; may = record { doing = _; busy = refl; begins_is = refl; may = refl } } }
      ∴ record { line = refl; complete = refl; moment = refl; stands = record { own = refl; behind = refl; may = record { doing = _; busy = refl; begins_is = refl; may = refl } } }
      ∴ record { line = refl; complete = refl; moment = refl; stands = record { own = refl; behind = refl; may = record { doing = _; busy = refl; begins_is = refl; may = refl } } }
      ∴ record { line = refl; complete = refl; moment = refl; stands = record { own = refl; behind = refl; may = record { doing = _; busy = refl; begins_is = refl; may = refl } } }
      ∴ record { line = refl; complete = refl; moment = refl; stands = record { own = refl; behind = refl; may = record { doing = _; busy = refl; begins_is = refl; may = CleanedUp (record { k = _; stage = refl; session = refl; over = refl; same = refl }) } } }
      ∴ record { line = refl; complete = refl; moment = refl; stands = (refl, refl) }
      ∴ record { line = refl; complete = refl; moment = refl; stands = record { own = refl; behind = refl; may = record { doing = _; busy = refl; begins_is = refl; may = refl } } }
      ∴ record { line = refl; complete = refl; moment = refl; stands = record { own = refl; behind = refl; may = record { doing = _; busy = refl; begins_is = refl; may = (record { k = _; stage = refl; at = refl; few = lit< tt; session = refl }, refl) } } }
      ∴ record { line = refl; complete = refl; moment = refl; stands = record { own = refl; behind = refl; may = record { doing = _; busy = refl; begins_is = refl; may = (record { k = _; stage = refl; at = refl; few = lit< tt; session = refl }, refl) } } }
      ∴ record { line = refl; complete = refl; moment = refl; stands = record { own = refl; behind = refl; may = record { doing = _; busy = refl; begins_is = refl; may = refl } } }
      ∴ record { line = refl; complete = refl; moment = refl; stands = record { own = refl; behind = refl; may = record { doing = _; busy = refl; begins_is = refl; may = (record { k = _; stage = refl; at = refl; few = lit< tt; session = refl }, record { was = lit< tt; gone = refl; once = refl }) } } }
      ∴ record { line = refl; complete = refl; moment = refl; stands = record { own = refl; behind = refl; may = record { doing = _; busy = refl; begins_is = refl; may = refl } } }
      ∴ record { line = refl; complete = refl; moment = refl; stands = record { own = refl; behind = refl; may = record { doing = _; busy = refl; begins_is = refl; may = refl } } }
      ∴ record { line = refl; complete = refl; moment = refl; stands = record { own = refl; behind = refl; may = record { doing = _; busy = refl; begins_is = refl; may = CleanedUp (record { k = _; stage = refl; session = refl; over = refl; same = refl }) } } }
      ∴ tt;
}

trash_prints : text_of trash_run trash_journal ≡ printed (
    codes "ok 1"
    ∷ codes "ok 1 2"
    ∷ codes "ok"
    ∷ codes "ok"
    ∷ codes "ok 2024-02-29-23:9223372032828718759"
    ∷ codes "ok 1-2-f:2"
    ∷ codes "ok"
    ∷ codes "ok 2"
    ∷ codes "err EPERM"
    ∷ codes "ok 1 3"
    ∷ codes "ok"
    ∷ codes "ok"
    ∷ (codes "ok 1-3-" ++ replicate 251 110 ++ codes ":3")
    ∷ codes "now 1709337599"
    ∷ codes "ok 0 0 0 0"
    ∷ codes "now 1709337600"
    ∷ codes "ok 0 1 1 0"
    ∷ []
    )
unfolding journals_compute replies_on_literals
trash_prints = refl
