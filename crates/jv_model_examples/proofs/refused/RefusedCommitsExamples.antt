-- Journals of commits that are late or keep blocks back, which no POSIX tree allows, by the first entry that may not stand.
use Rattle.std.proofs.Common.{◌≡◌, ◌≤◌, ℕ, Bool, true, false, IsTrue, List, [], ◌∷◌, ◌++◌, take, replicate, refl, sym, ap, codes, arith, ◌∙◌, lit≤, lit<, ◌==◌}
use Rattle.jv_model.specs.declared.act.Act.{Act}
use Rattle.jv_model.specs.declared.act.ActKind.TheVariants.{Mounted, Opened, Look, Commit, Settled, Quiet, Miss, Ticked, Answered}
use Rattle.jv_model.specs.declared.act.Told.{Told}
use Rattle.jv_model.specs.declared.act.Told.TheVariants.{Fine, Refused as ToldRefused}
use Rattle.jv_model.specs.declared.fault.Fault.TheVariants.{TryAgain, TimedOut}
use Rattle.jv_model.specs.declared.op.Op.{Op}
use Rattle.jv_model.specs.declared.op.Line.TheVariants.{Do, Begin, Step, Tick, Drain}
use Rattle.jv_model.specs.declared.op.Op.TheVariants.{Mount, Create, Open, Close, Flush, Read, Write, Upload}
use Rattle.jv_model.specs.promise.client.Origins.{ACommit}
use Rattle.jv_model.specs.promise.journal.Steps.{Start, MayAnswer, owes_none, is_owed_by, Fails, Decided, AtOnce, CountsCache, ReadsViews, CleanedUp, HasCompacted, HasCollected, HasUploaded, Owes, Sent, FoundNone, TooShort, HasReplaced, BlockOwed, InReading, Refuses as IsRefusedBy}
use Rattle.jv_model.specs.declared.profile.Does.TheVariants.{Uploads}
use Rattle.jv_model.specs.promise.client.ModelClient.{ModelClient, Working, Flush as ToFlush}
use Rattle.jv_model.specs.client.ModelClient.{is_replying}
use Rattle.jv_model.specs.promise.journal.State.{State}
use Rattle.jv_model.specs.promise.journal.Past.{Setup, at_start}
use Rattle.jv_model.specs.promise.journal.Legal.{AllAllowed, Sends, Ends, Drains, Fails as IsFailed}
use Rattle.jv_model_examples.proofs.refused.RefusalLaws.{entry_is_allowed, own_step, refused_by_cause, try_again_after_look, timed_out_late, never, is_compacting, is_cleans}
use Rattle.jv_model_examples.proofs.journals.JournalRuns.{run_of, entry, entry_at, journals_compute, ◌∴◌}

-- an upload that finds no block, where no threads upload, has none that is owed
abbrev says_none : Told → Bool
says_none (Fine a b c d) = d == 0
says_none _ = false

none_is_owed : {start : Start} {s : State} {client now : ℕ} {c : ModelClient} {o : Op} {flush : ToFlush} → MayAnswer start true s client now c (record { op = o; does = Uploads; flush = flush; stage = Working 0 0; moved = false }) (Fine 0 0 0 0)
    → owes_none s client ≡ false → ⊥
none_is_owed (Fails must fails) owed = absurd (cc)
none_is_owed (Decided answer stage e) owed = let never = ap is_replying stage in absurd (cc)
none_is_owed (AtOnce h) owed = let never = h.same in absurd (cc)
none_is_owed (CountsCache hits misses cached ready first does e) owed = absurd (cc)
none_is_owed (ReadsViews h) owed = let never = h.same in absurd (cc)
none_is_owed (CleanedUp h) owed = let never = ap is_cleans h.stage in absurd (cc)
none_is_owed (HasCompacted (TooShort k records stage quiets on few e)) owed = let never = ap is_compacting stage in absurd (cc)
none_is_owed (HasCompacted (HasReplaced k before after stage replaced two e)) owed = let never = ap is_compacting stage in absurd (cc)
none_is_owed (HasCollected count bytes judged e) owed = absurd (cc)
none_is_owed (HasUploaded does (Sent id index size stage e)) owed = let never = ap says_none e in absurd (cc)
none_is_owed (HasUploaded does (FoundNone ready first none_owed e)) owed = let never = sym owed ∙ none_owed in absurd (cc)
none_is_owed (IsRefusedBy fault moved h e) owed = absurd (cc)

-- a wait for uploads settles commits of its client
drain_settles : {s : State} {client commit : ℕ} → Drains s client (Settled commit) → IsTrue (is_owed_by s client commit)
drain_settles (Sends publish) = publish
drain_settles (Ends none e) = absurd (cc)
drain_settles (IsFailed told fails e) = absurd (cc)

-- A commit 3,599 seconds after its block was sent.
abbrev late_commit_run : Setup
late_commit_run = run_of (
    Do 0 (Mount false)
    ∷ Do 0 (Create (codes "/f") 420)
    ∷ Do 0 (Write 1 0 (120 ∷ []))
    ∷ Begin 0 (Flush 1)
    ∷ Step 0
    ∷ Step 0
    ∷ Tick 3599
    ∷ Step 0
    ∷ []
    )

abbrev late_commit_journal : List Act
late_commit_journal =
    entry 1 0 (Mounted 1)
    ∷ entry 1 0 (Answered (Fine 1 0 0 0))
    ∷ entry 2 0 (Opened 1 2)
    ∷ entry 2 0 (Answered (Fine 1 2 0 0))
    ∷ entry 3 0 (Answered (Fine 1 0 0 0))
    ∷ entry 5 0 Quiet
    ∷ entry 6 0 Quiet
    ∷ entry_at 4599 7 255 (Ticked 3599)
    ∷ entry_at 4599 8 0 Quiet
    ∷ []

late_commit_is_allowed : AllAllowed (at_start late_commit_run) late_commit_journal
unfolding journals_compute
late_commit_is_allowed =
    record { line = refl; complete = refl; moment = refl; stands = record { own = refl; behind = refl; may = record { doing = _; busy = refl; begins_is = refl; may = record { ready = refl; transacts = refl; same = refl } } } }
    ∴ record { line = refl; complete = refl; moment = refl; stands = record { own = refl; behind = refl; may = record { doing = _; busy = refl; begins_is = refl; may = Decided _ refl refl } } }
    ∴ record { line = refl; complete = refl; moment = refl; stands = record { own = refl; behind = refl; may = record { doing = _; busy = refl; begins_is = refl; may = record { ready = refl; transacts = refl; same = refl } } } }
    ∴ record { line = refl; complete = refl; moment = refl; stands = record { own = refl; behind = refl; may = record { doing = _; busy = refl; begins_is = refl; may = Decided _ refl refl } } }
    ∴ record { line = refl; complete = refl; moment = refl; stands = record { own = refl; behind = refl; may = record { doing = _; busy = refl; begins_is = refl; may = AtOnce (record { ready = refl; first = refl; same = refl }) } } }
    ∴ record { line = refl; complete = refl; moment = refl; stands = record { own = refl; behind = refl; may = record { doing = _; busy = refl; begins_is = refl; may = refl } } }
    ∴ record { line = refl; complete = refl; moment = refl; stands = record { own = refl; behind = refl; may = record { doing = _; busy = refl; begins_is = refl; may = refl } } }
    ∴ record { line = refl; complete = refl; moment = refl; stands = (refl, refl) }
    ∴ record { line = refl; complete = refl; moment = refl; stands = record { own = refl; behind = refl; may = record { doing = _; busy = refl; begins_is = refl; may = refl } } }
    ∴ tt

-- The same 3,600 seconds after.
abbrev later_commit_run : Setup
later_commit_run = run_of (
    Do 0 (Mount false)
    ∷ Do 0 (Create (codes "/f") 420)
    ∷ Do 0 (Write 1 0 (120 ∷ []))
    ∷ Begin 0 (Flush 1)
    ∷ Step 0
    ∷ Step 0
    ∷ Tick 3600
    ∷ Step 0
    ∷ []
    )

abbrev later_commit_journal : List Act
later_commit_journal =
    entry 1 0 (Mounted 1)
    ∷ entry 1 0 (Answered (Fine 1 0 0 0))
    ∷ entry 2 0 (Opened 1 2)
    ∷ entry 2 0 (Answered (Fine 1 2 0 0))
    ∷ entry 3 0 (Answered (Fine 1 0 0 0))
    ∷ entry 5 0 Quiet
    ∷ entry 6 0 Quiet
    ∷ entry_at 4600 7 255 (Ticked 3600)
    ∷ []

later_commit_is_allowed : AllAllowed (at_start later_commit_run) later_commit_journal
unfolding journals_compute
later_commit_is_allowed =
    record { line = refl; complete = refl; moment = refl; stands = record { own = refl; behind = refl; may = record { doing = _; busy = refl; begins_is = refl; may = record { ready = refl; transacts = refl; same = refl } } } }
    ∴ record { line = refl; complete = refl; moment = refl; stands = record { own = refl; behind = refl; may = record { doing = _; busy = refl; begins_is = refl; may = Decided _ refl refl } } }
    ∴ record { line = refl; complete = refl; moment = refl; stands = record { own = refl; behind = refl; may = record { doing = _; busy = refl; begins_is = refl; may = record { ready = refl; transacts = refl; same = refl } } } }
    ∴ record { line = refl; complete = refl; moment = refl; stands = record { own = refl; behind = refl; may = record { doing = _; busy = refl; begins_is = refl; may = Decided _ refl refl } } }
    ∴ record { line = refl; complete = refl; moment = refl; stands = record { own = refl; behind = refl; may = record { doing = _; busy = refl; begins_is = refl; may = AtOnce (record { ready = refl; first = refl; same = refl }) } } }
    ∴ record { line = refl; complete = refl; moment = refl; stands = record { own = refl; behind = refl; may = record { doing = _; busy = refl; begins_is = refl; may = refl } } }
    ∴ record { line = refl; complete = refl; moment = refl; stands = record { own = refl; behind = refl; may = record { doing = _; busy = refl; begins_is = refl; may = refl } } }
    ∴ record { line = refl; complete = refl; moment = refl; stands = (refl, refl) }
    ∴ tt

-- a commit refused for its lateness one second too early
refused_too_early : (more : List Act) → AllAllowed (at_start late_commit_run) (take 9 late_commit_journal ++ entry_at 4599 8 0 (Answered (ToldRefused (TimedOut 1000 4599))) ∷ more) → ⊥
unfolding journals_compute
refused_too_early more all =
    let h = entry_is_allowed (at_start late_commit_run) (take 9 late_commit_journal) (entry_at 4599 8 0 (Answered (ToldRefused (TimedOut 1000 4599)))) more all in
    let step = own_step h.stands.may refl in let late : 4600 ≤ 4599 = timed_out_late (refused_by_cause refl refl refl step) in absurd (omega (arith, late))

-- a commit that comes too late
commit_too_late : (more : List Act) → AllAllowed (at_start later_commit_run) (later_commit_journal ++ entry_at 4600 8 0 (Commit 2 0 1 0) ∷ more) → ⊥
unfolding journals_compute
commit_too_late more all =
    let h = entry_is_allowed (at_start later_commit_run) later_commit_journal (entry_at 4600 8 0 (Commit 2 0 1 0)) more all in
    let step = own_step h.stands.may refl in let early = step.in_time in absurd (omega (arith, early))

-- A block that a client keeps, which another one misses.
abbrev pub kept_block_run : Setup
kept_block_run = run_of (
    Do 0 (Mount true)
    ∷ Do 1 (Mount false)
    ∷ Do 0 (Create (codes "/w") 420)
    ∷ Do 0 (Write 1 0 (replicate 4 97))
    ∷ Do 0 (Close 1)
    ∷ Do 1 (Open (codes "/w"))
    ∷ Do 1 (Read 1 0 4)
    ∷ Do 1 Upload
    ∷ Drain 1
    ∷ Do 0 Upload
    ∷ Do 0 Upload
    ∷ []
    )

abbrev pub kept_block_journal : List Act
kept_block_journal =
    entry 1 0 (Mounted 1)
    ∷ entry 1 0 (Answered (Fine 1 0 0 0))
    ∷ entry 2 1 (Mounted 2)
    ∷ entry 2 1 (Answered (Fine 2 0 0 0))
    ∷ entry 3 0 (Opened 1 2)
    ∷ entry 3 0 (Answered (Fine 1 2 0 0))
    ∷ entry 4 0 (Answered (Fine 4 0 0 0))
    ∷ entry 5 0 Quiet
    ∷ entry 5 0 Quiet
    ∷ entry 5 0 (Commit 2 0 4 1)
    ∷ entry 5 0 (Answered (Fine 0 0 0 0))
    ∷ entry 6 1 (Opened 1 2)
    ∷ entry 6 1 (Answered (Fine 1 2 0 0))
    ∷ entry 7 1 (Look 2 0)
    ∷ entry 7 1 (Miss 2 0)
    ∷ entry 7 1 (Look 2 0)
    ∷ entry 7 1 (Answered (ToldRefused (TryAgain 10)))
    ∷ entry 8 1 (Answered (Fine 0 0 0 0))
    ∷ entry 9 255 (Answered (Fine 0 0 0 0))
    ∷ entry 10 0 (Settled 10)
    ∷ entry 10 0 (Answered (Fine 1 0 4 1))
    ∷ []

kept_block_is_allowed : AllAllowed (at_start kept_block_run) kept_block_journal
unfolding journals_compute
kept_block_is_allowed =
    record { line = refl; complete = refl; moment = refl; stands = record { own = refl; behind = refl; may = record { doing = _; busy = refl; begins_is = refl; may = record { ready = refl; transacts = refl; same = refl } } } }
    ∴ record { line = refl; complete = refl; moment = refl; stands = record { own = refl; behind = refl; may = record { doing = _; busy = refl; begins_is = refl; may = Decided _ refl refl } } }
    ∴ record { line = refl; complete = refl; moment = refl; stands = record { own = refl; behind = refl; may = record { doing = _; busy = refl; begins_is = refl; may = record { ready = refl; transacts = refl; same = refl } } } }
    ∴ record { line = refl; complete = refl; moment = refl; stands = record { own = refl; behind = refl; may = record { doing = _; busy = refl; begins_is = refl; may = Decided _ refl refl } } }
    ∴ record { line = refl; complete = refl; moment = refl; stands = record { own = refl; behind = refl; may = record { doing = _; busy = refl; begins_is = refl; may = record { ready = refl; transacts = refl; same = refl } } } }
    ∴ record { line = refl; complete = refl; moment = refl; stands = record { own = refl; behind = refl; may = record { doing = _; busy = refl; begins_is = refl; may = Decided _ refl refl } } }
    ∴ record { line = refl; complete = refl; moment = refl; stands = record { own = refl; behind = refl; may = record { doing = _; busy = refl; begins_is = refl; may = AtOnce (record { ready = refl; first = refl; same = refl }) } } }
    ∴ record { line = refl; complete = refl; moment = refl; stands = record { own = refl; behind = refl; may = record { doing = _; busy = refl; begins_is = refl; may = refl } } }
    ∴ record { line = refl; complete = refl; moment = refl; stands = record { own = refl; behind = refl; may = record { doing = _; busy = refl; begins_is = refl; may = refl } } }
    ∴ record { line = refl; complete = refl; moment = refl; stands = record { own = refl; behind = refl; may = record { doing = _; busy = refl; begins_is = refl; may = record { requests = lit≤ tt; segment = refl; behind = refl; session = refl; file = refl; in_time = lit< tt; room = refl } } } }
    ∴ record { line = refl; complete = refl; moment = refl; stands = record { own = refl; behind = refl; may = record { doing = _; busy = refl; begins_is = refl; may = Decided _ refl refl } } }
    ∴ record { line = refl; complete = refl; moment = refl; stands = record { own = refl; behind = refl; may = record { doing = _; busy = refl; begins_is = refl; may = record { ready = refl; transacts = refl; same = refl } } } }
    ∴ record { line = refl; complete = refl; moment = refl; stands = record { own = refl; behind = refl; may = record { doing = _; busy = refl; begins_is = refl; may = Decided _ refl refl } } }
    ∴ record { line = refl; complete = refl; moment = refl; stands = record { own = refl; behind = refl; may = record { doing = _; busy = refl; begins_is = refl; may = record { goes_on = refl; file = (refl, refl); session = refl; there = refl } } } }
    ∴ record { line = refl; complete = refl; moment = refl; stands = record { own = refl; behind = refl; may = record { doing = _; busy = refl; begins_is = refl; may = record { goes_on = refl; file = _; opened = refl; own = refl; asked = _; at = refl; view = _; fresh = refl; gone = Owes 0 (ACommit 10) (lit≤ tt) (lit< tt) refl } } } }
    ∴ record { line = refl; complete = refl; moment = refl; stands = record { own = refl; behind = refl; may = record { doing = _; busy = refl; begins_is = refl; may = record { goes_on = refl; file = (refl, refl); session = refl; there = refl } } } }
    ∴ record { line = refl; complete = refl; moment = refl; stands = record { own = refl; behind = refl; may = record { doing = _; busy = refl; begins_is = refl; may = IsRefusedBy _ refl (BlockOwed 0 (ACommit 10) _ _ _ _ (InReading (record { misses = _; window = _; file = _; asked = _; stage = refl; opened = refl; part = refl; fresh = refl; begins = refl; ends = refl })) (lit≤ tt) (lit< tt) refl refl) refl } } }
    ∴ record { line = refl; complete = refl; moment = refl; stands = record { own = refl; behind = refl; may = record { doing = _; busy = refl; begins_is = refl; may = HasUploaded refl (FoundNone refl refl refl refl) } } }
    ∴ record { line = refl; complete = refl; moment = refl; stands = (refl, Ends refl refl) }
    ∴ record { line = refl; complete = refl; moment = refl; stands = record { own = refl; behind = refl; may = record { doing = _; busy = refl; begins_is = refl; may = record { ready = refl; uploads = refl; owed = refl } } } }
    ∴ record { line = refl; complete = refl; moment = refl; stands = record { own = refl; behind = refl; may = record { doing = _; busy = refl; begins_is = refl; may = HasUploaded refl (Sent 1 0 4 refl refl) } } }
    ∴ tt

-- a block said to be kept back, without another look
try_again_without_look : (more : List Act) → AllAllowed (at_start kept_block_run) (take 15 kept_block_journal ++ entry 7 1 (Answered (ToldRefused (TryAgain 10))) ∷ more) → ⊥
unfolding journals_compute
try_again_without_look more all =
    let h = entry_is_allowed (at_start kept_block_run) (take 15 kept_block_journal) (entry 7 1 (Answered (ToldRefused (TryAgain 10)))) more all in
    let step = own_step h.stands.may refl in try_again_after_look refl (refused_by_cause refl refl refl step)

-- another request than a look after a block wasn't found
quiet_after_a_miss : (more : List Act) → AllAllowed (at_start kept_block_run) (take 15 kept_block_journal ++ entry 7 1 Quiet ∷ more) → ⊥
unfolding journals_compute
quiet_after_a_miss more all =
    let h = entry_is_allowed (at_start kept_block_run) (take 15 kept_block_journal) (entry 7 1 Quiet) more all in
    let step = own_step h.stands.may refl in never step

-- a commit settled a second time
settled_twice : (more : List Act) → AllAllowed (at_start kept_block_run) (take 21 kept_block_journal ++ entry 11 0 (Settled 10) ∷ more) → ⊥
unfolding journals_compute
settled_twice more all =
    let h = entry_is_allowed (at_start kept_block_run) (take 21 kept_block_journal) (entry 11 0 (Settled 10)) more all in
    let step = own_step h.stands.may refl in never step.owed

-- a commit settled that isn't
settled_before_it_is_owed : (more : List Act) → AllAllowed (at_start kept_block_run) (take 19 kept_block_journal ++ entry 10 0 (Settled 11) ∷ more) → ⊥
unfolding journals_compute
settled_before_it_is_owed more all =
    let h = entry_is_allowed (at_start kept_block_run) (take 19 kept_block_journal) (entry 10 0 (Settled 11)) more all in
    let step = own_step h.stands.may refl in never step.owed

-- a commit settled by an upload of another client
settled_by_another_client : (more : List Act) → AllAllowed (at_start kept_block_run) (take 17 kept_block_journal ++ entry 8 1 (Settled 10) ∷ more) → ⊥
unfolding journals_compute
settled_by_another_client more all =
    let h = entry_is_allowed (at_start kept_block_run) (take 17 kept_block_journal) (entry 8 1 (Settled 10)) more all in
    let step = own_step h.stands.may refl in never step.owed

-- a commit settled by a wait for the uploads of another client
settled_in_another_wait : (more : List Act) → AllAllowed (at_start kept_block_run) (take 18 kept_block_journal ++ entry 9 255 (Settled 10) ∷ more) → ⊥
unfolding journals_compute
settled_in_another_wait more all =
    let h = entry_is_allowed (at_start kept_block_run) (take 18 kept_block_journal) (entry 9 255 (Settled 10)) more all in
    never (drain_settles h.stands.1)

-- an upload that finds no block, where one is kept
nothing_to_upload : (more : List Act) → AllAllowed (at_start kept_block_run) (take 19 kept_block_journal ++ entry 10 0 (Answered (Fine 0 0 0 0)) ∷ more) → ⊥
unfolding journals_compute
nothing_to_upload more all =
    let h = entry_is_allowed (at_start kept_block_run) (take 19 kept_block_journal) (entry 10 0 (Answered (Fine 0 0 0 0))) more all in
    let step = own_step h.stands.may refl in none_is_owed step refl
