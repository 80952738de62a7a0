-- Journals of changes of files and of uploads that no POSIX tree allows, by the first entry that may not stand.
use Rattle.std.proofs.Common.{◌≡◌, ◌<◌, ℕ, true, false, IsTrue, List, [], ◌∷◌, ◌++◌, take, refl, ap, codes, arith, ◌∙◌, lit≤, lit<}
use Rattle.jv_model.specs.declared.act.Act.{Act}
use Rattle.jv_model.specs.declared.act.ActKind.{ActKind}
use Rattle.jv_model.specs.declared.act.ActKind.TheVariants.{Mounted, Opened, Look, Commit, Truncated, Copied, Compacted, Quiet, Answered}
use Rattle.jv_model.specs.declared.act.Told.{Told}
use Rattle.jv_model.specs.declared.act.Told.TheVariants.{Fine, Refused as ToldRefused}
use Rattle.jv_model.specs.declared.fault.Fault.TheVariants.{Contended}
use Rattle.jv_model.specs.declared.fault.Busy.TheVariants.{Lists}
use Rattle.jv_model.specs.declared.op.Line.TheVariants.{Do, Drain}
use Rattle.jv_model.specs.declared.op.Op.TheVariants.{Mount, Create, Close, Flush, Write, Truncate, Copy, Compact}
use Rattle.jv_model.specs.promise.journal.Steps.{owes_none, Decided, AtOnce, HasCompacted, First, HasReplaced, is_failure}
use Rattle.jv_model.specs.promise.journal.State.{State}
use Rattle.jv_model.specs.promise.journal.Past.{Setup, at_start}
use Rattle.jv_model.specs.promise.journal.Legal.{AllAllowed, Sends, Ends, Drains, Fails as IsFailed}
use Rattle.jv_model_examples.proofs.refused.RefusalLaws.{entry_is_allowed, same_some, own_step, never, refused_by_cause, refused_for_a_change, compaction_is_short}
use Rattle.jv_model_examples.proofs.journals.JournalRuns.{run_of, entry, journals_compute, ◌∴◌}

abbrev told_in : ActKind → Told
told_in (Answered told) = told
told_in _ = Fine 0 0 0 0

abbrev cut_at : ActKind → ℕ
cut_at (Truncated inode len) = len
cut_at _ = 0

abbrev copied_count : ActKind → ℕ
copied_count (Copied source from target to len) = len
copied_count _ = 0

-- a wait for uploads ends when none of the client's commits is owed
drain_ends : {s : State} {client : ℕ} → Drains s client (Answered (Fine 0 0 0 0)) → IsTrue (owes_none s client)
drain_ends (Sends publish) = absurd publish
drain_ends (Ends none e) = none
drain_ends (IsFailed told fails e) = absurd (never (ap is_failure (ap told_in e) ∙ fails))

-- A file is cut, copied and compacted.
abbrev changes_run : Setup
changes_run = run_of (
    Do 0 (Mount false)
    ∷ Do 0 (Create (codes "/f") 420)
    ∷ Do 0 (Write 1 0 (97 ∷ []))
    ∷ Do 0 (Flush 1)
    ∷ Do 0 (Write 1 1 (98 ∷ []))
    ∷ Do 0 (Flush 1)
    ∷ Do 0 (Create (codes "/g") 420)
    ∷ Do 0 (Copy 1 1 2 0 5)
    ∷ Do 0 (Compact (codes "/f") 0)
    ∷ Do 0 (Truncate 1 6)
    ∷ []
    )

abbrev changes_journal : List Act
changes_journal =
    entry 1 0 (Mounted 1)
    ∷ entry 1 0 (Answered (Fine 1 0 0 0))
    ∷ entry 2 0 (Opened 1 2)
    ∷ entry 2 0 (Answered (Fine 1 2 0 0))
    ∷ entry 3 0 (Answered (Fine 1 0 0 0))
    ∷ entry 4 0 Quiet
    ∷ entry 4 0 Quiet
    ∷ entry 4 0 (Commit 2 0 1 0)
    ∷ entry 4 0 (Answered (Fine 0 0 0 0))
    ∷ entry 5 0 (Answered (Fine 1 0 0 0))
    ∷ entry 6 0 Quiet
    ∷ entry 6 0 Quiet
    ∷ entry 6 0 (Commit 2 1 1 0)
    ∷ entry 6 0 (Answered (Fine 0 0 0 0))
    ∷ entry 7 0 (Opened 2 3)
    ∷ entry 7 0 (Answered (Fine 2 3 0 0))
    ∷ entry 8 0 (Copied 2 1 3 0 1)
    ∷ entry 8 0 (Answered (Fine 1 0 0 0))
    ∷ entry 9 0 (Look 2 0)
    ∷ entry 9 0 Quiet
    ∷ entry 9 0 Quiet
    ∷ entry 9 0 Quiet
    ∷ entry 9 0 Quiet
    ∷ entry 9 0 (Compacted 2 0 0 2)
    ∷ entry 9 0 (Answered (Fine 2 1 0 0))
    ∷ entry 10 0 (Truncated 2 6)
    ∷ entry 10 0 (Answered (Fine 0 0 0 0))
    ∷ []

changes_is_allowed : AllAllowed (at_start changes_run) changes_journal
unfolding journals_compute
changes_is_allowed =
    record { line = refl; complete = refl; moment = refl; stands = record { own = refl; behind = refl; may = record { doing = _; busy = refl; begins_is = refl; may = record { ready = refl; transacts = refl; same = refl } } } }
    ∴ record { line = refl; complete = refl; moment = refl; stands = record { own = refl; behind = refl; may = record { doing = _; busy = refl; begins_is = refl; may = Decided _ refl refl } } }
    ∴ record { line = refl; complete = refl; moment = refl; stands = record { own = refl; behind = refl; may = record { doing = _; busy = refl; begins_is = refl; may = record { ready = refl; transacts = refl; same = refl } } } }
    ∴ record { line = refl; complete = refl; moment = refl; stands = record { own = refl; behind = refl; may = record { doing = _; busy = refl; begins_is = refl; may = Decided _ refl refl } } }
    ∴ record { line = refl; complete = refl; moment = refl; stands = record { own = refl; behind = refl; may = record { doing = _; busy = refl; begins_is = refl; may = AtOnce (record { ready = refl; first = refl; same = refl }) } } }
    ∴ record { line = refl; complete = refl; moment = refl; stands = record { own = refl; behind = refl; may = record { doing = _; busy = refl; begins_is = refl; may = refl } } }
    ∴ record { line = refl; complete = refl; moment = refl; stands = record { own = refl; behind = refl; may = record { doing = _; busy = refl; begins_is = refl; may = refl } } }
    ∴ record { line = refl; complete = refl; moment = refl; stands = record { own = refl; behind = refl; may = record { doing = _; busy = refl; begins_is = refl; may = record { requests = lit≤ tt; segment = refl; behind = refl; session = refl; file = refl; in_time = lit< tt; room = refl } } } }
    ∴ record { line = refl; complete = refl; moment = refl; stands = record { own = refl; behind = refl; may = record { doing = _; busy = refl; begins_is = refl; may = Decided _ refl refl } } }
    ∴ record { line = refl; complete = refl; moment = refl; stands = record { own = refl; behind = refl; may = record { doing = _; busy = refl; begins_is = refl; may = AtOnce (record { ready = refl; first = refl; same = refl }) } } }
    ∴ record { line = refl; complete = refl; moment = refl; stands = record { own = refl; behind = refl; may = record { doing = _; busy = refl; begins_is = refl; may = refl } } }
    ∴ record { line = refl; complete = refl; moment = refl; stands = record { own = refl; behind = refl; may = record { doing = _; busy = refl; begins_is = refl; may = refl } } }
    ∴ record { line = refl; complete = refl; moment = refl; stands = record { own = refl; behind = refl; may = record { doing = _; busy = refl; begins_is = refl; may = record { requests = lit≤ tt; segment = refl; behind = refl; session = refl; file = refl; in_time = lit< tt; room = refl } } } }
    ∴ record { line = refl; complete = refl; moment = refl; stands = record { own = refl; behind = refl; may = record { doing = _; busy = refl; begins_is = refl; may = Decided _ refl refl } } }
    ∴ record { line = refl; complete = refl; moment = refl; stands = record { own = refl; behind = refl; may = record { doing = _; busy = refl; begins_is = refl; may = record { ready = refl; transacts = refl; same = refl } } } }
    ∴ record { line = refl; complete = refl; moment = refl; stands = record { own = refl; behind = refl; may = record { doing = _; busy = refl; begins_is = refl; may = Decided _ refl refl } } }
    ∴ record { line = refl; complete = refl; moment = refl; stands = record { own = refl; behind = refl; may = record { doing = _; busy = refl; begins_is = refl; may = record { ready = refl; same = refl } } } }
    ∴ record { line = refl; complete = refl; moment = refl; stands = record { own = refl; behind = refl; may = record { doing = _; busy = refl; begins_is = refl; may = Decided _ refl refl } } }
    ∴ record { line = refl; complete = refl; moment = refl; stands = record { own = refl; behind = refl; may = record { doing = _; busy = refl; begins_is = refl; may = First refl refl } } }
    ∴ record { line = refl; complete = refl; moment = refl; stands = record { own = refl; behind = refl; may = record { doing = _; busy = refl; begins_is = refl; may = refl } } }
    ∴ record { line = refl; complete = refl; moment = refl; stands = record { own = refl; behind = refl; may = record { doing = _; busy = refl; begins_is = refl; may = refl } } }
    ∴ record { line = refl; complete = refl; moment = refl; stands = record { own = refl; behind = refl; may = record { doing = _; busy = refl; begins_is = refl; may = refl } } }
    ∴ record { line = refl; complete = refl; moment = refl; stands = record { own = refl; behind = refl; may = record { doing = _; busy = refl; begins_is = refl; may = refl } } }
    ∴ record { line = refl; complete = refl; moment = refl; stands = record { own = refl; behind = refl; may = record { doing = _; busy = refl; begins_is = refl; may = record { k = _; stage = refl; goes_on = refl; own = (refl, refl); rises = lit≤ tt; ends = lit≤ tt; session = refl; there = refl; in_time = refl } } } }
    ∴ record { line = refl; complete = refl; moment = refl; stands = record { own = refl; behind = refl; may = record { doing = _; busy = refl; begins_is = refl; may = HasCompacted (HasReplaced _ 2 1 refl refl (lit≤ tt) refl) } } }
    ∴ record { line = refl; complete = refl; moment = refl; stands = record { own = refl; behind = refl; may = record { doing = _; busy = refl; begins_is = refl; may = record { ready = refl; same = refl } } } }
    ∴ record { line = refl; complete = refl; moment = refl; stands = record { own = refl; behind = refl; may = record { doing = _; busy = refl; begins_is = refl; may = Decided _ refl refl } } }
    ∴ tt

-- a truncation to another length than the one asked for
truncation_to_another_length : (more : List Act) → AllAllowed (at_start changes_run) (take 25 changes_journal ++ entry 10 0 (Truncated 2 5) ∷ more) → ⊥
unfolding journals_compute
truncation_to_another_length more all =
    let h = entry_is_allowed (at_start changes_run) (take 25 changes_journal) (entry 10 0 (Truncated 2 5)) more all in
    let step = own_step h.stands.may refl in let no : 6 ≡ 5 = ap cut_at (same_some step.same) in absurd (omega (arith, no))

-- a copy of more bytes than the file has
copy_of_more : (more : List Act) → AllAllowed (at_start changes_run) (take 16 changes_journal ++ entry 8 0 (Copied 2 1 3 0 5) ∷ more) → ⊥
unfolding journals_compute
copy_of_more more all =
    let h = entry_is_allowed (at_start changes_run) (take 16 changes_journal) (entry 8 0 (Copied 2 1 3 0 5)) more all in
    let step = own_step h.stands.may refl in let no : 1 ≡ 5 = ap copied_count (same_some step.same) in absurd (omega (arith, no))

-- a truncation that changes nothing though nothing refuses it
quiet_truncation : (more : List Act) → AllAllowed (at_start changes_run) (take 25 changes_journal ++ entry 10 0 Quiet ∷ more) → ⊥
unfolding journals_compute
quiet_truncation more all =
    let h = entry_is_allowed (at_start changes_run) (take 25 changes_journal) (entry 10 0 Quiet) more all in
    let step = own_step h.stands.may refl in never step

-- a compaction past the end of its window
compaction_past_its_window : (more : List Act) → AllAllowed (at_start changes_run) (take 23 changes_journal ++ entry 9 0 (Compacted 2 0 0 67108865) ∷ more) → ⊥
unfolding journals_compute
compaction_past_its_window more all =
    let h = entry_is_allowed (at_start changes_run) (take 23 changes_journal) (entry 9 0 (Compacted 2 0 0 67108865)) more all in
    let step = own_step h.stands.may refl in let no = step.ends in absurd (omega (arith, no))

-- a compaction of two records that is done without a replacement
compaction_replaces_nothing : (more : List Act) → AllAllowed (at_start changes_run) (take 19 changes_journal ++ entry 9 0 (Answered (Fine 2 2 0 0)) ∷ more) → ⊥
unfolding journals_compute
compaction_replaces_nothing more all =
    let h = entry_is_allowed (at_start changes_run) (take 19 changes_journal) (entry 9 0 (Answered (Fine 2 2 0 0))) more all in
    let step = own_step h.stands.may refl in let few : 2 < 2 = compaction_is_short refl step in absurd (omega (arith, few))

-- a compaction refused for another list, though nobody changed the file
compaction_contended_by_nobody : (more : List Act) → AllAllowed (at_start changes_run) (take 23 changes_journal ++ entry 9 0 (Answered (ToldRefused (Contended (Lists 2 1)))) ∷ more) → ⊥
unfolding journals_compute
compaction_contended_by_nobody more all =
    let h = entry_is_allowed (at_start changes_run) (take 23 changes_journal) (entry 9 0 (Answered (ToldRefused (Contended (Lists 2 1))))) more all in
    let step = own_step h.stands.may refl in never (refused_for_a_change (refused_by_cause refl refl refl step))

-- A client keeps a block, and a line waits for its upload.
abbrev kept_run : Setup
kept_run = run_of (
    Do 0 (Mount true)
    ∷ Do 0 (Create (codes "/w") 420)
    ∷ Do 0 (Write 1 0 (97 ∷ []))
    ∷ Do 0 (Close 1)
    ∷ Drain 0
    ∷ []
    )

abbrev kept_journal : List Act
kept_journal =
    entry 1 0 (Mounted 1)
    ∷ entry 1 0 (Answered (Fine 1 0 0 0))
    ∷ entry 2 0 (Opened 1 2)
    ∷ entry 2 0 (Answered (Fine 1 2 0 0))
    ∷ entry 3 0 (Answered (Fine 1 0 0 0))
    ∷ entry 4 0 Quiet
    ∷ entry 4 0 Quiet
    ∷ entry 4 0 (Commit 2 0 1 1)
    ∷ entry 4 0 (Answered (Fine 0 0 0 0))
    ∷ []

kept_is_allowed : AllAllowed (at_start kept_run) kept_journal
unfolding journals_compute
kept_is_allowed =
    record { line = refl; complete = refl; moment = refl; stands = record { own = refl; behind = refl; may = record { doing = _; busy = refl; begins_is = refl; may = record { ready = refl; transacts = refl; same = refl } } } }
    ∴ record { line = refl; complete = refl; moment = refl; stands = record { own = refl; behind = refl; may = record { doing = _; busy = refl; begins_is = refl; may = Decided _ refl refl } } }
    ∴ record { line = refl; complete = refl; moment = refl; stands = record { own = refl; behind = refl; may = record { doing = _; busy = refl; begins_is = refl; may = record { ready = refl; transacts = refl; same = refl } } } }
    ∴ record { line = refl; complete = refl; moment = refl; stands = record { own = refl; behind = refl; may = record { doing = _; busy = refl; begins_is = refl; may = Decided _ refl refl } } }
    ∴ record { line = refl; complete = refl; moment = refl; stands = record { own = refl; behind = refl; may = record { doing = _; busy = refl; begins_is = refl; may = AtOnce (record { ready = refl; first = refl; same = refl }) } } }
    ∴ record { line = refl; complete = refl; moment = refl; stands = record { own = refl; behind = refl; may = record { doing = _; busy = refl; begins_is = refl; may = refl } } }
    ∴ record { line = refl; complete = refl; moment = refl; stands = record { own = refl; behind = refl; may = record { doing = _; busy = refl; begins_is = refl; may = refl } } }
    ∴ record { line = refl; complete = refl; moment = refl; stands = record { own = refl; behind = refl; may = record { doing = _; busy = refl; begins_is = refl; may = record { requests = lit≤ tt; segment = refl; behind = refl; session = refl; file = refl; in_time = lit< tt; room = refl } } } }
    ∴ record { line = refl; complete = refl; moment = refl; stands = record { own = refl; behind = refl; may = record { doing = _; busy = refl; begins_is = refl; may = Decided _ refl refl } } }
    ∴ tt

-- a wait for uploads that ends while a block is kept back
drain_ends_early : (more : List Act) → AllAllowed (at_start kept_run) (kept_journal ++ entry 5 255 (Answered (Fine 0 0 0 0)) ∷ more) → ⊥
unfolding journals_compute
drain_ends_early more all =
    let h = entry_is_allowed (at_start kept_run) kept_journal (entry 5 255 (Answered (Fine 0 0 0 0))) more all in
    never (drain_ends h.stands.1)

-- an entry of an uploading thread, where none runs
publish_without_threads : (more : List Act) → AllAllowed (at_start kept_run) (take 8 kept_journal ++ entry 4 255 Quiet ∷ more) → ⊥
unfolding journals_compute
publish_without_threads more all =
    let h = entry_is_allowed (at_start kept_run) (take 8 kept_journal) (entry 4 255 Quiet) more all in
    let no : 255 ≡ 0 = h.stands.own in absurd (omega (arith, no))
