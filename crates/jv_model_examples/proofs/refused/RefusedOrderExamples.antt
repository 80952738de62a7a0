-- Journals that no POSIX tree allows, since a refusal passes by one that comes before it, or an uploading thread comes
-- between a step's request and its answer.
use Rattle.std.proofs.Common.{◌≡◌, ℕ, Bool, true, false, ◌==◌, IsTrue, List, [], ◌∷◌, ◌++◌, take, is_some, Option, None, Some, refl, sym, ap, subst, codes, arith, ◌∙◌, lit≤, lit<}
use Rattle.jv_model.specs.declared.act.Act.{Act}
use Rattle.jv_model.specs.declared.act.ActKind.TheVariants.{Mounted, Meta, Opened, Look, Commit, Truncated, Settled, Expired, Quiet, Ticked, Answered}
use Rattle.jv_model.specs.declared.act.Told.TheVariants.{Fine, Refused as ToldRefused}
use Rattle.jv_model.specs.declared.fault.Fault.{Fault}
use Rattle.jv_model.specs.declared.fault.Fault.TheVariants.{NoSpace, Stale, TimedOut, Contended, TryAgain}
use Rattle.jv_model.specs.declared.fault.Gone.{Gone}
use Rattle.jv_model.specs.declared.fault.Gone.TheVariants.{Session, Node}
use Rattle.jv_model.specs.declared.fault.Busy.TheVariants.{Lists}
use Rattle.jv_model.specs.declared.op.Op.{Op}
use Rattle.jv_model.specs.declared.op.Line.TheVariants.{Do, Begin, Step, Tick}
use Rattle.jv_model.specs.declared.op.Op.TheVariants.{Mount, Create, Open, Flush, Write, Truncate, Unlink, Compact, Clean, Gc}
use Rattle.jv_model.specs.declared.profile.Does.{Does}
use Rattle.jv_model.specs.promise.tree.Tree.{node_at}
use Rattle.jv_model.specs.promise.client.ModelClient.{ModelClient, Compaction, Doing, Stage, Flush as ToFlush, Compacting}
use Rattle.jv_model.specs.promise.journal.Steps.{Start, IsRefusedIn, SessionGone, InodeGone, CommitLate, CommitTooLarge, NumberRefused, CompactionCrowded, CompactionLate, AnotherList, BlockOwed, MissedTooOften, Decided, AtOnce, CleanedUp, First, asks_rows, Refuses as IsRefusedBy}
use Rattle.jv_model.specs.promise.journal.State.{State, has_session}
use Rattle.jv_model.specs.promise.journal.Past.{Setup, at_start}
use Rattle.jv_model.specs.promise.journal.Legal.{AllAllowed}
use Rattle.jv_model_examples.proofs.journals.CleaningExamples.{expired_cleaner_run, expired_cleaner_journal}
use Rattle.jv_model_examples.proofs.refused.RefusalLaws.{entry_is_allowed, own_step, never, refused_by_cause}
use Rattle.jv_model_examples.proofs.refused.RefusedCommitsExamples.{kept_block_run, kept_block_journal}
use Rattle.jv_model_examples.proofs.journals.WritebackExamples.{drained_run, drained_journal}
use Rattle.jv_model_examples.proofs.journals.JournalRuns.{run_of, entry, entry_at, journals_compute, ◌∴◌}

-- what a compaction's last transaction is refused for once its session is there, and what once its file is, too
abbrev is_of_list : Fault → Bool
is_of_list (TimedOut started now) = true
is_of_list (Contended (Lists looked found)) = true
is_of_list _ = false

abbrev is_of_replacement : Fault → Bool
is_of_replacement NoSpace = true
is_of_replacement fault = is_of_list fault

abbrev inode_of : Compaction → Stage → ℕ
inode_of other (Compacting j) = j.view.inode
inode_of other _ = other.view.inode

has_its_session : {start : Start} {s : State} {client now : ℕ} {c : ModelClient} {o : Op} {does : Does} {flush : ToFlush} {moved : Bool} {k : Compaction} {fault : Fault}
    → is_of_replacement fault ≡ true → IsRefusedIn start s client now c (record { op = o; does = does; flush = flush; stage = Compacting k; moved = moved }) fault → has_session s.tree c ≡ true
has_its_session late (SessionGone asks gone e) = let no = ap is_of_replacement e in absurd (cc)
has_its_session late (InodeGone inode asks here given gone e) = let no = ap is_of_replacement e in absurd (cc)
has_its_session late (CommitLate segment asked past e) = let few = asked.requests in absurd (omega (arith, few))
has_its_session late (CommitTooLarge segment asked early large e) = let few = asked.requests in absurd (omega (arith, few))
has_its_session late (NumberRefused first crowded e) = absurd (omega (arith, first))
has_its_session late (CompactionCrowded j stage on here crowded e) = here
has_its_session late (CompactionLate j started stage on here there past e) = here
has_its_session late (AnotherList j looked found stage unchanged here there other again e) = here
has_its_session late (BlockOwed position owner from to view owed missed begins ends owes e) = let no = ap is_of_replacement e in absurd (cc)
has_its_session late (MissedTooOften window owed stage e) = absurd (cc)

has_its_file : {start : Start} {s : State} {client now : ℕ} {c : ModelClient} {o : Op} {does : Does} {flush : ToFlush} {moved : Bool} {k : Compaction} {fault : Fault}
    → is_of_list fault ≡ true → IsRefusedIn start s client now c (record { op = o; does = does; flush = flush; stage = Compacting k; moved = moved }) fault → IsTrue (is_some (node_at s.tree k.view.inode))
has_its_file late (SessionGone asks gone e) = let no = ap is_of_list e in absurd (cc)
has_its_file late (InodeGone inode asks here given gone e) = let no = ap is_of_list e in absurd (cc)
has_its_file late (CommitLate segment asked past e) = let few = asked.requests in absurd (omega (arith, few))
has_its_file late (CommitTooLarge segment asked early large e) = let few = asked.requests in absurd (omega (arith, few))
has_its_file late (NumberRefused first crowded e) = absurd (omega (arith, first))
has_its_file late (CompactionCrowded j stage on here crowded e) = let no = ap is_of_list e in absurd (cc)
has_its_file {s = s} {k = k} late (CompactionLate j started stage on here there past e) = subst (λ inode. IsTrue (is_some (node_at s.tree inode))) (sym (ap (inode_of k) stage)) there
has_its_file {s = s} {k = k} late (AnotherList j looked found stage unchanged here there other again e) = subst (λ inode. IsTrue (is_some (node_at s.tree inode))) (sym (ap (inode_of k) stage)) there
has_its_file late (BlockOwed position owner from to view owed missed begins ends owes e) = let no = ap is_of_list e in absurd (cc)
has_its_file late (MissedTooOften window owed stage e) = absurd (cc)

-- what is gone is told behind a request that may have been a transaction alone
abbrev is_stale : Fault → Bool
is_stale (Stale gone) = true
is_stale _ = false

asked_where_stale : {start : Start} {s : State} {client now : ℕ} {c : ModelClient} {d : Doing} {gone : Gone} → IsRefusedIn start s client now c d (Stale gone) → IsTrue (asks_rows c d)
asked_where_stale (SessionGone asks gone e) = asks
asked_where_stale (InodeGone inode asks here given gone e) = asks
asked_where_stale (CommitLate segment asked past e) = absurd (cc)
asked_where_stale (CommitTooLarge segment asked early large e) = absurd (cc)
asked_where_stale (NumberRefused first crowded e) = absurd (cc)
asked_where_stale (CompactionCrowded j stage on here crowded e) = absurd (cc)
asked_where_stale (CompactionLate j started stage on here there past e) = absurd (cc)
asked_where_stale (AnotherList j looked found stage unchanged here there other again e) = absurd (cc)
asked_where_stale (BlockOwed position owner from to view owed missed begins ends owes e) = absurd (cc)
asked_where_stale (MissedTooOften window owed stage e) = absurd (cc)

-- A compaction whose session is expired meanwhile, whose file is cut, and that comes an hour late.
abbrev lost_compactor_run : Setup
lost_compactor_run = run_of (
    Do 0 (Mount false)
    ∷ Do 1 (Mount false)
    ∷ Do 0 (Create (codes "/f") 420)
    ∷ Do 0 (Write 1 0 (97 ∷ []))
    ∷ Do 0 (Flush 1)
    ∷ Do 0 (Write 1 1 (98 ∷ []))
    ∷ Do 0 (Flush 1)
    ∷ Begin 0 (Compact (codes "/f") 0)
    ∷ Step 0
    ∷ Step 0
    ∷ Do 1 (Open (codes "/f"))
    ∷ Do 1 (Truncate 1 0)
    ∷ Tick 3600
    ∷ Do 1 Clean
    ∷ Step 0
    ∷ []
    )

abbrev lost_compactor_journal : List Act
lost_compactor_journal =
    entry 1 0 (Mounted 1)
    ∷ entry 1 0 (Answered (Fine 1 0 0 0))
    ∷ entry 2 1 (Mounted 2)
    ∷ entry 2 1 (Answered (Fine 2 0 0 0))
    ∷ entry 3 0 (Opened 1 2)
    ∷ entry 3 0 (Answered (Fine 1 2 0 0))
    ∷ entry 4 0 (Answered (Fine 1 0 0 0))
    ∷ entry 5 0 Quiet
    ∷ entry 5 0 Quiet
    ∷ entry 5 0 (Commit 2 0 1 0)
    ∷ entry 5 0 (Answered (Fine 0 0 0 0))
    ∷ entry 6 0 (Answered (Fine 1 0 0 0))
    ∷ entry 7 0 Quiet
    ∷ entry 7 0 Quiet
    ∷ entry 7 0 (Commit 2 1 1 0)
    ∷ entry 7 0 (Answered (Fine 0 0 0 0))
    ∷ entry 9 0 (Look 2 0)
    ∷ entry 10 0 Quiet
    ∷ entry 11 1 (Opened 1 2)
    ∷ entry 11 1 (Answered (Fine 1 2 0 0))
    ∷ entry 12 1 (Truncated 2 0)
    ∷ entry 12 1 (Answered (Fine 0 0 0 0))
    ∷ entry_at 4600 13 255 (Ticked 3600)
    ∷ entry_at 4600 14 1 (Expired 1)
    ∷ entry_at 4600 14 1 Quiet
    ∷ entry_at 4600 14 1 Quiet
    ∷ entry_at 4600 14 1 Quiet
    ∷ entry_at 4600 14 1 Quiet
    ∷ entry_at 4600 14 1 (Answered (Fine 1 0 0 0))
    ∷ entry_at 4600 15 0 Quiet
    ∷ []

lost_compactor_is_allowed : AllAllowed (at_start lost_compactor_run) lost_compactor_journal
unfolding journals_compute
lost_compactor_is_allowed =
    record { line = refl; complete = refl; moment = refl; stands = record { own = refl; behind = refl; may = record { doing = _; busy = refl; begins_is = refl; may = record { ready = refl; transacts = refl; same = refl } } } }
    ∴ record { line = refl; complete = refl; moment = refl; stands = record { own = refl; behind = refl; may = record { doing = _; busy = refl; begins_is = refl; may = Decided _ refl refl } } }
    ∴ record { line = refl; complete = refl; moment = refl; stands = record { own = refl; behind = refl; may = record { doing = _; busy = refl; begins_is = refl; may = record { ready = refl; transacts = refl; same = refl } } } }
    ∴ record { line = refl; complete = refl; moment = refl; stands = record { own = refl; behind = refl; may = record { doing = _; busy = refl; begins_is = refl; may = Decided _ refl refl } } }
    ∴ record { line = refl; complete = refl; moment = refl; stands = record { own = refl; behind = refl; may = record { doing = _; busy = refl; begins_is = refl; may = record { ready = refl; transacts = refl; same = refl } } } }
    ∴ record { line = refl; complete = refl; moment = refl; stands = record { own = refl; behind = refl; may = record { doing = _; busy = refl; begins_is = refl; may = Decided _ refl refl } } }
    ∴ record { line = refl; complete = refl; moment = refl; stands = record { own = refl; behind = refl; may = record { doing = _; busy = refl; begins_is = refl; may = AtOnce (record { ready = refl; first = refl; same = refl }) } } }
    ∴ record { line = refl; complete = refl; moment = refl; stands = record { own = refl; behind = refl; may = record { doing = _; busy = refl; begins_is = refl; may = refl } } }
    ∴ record { line = refl; complete = refl; moment = refl; stands = record { own = refl; behind = refl; may = record { doing = _; busy = refl; begins_is = refl; may = refl } } }
    ∴ record { line = refl; complete = refl; moment = refl; stands = record { own = refl; behind = refl; may = record { doing = _; busy = refl; begins_is = refl; may = record { requests = lit≤ tt; segment = refl; behind = refl; session = refl; file = refl; in_time = lit< tt; room = refl } } } }
    ∴ record { line = refl; complete = refl; moment = refl; stands = record { own = refl; behind = refl; may = record { doing = _; busy = refl; begins_is = refl; may = Decided _ refl refl } } }
    ∴ record { line = refl; complete = refl; moment = refl; stands = record { own = refl; behind = refl; may = record { doing = _; busy = refl; begins_is = refl; may = AtOnce (record { ready = refl; first = refl; same = refl }) } } }
    ∴ record { line = refl; complete = refl; moment = refl; stands = record { own = refl; behind = refl; may = record { doing = _; busy = refl; begins_is = refl; may = refl } } }
    ∴ record { line = refl; complete = refl; moment = refl; stands = record { own = refl; behind = refl; may = record { doing = _; busy = refl; begins_is = refl; may = refl } } }
    ∴ record { line = refl; complete = refl; moment = refl; stands = record { own = refl; behind = refl; may = record { doing = _; busy = refl; begins_is = refl; may = record { requests = lit≤ tt; segment = refl; behind = refl; session = refl; file = refl; in_time = lit< tt; room = refl } } } }
    ∴ record { line = refl; complete = refl; moment = refl; stands = record { own = refl; behind = refl; may = record { doing = _; busy = refl; begins_is = refl; may = Decided _ refl refl } } }
    ∴ record { line = refl; complete = refl; moment = refl; stands = record { own = refl; behind = refl; may = record { doing = _; busy = refl; begins_is = refl; may = First refl refl } } }
    ∴ record { line = refl; complete = refl; moment = refl; stands = record { own = refl; behind = refl; may = record { doing = _; busy = refl; begins_is = refl; may = refl } } }
    ∴ record { line = refl; complete = refl; moment = refl; stands = record { own = refl; behind = refl; may = record { doing = _; busy = refl; begins_is = refl; may = record { ready = refl; transacts = refl; same = refl } } } }
    ∴ record { line = refl; complete = refl; moment = refl; stands = record { own = refl; behind = refl; may = record { doing = _; busy = refl; begins_is = refl; may = Decided _ refl refl } } }
    ∴ record { line = refl; complete = refl; moment = refl; stands = record { own = refl; behind = refl; may = record { doing = _; busy = refl; begins_is = refl; may = record { ready = refl; same = refl } } } }
    ∴ record { line = refl; complete = refl; moment = refl; stands = record { own = refl; behind = refl; may = record { doing = _; busy = refl; begins_is = refl; may = Decided _ refl refl } } }
    ∴ record { line = refl; complete = refl; moment = refl; stands = (refl, refl) }
    ∴ record { line = refl; complete = refl; moment = refl; stands = record { own = refl; behind = refl; may = record { doing = _; busy = refl; begins_is = refl; may = (record { k = _; stage = refl; at = refl; few = lit< tt; session = refl }, refl) } } }
    ∴ record { line = refl; complete = refl; moment = refl; stands = record { own = refl; behind = refl; may = record { doing = _; busy = refl; begins_is = refl; may = refl } } }
    ∴ record { line = refl; complete = refl; moment = refl; stands = record { own = refl; behind = refl; may = record { doing = _; busy = refl; begins_is = refl; may = refl } } }
    ∴ record { line = refl; complete = refl; moment = refl; stands = record { own = refl; behind = refl; may = record { doing = _; busy = refl; begins_is = refl; may = refl } } }
    ∴ record { line = refl; complete = refl; moment = refl; stands = record { own = refl; behind = refl; may = record { doing = _; busy = refl; begins_is = refl; may = refl } } }
    ∴ record { line = refl; complete = refl; moment = refl; stands = record { own = refl; behind = refl; may = record { doing = _; busy = refl; begins_is = refl; may = CleanedUp (record { k = _; stage = refl; session = refl; over = refl; same = refl }) } } }
    ∴ record { line = refl; complete = refl; moment = refl; stands = record { own = refl; behind = refl; may = record { doing = _; busy = refl; begins_is = refl; may = refl } } }
    ∴ tt

-- refused for another list
another_list_without_session : (more : List Act) → AllAllowed (at_start lost_compactor_run) (lost_compactor_journal ++ entry_at 4600 15 0 (Answered (ToldRefused (Contended (Lists 2 0)))) ∷ more) → ⊥
unfolding journals_compute
another_list_without_session more all =
    let h = entry_is_allowed (at_start lost_compactor_run) lost_compactor_journal (entry_at 4600 15 0 (Answered (ToldRefused (Contended (Lists 2 0))))) more all in
    let step = own_step h.stands.may refl in never (has_its_session refl (refused_by_cause refl refl refl step))

-- refused for its time
late_without_session : (more : List Act) → AllAllowed (at_start lost_compactor_run) (lost_compactor_journal ++ entry_at 4600 15 0 (Answered (ToldRefused (TimedOut 1000 4600))) ∷ more) → ⊥
unfolding journals_compute
late_without_session more all =
    let h = entry_is_allowed (at_start lost_compactor_run) lost_compactor_journal (entry_at 4600 15 0 (Answered (ToldRefused (TimedOut 1000 4600)))) more all in
    let step = own_step h.stands.may refl in never (has_its_session refl (refused_by_cause refl refl refl step))

-- refused for a number near its end
crowded_without_session : (more : List Act) → AllAllowed (at_start lost_compactor_run) (lost_compactor_journal ++ entry_at 4600 15 0 (Answered (ToldRefused NoSpace)) ∷ more) → ⊥
unfolding journals_compute
crowded_without_session more all =
    let h = entry_is_allowed (at_start lost_compactor_run) lost_compactor_journal (entry_at 4600 15 0 (Answered (ToldRefused NoSpace))) more all in
    let step = own_step h.stands.may refl in never (has_its_session refl (refused_by_cause refl refl refl step))

-- it is refused for its session
lost_compactor_is_told : AllAllowed (at_start lost_compactor_run) (lost_compactor_journal ++ entry_at 4600 15 0 (Answered (ToldRefused (Stale (Session 1)))) ∷ [])
unfolding journals_compute
lost_compactor_is_told =
    record { line = refl; complete = refl; moment = refl; stands = record { own = refl; behind = refl; may = record { doing = _; busy = refl; begins_is = refl; may = record { ready = refl; transacts = refl; same = refl } } } }
    ∴ record { line = refl; complete = refl; moment = refl; stands = record { own = refl; behind = refl; may = record { doing = _; busy = refl; begins_is = refl; may = Decided _ refl refl } } }
    ∴ record { line = refl; complete = refl; moment = refl; stands = record { own = refl; behind = refl; may = record { doing = _; busy = refl; begins_is = refl; may = record { ready = refl; transacts = refl; same = refl } } } }
    ∴ record { line = refl; complete = refl; moment = refl; stands = record { own = refl; behind = refl; may = record { doing = _; busy = refl; begins_is = refl; may = Decided _ refl refl } } }
    ∴ record { line = refl; complete = refl; moment = refl; stands = record { own = refl; behind = refl; may = record { doing = _; busy = refl; begins_is = refl; may = record { ready = refl; transacts = refl; same = refl } } } }
    ∴ record { line = refl; complete = refl; moment = refl; stands = record { own = refl; behind = refl; may = record { doing = _; busy = refl; begins_is = refl; may = Decided _ refl refl } } }
    ∴ record { line = refl; complete = refl; moment = refl; stands = record { own = refl; behind = refl; may = record { doing = _; busy = refl; begins_is = refl; may = AtOnce (record { ready = refl; first = refl; same = refl }) } } }
    ∴ record { line = refl; complete = refl; moment = refl; stands = record { own = refl; behind = refl; may = record { doing = _; busy = refl; begins_is = refl; may = refl } } }
    ∴ record { line = refl; complete = refl; moment = refl; stands = record { own = refl; behind = refl; may = record { doing = _; busy = refl; begins_is = refl; may = refl } } }
    ∴ record { line = refl; complete = refl; moment = refl; stands = record { own = refl; behind = refl; may = record { doing = _; busy = refl; begins_is = refl; may = record { requests = lit≤ tt; segment = refl; behind = refl; session = refl; file = refl; in_time = lit< tt; room = refl } } } }
    ∴ record { line = refl; complete = refl; moment = refl; stands = record { own = refl; behind = refl; may = record { doing = _; busy = refl; begins_is = refl; may = Decided _ refl refl } } }
    ∴ record { line = refl; complete = refl; moment = refl; stands = record { own = refl; behind = refl; may = record { doing = _; busy = refl; begins_is = refl; may = AtOnce (record { ready = refl; first = refl; same = refl }) } } }
    ∴ record { line = refl; complete = refl; moment = refl; stands = record { own = refl; behind = refl; may = record { doing = _; busy = refl; begins_is = refl; may = refl } } }
    ∴ record { line = refl; complete = refl; moment = refl; stands = record { own = refl; behind = refl; may = record { doing = _; busy = refl; begins_is = refl; may = refl } } }
    ∴ record { line = refl; complete = refl; moment = refl; stands = record { own = refl; behind = refl; may = record { doing = _; busy = refl; begins_is = refl; may = record { requests = lit≤ tt; segment = refl; behind = refl; session = refl; file = refl; in_time = lit< tt; room = refl } } } }
    ∴ record { line = refl; complete = refl; moment = refl; stands = record { own = refl; behind = refl; may = record { doing = _; busy = refl; begins_is = refl; may = Decided _ refl refl } } }
    ∴ record { line = refl; complete = refl; moment = refl; stands = record { own = refl; behind = refl; may = record { doing = _; busy = refl; begins_is = refl; may = First refl refl } } }
    ∴ record { line = refl; complete = refl; moment = refl; stands = record { own = refl; behind = refl; may = record { doing = _; busy = refl; begins_is = refl; may = refl } } }
    ∴ record { line = refl; complete = refl; moment = refl; stands = record { own = refl; behind = refl; may = record { doing = _; busy = refl; begins_is = refl; may = record { ready = refl; transacts = refl; same = refl } } } }
    ∴ record { line = refl; complete = refl; moment = refl; stands = record { own = refl; behind = refl; may = record { doing = _; busy = refl; begins_is = refl; may = Decided _ refl refl } } }
    ∴ record { line = refl; complete = refl; moment = refl; stands = record { own = refl; behind = refl; may = record { doing = _; busy = refl; begins_is = refl; may = record { ready = refl; same = refl } } } }
    ∴ record { line = refl; complete = refl; moment = refl; stands = record { own = refl; behind = refl; may = record { doing = _; busy = refl; begins_is = refl; may = Decided _ refl refl } } }
    ∴ record { line = refl; complete = refl; moment = refl; stands = (refl, refl) }
    ∴ record { line = refl; complete = refl; moment = refl; stands = record { own = refl; behind = refl; may = record { doing = _; busy = refl; begins_is = refl; may = (record { k = _; stage = refl; at = refl; few = lit< tt; session = refl }, refl) } } }
    ∴ record { line = refl; complete = refl; moment = refl; stands = record { own = refl; behind = refl; may = record { doing = _; busy = refl; begins_is = refl; may = refl } } }
    ∴ record { line = refl; complete = refl; moment = refl; stands = record { own = refl; behind = refl; may = record { doing = _; busy = refl; begins_is = refl; may = refl } } }
    ∴ record { line = refl; complete = refl; moment = refl; stands = record { own = refl; behind = refl; may = record { doing = _; busy = refl; begins_is = refl; may = refl } } }
    ∴ record { line = refl; complete = refl; moment = refl; stands = record { own = refl; behind = refl; may = record { doing = _; busy = refl; begins_is = refl; may = refl } } }
    ∴ record { line = refl; complete = refl; moment = refl; stands = record { own = refl; behind = refl; may = record { doing = _; busy = refl; begins_is = refl; may = CleanedUp (record { k = _; stage = refl; session = refl; over = refl; same = refl }) } } }
    ∴ record { line = refl; complete = refl; moment = refl; stands = record { own = refl; behind = refl; may = record { doing = _; busy = refl; begins_is = refl; may = refl } } }
    ∴ record { line = refl; complete = refl; moment = refl; stands = record { own = refl; behind = refl; may = record { doing = _; busy = refl; begins_is = refl; may = IsRefusedBy _ refl (SessionGone refl refl refl) refl } } }
    ∴ tt

-- A compaction whose file is removed meanwhile, and that comes an hour late.
abbrev compacted_removed_run : Setup
compacted_removed_run = run_of (
    Do 0 (Mount false)
    ∷ Do 1 (Mount false)
    ∷ Do 0 (Create (codes "/f") 420)
    ∷ Do 0 (Write 1 0 (97 ∷ []))
    ∷ Do 0 (Flush 1)
    ∷ Do 0 (Write 1 1 (98 ∷ []))
    ∷ Do 0 (Flush 1)
    ∷ Begin 0 (Compact (codes "/f") 0)
    ∷ Step 0
    ∷ Step 0
    ∷ Do 1 (Unlink (codes "/f"))
    ∷ Tick 3600
    ∷ Step 0
    ∷ []
    )

abbrev compacted_removed_journal : List Act
compacted_removed_journal =
    entry 1 0 (Mounted 1)
    ∷ entry 1 0 (Answered (Fine 1 0 0 0))
    ∷ entry 2 1 (Mounted 2)
    ∷ entry 2 1 (Answered (Fine 2 0 0 0))
    ∷ entry 3 0 (Opened 1 2)
    ∷ entry 3 0 (Answered (Fine 1 2 0 0))
    ∷ entry 4 0 (Answered (Fine 1 0 0 0))
    ∷ entry 5 0 Quiet
    ∷ entry 5 0 Quiet
    ∷ entry 5 0 (Commit 2 0 1 0)
    ∷ entry 5 0 (Answered (Fine 0 0 0 0))
    ∷ entry 6 0 (Answered (Fine 1 0 0 0))
    ∷ entry 7 0 Quiet
    ∷ entry 7 0 Quiet
    ∷ entry 7 0 (Commit 2 1 1 0)
    ∷ entry 7 0 (Answered (Fine 0 0 0 0))
    ∷ entry 9 0 (Look 2 0)
    ∷ entry 10 0 Quiet
    ∷ entry 11 1 Meta
    ∷ entry 11 1 (Answered (Fine 0 0 0 0))
    ∷ entry_at 4600 12 255 (Ticked 3600)
    ∷ entry_at 4600 13 0 Quiet
    ∷ []

compacted_removed_is_allowed : AllAllowed (at_start compacted_removed_run) compacted_removed_journal
unfolding journals_compute
compacted_removed_is_allowed =
    record { line = refl; complete = refl; moment = refl; stands = record { own = refl; behind = refl; may = record { doing = _; busy = refl; begins_is = refl; may = record { ready = refl; transacts = refl; same = refl } } } }
    ∴ record { line = refl; complete = refl; moment = refl; stands = record { own = refl; behind = refl; may = record { doing = _; busy = refl; begins_is = refl; may = Decided _ refl refl } } }
    ∴ record { line = refl; complete = refl; moment = refl; stands = record { own = refl; behind = refl; may = record { doing = _; busy = refl; begins_is = refl; may = record { ready = refl; transacts = refl; same = refl } } } }
    ∴ record { line = refl; complete = refl; moment = refl; stands = record { own = refl; behind = refl; may = record { doing = _; busy = refl; begins_is = refl; may = Decided _ refl refl } } }
    ∴ record { line = refl; complete = refl; moment = refl; stands = record { own = refl; behind = refl; may = record { doing = _; busy = refl; begins_is = refl; may = record { ready = refl; transacts = refl; same = refl } } } }
    ∴ record { line = refl; complete = refl; moment = refl; stands = record { own = refl; behind = refl; may = record { doing = _; busy = refl; begins_is = refl; may = Decided _ refl refl } } }
    ∴ record { line = refl; complete = refl; moment = refl; stands = record { own = refl; behind = refl; may = record { doing = _; busy = refl; begins_is = refl; may = AtOnce (record { ready = refl; first = refl; same = refl }) } } }
    ∴ record { line = refl; complete = refl; moment = refl; stands = record { own = refl; behind = refl; may = record { doing = _; busy = refl; begins_is = refl; may = refl } } }
    ∴ record { line = refl; complete = refl; moment = refl; stands = record { own = refl; behind = refl; may = record { doing = _; busy = refl; begins_is = refl; may = refl } } }
    ∴ record { line = refl; complete = refl; moment = refl; stands = record { own = refl; behind = refl; may = record { doing = _; busy = refl; begins_is = refl; may = record { requests = lit≤ tt; segment = refl; behind = refl; session = refl; file = refl; in_time = lit< tt; room = refl } } } }
    ∴ record { line = refl; complete = refl; moment = refl; stands = record { own = refl; behind = refl; may = record { doing = _; busy = refl; begins_is = refl; may = Decided _ refl refl } } }
    ∴ record { line = refl; complete = refl; moment = refl; stands = record { own = refl; behind = refl; may = record { doing = _; busy = refl; begins_is = refl; may = AtOnce (record { ready = refl; first = refl; same = refl }) } } }
    ∴ record { line = refl; complete = refl; moment = refl; stands = record { own = refl; behind = refl; may = record { doing = _; busy = refl; begins_is = refl; may = refl } } }
    ∴ record { line = refl; complete = refl; moment = refl; stands = record { own = refl; behind = refl; may = record { doing = _; busy = refl; begins_is = refl; may = refl } } }
    ∴ record { line = refl; complete = refl; moment = refl; stands = record { own = refl; behind = refl; may = record { doing = _; busy = refl; begins_is = refl; may = record { requests = lit≤ tt; segment = refl; behind = refl; session = refl; file = refl; in_time = lit< tt; room = refl } } } }
    ∴ record { line = refl; complete = refl; moment = refl; stands = record { own = refl; behind = refl; may = record { doing = _; busy = refl; begins_is = refl; may = Decided _ refl refl } } }
    ∴ record { line = refl; complete = refl; moment = refl; stands = record { own = refl; behind = refl; may = record { doing = _; busy = refl; begins_is = refl; may = First refl refl } } }
    ∴ record { line = refl; complete = refl; moment = refl; stands = record { own = refl; behind = refl; may = record { doing = _; busy = refl; begins_is = refl; may = refl } } }
    ∴ record { line = refl; complete = refl; moment = refl; stands = record { own = refl; behind = refl; may = record { doing = _; busy = refl; begins_is = refl; may = record { ready = refl; transacts = refl; same = refl } } } }
    ∴ record { line = refl; complete = refl; moment = refl; stands = record { own = refl; behind = refl; may = record { doing = _; busy = refl; begins_is = refl; may = Decided _ refl refl } } }
    ∴ record { line = refl; complete = refl; moment = refl; stands = (refl, refl) }
    ∴ record { line = refl; complete = refl; moment = refl; stands = record { own = refl; behind = refl; may = record { doing = _; busy = refl; begins_is = refl; may = refl } } }
    ∴ tt

-- refused for its time
late_without_file : (more : List Act) → AllAllowed (at_start compacted_removed_run) (compacted_removed_journal ++ entry_at 4600 13 0 (Answered (ToldRefused (TimedOut 1000 4600))) ∷ more) → ⊥
unfolding journals_compute
late_without_file more all =
    let h = entry_is_allowed (at_start compacted_removed_run) compacted_removed_journal (entry_at 4600 13 0 (Answered (ToldRefused (TimedOut 1000 4600)))) more all in
    let step = own_step h.stands.may refl in never (has_its_file refl (refused_by_cause refl refl refl step))

-- refused for another list
another_list_without_file : (more : List Act) → AllAllowed (at_start compacted_removed_run) (compacted_removed_journal ++ entry_at 4600 13 0 (Answered (ToldRefused (Contended (Lists 2 0)))) ∷ more) → ⊥
unfolding journals_compute
another_list_without_file more all =
    let h = entry_is_allowed (at_start compacted_removed_run) compacted_removed_journal (entry_at 4600 13 0 (Answered (ToldRefused (Contended (Lists 2 0))))) more all in
    let step = own_step h.stands.may refl in never (has_its_file refl (refused_by_cause refl refl refl step))

-- A collection whose session is gone lists a page of names, which asks no session.
abbrev expired_lister_run : Setup
expired_lister_run = run_of (
    Do 0 (Mount false)
    ∷ Do 1 (Mount false)
    ∷ Tick 60
    ∷ Do 1 Clean
    ∷ Do 0 (Gc false)
    ∷ []
    )

abbrev expired_lister_journal : List Act
expired_lister_journal =
    entry 1 0 (Mounted 1)
    ∷ entry 1 0 (Answered (Fine 1 0 0 0))
    ∷ entry 2 1 (Mounted 2)
    ∷ entry 2 1 (Answered (Fine 2 0 0 0))
    ∷ entry_at 1060 3 255 (Ticked 60)
    ∷ entry_at 1060 4 1 (Expired 1)
    ∷ entry_at 1060 4 1 Quiet
    ∷ entry_at 1060 4 1 Quiet
    ∷ entry_at 1060 4 1 Quiet
    ∷ entry_at 1060 4 1 Quiet
    ∷ entry_at 1060 4 1 (Answered (Fine 1 0 0 0))
    ∷ entry_at 1060 5 0 Quiet
    ∷ []

expired_lister_is_allowed : AllAllowed (at_start expired_lister_run) expired_lister_journal
unfolding journals_compute
expired_lister_is_allowed =
    record { line = refl; complete = refl; moment = refl; stands = record { own = refl; behind = refl; may = record { doing = _; busy = refl; begins_is = refl; may = record { ready = refl; transacts = refl; same = refl } } } }
    ∴ record { line = refl; complete = refl; moment = refl; stands = record { own = refl; behind = refl; may = record { doing = _; busy = refl; begins_is = refl; may = Decided _ refl refl } } }
    ∴ record { line = refl; complete = refl; moment = refl; stands = record { own = refl; behind = refl; may = record { doing = _; busy = refl; begins_is = refl; may = record { ready = refl; transacts = refl; same = refl } } } }
    ∴ record { line = refl; complete = refl; moment = refl; stands = record { own = refl; behind = refl; may = record { doing = _; busy = refl; begins_is = refl; may = Decided _ refl refl } } }
    ∴ record { line = refl; complete = refl; moment = refl; stands = (refl, refl) }
    ∴ record { line = refl; complete = refl; moment = refl; stands = record { own = refl; behind = refl; may = record { doing = _; busy = refl; begins_is = refl; may = (record { k = _; stage = refl; at = refl; few = lit< tt; session = refl }, refl) } } }
    ∴ record { line = refl; complete = refl; moment = refl; stands = record { own = refl; behind = refl; may = record { doing = _; busy = refl; begins_is = refl; may = refl } } }
    ∴ record { line = refl; complete = refl; moment = refl; stands = record { own = refl; behind = refl; may = record { doing = _; busy = refl; begins_is = refl; may = refl } } }
    ∴ record { line = refl; complete = refl; moment = refl; stands = record { own = refl; behind = refl; may = record { doing = _; busy = refl; begins_is = refl; may = refl } } }
    ∴ record { line = refl; complete = refl; moment = refl; stands = record { own = refl; behind = refl; may = record { doing = _; busy = refl; begins_is = refl; may = refl } } }
    ∴ record { line = refl; complete = refl; moment = refl; stands = record { own = refl; behind = refl; may = record { doing = _; busy = refl; begins_is = refl; may = CleanedUp (record { k = _; stage = refl; session = refl; over = refl; same = refl }) } } }
    ∴ record { line = refl; complete = refl; moment = refl; stands = record { own = refl; behind = refl; may = record { doing = _; busy = refl; begins_is = refl; may = refl } } }
    ∴ tt

-- refused for its session at the listing
stale_at_a_listing : (more : List Act) → AllAllowed (at_start expired_lister_run) (expired_lister_journal ++ entry_at 1060 5 0 (Answered (ToldRefused (Stale (Session 1)))) ∷ more) → ⊥
unfolding journals_compute
stale_at_a_listing more all =
    let h = entry_is_allowed (at_start expired_lister_run) expired_lister_journal (entry_at 1060 5 0 (Answered (ToldRefused (Stale (Session 1))))) more all in
    let step = own_step h.stands.may refl in never (asked_where_stale (refused_by_cause refl refl refl step))

-- a cleaning refused for its session where it removed the first block of a slice, which asks no session
stale_at_a_removal : (more : List Act) → AllAllowed (at_start expired_cleaner_run) ((take 29 expired_cleaner_journal) ++ entry_at 1060 15 0 (Answered (ToldRefused (Stale (Session 1)))) ∷ more) → ⊥
unfolding journals_compute
stale_at_a_removal more all =
    let h = entry_is_allowed (at_start expired_cleaner_run) (take 29 expired_cleaner_journal) (entry_at 1060 15 0 (Answered (ToldRefused (Stale (Session 1))))) more all in
    let step = own_step h.stands.may refl in never (asked_where_stale (refused_by_cause refl refl refl step))

-- an uploading thread is quick
abbrev early_worker_run : Setup
early_worker_run = record drained_run { by_worker = λ entry. entry == 14 }

abbrev late_worker_run : Setup
late_worker_run = record kept_block_run { uploads = 1; by_worker = λ entry. entry == 17 }

-- a publish between a commit and the answer of its step
worker_in_a_commit : (more : List Act) → AllAllowed (at_start early_worker_run) ((take 13 drained_journal) ++ entry 5 255 Quiet ∷ more) → ⊥
unfolding journals_compute
worker_in_a_commit more all =
    let h = entry_is_allowed (at_start early_worker_run) (take 13 drained_journal) (entry 5 255 Quiet) more all in
    never h.stands.4

-- a publish between a look and the answer of its step, which the look doesn't force
worker_before_an_answer : (more : List Act) → AllAllowed (at_start late_worker_run) ((take 16 kept_block_journal ++ entry 7 255 (Settled 10) ∷ []) ++ entry 7 1 (Answered (ToldRefused (TryAgain 10))) ∷ more) → ⊥
unfolding journals_compute
worker_before_an_answer more all =
    let h = entry_is_allowed (at_start late_worker_run) (take 16 kept_block_journal ++ entry 7 255 (Settled 10) ∷ []) (entry 7 1 (Answered (ToldRefused (TryAgain 10)))) more all in
    never h.stands.behind
