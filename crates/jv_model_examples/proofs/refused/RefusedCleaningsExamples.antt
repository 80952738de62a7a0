-- Journals of cleanings that no POSIX tree allows, by the first entry that may not stand.
use Rattle.std.proofs.Common.{◌≡◌, ℕ, Bool, false, IsTrue, List, [], ◌∷◌, ◌++◌, take, refl, sym, ap, codes, arith, lit≤, lit<, subst, ◌||◌, ◌==◌}
use Rattle.jv_model.specs.declared.act.Act.{Act}
use Rattle.jv_model.specs.declared.act.ActKind.TheVariants.{Mounted, Meta, Opened, Commit, Expired, Purged, Cleaned, Quiet, Ticked, Answered}
use Rattle.jv_model.specs.declared.act.Told.{Told}
use Rattle.jv_model.specs.declared.act.Told.TheVariants.{Fine}
use Rattle.jv_model.specs.declared.op.Op.{Op}
use Rattle.jv_model.specs.declared.op.Line.TheVariants.{Do}
use Rattle.jv_model.specs.declared.op.Op.TheVariants.{Mount, Create, Close, Write, Unlink, Clean, Gc}
use Rattle.jv_model.specs.promise.journal.Steps.{Start, OfOneBlock, MayAnswer, items, Fails, Decided, AtOnce, CountsCache, ReadsViews, CleanedUp, HasCompacted, HasCollected, HasUploaded, TooShort, HasReplaced, Refuses as IsRefusedBy}
use Rattle.jv_model.specs.declared.limits.TheConstants.{MAX_ITEMS}
use Rattle.jv_model.specs.declared.profile.Does.TheVariants.{Cleans as DoesClean, Collects}
use Rattle.jv_model.specs.promise.client.ModelClient.{ModelClient, Cleaning, Stage, Cleans, Listed, Flush as ToFlush}
use Rattle.jv_model.specs.client.ModelClient.{is_replying}
use Rattle.jv_model.specs.promise.journal.State.{State, is_last}
use Rattle.jv_model.specs.promise.journal.Past.{Setup, at_start}
use Rattle.jv_model.specs.promise.journal.Legal.{AllAllowed}
use Rattle.jv_model_examples.proofs.journals.CleaningExamples.{expired_collector_run}
use Rattle.jv_model_examples.proofs.refused.RefusalLaws.{entry_is_allowed, own_step, fine_at_once, never, settled_is_told, is_compacting, is_cleans}
use Rattle.jv_model_examples.proofs.journals.JournalRuns.{run_of, entry, entry_at, journals_compute, ◌∴◌}

-- the end of a cleaning, by how far it is
record Ended (k : Cleaning) (told : Told) : Type 0 where
  over : IsTrue (is_last k.part || (items k == MAX_ITEMS))
  same : told ≡ Fine k.sessions k.trash k.files k.slices

abbrev cleaning_in : Cleaning → Stage → Cleaning
cleaning_in other (Cleans k) = k
cleaning_in other _ = other

abbrev third_number : Told → ℕ
third_number (Fine a b c d) = c
third_number _ = 0

cleaning_ends : {start : Start} {alone : Bool} {s : State} {client now : ℕ} {c : ModelClient} {o : Op} {flush : ToFlush} {moved : Bool} {k : Cleaning} {m n p q : ℕ}
    → MayAnswer start alone s client now c (record { op = o; does = DoesClean; flush = flush; stage = Cleans k; moved = moved }) (Fine m n p q) → Ended k (Fine m n p q)
cleaning_ends (Fails must fails) = absurd (cc)
cleaning_ends (Decided answer stage e) = let never = ap is_cleans stage in absurd (cc)
cleaning_ends (AtOnce h) = let never = h.same in absurd (cc)
cleaning_ends (CountsCache hits misses cached ready first does e) = absurd (cc)
cleaning_ends (ReadsViews h) = let never = h.same in absurd (cc)
cleaning_ends {k = k} {m} {n} {p} {q} (CleanedUp h) = subst (λ x. Ended x (Fine m n p q)) (sym (ap (cleaning_in k) h.stage)) (record { over = h.over; same = h.same })
cleaning_ends (HasCompacted (TooShort k records stage quiets on few e)) = let never = ap is_cleans stage in absurd (cc)
cleaning_ends (HasCompacted (HasReplaced k before after stage replaced two e)) = let never = ap is_cleans stage in absurd (cc)
cleaning_ends (HasCollected count bytes judged e) = absurd (cc)
cleaning_ends (HasUploaded does h) = absurd (cc)
cleaning_ends (IsRefusedBy fault moved h e) = absurd (cc)

-- a collection that listed a page judges it before it ends
collection_ends : {start : Start} {alone : Bool} {s : State} {client now : ℕ} {c : ModelClient} {o : Op} {flush : ToFlush} {moved delete : Bool} {m n p q : ℕ}
    → MayAnswer start alone s client now c (record { op = o; does = Collects delete; flush = flush; stage = Listed; moved = moved }) (Fine m n p q) → ⊥
collection_ends (Fails must fails) = absurd (cc)
collection_ends (Decided answer stage e) = let never = ap is_replying stage in absurd (cc)
collection_ends (AtOnce h) = let never = h.same in absurd (cc)
collection_ends (CountsCache hits misses cached ready first does e) = absurd (cc)
collection_ends (ReadsViews h) = let never = h.same in absurd (cc)
collection_ends (CleanedUp h) = let never = ap is_cleans h.stage in absurd (cc)
collection_ends (HasCompacted (TooShort k records stage quiets on few e)) = let never = ap is_compacting stage in absurd (cc)
collection_ends (HasCompacted (HasReplaced k before after stage replaced two e)) = let never = ap is_compacting stage in absurd (cc)
collection_ends (HasCollected count bytes judged e) = absurd (cc)
collection_ends (HasUploaded does h) = absurd (cc)
collection_ends (IsRefusedBy fault moved h e) = absurd (cc)

-- A file is removed, and its rows and its block are cleaned up.
abbrev cleaning_run : Setup
cleaning_run = run_of (
    Do 0 (Mount false)
    ∷ Do 1 (Mount false)
    ∷ Do 0 (Create (codes "/f") 420)
    ∷ Do 0 (Write 1 0 (120 ∷ []))
    ∷ Do 0 (Close 1)
    ∷ Do 0 (Create (codes "/g") 420)
    ∷ Do 0 (Unlink (codes "/f"))
    ∷ Do 0 Clean
    ∷ []
    )

abbrev cleaning_journal : List Act
cleaning_journal =
    entry 1 0 (Mounted 1)
    ∷ entry 1 0 (Answered (Fine 1 0 0 0))
    ∷ entry 2 1 (Mounted 2)
    ∷ entry 2 1 (Answered (Fine 2 0 0 0))
    ∷ entry 3 0 (Opened 1 2)
    ∷ entry 3 0 (Answered (Fine 1 2 0 0))
    ∷ entry 4 0 (Answered (Fine 1 0 0 0))
    ∷ entry 5 0 Quiet
    ∷ entry 5 0 Quiet
    ∷ entry 5 0 (Commit 2 0 1 0)
    ∷ entry 5 0 (Answered (Fine 0 0 0 0))
    ∷ entry 6 0 (Opened 1 3)
    ∷ entry 6 0 (Answered (Fine 1 3 0 0))
    ∷ entry 7 0 Meta
    ∷ entry 7 0 (Answered (Fine 0 0 0 0))
    ∷ entry 8 0 Quiet
    ∷ entry 8 0 Quiet
    ∷ entry 8 0 (Cleaned 8 2)
    ∷ entry 8 0 Quiet
    ∷ entry 8 0 Quiet
    ∷ entry 8 0 Quiet
    ∷ entry 8 0 (Cleaned 9 1)
    ∷ entry 8 0 Quiet
    ∷ entry 8 0 (Answered (Fine 0 0 1 1))
    ∷ []

cleaning_is_allowed : AllAllowed (at_start cleaning_run) cleaning_journal
unfolding journals_compute
cleaning_is_allowed =
    record { line = refl; complete = refl; moment = refl; stands = record { own = refl; behind = refl; may = record { doing = _; busy = refl; begins_is = refl; may = record { ready = refl; transacts = refl; same = refl } } } }
    ∴ record { line = refl; complete = refl; moment = refl; stands = record { own = refl; behind = refl; may = record { doing = _; busy = refl; begins_is = refl; may = Decided _ refl refl } } }
    ∴ record { line = refl; complete = refl; moment = refl; stands = record { own = refl; behind = refl; may = record { doing = _; busy = refl; begins_is = refl; may = record { ready = refl; transacts = refl; same = refl } } } }
    ∴ record { line = refl; complete = refl; moment = refl; stands = record { own = refl; behind = refl; may = record { doing = _; busy = refl; begins_is = refl; may = Decided _ refl refl } } }
    ∴ record { line = refl; complete = refl; moment = refl; stands = record { own = refl; behind = refl; may = record { doing = _; busy = refl; begins_is = refl; may = record { ready = refl; transacts = refl; same = refl } } } }
    ∴ record { line = refl; complete = refl; moment = refl; stands = record { own = refl; behind = refl; may = record { doing = _; busy = refl; begins_is = refl; may = Decided _ refl refl } } }
    ∴ record { line = refl; complete = refl; moment = refl; stands = record { own = refl; behind = refl; may = record { doing = _; busy = refl; begins_is = refl; may = AtOnce (record { ready = refl; first = refl; same = refl }) } } }
    ∴ record { line = refl; complete = refl; moment = refl; stands = record { own = refl; behind = refl; may = record { doing = _; busy = refl; begins_is = refl; may = refl } } }
    ∴ record { line = refl; complete = refl; moment = refl; stands = record { own = refl; behind = refl; may = record { doing = _; busy = refl; begins_is = refl; may = refl } } }
    ∴ record { line = refl; complete = refl; moment = refl; stands = record { own = refl; behind = refl; may = record { doing = _; busy = refl; begins_is = refl; may = record { requests = lit≤ tt; segment = refl; behind = refl; session = refl; file = refl; in_time = lit< tt; room = refl } } } }
    ∴ record { line = refl; complete = refl; moment = refl; stands = record { own = refl; behind = refl; may = record { doing = _; busy = refl; begins_is = refl; may = Decided _ refl refl } } }
    ∴ record { line = refl; complete = refl; moment = refl; stands = record { own = refl; behind = refl; may = record { doing = _; busy = refl; begins_is = refl; may = record { ready = refl; transacts = refl; same = refl } } } }
    ∴ record { line = refl; complete = refl; moment = refl; stands = record { own = refl; behind = refl; may = record { doing = _; busy = refl; begins_is = refl; may = Decided _ refl refl } } }
    ∴ record { line = refl; complete = refl; moment = refl; stands = record { own = refl; behind = refl; may = record { doing = _; busy = refl; begins_is = refl; may = record { ready = refl; transacts = refl; same = refl } } } }
    ∴ record { line = refl; complete = refl; moment = refl; stands = record { own = refl; behind = refl; may = record { doing = _; busy = refl; begins_is = refl; may = Decided _ refl refl } } }
    ∴ record { line = refl; complete = refl; moment = refl; stands = record { own = refl; behind = refl; may = record { doing = _; busy = refl; begins_is = refl; may = refl } } }
    ∴ record { line = refl; complete = refl; moment = refl; stands = record { own = refl; behind = refl; may = record { doing = _; busy = refl; begins_is = refl; may = refl } } }
    ∴ record { line = refl; complete = refl; moment = refl; stands = record { own = refl; behind = refl; may = record { doing = _; busy = refl; begins_is = refl; may = (record { k = _; stage = refl; at = refl; few = lit< tt; session = refl }, record { was = lit< tt; gone = refl; once = refl }) } } }
    ∴ record { line = refl; complete = refl; moment = refl; stands = record { own = refl; behind = refl; may = record { doing = _; busy = refl; begins_is = refl; may = refl } } }
    ∴ record { line = refl; complete = refl; moment = refl; stands = record { own = refl; behind = refl; may = record { doing = _; busy = refl; begins_is = refl; may = refl } } }
    ∴ record { line = refl; complete = refl; moment = refl; stands = record { own = refl; behind = refl; may = record { doing = _; busy = refl; begins_is = refl; may = refl } } }
    ∴ record { line = refl; complete = refl; moment = refl; stands = record { own = refl; behind = refl; may = record { doing = _; busy = refl; begins_is = refl; may = (refl, OfOneBlock (record { k = _; stage = refl; at = refl; few = lit< tt; session = refl })) } } }
    ∴ record { line = refl; complete = refl; moment = refl; stands = record { own = refl; behind = refl; may = record { doing = _; busy = refl; begins_is = refl; may = refl } } }
    ∴ record { line = refl; complete = refl; moment = refl; stands = record { own = refl; behind = refl; may = record { doing = _; busy = refl; begins_is = refl; may = CleanedUp (record { k = _; stage = refl; session = refl; over = refl; same = refl }) } } }
    ∴ tt

-- a session that lives is expired
expiry_of_a_live_session : (more : List Act) → AllAllowed (at_start cleaning_run) (take 15 cleaning_journal ++ entry 8 0 (Expired 2) ∷ more) → ⊥
unfolding journals_compute
expiry_of_a_live_session more all =
    let h = entry_is_allowed (at_start cleaning_run) (take 15 cleaning_journal) (entry 8 0 (Expired 2)) more all in
    let step = own_step h.stands.may refl in let no = step.1 in cc

-- a purge where the trash has nothing
purge_of_nothing : (more : List Act) → AllAllowed (at_start cleaning_run) (take 16 cleaning_journal ++ entry 8 0 (Purged 3) ∷ more) → ⊥
unfolding journals_compute
purge_of_nothing more all =
    let h = entry_is_allowed (at_start cleaning_run) (take 16 cleaning_journal) (entry 8 0 (Purged 3)) more all in
    let step = own_step h.stands.may refl in let no = step.1 in cc

-- the rows of a removed file cleaned up twice
cleaned_twice : (more : List Act) → AllAllowed (at_start cleaning_run) (take 18 cleaning_journal ++ entry 8 0 (Cleaned 8 2) ∷ more) → ⊥
unfolding journals_compute
cleaned_twice more all =
    let h = entry_is_allowed (at_start cleaning_run) (take 18 cleaning_journal) (entry 8 0 (Cleaned 8 2)) more all in
    let step = own_step h.stands.may refl in never (sym step.1.once)

-- the rows of a file that is there cleaned up
cleaned_node : (more : List Act) → AllAllowed (at_start cleaning_run) (take 17 cleaning_journal ++ entry 8 0 (Cleaned 8 3) ∷ more) → ⊥
unfolding journals_compute
cleaned_node more all =
    let h = entry_is_allowed (at_start cleaning_run) (take 17 cleaning_journal) (entry 8 0 (Cleaned 8 3)) more all in
    let step = own_step h.stands.may refl in let no = step.1.gone in cc

-- the rows of a file that never was cleaned up
cleaned_unborn : (more : List Act) → AllAllowed (at_start cleaning_run) (take 17 cleaning_journal ++ entry 8 0 (Cleaned 8 4) ∷ more) → ⊥
unfolding journals_compute
cleaned_unborn more all =
    let h = entry_is_allowed (at_start cleaning_run) (take 17 cleaning_journal) (entry 8 0 (Cleaned 8 4)) more all in
    let step = own_step h.stands.may refl in let no = step.1.was in absurd (omega (arith, no))

-- a cleaning that looked for nothing
cleaning_without_look : (more : List Act) → AllAllowed (at_start cleaning_run) (take 15 cleaning_journal ++ entry 8 0 (Answered (Fine 0 0 0 0)) ∷ more) → ⊥
unfolding journals_compute
cleaning_without_look more all =
    let h = entry_is_allowed (at_start cleaning_run) (take 15 cleaning_journal) (entry 8 0 (Answered (Fine 0 0 0 0))) more all in
    let step = own_step h.stands.may refl in let at_once = fine_at_once refl refl step in let no = at_once.same in cc

-- a cleaning that ends without a last look for slices
cleaning_ends_early : (more : List Act) → AllAllowed (at_start cleaning_run) (take 22 cleaning_journal ++ entry 8 0 (Answered (Fine 0 0 1 1)) ∷ more) → ⊥
unfolding journals_compute
cleaning_ends_early more all =
    let h = entry_is_allowed (at_start cleaning_run) (take 22 cleaning_journal) (entry 8 0 (Answered (Fine 0 0 1 1))) more all in
    let step = own_step h.stands.may refl in let ends = cleaning_ends step in never ends.over

-- a cleaning that ends right after it removed a block
cleaning_ends_after_a_block : (more : List Act) → AllAllowed (at_start cleaning_run) (take 21 cleaning_journal ++ entry 8 0 (Answered (Fine 0 0 1 0)) ∷ more) → ⊥
unfolding journals_compute
cleaning_ends_after_a_block more all =
    let h = entry_is_allowed (at_start cleaning_run) (take 21 cleaning_journal) (entry 8 0 (Answered (Fine 0 0 1 0))) more all in
    let step = own_step h.stands.may refl in let ends = cleaning_ends step in never ends.over

-- a cleaning that answers another number of files
cleaning_counts_more : (more : List Act) → AllAllowed (at_start cleaning_run) (take 23 cleaning_journal ++ entry 8 0 (Answered (Fine 0 0 2 1)) ∷ more) → ⊥
unfolding journals_compute
cleaning_counts_more more all =
    let h = entry_is_allowed (at_start cleaning_run) (take 23 cleaning_journal) (entry 8 0 (Answered (Fine 0 0 2 1))) more all in
    let step = own_step h.stands.may refl in let ends = cleaning_ends step in let no : 2 ≡ 1 = ap third_number ends.same in absurd (omega (arith, no))

-- A client that collects, whose session is expired meanwhile.
abbrev lost_session_journal : List Act
lost_session_journal =
    entry 1 0 (Mounted 1)
    ∷ entry 1 0 (Answered (Fine 1 0 0 0))
    ∷ entry 2 1 (Mounted 2)
    ∷ entry 2 1 (Answered (Fine 2 0 0 0))
    ∷ entry 4 0 Quiet
    ∷ entry_at 1060 5 255 (Ticked 60)
    ∷ entry_at 1060 6 1 (Expired 1)
    ∷ entry_at 1060 6 1 Quiet
    ∷ entry_at 1060 6 1 Quiet
    ∷ entry_at 1060 6 1 Quiet
    ∷ entry_at 1060 6 1 Quiet
    ∷ entry_at 1060 6 1 (Answered (Fine 1 0 0 0))
    ∷ entry_at 1060 7 0 Quiet
    ∷ []

lost_session_is_allowed : AllAllowed (at_start expired_collector_run) lost_session_journal
unfolding journals_compute
lost_session_is_allowed =
    record { line = refl; complete = refl; moment = refl; stands = record { own = refl; behind = refl; may = record { doing = _; busy = refl; begins_is = refl; may = record { ready = refl; transacts = refl; same = refl } } } }
    ∴ record { line = refl; complete = refl; moment = refl; stands = record { own = refl; behind = refl; may = record { doing = _; busy = refl; begins_is = refl; may = Decided _ refl refl } } }
    ∴ record { line = refl; complete = refl; moment = refl; stands = record { own = refl; behind = refl; may = record { doing = _; busy = refl; begins_is = refl; may = record { ready = refl; transacts = refl; same = refl } } } }
    ∴ record { line = refl; complete = refl; moment = refl; stands = record { own = refl; behind = refl; may = record { doing = _; busy = refl; begins_is = refl; may = Decided _ refl refl } } }
    ∴ record { line = refl; complete = refl; moment = refl; stands = record { own = refl; behind = refl; may = record { doing = _; busy = refl; begins_is = refl; may = refl } } }
    ∴ record { line = refl; complete = refl; moment = refl; stands = (refl, refl) }
    ∴ record { line = refl; complete = refl; moment = refl; stands = record { own = refl; behind = refl; may = record { doing = _; busy = refl; begins_is = refl; may = (record { k = _; stage = refl; at = refl; few = lit< tt; session = refl }, refl) } } }
    ∴ record { line = refl; complete = refl; moment = refl; stands = record { own = refl; behind = refl; may = record { doing = _; busy = refl; begins_is = refl; may = refl } } }
    ∴ record { line = refl; complete = refl; moment = refl; stands = record { own = refl; behind = refl; may = record { doing = _; busy = refl; begins_is = refl; may = refl } } }
    ∴ record { line = refl; complete = refl; moment = refl; stands = record { own = refl; behind = refl; may = record { doing = _; busy = refl; begins_is = refl; may = refl } } }
    ∴ record { line = refl; complete = refl; moment = refl; stands = record { own = refl; behind = refl; may = record { doing = _; busy = refl; begins_is = refl; may = refl } } }
    ∴ record { line = refl; complete = refl; moment = refl; stands = record { own = refl; behind = refl; may = record { doing = _; busy = refl; begins_is = refl; may = CleanedUp (record { k = _; stage = refl; session = refl; over = refl; same = refl }) } } }
    ∴ record { line = refl; complete = refl; moment = refl; stands = record { own = refl; behind = refl; may = record { doing = _; busy = refl; begins_is = refl; may = refl } } }
    ∴ tt

-- a cleaning that passes by a session that is due
cleaning_leaves_a_session : (more : List Act) → AllAllowed (at_start expired_collector_run) (take 6 lost_session_journal ++ entry_at 1060 6 1 Quiet ∷ more) → ⊥
unfolding journals_compute
cleaning_leaves_a_session more all =
    let h = entry_is_allowed (at_start expired_collector_run) (take 6 lost_session_journal) (entry_at 1060 6 1 Quiet) more all in
    let step = own_step h.stands.may refl in never step

-- a collection that is done though its session was gone
collection_without_session : (more : List Act) → AllAllowed (at_start expired_collector_run) (lost_session_journal ++ entry_at 1060 7 0 (Answered (Fine 0 0 0 0)) ∷ more) → ⊥
unfolding journals_compute
collection_without_session more all =
    let h = entry_is_allowed (at_start expired_collector_run) lost_session_journal (entry_at 1060 7 0 (Answered (Fine 0 0 0 0))) more all in
    let step = own_step h.stands.may refl in let no = settled_is_told refl step in cc

-- A collection that removes nothing lists a page and judges it, and lists another one.
abbrev two_pages_run : Setup
two_pages_run = run_of (Do 0 (Mount false) ∷ Do 0 (Gc false) ∷ [])

abbrev two_pages_journal : List Act
two_pages_journal =
    entry 1 0 (Mounted 1)
    ∷ entry 1 0 (Answered (Fine 1 0 0 0))
    ∷ entry 2 0 Quiet
    ∷ entry 2 0 Quiet
    ∷ entry 2 0 Quiet
    ∷ entry 2 0 Quiet
    ∷ entry 2 0 (Answered (Fine 3 9 0 0))
    ∷ []

two_pages_is_allowed : AllAllowed (at_start two_pages_run) two_pages_journal
unfolding journals_compute
two_pages_is_allowed =
    record { line = refl; complete = refl; moment = refl; stands = record { own = refl; behind = refl; may = record { doing = _; busy = refl; begins_is = refl; may = record { ready = refl; transacts = refl; same = refl } } } }
    ∴ record { line = refl; complete = refl; moment = refl; stands = record { own = refl; behind = refl; may = record { doing = _; busy = refl; begins_is = refl; may = Decided _ refl refl } } }
    ∴ record { line = refl; complete = refl; moment = refl; stands = record { own = refl; behind = refl; may = record { doing = _; busy = refl; begins_is = refl; may = refl } } }
    ∴ record { line = refl; complete = refl; moment = refl; stands = record { own = refl; behind = refl; may = record { doing = _; busy = refl; begins_is = refl; may = refl } } }
    ∴ record { line = refl; complete = refl; moment = refl; stands = record { own = refl; behind = refl; may = record { doing = _; busy = refl; begins_is = refl; may = refl } } }
    ∴ record { line = refl; complete = refl; moment = refl; stands = record { own = refl; behind = refl; may = record { doing = _; busy = refl; begins_is = refl; may = refl } } }
    ∴ record { line = refl; complete = refl; moment = refl; stands = record { own = refl; behind = refl; may = record { doing = _; busy = refl; begins_is = refl; may = HasCollected 3 9 refl refl } } }
    ∴ tt

-- a collection that ends before it judged its second page
collection_ends_after_a_listing : (more : List Act) → AllAllowed (at_start two_pages_run) (take 5 two_pages_journal ++ entry 2 0 (Answered (Fine 3 9 0 0)) ∷ more) → ⊥
unfolding journals_compute
collection_ends_after_a_listing more all =
    let h = entry_is_allowed (at_start two_pages_run) (take 5 two_pages_journal) (entry 2 0 (Answered (Fine 3 9 0 0))) more all in
    let step = own_step h.stands.may refl in collection_ends step
