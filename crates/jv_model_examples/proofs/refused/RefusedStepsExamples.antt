-- Journals of single steps that no POSIX tree allows, by the first entry that may not stand.
use Rattle.std.proofs.Common.{◌≡◌, ℕ, Bool, true, false, List, [], ◌∷◌, ◌++◌, take, refl, ap, codes, arith, lit≤, lit<}
use Rattle.jv_model.specs.declared.act.Act.{Act}
use Rattle.jv_model.specs.declared.act.ActKind.TheVariants.{Mounted, Meta, Opened, Commit, Quiet, Answered}
use Rattle.jv_model.specs.declared.act.Told.TheVariants.{Fine, Refused as ToldRefused}
use Rattle.jv_model.specs.declared.fault.Fault.TheVariants.{NoMemory}
use Rattle.jv_model.specs.declared.op.Line.{Line}
use Rattle.jv_model.specs.declared.op.Line.TheVariants.{Do, Begin, Step}
use Rattle.jv_model.specs.declared.op.Op.TheVariants.{Mount, Mkdir, Create, Flush, Write}
use Rattle.jv_model.specs.promise.journal.Steps.{Decided, AtOnce}
use Rattle.jv_model.specs.promise.journal.Past.{Setup, at_start, at_end}
use Rattle.jv_model.specs.promise.journal.Legal.{ends_well, AllAllowed}
use Rattle.jv_model_examples.proofs.refused.RefusalLaws.{first_number, entry_is_allowed, own_step, own_begins, never, settled_is_told}
use Rattle.jv_model_examples.proofs.journals.WritebackExamples.{drained_run, drained_journal}
use Rattle.jv_model_examples.proofs.journals.JournalRuns.{run_of, entry, journals_compute, ◌∴◌}

-- A file is written and flushed step by step, and then looked for.
abbrev steps_run : Setup
steps_run = run_of (
    Do 0 (Mount false)
    ∷ Do 0 (Create (codes "/f") 420)
    ∷ Do 0 (Write 1 0 (104 ∷ 105 ∷ []))
    ∷ Begin 0 (Flush 1)
    ∷ Step 0
    ∷ Step 0
    ∷ Step 0
    ∷ Do 0 (Mkdir (codes "/d") 493)
    ∷ []
    )

abbrev steps_journal : List Act
steps_journal =
    entry 1 0 (Mounted 1)
    ∷ entry 1 0 (Answered (Fine 1 0 0 0))
    ∷ entry 2 0 (Opened 1 2)
    ∷ entry 2 0 (Answered (Fine 1 2 0 0))
    ∷ entry 3 0 (Answered (Fine 2 0 0 0))
    ∷ entry 5 0 Quiet
    ∷ entry 6 0 Quiet
    ∷ entry 7 0 (Commit 2 0 2 0)
    ∷ entry 7 0 (Answered (Fine 0 0 0 0))
    ∷ entry 8 0 Meta
    ∷ entry 8 0 (Answered (Fine 3 0 0 0))
    ∷ []

steps_is_allowed : AllAllowed (at_start steps_run) steps_journal
unfolding journals_compute
steps_is_allowed =
    record { line = refl; complete = refl; moment = refl; stands = record { own = refl; behind = refl; may = record { doing = _; busy = refl; begins_is = refl; may = record { ready = refl; transacts = refl; same = refl } } } }
    ∴ record { line = refl; complete = refl; moment = refl; stands = record { own = refl; behind = refl; may = record { doing = _; busy = refl; begins_is = refl; may = Decided _ refl refl } } }
    ∴ record { line = refl; complete = refl; moment = refl; stands = record { own = refl; behind = refl; may = record { doing = _; busy = refl; begins_is = refl; may = record { ready = refl; transacts = refl; same = refl } } } }
    ∴ record { line = refl; complete = refl; moment = refl; stands = record { own = refl; behind = refl; may = record { doing = _; busy = refl; begins_is = refl; may = Decided _ refl refl } } }
    ∴ record { line = refl; complete = refl; moment = refl; stands = record { own = refl; behind = refl; may = record { doing = _; busy = refl; begins_is = refl; may = AtOnce (record { ready = refl; first = refl; same = refl }) } } }
    ∴ record { line = refl; complete = refl; moment = refl; stands = record { own = refl; behind = refl; may = record { doing = _; busy = refl; begins_is = refl; may = refl } } }
    ∴ record { line = refl; complete = refl; moment = refl; stands = record { own = refl; behind = refl; may = record { doing = _; busy = refl; begins_is = refl; may = refl } } }
    ∴ record { line = refl; complete = refl; moment = refl; stands = record { own = refl; behind = refl; may = record { doing = _; busy = refl; begins_is = refl; may = record { requests = lit≤ tt; segment = refl; behind = refl; session = refl; file = refl; in_time = lit< tt; room = refl } } } }
    ∴ record { line = refl; complete = refl; moment = refl; stands = record { own = refl; behind = refl; may = record { doing = _; busy = refl; begins_is = refl; may = Decided _ refl refl } } }
    ∴ record { line = refl; complete = refl; moment = refl; stands = record { own = refl; behind = refl; may = record { doing = _; busy = refl; begins_is = refl; may = record { ready = refl; transacts = refl; same = refl } } } }
    ∴ record { line = refl; complete = refl; moment = refl; stands = record { own = refl; behind = refl; may = record { doing = _; busy = refl; begins_is = refl; may = Decided _ refl refl } } }
    ∴ tt

-- a step that has an answer and no request
answer_without_its_entry : (more : List Act) → AllAllowed (at_start steps_run) (take 6 steps_journal ++ entry 6 0 (Answered (Fine 0 0 0 0)) ∷ more) → ⊥
unfolding journals_compute
answer_without_its_entry more all =
    let h = entry_is_allowed (at_start steps_run) (take 6 steps_journal) (entry 6 0 (Answered (Fine 0 0 0 0))) more all in
    let no = own_begins h.stands.may refl in cc

-- a second request of one step
two_requests_in_a_step : (more : List Act) → AllAllowed (at_start steps_run) (take 6 steps_journal ++ entry 5 0 Quiet ∷ more) → ⊥
unfolding journals_compute
two_requests_in_a_step more all =
    let h = entry_is_allowed (at_start steps_run) (take 6 steps_journal) (entry 5 0 Quiet) more all in
    let no = own_begins h.stands.may refl in cc

-- the answer of a step in the line of the next one
answer_in_a_later_step : (more : List Act) → AllAllowed (at_start steps_run) (take 8 steps_journal ++ entry 8 0 (Answered (Fine 0 0 0 0)) ∷ more) → ⊥
unfolding journals_compute
answer_in_a_later_step more all =
    let h = entry_is_allowed (at_start steps_run) (take 8 steps_journal) (entry 8 0 (Answered (Fine 0 0 0 0))) more all in
    never h.complete

-- a new directory that isn't the one of the tree
answer_of_another_tree : (more : List Act) → AllAllowed (at_start steps_run) (take 10 steps_journal ++ entry 8 0 (Answered (Fine 4 0 0 0)) ∷ more) → ⊥
unfolding journals_compute
answer_of_another_tree more all =
    let h = entry_is_allowed (at_start steps_run) (take 10 steps_journal) (entry 8 0 (Answered (Fine 4 0 0 0))) more all in
    let step = own_step h.stands.may refl in let no : 4 ≡ 3 = ap first_number (settled_is_told refl step) in absurd (omega (arith, no))

-- out of memory after a transaction that was made
memory_after_the_transaction : (more : List Act) → AllAllowed (at_start steps_run) (take 10 steps_journal ++ entry 8 0 (Answered (ToldRefused NoMemory)) ∷ more) → ⊥
unfolding journals_compute
memory_after_the_transaction more all =
    let h = entry_is_allowed (at_start steps_run) (take 10 steps_journal) (entry 8 0 (Answered (ToldRefused NoMemory))) more all in
    let step = own_step h.stands.may refl in let no = settled_is_told refl step in cc

-- another entry than the operation's own
transaction_of_another_kind : (more : List Act) → AllAllowed (at_start steps_run) (take 9 steps_journal ++ entry 8 0 (Opened 2 3) ∷ more) → ⊥
unfolding journals_compute
transaction_of_another_kind more all =
    let h = entry_is_allowed (at_start steps_run) (take 9 steps_journal) (entry 8 0 (Opened 2 3)) more all in
    let step = own_step h.stands.may refl in let no = step.same in cc

-- a metadata operation that leaves no entry of its own
quiet_transaction : (more : List Act) → AllAllowed (at_start steps_run) (take 9 steps_journal ++ entry 8 0 Quiet ∷ more) → ⊥
unfolding journals_compute
quiet_transaction more all =
    let h = entry_is_allowed (at_start steps_run) (take 9 steps_journal) (entry 8 0 Quiet) more all in
    let step = own_step h.stands.may refl in never step

-- an entry past the last line
entry_past_the_last_line : (more : List Act) → AllAllowed (at_start steps_run) (take 11 steps_journal ++ entry 9 0 Quiet ∷ more) → ⊥
unfolding journals_compute
entry_past_the_last_line more all =
    let h = entry_is_allowed (at_start steps_run) (take 11 steps_journal) (entry 9 0 Quiet) more all in
    h.stands

-- an entry of an uploading thread past the last line
publish_past_the_last_line : (more : List Act) → AllAllowed (at_start drained_run) (drained_journal ++ entry 9 255 Quiet ∷ more) → ⊥
unfolding journals_compute
publish_past_the_last_line more all =
    let h = entry_is_allowed (at_start drained_run) drained_journal (entry 9 255 Quiet) more all in
    never h.stands.3

-- A run that ended well has all entries of its lines, and one that a fault ended may lack entries from some step on.
abbrev ends_after : ℕ → ℕ → List Line → Bool
ends_after status entries lines = ends_well (record steps_run { script = lines; status = status }) (at_end (record steps_run { script = lines; status = status }) (take entries steps_journal))

steps_are_not_cut : ends_after 0 8 (take 7 steps_run.script) ≡ false
unfolding journals_compute
steps_are_not_cut = refl

fault_cuts_before_a_step : ends_after 5 7 (take 7 steps_run.script) ≡ true
unfolding journals_compute
fault_cuts_before_a_step = refl

fault_cuts_no_step : ends_after 5 8 (take 7 steps_run.script) ≡ false
unfolding journals_compute
fault_cuts_no_step = refl

all_steps_end : ends_after 0 11 steps_run.script ≡ true
unfolding journals_compute
all_steps_end = refl
