-- Journals that no POSIX tree allows, by the first entry that may not stand.
use Rattle.std.proofs.Common.{◌≡◌, false, List, [], ◌∷◌, ◌++◌, take, refl, ap, codes, arith, lit≤, lit<}
use Rattle.jv_model.specs.declared.act.Act.{Act}
use Rattle.jv_model.specs.declared.act.ActKind.TheVariants.{Mounted, Meta, Opened, Commit, Quiet, Answered}
use Rattle.jv_model.specs.declared.act.Told.TheVariants.{Fine}
use Rattle.jv_model.specs.declared.op.Line.TheVariants.{Do}
use Rattle.jv_model.specs.declared.op.Op.TheVariants.{Mount, Stat, Stats, Create, Flush, Write}
use Rattle.jv_model.specs.promise.journal.Steps.{Decided, AtOnce, CountsCache}
use Rattle.jv_model.specs.promise.journal.Past.{Setup, at_start}
use Rattle.jv_model.specs.promise.journal.Legal.{AllAllowed}
use Rattle.jv_model_examples.proofs.refused.RefusalLaws.{first_number, entry_is_allowed, same_some, own_step, fine_at_once, never}
use Rattle.jv_model_examples.proofs.journals.JournalRuns.{run_of, entry, entry_at, journals_compute, ◌∴◌}

-- A file is made, written and closed.
abbrev simple_run : Setup
simple_run = run_of (
    Do 0 (Mount false)
    ∷ Do 0 (Create (codes "/f") 420)
    ∷ Do 0 (Write 1 0 (104 ∷ 105 ∷ []))
    ∷ Do 0 (Flush 1)
    ∷ Do 0 (Stat (codes "/f"))
    ∷ Do 0 Stats
    ∷ []
    )

abbrev simple_journal : List Act
simple_journal =
    entry 1 0 (Mounted 1)
    ∷ entry 1 0 (Answered (Fine 1 0 0 0))
    ∷ entry 2 0 (Opened 1 2)
    ∷ entry 2 0 (Answered (Fine 1 2 0 0))
    ∷ entry 3 0 (Answered (Fine 2 0 0 0))
    ∷ entry 4 0 Quiet
    ∷ entry 4 0 Quiet
    ∷ entry 4 0 (Commit 2 0 2 0)
    ∷ entry 4 0 (Answered (Fine 0 0 0 0))
    ∷ entry 5 0 Meta
    ∷ entry 5 0 (Answered (Fine 0 0 0 0))
    ∷ entry 6 0 (Answered (Fine 1 2 3 0))
    ∷ []

simple_is_allowed : AllAllowed (at_start simple_run) simple_journal
unfolding journals_compute
simple_is_allowed =
    record { line = refl; complete = refl; moment = refl; stands = record { own = refl; behind = refl; may = record { doing = _; busy = refl; begins_is = refl; may = record { ready = refl; transacts = refl; same = refl } } } }
    ∴ record { line = refl; complete = refl; moment = refl; stands = record { own = refl; behind = refl; may = record { doing = _; busy = refl; begins_is = refl; may = Decided _ refl refl } } }
    ∴ record { line = refl; complete = refl; moment = refl; stands = record { own = refl; behind = refl; may = record { doing = _; busy = refl; begins_is = refl; may = record { ready = refl; transacts = refl; same = refl } } } }
    ∴ record { line = refl; complete = refl; moment = refl; stands = record { own = refl; behind = refl; may = record { doing = _; busy = refl; begins_is = refl; may = Decided _ refl refl } } }
    ∴ record { line = refl; complete = refl; moment = refl; stands = record { own = refl; behind = refl; may = record { doing = _; busy = refl; begins_is = refl; may = AtOnce (record { ready = refl; first = refl; same = refl }) } } }
    ∴ record { line = refl; complete = refl; moment = refl; stands = record { own = refl; behind = refl; may = record { doing = _; busy = refl; begins_is = refl; may = refl } } }
    ∴ record { line = refl; complete = refl; moment = refl; stands = record { own = refl; behind = refl; may = record { doing = _; busy = refl; begins_is = refl; may = refl } } }
    ∴ record { line = refl; complete = refl; moment = refl; stands = record { own = refl; behind = refl; may = record { doing = _; busy = refl; begins_is = refl; may = record { requests = lit≤ tt; segment = refl; behind = refl; session = refl; file = refl; in_time = lit< tt; room = refl } } } }
    ∴ record { line = refl; complete = refl; moment = refl; stands = record { own = refl; behind = refl; may = record { doing = _; busy = refl; begins_is = refl; may = Decided _ refl refl } } }
    ∴ record { line = refl; complete = refl; moment = refl; stands = record { own = refl; behind = refl; may = record { doing = _; busy = refl; begins_is = refl; may = record { ready = refl; transacts = refl; same = refl } } } }
    ∴ record { line = refl; complete = refl; moment = refl; stands = record { own = refl; behind = refl; may = record { doing = _; busy = refl; begins_is = refl; may = Decided _ refl refl } } }
    ∴ record { line = refl; complete = refl; moment = refl; stands = record { own = refl; behind = refl; may = record { doing = _; busy = refl; begins_is = refl; may = CountsCache 1 2 3 refl refl refl refl } } }
    ∴ tt

-- a metadata operation that made no transaction
stat_without_transaction : (more : List Act) → AllAllowed (at_start simple_run) (take 9 simple_journal ++ entry 5 0 (Answered (Fine 0 0 0 0)) ∷ more) → ⊥
unfolding journals_compute
stat_without_transaction more all =
    let h = entry_is_allowed (at_start simple_run) (take 9 simple_journal) (entry 5 0 (Answered (Fine 0 0 0 0))) more all in
    let step = own_step h.stands.may refl in let at_once = fine_at_once refl refl step in let no = at_once.same in cc

-- a second transaction of one operation
two_transactions : (more : List Act) → AllAllowed (at_start simple_run) (take 10 simple_journal ++ entry 5 0 Meta ∷ more) → ⊥
unfolding journals_compute
two_transactions more all =
    let h = entry_is_allowed (at_start simple_run) (take 10 simple_journal) (entry 5 0 Meta) more all in
    let step = own_step h.stands.may refl in never step.ready

-- a flush that leaves bytes pending
flush_does_nothing : (more : List Act) → AllAllowed (at_start simple_run) (take 5 simple_journal ++ entry 4 0 (Answered (Fine 0 0 0 0)) ∷ more) → ⊥
unfolding journals_compute
flush_does_nothing more all =
    let h = entry_is_allowed (at_start simple_run) (take 5 simple_journal) (entry 4 0 (Answered (Fine 0 0 0 0))) more all in
    let step = own_step h.stands.may refl in let at_once = fine_at_once refl refl step in never at_once.ready

-- a flush that brought its blocks and commits nothing
flush_ends_early : (more : List Act) → AllAllowed (at_start simple_run) (take 7 simple_journal ++ entry 4 0 (Answered (Fine 0 0 0 0)) ∷ more) → ⊥
unfolding journals_compute
flush_ends_early more all =
    let h = entry_is_allowed (at_start simple_run) (take 7 simple_journal) (entry 4 0 (Answered (Fine 0 0 0 0))) more all in
    let step = own_step h.stands.may refl in let at_once = fine_at_once refl refl step in never at_once.ready

-- a commit without a block
commit_without_block : (more : List Act) → AllAllowed (at_start simple_run) (take 6 simple_journal ++ entry 4 0 (Commit 2 0 2 0) ∷ more) → ⊥
unfolding journals_compute
commit_without_block more all =
    let h = entry_is_allowed (at_start simple_run) (take 6 simple_journal) (entry 4 0 (Commit 2 0 2 0)) more all in
    let step = own_step h.stands.may refl in let no = step.requests in absurd (omega (arith, no))

-- a commit of less than what is pending in a row
commit_of_less : (more : List Act) → AllAllowed (at_start simple_run) (take 7 simple_journal ++ entry 4 0 (Commit 2 0 1 0) ∷ more) → ⊥
unfolding journals_compute
commit_of_less more all =
    let h = entry_is_allowed (at_start simple_run) (take 7 simple_journal) (entry 4 0 (Commit 2 0 1 0)) more all in
    let step = own_step h.stands.may refl in let no = same_some step.segment in let len : 2 ≡ 1 = ap (λ segment. segment.len) no in absurd (omega (arith, len))

-- a commit of a client that keeps no blocks back, with a block kept back
commit_kept_back : (more : List Act) → AllAllowed (at_start simple_run) (take 7 simple_journal ++ entry 4 0 (Commit 2 0 2 1) ∷ more) → ⊥
unfolding journals_compute
commit_kept_back more all =
    let h = entry_is_allowed (at_start simple_run) (take 7 simple_journal) (entry 4 0 (Commit 2 0 2 1)) more all in
    let step = own_step h.stands.may refl in never step.behind

-- a write that is answered with another number of bytes
write_counts_more : (more : List Act) → AllAllowed (at_start simple_run) (take 4 simple_journal ++ entry 3 0 (Answered (Fine 3 0 0 0)) ∷ more) → ⊥
unfolding journals_compute
write_counts_more more all =
    let h = entry_is_allowed (at_start simple_run) (take 4 simple_journal) (entry 3 0 (Answered (Fine 3 0 0 0))) more all in
    let step = own_step h.stands.may refl in let at_once = fine_at_once refl refl step in let no : 2 ≡ 3 = ap first_number (same_some at_once.same) in absurd (omega (arith, no))

-- an entry of a later line, where an operation goes on
next_line_begins_early : (more : List Act) → AllAllowed (at_start simple_run) (take 6 simple_journal ++ entry 5 0 Meta ∷ more) → ⊥
unfolding journals_compute
next_line_begins_early more all =
    let h = entry_is_allowed (at_start simple_run) (take 6 simple_journal) (entry 5 0 Meta) more all in
    never h.complete

-- a moment that isn't the clock's
another_moment : (more : List Act) → AllAllowed (at_start simple_run) (take 5 simple_journal ++ entry_at 1001 4 0 Quiet ∷ more) → ⊥
unfolding journals_compute
another_moment more all =
    let h = entry_is_allowed (at_start simple_run) (take 5 simple_journal) (entry_at 1001 4 0 Quiet) more all in
    let no : 1001 ≡ 1000 = h.moment in absurd (omega (arith, no))

-- an entry of another client than the line's
another_client : (more : List Act) → AllAllowed (at_start simple_run) (take 5 simple_journal ++ entry 4 1 Quiet ∷ more) → ⊥
unfolding journals_compute
another_client more all =
    let h = entry_is_allowed (at_start simple_run) (take 5 simple_journal) (entry 4 1 Quiet) more all in
    let no : 1 ≡ 0 = h.stands.own in absurd (omega (arith, no))

-- a `stats` that asks for something
stats_makes_a_request : (more : List Act) → AllAllowed (at_start simple_run) (take 11 simple_journal ++ entry 6 0 Quiet ∷ more) → ⊥
unfolding journals_compute
stats_makes_a_request more all =
    let h = entry_is_allowed (at_start simple_run) (take 11 simple_journal) (entry 6 0 Quiet) more all in
    let step = own_step h.stands.may refl in never step
