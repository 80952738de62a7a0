-- Journals of reads that no POSIX tree allows, by the first entry that may not stand.
use Rattle.std.proofs.Common.{◌≡◌, ℕ, false, Option, None, Some, List, [], ◌∷◌, ◌++◌, length, take, refl, ap, codes, arith, lit≤, lit<}
use Rattle.jv_model.specs.declared.act.Act.{Act}
use Rattle.jv_model.specs.declared.act.ActKind.TheVariants.{Mounted, Opened, Look, Commit, Truncated, Quiet, Miss, Answered}
use Rattle.jv_model.specs.declared.act.Told.TheVariants.{Fine, Looks}
use Rattle.jv_model.specs.declared.op.Line.TheVariants.{Do}
use Rattle.jv_model.specs.declared.op.Op.TheVariants.{Mount, Create, Open, Close, Read, Write, Truncate}
use Rattle.jv_model.specs.promise.journal.Steps.{Decided, AtOnce, ReadsViews}
use Rattle.jv_model.specs.promise.journal.Past.{Setup, at_start}
use Rattle.jv_model.specs.promise.journal.Legal.{AllAllowed}
use Rattle.jv_model_examples.proofs.refused.RefusalLaws.{entry_is_allowed, same_some, own_step, never, read_returns, gone_by_cleaning, missed_by_view, looks_are_read}
use Rattle.jv_model_examples.proofs.journals.WritebackExamples.{ten_misses_run, ten_misses_journal}
use Rattle.jv_model_examples.proofs.journals.JournalRuns.{run_of, entry, journals_compute, ◌∴◌}

abbrev bytes_in : Option (List ℕ) → List ℕ
bytes_in None = []
bytes_in (Some bytes) = bytes

-- A file of the greatest length: its last byte is read, then no byte, then two windows.
abbrev long_file_run : Setup
long_file_run = run_of (
    Do 0 (Mount false)
    ∷ Do 0 (Create (codes "/f") 420)
    ∷ Do 0 (Truncate 1 1099511627776)
    ∷ Do 0 (Read 1 1099511627775 2)
    ∷ Do 0 (Read 1 5 0)
    ∷ Do 0 (Read 1 1099511627776 5)
    ∷ Do 0 (Read 1 67108863 2)
    ∷ []
    )

abbrev long_file_journal : List Act
long_file_journal =
    entry 1 0 (Mounted 1)
    ∷ entry 1 0 (Answered (Fine 1 0 0 0))
    ∷ entry 2 0 (Opened 1 2)
    ∷ entry 2 0 (Answered (Fine 1 2 0 0))
    ∷ entry 3 0 (Truncated 2 1099511627776)
    ∷ entry 3 0 (Answered (Fine 0 0 0 0))
    ∷ entry 4 0 (Look 2 16383)
    ∷ entry 4 0 (Answered (Looks 7 0 1))
    ∷ entry 5 0 (Answered (Looks 0 0 0))
    ∷ entry 6 0 (Answered (Looks 0 0 0))
    ∷ entry 7 0 (Look 2 0)
    ∷ entry 7 0 (Look 2 1)
    ∷ entry 7 0 (Answered (Looks 11 12 2))
    ∷ []

long_file_is_allowed : AllAllowed (at_start long_file_run) long_file_journal
unfolding journals_compute
long_file_is_allowed =
    record { line = refl; complete = refl; moment = refl; stands = record { own = refl; behind = refl; may = record { doing = _; busy = refl; begins_is = refl; may = record { ready = refl; transacts = refl; same = refl } } } }
    ∴ record { line = refl; complete = refl; moment = refl; stands = record { own = refl; behind = refl; may = record { doing = _; busy = refl; begins_is = refl; may = Decided _ refl refl } } }
    ∴ record { line = refl; complete = refl; moment = refl; stands = record { own = refl; behind = refl; may = record { doing = _; busy = refl; begins_is = refl; may = record { ready = refl; transacts = refl; same = refl } } } }
    ∴ record { line = refl; complete = refl; moment = refl; stands = record { own = refl; behind = refl; may = record { doing = _; busy = refl; begins_is = refl; may = Decided _ refl refl } } }
    ∴ record { line = refl; complete = refl; moment = refl; stands = record { own = refl; behind = refl; may = record { doing = _; busy = refl; begins_is = refl; may = record { ready = refl; same = refl } } } }
    ∴ record { line = refl; complete = refl; moment = refl; stands = record { own = refl; behind = refl; may = record { doing = _; busy = refl; begins_is = refl; may = Decided _ refl refl } } }
    ∴ record { line = refl; complete = refl; moment = refl; stands = record { own = refl; behind = refl; may = record { doing = _; busy = refl; begins_is = refl; may = record { goes_on = refl; file = (refl, refl); session = refl; there = refl } } } }
    ∴ record { line = refl; complete = refl; moment = refl; stands = record { own = refl; behind = refl; may = record { doing = _; busy = refl; begins_is = refl; may = ReadsViews (record { goes_on = refl; file = _; opened = refl; first = 7; second = 0; bytes = _; reads = refl; same = refl }) } } }
    ∴ record { line = refl; complete = refl; moment = refl; stands = record { own = refl; behind = refl; may = record { doing = _; busy = refl; begins_is = refl; may = AtOnce (record { ready = refl; first = refl; same = refl }) } } }
    ∴ record { line = refl; complete = refl; moment = refl; stands = record { own = refl; behind = refl; may = record { doing = _; busy = refl; begins_is = refl; may = AtOnce (record { ready = refl; first = refl; same = refl }) } } }
    ∴ record { line = refl; complete = refl; moment = refl; stands = record { own = refl; behind = refl; may = record { doing = _; busy = refl; begins_is = refl; may = record { goes_on = refl; file = (refl, refl); session = refl; there = refl } } } }
    ∴ record { line = refl; complete = refl; moment = refl; stands = record { own = refl; behind = refl; may = record { doing = _; busy = refl; begins_is = refl; may = record { goes_on = refl; file = (refl, refl); session = refl; there = refl } } } }
    ∴ record { line = refl; complete = refl; moment = refl; stands = record { own = refl; behind = refl; may = record { doing = _; busy = refl; begins_is = refl; may = ReadsViews (record { goes_on = refl; file = _; opened = refl; first = 11; second = 12; bytes = _; reads = refl; same = refl }) } } }
    ∴ tt

-- a look past the end of the longest file
look_past_the_end : (more : List Act) → AllAllowed (at_start long_file_run) (take 7 long_file_journal ++ entry 4 0 (Look 2 16384) ∷ more) → ⊥
unfolding journals_compute
look_past_the_end more all =
    let h = entry_is_allowed (at_start long_file_run) (take 7 long_file_journal) (entry 4 0 (Look 2 16384)) more all in
    let step = own_step h.stands.may refl in let no = step.file.1 in cc

-- a look for a read of no byte
look_for_no_byte : (more : List Act) → AllAllowed (at_start long_file_run) (take 8 long_file_journal ++ entry 5 0 (Look 2 0) ∷ more) → ⊥
unfolding journals_compute
look_for_no_byte more all =
    let h = entry_is_allowed (at_start long_file_run) (take 8 long_file_journal) (entry 5 0 (Look 2 0)) more all in
    let step = own_step h.stands.may refl in let no = step.file.1 in cc

-- a look for a read from there on
look_from_the_end : (more : List Act) → AllAllowed (at_start long_file_run) (take 9 long_file_journal ++ entry 6 0 (Look 2 16384) ∷ more) → ⊥
unfolding journals_compute
look_from_the_end more all =
    let h = entry_is_allowed (at_start long_file_run) (take 9 long_file_journal) (entry 6 0 (Look 2 16384)) more all in
    let step = own_step h.stands.may refl in let no = step.file.1 in cc

-- a look at the second window before the first one
later_window_first : (more : List Act) → AllAllowed (at_start long_file_run) (take 10 long_file_journal ++ entry 7 0 (Look 2 1) ∷ more) → ⊥
unfolding journals_compute
later_window_first more all =
    let h = entry_is_allowed (at_start long_file_run) (take 10 long_file_journal) (entry 7 0 (Look 2 1)) more all in
    let step = own_step h.stands.may refl in let no : 0 ≡ 1 = same_some step.file.1 in absurd (omega (arith, no))

-- a second look at a window of which the handle has a view
window_twice : (more : List Act) → AllAllowed (at_start long_file_run) (take 11 long_file_journal ++ entry 7 0 (Look 2 0) ∷ more) → ⊥
unfolding journals_compute
window_twice more all =
    let h = entry_is_allowed (at_start long_file_run) (take 11 long_file_journal) (entry 7 0 (Look 2 0)) more all in
    let step = own_step h.stands.may refl in let no : 1 ≡ 0 = same_some step.file.1 in absurd (omega (arith, no))

-- a read of two windows that cites one look
second_window_unread : (more : List Act) → AllAllowed (at_start long_file_run) (take 12 long_file_journal ++ entry 7 0 (Answered (Looks 11 0 1)) ∷ more) → ⊥
unfolding journals_compute
second_window_unread more all =
    let h = entry_is_allowed (at_start long_file_run) (take 12 long_file_journal) (entry 7 0 (Answered (Looks 11 0 1))) more all in
    let step = own_step h.stands.may refl in let read = read_returns refl refl step in let no = read.gives in cc

-- a read that answers another number of bytes
bytes_counted_wrong : (more : List Act) → AllAllowed (at_start long_file_run) (take 12 long_file_journal ++ entry 7 0 (Answered (Looks 11 12 3)) ∷ more) → ⊥
unfolding journals_compute
bytes_counted_wrong more all =
    let h = entry_is_allowed (at_start long_file_run) (take 12 long_file_journal) (entry 7 0 (Answered (Looks 11 12 3))) more all in
    let step = own_step h.stands.may refl in let read = read_returns refl refl step in let two : 2 ≡ length read.bytes = ap (λ bytes. length (bytes_in bytes)) read.gives in let no : 3 ≡ length read.bytes = read.counts in absurd (omega (arith, two, no))

-- A client that looked at a file, writes to it, and opens it anew.
abbrev changing_file_run : Setup
changing_file_run = run_of (
    Do 0 (Mount false)
    ∷ Do 0 (Create (codes "/f") 420)
    ∷ Do 0 (Read 1 0 4)
    ∷ Do 0 (Write 1 0 (104 ∷ 105 ∷ []))
    ∷ Do 0 (Read 1 0 4)
    ∷ Do 0 (Close 1)
    ∷ Do 0 (Open (codes "/f"))
    ∷ Do 0 (Read 1 0 4)
    ∷ []
    )

abbrev changing_file_journal : List Act
changing_file_journal =
    entry 1 0 (Mounted 1)
    ∷ entry 1 0 (Answered (Fine 1 0 0 0))
    ∷ entry 2 0 (Opened 1 2)
    ∷ entry 2 0 (Answered (Fine 1 2 0 0))
    ∷ entry 3 0 (Look 2 0)
    ∷ entry 3 0 (Answered (Looks 5 0 0))
    ∷ entry 4 0 (Answered (Fine 2 0 0 0))
    ∷ entry 5 0 Quiet
    ∷ entry 5 0 Quiet
    ∷ entry 5 0 (Commit 2 0 2 0)
    ∷ entry 5 0 (Look 2 0)
    ∷ entry 5 0 (Answered (Looks 11 0 2))
    ∷ entry 6 0 (Answered (Fine 0 0 0 0))
    ∷ entry 7 0 (Opened 1 2)
    ∷ entry 7 0 (Answered (Fine 1 2 0 0))
    ∷ entry 8 0 (Look 2 0)
    ∷ entry 8 0 Quiet
    ∷ entry 8 0 (Answered (Looks 16 0 2))
    ∷ []

changing_file_is_allowed : AllAllowed (at_start changing_file_run) changing_file_journal
unfolding journals_compute
changing_file_is_allowed =
    record { line = refl; complete = refl; moment = refl; stands = record { own = refl; behind = refl; may = record { doing = _; busy = refl; begins_is = refl; may = record { ready = refl; transacts = refl; same = refl } } } }
    ∴ record { line = refl; complete = refl; moment = refl; stands = record { own = refl; behind = refl; may = record { doing = _; busy = refl; begins_is = refl; may = Decided _ refl refl } } }
    ∴ record { line = refl; complete = refl; moment = refl; stands = record { own = refl; behind = refl; may = record { doing = _; busy = refl; begins_is = refl; may = record { ready = refl; transacts = refl; same = refl } } } }
    ∴ record { line = refl; complete = refl; moment = refl; stands = record { own = refl; behind = refl; may = record { doing = _; busy = refl; begins_is = refl; may = Decided _ refl refl } } }
    ∴ record { line = refl; complete = refl; moment = refl; stands = record { own = refl; behind = refl; may = record { doing = _; busy = refl; begins_is = refl; may = record { goes_on = refl; file = (refl, refl); session = refl; there = refl } } } }
    ∴ record { line = refl; complete = refl; moment = refl; stands = record { own = refl; behind = refl; may = record { doing = _; busy = refl; begins_is = refl; may = ReadsViews (record { goes_on = refl; file = _; opened = refl; first = 5; second = 0; bytes = _; reads = refl; same = refl }) } } }
    ∴ record { line = refl; complete = refl; moment = refl; stands = record { own = refl; behind = refl; may = record { doing = _; busy = refl; begins_is = refl; may = AtOnce (record { ready = refl; first = refl; same = refl }) } } }
    ∴ record { line = refl; complete = refl; moment = refl; stands = record { own = refl; behind = refl; may = record { doing = _; busy = refl; begins_is = refl; may = refl } } }
    ∴ record { line = refl; complete = refl; moment = refl; stands = record { own = refl; behind = refl; may = record { doing = _; busy = refl; begins_is = refl; may = refl } } }
    ∴ record { line = refl; complete = refl; moment = refl; stands = record { own = refl; behind = refl; may = record { doing = _; busy = refl; begins_is = refl; may = record { requests = lit≤ tt; segment = refl; behind = refl; session = refl; file = refl; in_time = lit< tt; room = refl } } } }
    ∴ record { line = refl; complete = refl; moment = refl; stands = record { own = refl; behind = refl; may = record { doing = _; busy = refl; begins_is = refl; may = record { goes_on = refl; file = (refl, refl); session = refl; there = refl } } } }
    ∴ record { line = refl; complete = refl; moment = refl; stands = record { own = refl; behind = refl; may = record { doing = _; busy = refl; begins_is = refl; may = ReadsViews (record { goes_on = refl; file = _; opened = refl; first = 11; second = 0; bytes = _; reads = refl; same = refl }) } } }
    ∴ record { line = refl; complete = refl; moment = refl; stands = record { own = refl; behind = refl; may = record { doing = _; busy = refl; begins_is = refl; may = AtOnce (record { ready = refl; first = refl; same = refl }) } } }
    ∴ record { line = refl; complete = refl; moment = refl; stands = record { own = refl; behind = refl; may = record { doing = _; busy = refl; begins_is = refl; may = record { ready = refl; transacts = refl; same = refl } } } }
    ∴ record { line = refl; complete = refl; moment = refl; stands = record { own = refl; behind = refl; may = record { doing = _; busy = refl; begins_is = refl; may = Decided _ refl refl } } }
    ∴ record { line = refl; complete = refl; moment = refl; stands = record { own = refl; behind = refl; may = record { doing = _; busy = refl; begins_is = refl; may = record { goes_on = refl; file = (refl, refl); session = refl; there = refl } } } }
    ∴ record { line = refl; complete = refl; moment = refl; stands = record { own = refl; behind = refl; may = record { doing = _; busy = refl; begins_is = refl; may = refl } } }
    ∴ record { line = refl; complete = refl; moment = refl; stands = record { own = refl; behind = refl; may = record { doing = _; busy = refl; begins_is = refl; may = ReadsViews (record { goes_on = refl; file = _; opened = refl; first = 16; second = 0; bytes = _; reads = refl; same = refl }) } } }
    ∴ tt

-- a read by a look that is older than the client's own commit
look_before_own_commit : (more : List Act) → AllAllowed (at_start changing_file_run) (take 10 changing_file_journal ++ entry 5 0 (Answered (Looks 5 0 0)) ∷ more) → ⊥
unfolding journals_compute
look_before_own_commit more all =
    let h = entry_is_allowed (at_start changing_file_run) (take 10 changing_file_journal) (entry 5 0 (Answered (Looks 5 0 0))) more all in
    let step = own_step h.stands.may refl in let read = read_returns refl refl step in let no = read.gives in cc

-- a read by a look that is older than the opening of its file
look_before_open : (more : List Act) → AllAllowed (at_start changing_file_run) (take 15 changing_file_journal ++ entry 8 0 (Answered (Looks 11 0 2)) ∷ more) → ⊥
unfolding journals_compute
look_before_open more all =
    let h = entry_is_allowed (at_start changing_file_run) (take 15 changing_file_journal) (entry 8 0 (Answered (Looks 11 0 2))) more all in
    let step = own_step h.stands.may refl in let read = read_returns refl refl step in let no = read.gives in cc

-- a look at a window after one that shows the file's end
look_beyond_a_short_window : (more : List Act) → AllAllowed (at_start changing_file_run) (take 16 changing_file_journal ++ entry 8 0 (Look 2 1) ∷ more) → ⊥
unfolding journals_compute
look_beyond_a_short_window more all =
    let h = entry_is_allowed (at_start changing_file_run) (take 16 changing_file_journal) (entry 8 0 (Look 2 1)) more all in
    let step = own_step h.stands.may refl in let no = step.file.1 in cc

-- a block that isn't found, though nobody keeps it back or cleaned up
miss_without_cause : (more : List Act) → AllAllowed (at_start changing_file_run) (take 16 changing_file_journal ++ entry 8 0 (Miss 2 0) ∷ more) → ⊥
unfolding journals_compute
miss_without_cause more all =
    let h = entry_is_allowed (at_start changing_file_run) (take 16 changing_file_journal) (entry 8 0 (Miss 2 0)) more all in
    let step = own_step h.stands.may refl in never (gone_by_cleaning refl refl (missed_by_view step refl))

-- a read that is done though it missed a block for the tenth time
read_after_ten_misses : (more : List Act) → AllAllowed (at_start ten_misses_run) (take 34 ten_misses_journal ++ entry 7 1 (Answered (Looks 34 0 4)) ∷ more) → ⊥
unfolding journals_compute
read_after_ten_misses more all =
    let h = entry_is_allowed (at_start ten_misses_run) (take 34 ten_misses_journal) (entry 7 1 (Answered (Looks 34 0 4))) more all in
    let step = own_step h.stands.may refl in let read = looks_are_read refl refl step in never read.goes_on
