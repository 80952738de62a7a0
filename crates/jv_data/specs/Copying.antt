-- What a copy between files does: to lists of the target come records that show what the source
-- shows.
use Rattle.std.specs.Prelude.{◌≡◌, ℕ, ◌+◌, ◌-◌, ◌*◌, ◌/◌, ◌%◌, ◌<◌, min, max, List, [], ◌∷◌, ◌++◌, length, Some, Result, Ok, IfOk}
use Rattle.std.specs.List.{AllByRecursion}
use Rattle.jv_model.specs.declared.fault.TxFault.{TxFault}
use Rattle.jv_model.specs.declared.limits.TheConstants.{WINDOW}
use Rattle.jv_model.specs.declared.row.Row.TheVariants.{OfList}
use Rattle.jv_model.specs.declared.slice.Piece.{Piece}
use Rattle.jv_model.specs.declared.slice.Rec.{Rec}
use Rattle.jv_model.specs.FiniteMap.{alter}
use Rattle.jv_model.specs.promise.blocks.Slices.{IsRecord}
use Rattle.jv_model.specs.blocks.Slices.{IsPlan}
use Rattle.jv_model.specs.promise.rows.RowKeys.{RowMap}
use Rattle.jv_model.specs.promise.rows.RowPlaces.{list_key}
use Rattle.jv_outside.specs.declared.batch.Change.{Change}
use Rattle.jv_outside.specs.promise.Store.{Store}
use Rattle.jv_rows.specs.Drafts.{drafted}
use Rattle.jv_rows.specs.Transactions.{Looks, without_answer}
use Rattle.jv_volume.specs.promise.TypedRows.{Rows, typed}
use Rattle.jv_volume.specs.promise.Views.{lists_of}
use Rattle.jv_volume.specs.promise.Slices.{place_in}
use Rattle.jv_volume.specs.promise.Whole.{Whole}
use Rattle.jv_volume_bytes.specs.Fills.{Fills, records_of_plan}
use Rattle.jv_volume_bytes.specs.Places.{Lists}
use Rattle.jv_data.specs.declared.copying.CopyCourse.{CopyCourse}
use Rattle.jv_data.specs.Truncating.{HaveSlices, records_of}

-- the lengths of pieces together
abbrev pub pieces_len : List Piece → ℕ
pieces_len [] = 0
pieces_len (piece ∷ pieces) = piece.len + pieces_len pieces

-- Records that show, from a position of a window on, a range of a file that is no longer than a
-- window: those of the pieces that a plan has of the window in which the range begins, and behind
-- them those of the next window's plan. They are as many as the pieces.
pub record ArePieces (lists : Lists) (from pos len : ℕ) (shown : List Rec) : Type 0 where
  pub first : List Piece
  pub next : List Piece
  pub first_plan : IsPlan (lists (from / WINDOW)) (from % WINDOW)
      (min (from % WINDOW + len) WINDOW) first
  pub next_plan : IsPlan (lists (from / WINDOW + 1)) 0 (from % WINDOW + len - WINDOW) next
  pub is : shown ≡ records_of_plan pos (first ++ next)

-- records of slices with rows that show, from a position of a window on, a range of a file, as many
-- as its plans have pieces
pub record IsShown (rows : Rows) (inode from pos len : ℕ) (shown : List Rec) : Type 0 where
  pub fills : Fills (λ q. place_in (lists_of rows inode) (from + (q - pos))) pos (pos + len) shown
  pub slices : HaveSlices rows shown
  pub pieces : ArePieces (lists_of rows inode) from pos len shown

-- A reading of a range of a file, as records at a position of a window that show it.
pub record ShowsRange (inode from pos len : ℕ) (before after : Store)
    (result : Result (List Rec) TxFault) : Type 0 where
  pub looks : Looks before after (without_answer result) (λ t. Ok tt)
  pub records : IfOk result (AllByRecursion IsRecord)
  pub some : IfOk result (λ shown. 0 < len → 0 < length shown)
  pub shows : IfOk result (λ shown. (known : RowMap) → before.rows ≡ Some known
      → IsShown (typed known) inode from pos len shown)

-- ---- parts of a copy, each in one window of the target

-- how many bytes the part has that begins when `done` are done: as far as the window goes
abbrev pub part_len : CopyCourse → ℕ → ℕ
part_len c done = min (c.len - done) (WINDOW - (c.to + done) % WINDOW)

abbrev pub window_at : CopyCourse → ℕ → ℕ
window_at c done = (c.to + done) / WINDOW

-- records that show the source there
abbrev pub ShowPart : Rows → CopyCourse → ℕ → List Rec → Type 0
ShowPart rows c done shown =
    IsShown rows c.source (c.from + done) ((c.to + done) % WINDOW) (part_len c done) shown

-- the list of the target's window with records added
abbrev pub rows_added : Rows → CopyCourse → ℕ → List Rec → Rows → Rows
rows_added rows c done shown middle =
    alter middle (list_key c.target (window_at c done))
    (Some (Ok (OfList (lists_of rows c.target (window_at c done) ++ shown))))

-- The changes add a part to a window's list; the answer is its records.
pub record CopiesPart (c : CopyCourse) (done : ℕ) (before after : Store)
    (changes changed : List Change) (result : Result (List Rec) TxFault) : Type 0 where
  pub looks : Looks before after (without_answer result) (λ t. Ok tt)
  pub shows : IfOk result (λ shown. (known : RowMap) → before.rows ≡ Some known
      → ShowPart (typed known) c done shown)
  pub added : IfOk result (λ shown. (known : RowMap) → before.rows ≡ Some known
      → drafted changed known ≡ rows_added (typed known) c done shown (drafted changes known))

-- parts that follow one another until `done` bytes are done, the latest first, each with how many
-- were done before
abbrev pub AreParts : Rows → CopyCourse → List (ℕ × List Rec) → ℕ → Type 0
AreParts rows c [] done = done ≡ 0
AreParts rows c (part ∷ parts) done = (part.0 < c.len) × (done ≡ part.0 + part_len c part.0)
    × ShowPart rows c part.0 part.1 × AreParts rows c parts part.0

abbrev pub rows_copied : Rows → CopyCourse → List (ℕ × List Rec) → Rows → Rows
rows_copied rows c [] middle = middle
rows_copied rows c (part ∷ parts) middle =
    rows_added rows c part.0 part.1 (rows_copied rows c parts middle)

-- `done` bytes of a copy are done, by records that lists of the target got
pub record Copying (c : CopyCourse) (done : ℕ) (rows middle after : Rows)
    (added : List Rec) : Type 0 where
  pub parts : List (ℕ × List Rec)
  pub follow : AreParts rows c parts done
  pub added_is : added ≡ records_of parts
  pub is : after ≡ rows_copied rows c parts middle

-- The changes add all parts; the answer is their records.
pub record CopiesLists (c : CopyCourse) (before after : Store) (changes changed : List Change)
    (result : Result (List Rec) TxFault) : Type 0 where
  pub looks : Looks before after (without_answer result) (λ t. Ok tt)
  pub copied : IfOk result (λ added. (known : RowMap) → before.rows ≡ Some known
      → Copying c c.len (typed known) (drafted changes known) (drafted changed known) added)

-- ---- a whole copy

-- how many bytes a copy to a position has before a window of the target, and how many of a number
-- of them are in that window
abbrev pub bytes_before : (to window : ℕ) → ℕ
bytes_before to window = window * WINDOW - to

abbrev pub bytes_in : (to len window : ℕ) → ℕ
bytes_in to len window = min (to + len) (window * WINDOW + WINDOW) - max to (window * WINDOW)

-- a window's list of the target: what it had, and behind it the records of the pieces of what is
-- copied into this window
pub record GetsPieces (rows : Rows) (src from dst to len window : ℕ)
    (list : List Rec) : Type 0 where
  pub added : List Rec
  pub pieces : ArePieces (lists_of rows src) (from + bytes_before to window)
      ((to + bytes_before to window) % WINDOW) (bytes_in to len window) added
  pub is : list ≡ lists_of rows dst window ++ added

-- Where a copy was made over whole rows, each list of the target gained the records of its part of
-- the range, a plan for each window of the source that the part touches, and is otherwise as it
-- was.
abbrev pub AddsPieces : (src from dst to : ℕ) → Store → Store → Result ℕ TxFault → Type 0
AddsPieces src from dst to before after result =
    IfOk result (λ len. (known left : RowMap) → before.rows ≡ Some known → Whole (typed known)
    → after.rows ≡ Some left → (window : ℕ)
    → GetsPieces (typed known) src from dst to len window (lists_of (typed left) dst window))
