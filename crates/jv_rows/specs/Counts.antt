-- How the counts of slices follow records that went and came.
use Rattle.std.specs.Prelude.{◌≡◌, ℕ, ◌+◌, ◌-◌, Bool, false, ◌||◌, ◌&&◌, not, ◌==◌, nat_le, if◌then◌else◌, List, Option, None, Some, Result, Ok, IfErr, IfSome, OnOk, IsTrue}
use Rattle.jv_model.specs.declared.tables.TheConstants.{TABLE_OF_SLICES, TABLE_OF_DEAD}
use Rattle.jv_model.specs.declared.limits.TheConstants.{FULL_COUNT}
use Rattle.jv_model.specs.declared.row.RowKey.{RowKey}
use Rattle.jv_model.specs.declared.row.SliceRow.{SliceRow}
use Rattle.jv_model.specs.declared.row.Row.TheVariants.{OfSlice, OfDead}
use Rattle.jv_model.specs.declared.slice.Rec.{Rec}
use Rattle.jv_model.specs.declared.fault.Fault.TheVariants.{NoSpace}
use Rattle.jv_model.specs.declared.fault.RowFault.TheVariants.{Bad, Failed, Memory}
use Rattle.jv_model.specs.declared.fault.TxFault.{TxFault}
use Rattle.jv_model.specs.declared.fault.TxFault.TheVariants.{Refused, Moved, Rows as OfRows}
use Rattle.jv_model.specs.promise.FiniteMap.{get, insert, remove}
use Rattle.jv_model.specs.promise.rows.RowKeys.{RowMap}
use Rattle.jv_model.specs.promise.rows.RowPlaces.{slice_key, dead_key}
use Rattle.jv_model.specs.promise.Lists.{is_nil}
use Rattle.jv_outside.specs.declared.batch.Change.{Change}
use Rattle.jv_outside.specs.promise.Store.{Store}
use Rattle.jv_volume.specs.promise.TypedRows.{Cell, Rows, typed}
use Rattle.jv_volume.specs.promise.Slices.{records_naming}
use Rattle.jv_rows.specs.Drafts.{drafted, RefusesNeeded}
use Rattle.jv_rows.specs.Transactions.{TransactionCounts}

-- what a map from slices to how many records name them has; id 0 is no slice
abbrev pub stored_count : List Rec → ℕ → Option ℕ
stored_count records id =
    if id == 0 || records_naming id records == 0 then None else Some (records_naming id records)

-- whether a record that went or came names the slice
abbrev pub is_named : List Rec → List Rec → ℕ → Bool
is_named gone added id =
    not (id == 0) && not (records_naming id gone + records_naming id added == 0)

-- a count with these numbers of records gone and added
abbrev pub recounted : ℕ → ℕ → ℕ → ℕ
recounted count gone added = count + added - gone

-- whether a count may become another: none grows past FULL_COUNT
abbrev pub may_become : ℕ → ℕ → Bool
may_become count next = nat_le next FULL_COUNT || nat_le next count

-- the row of a slice with a count: none where nothing names it
abbrev pub slice_cell : ℕ → ℕ → Option Cell
slice_cell size count =
    if count == 0 then None else Some (Ok (OfSlice (record { size = size; count = count })))

-- and its dead row: a slice that nothing names any more is dead, others are as before
abbrev pub dead_cell : ℕ → ℕ → ℕ → Option Cell → Option Cell
dead_cell size count due before =
    if count == 0 then Some (Ok (OfDead (record { size = size; due = due }))) else before

-- a slice's count follows records that went and came
pub record Recounted (id gone added due : ℕ) (rows after : Rows) : Type 0 where
  pub slice : SliceRow
  pub was : get rows (slice_key id) ≡ Some (Ok (OfSlice slice))
  pub fits : IsTrue (may_become slice.count (recounted slice.count gone added))
  pub row : get after (slice_key id) ≡ slice_cell slice.size (recounted slice.count gone added)
  pub dead : get after (dead_key id) ≡ dead_cell slice.size (recounted slice.count gone added) due
      (get rows (dead_key id))

-- whether a key is of a slice that passes a test, living or dead
abbrev pub is_of_slice : (ℕ → Bool) → RowKey → Bool
is_of_slice test key =
    (key.tab == TABLE_OF_SLICES || key.tab == TABLE_OF_DEAD) && is_nil key.b && test key.a

-- Each slice that records name is recounted, and other rows are as before.
pub record Adjusted (gone added : List Rec) (due : ℕ) (rows after : Rows) : Type 0 where
  pub named : (id : ℕ) → IsTrue (is_named gone added id)
      → Recounted id (records_naming id gone) (records_naming id added) due rows after
  pub others : (key : RowKey) → is_of_slice (is_named gone added) key ≡ false
      → get after key ≡ get rows key

-- a count can't follow: it would grow past FULL_COUNT
pub record IsFull (id gone added : ℕ) (rows : Rows) : Type 0 where
  pub slice : SliceRow
  pub was : get rows (slice_key id) ≡ Some (Ok (OfSlice slice))
  pub full : may_become slice.count (recounted slice.count gone added) ≡ false

-- why a slice's count didn't follow: it would grow past FULL_COUNT, its row is malformed or absent,
-- the keeper failed, or out of memory
abbrev pub RefusesRecount : ℕ → ℕ → ℕ → List Change → Option RowMap → TxFault → Type 0
RefusesRecount id gone added changes rows (Refused fault) =
    (fault ≡ NoSpace) × IfSome rows (λ known. IsFull id gone added (drafted changes known))
RefusesRecount id gone added changes rows (Moved list) = ⊥
RefusesRecount id gone added changes rows (OfRows fault) =
    RefusesNeeded (slice_key id) changes rows (OfRows fault)

-- some slice's count didn't follow
pub record FailsToRecount (gone added : List Rec) (changes : List Change) (rows : Option RowMap)
    (fault : TxFault) : Type 0 where
  pub id : ℕ
  pub named : IsTrue (is_named gone added id)
  pub why : RefusesRecount id (records_naming id gone) (records_naming id added) changes rows fault

abbrev pub RefusesAdjust : List Rec → List Rec → List Change → Option RowMap → TxFault → Type 0
RefusesAdjust gone added changes rows (Refused fault) =
    FailsToRecount gone added changes rows (Refused fault)
RefusesAdjust gone added changes rows (Moved list) = ⊥
RefusesAdjust gone added changes rows (OfRows (Bad at bytes)) =
    FailsToRecount gone added changes rows (OfRows (Bad at bytes))
RefusesAdjust gone added changes rows (OfRows Failed) = Unit {0}
RefusesAdjust gone added changes rows (OfRows Memory) = Unit {0}

-- Counts follow records that went and came, over changes: rows and place are the same, and where
-- the rows are known, the changes leave them adjusted.
pub record Adjusts (gone added : List Rec) (due : ℕ) (before after : Store)
    (changes changed : List Change) (result : Result (Unit {0}) TxFault) : Type 0 where
  pub rows_are : after.rows ≡ before.rows
  pub opened_at : after.opened ≡ before.opened
  pub counts : TransactionCounts before.faults after.faults result
  pub done : OnOk result (IfSome before.rows (λ known.
      Adjusted gone added due (drafted changes known) (drafted changed known)))
  pub refused : IfErr result (RefusesAdjust gone added changes before.rows)

-- ---- one slice

-- rows where a slice has a count: its row, or where nothing names it, no row and a dead one
abbrev pub with_count : ℕ → SliceRow → ℕ → Rows → Rows
with_count id slice due rows =
    if slice.count == 0
    then insert (remove rows (slice_key id)) (dead_key id)
    (Ok (OfDead (record { size = slice.size; due = due })))
    else insert rows (slice_key id) (Ok (OfSlice slice))

-- the changes leave the row at a key as it is stored
abbrev pub LeavesStored : RowKey → List Change → Type 0
LeavesStored key changes =
    (known : RowMap) → get (drafted changes known) key ≡ get (typed known) key

-- but for the rows of slices that pass a test, the later changes leave what the earlier ones did
abbrev pub LeavesOthers : (ℕ → Bool) → List Change → List Change → Type 0
LeavesOthers test changes changed = (known : RowMap) (key : RowKey) → is_of_slice test key ≡ false
    → get (drafted changed known) key ≡ get (drafted changes known) key

-- one slice's count follows
pub record Recounts (id gone added due : ℕ) (before after : Store) (changes changed : List Change)
    (result : Result (Unit {0}) TxFault) : Type 0 where
  pub rows_are : after.rows ≡ before.rows
  pub opened_at : after.opened ≡ before.opened
  pub counts : TransactionCounts before.faults after.faults result
  pub done : OnOk result (IfSome before.rows (λ known.
      Recounted id gone added due (drafted changes known) (drafted changed known)))
  pub others : OnOk result (LeavesOthers (λ i. i == id) changes changed)
  pub refused : IfErr result (RefusesRecount id gone added changes before.rows)
