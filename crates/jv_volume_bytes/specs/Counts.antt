-- What only inner contracts cite: of `promise/Counts`.
use Rattle.std.specs.Prelude.{◌≡◌, ◌≢◌, ℕ, ◌+◌, ◌≤◌, ◌<◌, List, Some, None}
use Rattle.jv_model.specs.declared.row.SliceRow.{SliceRow}
use Rattle.jv_model.specs.declared.row.Dead.{Dead}
use Rattle.jv_model.specs.declared.slice.Rec.{Rec}
use Rattle.jv_volume.specs.promise.TypedRows.{Rows}
use Rattle.jv_volume.specs.promise.Views.{slice_row_at, dead_at}
use Rattle.jv_volume.specs.promise.Slices.{IsUnknown, named_by, next_slice, records_naming, slice_count}
use Rattle.jv_volume_bytes.specs.promise.Counts.{record_count}

-- Lists have changed and counts not yet: to each slice's count the records that came are still to
-- be added, and those that went to be taken off.
pub record Behind (rows : Rows) (gone added : List Rec) : Type 0 where
  pub by : (id : ℕ) → 0 < id
      → slice_count rows id + records_naming id added ≡ named_by rows id + records_naming id gone

-- a slice's row has gone, and it is dead from then on
pub record HasDied (after : Rows) (id size : ℕ) : Type 0 where
  pub dead : Dead
  pub is : dead_at after id ≡ Some dead
  pub size_is : dead.size ≡ size

-- a slice had a row of this size
pub record HadSize (rows : Rows) (id size : ℕ) : Type 0 where
  pub slice : SliceRow
  pub is : slice_row_at rows id ≡ Some slice
  pub size_is : slice.size ≡ size

-- What a transaction on lists leaves of slices other than its own: the next number; an unknown
-- slice stays unknown; no slice gets a row that had none; one that loses its row is dead, with its
-- size; dead ones stay dead. There are at most `more` records more.
pub record KeepsOthers (own more : ℕ) (rows after : Rows) : Type 0 where
  pub next : next_slice after ≡ next_slice rows
  pub unknown : (id : ℕ) → 0 < id → id ≢ own → IsUnknown rows id → IsUnknown after id
  pub had : (id : ℕ) (slice : SliceRow) → id ≢ own → slice_row_at after id ≡ Some slice
      → HadSize rows id slice.size
  pub dies : (id : ℕ) (slice : SliceRow) → 0 < id → slice_row_at rows id ≡ Some slice
      → slice_row_at after id ≡ None → HasDied after id slice.size
  pub dead : (id : ℕ) (dead : Dead) → 0 < id → dead_at rows id ≡ Some dead
      → dead_at after id ≡ Some dead
  pub records : record_count after ≤ record_count rows + more
