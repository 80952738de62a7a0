-- What makes lists, slices, and what is left of removed files whole.
use Rattle.std.specs.Prelude.{◌≡◌, ◌≢◌, ℕ, ◌/◌, ◌%◌, ◌<◌, ◌≤◌, ◌==◌, if◌then◌else◌, List, [], count_by, Option, None, Some}
use Rattle.std.specs.List.{AllByRecursion}
use Rattle.jv_model.specs.declared.tables.TheConstants.{TABLE_OF_LISTS}
use Rattle.jv_model.specs.declared.limits.TheConstants.{FILE_END, WINDOW, FULL_COUNT}
use Rattle.jv_model.specs.declared.row.RowKey.{RowKey}
use Rattle.jv_model.specs.declared.row.Node.{Node as NodeRow}
use Rattle.jv_model.specs.declared.row.SliceRow.{SliceRow}
use Rattle.jv_model.specs.declared.row.Dead.{Dead}
use Rattle.jv_model.specs.declared.slice.Rec.{Rec}
use Rattle.jv_model.specs.declared.slice.Spot.{Spot}
use Rattle.jv_model.specs.declared.slice.Spot.TheVariants.{Zero}
use Rattle.jv_model.specs.promise.FiniteMap.{get, sum_over}
use Rattle.jv_model.specs.promise.blocks.Slices.{IsRecord, stored_place}
use Rattle.jv_volume.specs.promise.TypedRows.{Cell, Rows}
use Rattle.jv_volume.specs.promise.Views.{row_in, records_in, lists_of, node_row_at, slice_row_at, dropped_at, dead_at}
use Rattle.jv_volume.specs.promise.TreeOf.{counters_of_rows}

-- the records of what stands at a key, none where that is no list
abbrev pub listed : RowKey → Option Cell → List Rec
listed key cell = (if key.tab == TABLE_OF_LISTS then records_in (row_in cell) else [])

-- how many records name a slice
abbrev pub records_naming : ℕ → List Rec → ℕ
records_naming id records = count_by (λ r. r.id == id) records

-- how many records of all lists name a slice
unfoldable pub named_by : Rows → ℕ → ℕ
named_by rows id = sum_over (λ key cell. records_naming id (listed key (Some cell))) rows

abbrev pub count_in : Option SliceRow → ℕ
count_in None = 0
count_in (Some slice) = slice.count

-- the stored count of a slice, 0 where it has no row
abbrev pub slice_count : Rows → ℕ → ℕ
slice_count rows id = count_in (slice_row_at rows id)

-- each record of each list
abbrev pub ListsHave : (Rec → Type 0) → Rows → Type 0
ListsHave P rows = (key : RowKey) → AllByRecursion P (listed key (get rows key))

-- no record names the slice, and it has no row, living or dead
pub record IsUnknown (rows : Rows) (id : ℕ) : Type 0 where
  pub unnamed : named_by rows id ≡ 0
  pub no_row : slice_row_at rows id ≡ None
  pub not_dead : dead_at rows id ≡ None

abbrev pub next_slice : Rows → ℕ
next_slice rows = (counters_of_rows rows).slice

-- each slice has one size for good, and as many records as its row says
pub record WholeSlices (rows : Rows) : Type 0 where
  pub sizes : ℕ → ℕ
  pub records : ListsHave IsRecord rows
  pub sized : ListsHave (λ r. r.id ≢ 0 → r.size ≡ sizes r.id) rows
  pub slice_size : (id : ℕ) (slice : SliceRow) → slice_row_at rows id ≡ Some slice
      → (slice.size ≡ sizes id) × (1 ≤ slice.size) × (slice.size ≤ WINDOW)
  pub exact : (id : ℕ) → 0 < id → slice_count rows id ≡ named_by rows id
  pub dead_size : (id : ℕ) (dead : Dead) → 0 < id → dead_at rows id ≡ Some dead
      → (1 ≤ dead.size) × (dead.size ≤ WINDOW)
  pub apart : (id : ℕ) → 0 < id → dead_at rows id ≢ None → slice_row_at rows id ≡ None
  pub below : (id : ℕ) → next_slice rows ≤ id → IsUnknown rows id
  pub none : slice_row_at rows 0 ≡ None
  pub slices_end : next_slice rows ≤ FULL_COUNT

-- the place that a position of a file shows
unfoldable pub place_in : (ℕ → List Rec) → ℕ → Spot
place_in lists position = stored_place (lists (position / WINDOW)) (position % WINDOW)

-- who may have lists: a file, or a removed one whose row is there
pub data HasLists (rows : Rows) (inode : ℕ) : Type 0 where
  OfFile : (node : NodeRow) → node_row_at rows inode ≡ Some node → node.kind ≡ 1
      → HasLists rows inode
  OfDropped : dropped_at rows inode ≢ None → HasLists rows inode

-- no file is longer than it may be, and none shows anything from its length on; only files and
-- removed ones have lists, and no node has the number of a removed one, which was given before
pub record WholeFiles (rows : Rows) : Type 0 where
  pub small : (inode : ℕ) (node : NodeRow) → node_row_at rows inode ≡ Some node → node.kind ≡ 1
      → node.length ≤ FILE_END
  pub past : (inode : ℕ) (node : NodeRow) → node_row_at rows inode ≡ Some node → node.kind ≡ 1
      → (position : ℕ) → node.length ≤ position → place_in (lists_of rows inode) position ≡ Zero
  pub owned : (key : RowKey) → key.tab ≡ TABLE_OF_LISTS → get rows key ≢ None → HasLists rows key.a
  pub gone : (inode : ℕ) → dropped_at rows inode ≢ None
      → (node_row_at rows inode ≡ None) × (inode < (counters_of_rows rows).inode)
