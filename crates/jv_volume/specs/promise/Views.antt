-- What stands at the key of each table.
use Rattle.std.specs.Prelude.{ℕ, Bool, true, false, ◌^◌, nat_lt, if◌then◌else◌, List, [], Option, None, Some, Ok, Err}
use Rattle.jv_model.specs.declared.row.RowKey.{RowKey}
use Rattle.jv_model.specs.declared.row.Row.{Row}
use Rattle.jv_model.specs.declared.row.Row.TheVariants.{OfSetting, OfCounters, OfNode, OfEdge, OfList, OfSlice, OfSession, OfSustained, OfDropped, OfDead}
use Rattle.jv_model.specs.declared.row.Counters.{Counters}
use Rattle.jv_model.specs.declared.row.Node.{Node as NodeRow}
use Rattle.jv_model.specs.declared.row.Edge.{Edge}
use Rattle.jv_model.specs.declared.row.SliceRow.{SliceRow}
use Rattle.jv_model.specs.declared.row.Session.{Session}
use Rattle.jv_model.specs.declared.row.Dropped.{Dropped}
use Rattle.jv_model.specs.declared.row.Dead.{Dead}
use Rattle.jv_model.specs.declared.setting.Setting.{Setting}
use Rattle.jv_model.specs.declared.slice.Rec.{Rec}
use Rattle.jv_model.specs.promise.FiniteMap.{get}
use Rattle.jv_model.specs.promise.rows.RowPlaces.{setting_key, counters_key, node_key, list_key, slice_key, dropped_key, dead_key}
use Rattle.jv_volume.specs.promise.TypedRows.{Cell, Rows}

abbrev pub row_in : Option Cell → Option Row
row_in None = None
row_in (Some (Ok row)) = Some row
row_in (Some (Err bytes)) = None

-- the row at a key
abbrev pub row_at : Rows → RowKey → Option Row
row_at rows key = row_in (get rows key)

abbrev pub setting_in : Option Row → Option Setting
setting_in (Some (OfSetting setting)) = Some setting
setting_in _ = None

abbrev pub setting_at : Rows → Option Setting
setting_at rows = setting_in (row_at rows setting_key)

abbrev pub counters_in : Option Row → Option Counters
counters_in (Some (OfCounters counters)) = Some counters
counters_in _ = None

abbrev pub counters_at : Rows → Option Counters
counters_at rows = counters_in (row_at rows counters_key)

abbrev pub node_in : Option Row → Option NodeRow
node_in (Some (OfNode node)) = Some node
node_in _ = None

abbrev pub node_row_at : Rows → ℕ → Option NodeRow
node_row_at rows inode = node_in (row_at rows (node_key inode))

abbrev pub edge_in : Option Row → Option Edge
edge_in (Some (OfEdge edge)) = Some edge
edge_in _ = None

abbrev pub records_in : Option Row → List Rec
records_in (Some (OfList records)) = records
records_in _ = []

-- The records of a window of a file, none where there is no list. Keys have windows of 32 bits.
unfoldable pub lists_of : Rows → ℕ → ℕ → List Rec
lists_of rows inode window =
    (if nat_lt window (2 ^ 32) then records_in (row_at rows (list_key inode window)) else [])

abbrev pub slice_in : Option Row → Option SliceRow
slice_in (Some (OfSlice slice)) = Some slice
slice_in _ = None

abbrev pub slice_row_at : Rows → ℕ → Option SliceRow
slice_row_at rows id = slice_in (row_at rows (slice_key id))

abbrev pub session_in : Option Row → Option Session
session_in (Some (OfSession session)) = Some session
session_in _ = None

abbrev pub sustained_in : Option Row → Bool
sustained_in (Some OfSustained) = true
sustained_in _ = false

abbrev pub dropped_in : Option Row → Option Dropped
dropped_in (Some (OfDropped dropped)) = Some dropped
dropped_in _ = None

abbrev pub dropped_at : Rows → ℕ → Option Dropped
dropped_at rows inode = dropped_in (row_at rows (dropped_key inode))

abbrev pub dead_in : Option Row → Option Dead
dead_in (Some (OfDead dead)) = Some dead
dead_in _ = None

abbrev pub dead_at : Rows → ℕ → Option Dead
dead_at rows id = dead_in (row_at rows (dead_key id))
