-- What the bytes of each table's rows spell.
use Rattle.std.specs.Prelude.{◌≡◌, ℕ, List}
use Rattle.std.specs.Option.{option_map}
use Rattle.std.proofs.Common.{refl}
use Rattle.jv_model.specs.declared.tables.TheConstants.{TABLE_OF_SETTING, TABLE_OF_COUNTERS, TABLE_OF_NODES, TABLE_OF_EDGES, TABLE_OF_LISTS, TABLE_OF_SLICES, TABLE_OF_SESSIONS, TABLE_OF_SUSTAINED, TABLE_OF_DROPPED, TABLE_OF_DEAD}
use Rattle.jv_model.specs.declared.row.Row.TheVariants.{OfSetting, OfCounters, OfNode, OfEdge, OfList, OfSlice, OfSession, OfSustained, OfDropped, OfDead}
use Rattle.jv_model.specs.promise.rows.RowGrammar.{row_of, setting_of, counters_of, node_of, edge_of, list_of, slice_of, session_of_bytes, sustained_of, dropped_of, dead_of}

pub setting_row : (bytes : List ℕ)
    → row_of TABLE_OF_SETTING bytes ≡ option_map OfSetting (setting_of bytes)
unfolding row_of
setting_row bytes = refl

pub counters_row : (bytes : List ℕ)
    → row_of TABLE_OF_COUNTERS bytes ≡ option_map OfCounters (counters_of bytes)
unfolding row_of
counters_row bytes = refl

pub node_row : (bytes : List ℕ) → row_of TABLE_OF_NODES bytes ≡ option_map OfNode (node_of bytes)
unfolding row_of
node_row bytes = refl

pub edge_row : (bytes : List ℕ) → row_of TABLE_OF_EDGES bytes ≡ option_map OfEdge (edge_of bytes)
unfolding row_of
edge_row bytes = refl

pub list_row : (bytes : List ℕ) → row_of TABLE_OF_LISTS bytes ≡ option_map OfList (list_of bytes)
unfolding row_of
list_row bytes = refl

pub slice_row : (bytes : List ℕ)
    → row_of TABLE_OF_SLICES bytes ≡ option_map OfSlice (slice_of bytes)
unfolding row_of
slice_row bytes = refl

pub session_row : (bytes : List ℕ)
    → row_of TABLE_OF_SESSIONS bytes ≡ option_map OfSession (session_of_bytes bytes)
unfolding row_of
session_row bytes = refl

pub sustained_row : (bytes : List ℕ) → row_of TABLE_OF_SUSTAINED bytes ≡ option_map (λ _.
    OfSustained) (sustained_of bytes)
unfolding row_of
sustained_row bytes = refl

pub dropped_row : (bytes : List ℕ)
    → row_of TABLE_OF_DROPPED bytes ≡ option_map OfDropped (dropped_of bytes)
unfolding row_of
dropped_row bytes = refl

pub dead_row : (bytes : List ℕ) → row_of TABLE_OF_DEAD bytes ≡ option_map OfDead (dead_of bytes)
unfolding row_of
dead_row bytes = refl
