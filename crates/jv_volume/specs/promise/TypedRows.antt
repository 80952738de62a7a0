-- Rows by their types: what stands at each key, read by the grammar of the key's table.
use Rattle.std.specs.Prelude.{ℕ, Bool, true, false, ◌&&◌, ◌||◌, not, ◌==◌, nat_le, if◌then◌else◌, List, map, length, Result, Ok, Err, ok_or}
use Rattle.std.specs.List.{list_all}
use Rattle.jv_model.specs.declared.tables.TheConstants.{TABLE_OF_EDGES, TABLE_OF_LISTS, TABLE_OF_SUSTAINED, TABLE_OF_COUNTERS, TABLE_OF_DEAD}
use Rattle.jv_model.specs.declared.limits.TheConstants.{MAX_NAME}
use Rattle.jv_model.specs.declared.row.RowKey.{RowKey}
use Rattle.jv_model.specs.declared.row.Row.{Row}
use Rattle.jv_model.specs.promise.FiniteMap.{Map, map_of}
use Rattle.jv_model.specs.promise.rows.RowGrammar.{row_of}
use Rattle.jv_model.specs.promise.rows.RowKeys.{row_key, RowMap}
use Rattle.jv_model.specs.promise.Lists.{is_nil}

-- what stands at a key: a row, or bytes that spell none of the key's table
abbrev pub Cell : Type 0
Cell = Result Row (List ℕ)

abbrev pub Rows : Type 0
Rows = Map row_key Cell

abbrev pub cell_of : RowKey → List ℕ → Cell
cell_of key bytes = ok_or (row_of key.tab bytes) bytes

abbrev pub typed_entries : List (RowKey × List ℕ) → List (RowKey × Cell)
typed_entries entries = map (λ e. (e.0, cell_of e.0 e.1)) entries

-- the rows that bytes spell
unfoldable pub typed : RowMap → Rows
typed rows = map_of (typed_entries rows.list)

-- a name has 1 to MAX_NAME bytes, none of them a slash or 0
abbrev pub is_entry_name : List ℕ → Bool
is_entry_name name = nat_le 1 (length name) && nat_le (length name) MAX_NAME
    && list_all (λ b. not (b == 47 || b == 0)) name

-- which keys the rows of a table have: one alone, a number, a number and a name, or a number and a
-- number of 32 or 64 bits
abbrev pub is_key : RowKey → Bool
is_key key = (if nat_le key.tab TABLE_OF_COUNTERS then key.a == 0 && is_nil key.b
    else if key.tab == TABLE_OF_EDGES then is_entry_name key.b
    else if key.tab == TABLE_OF_LISTS then length key.b == 4
    else if key.tab == TABLE_OF_SUSTAINED then length key.b == 8
    else nat_le key.tab TABLE_OF_DEAD && is_nil key.b)

-- whether what stands at a key is a row
abbrev pub is_typed : Cell → Bool
is_typed (Ok row) = true
is_typed (Err bytes) = false
