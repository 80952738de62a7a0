-- Where rows stand: the table's number, a number, and bytes.
use Rattle.std.specs.Prelude.{ℕ, List, []}
use Rattle.jv_model.specs.declared.tables.TheConstants.{TABLE_OF_SETTING, TABLE_OF_COUNTERS, TABLE_OF_NODES, TABLE_OF_EDGES, TABLE_OF_LISTS, TABLE_OF_SLICES, TABLE_OF_SESSIONS, TABLE_OF_SUSTAINED, TABLE_OF_DROPPED, TABLE_OF_DEAD}
use Rattle.jv_model.specs.declared.row.RowKey.{RowKey}
use Rattle.jv_model.specs.promise.rows.RowFields.{word, long}

abbrev pub setting_key : RowKey
setting_key = record { tab = TABLE_OF_SETTING; a = 0; b = [] }

abbrev pub counters_key : RowKey
counters_key = record { tab = TABLE_OF_COUNTERS; a = 0; b = [] }

abbrev pub node_key : ℕ → RowKey
node_key inode = record { tab = TABLE_OF_NODES; a = inode; b = [] }

abbrev pub edge_key : ℕ → List ℕ → RowKey
edge_key dir name = record { tab = TABLE_OF_EDGES; a = dir; b = name }

abbrev pub list_key : ℕ → ℕ → RowKey
list_key inode window = record { tab = TABLE_OF_LISTS; a = inode; b = word window }

abbrev pub slice_key : ℕ → RowKey
slice_key id = record { tab = TABLE_OF_SLICES; a = id; b = [] }

abbrev pub session_key : ℕ → RowKey
session_key sid = record { tab = TABLE_OF_SESSIONS; a = sid; b = [] }

abbrev pub sustained_key : ℕ → ℕ → RowKey
sustained_key sid inode = record { tab = TABLE_OF_SUSTAINED; a = sid; b = long inode }

abbrev pub dropped_key : ℕ → RowKey
dropped_key inode = record { tab = TABLE_OF_DROPPED; a = inode; b = [] }

abbrev pub dead_key : ℕ → RowKey
dead_key id = record { tab = TABLE_OF_DEAD; a = id; b = [] }
