-- The tree that rows have. The bytes of files come from elsewhere: a transaction on rows sees none.
use Rattle.std.specs.Prelude.{ℕ, ◌&&◌, ◌==◌, if◌then◌else◌, List, [], ◌∷◌, Option, None, Some, bytes_eq, unwrap_or}
use Rattle.std.specs.Option.{option_map}
use Rattle.std.specs.Int.{w64, from_be_bytes}
use Rattle.jv_model.specs.declared.tables.TheConstants.{TABLE_OF_EDGES, TABLE_OF_SUSTAINED, TABLE_OF_NODES, TABLE_OF_SESSIONS}
use Rattle.jv_model.specs.declared.row.RowKey.{RowKey}
use Rattle.jv_model.specs.declared.row.Row.{Row}
use Rattle.jv_model.specs.declared.row.Counters.{Counters}
use Rattle.jv_model.specs.declared.row.Node.{Node as NodeRow}
use Rattle.jv_model.specs.declared.row.Session.{Session}
use Rattle.jv_model.specs.declared.setting.Setting.{Setting}
use Rattle.jv_model.specs.promise.FiniteMap.{KeyOrder, Map, number_key, map_of}
use Rattle.jv_model.specs.promise.rows.RowFields.{long}
use Rattle.jv_model.specs.promise.tree.Tree.{Tree, Node, Kind, File, Directory, Symlink, EntryKey, entry_key, SessionEntry, SustainedFile, pair_key}
use Rattle.jv_model.specs.promise.Lists.{is_nil}
use Rattle.jv_model.specs.promise.tree.Changes.{content_of}
use Rattle.jv_volume.specs.promise.TypedRows.{Cell, Rows}
use Rattle.jv_volume.specs.promise.Views.{row_in, setting_at, counters_at, node_in, edge_in, session_in, sustained_in}

-- A table's rows as a map of their own: what a row's key is there, if it is of the table, and what
-- the row is.
abbrev pub entry_selected : {K X : Type 0} → (K → Option Row → Option X) → Option K → Cell
    → List (K × X) → List (K × X)
entry_selected value_of None cell others = others
entry_selected value_of (Some key) cell others =
    elim (value_of key (row_in (Some cell))) [ None ↦ others | Some x ↦ (key, x) ∷ others ]

abbrev pub entries_selected : {K X : Type 0} → (RowKey → Option K) → (K → Option Row → Option X)
    → List (RowKey × Cell) → List (K × X)
entries_selected key_of value_of [] = []
entries_selected key_of value_of (e ∷ es) =
    entry_selected value_of (key_of e.0) e.1 (entries_selected key_of value_of es)

unfoldable pub selected : {K X : Type 0} {order : KeyOrder K} → (RowKey → Option K)
    → (K → Option Row → Option X) → Rows → Map order X
selected key_of value_of rows = map_of (entries_selected key_of value_of rows.list)

-- the number of a key of a table whose keys are numbers
abbrev pub number_of_key : ℕ → RowKey → Option ℕ
number_of_key tab key = (if key.tab == tab && is_nil key.b then Some key.a else None)

abbrev pub entry_of_key : RowKey → Option EntryKey
entry_of_key key =
    (if key.tab == TABLE_OF_EDGES then Some (record { dir = key.a; name = key.b }) else None)

abbrev pub pair_of_key : RowKey → Option SustainedFile
pair_of_key key =
    (if key.tab == TABLE_OF_SUSTAINED && bytes_eq (long (from_be_bytes w64 key.b)) key.b
    then Some (record { sid = key.a; inode = from_be_bytes w64 key.b }) else None)

-- nodes

abbrev pub kind_of : (ℕ → ℕ) → NodeRow → Kind
kind_of byte row =
    (if row.kind == 1 then File (content_of row.length byte)
    else if row.kind == 2 then Directory row.parent else Symlink row.target)

abbrev pub node_of_row : (ℕ → ℕ) → NodeRow → Node
node_of_row byte row =
    record {
      kind = kind_of byte row;
      mode = row.mode;
      uid = row.uid;
      gid = row.gid;
      mtime = row.mtime;
      ctime = row.ctime;
    }

unfoldable pub nodes_of : (ℕ → ℕ → ℕ) → Rows → Map number_key Node
nodes_of bytes rows =
    selected (number_of_key TABLE_OF_NODES) (λ inode row.
    option_map (node_of_row (bytes inode)) (node_in row)) rows

unfoldable pub entries_of_rows : Rows → Map entry_key ℕ
entries_of_rows rows =
    selected entry_of_key (λ at row. option_map (λ edge. edge.inode) (edge_in row)) rows

abbrev pub session_of_row : Session → SessionEntry
session_of_row row = record { client = row.client; expiry = row.expiry }

unfoldable pub sessions_of : Rows → Map number_key SessionEntry
sessions_of rows =
    selected (number_of_key TABLE_OF_SESSIONS) (λ sid row. option_map session_of_row (session_in row)) rows

unfoldable pub sustained_of_rows : Rows → Map pair_key (Unit {0})
sustained_of_rows rows =
    selected pair_of_key (λ pair row. if sustained_in row then Some tt else None) rows

-- where a volume has no setting or no counters

abbrev pub no_setting : Setting
no_setting =
    record {
      version = 0;
      block = 0;
      trash_days = 0;
      capacity = 0;
      inodes = 0;
      hash = 0;
      name = [];
      bucket = [];
    }

abbrev pub or_no_setting : Option Setting → Setting
or_no_setting setting = unwrap_or setting no_setting

abbrev pub no_counters : Counters
no_counters = record { inode = 0; slice = 0; session = 0; used_space = 0; used_inodes = 0 }

abbrev pub or_no_counters : Option Counters → Counters
or_no_counters counters = unwrap_or counters no_counters

abbrev pub counters_of_rows : Rows → Counters
counters_of_rows rows = or_no_counters (counters_at rows)

-- the tree of rows, with each file's bytes by inode and position
unfoldable pub tree_of : (ℕ → ℕ → ℕ) → Rows → Tree
tree_of bytes rows = record {
  setting = or_no_setting (setting_at rows);
  nodes = nodes_of bytes rows;
  entries = entries_of_rows rows;
  sessions = sessions_of rows;
  sustained = sustained_of_rows rows;
  next_inode = (counters_of_rows rows).inode;
  next_session = (counters_of_rows rows).session;
}
