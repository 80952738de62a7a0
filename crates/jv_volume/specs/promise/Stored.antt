-- That rows are those of a tree: what stands at each key is what the tree has there, with its
-- counts and sums.
use Rattle.std.specs.Prelude.{◌≡◌, ℕ, ◌<◌, ◌^◌, List, [], Option, None, Some, Ok}
use Rattle.std.specs.Option.{option_map}
use Rattle.jv_model.specs.declared.row.Counters.{Counters}
use Rattle.jv_model.specs.declared.row.Node.{Node as NodeRow}
use Rattle.jv_model.specs.declared.row.Edge.{Edge}
use Rattle.jv_model.specs.declared.row.Session.{Session}
use Rattle.jv_model.specs.declared.row.Row.TheVariants.{OfSetting, OfCounters, OfNode, OfEdge, OfSession, OfSustained}
use Rattle.jv_model.specs.promise.FiniteMap.{get}
use Rattle.jv_model.specs.promise.rows.RowPlaces.{setting_key, counters_key, node_key, edge_key, session_key, sustained_key}
use Rattle.jv_model.specs.promise.tree.Tree.{Tree, Node, Kind, File, Directory, Symlink, EntryKey, SessionEntry, node_at, link_count, used_space, used_inodes}
use Rattle.jv_model.specs.promise.tree.Reading.{size_of}
use Rattle.jv_volume.specs.promise.TypedRows.{Rows}

abbrev pub kind_number : Kind → ℕ
kind_number (File content) = 1
kind_number (Directory parent) = 2
kind_number (Symlink target) = 3

abbrev pub stored_parent : Kind → ℕ
stored_parent (File content) = 0
stored_parent (Directory parent) = parent
stored_parent (Symlink target) = 0

abbrev pub stored_target : Kind → List ℕ
stored_target (File content) = []
stored_target (Directory parent) = []
stored_target (Symlink target) = target

-- a node with its link count
abbrev pub node_row : ℕ → Node → NodeRow
node_row links node = record {
  kind = kind_number node.kind;
  mode = node.mode;
  uid = node.uid;
  gid = node.gid;
  nlink = links;
  mtime = node.mtime;
  ctime = node.ctime;
  length = size_of node.kind;
  parent = stored_parent node.kind;
  target = stored_target node.kind;
}

abbrev pub number_of_node : Option Node → ℕ
number_of_node None = 0
number_of_node (Some node) = kind_number node.kind

abbrev pub edge_row : Tree → ℕ → Edge
edge_row t inode = record { kind = number_of_node (node_at t inode); inode = inode }

abbrev pub session_row : SessionEntry → Session
session_row entry = record { client = entry.client; expiry = entry.expiry }

abbrev pub counters_row : Tree → ℕ → Counters
counters_row t slice =
    record {
      inode = t.next_inode;
      slice = slice;
      session = t.next_session;
      used_space = used_space t;
      used_inodes = used_inodes t;
    }

pub record Stored (rows : Rows) (t : Tree) : Type 0 where
  pub slice : ℕ  -- the next slice, which the tree doesn't have
  pub setting : get rows setting_key ≡ Some (Ok (OfSetting t.setting))
  pub counters : get rows counters_key ≡ Some (Ok (OfCounters (counters_row t slice)))
  pub node : (inode : ℕ) → get rows (node_key inode) ≡ option_map (λ node.
      Ok (OfNode (node_row (link_count t inode) node))) (node_at t inode)
  pub edge : (at : EntryKey) → get rows (edge_key at.dir at.name) ≡ option_map (λ inode.
      Ok (OfEdge (edge_row t inode))) (get t.entries at)
  pub session : (sid : ℕ) → get rows (session_key sid) ≡ option_map (λ entry.
      Ok (OfSession (session_row entry))) (get t.sessions sid)
  pub sustained : (sid inode : ℕ) → inode < 2 ^ 64
      → get rows (sustained_key sid inode) ≡ option_map (λ unit. Ok OfSustained)
      (get t.sustained (record { sid = sid; inode = inode }))
