-- That a grammar is exact: what is spelled is read again, and what is read is spelled so.
use Rattle.std.specs.Prelude.{◌≡◌, ℕ, ◌<◌, ◌^◌, Bool, true, List, [], Option, Some, IsTrue}
use Rattle.std.specs.List.{AllByRecursion}
use Rattle.jv_model.specs.declared.setting.Setting.{Setting}
use Rattle.jv_model.specs.declared.slice.Rec.{Rec}
use Rattle.jv_model.specs.declared.row.Counters.{Counters}
use Rattle.jv_model.specs.declared.row.Node.{Node}
use Rattle.jv_model.specs.declared.row.Edge.{Edge}
use Rattle.jv_model.specs.declared.row.SliceRow.{SliceRow}
use Rattle.jv_model.specs.declared.row.Session.{Session}
use Rattle.jv_model.specs.declared.row.Dropped.{Dropped}
use Rattle.jv_model.specs.declared.row.Dead.{Dead}
use Rattle.jv_model.specs.Lists.{AreBytes}
use Rattle.jv_model.specs.promise.rows.RowGrammar.{is_setting, setting_bytes, setting_of, is_counters, counters_bytes, counters_of, is_node, node_bytes, node_of, is_edge, edge_bytes, edge_of, is_list, list_bytes, list_of, is_slice, slice_bytes, slice_of, is_session, session_bytes, session_of_bytes, sustained_of, dropped_bytes, dropped_of, dead_bytes, dead_of}

-- of the values whose numbers have the widths of the row, those that are allowed are spelled and
-- read again, and bytes that are read spell an allowed value
pub record IsExact {A : Type 0} (HasWidths : A → Type 0) (is_allowed : A → Bool)
    (spelled : A → List ℕ) (read : List ℕ → Option A) : Type 0 where
  pub again : (x : A) → HasWidths x → IsTrue (is_allowed x) → read (spelled x) ≡ Some x
  pub widths : (bytes : List ℕ) (x : A) → AreBytes bytes → read bytes ≡ Some x → HasWidths x
  pub allowed : (bytes : List ℕ) (x : A) → AreBytes bytes → read bytes ≡ Some x
      → IsTrue (is_allowed x)
  pub same : (bytes : List ℕ) (x : A) → AreBytes bytes → read bytes ≡ Some x → bytes ≡ spelled x

pub record SettingWidths (s : Setting) : Type 0 where
  pub version : s.version < 2 ^ 32
  pub block : s.block < 2 ^ 32
  pub trash_days : s.trash_days < 2 ^ 32
  pub capacity : s.capacity < 2 ^ 64
  pub inodes : s.inodes < 2 ^ 64
  pub hash : s.hash < 2 ^ 8
  pub name : AreBytes s.name
  pub bucket : AreBytes s.bucket

pub record CountersWidths (c : Counters) : Type 0 where
  pub inode : c.inode < 2 ^ 64
  pub slice : c.slice < 2 ^ 64
  pub session : c.session < 2 ^ 64
  pub used_space : c.used_space < 2 ^ 64
  pub used_inodes : c.used_inodes < 2 ^ 64

pub record NodeWidths (n : Node) : Type 0 where
  pub kind : n.kind < 2 ^ 8
  pub mode : n.mode < 2 ^ 16
  pub uid : n.uid < 2 ^ 32
  pub gid : n.gid < 2 ^ 32
  pub nlink : n.nlink < 2 ^ 32
  pub mtime : n.mtime < 2 ^ 64
  pub ctime : n.ctime < 2 ^ 64
  pub length : n.length < 2 ^ 64
  pub parent : n.parent < 2 ^ 64
  pub target : AreBytes n.target

pub record EdgeWidths (e : Edge) : Type 0 where
  pub kind : e.kind < 2 ^ 8
  pub inode : e.inode < 2 ^ 64

pub record RecordWidths (r : Rec) : Type 0 where
  pub pos : r.pos < 2 ^ 32
  pub id : r.id < 2 ^ 64
  pub size : r.size < 2 ^ 32
  pub off : r.off < 2 ^ 32
  pub len : r.len < 2 ^ 32

abbrev pub ListWidths : List Rec → Type 0
ListWidths rs = AllByRecursion RecordWidths rs

pub record SliceWidths (s : SliceRow) : Type 0 where
  pub size : s.size < 2 ^ 32
  pub count : s.count < 2 ^ 64

pub record SessionWidths (s : Session) : Type 0 where
  pub client : s.client < 2 ^ 8
  pub expiry : s.expiry < 2 ^ 64

pub record DroppedWidths (d : Dropped) : Type 0 where
  pub length : d.length < 2 ^ 64

pub record DeadWidths (d : Dead) : Type 0 where
  pub size : d.size < 2 ^ 32
  pub due : d.due < 2 ^ 64

-- each table's grammar is exact
pub record RowsAreExact : Type 0 where
  pub setting : IsExact SettingWidths is_setting setting_bytes setting_of
  pub counters : IsExact CountersWidths is_counters counters_bytes counters_of
  pub node : IsExact NodeWidths is_node node_bytes node_of
  pub edge : IsExact EdgeWidths is_edge edge_bytes edge_of
  pub list : IsExact ListWidths is_list list_bytes list_of
  pub slice : IsExact SliceWidths is_slice slice_bytes slice_of
  pub session : IsExact SessionWidths is_session session_bytes session_of_bytes
  pub sustained : IsExact (λ _. Unit {0}) (λ _. true) (λ _. []) sustained_of
  pub dropped : IsExact DroppedWidths (λ _. true) dropped_bytes dropped_of
  pub dead : IsExact DeadWidths (λ _. true) dead_bytes dead_of
