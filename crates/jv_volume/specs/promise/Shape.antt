-- What makes a tree whole. It sees no times, attributes or bytes, so it is a fact on the tree's
-- shape alone.
use Rattle.std.specs.Prelude.{◌≡◌, ℕ, zero, suc, ◌<◌, ◌≤◌, Bool, true, false, ◌&&◌, ◌||◌, ◌==◌, nat_le, nat_lt, List, is_some, Option, None, Some, IsTrue}
use Rattle.jv_model.specs.declared.limits.TheConstants.{FULL_COUNT, ROOT, TRASH_ROOT}
use Rattle.jv_model.specs.declared.lifetimes.TheConstants.{FIRST_HOUR}
use Rattle.jv_model.specs.promise.FiniteMap.{Map, get}
use Rattle.jv_model.specs.promise.tree.Tree.{Tree, Node, File, Directory, Symlink, EntryKey, entry_key, pair_key, node_at, name_count, has_pair}
use Rattle.jv_model.specs.promise.tree.HourNames.{hour_name}
use Rattle.jv_model.specs.promise.tree.Trash.{hour_of, trash_name}

-- what an inode is
pub data Form : Type 0 where
  Absent : Form
  Regular : Form  -- a file
  Link : Form  -- a symlink
  Dir : (parent : ℕ) → Form

abbrev pub form_of : Option Node → Form
form_of None = Absent
form_of (Some node) =
    elim node.kind [
      | File content ↦ Regular
      | Directory parent ↦ Dir parent
      | Symlink target ↦ Link
    ]

abbrev pub is_there : Form → Bool
is_there Absent = false
is_there Regular = true
is_there Link = true
is_there (Dir parent) = true

abbrev pub is_dir : Form → Bool
is_dir Absent = false
is_dir Regular = false
is_dir Link = false
is_dir (Dir parent) = true

pub record Shape : Type 0 where
  pub form : ℕ → Form
  pub entries : Map entry_key ℕ
  pub in_session : ℕ → Bool
  pub sustained : Map pair_key (Unit {0})
  pub next_inode : ℕ
  pub next_session : ℕ

abbrev pub shape_of : Tree → Shape
shape_of t = record {
  form = λ inode. form_of (node_at t inode);
  entries = t.entries;
  in_session = λ sid. is_some (get t.sessions sid);
  sustained = t.sustained;
  next_inode = t.next_inode;
  next_session = t.next_session;
}

abbrev pub named : Shape → EntryKey → Option ℕ
named s at = get s.entries at

abbrev pub keeps : Shape → ℕ → ℕ → Bool
keeps s sid inode = has_pair s.sustained sid inode

-- how many entries name an inode
abbrev pub names : Shape → ℕ → ℕ
names s inode = name_count s.entries inode

-- the directories that no entry names
abbrev pub is_top : ℕ → Bool
is_top inode = (inode == ROOT) || (inode == TRASH_ROOT)

-- the directories of the trash's hours, whose inodes follow its own
abbrev pub is_hour : ℕ → Bool
is_hour inode = nat_lt TRASH_ROOT inode && nat_le inode FIRST_HOUR

-- `steps` up lead from a directory to the root or the trash
abbrev pub Reaches : (ℕ → Form) → ℕ → ℕ → Type 0
Reaches form zero dir = IsTrue (is_top dir)
Reaches form (suc steps) dir = (parent : ℕ) × (form dir ≡ Dir parent) × Reaches form steps parent

-- an entry of the trash is the directory of an hour, under the hour's name
pub record NamesHour (at : EntryKey) (inode : ℕ) : Type 0 where
  pub hour : IsTrue (is_hour inode)
  pub name : at.name ≡ hour_name (hour_of inode)

-- an entry of an hour is a file or a symlink, the last entry of its inode, named after where it
-- stood and its inode
pub record NamesTrashed (s : Shape) (at : EntryKey) (inode : ℕ) : Type 0 where
  pub leaf : is_dir (s.form inode) ≡ false
  pub only : names s inode ≡ 1
  pub place : EntryKey
  pub name : at.name ≡ trash_name place inode

-- an entry stands in a directory that is there, and names an inode that is there and has entries
pub record Names (s : Shape) (at : EntryKey) (inode : ℕ) : Type 0 where
  pub there : IsTrue (is_there (s.form inode))
  pub free : is_top inode ≡ false
  pub within : IsTrue (is_dir (s.form at.dir))
  pub hour : at.dir ≡ TRASH_ROOT → NamesHour at inode
  pub trashed : IsTrue (is_hour at.dir) → NamesTrashed s at inode

-- a directory has one entry, in its parent
pub record Entered (s : Shape) (dir parent : ℕ) : Type 0 where
  pub name : List ℕ
  pub is : named s (record { dir = parent; name = name }) ≡ Some dir
  pub only : (at : EntryKey) → named s at ≡ Some dir → at ≡ record { dir = parent; name = name }

-- a session that is there keeps a file without entries, and no other session does
pub record Keeps (s : Shape) (sid inode : ℕ) : Type 0 where
  pub session : IsTrue (s.in_session sid)
  pub file : s.form inode ≡ Regular
  pub unnamed : names s inode ≡ 0
  pub one : (other : ℕ) → IsTrue (keeps s other inode) → other ≡ sid

-- some session keeps a file
pub record IsKept (s : Shape) (inode : ℕ) : Type 0 where
  pub sid : ℕ
  pub is : IsTrue (keeps s sid inode)

-- POSIX.1-2017, 4.6 "File Hierarchy", with the trash and sustained files
pub record WholeShape (s : Shape) : Type 0 where
  pub root_there : s.form ROOT ≡ Dir ROOT
  pub trash_there : s.form TRASH_ROOT ≡ Dir ROOT
  pub entry : (at : EntryKey) (inode : ℕ) → named s at ≡ Some inode → Names s at inode
  pub entered : (dir parent : ℕ) → s.form dir ≡ Dir parent → is_top dir ≡ false
      → Entered s dir parent
  pub rooted : (dir parent : ℕ) → s.form dir ≡ Dir parent → (steps : ℕ) × Reaches s.form steps dir
  pub held : (inode : ℕ) → IsTrue (is_there (s.form inode)) → is_dir (s.form inode) ≡ false
      → names s inode ≡ 0 → IsKept s inode
  pub sustains : (sid inode : ℕ) → IsTrue (keeps s sid inode) → Keeps s sid inode
  pub hours : (inode : ℕ) → IsTrue (is_there (s.form inode)) → IsTrue (nat_lt TRASH_ROOT inode)
      → IsTrue (is_hour inode) × (s.form inode ≡ Dir TRASH_ROOT)
  pub below : (inode : ℕ) → IsTrue (is_there (s.form inode)) → IsTrue (nat_lt inode TRASH_ROOT)
      → inode < s.next_inode
  pub sessions : (sid : ℕ) → IsTrue (s.in_session sid) → (1 ≤ sid) × (sid < s.next_session)
  pub inodes_end : s.next_inode ≤ FULL_COUNT
  pub sessions_end : s.next_session ≤ FULL_COUNT
