-- How a new node comes under a new entry: what its row is, what the volume's limits let in, and
-- what becomes of its directory.
use Rattle.std.specs.Prelude.{◌≡◌, ℕ, ◌+◌, Bool, true, false, ◌&&◌, ◌<◌, nat_le, nat_lt, if◌then◌else◌, List, None, Result, Ok, Err, IsTrue}
use Rattle.jv_model.specs.declared.limits.TheConstants.{FULL_COUNT, MAX_LINKS, SPACE_UNIT}
use Rattle.jv_model.specs.declared.fault.Fault.{Fault}
use Rattle.jv_model.specs.declared.fault.Fault.TheVariants.{NoSpace}
use Rattle.jv_model.specs.declared.op.Reply.{Reply}
use Rattle.jv_model.specs.declared.row.Counters.{Counters}
use Rattle.jv_model.specs.declared.row.Node.{Node as NodeRow}
use Rattle.jv_model.specs.declared.setting.Setting.{Setting}
use Rattle.jv_model.specs.promise.FiniteMap.{get}
use Rattle.jv_model.specs.promise.tree.Attempt.{◌>>=◌, require}
use Rattle.jv_model.specs.promise.tree.Tree.{Tree, Kind, File, Directory, Symlink, EntryKey, new_node, is_directory, space_limit, inode_limit, links_fit}
use Rattle.jv_model.specs.promise.tree.Changes.{empty_content}
use Rattle.jv_model.specs.promise.tree.Caller.{Outcome, answered}
use Rattle.jv_model.specs.promise.tree.Making.{may_be_new, new_place, entered}
use Rattle.jv_rows.specs.Walks.{pair_in}
use Rattle.jv_rows.specs.declared.walking.EntryPlace.{EntryPlace}
use Rattle.jv_volume.specs.promise.TypedRows.{is_entry_name}
use Rattle.jv_volume.specs.promise.Stored.{node_row}
use Rattle.jv_volume.specs.Stored.{links_by, directory_touched}
pub use Rattle.jv_model.specs.promise.Lists.{has_no_zero}

-- the place of a new entry, as a pair
abbrev pub new_pair : Tree → List ℕ → Result (ℕ × List ℕ) Fault
new_pair t path = do
  at ← new_place t path
  Ok (pair_in at)

-- the place of an entry that was walked to
abbrev pub place_of : EntryPlace → EntryKey
place_of entry = record { dir = entry.dir.inode; name = entry.name }

-- a place where a new entry may stand
pub record IsFreePlace (t : Tree) (place : EntryKey) : Type 0 where
  pub free : get t.entries place ≡ None
  pub within : is_directory t place.dir ≡ true
  pub may : may_be_new place ≡ true
  pub name : IsTrue (is_entry_name place.name)

-- what a new node is: a file without bytes, a directory of this parent, or a symlink
pub data IsNewKind (dir : ℕ) : Kind → Type 0 where
  EmptyFile : IsNewKind dir (File empty_content)
  DirectoryIn : IsNewKind dir (Directory dir)
  LinkTo : (target : List ℕ) → IsNewKind dir (Symlink target)

-- whether a new node adds to the links of its directory
abbrev pub is_new_directory : Kind → Bool
is_new_directory (File content) = false
is_new_directory (Directory parent) = true
is_new_directory (Symlink target) = false

-- the row of a new node, with its first links
abbrev pub new_row : Kind → ℕ → ℕ → NodeRow
new_row kind mode now = node_row (if is_new_directory kind then 2 else 1) (new_node kind mode now)

-- a new node under a new entry, answered by its inode
abbrev pub enter : Kind → ℕ → ℕ → EntryKey → (ℕ → Reply) → Tree → Result Outcome Fault
enter kind mode now place reply t = do
  after ← entered t now place (new_node kind mode now)
  _ ← require (if is_new_directory kind then links_fit after place.dir else true) NoSpace
  answered after (reply t.next_inode)

-- whether the limits let one more node in, which takes one unit of space
abbrev pub has_room : Setting → Counters → Bool
has_room setting c = nat_lt c.inode FULL_COUNT
    && nat_le (c.used_space + SPACE_UNIT) (space_limit setting)
    && nat_lt c.used_inodes (inode_limit setting)

-- the counters with one more node
abbrev pub one_more : Counters → Counters
one_more c =
    record c {
      inode = c.inode + 1;
      used_space = c.used_space + SPACE_UNIT;
      used_inodes = c.used_inodes + 1;
    }

-- counters grow where the limits allow it
abbrev pub Grows : Setting → Counters → Result Counters Fault → Type 0
Grows setting c (Ok after) = (has_room setting c ≡ true) × (after ≡ one_more c)
Grows setting c (Err fault) = (has_room setting c ≡ false) × (fault ≡ NoSpace)

-- a directory that gets an entry has both times at the moment, and one link more for a directory in
-- it, which is refused where no more can be stored
abbrev pub GetsEntry : NodeRow → NodeRow → ℕ → ℕ → Result (Unit {0}) Fault → Type 0
GetsEntry before after now kind (Ok unit) =
    (after ≡ directory_touched now (before.nlink + links_by kind) before)
    × (kind ≡ 2 → before.nlink < MAX_LINKS)
GetsEntry before after now kind (Err fault) =
    (kind ≡ 2) × (before.nlink ≡ MAX_LINKS) × (fault ≡ NoSpace)
