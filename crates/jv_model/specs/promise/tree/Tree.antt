-- The tree of a file system (POSIX.1-2017, 4.6 "File Hierarchy" and 4.9 "File Times Update", and
-- "Directory" of chapter 3): nodes by inode, and one map of all entries, keyed by directory and
-- name. Sessions, and files that stay without an entry while a session has them open, are JuiceFS's
-- ("Sessions" of its internals).
use Rattle.std.specs.Prelude.{ℕ, ◌+◌, ◌-◌, ◌*◌, ◌/◌, max, Bool, ◌&&◌, ◌||◌, not, ◌==◌, nat_lt, nat_le, if◌then◌else◌, List, []}
use Rattle.std.specs.Prelude.{◌∷◌, is_some, Option, None, Some}
use Rattle.std.proofs.Common.{ap}
use Rattle.std.specs.Ordering.{nat_cmp, on}
use Rattle.std.specs.Cmp.{on_total}
use Rattle.std.specs.Cmp.Lexicographic.{slice_cmp, nat_list_cmp_total}
use Rattle.jv_model.specs.declared.limits.TheConstants.{ROOT, TRASH_ROOT, FULL_COUNT, MAX_LINKS, SPACE_UNIT, GIB}
use Rattle.jv_model.specs.declared.setting.Setting.{Setting}
use Rattle.jv_model.specs.promise.FiniteMap.{KeyOrder, Map, number_key, text_key, get, first_where, sum_over}
use Rattle.jv_model.specs.promise.Lists.{first_number}

-- the bytes of a file: how many, and the byte at each position, which is 0 from the length on
pub record Content : Type 0 where
  pub length : ℕ
  pub byte : ℕ → ℕ

pub data Kind : Type 0 where
  File : Content → Kind
  Directory : (parent : ℕ) → Kind
  Symlink : (target : List ℕ) → Kind

pub record Node : Type 0 where
  pub kind : Kind
  pub mode : ℕ
  pub uid : ℕ
  pub gid : ℕ
  pub mtime : ℕ
  pub ctime : ℕ

-- where an entry stands: entries are in the order of their directories, and then of their names'
-- bytes
pub record EntryKey : Type 0 where
  pub dir : ℕ
  pub name : List ℕ

pub record SessionEntry : Type 0 where
  pub client : ℕ
  pub expiry : ℕ

abbrev pub entry_bytes : EntryKey → List ℕ
entry_bytes key = key.dir ∷ key.name

abbrev other_numbers : List ℕ → List ℕ
other_numbers [] = []
other_numbers (n ∷ ns) = ns

abbrev key_of_bytes : List ℕ → EntryKey
key_of_bytes ns = record { dir = first_number ns; name = other_numbers ns }

abbrev pub entry_key : KeyOrder EntryKey
entry_key = record {
  cmp = on entry_bytes (slice_cmp nat_cmp);
  total = on_total entry_bytes nat_list_cmp_total;
  same = λ x y e. ap key_of_bytes (text_key.same (entry_bytes x) (entry_bytes y) e);
}

-- a file without entries that a session keeps
pub record SustainedFile : Type 0 where
  pub sid : ℕ
  pub inode : ℕ

abbrev pub pair_numbers : SustainedFile → List ℕ
pair_numbers pair = pair.sid ∷ pair.inode ∷ []

abbrev pair_of_numbers : List ℕ → SustainedFile
pair_of_numbers ns = record { sid = first_number ns; inode = first_number (other_numbers ns) }

abbrev pub pair_key : KeyOrder SustainedFile
pair_key = record {
  cmp = on pair_numbers (slice_cmp nat_cmp);
  total = on_total pair_numbers nat_list_cmp_total;
  same = λ x y e. ap pair_of_numbers (text_key.same (pair_numbers x) (pair_numbers y) e);
}

pub record Tree : Type 0 where
  pub setting : Setting
  pub nodes : Map number_key Node
  pub entries : Map entry_key ℕ
  pub sessions : Map number_key SessionEntry
  pub sustained : Map pair_key (Unit {0})
  pub next_inode : ℕ
  pub next_session : ℕ

-- whether a directory is the trash or one of its hours, whose inodes follow it
abbrev pub in_trash : ℕ → Bool
in_trash dir = nat_le TRASH_ROOT dir

abbrev pub new_node : Kind → ℕ → ℕ → Node
new_node kind mode now =
    record { kind = kind; mode = mode; uid = 0; gid = 0; mtime = now; ctime = now }

-- Used space and used inodes count neither the root nor the trash's own directories, whose inodes
-- begin at the trash root.
abbrev pub is_counted : ℕ → Bool
is_counted inode = not (inode == ROOT) && nat_lt inode TRASH_ROOT

-- a length in whole units of space, at least one
abbrev pub paged : ℕ → ℕ
paged length = max SPACE_UNIT ((length + (SPACE_UNIT - 1)) / SPACE_UNIT * SPACE_UNIT)

abbrev pub kind_space : Kind → ℕ
kind_space (File content) = paged content.length
kind_space (Directory parent) = SPACE_UNIT
kind_space (Symlink target) = SPACE_UNIT

abbrev pub node_space : ℕ → Node → ℕ
node_space inode node = (if is_counted inode then kind_space node.kind else 0)

abbrev pub node_count : ℕ → Node → ℕ
node_count inode node = (if is_counted inode then 1 else 0)

abbrev pub used_space : Tree → ℕ
used_space t = sum_over node_space t.nodes

abbrev pub used_inodes : Tree → ℕ
used_inodes t = sum_over node_count t.nodes

-- the limits in bytes and inodes; a limit of 0 in the setting stands for FULL_COUNT
abbrev pub space_limit : Setting → ℕ
space_limit s = (if s.capacity == 0 then FULL_COUNT else s.capacity * GIB)

abbrev pub inode_limit : Setting → ℕ
inode_limit s = (if s.inodes == 0 then FULL_COUNT else s.inodes)

-- whether a sum may become `after`: it is within its limit, or didn't grow
abbrev pub sum_fits : ℕ → ℕ → ℕ → Bool
sum_fits limit before after = nat_le after limit || nat_le after before

abbrev pub fits : Tree → Tree → Bool
fits old new = sum_fits (space_limit old.setting) (used_space old) (used_space new)
    && sum_fits (inode_limit old.setting) (used_inodes old) (used_inodes new)

abbrev pub node_at : Tree → ℕ → Option Node
node_at t inode = get t.nodes inode

abbrev pub content_in : Option Node → Option Content
content_in None = None
content_in (Some node) =
    elim node.kind [ File content ↦ Some content | Directory parent ↦ None | Symlink target ↦ None ]

-- the bytes of a file, where the inode is one
abbrev pub content_at : Tree → ℕ → Option Content
content_at t inode = content_in (node_at t inode)

abbrev pub parent_of : Option Node → Option ℕ
parent_of None = None
parent_of (Some node) =
    elim node.kind [ File content ↦ None | Directory parent ↦ Some parent | Symlink target ↦ None ]

-- the parent of a directory, where the inode is one
abbrev pub parent_at : Tree → ℕ → Option ℕ
parent_at t inode = parent_of (node_at t inode)

abbrev pub is_directory : Tree → ℕ → Bool
is_directory t inode = is_some (parent_at t inode)

abbrev pub target_in : Option Node → Option (List ℕ)
target_in None = None
target_in (Some node) =
    elim node.kind [ File content ↦ None | Directory parent ↦ None | Symlink target ↦ Some target ]

-- the target of a symlink, where the inode is one
abbrev pub target_at : Tree → ℕ → Option (List ℕ)
target_at t inode = target_in (node_at t inode)

-- whether a directory has entries
abbrev pub has_entries : Tree → ℕ → Bool
has_entries t dir = is_some (first_where (λ key named. key.dir == dir) t.entries)

-- the entry of an inode in the trash
abbrev pub trash_entry : Tree → ℕ → Option (EntryKey × ℕ)
trash_entry t inode = first_where (λ key named. (named == inode) && in_trash key.dir) t.entries

-- whether a session keeps an inode
abbrev pub has_pair : Map pair_key (Unit {0}) → ℕ → ℕ → Bool
has_pair sustained sid inode = is_some (get sustained (record { sid = sid; inode = inode }))

-- whether a session keeps a file without entries
abbrev pub is_sustained : Tree → ℕ → ℕ → Bool
is_sustained t sid inode = has_pair t.sustained sid inode

abbrev pub naming : ℕ → EntryKey → ℕ → ℕ
naming inode key named = (if named == inode then 1 else 0)

-- how many of the entries name an inode
abbrev pub name_count : Map entry_key ℕ → ℕ → ℕ
name_count entries inode = sum_over (naming inode) entries

abbrev pub entry_count : Tree → ℕ → ℕ
entry_count t inode = name_count t.entries inode

abbrev directory_within : Tree → ℕ → EntryKey → ℕ → ℕ
directory_within t dir key inode = (if key.dir == dir && is_directory t inode then 1 else 0)

-- The link count (POSIX.1-2017, chapter 3 "Link Count"): of a directory 2 and one for each
-- directory in it, of any other inode the number of the entries that name it.
abbrev pub link_count : Tree → ℕ → ℕ
link_count t inode =
    (if is_directory t inode then 2 + sum_over (directory_within t inode) t.entries
    else entry_count t inode)

-- whether the link count of an inode can be stored
abbrev pub links_fit : Tree → ℕ → Bool
links_fit t inode = nat_le (link_count t inode) MAX_LINKS
