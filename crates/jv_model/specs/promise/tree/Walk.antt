-- How a path is resolved (POSIX.1-2017, 4.13 "Pathname Resolution"). Several slashes count as one,
-- and a slash at the end is ignored, also behind a symlink, where POSIX would follow it.
use Rattle.std.specs.Prelude.{ℕ, zero, suc, Bool, true, false, ◌&&◌, ◌||◌, not, ◌==◌, nat_le, if◌then◌else◌, List, []}
use Rattle.std.specs.Prelude.{◌∷◌, ◌++◌, filter, length, Option, None, Some, Result, Ok, Err, codes, bytes_eq}
use Rattle.jv_model.specs.declared.limits.TheConstants.{MAX_NAME, MAX_PATH, ROOT, TRASH_ROOT}
use Rattle.jv_model.specs.declared.limits.TheConstants.{MAX_SYMLINKS}
use Rattle.jv_model.specs.declared.fault.Fault.{Fault}
use Rattle.jv_model.specs.declared.fault.Fault.TheVariants.{NotFound, NotADirectory, Invalid, NameTooLong, SymlinkLoop}
use Rattle.jv_model.specs.promise.tree.Attempt.{◌>>=◌, require, some_or}
use Rattle.jv_model.specs.promise.FiniteMap.{get}
use Rattle.jv_model.specs.promise.tree.Tree.{Tree, EntryKey, parent_at, target_at, is_directory}
use Rattle.jv_model.specs.promise.Lists.{is_nil, parted, last_item}

-- whether a path or a target begins at the root
abbrev pub is_absolute : List ℕ → Bool
is_absolute [] = false
is_absolute (b ∷ bs) = b == 47

-- the names among the parts of a path, which have a byte or more
abbrev pub only_names : List (List ℕ) → List (List ℕ)
only_names parts = filter (λ name. not (is_nil name)) parts

-- the names of a path
abbrev pub names_of : List ℕ → List (List ℕ)
names_of path = only_names (parted 47 path)

abbrev pub is_dot : List ℕ → Bool
is_dot name = bytes_eq name (codes ".")

abbrev pub is_dot_dot : List ℕ → Bool
is_dot_dot name = bytes_eq name (codes "..")

-- whether the name is `.trash` in the root
abbrev pub is_trash : ℕ → List ℕ → Bool
is_trash dir name = (dir == ROOT) && bytes_eq name (codes ".trash")

-- the inode that a name leads to from a directory with this parent
abbrev pub named_from : Tree → ℕ → ℕ → List ℕ → Result ℕ Fault
named_from t dir parent name = (if is_dot name then Ok dir
    else if is_dot_dot name then Ok parent
    else if is_trash dir name then Ok TRASH_ROOT
    else some_or (get t.entries (record { dir = dir; name = name })) NotFound)

-- one name of a walk
abbrev pub stepped : Tree → ℕ → List ℕ → Result ℕ Fault
stepped t inode name = do
  parent ← some_or (parent_at t inode) NotADirectory
  _ ← require (nat_le (length name) MAX_NAME) NameTooLong
  named_from t inode parent name

-- The target of a symlink that a walk goes on by: one that names are left behind, or the last one
-- where that is followed.
abbrev pub way_on : Tree → Bool → List (List ℕ) → ℕ → Option (List ℕ)
way_on t follow names inode = (if follow || not (is_nil names) then target_at t inode else None)

-- a walk from a directory, which goes on at a symlink by what `again` says of a directory and names
unfoldable pub walk_names : (ℕ → List (List ℕ) → Result ℕ Fault) → Tree → Bool → ℕ → List (List ℕ)
    → Result ℕ Fault
walk_names again t follow inode [] = Ok inode
walk_names again t follow inode (name ∷ names) = do
  next ← stepped t inode name
  elim (way_on t follow names next) [
    | None ↦ walk_names again t follow next names
    | Some target ↦ again (if is_absolute target then ROOT else inode) (names_of target ++ names)
  ]

-- A walk that may still follow `left` symlinks. A symlink is replaced by its target, which is
-- walked from the root where it begins with a slash, and else from the symlink's directory.
unfoldable pub walk : ℕ → Tree → Bool → ℕ → List (List ℕ) → Result ℕ Fault
walk zero t follow inode names = walk_names (λ at rest. Err SymlinkLoop) t follow inode names
walk (suc left) t follow inode names =
    walk_names (λ at rest. walk left t follow at rest) t follow inode names

-- the inode that a path leads to from the root, where a symlink that comes last is followed, or
-- isn't
abbrev pub inode_by : Bool → Tree → List ℕ → Result ℕ Fault
inode_by follow t path = do
  _ ← require (nat_le (length path) MAX_PATH) NameTooLong
  walk MAX_SYMLINKS t follow ROOT (names_of path)

-- the inode that a path leads to
abbrev pub inode_of : Tree → List ℕ → Result ℕ Fault
inode_of = inode_by true

-- the inode that a path leads to, which may be a symlink
abbrev pub unfollowed_inode_of : Tree → List ℕ → Result ℕ Fault
unfollowed_inode_of = inode_by false

-- all names but the last one
abbrev pub all_but_last : List (List ℕ) → List (List ℕ)
all_but_last [] = []
all_but_last (name ∷ []) = []
all_but_last (name ∷ other ∷ names) = name ∷ all_but_last (other ∷ names)

-- The entry that a path names, whether it is there or not. A path without a last name is refused;
-- POSIX has several answers there.
abbrev pub entry_of : Tree → List ℕ → Result EntryKey Fault
entry_of t path = do
  _ ← require (nat_le (length path) MAX_PATH) NameTooLong
  name ← some_or (last_item (names_of path)) Invalid
  _ ← require (not (is_dot name || is_dot_dot name)) Invalid
  dir ← walk MAX_SYMLINKS t true ROOT (all_but_last (names_of path))
  _ ← require (is_directory t dir) NotADirectory
  _ ← require (nat_le (length name) MAX_NAME) NameTooLong
  Ok (record { dir = dir; name = name })
