-- Entries renamed, by POSIX.1-2017's "renameat" and Linux's "renameat2" with RENAME_NOREPLACE and
-- RENAME_EXCHANGE.
use Rattle.std.specs.Prelude.{ℕ, zero, suc, Bool, true, false, ◌&&◌, ◌||◌, not, ◌==◌, List, is_some, Option, None, Some, Result}
use Rattle.jv_model.specs.declared.limits.TheConstants.{ROOT}
use Rattle.jv_model.specs.declared.basics.How.{How}
use Rattle.jv_model.specs.declared.basics.How.TheVariants.{Plain, NoReplace, Exchange}
use Rattle.jv_model.specs.declared.fault.Fault.{Fault}
use Rattle.jv_model.specs.declared.fault.Fault.TheVariants.{NotFound, AlreadyExists, NotADirectory, IsADirectory}
use Rattle.jv_model.specs.declared.fault.Fault.TheVariants.{DirectoryNotEmpty, Invalid, NoSpace, NotPermitted}
use Rattle.jv_model.specs.promise.tree.Attempt.{◌>>=◌, require, some_or}
use Rattle.jv_model.specs.promise.FiniteMap.{get, key_count}
use Rattle.jv_model.specs.promise.tree.Tree.{Tree, Node, Kind, File, Directory, Symlink, EntryKey, parent_at, is_directory}
use Rattle.jv_model.specs.promise.tree.Tree.{has_entries, links_fit}
use Rattle.jv_model.specs.promise.tree.Changes.{status_changed, change_node, put_entry, take_entry}
use Rattle.jv_model.specs.promise.tree.Walk.{entry_of}
use Rattle.jv_model.specs.promise.tree.Making.{may_be_new}
use Rattle.jv_model.specs.promise.tree.Removing.{may_go, remove_entry, remove_directory}
use Rattle.jv_model.specs.promise.tree.Caller.{Caller, Outcome, done, in_session}

-- An entry of an hour may be renamed out of the trash, but nothing may change places with it.
abbrev pub may_leave : How → EntryKey → Bool
may_leave Exchange place = may_go place && may_be_new place
may_leave _ place = may_go place

-- whether a directory is another one or lies below it, by at most `steps` parents
unfoldable pub is_within : ℕ → Tree → ℕ → ℕ → Bool
is_within zero t dir above = dir == above
is_within (suc steps) t dir above = (dir == above) || elim (parent_at t dir) [
  | None ↦ false
  | Some parent ↦ not (dir == ROOT) && is_within steps t parent above
]

-- whether an inode is a directory that another one is, or lies below; no way up to the root is
-- longer than the number of nodes
abbrev pub is_inside : Tree → ℕ → ℕ → Bool
is_inside t dir inode = is_directory t inode && is_within (key_count t.nodes) t dir inode

-- a directory has another parent now
abbrev pub kind_under : ℕ → Kind → Kind
kind_under dir (File content) = File content
kind_under dir (Directory parent) = Directory dir
kind_under dir (Symlink target) = Symlink target

abbrev pub moved_node : ℕ → ℕ → Node → Node
moved_node now dir node = record (status_changed now node) { kind = kind_under dir node.kind }

-- an entry that names an inode from elsewhere
abbrev pub move_in : Tree → ℕ → EntryKey → ℕ → Tree
move_in t now place inode =
    change_node (put_entry t now place inode) inode (moved_node now place.dir)

-- an inode moved from one entry to another
abbrev pub moved : Tree → ℕ → EntryKey → ℕ → EntryKey → Tree
moved t now from inode to = move_in (take_entry t now from) now to inode

-- the inodes of two entries exchanged
abbrev pub exchanged : Tree → ℕ → EntryKey → ℕ → EntryKey → ℕ → Tree
exchanged t now from source to other = move_in (move_in t now to source) now from other

-- the tree without what an entry names: a file goes as by an unlink, a directory as by an rmdir
abbrev pub without_target : Tree → Caller → EntryKey → ℕ → Tree
without_target t who place inode = elim (is_directory t inode) [
  | true ↦ remove_directory t who.now place inode
  | false ↦ remove_entry t who place inode
]

-- A rename takes no space and no inode, and may raise only the link counts of the two directories.
abbrev pub within_links : EntryKey → EntryKey → Tree → Result Outcome Fault
within_links from to after = do
  _ ← require (links_fit after from.dir && links_fit after to.dir) NoSpace
  done after

-- to an entry that isn't there
abbrev pub renamed : Tree → Caller → EntryKey → ℕ → EntryKey → Result Outcome Fault
renamed t who from source to = do
  _ ← require (not (is_inside t to.dir source)) Invalid
  within_links from to (moved t who.now from source to)

-- to an entry that names another inode
abbrev pub replacing : Tree → Caller → EntryKey → ℕ → EntryKey → ℕ → Result Outcome Fault
replacing t who from source to other = do
  _ ← require (not (is_inside t to.dir source)) Invalid
  _ ← require (not (is_directory t source && not (is_directory t other))) NotADirectory
  _ ← require (not (not (is_directory t source) && is_directory t other)) IsADirectory
  _ ← require (not (is_directory t other && has_entries t other)) DirectoryNotEmpty
  within_links from to (moved (without_target t who to other) who.now from source to)

-- with an entry that names another inode
abbrev pub exchanging : Tree → Caller → EntryKey → ℕ → EntryKey → ℕ → Result Outcome Fault
exchanging t who from source to other = do
  _ ← require (not (is_inside t to.dir source || is_inside t from.dir other)) Invalid
  within_links from to (exchanged t who.now from source to other)

-- Where both entries name one inode, nothing changes.
abbrev pub unless_same : Tree → ℕ → ℕ → (Unit {0} → Result Outcome Fault) → Result Outcome Fault
unless_same t source other otherwise =
    elim (source == other) [ true ↦ done t | false ↦ otherwise tt ]

-- by what the target names
abbrev pub renamed_over : Tree → Caller → EntryKey → ℕ → EntryKey → Option ℕ → Result Outcome Fault
renamed_over t who from source to None = renamed t who from source to
renamed_over t who from source to (Some other) =
    unless_same t source other (λ _. replacing t who from source to other)

abbrev pub renamed_by : How → Tree → Caller → EntryKey → ℕ → EntryKey → Result Outcome Fault
renamed_by Plain t who from source to = renamed_over t who from source to (get t.entries to)
renamed_by NoReplace t who from source to = do
  _ ← require (not (is_some (get t.entries to))) AlreadyExists
  renamed t who from source to
renamed_by Exchange t who from source to = do
  other ← some_or (get t.entries to) NotFound
  unless_same t source other (λ _. exchanging t who from source to other)

unfoldable pub rename : Tree → Caller → List ℕ → List ℕ → How → Result Outcome Fault
rename t who path to how = do
  _ ← in_session t who
  from ← entry_of t path
  target ← entry_of t to
  _ ← require (may_leave how from && may_be_new target) NotPermitted
  source ← some_or (get t.entries from) NotFound
  renamed_by how t who from source target
