-- Entries removed, by POSIX.1-2017's "unlinkat" and "rmdir", with the trash (JuiceFS, "Trash"), and
-- with files that stay without an entry while a session has them open.
use Rattle.std.specs.Prelude.{ℕ, ◌&&◌, ◌||◌, Bool, not, ◌==◌, nat_lt, if◌then◌else◌, List, Result}
use Rattle.jv_model.specs.declared.limits.TheConstants.{TRASH_ROOT}
use Rattle.jv_model.specs.declared.fault.Fault.{Fault}
use Rattle.jv_model.specs.declared.fault.Fault.TheVariants.{NotFound, NotADirectory, DirectoryNotEmpty, NotPermitted}
use Rattle.jv_model.specs.promise.tree.Attempt.{◌>>=◌, require, some_or}
use Rattle.jv_model.specs.promise.FiniteMap.{get, insert}
use Rattle.jv_model.specs.promise.tree.Tree.{Tree, EntryKey, in_trash, is_directory, has_entries, entry_count}
use Rattle.jv_model.specs.promise.tree.Changes.{status_changed, change_node, drop_node, take_entry}
use Rattle.jv_model.specs.promise.tree.Walk.{entry_of, is_trash}
use Rattle.jv_model.specs.promise.tree.Trash.{trashed}
use Rattle.jv_model.specs.promise.tree.Caller.{Caller, Outcome, done, in_session}
use Rattle.jv_model.specs.promise.Lists.{is_among}

-- neither `.trash` nor one of its hours is removed or renamed
abbrev pub may_go : EntryKey → Bool
may_go place = not ((place.dir == TRASH_ROOT) || is_trash place.dir place.name)

-- what becomes of a file or a symlink that loses an entry
pub data Fate : Type 0 where
  Linked : Fate  -- it has other entries
  Trashed : Fate
  Sustained : Fate  -- the caller's session keeps it
  Dropped : Fate

-- The last entry that isn't in the trash leaves the node to the trash, where the volume has one;
-- else the node is kept where the caller has it open.
abbrev pub fate_of : Tree → Caller → EntryKey → ℕ → Fate
fate_of t who place inode = (if nat_lt 1 (entry_count t inode) then Linked
    else if nat_lt 0 t.setting.trash_days && not (in_trash place.dir) then Trashed
    else if is_among inode who.held then Sustained
    else Dropped)

-- a file that the caller's session keeps
abbrev pub sustained_by : Tree → Caller → ℕ → Tree
sustained_by t who inode = record (change_node t inode (status_changed who.now)) {
  sustained = insert t.sustained (record { sid = who.sid; inode = inode }) tt;
}

-- the tree after an inode met its fate, its entry being gone
abbrev pub with_fate : Fate → Tree → Caller → EntryKey → ℕ → Tree
with_fate Linked t who place inode = change_node t inode (status_changed who.now)
with_fate Trashed t who place inode = trashed t who.now place inode
with_fate Sustained t who place inode = sustained_by t who inode
with_fate Dropped t who place inode = drop_node t inode

-- the tree without an entry of a file or a symlink
unfoldable pub remove_entry : Tree → Caller → EntryKey → ℕ → Tree
remove_entry t who place inode =
    with_fate (fate_of t who place inode) (take_entry t who.now place) who place inode

-- the tree without an empty directory: directories don't go to the trash
abbrev pub remove_directory : Tree → ℕ → EntryKey → ℕ → Tree
remove_directory t now place inode = drop_node (take_entry t now place) inode

unfoldable pub unlink : Tree → Caller → List ℕ → Result Outcome Fault
unlink t who path = do
  _ ← in_session t who
  place ← entry_of t path
  _ ← require (may_go place) NotPermitted
  inode ← some_or (get t.entries place) NotFound
  _ ← require (not (is_directory t inode)) NotPermitted
  done (remove_entry t who place inode)

unfoldable pub rmdir : Tree → Caller → List ℕ → Result Outcome Fault
rmdir t who path = do
  _ ← in_session t who
  place ← entry_of t path
  _ ← require (may_go place) NotPermitted
  inode ← some_or (get t.entries place) NotFound
  _ ← require (is_directory t inode) NotADirectory
  _ ← require (not (has_entries t inode)) DirectoryNotEmpty
  done (remove_directory t who.now place inode)
