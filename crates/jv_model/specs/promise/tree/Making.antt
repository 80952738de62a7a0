-- New entries, by POSIX.1-2017's "mkdirat", "openat" with O_CREAT and O_EXCL, "symlinkat" and
-- "linkat" (without AT_SYMLINK_FOLLOW).
use Rattle.std.specs.Prelude.{ℕ, ◌+◌, Bool, not, ◌||◌, nat_lt, nat_le, List, length, is_some, Result, Ok}
use Rattle.jv_model.specs.declared.limits.TheConstants.{MAX_PATH, FULL_MODE, FULL_COUNT}
use Rattle.jv_model.specs.declared.fault.Fault.{Fault}
use Rattle.jv_model.specs.declared.fault.Fault.TheVariants.{AlreadyExists, NameTooLong, NoSpace, NotPermitted}
use Rattle.jv_model.specs.declared.op.Reply.TheVariants.{Found, FileOpened}
use Rattle.jv_model.specs.promise.tree.Attempt.{◌>>=◌, require}
use Rattle.jv_model.specs.promise.FiniteMap.{get}
use Rattle.jv_model.specs.promise.tree.Tree.{Tree, Node, File, Directory, Symlink, EntryKey, new_node, in_trash}
use Rattle.jv_model.specs.promise.tree.Tree.{trash_entry, is_directory, fits, links_fit}
use Rattle.jv_model.specs.promise.tree.Changes.{status_changed, change_node, put_entry, with_node, empty_content}
use Rattle.jv_model.specs.promise.tree.Walk.{entry_of, unfollowed_inode_of, is_trash}
use Rattle.jv_model.specs.promise.tree.Caller.{Caller, Outcome, answered, done, in_session}

-- no new entry comes into the trash or its hours, or in the place of `.trash`
abbrev pub may_be_new : EntryKey → Bool
may_be_new place = not (in_trash place.dir || is_trash place.dir place.name)

-- where a new entry may stand: not in the trash, and not where one is
abbrev pub new_place : Tree → List ℕ → Result EntryKey Fault
new_place t path = do
  place ← entry_of t path
  _ ← require (may_be_new place) NotPermitted
  _ ← require (not (is_some (get t.entries place))) AlreadyExists
  Ok place

-- the tree with the next inode under a new entry
abbrev pub with_next : Tree → ℕ → EntryKey → Node → Tree
with_next t now place node =
    record (with_node t now place t.next_inode node) { next_inode = t.next_inode + 1 }

-- the same, where the limits of the volume allow it
abbrev pub entered : Tree → ℕ → EntryKey → Node → Result Tree Fault
entered t now place node = do
  _ ← require (nat_lt t.next_inode FULL_COUNT) NoSpace
  _ ← require (fits t (with_next t now place node)) NoSpace
  Ok (with_next t now place node)

unfoldable pub mkdir : Tree → Caller → List ℕ → ℕ → Result Outcome Fault
mkdir t who path mode = do
  _ ← in_session t who
  place ← new_place t path
  after ← entered t who.now place (new_node (Directory place.dir) mode who.now)
  _ ← require (links_fit after place.dir) NoSpace
  answered after (Found t.next_inode)

unfoldable pub create : Tree → Caller → List ℕ → ℕ → Result Outcome Fault
create t who path mode = do
  _ ← in_session t who
  place ← new_place t path
  after ← entered t who.now place (new_node (File empty_content) mode who.now)
  answered after (FileOpened who.free_handle t.next_inode)

unfoldable pub symlink : Tree → Caller → List ℕ → List ℕ → Result Outcome Fault
symlink t who target path = do
  _ ← in_session t who
  _ ← require (nat_le (length target) MAX_PATH) NameTooLong
  place ← new_place t path
  after ← entered t who.now place (new_node (Symlink target) FULL_MODE who.now)
  answered after (Found t.next_inode)

-- whether an inode has an entry in the trash
abbrev pub is_trashed : Tree → ℕ → Bool
is_trashed t inode = is_some (trash_entry t inode)

-- the tree with one more entry of an inode
abbrev pub linked : Tree → ℕ → EntryKey → ℕ → Tree
linked t now place inode = change_node (put_entry t now place inode) inode (status_changed now)

-- a further entry of a file or a symlink
unfoldable pub link : Tree → Caller → List ℕ → List ℕ → Result Outcome Fault
link t who path to = do
  _ ← in_session t who
  inode ← unfollowed_inode_of t path
  _ ← require (not (is_directory t inode || is_trashed t inode)) NotPermitted
  place ← new_place t to
  _ ← require (links_fit (linked t who.now place inode) inode) NoSpace
  done (linked t who.now place inode)
