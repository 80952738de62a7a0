-- Look-ups and attributes of nodes, by POSIX.1-2017's "fstatat", "readdir", "readlink", "fstatvfs",
-- "fchmodat", "fchownat" and "utimensat"; without permissions, and without the time of the last
-- access.
use Rattle.std.specs.Prelude.{ℕ, not, ◌==◌, List, length, map, Result, Ok}
use Rattle.jv_model.specs.declared.limits.TheConstants.{DIRECTORY_LENGTH}
use Rattle.jv_model.specs.declared.fault.Fault.{Fault}
use Rattle.jv_model.specs.declared.fault.Fault.TheVariants.{NotFound, NotADirectory, IsADirectory, Invalid, NotPermitted, Stale}
use Rattle.jv_model.specs.declared.fault.Gone.TheVariants.{Node as GoneNode}
use Rattle.jv_model.specs.declared.op.Reply.TheVariants.{Found, Described, FileOpened, Entries, Usage, Target}
use Rattle.jv_model.specs.declared.setting.Attr.{Attr}
use Rattle.jv_model.specs.declared.setting.FileKind.{FileKind}
use Rattle.jv_model.specs.declared.setting.FileKind.TheVariants as kind
use Rattle.jv_model.specs.declared.setting.Space.{Space}
use Rattle.jv_model.specs.promise.tree.Attempt.{◌>>=◌, require, some_or}
use Rattle.jv_model.specs.promise.FiniteMap.{entries_where}
use Rattle.jv_model.specs.promise.tree.Tree.{Tree, Node, Kind, File, Directory, Symlink, in_trash, node_at, is_directory, target_at}
use Rattle.jv_model.specs.promise.tree.Tree.{link_count, used_space, used_inodes}
use Rattle.jv_model.specs.promise.tree.Changes.{status_changed, put_node}
use Rattle.jv_model.specs.promise.tree.Walk.{inode_of, unfollowed_inode_of}
use Rattle.jv_model.specs.promise.tree.Caller.{Caller, Outcome, answered, done, in_session}

abbrev pub file_kind : Kind → FileKind
file_kind (File content) = kind.File
file_kind (Directory parent) = kind.Directory
file_kind (Symlink target) = kind.Symlink

abbrev pub size_of : Kind → ℕ
size_of (File content) = content.length
size_of (Directory parent) = DIRECTORY_LENGTH
size_of (Symlink target) = length target

-- what `stat` returns of a node
abbrev pub attr_of : Tree → ℕ → Node → Attr
attr_of t inode node = record {
  inode = inode;
  kind = file_kind node.kind;
  mode = node.mode;
  nlink = link_count t inode;
  uid = node.uid;
  gid = node.gid;
  size = size_of node.kind;
  mtime = node.mtime;
  ctime = node.ctime;
}

-- The entries of a directory in the order of their names' bytes. `.` and `..` aren't listed, nor
-- `.trash` in the root.
abbrev pub entries_of : Tree → ℕ → List (List ℕ × ℕ)
entries_of t dir =
    map (λ e. (e.0.name, e.1)) (entries_where (λ key inode. key.dir == dir) t.entries)

-- what `statfs` returns; the two limits are as they were set
abbrev pub usage_of : Tree → Space
usage_of t = record {
  used = used_space t;
  capacity = t.setting.capacity;
  inodes = used_inodes t;
  limit = t.setting.inodes;
}

-- the inode of a path, of which a last symlink isn't followed
unfoldable pub lookup : Tree → Caller → List ℕ → Result Outcome Fault
lookup t who path = do
  _ ← in_session t who
  inode ← unfollowed_inode_of t path
  answered t (Found inode)

-- the attributes of an inode that a walk led to
abbrev pub described : Tree → ℕ → Result Outcome Fault
described t inode = do
  node ← some_or (node_at t inode) NotFound
  answered t (Described (attr_of t inode node))

unfoldable pub stat : Tree → Caller → List ℕ → Result Outcome Fault
stat t who path = do
  _ ← in_session t who
  inode ← inode_of t path
  described t inode

unfoldable pub lstat : Tree → Caller → List ℕ → Result Outcome Fault
lstat t who path = do
  _ ← in_session t who
  inode ← unfollowed_inode_of t path
  described t inode

-- the attributes of an open file, which may be gone
unfoldable pub fstat : Tree → Caller → Result Outcome Fault
fstat t who = do
  _ ← in_session t who
  node ← some_or (node_at t who.inode) (Stale (GoneNode who.inode))
  answered t (Described (attr_of t who.inode node))

-- the inode of a path to a file: no directory, and behind a followed walk no symlink
abbrev pub file_inode : Tree → Caller → List ℕ → Result ℕ Fault
file_inode t who path = do
  _ ← in_session t who
  inode ← inode_of t path
  _ ← require (not (is_directory t inode)) IsADirectory
  Ok inode

-- a compaction looks at this file first; it leaves the tree, and is refused by its walk
unfoldable pub compact : Tree → Caller → List ℕ → Result Outcome Fault
compact t who path = do
  inode ← file_inode t who path
  done t

-- an open for reading and writing
unfoldable pub open_file : Tree → Caller → List ℕ → Result Outcome Fault
open_file t who path = do
  inode ← file_inode t who path
  answered t (FileOpened who.free_handle inode)

unfoldable pub readdir : Tree → Caller → List ℕ → Result Outcome Fault
readdir t who path = do
  _ ← in_session t who
  dir ← inode_of t path
  _ ← require (is_directory t dir) NotADirectory
  answered t (Entries (entries_of t dir))

unfoldable pub readlink : Tree → Caller → List ℕ → Result Outcome Fault
readlink t who path = do
  _ ← in_session t who
  inode ← unfollowed_inode_of t path
  target ← some_or (target_at t inode) Invalid
  answered t (Target target)

unfoldable pub statfs : Tree → Caller → Result Outcome Fault
statfs t who = do
  _ ← in_session t who
  answered t (Usage (usage_of t))

-- a change of attributes, which the trash and its hours don't have
abbrev pub with_attributes : Tree → Caller → List ℕ → (Node → Node) → Result Outcome Fault
with_attributes t who path change = do
  _ ← in_session t who
  inode ← inode_of t path
  node ← some_or (node_at t inode) NotFound
  _ ← require (not (in_trash inode)) NotPermitted
  done (put_node t inode (status_changed who.now (change node)))

unfoldable pub chmod : Tree → Caller → List ℕ → ℕ → Result Outcome Fault
chmod t who path mode = with_attributes t who path (λ (node : Node). record node { mode = mode })

unfoldable pub chown : Tree → Caller → List ℕ → ℕ → ℕ → Result Outcome Fault
chown t who path uid gid =
    with_attributes t who path (λ (node : Node). record node { uid = uid; gid = gid })

unfoldable pub utimes : Tree → Caller → List ℕ → ℕ → Result Outcome Fault
utimes t who path mtime =
    with_attributes t who path (λ (node : Node). record node { mtime = mtime })
