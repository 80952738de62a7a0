-- The bytes of files: commits, POSIX.1-2017's "ftruncate", and Linux's "copy_file_range".
use Rattle.std.specs.Prelude.{ℕ, ◌+◌, ◌-◌, min, Bool, true, false, ◌&&◌, not, ◌==◌, nat_lt, nat_le, List, Option, None, Some, Result}
use Rattle.jv_model.specs.declared.limits.TheConstants.{FILE_END}
use Rattle.jv_model.specs.declared.fault.Fault.{Fault}
use Rattle.jv_model.specs.declared.fault.Fault.TheVariants.{Invalid, FileTooLarge, NoSpace, Stale}
use Rattle.jv_model.specs.declared.fault.Gone.TheVariants.{Node as GoneNode}
use Rattle.jv_model.specs.declared.op.Reply.TheVariants.{Count}
use Rattle.jv_model.specs.promise.tree.Attempt.{◌>>=◌, require, some_or}
use Rattle.jv_model.specs.promise.tree.Tree.{Tree, Content, content_at, fits}
use Rattle.jv_model.specs.promise.tree.Changes.{resized, overwritten, copied_over, with_content}
use Rattle.jv_model.specs.promise.tree.Caller.{Caller, Outcome, answered, done, in_session}

-- the tree with bytes committed to a file
abbrev pub committed : Tree → ℕ → ℕ → ℕ → List ℕ → Tree
committed t now inode from bytes = elim (content_at t inode) [
  | None ↦ t
  | Some content ↦ with_content t now inode (overwritten content from bytes)
]

-- the tree with a file cut to a length, or with zeros up to it
abbrev pub truncated : Tree → ℕ → ℕ → ℕ → Tree
truncated t now inode len = elim (content_at t inode) [
  | None ↦ t
  | Some content ↦ with_content t now inode (resized content len)
]

abbrev pub copied_between : Tree → ℕ → Option Content → ℕ → ℕ → Option Content → ℕ → ℕ → Tree
copied_between t now (Some source) from target (Some content) to len =
    with_content t now target (copied_over source from content to len)
copied_between t now _ from target _ to len = t

-- The tree with bytes of a file, as they were, put into a file, which may be the same. No byte is
-- no change.
abbrev pub copied : Tree → ℕ → ℕ → ℕ → ℕ → ℕ → ℕ → Tree
copied t now source from target to len = elim (len == 0) [
  | true ↦ t
  | false ↦ copied_between t now (content_at t source) from target (content_at t target) to len
]

-- the bytes of the file of a handle, which may be gone
abbrev pub open_content : Tree → ℕ → Result Content Fault
open_content t inode = some_or (content_at t inode) (Stale (GoneNode inode))

unfoldable pub truncate : Tree → Caller → ℕ → Result Outcome Fault
truncate t who len = do
  _ ← in_session t who
  content ← open_content t who.inode
  _ ← require (nat_le len FILE_END) FileTooLarge
  _ ← require (fits t (truncated t who.now who.inode len)) NoSpace
  done (truncated t who.now who.inode len)

-- whether two ranges of a length have a position in common
abbrev pub overlap : ℕ → ℕ → ℕ → Bool
overlap from to len = nat_lt from (to + len) && nat_lt to (from + len)

-- the copy of a number of bytes that the source has
abbrev pub copy_bytes : Tree → Caller → ℕ → ℕ → ℕ → Result Outcome Fault
copy_bytes t who from to len = do
  _ ← require (not ((who.inode == who.other) && overlap from to len)) Invalid
  _ ← require (nat_le (to + len) FILE_END) FileTooLarge
  _ ← require (fits t (copied t who.now who.inode from who.other to len)) NoSpace
  answered (copied t who.now who.inode from who.other to len) (Count len)

-- a copy of at most `len` bytes, as far as the source goes
unfoldable pub copy : Tree → Caller → ℕ → ℕ → ℕ → Result Outcome Fault
copy t who from to len = do
  _ ← in_session t who
  source ← open_content t who.inode
  _ ← open_content t who.other
  copy_bytes t who from to (min len (source.length - from))
