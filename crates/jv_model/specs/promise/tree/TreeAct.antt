-- What an operation does to the tree, and what it is answered: one definition an operation, its
-- refusals in their order.
use Rattle.std.specs.Prelude.{Result}
use Rattle.jv_model.specs.declared.fault.Fault.{Fault}
use Rattle.jv_model.specs.declared.op.Op.{Op}
use Rattle.jv_model.specs.declared.op.Op.TheVariants as op
use Rattle.jv_model.specs.promise.tree.Tree.{Tree}
use Rattle.jv_model.specs.promise.tree.Reading.{lookup, stat, lstat, fstat, readdir, readlink, statfs, chmod, chown, utimes, compact}
use Rattle.jv_model.specs.promise.tree.Removing.{unlink, rmdir}
use Rattle.jv_model.specs.promise.tree.Renaming.{rename}
use Rattle.jv_model.specs.promise.tree.Sessions.{beat, umount, release}
use Rattle.jv_model.specs.promise.tree.FileBytes.{truncate, copy}
pub use Rattle.jv_model.specs.promise.tree.Changes.{empty_content, overwritten, with_content, set_node, touch}
use Rattle.jv_model.specs.promise.tree.Caller.{done}
pub use Rattle.jv_model.specs.promise.tree.Caller.{Caller, Outcome, outcome, in_session}
pub use Rattle.jv_model.specs.promise.tree.Reading.{open_file}
pub use Rattle.jv_model.specs.promise.tree.Making.{new_place, create}
use Rattle.jv_model.specs.promise.tree.Making.{mkdir, symlink, link}
pub use Rattle.jv_model.specs.promise.tree.Sessions.{mount}
pub use Rattle.jv_model.specs.promise.tree.FileBytes.{committed}

-- The transaction of an operation. The reads, writes and cleanings at the end make none, but a
-- compaction walks its path.
abbrev pub attempt : Tree → Caller → Op → Result Outcome Fault
attempt t who (op.Mount writeback) = mount t who
attempt t who op.Umount = umount t who
attempt t who op.Beat = beat t who
attempt t who (op.Lookup path) = lookup t who path
attempt t who (op.Stat path) = stat t who path
attempt t who (op.Lstat path) = lstat t who path
attempt t who (op.Fstat handle) = fstat t who
attempt t who (op.Mkdir path mode) = mkdir t who path mode
attempt t who (op.Create path mode) = create t who path mode
attempt t who (op.Open path) = open_file t who path
attempt t who (op.Close handle) = release t who
attempt t who (op.Truncate handle len) = truncate t who len
attempt t who (op.Copy source from target to len) = copy t who from to len
attempt t who (op.Readdir path) = readdir t who path
attempt t who (op.Chmod path mode) = chmod t who path mode
attempt t who (op.Chown path uid gid) = chown t who path uid gid
attempt t who (op.Utimes path mtime) = utimes t who path mtime
attempt t who op.Statfs = statfs t who
attempt t who (op.Symlink target path) = symlink t who target path
attempt t who (op.Readlink path) = readlink t who path
attempt t who (op.Unlink path) = unlink t who path
attempt t who (op.Rmdir path) = rmdir t who path
attempt t who (op.Link path to) = link t who path to
attempt t who (op.Rename path to how) = rename t who path to how
attempt t who (op.Compact path window) = compact t who path
attempt t who (op.Flush handle) = done t
attempt t who (op.Read handle offset len) = done t
attempt t who (op.Write handle offset bytes) = done t
attempt t who op.Clean = done t
attempt t who (op.Gc delete) = done t
attempt t who op.Upload = done t
attempt t who op.Stats = done t

-- the tree after an operation, and its answer
abbrev pub tree_act : Tree → Caller → Op → Outcome
tree_act t who o = outcome t (attempt t who o)
