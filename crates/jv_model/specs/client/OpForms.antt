-- What only inner contracts cite: of `promise/client/OpForms`.
use Rattle.std.specs.Prelude.{ℕ, Bool, true, false, ◌&&◌, Option, None, Some}
use Rattle.jv_model.specs.declared.op.Op.{Op}
use Rattle.jv_model.specs.declared.op.Op.TheVariants as op
use Rattle.jv_model.specs.promise.script.Spelled.{is_spelled}

abbrev pub is_write : Op → Bool
is_write (op.Write handle offset bytes) = true
is_write _ = false

-- the operation that makes a session
abbrev pub is_mount_op : Op → Bool
is_mount_op (op.Mount writeback) = true
is_mount_op _ = false

abbrev pub is_umount : Op → Bool
is_umount op.Umount = true
is_umount _ = false

-- the operations that change the bytes of a file in one transaction
abbrev pub changes_bytes : Op → Bool
changes_bytes (op.Truncate handle len) = true
changes_bytes (op.Copy source from target to len) = true
changes_bytes _ = false

-- the operations that may take a file's last entry
abbrev pub takes_entries : Op → Bool
takes_entries (op.Unlink path) = true
takes_entries (op.Rename path to how) = true
takes_entries _ = false

-- the operations that open a file
abbrev pub opens_file : Op → Bool
opens_file (op.Create path mode) = true
opens_file (op.Open path) = true
opens_file _ = false

-- the handle that an operation closes
abbrev pub closed_by : Op → Option ℕ
closed_by (op.Close handle) = Some handle
closed_by _ = None

-- the operations whose own transaction, after what they flush, is one on metadata; a close may make
-- none
abbrev pub is_metadata : Op → Bool
is_metadata (op.Mount writeback) = false
is_metadata op.Umount = true
is_metadata op.Beat = true
is_metadata (op.Lookup path) = true
is_metadata (op.Stat path) = true
is_metadata (op.Lstat path) = true
is_metadata (op.Fstat handle) = true
is_metadata (op.Mkdir path mode) = true
is_metadata (op.Create path mode) = true
is_metadata (op.Open path) = true
is_metadata (op.Close handle) = true
is_metadata (op.Flush handle) = false
is_metadata (op.Read handle offset len) = false
is_metadata (op.Write handle offset bytes) = false
is_metadata (op.Truncate handle len) = false
is_metadata (op.Copy source from target to len) = false
is_metadata (op.Readdir path) = true
is_metadata (op.Chmod path mode) = true
is_metadata (op.Chown path uid gid) = true
is_metadata (op.Utimes path mtime) = true
is_metadata op.Statfs = true
is_metadata (op.Symlink target path) = true
is_metadata (op.Readlink path) = true
is_metadata (op.Unlink path) = true
is_metadata (op.Rmdir path) = true
is_metadata (op.Link path to) = true
is_metadata (op.Rename path to how) = true
is_metadata (op.Compact path window) = false
is_metadata op.Clean = false
is_metadata (op.Gc delete) = false
is_metadata op.Upload = false
is_metadata op.Stats = false

-- the operations that are one transaction, but for a close, which may be none
abbrev pub is_transaction : Op → Bool
is_transaction (op.Close handle) = false
is_transaction o = is_metadata o

-- the operations whose transaction may be tried: a mount, and those on metadata
abbrev pub is_tried : Op → Bool
is_tried (op.Mount writeback) = true
is_tried o = is_metadata o && is_spelled o
