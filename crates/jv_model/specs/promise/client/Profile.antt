-- What each operation needs before its first step, what it commits first, and what it does then:
-- one row an operation.
use Rattle.std.specs.Prelude.{ℕ, ◌+◌, true, false, ◌||◌, ◌==◌, nat_le, if◌then◌else◌, List, [], ◌∷◌, length, None}
use Rattle.jv_model.specs.declared.limits.TheConstants.{FILE_END}
use Rattle.jv_model.specs.declared.op.Op.{Op}
use Rattle.jv_model.specs.declared.op.Op.TheVariants as op
use Rattle.jv_model.specs.declared.profile.Profile.{Profile}
use Rattle.jv_model.specs.declared.profile.Handles.{Handles}
use Rattle.jv_model.specs.declared.profile.Handles.TheVariants as handles
use Rattle.jv_model.specs.declared.profile.Flushes.TheVariants.{Nothing, ItsFiles, IfFull, Everything}
use Rattle.jv_model.specs.declared.profile.Answer.TheVariants.{Done, Count, NoData, CacheStats}
use Rattle.jv_model.specs.declared.profile.Does.{Does}
use Rattle.jv_model.specs.declared.profile.Does.TheVariants.{Answers, Mounts, Transacts, Releases, Reads, Truncates, Copies, Compacts, Cleans, Collects, Uploads}
use Rattle.jv_model.specs.promise.Lists.{first_number}

-- one metadata transaction of a mounted client, on paths or on nothing
abbrev pub transaction : Profile
transaction =
    record {
      needs_mount = true;
      handles = handles.None;
      opens = false;
      end = 0;
      flushes = Nothing;
      does = Transacts;
    }

-- another operation of a mounted client, and one of any client
abbrev pub of_mounted : Does → Profile
of_mounted does = record transaction { does = does }

abbrev pub of_any_client : Does → Profile
of_any_client does = record transaction { needs_mount = false; does = does }

-- a transaction that commits all that is pending first, and one that opens a handle
abbrev pub flushing_all : Profile
flushing_all = record transaction { flushes = Everything }

abbrev pub opening : Profile
opening = record transaction { opens = true }

-- a copy between the files of two handles
abbrev pub on_files : ℕ → ℕ → Profile
on_files source target =
    record transaction { handles = handles.Two source target; flushes = ItsFiles; does = Copies }

-- an operation on the file of a handle, whose pending bytes are committed first
abbrev pub on_file : ℕ → Does → Profile
on_file handle does =
    record transaction { handles = handles.One handle; flushes = ItsFiles; does = does }

-- a range of which no position lies before the end of the longest file has no byte
abbrev pub read_does : ℕ → ℕ → Does
read_does offset len =
    (if (len == 0) || nat_le FILE_END offset then Answers NoData else Reads offset len)

-- a number of bytes from an offset on
abbrev pub write_profile : ℕ → ℕ → ℕ → Profile
write_profile handle offset len = record transaction {
  handles = handles.One handle;
  end = offset + len;
  flushes = IfFull len;
  does = Answers (Count len);
}

abbrev pub profile : Op → Profile
profile (op.Mount writeback) = of_any_client (Mounts writeback)
profile op.Umount = flushing_all
profile op.Beat = transaction
profile (op.Lookup path) = transaction
profile (op.Stat path) = transaction
profile (op.Lstat path) = transaction
profile (op.Fstat handle) = on_file handle Transacts
profile (op.Mkdir path mode) = transaction
profile (op.Create path mode) = opening
profile (op.Open path) = opening
profile (op.Close handle) = on_file handle Releases
profile (op.Flush handle) = on_file handle (Answers Done)
profile (op.Read handle offset len) = on_file handle (read_does offset len)
profile (op.Write handle offset bytes) = write_profile handle offset (length bytes)
profile (op.Truncate handle len) = on_file handle Truncates
profile (op.Copy source from target to len) = on_files source target
profile (op.Readdir path) = transaction
profile (op.Chmod path mode) = transaction
profile (op.Chown path uid gid) = transaction
profile (op.Utimes path mtime) = transaction
profile op.Statfs = transaction
profile (op.Symlink target path) = transaction
profile (op.Readlink path) = transaction
profile (op.Unlink path) = transaction
profile (op.Rmdir path) = transaction
profile (op.Link path to) = transaction
profile (op.Rename path to how) = transaction
profile (op.Compact path window) = of_mounted (Compacts None)
profile op.Clean = of_mounted Cleans
profile (op.Gc delete) = of_mounted (Collects delete)
profile op.Upload = of_any_client Uploads
profile op.Stats = of_mounted (Answers CacheStats)

-- the handles in the order of the operation's words
abbrev pub handle_list : Handles → List ℕ
handle_list handles.None = []
handle_list (handles.One handle) = handle ∷ []
handle_list (handles.Two first second) = first ∷ second ∷ []

abbrev pub handle_of : Op → ℕ
handle_of o = first_number (handle_list (profile o).handles)
