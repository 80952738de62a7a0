-- How an operation begins: what refuses it before its first step, and what it will commit first.
use Rattle.std.specs.Prelude.{ℕ, ◌+◌, Bool, true, false, ◌&&◌, ◌||◌, not, nat_lt, nat_le, if◌then◌else◌, List, [], ◌∷◌, length, map, is_some, Option, None, Some}
use Rattle.std.specs.List.{list_any}
use Rattle.jv_model.specs.declared.limits.TheConstants.{MAX_HANDLES, FILE_END}
use Rattle.jv_model.specs.declared.basics.Limits.{Limits}
use Rattle.jv_model.specs.declared.fault.Fault.{Fault}
use Rattle.jv_model.specs.declared.fault.Fault.TheVariants.{InProgress, NotConnected, BadHandle, TooManyHandles, FileTooLarge}
use Rattle.jv_model.specs.declared.op.Op.{Op}
use Rattle.jv_model.specs.declared.profile.Does.{Does}
use Rattle.jv_model.specs.declared.profile.Does.TheVariants.{Mounts}
use Rattle.jv_model.specs.declared.profile.Profile.{Profile}
use Rattle.jv_model.specs.declared.profile.Handles.{Handles}
use Rattle.jv_model.specs.declared.profile.Flushes.TheVariants.{Nothing, ItsFiles, IfFull, Everything}
use Rattle.jv_model.specs.promise.client.Pending.{PendingByte, Segment, first_segment, pending_of}
use Rattle.jv_model.specs.promise.client.Profile.{profile, handle_list}
use Rattle.jv_model.specs.promise.client.ModelClient.{ModelClient, Flush, OfFiles, OfAll, Working, file_of, inode_at, open_count}

abbrev pub is_mount : Does → Bool
is_mount (Mounts writeback) = true
is_mount _ = false

-- the first test that holds refuses
abbrev pub first_refusal : List (Bool × Fault) → Option Fault
first_refusal [] = None
first_refusal (test ∷ tests) = (if test.0 then Some test.1 else first_refusal tests)

-- The refusal by what a client is: whether it is busy, whether it is mounted, whether a handle that
-- the operation names is closed, and how many handles are open.
abbrev pub submission_of : (busy mounted closed : Bool) → (handles : ℕ) → Profile → Option Fault
submission_of busy mounted closed handles row = first_refusal (
    (busy || (is_mount row.does && mounted), InProgress)
    ∷ (row.needs_mount && not mounted, NotConnected)
    ∷ (closed, BadHandle)
    ∷ (row.opens && nat_le MAX_HANDLES handles, TooManyHandles)
    ∷ (nat_lt FILE_END row.end, FileTooLarge)
    ∷ [])

abbrev pub is_closed : {X : Type 0} → List (Option X) → ℕ → Bool
is_closed handles handle = not (is_some (file_of handles handle))

-- whether a handle of these isn't open
abbrev pub names_closed : {X : Type 0} → List (Option X) → Handles → Bool
names_closed handles named = list_any (is_closed handles) (handle_list named)

-- the refusal of an operation at its submission, before any step
abbrev pub submission : ModelClient → Op → Option Fault
submission c o =
    submission_of (is_some c.doing) (is_some c.session) (names_closed c.handles (profile o).handles)
    (open_count c.handles) (profile o)

-- what is committed first, with a buffer of `buffer` bytes
abbrev pub flush_of : ℕ → ModelClient → Profile → Flush
flush_of buffer c row = elim row.flushes [
  | Nothing ↦ OfFiles []
  | ItsFiles ↦ OfFiles (map (inode_at c) (handle_list row.handles))
  | IfFull len ↦ (if nat_lt buffer (length c.pending + len) then OfAll else OfFiles [])
  | Everything ↦ OfAll
]

-- a mount is in writeback mode where all mounts of the run are
abbrev pub by_limits : Limits → Does → Does
by_limits limits (Mounts writeback) = Mounts (writeback || limits.writeback)
by_limits limits does = does

-- an operation submitted, and not refused
abbrev pub submitted : Limits → Op → ModelClient → ModelClient
submitted limits o c = record c {
  doing = Some (record {
    op = o;
    does = by_limits limits (profile o).does;
    flush = flush_of limits.buffer c (profile o);
    stage = Working 0 0;
    moved = false;
  });
}

abbrev pub segment_of_files : List ℕ → List PendingByte → Option Segment
segment_of_files [] pending = None
segment_of_files (inode ∷ inodes) pending = elim (first_segment (pending_of inode pending)) [
  | None ↦ segment_of_files inodes pending
  | Some segment ↦ Some segment
]

-- the segment that is committed next, None where all that had to be is
abbrev pub next_segment : Flush → List PendingByte → Option Segment
next_segment (OfFiles inodes) pending = segment_of_files inodes pending
next_segment OfAll pending = first_segment pending

-- whether nothing is left to commit
abbrev pub is_flushed : Flush → List PendingByte → Bool
is_flushed flush pending = not (is_some (next_segment flush pending))
