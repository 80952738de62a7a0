-- What a flush leaves of a client.
use Rattle.std.specs.Prelude.{◌≡◌, ℕ, ◌≤◌, ◌<◌, List, [], length, map, Option, None, Some, IsTrue, false}
use Rattle.jv_model.specs.declared.act.ActKind.{ActKind}
use Rattle.jv_model.specs.declared.act.Told.TheVariants.{Fine}
use Rattle.jv_model.specs.declared.op.Op.{Op}
use Rattle.jv_model.specs.declared.op.Op.TheVariants as op
use Rattle.jv_model.specs.declared.op.Reply.TheVariants.{Count}
use Rattle.jv_model.specs.promise.client.Pending.{PendingByte, Segment, bytes_in_range, without_range, written}
use Rattle.jv_client_handles.specs.declared.handle.Handle.{Handle}
use Rattle.jv_client_handles.specs.Handles.{inode_here, unseen}
use Rattle.jv_client.specs.declared.doing.Doing.{Doing}
use Rattle.jv_pending.specs.Held.{PendingValue}
use Rattle.jv_client.specs.declared.doing.Progress.{Progress}
use Rattle.jv_client.specs.declared.doing.Progress.TheVariants.{Reading, Working}
use Rattle.jv_client.specs.declared.made.Made.{Made}
use Rattle.jv_client.specs.declared.made.Made.TheVariants.{Request, Both}
use Rattle.jv_client.specs.ClientValue.{ClientValue}
use Rattle.jv_client.specs.Ending.{told_here}
use Rattle.jv_client.specs.UnderWay.{answer_here, ends_itself, left, moved_to}

-- a client whose segment was committed: it isn't pending any more, and views of its file are
-- dropped
abbrev pub without_segment : Segment → ClientValue → ClientValue
without_segment segment h = record h {
  pending = without_range segment.inode segment.from segment.len h.pending;
  handles = map (unseen segment.inode) h.handles;
}

-- the pending bytes of a segment
abbrev pub bytes_of : Segment → List PendingByte → List ℕ
bytes_of segment pending = bytes_in_range segment.inode segment.from segment.len pending

-- the operation's handle, offset and bytes, where it is a write
abbrev pub IfWrite : Op → (ℕ → ℕ → List ℕ → Type 0) → Type 0
IfWrite (op.Write handle offset bytes) P = P handle offset bytes
IfWrite _ P = Unit {0}

-- the bytes of a write as all that is pending, None for another operation
abbrev pub written_alone : Op → List (Option Handle) → Option (List PendingByte)
written_alone (op.Write handle offset bytes) handles =
    Some (written (inode_here handles handle) offset bytes [])
written_alone _ handles = None

-- such pending bytes, of which there may be at most `limit`
pub data IsWrittenAlone (o : Op) (handles : List (Option Handle)) (limit : ℕ)
    (next : Option PendingValue) : Type 0 where
  Other : written_alone o handles ≡ None → next ≡ None → IsWrittenAlone o handles limit next
  Write : (bytes : List PendingByte) → written_alone o handles ≡ Some bytes
      → next ≡ Some (record { bytes = bytes; limit = limit })
      → IsWrittenAlone o handles limit next

-- what is pending after a write whose flush ends with a segment of this length, and None before
-- another segment
pub data NextOf (d : Doing) (len : ℕ) (h : ClientValue) (next : Option PendingValue) : Type 0 where
  Last : length h.pending ≤ len → IsWrittenAlone d.op h.handles h.limits.buffer next
      → NextOf d len h next
  NotLast : len < length h.pending → next ≡ None → NextOf d len h next

-- requests of a segment are made
abbrev pub IsWorkingOn : Progress → Type 0
IsWorkingOn (Working quiets started id) = Unit {0}
IsWorkingOn (Reading fetch need) = ⊥

-- What comes after a commit: its answer where nothing is left to ask for, else the operation goes
-- on. A write that had to wait for room is pending then.
pub data Follows (d : Doing) (kind : ActKind) (h after : ClientValue) (made : Made) : Type 0 where
  Answers : left h ≡ None → IsTrue (ends_itself h d)
      → (length h.pending ≤ 0 → written_alone d.op h.handles ≡ None)
      → after ≡ told_here d.op (answer_here d.does).0 h
      → made ≡ Both kind (answer_here d.does).0 (answer_here d.does).1 → Follows d kind h after made
  Writes : (handle offset : ℕ) (bytes : List ℕ) → left h ≡ None
      → d.op ≡ op.Write handle offset bytes
      → after ≡ record h {
        pending = written (inode_here h.handles handle) offset bytes [];
        doing = None;
      }
      → made ≡ Both kind (Fine (length bytes) 0 0 0) (Count (length bytes))
      → Follows d kind h after made
  GoesOn : (left h ≡ None → ends_itself h d ≡ false)
      → after ≡ record h { doing = Some (moved_to (Working 0 0 0) d) } → made ≡ Request kind
      → Follows d kind h after made
