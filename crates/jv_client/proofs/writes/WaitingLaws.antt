-- A write that waits for room: its bytes alone are pending after the last commit, which is known before it.
use Rattle.std.proofs.Common.{◌≡◌, ℕ, ◌+◌, ◌≤◌, List, [], length, Option, None, Some, Result, Ok, Err, refl, sym, ap}
use Rattle.std.proofs.Common.{subst, ◌∙◌, arith}
use Rattle.std.specs.Prelude.{IfOk, IfSome}
use Rattle.jv_model.specs.declared.op.Op.{Op}
use Rattle.jv_model.specs.declared.op.Op.TheVariants as op
use Rattle.jv_model.specs.promise.client.Pending.{Segment, written}
use Rattle.jv_pending.specs.Held.{PendingValue}
use Rattle.jv_client_handles.specs.declared.handle.Handle.{Handle}
use Rattle.jv_client_handles.specs.Handles.{inode_here}
use Rattle.jv_client_handles.proofs.UnseenLaws.{inode_here-unseen}
use Rattle.jv_client.specs.declared.doing.Doing.{Doing}
use Rattle.jv_client.specs.ClientValue.{ClientValue}
use Rattle.jv_client.specs.Flushing.{IsWrittenAlone, Other, Write, NextOf, Last, NotLast, without_segment}
use Rattle.jv_client.specs.Flushing.{written_alone}

-- ---- its bytes as all that is pending

written-op : (o : Op) (handles : List (Option Handle)) (handle offset : ℕ) (bytes : List ℕ)
    → o ≡ op.Write handle offset bytes
    → written_alone o handles ≡ Some (written (inode_here handles handle) offset bytes [])
written-op o handles handle offset bytes e = ap (λ o. written_alone o handles) e

pub alone-of : (o : Op) (handles : List (Option Handle)) (handle offset : ℕ) (bytes : List ℕ) (limit inode : ℕ)
    (before after : PendingValue) → o ≡ op.Write handle offset bytes → inode ≡ inode_here handles handle
    → before.bytes ≡ [] → before.limit ≡ limit → after ≡ record before { bytes = written inode offset bytes before.bytes }
    → IsWrittenAlone o handles limit (Some after)
alone-of o handles handle offset bytes limit inode before after of_op own none same wrote =
    Write (written (inode_here handles handle) offset bytes []) (written-op o handles handle offset bytes of_op)
    (ap Some wrote ∙ ap (λ n. Some (let p : PendingValue = record before { bytes = written n offset bytes before.bytes } in p)) own
    ∙ ap (λ pending. Some (let p : PendingValue =
    record before { bytes = written (inode_here handles handle) offset bytes pending } in p)) none
    ∙ ap (λ n. Some (let p : PendingValue = record {
      bytes = written (inode_here handles handle) offset bytes [];
      limit = n;
    } in p)) same)

-- ---- what is pending after the last commit

-- before its last segment is committed
pub next-of_last : {E : Type 0} (h : ClientValue) (d : Doing) (len : ℕ) (handles : List (Option Handle)) (limit : ℕ)
    (result : Result (Option PendingValue) E) → h.doing ≡ Some d → length h.pending ≤ len → handles ≡ h.handles
    → limit ≡ h.limits.buffer → IfOk result (λ next. IsWrittenAlone d.op handles limit next)
    → IfOk result (λ next. IfSome h.doing (λ d. NextOf d len h next))
next-of_last h d len handles limit (Err e) busy few same_handles same_limit alone = tt
next-of_last h d len handles limit (Ok next) busy few same_handles same_limit alone =
    subst (λ (o : Option Doing). IfSome o (λ d. NextOf d len h next)) (sym busy)
    (Last few (subst (λ n. IsWrittenAlone d.op h.handles n next) same_limit
    (subst (λ (handles : List (Option Handle)). IsWrittenAlone d.op handles limit next) same_handles alone)))

module _ (h : ClientValue) (segment : Segment) where
  abbrev between : ClientValue
  between = without_segment segment h

  -- The bytes of a write are the same over handles without views.
  alone-unseen : (o : Op) → written_alone o between.handles ≡ written_alone o h.handles
  alone-unseen (op.Write handle offset bytes) =
      ap (λ inode. Some (written inode offset bytes [])) (inode_here-unseen segment.inode h.handles handle)
  alone-unseen _ = refl

  alone-then : (o : Op) (limit : ℕ) (next : Option PendingValue) → IsWrittenAlone o h.handles limit next
      → IsWrittenAlone o between.handles limit next
  alone-then o limit next (Other none same) = Other (alone-unseen o ∙ none) same
  alone-then o limit next (Write bytes some same) = Write bytes (alone-unseen o ∙ some) same

  module _ (len : ℕ) (fewer : length between.pending + len ≡ length h.pending) (next : Option PendingValue) where
    next-then : (d : Doing) → NextOf d len h next → NextOf d 0 between next
    next-then d (Last few alone) = Last (omega (arith, few, fewer)) (alone-then d.op h.limits.buffer next alone)
    next-then d (NotLast more same) = NotLast (omega (arith, more, fewer)) same

    next-doing : (o : Option Doing) → IfSome o (λ d. NextOf d len h next) → IfSome o (λ d. NextOf d 0 between next)
    next-doing None nexts = tt
    next-doing (Some d) nexts = next-then d nexts

-- once its last segment was committed
pub next-after : (h after : ClientValue) (segment : Segment) (next : Option PendingValue)
    → after ≡ without_segment segment h → length after.pending + segment.len ≡ length h.pending
    → IfSome h.doing (λ d. NextOf d segment.len h next) → IfSome after.doing (λ d. NextOf d 0 after next)
next-after h after segment next same fewer nexts =
    subst (λ (c : ClientValue). IfSome c.doing (λ d. NextOf d 0 c next)) (sym same)
    (next-doing h segment segment.len
    (subst (λ (c : ClientValue). length c.pending + segment.len ≡ length h.pending) same fewer) next h.doing nexts)
