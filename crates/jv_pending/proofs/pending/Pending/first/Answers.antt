use Rattle.std.proofs.Common.{◌+◌, ◌≤◌, subst}
use Rattle.std.specs.Prelude.{IfSome}
use Rattle.std.proofs.lemmas.Option.{IfSome_then}
use Rattle.jv_model.specs.client.Pending.{end_of}
use Rattle.jv_pending.specs.declared.segment.SegmentAt.{SegmentAt}
use Rattle.jv_pending.specs.At.{segment_at}
use Rattle.jv_pending.specs.Held.{PendingValue}
use Rattle.jv_pending.specs.Runs.{pending_bytes}
use Rattle.jv_pending.proofs.OrderLaws.{Rises-runs}
use Rattle.jv_pending.proofs.SegmentRunLaws.{rising}
use Rattle.jv_pending.proofs.SegmentLaws.{segment-ends}
use Rattle.jv_pending.proofs.pending.Pending.first.Goals as goal

pub returns-clause-ends : goal.returns-clause-ends
returns-clause-ends c =
    let runs = c.self.inside.runs.entries in
    let rise = rising 0 (pending_bytes runs) (Rises-runs 0 runs c.self.invariant.order) in
    subst (λ (v : PendingValue). IfSome c.find_first.result (λ (at : SegmentAt). (segment_at at).from + at.len ≤ end_of at.inode v.bytes)) c.self.view_is
    (IfSome_then c.find_first.result c.find_first.ensures.own (λ at own. segment-ends at.inode (pending_bytes runs) (segment_at at) rise own))
