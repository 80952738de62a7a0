use Rattle.std.proofs.Common.{◌≡◌, true, subst}
use Rattle.jv_model.specs.client.Pending.{is_rising}
use Rattle.jv_pending.specs.Held.{PendingValue}
use Rattle.jv_pending.specs.Runs.{pending_bytes}
use Rattle.jv_pending.proofs.OrderLaws.{Rises-runs}
use Rattle.jv_pending.proofs.SegmentRunLaws.{rising}
use Rattle.jv_pending.proofs.pending.Pending.bytes.Goals as goal

pub returns-clause-rising : goal.returns-clause-rising
returns-clause-rising c =
    let runs = c.self.inside.runs.entries in
    subst (λ (v : PendingValue). is_rising v.bytes ≡ true) c.self.view_is (rising 0 (pending_bytes runs) (Rises-runs 0 runs c.self.invariant.order))
