-- The segment's bytes and the others are all that was pending.
use Rattle.std.proofs.Common.{length, ap, arith}
use Rattle.jv_model.specs.promise.client.Pending.{without_range}
use Rattle.jv_pending.specs.At.{segment_at}
use Rattle.jv_pending.specs.Held.{PendingValue}
use Rattle.jv_client.specs.ClientValue.{ClientValue}
use Rattle.jv_client.proofs.held.CommittedSegmentLaws.{length-parted}
use Rattle.jv_client.proofs.client.Client.drop_segment.Goals as goal

pub returns-clause-fewer : goal.returns-clause-fewer
returns-clause-fewer c =
    let segment = segment_at c.args.at in
    let left = ap (λ (p : PendingValue). length p.bytes) c.remove.ensures.rest in
    let same = ap (λ (h : ClientValue). length (without_range segment.inode segment.from segment.len h.pending))
    c.self.view_is in
    let all = length-parted segment c.args.self.now.pending in
    let long = c.requires.long in
    omega (arith, left, same, all, long)
