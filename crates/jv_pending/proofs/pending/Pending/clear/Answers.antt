use Rattle.std.proofs.Common.{◌∙◌, ap, sym}
use Rattle.jv_model.specs.promise.client.Pending.{without_range, pending_of_others}
use Rattle.jv_pending.specs.At.{segment_at}
use Rattle.jv_pending.specs.Held.{PendingValue}
use Rattle.jv_pending.proofs.SegmentLaws.{own_segment, others_stay, others_all, none_of_others, no_end}
use Rattle.jv_pending.proofs.pending.Pending.clear.Goals as goal

pub loop-at-smaller : goal.loop-at-smaller
loop-at-smaller c =
    c.remove.ensures.fewer

pub loop-at-preserved : goal.loop-at-preserved
loop-at-preserved c =
    let i = c.args.inode in
    let bytes = c.loop-at.self.bytes in
    let s = segment_at c.in-Some.at in
    record {
      others = ap (λ (v : PendingValue). pending_of_others i v.bytes) c.remove.ensures.rest
          ∙ ap (λ j. pending_of_others i (without_range j s.from s.len bytes)) (own_segment i bytes s (sym c.in-Some.ensures.least))
          ∙ others_stay i s.from s.len bytes
          ∙ c.loop-at.invariant.others;
      limit = ap (λ (v : PendingValue). v.limit) c.remove.ensures.rest ∙ c.loop-at.invariant.limit;
    }

pub returns-clause-others : goal.returns-clause-others
returns-clause-others c =
    let bytes = sym (others_all c.args.inode c.loop-at.self.bytes (sym c.in_default.ensures.least)) ∙ c.loop-at.invariant.others in
    let limit = c.loop-at.invariant.limit in
    λ k. record { bytes = bytes k; limit = limit k }

pub returns-clause-none : goal.returns-clause-none
returns-clause-none c = none_of_others c.args.inode c.loop-at.self.bytes (sym c.in_default.ensures.least)

pub returns-clause-ends : goal.returns-clause-ends
returns-clause-ends c = no_end c.args.inode c.loop-at.self.bytes (sym c.in_default.ensures.least)
