use Rattle.std.proofs.Common.{◌≡◌, ◌∙◌, true, length, ap, sym, subst}
use Rattle.std.specs.Option.{option_copied}
use Rattle.jv_model.specs.promise.client.Pending.{first_segment, pending_of, bytes_in_range}
use Rattle.jv_model.specs.client.Pending.{is_rising}
use Rattle.jv_pending.specs.At.{segment_at}
use Rattle.jv_pending.specs.Held.{PendingValue}
use Rattle.jv_pending.specs.Runs.{pending_bytes}
use Rattle.jv_pending.proofs.OutcomeLaws.{some_copied}
use Rattle.jv_pending.proofs.SegmentRunLaws.{named, named_bytes, rising}
use Rattle.jv_pending.proofs.OrderLaws.{Rises-runs}
use Rattle.jv_pending.proofs.pending.Pending.segment.Goals as goal
use Rattle.std.proofs.lemmas.Option.{same_Some}

pub unwrap-requires : goal.unwrap-requires
unwrap-requires c =
    let n = named c.of.result (segment_at c.args.at) c.self.inside.runs.entries c.self.invariant.order c.of.ensures.inode c.of.ensures.from
    (ap (λ (v : PendingValue). first_segment (pending_of c.args.at.inode v.bytes)) c.self.view_is ∙ c.requires) in
    some_copied c.get.result n.bytes (c.get.ensures.value ∙ n.found)

pub returns-clause-bytes : goal.returns-clause-bytes
returns-clause-bytes c =
    let at = c.args.at in
    let start = c.of.result in
    let rs = c.self.inside.runs.entries in
    let n = named start (segment_at at) rs c.self.invariant.order c.of.ensures.inode c.of.ensures.from
    (ap (λ (v : PendingValue). first_segment (pending_of at.inode v.bytes)) c.self.view_is ∙ c.requires) in
    c.as_slice.ensures
    ∙ same_Some c.unwrap.result.now n.bytes (sym (ap option_copied c.unwrap.ensures) ∙ c.get.ensures.value ∙ n.found)
    ∙ sym (named_bytes start at.len rs c.self.invariant.order n)
    ∙ ap (λ i. bytes_in_range i start.from at.len (pending_bytes rs)) c.of.ensures.inode
    ∙ ap (λ p. bytes_in_range at.inode p at.len (pending_bytes rs)) c.of.ensures.from
    ∙ ap (λ (v : PendingValue). bytes_in_range at.inode (segment_at at).from at.len v.bytes) c.self.view_is

pub returns-clause-len : goal.returns-clause-len
returns-clause-len c =
    let at = c.args.at in
    let n = named c.of.result (segment_at at) c.self.inside.runs.entries c.self.invariant.order c.of.ensures.inode c.of.ensures.from
    (ap (λ (v : PendingValue). first_segment (pending_of at.inode v.bytes)) c.self.view_is ∙ c.requires) in
    ap length (c.as_slice.ensures ∙ same_Some c.unwrap.result.now n.bytes (sym (ap option_copied c.unwrap.ensures) ∙ c.get.ensures.value ∙ n.found)) ∙ n.len_is

pub returns-clause-rising : goal.returns-clause-rising
returns-clause-rising c =
    let runs = c.self.inside.runs.entries in
    subst (λ (v : PendingValue). is_rising v.bytes ≡ true) c.self.view_is (rising 0 (pending_bytes runs) (Rises-runs 0 runs c.self.invariant.order))
