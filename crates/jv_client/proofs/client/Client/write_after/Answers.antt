-- All that is pending is this segment: then the write's bytes are all that is left.
use Rattle.std.proofs.Common.{◌≡◌, length, Some, sym, ap, ◌∙◌, arith}
use Rattle.jv_client.specs.ClientValue.{ClientValue}
use Rattle.jv_client.proofs.writes.WaitingLaws.{next-of_last}
use Rattle.jv_client.proofs.client.Client.write_after.Goals as goal

pub returns : goal.returns
returns c =
    let h = c.args.self.now in
    let busy : h.doing ≡ Some c.in-Some.doing =
    ap (λ (h : ClientValue). h.doing) (sym c.self.view_is) ∙ c.in-Some.is in
    let count = c.bytes.ensures.count in
    let few = c.if-bytes-from.false in
    let from = c.from.ensures in
    let same = ap (λ (h : ClientValue). length h.pending) c.self.view_is in
    next-of_last h c.in-Some.doing c.args.at.len c.deref.result.now c.self.inside.limits.buffer c.written_alone.result busy
    (omega (arith, count, few, from, same))
    (c.deref.ensures.value ∙ ap (λ (h : ClientValue). h.handles) c.self.view_is)
    (ap (λ (h : ClientValue). h.limits.buffer) c.self.view_is) c.written_alone.ensures
