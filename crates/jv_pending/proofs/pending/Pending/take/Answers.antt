use Rattle.std.proofs.Common.{◌≡◌, ◌∙◌, ℕ, List, is_some, length, ap, sym, subst, arith}
use Rattle.jv_model.specs.promise.client.Pending.{PendingByte, first_segment, pending_of, bytes_in_range, without_range}
use Rattle.jv_pending.specs.At.{segment_at}
use Rattle.jv_pending.specs.Held.{PendingValue}
use Rattle.jv_pending.specs.Runs.{Run, InOrder, pending_bytes}
use Rattle.jv_pending.proofs.PartLaws.{Rise-order}
use Rattle.jv_pending.proofs.EntryLaws.{removed}
use Rattle.jv_pending.proofs.SegmentRunLaws.{named, named_bytes, taken_order, taken, taken_count}
use Rattle.jv_pending.proofs.SegmentLaws.{length-without}
use Rattle.jv_pending.proofs.pending.Pending.take.Goals as goal
use Rattle.std.proofs.lemmas.Option.{same_Some}

pub unwrap-run-requires : goal.unwrap-run-requires
unwrap-run-requires c =
    let n = named c.of.result (segment_at c.args.at) c.self.inside.runs.entries c.self.invariant.order c.of.ensures.inode c.of.ensures.from
    (ap (λ (v : PendingValue). first_segment (pending_of c.args.at.inode v.bytes)) c.self.view_is ∙ c.requires) in
    ap is_some (c.remove.ensures.value ∙ n.found)

pub overflow_sub-self : goal.overflow_sub-self
overflow_sub-self c =
    let rs = c.self.inside.runs.entries in
    let n = named c.of.result (segment_at c.args.at) rs c.self.invariant.order c.of.ensures.inode c.of.ensures.from
    (ap (λ (v : PendingValue). first_segment (pending_of c.args.at.inode v.bytes)) c.self.view_is ∙ c.requires) in
    let e = ap length (same_Some c.unwrap-run.result n.bytes (sym c.unwrap-run.ensures ∙ c.remove.ensures.value ∙ n.found)) in
    let h = c.self.invariant.count in
    let l = c.len.ensures.length in
    omega (arith, taken_count c.of.result c.args.at.len rs c.self.invariant.order n)

pub invariant_of-self : goal.invariant_of-self
invariant_of-self c =
    let rs = c.self.inside.runs.entries in
    let n = named c.of.result (segment_at c.args.at) rs c.self.invariant.order c.of.ensures.inode c.of.ensures.from
    (ap (λ (v : PendingValue). first_segment (pending_of c.args.at.inode v.bytes)) c.self.view_is ∙ c.requires) in
    let e = ap length (same_Some c.unwrap-run.result n.bytes (sym c.unwrap-run.ensures ∙ c.remove.ensures.value ∙ n.found)) in
    let h = c.self.invariant.count in
    let m = c.self.invariant.limited in
    let l = c.len.ensures.length in
    let new = c.remove.ensures.entries ∙ removed c.of.result n.file 0 rs (Rise-order 0 rs c.self.invariant.order) in
    let left = ap (λ (t : List Run). length (pending_bytes t)) new in
    record {
      order = subst (InOrder 0) (sym new) (taken_order c.of.result c.args.at.len rs c.self.invariant.order n);
      count = omega (arith, taken_count c.of.result c.args.at.len rs c.self.invariant.order n);
      limited = omega arith;
    }

pub returns-clause-bytes : goal.returns-clause-bytes
returns-clause-bytes c =
    let at = c.args.at in
    let start = c.of.result in
    let rs = c.self.inside.runs.entries in
    let n = named start (segment_at at) rs c.self.invariant.order c.of.ensures.inode c.of.ensures.from
    (ap (λ (v : PendingValue). first_segment (pending_of at.inode v.bytes)) c.self.view_is ∙ c.requires) in
    c.into_bytes.ensures
    ∙ same_Some c.unwrap-run.result n.bytes (sym c.unwrap-run.ensures ∙ c.remove.ensures.value ∙ n.found)
    ∙ sym (named_bytes start at.len rs c.self.invariant.order n)
    ∙ ap (λ i. bytes_in_range i start.from at.len (pending_bytes rs)) c.of.ensures.inode
    ∙ ap (λ p. bytes_in_range at.inode p at.len (pending_bytes rs)) c.of.ensures.from
    ∙ ap (λ (v : PendingValue). bytes_in_range at.inode (segment_at at).from at.len v.bytes) c.self.view_is

abbrev made : List PendingByte → ℕ → PendingValue
made bytes limit = record { bytes = bytes; limit = limit }

value : (bytes rest : List PendingByte) (limit same : ℕ) → bytes ≡ rest → limit ≡ same → made bytes limit ≡ made rest same
value bytes rest limit same e f = ap (λ (t : List PendingByte). made t limit) e ∙ ap (made rest) f

pub returns-clause-rest : goal.returns-clause-rest
returns-clause-rest c =
    let at = c.args.at in
    let start = c.of.result in
    let rs = c.self.inside.runs.entries in
    let n = named start (segment_at at) rs c.self.invariant.order c.of.ensures.inode c.of.ensures.from
    (ap (λ (v : PendingValue). first_segment (pending_of at.inode v.bytes)) c.self.view_is ∙ c.requires) in
    let left : pending_bytes c.remove.new.self.entries ≡ without_range at.inode (segment_at at).from at.len c.args.self.now.bytes =
    ap pending_bytes (c.remove.ensures.entries ∙ removed start n.file 0 rs (Rise-order 0 rs c.self.invariant.order))
    ∙ taken start at.len rs c.self.invariant.order n
    ∙ ap (λ i. without_range i start.from at.len (pending_bytes rs)) c.of.ensures.inode
    ∙ ap (λ p. without_range at.inode p at.len (pending_bytes rs)) c.of.ensures.from
    ∙ ap (λ (v : PendingValue). without_range at.inode (segment_at at).from at.len v.bytes) c.self.view_is in
    value _ _ _ _ left (ap (λ (v : PendingValue). v.limit) c.self.view_is)

pub returns-clause-fewer : goal.returns-clause-fewer
returns-clause-fewer c =
    let e = ap (λ (v : PendingValue). length v.bytes) (returns-clause-rest c) in
    omega (arith, e, length-without c.args.at.inode c.args.self.now.bytes (segment_at c.args.at) c.requires)
