use Rattle.std.proofs.Common.{◌∙◌, Option, Some, ℕ, ap, sym, arith}
use Rattle.std.specs.Option.{option_map}
use Rattle.jv_model.specs.promise.client.Pending.{Segment, first_segment}
use Rattle.jv_model.specs.client.Pending.{first_segment_of}
use Rattle.jv_pending.specs.At.{segment_at}
use Rattle.jv_pending.specs.Runs.{pending_bytes}
use Rattle.jv_pending.proofs.PartLaws.{Rise-order}
use Rattle.jv_pending.proofs.SegmentRunLaws.{first_of_all, first_is_own, none_of_all, own_first, own_none, own_other, first_is_run}
use Rattle.jv_pending.proofs.run.find_first.Goals as goal

pub first_from-requires-clause-rise : goal.first_from-requires-clause-rise
first_from-requires-clause-rise c = Rise-order 0 c.args.runs.now.entries c.requires

pub first_from-requires-in-Some-clause-rise : goal.first_from-requires-in-Some-clause-rise
first_from-requires-in-Some-clause-rise c = Rise-order 0 c.args.runs.now.entries c.requires

pub segment-requires : goal.segment-requires
segment-requires c = first_is_run 0 c.args.runs.now.entries (c.in_ok-start-in-None.start, c.in_ok-start-in-None.bytes.now) c.requires c.in_ok-start-in-None.ensures

pub segment-requires-then-start-inode : goal.segment-requires-then-start-inode
segment-requires-then-start-inode c = first_is_run _ c.args.runs.now.entries (c.in_ok-start-in-Some.start, c.in_ok-start-in-Some.bytes.now) c.requires c.in_ok-start-in-Some.ensures

pub returns-in_err-start-in-None-clause-least : goal.returns-in_err-start-in-None-clause-least
returns-in_err-start-in-None-clause-least c =
    ap (option_map segment_at) c.from_residual.ensures
    ∙ ap first_segment (sym (none_of_all c.args.runs.now.entries c.requires c.in_err-start-in-None.ensures))
    ∙ ap (λ (i : Option ℕ). first_segment_of i (pending_bytes c.args.runs.now.entries)) (sym c.in-None.is)

pub returns-in_ok-start-in-None-clause-least : goal.returns-in_ok-start-in-None-clause-least
returns-in_ok-start-in-None-clause-least c =
    ap Some c.segment.ensures.same
    ∙ sym (first_of_all c.args.runs.now.entries (c.in_ok-start-in-None.start, c.in_ok-start-in-None.bytes.now) c.requires c.in_ok-start-in-None.ensures)
    ∙ ap (λ (i : Option ℕ). first_segment_of i (pending_bytes c.args.runs.now.entries)) (sym c.in-None.is)

pub returns-in_ok-start-in-None-clause-own : goal.returns-in_ok-start-in-None-clause-own
returns-in_ok-start-in-None-clause-own c =
    ap (λ (s : Segment). first_segment_of (Some s.inode) (pending_bytes c.args.runs.now.entries)) c.segment.ensures.same
    ∙ first_is_own c.args.runs.now.entries (c.in_ok-start-in-None.start, c.in_ok-start-in-None.bytes.now) c.requires c.in_ok-start-in-None.ensures
    ∙ ap Some (sym c.segment.ensures.same)

pub returns-in_ok-start-in-None-clause-some : goal.returns-in_ok-start-in-None-clause-some
returns-in_ok-start-in-None-clause-some c =
    let r = first_is_run 0 c.args.runs.now.entries (c.in_ok-start-in-None.start, c.in_ok-start-in-None.bytes.now) c.requires c.in_ok-start-in-None.ensures in
    let s = r.some in
    let e = ap (λ (s : Segment). s.len) c.segment.ensures.same in
    omega arith

pub returns-in_err-start-in-Some-clause-least : goal.returns-in_err-start-in-Some-clause-least
returns-in_err-start-in-Some-clause-least c =
    ap (option_map segment_at) c.from_residual-in_err-start-in-Some.ensures
    ∙ ap first_segment (sym (own_none c.in-Some.inode c.args.runs.now.entries c.requires c.in_err-start-in-Some.ensures))
    ∙ ap (λ (i : Option ℕ). first_segment_of i (pending_bytes c.args.runs.now.entries)) (sym c.in-Some.is)

pub returns-then-start-inode-clause-least : goal.returns-then-start-inode-clause-least
returns-then-start-inode-clause-least c =
    ap Some c.segment-then-start-inode.ensures.same
    ∙ sym (own_first c.in-Some.inode c.args.runs.now.entries (c.in_ok-start-in-Some.start, c.in_ok-start-in-Some.bytes.now) c.requires c.in_ok-start-in-Some.ensures c.if-start-inode.true)
    ∙ ap (λ (i : Option ℕ). first_segment_of i (pending_bytes c.args.runs.now.entries)) (sym c.in-Some.is)

pub returns-then-start-inode-clause-own : goal.returns-then-start-inode-clause-own
returns-then-start-inode-clause-own c =
    ap (λ (s : Segment). first_segment_of (Some s.inode) (pending_bytes c.args.runs.now.entries)) c.segment-then-start-inode.ensures.same
    ∙ ap (λ i. first_segment_of (Some i) (pending_bytes c.args.runs.now.entries)) c.if-start-inode.true
    ∙ own_first c.in-Some.inode c.args.runs.now.entries (c.in_ok-start-in-Some.start, c.in_ok-start-in-Some.bytes.now) c.requires c.in_ok-start-in-Some.ensures c.if-start-inode.true
    ∙ ap Some (sym c.segment-then-start-inode.ensures.same)

pub returns-then-start-inode-clause-some : goal.returns-then-start-inode-clause-some
returns-then-start-inode-clause-some c =
    let r = first_is_run _ c.args.runs.now.entries (c.in_ok-start-in-Some.start, c.in_ok-start-in-Some.bytes.now) c.requires c.in_ok-start-in-Some.ensures in
    let s = r.some in
    let e = ap (λ (s : Segment). s.len) c.segment-then-start-inode.ensures.same in
    omega arith

pub returns-else-start-inode-clause-least : goal.returns-else-start-inode-clause-least
returns-else-start-inode-clause-least c =
    ap first_segment (sym (own_other c.in-Some.inode c.args.runs.now.entries (c.in_ok-start-in-Some.start, c.in_ok-start-in-Some.bytes.now) c.requires c.in_ok-start-in-Some.ensures c.if-start-inode.false))
    ∙ ap (λ (i : Option ℕ). first_segment_of i (pending_bytes c.args.runs.now.entries)) (sym c.in-Some.is)
