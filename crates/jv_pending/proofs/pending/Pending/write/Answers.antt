use Rattle.std.proofs.Common.{◌≡◌, ◌∙◌, List, true, length, ap, subst, arith}
use Rattle.jv_model.specs.client.Pending.{is_rising}
use Rattle.jv_model.specs.promise.client.Pending.{pending_of_others}
use Rattle.jv_pending.specs.Held.{PendingValue}
use Rattle.jv_pending.specs.Runs.{Run, InOrder, pending_bytes}
use Rattle.jv_pending.proofs.ByteLaws.{written_length}
use Rattle.jv_pending.proofs.OrderLaws.{Rises-runs}
use Rattle.jv_pending.proofs.SegmentRunLaws.{rising}
use Rattle.jv_pending.proofs.SegmentLaws.{written_others}
use Rattle.jv_pending.proofs.pending.Pending.write.Goals as goal

rises : (runs : List Run) → InOrder 0 runs → is_rising (pending_bytes runs) ≡ true
rises runs order = rising 0 (pending_bytes runs) (Rises-runs 0 runs order)

pub invariant_of-self : goal.invariant_of-self
invariant_of-self c =
    let before = c.self.invariant.count in
    let asked = c.len-asked.ensures.length in
    let room = c.if-asked-self.false in
    let new = ap length c.in-Ok.ensures.ok in
    let count = c.in-Ok.ensures.count in
    let same = ap length c.as_slice.ensures in
    let fits = c.self.invariant.limited in
    record {
      order = c.write_runs.ensures.order;
      count = count;
      limited = omega (arith, written_length c.args.inode c.args.from c.as_slice.result.now (pending_bytes c.self.inside.runs.entries));
    }

pub returns-then-asked-self-clause-rising : goal.returns-then-asked-self-clause-rising
returns-then-asked-self-clause-rising c = subst (λ (v : PendingValue). is_rising v.bytes ≡ true) c.self.view_is (rises c.self.inside.runs.entries c.self.invariant.order)

pub returns-then-asked-eq0-clause-rising : goal.returns-then-asked-eq0-clause-rising
returns-then-asked-eq0-clause-rising c = subst (λ (v : PendingValue). is_rising v.bytes ≡ true) c.self.view_is (rises c.self.inside.runs.entries c.self.invariant.order)

pub returns-in-Ok-clause-limit : goal.returns-in-Ok-clause-limit
returns-in-Ok-clause-limit c =
    let before = c.self.invariant.count in
    let asked = c.len-asked.ensures.length in
    let room = c.if-asked-self.false in
    let new = ap length c.in-Ok.ensures.ok in
    let same = ap length c.as_slice.ensures in
    let fits = c.self.invariant.limited in
    let limit = ap (λ (v : PendingValue). v.limit) c.self.view_is in
    omega (arith, written_length c.args.inode c.args.from c.as_slice.result.now (pending_bytes c.self.inside.runs.entries))

pub returns-in-Ok-clause-rising : goal.returns-in-Ok-clause-rising
returns-in-Ok-clause-rising c = rises c.write_runs.new.runs.entries c.write_runs.ensures.order

pub returns-in-Ok-clause-others : goal.returns-in-Ok-clause-others
returns-in-Ok-clause-others c =
    ap (pending_of_others c.args.inode) c.in-Ok.ensures.ok
    ∙ written_others c.args.inode c.args.from c.as_slice.result.now (pending_bytes c.self.inside.runs.entries)
    ∙ ap (λ (v : PendingValue). pending_of_others c.args.inode v.bytes) c.self.view_is

pub returns-in-Err-clause-rising : goal.returns-in-Err-clause-rising
returns-in-Err-clause-rising c = rises c.write_runs.new.runs.entries c.write_runs.ensures.order
