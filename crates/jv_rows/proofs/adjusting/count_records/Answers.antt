use Rattle.std.proofs.Common.{◌≡◌, ◌≤◌, ◌+◌, cond, ℕ, Option, Some, get_or, take, sym, subst, ap, ◌∙◌, arith}
use Rattle.std.specs.Prelude.{unwrap_or}
use Rattle.std.specs.Ordering.{nat_cmp}
use Rattle.std.specs.BTreeMap.{get, is_at}
use Rattle.jv_rows.specs.Counts.{stored_count}
use Rattle.jv_rows.proofs.counts.CountsLaws.{stored_le, stored_same, stored_more, none}
use Rattle.jv_rows.proofs.adjusting.count_records.Goals as goal
use Rattle.jv_rows.proofs.adjusting.count_records.Goals.{then-record-ne0+in_ok-insert, else-record-ne0}

pub overflow_add-count : goal.overflow_add-count
overflow_add-count c =
    let id = (get_or c.args.records.now c.loop-record.record-index none).id in
    let count : c.unwrap_or-count.result ≡ unwrap_or (stored_count (take c.loop-record.record-index c.args.records.now) id) 0 =
    c.unwrap_or-count.ensures ∙ ap (λ (o : Option ℕ). unwrap_or o 0) (c.copied.ensures ∙ c.get.ensures.value ∙ c.loop-record.invariant id) in
    let bound : c.unwrap_or-count.result ≤ c.loop-record.record-index = subst (λ (n : ℕ). n ≤ c.loop-record.record-index) (sym count) (stored_le c.args.records.now c.loop-record.record-index id) in
    omega (arith, bound)

pub loop-record-preserved : goal.loop-record-preserved
loop-record-preserved c =
    let rs = c.args.records.now in
    let i = c.loop-record.record-index in
    elim c.if-record-ne0.branch [
      | then-record-ne0+in_ok-insert w ↦ (λ q.
          let id = (get_or rs i none).id in
          let count : w.unwrap_or-count.result ≡ unwrap_or (stored_count (take i rs) id) 0 =
          w.unwrap_or-count.ensures ∙ ap (λ (o : Option ℕ). unwrap_or o 0) (w.copied.ensures ∙ w.get.ensures.value ∙ c.loop-record.invariant id) in
          ap (λ m. get nat_cmp m q) w.counts-is ∙ w.in_ok-insert.ensures.updates.0 q
          ∙ ap (λ (o : Option ℕ). cond (is_at (nat_cmp id) q) (Some (w.unwrap_or-count.result + 1)) o) (c.loop-record.invariant q)
          ∙ stored_more rs i c.loop-record-test.true w.if-record-ne0.true w.unwrap_or-count.result count q)
      | else-record-ne0 w ↦ (λ q. ap (λ m. get nat_cmp m q) w.counts-is ∙ c.loop-record.invariant q ∙ stored_same rs i c.loop-record-test.true w.if-record-ne0.false q)
    ]
