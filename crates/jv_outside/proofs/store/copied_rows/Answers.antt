-- A row that is found is the next one of the rest.
use Rattle.std.proofs.Common.{ℕ, ◌<◌, ◌==◌, List, length, eq-eqb, arith}
use Rattle.jv_model.specs.declared.row.RowKey.{RowKey}
use Rattle.jv_outside.proofs.ScanLaws.{glimpse-next_while}
use Rattle.jv_outside.proofs.store.copied_rows.Goals as goal

pub loop-key-preserved : goal.loop-key-preserved
loop-key-preserved c =
    let few : length c.loop-key.found < c.args.n = omega (arith, c.len.ensures.length, c.if-len-n.false) in
    record {
      found = glimpse-next_while (λ (row : RowKey × List ℕ). row.0.tab == c.args.tab) c.args.n c.loop-key.found _ _ _ _ _ _ c.in-Some.ensures.steps c.in_ok-push.ensures.ok
          (λ i. (c.in_ok-copied.ensures i, c.in_ok-shared.ensures i)) few (eq-eqb _ _ c.if-key-tab.false) c.loop-key.invariant.found;
    }
