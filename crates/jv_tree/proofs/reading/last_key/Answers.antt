use Rattle.std.proofs.Common.{◌-◌, Some, length, ap, ◌∙◌, arith}
use Rattle.jv_model.specs.declared.row.RowKey.{RowKey}
use Rattle.jv_tree.proofs.PageLaws.{last_is}
use Rattle.jv_tree.proofs.reading.last_key.Goals as goal

pub returns-in_ok-copied-in-Some : goal.returns-in_ok-copied-in-Some
returns-in_ok-copied-in-Some c =
    let item = c.in-Some.ensures.item in
    ap (λ (k : RowKey). Some k) c.in_ok-copied-in-Some.ensures
    ∙ last_is c.args.page.now c.in-Some.field-0.now (length c.args.page.now - 1) (omega (arith, item.3.0)) item.1
