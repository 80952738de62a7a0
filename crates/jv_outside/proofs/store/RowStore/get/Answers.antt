-- What the tree finds is what the rows have.
use Rattle.std.proofs.Common.{ap, sym, ◌∙◌, Some}
use Rattle.jv_model.specs.promise.FiniteMap.{get}
use Rattle.jv_model.specs.promise.rows.RowKeys.{row_key}
use Rattle.jv_outside.proofs.StoredLaws.{stored-settled, get-lookup}
use Rattle.jv_outside.proofs.store.RowStore.get.Goals as goal

pub returns-in_ok-shared-in-Some-clause-value : goal.returns-in_ok-shared-in-Some-clause-value
returns-in_ok-shared-in-Some-clause-value c =
    ap Some c.in_ok-shared-in-Some.ensures ∙ c.in-Some.ensures ∙ sym (get-lookup row_key _ _)
    ∙ ap (λ m. get m c.args.key.now) (sym (stored-settled _ c.in_ok-settle.ensures.settled) ∙ c.in_ok-settle.ensures.same)

pub returns-in-None-clause-value : goal.returns-in-None-clause-value
returns-in-None-clause-value c =
    c.in-None.ensures ∙ sym (get-lookup row_key _ _)
    ∙ ap (λ m. get m c.args.key.now) (sym (stored-settled _ c.in_ok-settle.ensures.settled) ∙ c.in_ok-settle.ensures.same)
