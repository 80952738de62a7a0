use Rattle.std.proofs.Common.{ap, sym, ◌∙◌}
use Rattle.std.specs.Prelude.{unwrap_or}
use Rattle.std.specs.Ordering.{nat_cmp}
use Rattle.std.specs.BTreeMap.{get}
use Rattle.std.proofs.lemmas.Result.{err_from_is_err_and}
use Rattle.std.proofs.lemmas.Bool.{not-true}
use Rattle.jv_rows.proofs.counts.AdjustLaws.{none_adjusted, all_adjusted, left_stored, step_adjusts, step_fails}
use Rattle.jv_rows.proofs.adjusting.adjust.Goals as goal

pub loop-id-init : goal.loop-id-init
loop-id-init g c =
    none_adjusted c.args.gone.now c.args.added.now c.args.due (get nat_cmp c.in_ok-fewer.fewer) (get nat_cmp c.in_ok-more.more) (g.K.Keeper.seen c.args.k.now) c.args.draft.now
    c.in_ok-fewer.ensures c.in_ok-more.ensures

pub recount-requires : goal.recount-requires
recount-requires g c = λ stored.
    left_stored c.args.gone.now c.args.added.now c.args.due c.in-Some.id 0 0 (get nat_cmp c.loop-id.fewer) (get nat_cmp c.loop-id.more)
    (g.K.Keeper.seen c.args.k.now) (g.K.Keeper.seen c.loop-id.k) (g.K.Keeper.seen c.loop-id.k) c.args.draft.now c.loop-id.draft c.loop-id.draft
    c.loop-id.invariant c.in-Some.ensures (sym c.changes_slices-is_stored.ensures ∙ not-true c.changes_slices-is_stored.result stored)

pub loop-id-preserved : goal.loop-id-preserved
loop-id-preserved g c =
    step_adjusts c.args.gone.now c.args.added.now c.args.due c.in-Some.id c.unwrap_or.result c.unwrap_or-in-Some.result (get nat_cmp c.loop-id.fewer) (get nat_cmp c.loop-id.more)
    (g.K.Keeper.seen c.args.k.now) (g.K.Keeper.seen c.loop-id.k) (g.K.Keeper.seen c.recount.new.k) c.args.draft.now c.loop-id.draft c.recount.new.draft
    c.loop-id.invariant c.in-Some.ensures
    (c.unwrap_or.ensures ∙ ap (λ o. unwrap_or o 0) c.remove.ensures.value) (c.unwrap_or-in-Some.ensures ∙ ap (λ o. unwrap_or o 0) c.remove-in-Some.ensures.value)
    (get nat_cmp c.remove.new.self) (get nat_cmp c.remove-in-Some.new.self) c.remove.ensures.updates.0 c.remove-in-Some.ensures.updates.0 c.in_ok-recount.ensures

pub returns-in_err-recount : goal.returns-in_err-recount
returns-in_err-recount g c =
    let p = err_from_is_err_and c.from_residual-in_err-recount.result c.from_residual-in_err-recount.ensures.1 in
    rw (p.1, p.2)
    (step_fails c.args.gone.now c.args.added.now c.args.due c.in-Some.id c.unwrap_or.result c.unwrap_or-in-Some.result (get nat_cmp c.loop-id.fewer) (get nat_cmp c.loop-id.more)
    (g.K.Keeper.seen c.args.k.now) (g.K.Keeper.seen c.loop-id.k) (g.K.Keeper.seen c.recount.new.k) c.args.draft.now c.loop-id.draft c.recount.new.draft
    c.loop-id.invariant c.in-Some.ensures
    (c.unwrap_or.ensures ∙ ap (λ o. unwrap_or o 0) c.remove.ensures.value) (c.unwrap_or-in-Some.ensures ∙ ap (λ o. unwrap_or o 0) c.remove-in-Some.ensures.value)
    c.in_err-recount.field-0.0 c.in_err-recount.ensures)

pub returns : goal.returns
returns g c =
    all_adjusted c.args.gone.now c.args.added.now c.args.due (get nat_cmp c.loop-id.fewer) (get nat_cmp c.loop-id.more) (g.K.Keeper.seen c.args.k.now) (g.K.Keeper.seen c.loop-id.k)
    c.args.draft.now c.loop-id.draft c.loop-id.invariant c.in_default.ensures
