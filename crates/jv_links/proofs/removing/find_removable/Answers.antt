use Rattle.std.proofs.Common.{sym, ◌∙◌}
use Rattle.std.proofs.lemmas.Result.{err_from_is_err_and}
use Rattle.jv_links.proofs.entries.RemovableLaws.{removable-no_place, removable-found}
use Rattle.jv_links.proofs.removing.find_removable.Goals as goal

pub returns-in_err-place : goal.returns-in_err-place
returns-in_err-place g c =
    let p = err_from_is_err_and c.from_residual-in_err-place.result c.from_residual-in_err-place.ensures.1 in
    rw (p.1, p.2)
    (removable-no_place c.args.sid c.args.path.now (g.K.Keeper.seen c.args.k.now) (g.K.Keeper.seen c.in_session.new.k)
    c.in_ok-in_session.ensures
    (g.K.Keeper.seen c.walk_to_entry.new.k) c.in_err-place.field-0.0 c.in_err-place.ensures)

pub returns : goal.returns
returns g c =
    let place = c.in_ok-place.place in
    let may = sym c.may_go.ensures ∙ c.if-not-may_go.false in
    removable-found c.args.sid c.args.path.now (g.K.Keeper.seen c.args.k.now) (g.K.Keeper.seen c.in_session.new.k)
    c.in_ok-in_session.ensures
    (g.K.Keeper.seen c.walk_to_entry.new.k) place c.in_ok-place.ensures may (g.K.Keeper.seen c.child.new.k)
    c.in_ok-node.node c.in_ok-node.ensures
