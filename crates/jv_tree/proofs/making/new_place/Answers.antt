use Rattle.std.proofs.Common.{sym, ◌∙◌}
use Rattle.std.proofs.lemmas.Result.{err_from_is_err_and}
use Rattle.jv_tree.proofs.NewPlaceLaws.{new_place-stops, new_place-unread, new_place-taken, new_place-free}
use Rattle.jv_tree.proofs.making.new_place.Goals as goal

pub returns-in_err-place : goal.returns-in_err-place
returns-in_err-place g c =
    let p = err_from_is_err_and c.from_residual.result c.from_residual.ensures.1 in
    rw (p.1, p.2) (new_place-stops (g.K.Keeper.seen c.args.k.now) (g.K.Keeper.seen c.walk_to_entry.new.k) c.args.path.now c.in_err-place.field-0.0 c.in_err-place.ensures)

pub returns-in_err-read_edge : goal.returns-in_err-read_edge
returns-in_err-read_edge g c =
    let place = c.in_ok-place.place in
    let may = sym c.may_be_new.ensures ∙ c.if-not-may_be_new.false in
    let p = err_from_is_err_and c.from_residual-in_err-read_edge.result c.from_residual-in_err-read_edge.ensures.1 in
    rw (p.1, p.2)
    (new_place-unread (g.K.Keeper.seen c.args.k.now) (g.K.Keeper.seen c.walk_to_entry.new.k) c.args.path.now place c.in_ok-place.ensures may
    (g.K.Keeper.seen c.read_edge.new.k) c.in_err-read_edge.field-0.0 c.in_err-read_edge.ensures)

pub returns-in-Some : goal.returns-in-Some
returns-in-Some g c =
    let place = c.in_ok-place.place in
    let may = sym c.may_be_new.ensures ∙ c.if-not-may_be_new.false in
    new_place-taken (g.K.Keeper.seen c.args.k.now) (g.K.Keeper.seen c.walk_to_entry.new.k) c.args.path.now place c.in_ok-place.ensures may
    (g.K.Keeper.seen c.read_edge.new.k) c.in_ok-read_edge.field-0 c.in_ok-read_edge.ensures c.in-Some.field-0 c.in-Some.is

pub returns-in-None : goal.returns-in-None
returns-in-None g c =
    let place = c.in_ok-place.place in
    let may = sym c.may_be_new.ensures ∙ c.if-not-may_be_new.false in
    new_place-free (g.K.Keeper.seen c.args.k.now) (g.K.Keeper.seen c.walk_to_entry.new.k) c.args.path.now place c.in_ok-place.ensures may
    (g.K.Keeper.seen c.read_edge.new.k) c.in_ok-read_edge.field-0 c.in_ok-read_edge.ensures c.in-None.is
