use Rattle.std.proofs.lemmas.Result.{err_from_is_err_and}
use Rattle.jv_tree.specs.Entering.{place_of}
use Rattle.jv_links.proofs.moves.MoveEntryLaws.{move-not_taken, move-not_put, move-made}
use Rattle.jv_links.proofs.moving.move_entry.Goals as goal

pub returns-in_err-take_entry : goal.returns-in_err-take_entry
returns-in_err-take_entry g c =
    let p = err_from_is_err_and c.from_residual.result c.from_residual.ensures.1 in
    rw (p.1, p.2)
    (move-not_taken c.args.now (place_of c.args.from.now) c.args.source (place_of c.args.to.now) c.args.draft.now
    c.take_entry.new.draft
    (g.K.Keeper.seen c.args.k.now) (g.K.Keeper.seen c.take_entry.new.k) c.in_err-take_entry.field-0.0
    c.in_err-take_entry.ensures)

pub returns-in_err-put_entry : goal.returns-in_err-put_entry
returns-in_err-put_entry g c =
    let p = err_from_is_err_and c.from_residual-in_err-put_entry.result c.from_residual-in_err-put_entry.ensures.1 in
    rw (p.1, p.2)
    (move-not_put c.args.now (place_of c.args.from.now) c.args.source (place_of c.args.to.now) c.args.draft.now
    c.take_entry.new.draft
    (g.K.Keeper.seen c.args.k.now) (g.K.Keeper.seen c.take_entry.new.k) tt c.in_ok-take_entry.ensures
    c.put_entry.new.draft (g.K.Keeper.seen c.put_entry.new.k) c.in_err-put_entry.field-0.0 c.in_err-put_entry.ensures)

pub returns : goal.returns
returns g c =
    move-made c.args.now (place_of c.args.from.now) c.args.source (place_of c.args.to.now) c.args.draft.now
    c.take_entry.new.draft
    (g.K.Keeper.seen c.args.k.now) (g.K.Keeper.seen c.take_entry.new.k) tt c.in_ok-take_entry.ensures
    tt c.put_entry.new.draft (g.K.Keeper.seen c.put_entry.new.k) c.in_ok-put_entry.ensures
    c.move_under.new.draft (g.K.Keeper.seen c.move_under.new.k) c.move_under.result c.move_under.ensures
