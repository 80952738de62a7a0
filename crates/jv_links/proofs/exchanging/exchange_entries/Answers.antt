use Rattle.std.proofs.lemmas.Result.{err_from_is_err_and}
use Rattle.jv_tree.specs.Entering.{place_of}
use Rattle.jv_links.proofs.moves.ExchangeStepLaws.{exchange-not_from, exchange-not_to, exchange-not_source, exchange-on}
use Rattle.jv_links.proofs.exchanging.exchange_entries.Goals as goal

pub returns-in_err-take_entry : goal.returns-in_err-take_entry
returns-in_err-take_entry g c =
    let p = err_from_is_err_and c.from_residual.result c.from_residual.ensures.1 in
    rw (p.1, p.2)
    (exchange-not_from c.args.now (place_of c.args.from.now) c.args.source (place_of c.args.to.now) c.args.other
    c.args.draft.now
    (g.K.Keeper.seen c.args.k.now) c.take_entry.new.draft (g.K.Keeper.seen c.take_entry.new.k)
    c.in_err-take_entry.field-0.0 c.in_err-take_entry.ensures)

pub returns-in_err-take_entry-2 : goal.returns-in_err-take_entry-2
returns-in_err-take_entry-2 g c =
    let p = err_from_is_err_and c.from_residual-in_err-take_entry-2.result c.from_residual-in_err-take_entry-2.ensures.1
    in
    rw (p.1, p.2)
    (exchange-not_to c.args.now (place_of c.args.from.now) c.args.source (place_of c.args.to.now) c.args.other
    c.args.draft.now
    (g.K.Keeper.seen c.args.k.now) c.take_entry.new.draft (g.K.Keeper.seen c.take_entry.new.k)
    c.in_ok-take_entry.ensures
    c.take_entry-2.new.draft (g.K.Keeper.seen c.take_entry-2.new.k) c.in_err-take_entry-2.field-0.0
    c.in_err-take_entry-2.ensures)

pub returns-in_err-move_in : goal.returns-in_err-move_in
returns-in_err-move_in g c =
    let p = err_from_is_err_and c.from_residual-in_err-move_in.result c.from_residual-in_err-move_in.ensures.1 in
    rw (p.1, p.2)
    (exchange-not_source c.args.now (place_of c.args.from.now) c.args.source (place_of c.args.to.now) c.args.other
    c.args.draft.now
    (g.K.Keeper.seen c.args.k.now) c.take_entry.new.draft (g.K.Keeper.seen c.take_entry.new.k)
    c.in_ok-take_entry.ensures
    c.take_entry-2.new.draft (g.K.Keeper.seen c.take_entry-2.new.k) c.in_ok-take_entry-2.ensures
    c.move_in.new.draft (g.K.Keeper.seen c.move_in.new.k) c.in_err-move_in.field-0.0 c.in_err-move_in.ensures)

pub returns : goal.returns
returns g c =
    exchange-on c.args.now (place_of c.args.from.now) c.args.source (place_of c.args.to.now) c.args.other
    c.args.draft.now
    (g.K.Keeper.seen c.args.k.now) c.take_entry.new.draft (g.K.Keeper.seen c.take_entry.new.k)
    c.in_ok-take_entry.ensures
    c.take_entry-2.new.draft (g.K.Keeper.seen c.take_entry-2.new.k) c.in_ok-take_entry-2.ensures
    c.move_in.new.draft (g.K.Keeper.seen c.move_in.new.k) c.in_ok-move_in.ensures
    c.move_in-2.new.draft (g.K.Keeper.seen c.move_in-2.new.k) c.move_in-2.result c.move_in-2.ensures
