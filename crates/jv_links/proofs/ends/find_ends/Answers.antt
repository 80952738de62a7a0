use Rattle.std.proofs.Common.{sym, ◌∙◌}
use Rattle.std.proofs.lemmas.Result.{err_from_is_err_and}
use Rattle.jv_links.proofs.entries.EndsLaws.{ends-no_from, ends-no_to, ends-not_permitted, ends-no_source, ends-found}
use Rattle.jv_links.proofs.ends.find_ends.Goals as goal

pub returns-in_err-from : goal.returns-in_err-from
returns-in_err-from g c =
    let p = err_from_is_err_and c.from_residual-in_err-from.result c.from_residual-in_err-from.ensures.1 in
    rw (p.1, p.2)
    (ends-no_from (g.K.Keeper.seen c.args.k.now) (g.K.Keeper.seen c.in_session.new.k) c.args.sid c.args.path.now
    c.args.to.now c.args.how c.in_ok-in_session.ensures
    (g.K.Keeper.seen c.walk_to_entry.new.k) c.in_err-from.field-0.0 c.in_err-from.ensures)

pub returns-in_err-to : goal.returns-in_err-to
returns-in_err-to g c =
    let p = err_from_is_err_and c.from_residual-in_err-to.result c.from_residual-in_err-to.ensures.1 in
    rw (p.1, p.2)
    (ends-no_to (g.K.Keeper.seen c.args.k.now) (g.K.Keeper.seen c.in_session.new.k) c.args.sid c.args.path.now
    c.args.to.now c.args.how c.in_ok-in_session.ensures
    (g.K.Keeper.seen c.walk_to_entry.new.k) c.in_ok-from.from c.in_ok-from.ensures
    (g.K.Keeper.seen c.walk_to_entry-2.new.k) c.in_err-to.field-0.0 c.in_err-to.ensures)

pub returns-then-not-may_move : goal.returns-then-not-may_move
returns-then-not-may_move g c =
    ends-not_permitted (g.K.Keeper.seen c.args.k.now) (g.K.Keeper.seen c.in_session.new.k) c.args.sid c.args.path.now
    c.args.to.now c.args.how c.in_ok-in_session.ensures
    (g.K.Keeper.seen c.walk_to_entry.new.k) c.in_ok-from.from c.in_ok-from.ensures
    (g.K.Keeper.seen c.walk_to_entry-2.new.k) c.in_ok-to.to c.in_ok-to.ensures
    (sym c.may_move.ensures ∙ c.if-not-may_move.true)

pub returns-in_err-source : goal.returns-in_err-source
returns-in_err-source g c =
    let p = err_from_is_err_and c.from_residual-in_err-source.result c.from_residual-in_err-source.ensures.1 in
    rw (p.1, p.2)
    (ends-no_source (g.K.Keeper.seen c.args.k.now) (g.K.Keeper.seen c.in_session.new.k) c.args.sid c.args.path.now
    c.args.to.now c.args.how c.in_ok-in_session.ensures
    (g.K.Keeper.seen c.walk_to_entry.new.k) c.in_ok-from.from c.in_ok-from.ensures
    (g.K.Keeper.seen c.walk_to_entry-2.new.k) c.in_ok-to.to c.in_ok-to.ensures
    (sym c.may_move.ensures ∙ c.if-not-may_move.false)
    (g.K.Keeper.seen c.entered.new.k) c.in_err-source.field-0.0 c.in_err-source.ensures.comes)

pub returns : goal.returns
returns g c =
    ends-found (g.K.Keeper.seen c.args.k.now) (g.K.Keeper.seen c.in_session.new.k) c.args.sid c.args.path.now
    c.args.to.now c.args.how c.in_ok-in_session.ensures
    (g.K.Keeper.seen c.walk_to_entry.new.k) c.in_ok-from.from c.in_ok-from.ensures
    (g.K.Keeper.seen c.walk_to_entry-2.new.k) c.in_ok-to.to c.in_ok-to.ensures
    (sym c.may_move.ensures ∙ c.if-not-may_move.false)
    (g.K.Keeper.seen c.entered.new.k) c.in_ok-source.source c.in_ok-source.ensures.comes c.in_ok-source.ensures.low
