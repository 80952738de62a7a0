use Rattle.std.proofs.Common.{◌≤◌, arith}
use Rattle.std.proofs.lemmas.Result.{err_from_is_err_and}
use Rattle.jv_links.proofs.moves.ExchangeLaws.{exchange-not_made, exchange-made}
use Rattle.jv_links.proofs.exchanging.exchange.Goals as goal
use Rattle.jv_model.specs.declared.limits.TheConstants.{MAX_LINKS}

pub returns-in_err-exchange_entries : goal.returns-in_err-exchange_entries
returns-in_err-exchange_entries g c caller asks =
    let p = err_from_is_err_and c.from_residual-in_err-exchange_entries.result
    c.from_residual-in_err-exchange_entries.ensures.1 in
    let inside = rw c.if-branch.false at c.in_ok-is_inside.ensures in
    let beside = rw c.if-branch-2.false at c.in_ok-is_inside-2.ensures in
    let first = c.if-prove.false in
    let second = c.if-prove-2.false in
    let low_source : c.args.ends.now.source.node.nlink ≤ MAX_LINKS = omega (arith, first) in
    let low_other : c.args.other.now.node.nlink ≤ MAX_LINKS = omega (arith, second) in
    rw (p.1, p.2)
    (exchange-not_made caller c.args.ends.now c.args.other.now (g.K.Keeper.seen c.args.k.now) c.requires.ends
    c.requires.other c.requires.apart
    low_source low_other (g.K.Keeper.seen c.is_inside.new.k) inside (g.K.Keeper.seen c.is_inside-2.new.k) beside
    c.args.who.now.now asks.now c.new-draft.result c.new-draft.ensures c.exchange_entries.new.draft
    (g.K.Keeper.seen c.exchange_entries.new.k)
    c.in_err-exchange_entries.field-0.0 c.in_err-exchange_entries.ensures)

pub returns-in-Ok : goal.returns-in-Ok
returns-in-Ok g c caller asks =
    let inside = rw c.if-branch.false at c.in_ok-is_inside.ensures in
    let beside = rw c.if-branch-2.false at c.in_ok-is_inside-2.ensures in
    let first = c.if-prove.false in
    let second = c.if-prove-2.false in
    let low_source : c.args.ends.now.source.node.nlink ≤ MAX_LINKS = omega (arith, first) in
    let low_other : c.args.other.now.node.nlink ≤ MAX_LINKS = omega (arith, second) in
    exchange-made caller c.args.ends.now c.args.other.now (g.K.Keeper.seen c.args.k.now) c.requires.ends
    c.requires.other c.requires.apart low_source low_other
    (g.K.Keeper.seen c.is_inside.new.k) inside (g.K.Keeper.seen c.is_inside-2.new.k) beside
    c.args.who.now.now asks.now c.new-draft.result c.new-draft.ensures c.exchange_entries.new.draft
    (g.K.Keeper.seen c.exchange_entries.new.k)
    c.in_ok-exchange_entries.ensures (g.K.Keeper.seen c.commit.new.k) c.in-Ok.ensures
