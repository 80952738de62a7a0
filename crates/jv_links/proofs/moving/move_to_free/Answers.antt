use Rattle.std.proofs.Common.{◌≤◌, arith}
use Rattle.std.proofs.lemmas.Result.{err_from_is_err_and}
use Rattle.jv_links.proofs.moves.FreeMoveLaws.{free-not_moved, free-made}
use Rattle.jv_links.proofs.moving.move_to_free.Goals as goal
use Rattle.jv_model.specs.declared.limits.TheConstants.{MAX_LINKS}

pub returns-in_err-move_entry : goal.returns-in_err-move_entry
returns-in_err-move_entry g c caller how asks =
    let p = err_from_is_err_and c.from_residual-in_err-move_entry.result c.from_residual-in_err-move_entry.ensures.1 in
    let climbed = rw c.if-branch.false at c.in_ok-is_inside.ensures in
    let first = c.if-prove.false in
    let second = c.if-prove-2.false in
    let low_from : c.args.ends.now.from.dir.node.nlink ≤ MAX_LINKS = omega (arith, first) in
    let low_source : c.args.ends.now.source.node.nlink ≤ MAX_LINKS = omega (arith, second) in
    rw (p.1, p.2)
    (free-not_moved caller how c.args.ends.now (g.K.Keeper.seen c.args.k.now) c.requires low_from low_source
    (g.K.Keeper.seen c.is_inside.new.k) climbed
    c.args.who.now.now asks.now c.new-draft.result c.new-draft.ensures c.move_entry.new.draft
    (g.K.Keeper.seen c.move_entry.new.k)
    c.in_err-move_entry.field-0.0 c.in_err-move_entry.ensures)

pub returns-in-Ok : goal.returns-in-Ok
returns-in-Ok g c caller how asks =
    let climbed = rw c.if-branch.false at c.in_ok-is_inside.ensures in
    let first = c.if-prove.false in
    let second = c.if-prove-2.false in
    let low_from : c.args.ends.now.from.dir.node.nlink ≤ MAX_LINKS = omega (arith, first) in
    let low_source : c.args.ends.now.source.node.nlink ≤ MAX_LINKS = omega (arith, second) in
    free-made caller how c.args.ends.now (g.K.Keeper.seen c.args.k.now) c.requires low_from low_source
    (g.K.Keeper.seen c.is_inside.new.k) climbed
    c.args.who.now.now asks.now c.new-draft.result c.new-draft.ensures c.move_entry.new.draft
    (g.K.Keeper.seen c.move_entry.new.k)
    c.in_ok-move_entry.ensures (g.K.Keeper.seen c.commit.new.k) c.in-Ok.ensures
