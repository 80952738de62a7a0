use Rattle.std.proofs.Common.{◌≤◌, sym, ◌∙◌, arith}
use Rattle.std.proofs.lemmas.Result.{err_from_is_err_and}
use Rattle.jv_links.proofs.moves.ReplaceLaws.{replace-refused, replace-not_cleared, replace-not_moved, replace-not_committed, replace-made}
use Rattle.jv_links.proofs.replacing.replace.Goals as goal
use Rattle.jv_model.specs.declared.limits.TheConstants.{MAX_LINKS}

pub returns-in_err-may_replace : goal.returns-in_err-may_replace
returns-in_err-may_replace g c caller how is_for =
    let p = err_from_is_err_and c.from_residual.result c.from_residual.ensures.1 in
    rw (p.1, p.2)
    (replace-refused caller how c.args.ends.now c.args.other.now (g.K.Keeper.seen c.args.k.now) c.requires.ends
    c.requires.other c.requires.apart
    (g.K.Keeper.seen c.may_replace.new.k) c.in_err-may_replace.field-0.0 c.in_err-may_replace.ensures)

pub returns-in_err-removed : goal.returns-in_err-removed
returns-in_err-removed g c caller how is_for =
    let p = err_from_is_err_and c.from_residual-in_err-removed.result c.from_residual-in_err-removed.ensures.1 in
    let first = c.if-prove.false in
    let second = c.if-prove-2.false in
    let low_from : c.args.ends.now.from.dir.node.nlink ≤ MAX_LINKS = omega (arith, first) in
    let low_source : c.args.ends.now.source.node.nlink ≤ MAX_LINKS = omega (arith, second) in
    rw (p.1, p.2)
    (replace-not_cleared caller how c.args.ends.now c.args.other.now (g.K.Keeper.seen c.args.k.now) c.requires.ends
    c.requires.other c.requires.apart
    (g.K.Keeper.seen c.may_replace.new.k) c.in_ok-may_replace.ensures low_from low_source c.seconds.result
    (c.seconds.ensures.seconds ∙ sym is_for.now) c.seconds.ensures.limit
    c.new-draft.result c.new-draft.ensures c.remove_target.new.draft (g.K.Keeper.seen c.remove_target.new.k)
    c.in_err-removed.field-0.0 (c.in_err-removed.ensures.does caller is_for))

pub returns-in_err-move_entry : goal.returns-in_err-move_entry
returns-in_err-move_entry g c caller how is_for =
    let p = err_from_is_err_and c.from_residual-in_err-move_entry.result c.from_residual-in_err-move_entry.ensures.1 in
    let first = c.if-prove.false in
    let second = c.if-prove-2.false in
    let low_from : c.args.ends.now.from.dir.node.nlink ≤ MAX_LINKS = omega (arith, first) in
    let low_source : c.args.ends.now.source.node.nlink ≤ MAX_LINKS = omega (arith, second) in
    rw (p.1, p.2)
    (replace-not_moved caller how c.args.ends.now c.args.other.now (g.K.Keeper.seen c.args.k.now) c.requires.ends
    c.requires.other c.requires.apart
    (g.K.Keeper.seen c.may_replace.new.k) c.in_ok-may_replace.ensures low_from low_source c.seconds.result
    (c.seconds.ensures.seconds ∙ sym is_for.now) c.seconds.ensures.limit
    c.new-draft.result c.new-draft.ensures c.remove_target.new.draft (g.K.Keeper.seen c.remove_target.new.k)
    c.in_ok-removed.removed (c.in_ok-removed.ensures.does caller is_for) c.args.who.now.now is_for.now
    c.move_entry.new.draft (g.K.Keeper.seen c.move_entry.new.k)
    c.in_err-move_entry.field-0.0 c.in_err-move_entry.ensures)

pub returns-in-Ok : goal.returns-in-Ok
returns-in-Ok g c caller how is_for =
    let first = c.if-prove.false in
    let second = c.if-prove-2.false in
    let low_from : c.args.ends.now.from.dir.node.nlink ≤ MAX_LINKS = omega (arith, first) in
    let low_source : c.args.ends.now.source.node.nlink ≤ MAX_LINKS = omega (arith, second) in
    replace-made caller how c.args.ends.now c.args.other.now (g.K.Keeper.seen c.args.k.now) c.requires.ends
    c.requires.other c.requires.apart
    (g.K.Keeper.seen c.may_replace.new.k) c.in_ok-may_replace.ensures low_from low_source c.seconds.result
    (c.seconds.ensures.seconds ∙ sym is_for.now) c.seconds.ensures.limit
    c.new-draft.result c.new-draft.ensures c.remove_target.new.draft (g.K.Keeper.seen c.remove_target.new.k)
    c.in_ok-removed.removed (c.in_ok-removed.ensures.does caller is_for) c.args.who.now.now is_for.now
    c.move_entry.new.draft (g.K.Keeper.seen c.move_entry.new.k)
    c.in_ok-move_entry.ensures (c.in_ok-removed.ensures.says caller is_for) (g.K.Keeper.seen c.commit.new.k)
    c.in-Ok.ensures

pub returns : goal.returns
returns g c caller how is_for =
    let first = c.if-prove.false in
    let second = c.if-prove-2.false in
    let low_from : c.args.ends.now.from.dir.node.nlink ≤ MAX_LINKS = omega (arith, first) in
    let low_source : c.args.ends.now.source.node.nlink ≤ MAX_LINKS = omega (arith, second) in
    rw c.from.ensures
    (replace-not_committed caller how c.args.ends.now c.args.other.now (g.K.Keeper.seen c.args.k.now) c.requires.ends
    c.requires.other c.requires.apart
    (g.K.Keeper.seen c.may_replace.new.k) c.in_ok-may_replace.ensures low_from low_source c.seconds.result
    (c.seconds.ensures.seconds ∙ sym is_for.now) c.seconds.ensures.limit
    c.new-draft.result c.new-draft.ensures c.remove_target.new.draft (g.K.Keeper.seen c.remove_target.new.k)
    c.in_ok-removed.removed (c.in_ok-removed.ensures.does caller is_for) c.args.who.now.now is_for.now
    c.move_entry.new.draft (g.K.Keeper.seen c.move_entry.new.k)
    c.in_ok-move_entry.ensures (g.K.Keeper.seen c.commit.new.k) c.in-Err.down c.in-Err.ensures)
