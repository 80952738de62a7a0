use Rattle.std.proofs.Common.{Ok}
use Rattle.std.proofs.lemmas.Result.{err_from_is_err_and}
use Rattle.jv_model.specs.promise.tree.Renaming as model
use Rattle.jv_links.proofs.entries.ClimbingLaws.{outside-leaf, inside-no_counters, inside-near}
use Rattle.jv_links.proofs.climbing.is_inside.Goals as goal

pub returns-then-source-ne2 : goal.returns-then-source-ne2
returns-then-source-ne2 g c =
    outside-leaf (g.K.Keeper.seen c.args.k.now) c.args.dir.now.inode c.args.source.now.inode c.args.source.now
    c.requires.source.row c.if-source-ne2.true

pub returns-in_err-counters : goal.returns-in_err-counters
returns-in_err-counters g c =
    let p = err_from_is_err_and c.from_residual.result c.from_residual.ensures.1 in
    rw (p.1, p.2)
    (inside-no_counters (g.K.Keeper.seen c.args.k.now) (g.K.Keeper.seen c.needed_counters-2.new.k) c.new.result
    c.new.ensures
    (λ t. Ok (model.is_inside t c.args.dir.now.inode c.args.source.now.inode)) c.in_err-counters.field-0.0
    c.in_err-counters.ensures)

pub climb-requires-clause-near : goal.climb-requires-clause-near
climb-requires-clause-near g c = rw c.in_ok-start.ensures
    (inside-near (g.K.Keeper.seen c.args.k.now) (g.K.Keeper.seen c.needed_counters-2.new.k) c.new.result c.new.ensures
    c.args.dir.now c.requires.dir
    c.in_ok-counters.counters c.in_ok-counters.ensures c.saturating_add-steps.result c.saturating_add-steps.ensures)
