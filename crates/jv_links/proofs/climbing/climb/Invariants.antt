use Rattle.std.proofs.Common.{◌-◌, Ok}
use Rattle.jv_model.specs.promise.tree.Renaming as model
use Rattle.jv_rows.proofs.transactions.TransactionLaws.{Past}
use Rattle.jv_links.specs.Climbs.{StandsNear}
use Rattle.jv_links.specs.Moves.{StandsDirectory}
use Rattle.jv_links.proofs.climbing.climb.Given as goal

abbrev pub invariant-loop-step : goal.invariant-loop-step
invariant-loop-step g l = record {
  left : Past (g.K.Keeper.seen l.fn.k) (g.K.Keeper.seen l.k) (λ t. Ok (model.is_inside t l.fn.start.inode l.fn.source))
      (λ t. Ok (model.is_inside t l.place.inode l.fn.source));
  stands : StandsDirectory (g.K.Keeper.seen l.k) l.place;
  near : StandsNear (g.K.Keeper.seen l.fn.k) l.place.inode (l.steps - l._step);
}
