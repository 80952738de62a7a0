-- Each call gains the bytes from where the last one ended.
use Rattle.std.proofs.Common.{◌∙◌, arith}
use Rattle.jv_outside.proofs.StreamLaws.{Gains-more}
use Rattle.jv_outside.proofs.sink.write_whole.Goals as goal

pub pieces-preserved : goal.pieces-preserved
pieces-preserved g c = record {
  within = omega (arith, c.in_ok-at.ensures.within);
  gains = Gains-more _ _ _ _ _ _ c.pieces.invariant.gains c.in_ok-at.ensures.gains;
  calm = c.in_ok-at.ensures.calm ∙ c.pieces.invariant.calm;
}
