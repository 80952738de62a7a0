use Rattle.std.proofs.Common.{◌+◌, ◌++◌, [], ◌∷◌, List, get_or, take, refl, sym, ap, ◌∙◌, append_assoc, arith}
use Rattle.jv_model.specs.declared.slice.Piece.{Piece}
use Rattle.jv_model.specs.declared.slice.Rec.{Rec}
use Rattle.jv_model.specs.declared.slice.Spot.TheVariants.{Zero}
use Rattle.jv_volume_bytes.specs.Fills.{records_of_plan}
use Rattle.jv_data.proofs.lists.ShownLaws.{pieces-next, plan-next, pieces-take}
use Rattle.jv_data.proofs.copying.push_pieces.Goals as goal

abbrev none : Piece
none = record { from = 0; len = 0; spot = Zero }

pub overflow_add-at : goal.overflow_add-at
overflow_add-at c =
    let piece = get_or c.args.pieces.now c.loop-piece.piece-index none in
    let next = pieces-next c.args.pieces.now c.loop-piece.piece-index piece none c.loop-piece-test.true refl in
    let all = pieces-take c.args.pieces.now (c.loop-piece.piece-index + 1) in
    let reached = c.loop-piece.invariant.reached in
    let small = c.requires in
    omega (arith, next, all, reached, small)

pub loop-piece-preserved : goal.loop-piece-preserved
loop-piece-preserved c =
    let piece = get_or c.args.pieces.now c.loop-piece.piece-index none in
    let next = pieces-next c.args.pieces.now c.loop-piece.piece-index piece none c.loop-piece-test.true refl in
    let reached = c.loop-piece.invariant.reached in
    let plan = plan-next c.args.pieces.now c.loop-piece.piece-index piece none c.args.pos c.loop-piece.at c.loop-piece-test.true refl reached in
    record {
      reached = omega (arith, next, reached);
      pushed =
          c.in_ok-push.ensures.ok
          ∙ (λ i. c.loop-piece.invariant.pushed i ++ c.record_at.ensures i ∷ [])
          ∙ append_assoc c.args.shown.now (records_of_plan c.args.pos (take c.loop-piece.piece-index c.args.pieces.now)) (_ ∷ [])
          ∙ ap (λ (l : List Rec). c.args.shown.now ++ l) (sym plan);
    }
