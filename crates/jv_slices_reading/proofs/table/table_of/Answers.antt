use Rattle.std.proofs.Common.{◌≡◌, ℕ, ◌+◌, ◌-◌, List, drop, get_or, sym, subst, arith}
use Rattle.std.specs.Prelude.{All}
use Rattle.std.proofs.lemmas.List.{drop_all, drop_more}
use Rattle.jv_model.specs.declared.slice.Piece.{Piece}
use Rattle.jv_model.specs.declared.slice.Spot.TheVariants.{Zero}
use Rattle.jv_model.specs.blocks.Slices.{IsPlan, IsAsStored}
use Rattle.jv_model.specs.promise.blocks.Slices.{stored_place}
use Rattle.jv_slices_reading.specs.Overlaps.{HasOverlaps, overlaps_at}
use Rattle.jv_slices_reading.proofs.OverlapLaws.{IsLaid, has_none, laid_more, laid_end}
use Rattle.jv_slices_reading.proofs.table.table_of.Goals as goal

pub loop-piece-init : goal.loop-piece-init
loop-piece-init c = λ list plan stored.
    let from = c.args.from in
    let none : 0 ≡ from - from = omega arith in
    record {
      at = from;
      low = omega arith;
      plan = plan;
      has = subst (λ (n : ℕ). HasOverlaps c.args.block (λ n. stored_place list (from + n)) (c.args.to - from) n (overlaps_at c.in_ok-table.table)) none
          (has_none c.args.block (λ n. stored_place list (from + n)) (c.args.to - from) (overlaps_at c.in_ok-table.table)
          c.in_ok-table.ensures.none);
    }

pub loop-piece-preserved : goal.loop-piece-preserved
loop-piece-preserved c = λ list plan stored.
    let items = c.as_slice-piece-items.result.now in
    let i = c.loop-piece.piece-index in
    let d : Piece = record { from = 0; len = 0; spot = Zero } in
    let t = overlaps_at c.loop-piece.table in
    let u = overlaps_at c.add_piece.new.table in
    let laid = subst (λ (ps : List Piece). IsLaid list c.args.from c.args.to c.args.block ps t) (drop_more items i d c.loop-piece-test.true) (c.loop-piece.invariant list plan stored) in
    laid_more list c.args.from c.args.to c.args.block (get_or items i d) (drop (i + 1) items) t u laid (stored i d c.loop-piece-test.true) c.in_ok-add_piece.ensures

pub returns : goal.returns
returns c = λ list plan stored.
    let items = c.as_slice-piece-items.result.now in
    let same = c.as_slice-piece-items.ensures in
    let t = overlaps_at c.loop-piece.table in
    let plan' = subst (λ (ps : List Piece). IsPlan list c.args.from c.args.to ps) (sym same) plan in
    let stored' = subst (λ (ps : List Piece). All (IsAsStored list) ps) (sym same) stored in
    let laid = subst (λ (ps : List Piece). IsLaid list c.args.from c.args.to c.args.block ps t) (drop_all c.loop-piece.piece-index items c.loop-piece-test.false) (c.loop-piece.invariant list plan' stored') in
    laid_end list c.args.from c.args.to c.args.block t laid
