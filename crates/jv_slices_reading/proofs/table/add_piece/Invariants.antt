use Rattle.std.proofs.Common.{◌-◌, ◌+◌, ◌≤◌, ℕ}
use Rattle.jv_model.specs.declared.slice.Spot.{Spot}
use Rattle.jv_slices_reading.specs.Overlaps.{HasOverlaps, ShowsPiece, overlaps_at}
use Rattle.jv_slices_reading.proofs.table.add_piece.Given as goal

abbrev pub invariant-loop-done : goal.invariant-loop-done
invariant-loop-done l = record {
  within : l.done ≤ l.piece.len;
  has : (places : ℕ → Spot) (len : ℕ) → ShowsPiece places l.start l.piece → l.start + l.piece.len ≤ len
      → HasOverlaps l.block places len l.start (overlaps_at l.initial.table)
      → HasOverlaps l.block places len (l.start + l.done) (overlaps_at l.table);
}

abbrev pub decreases-loop-done : goal.decreases-loop-done
decreases-loop-done l = l.piece.len - l.done
