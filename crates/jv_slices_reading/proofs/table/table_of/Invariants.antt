use Rattle.std.proofs.Common.{List, drop}
use Rattle.std.specs.Prelude.{All}
use Rattle.jv_model.specs.declared.slice.Rec.{Rec}
use Rattle.jv_model.specs.blocks.Slices.{IsPlan, IsAsStored}
use Rattle.jv_slices_reading.specs.Overlaps.{overlaps_at}
use Rattle.jv_slices_reading.proofs.OverlapLaws.{IsLaid}
use Rattle.jv_slices_reading.proofs.table.table_of.Given as goal

abbrev pub invariant-loop-piece : goal.invariant-loop-piece
invariant-loop-piece l = (list : List Rec) → IsPlan list l.from l.to l.piece-items → All (IsAsStored list) l.piece-items
    → IsLaid list l.from l.to l.block (drop l.piece-index l.piece-items) (overlaps_at l.table)
