-- Records that show places over a range, and those that a copy of a plan's pieces has.
use Rattle.std.specs.Prelude.{◌≡◌, ℕ, ◌+◌, ◌<◌, List, [], ◌∷◌}
use Rattle.jv_model.specs.declared.slice.Rec.{Rec}
use Rattle.jv_model.specs.declared.slice.Spot.{Spot}
use Rattle.jv_model.specs.declared.slice.Spot.TheVariants.{Zero, Slice}
use Rattle.jv_model.specs.declared.slice.Piece.{Piece}
use Rattle.jv_model.specs.promise.blocks.Slices.{IsRecord, shown}

-- Records that follow one another from a position of a window to another, and show these places
-- there.
abbrev pub Fills : (ℕ → Spot) → ℕ → ℕ → List Rec → Type 0
Fills places from to [] = from ≡ to
Fills places from to (r ∷ rs) = (r.pos ≡ from) × IsRecord r
    × ((k : ℕ) → k < r.len → shown r k ≡ places (from + k)) × Fills places (from + r.len) to rs

-- the record at a position that shows a number of places from one on
abbrev pub record_at_spot : ℕ → ℕ → Spot → Rec
record_at_spot pos len Zero = record { pos = pos; id = 0; size = 0; off = 0; len = len }
record_at_spot pos len (Slice id size at) =
    record { pos = pos; id = id; size = size; off = at; len = len }

-- the records, from a position on, that show what the pieces of a plan show
abbrev pub records_of_plan : ℕ → List Piece → List Rec
records_of_plan pos [] = []
records_of_plan pos (piece ∷ pieces) =
    record_at_spot pos piece.len piece.spot ∷ records_of_plan (pos + piece.len) pieces
