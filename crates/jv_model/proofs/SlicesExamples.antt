-- A list of records that is written out: ten bytes at 0, two at 3, a hole of two at 8, and one byte at 100,000.
use Rattle.std.proofs.Common.{◌≡◌, List, [], ◌∷◌, refl}
use Rattle.std.specs.Prelude.{⊤}
use Rattle.jv_model.specs.declared.slice.Rec.{Rec}
use Rattle.jv_model.specs.declared.slice.Spot.TheVariants.{Zero, Slice}
use Rattle.jv_model.specs.declared.slice.Piece.{Piece}
use Rattle.jv_model.specs.declared.slice.BlockId.{BlockId}
use Rattle.jv_model.specs.promise.blocks.Slices.{stored_place}
use Rattle.jv_model.specs.blocks.Slices.{needed_blocks, block_lengths}

abbrev pub written : List Rec
written = record { pos = 0; id = 1; size = 10; off = 0; len = 10 } ∷ record { pos = 3; id = 2; size = 2; off = 0; len = 2 }
    ∷ record { pos = 8; id = 0; size = 0; off = 0; len = 2 } ∷ record { pos = 100000; id = 3; size = 1; off = 0; len = 1 } ∷ []

-- on an `unfolding` line: computes the places and the blocks of what is written out
unfoldable pub slices_on_literals : ⊤
unfolding stored_place needed_blocks
slices_on_literals = tt

pub places : (stored_place written 0 ≡ Slice 1 10 0) × (stored_place written 2 ≡ Slice 1 10 2) × (stored_place written 4 ≡ Slice 2 2 1) × (stored_place written 5 ≡ Slice 1 10 5) × (stored_place written 8 ≡ Zero) × (stored_place written 10 ≡ Zero) × (stored_place written 100000 ≡ Slice 3 1 0)
unfolding slices_on_literals
places = (refl, refl, refl, refl, refl, refl, refl)

abbrev pub seen : List Piece
seen = record { from = 0; len = 3; spot = Slice 1 10 0 } ∷ record { from = 3; len = 2; spot = Slice 2 2 0 }
    ∷ record { from = 5; len = 3; spot = Slice 1 10 5 } ∷ record { from = 8; len = 2; spot = Zero } ∷ []

abbrev pub first : BlockId
first = record { id = 1; index = 0; size = 6 }

abbrev pub second : BlockId
second = record { id = 2; index = 0; size = 2 }

abbrev pub third : BlockId
third = record { id = 1; index = 1; size = 4 }

-- the first block of the slice 1 is needed before the slice 2 and behind it, and is listed once
pub blocks : (needed_blocks 6 seen ≡ first ∷ second ∷ third ∷ []) × (block_lengths 13 4 ≡ 4 ∷ 4 ∷ 4 ∷ 1 ∷ []) × (block_lengths 0 4 ≡ [])
unfolding slices_on_literals
blocks = (refl, refl, refl)
