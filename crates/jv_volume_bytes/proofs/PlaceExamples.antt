-- A file that is written out: five bytes of slice 7 are committed at 3, and two of slice 8 over them at 4. It is cut, grows, and is
-- copied from.
use Rattle.std.proofs.Common.{◌≡◌, ◌+◌, List, [], ◌∷◌, None, Some, refl}
use Rattle.std.specs.Prelude.{⊤, ◌==◌, ◌&&◌, if◌then◌else◌}
use Rattle.jv_model.specs.declared.limits.TheConstants.{WINDOW}
use Rattle.jv_model.specs.declared.slice.Rec.{Rec}
use Rattle.jv_model.specs.declared.slice.Spot.TheVariants.{Zero, Slice}
use Rattle.jv_model.specs.declared.slice.Piece.{Piece}
use Rattle.jv_model.specs.promise.blocks.Slices.{stored_place, shown}
use Rattle.jv_volume.specs.promise.Slices.{place_in}
use Rattle.jv_volume_bytes.specs.Places.{Lists, with_list, put_over, zero_record, cut_list}
use Rattle.jv_volume_bytes.specs.Fills.{records_of_plan}
use Rattle.jv_volume_bytes.specs.promise.Bytes.{spot_byte}
use Rattle.jv_volume_bytes.specs.promise.Blocks.{Blocks, known_by}

-- on an `unfolding` line: computes the places of what is written out
unfoldable pub places_on_literals : ⊤
unfolding stored_place place_in
places_on_literals = tt

abbrev pub first : Rec
first = record { pos = 3; id = 7; size = 5; off = 0; len = 5 }

abbrev pub second : Rec
second = record { pos = 4; id = 8; size = 2; off = 0; len = 2 }

abbrev pub empty : Lists
empty w = []

-- both commits
abbrev pub written : Lists
written = with_list 0 (first ∷ second ∷ []) empty

pub commits : (place_in written 2 ≡ Zero) × (place_in written 3 ≡ Slice 7 5 0) × (place_in written 4 ≡ Slice 8 2 0) × (place_in written 5 ≡ Slice 8 2 1)
    × (place_in written 6 ≡ Slice 7 5 3) × (place_in written 8 ≡ Zero) × (place_in written (WINDOW + 4) ≡ Zero)
unfolding places_on_literals
commits = (refl, refl, refl, refl, refl, refl, refl)

-- each is its places put over those before it
pub over : (put_over (put_over (place_in empty) 3 5 (shown first)) 4 2 (shown second) 5 ≡ Slice 8 2 1)
    × (put_over (put_over (place_in empty) 3 5 (shown first)) 4 2 (shown second) 6 ≡ Slice 7 5 3)
unfolding places_on_literals
over = (refl, refl)

-- cut to five bytes, where it shows one byte of each slice, and no more when it grows again
abbrev pub cut : Lists
cut w = cut_list 5 w (written w)

pub cuts : (cut 0 ≡ first ∷ second ∷ zero_record 5 ∷ []) × (cut 1 ≡ []) × (place_in cut 3 ≡ Slice 7 5 0) × (place_in cut 4 ≡ Slice 8 2 0)
    × (place_in cut 5 ≡ Zero) × (place_in cut 6 ≡ Zero)
unfolding places_on_literals
cuts = (refl, refl, refl, refl, refl, refl)

-- to nothing, where no list is left
pub cut_whole : cut_list 0 0 (written 0) ≡ []
cut_whole = refl

-- what the file shows from 3 to 7, put to the next window's position 10
abbrev pub plan : List Piece
plan = record { from = 3; len = 1; spot = Slice 7 5 0 } ∷ record { from = 4; len = 2; spot = Slice 8 2 0 }
    ∷ record { from = 6; len = 1; spot = Slice 7 5 3 } ∷ record { from = 7; len = 2; spot = Zero } ∷ []

abbrev pub copied : Lists
copied = with_list 1 (records_of_plan 10 plan) written

pub copies : (place_in copied (WINDOW + 9) ≡ Zero) × (place_in copied (WINDOW + 10) ≡ place_in written 3) × (place_in copied (WINDOW + 12) ≡ place_in written 5)
    × (place_in copied (WINDOW + 13) ≡ place_in written 6) × (place_in copied (WINDOW + 14) ≡ Zero) × (place_in copied 3 ≡ Slice 7 5 0)
unfolding places_on_literals
copies = (refl, refl, refl, refl, refl, refl)

-- the blocks of slice 7, of four bytes at most
abbrev pub stored : Blocks
stored b = (if b.id == 7 && b.index == 0 && b.size == 4 then Some (70 ∷ 71 ∷ 72 ∷ 73 ∷ [])
    else if b.id == 7 && b.index == 1 && b.size == 1 then Some (74 ∷ []) else None)

pub bytes : (spot_byte (known_by 4 stored) (place_in written 3) ≡ 70) × (spot_byte (known_by 4 stored) (place_in written 6) ≡ 73)
    × (spot_byte (known_by 4 stored) (place_in written 7) ≡ 74) × (spot_byte (known_by 4 stored) (place_in written 9) ≡ 0)
unfolding places_on_literals
bytes = (refl, refl, refl, refl)
