-- Where the bytes of blocks are shown in a part of a window. Positions are counted from the part's
-- first.
use Rattle.std.specs.Prelude.{◌≡◌, ℕ, ◌+◌, ◌/◌, ◌%◌, ◌<◌, ◌≤◌, Bool, true, List, [], ◌∷◌, ◌++◌, if◌then◌else◌, Option, None, Some, All}
use Rattle.std.specs.List.{filter_map, list_any}
use Rattle.std.specs.Global.{Vec}
use Rattle.std.specs.BTreeMap.{is_at}
use Rattle.std.specs.Map.{lookup}
use Rattle.jv_model.specs.declared.slice.BlockId.{BlockId}
use Rattle.jv_model.specs.declared.slice.Piece.{Piece}
use Rattle.jv_model.specs.declared.slice.Spot.{Spot}
use Rattle.jv_model.specs.declared.slice.Spot.TheVariants.{Zero, Slice}
use Rattle.jv_model.specs.promise.blocks.Slices.{block_at}
use Rattle.jv_model.specs.blocks.Slices.{is_same_block, place_after}
use Rattle.jv_model.specs.promise.Ranges.{in_range}
use Rattle.jv_slices_reading.specs.declared.copying.Overlap.{Overlap}
use Rattle.jv_slices_reading.specs.declared.copying.Shown.{Shown}
use Rattle.jv_slices_reading.specs.declared.table.Table.{Table}
use Rattle.jv_slices_reading.specs.declared.table.Table.TheVariants.{Few, Many}
use Rattle.jv_slices.specs.Listing.{ordered_of, ordered_cmp}
use Rattle.jv_slices.specs.declared.blocks.OrderedBlock.{OrderedBlock}

abbrev pub or_none : Option (Vec Overlap) → List Overlap
or_none None = []
or_none (Some overlaps) = overlaps.items

-- the overlap that is shown, if the block is this one
abbrev pub shown_of : BlockId → Shown → Option Overlap
shown_of b shown = (if is_same_block shown.block b then Some shown.overlap else None)

-- the overlaps of a block: by a few, in their order, by many under their keys, by a table, and by a
-- function
abbrev pub overlaps_in : List Shown → BlockId → List Overlap
overlaps_in few b = filter_map (shown_of b) few

abbrev pub Entries : Type 0
Entries = List (OrderedBlock × Vec Overlap)

abbrev pub overlaps_under : Entries → BlockId → List Overlap
overlaps_under many b = or_none (lookup (is_at (ordered_cmp (ordered_of b))) many)

abbrev pub overlaps_at : Table → BlockId → List Overlap
overlaps_at (Few few) b = overlaps_in few.items b
overlaps_at (Many many) b = overlaps_under many.entries b

-- the overlaps are in one list
abbrev pub IsFew : Table → Type 0
IsFew (Few few) = Unit {0}
IsFew (Many many) = ⊥

abbrev pub Overlaps : Type 0
Overlaps = BlockId → List Overlap

-- with one overlap of a block more
abbrev pub with_overlap : Overlaps → BlockId → Overlap → Overlaps
with_overlap overlaps block overlap b =
    (if is_same_block block b then overlaps b ++ overlap ∷ [] else overlaps b)

-- the overlap has this position
abbrev pub reaches : ℕ → Overlap → Bool
reaches position overlap = in_range overlap.start overlap.len position

-- the spot is the byte at a place of a block
abbrev pub IsByteOf : ℕ → BlockId → ℕ → Spot → Type 0
IsByteOf block b place Zero = ⊥
IsByteOf block b place (Slice id size at) =
    (block_at id size block (at / block) ≡ b) × (at % block ≡ place) × (at < size)

-- an overlap of a block with a part of this length whose positions show these places
pub record IsOverlap (block : ℕ) (places : ℕ → Spot) (len : ℕ) (b : BlockId)
    (overlap : Overlap) : Type 0 where
  pub shows : (k : ℕ) → k < overlap.len
      → IsByteOf block b (overlap.place + k) (places (overlap.start + k))
  pub in_block : overlap.place + overlap.len ≤ b.size
  pub in_part : overlap.start + overlap.len ≤ len

-- a position that shows a byte of a block is in one of the block's overlaps
abbrev pub IsListed : ℕ → Overlaps → ℕ → Spot → Type 0
IsListed block overlaps position Zero = Unit {0}
IsListed block overlaps position (Slice id size at) =
    list_any (reaches position) (overlaps (block_at id size block (at / block))) ≡ true

-- overlaps of blocks with a part: all of the positions before one
pub record HasOverlaps (block : ℕ) (places : ℕ → Spot) (len before : ℕ)
    (overlaps : Overlaps) : Type 0 where
  pub each : (b : BlockId) → All (IsOverlap block places len b) (overlaps b)
  pub all : (position : ℕ) → position < before → IsListed block overlaps position (places position)

-- positions show a piece from one on
abbrev pub ShowsPiece : (ℕ → Spot) → ℕ → Piece → Type 0
ShowsPiece places start piece =
    (k : ℕ) → k < piece.len → places (start + k) ≡ place_after piece.spot k

abbrev pub BeginsBy : ℕ → Piece → Type 0
BeginsBy from piece = from ≤ piece.from
