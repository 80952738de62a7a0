-- What only inner contracts cite: of `promise/blocks/Slices`.
use Rattle.std.specs.Prelude.{◌≡◌, ◌≢◌, ℕ, ◌+◌, ◌-◌, ◌/◌, ◌<◌, ◌≤◌, Bool, ◌&&◌, ◌==◌, if◌then◌else◌, List, [], ◌∷◌, ◌++◌, map, fold}
use Rattle.std.specs.List.{flat_map, list_any, range_with_len}
use Rattle.jv_model.specs.declared.slice.Rec.{Rec}
use Rattle.jv_model.specs.declared.slice.Spot.{Spot}
use Rattle.jv_model.specs.declared.slice.Spot.TheVariants.{Zero, Slice}
use Rattle.jv_model.specs.declared.slice.Piece.{Piece}
use Rattle.jv_model.specs.declared.slice.BlockId.{BlockId}
use Rattle.jv_model.specs.promise.blocks.Slices.{visible, stored_place, block_count, block_length, block_at}

-- a number of places further on
abbrev pub place_after : Spot → ℕ → Spot
place_after Zero n = Zero
place_after (Slice id size at) n = Slice id size (at + n)

-- positions that one record shows, or none, up to where that changes or to the end of the range
-- that is read
pub record IsPiece (list : List Rec) (end : ℕ) (piece : Piece) : Type 0 where
  pub some : 0 < piece.len
  pub within : piece.from + piece.len ≤ end
  pub alike : (n : ℕ) → n < piece.len → visible list (piece.from + n) ≡ visible list piece.from
  pub maximal : piece.from + piece.len < end
      → visible list (piece.from + piece.len) ≢ visible list piece.from
  pub spot : piece.spot ≡ stored_place list piece.from

-- the pieces that a reader sees of the positions from one to another: they follow one another
-- without a gap
abbrev pub IsPlan : List Rec → ℕ → ℕ → List Piece → Type 0
IsPlan list from to [] = from ≡ to
IsPlan list from to (piece ∷ pieces) =
    (piece.from ≡ from) × IsPiece list to piece × IsPlan list (from + piece.len) to pieces

-- the places of a piece's positions are the stored ones
abbrev pub IsAsStored : List Rec → Piece → Type 0
IsAsStored list piece =
    (n : ℕ) → n < piece.len → place_after piece.spot n ≡ stored_place list (piece.from + n)

abbrev pub block_lengths : ℕ → ℕ → List ℕ
block_lengths size block = map (block_length size block) (range_with_len 0 (block_count size block))

-- the part of a slice that a piece shows lies in the slice
abbrev pub LiesIn : ℕ → Spot → Type 0
LiesIn len Zero = Unit {0}
LiesIn len (Slice id size at) = at + len ≤ size

-- what a piece of a plan over records may be
pub record IsPart (piece : Piece) : Type 0 where
  pub some : 1 ≤ piece.len
  pub inside : LiesIn piece.len piece.spot

-- the blocks in which bytes lie, in order
abbrev pub blocks_under : ℕ → ℕ → Spot → List BlockId
blocks_under block len Zero = []
blocks_under block len (Slice id size at) = map (block_at id size block)
    (range_with_len (at / block) ((at + len - 1) / block + 1 - at / block))

abbrev pub blocks_of_piece : ℕ → Piece → List BlockId
blocks_of_piece block piece = blocks_under block piece.len piece.spot

abbrev pub is_same_block : BlockId → BlockId → Bool
is_same_block a b = (a.id == b.id) && (a.index == b.index) && (a.size == b.size)

-- a block goes to the end, unless it is there already
abbrev pub with_block : List BlockId → BlockId → List BlockId
with_block blocks b = (if list_any (is_same_block b) blocks then blocks else blocks ++ b ∷ [])

-- the blocks that pieces need, each once, as a reader reaches them from piece to piece
unfoldable pub needed_blocks : ℕ → List Piece → List BlockId
needed_blocks block pieces = fold with_block [] (flat_map (blocks_of_piece block) pieces)
