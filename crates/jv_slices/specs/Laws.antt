-- What holds of plans, of the blocks that they need, and of the names of blocks.
use Rattle.std.specs.Prelude.{◌≡◌, ℕ, ◌+◌, ◌-◌, ◌/◌, ◌^◌, ◌<◌, ◌≤◌, List, length, slice_get, Some, All, Contains}
use Rattle.std.specs.List.{flat_map, list_any, IsDistinct}
use Rattle.jv_model.specs.declared.limits.TheConstants.{WINDOW, MIN_BLOCK, MAX_BLOCKS}
use Rattle.jv_model.specs.declared.setting.Setting.{Setting}
use Rattle.jv_model.specs.declared.slice.Rec.{Rec}
use Rattle.jv_model.specs.declared.slice.Piece.{Piece}
use Rattle.jv_model.specs.declared.slice.Spot.{Spot}
use Rattle.jv_model.specs.declared.slice.Spot.TheVariants.{Zero, Slice}
use Rattle.jv_model.specs.declared.slice.BlockId.{BlockId}
use Rattle.jv_model.specs.promise.blocks.BlockNames.{name_in}
use Rattle.jv_model.specs.blocks.Slices.{IsPlan, IsPart, is_same_block, blocks_of_piece, needed_blocks}
use Rattle.jv_model.specs.promise.blocks.Slices.{block_at}

-- a list has one plan of a range
abbrev pub PlansAreDetermined : Type 0
PlansAreDetermined = (list : List Rec) (from to : ℕ) (a b : List Piece)
    → IsPlan list from to a → IsPlan list from to b → a ≡ b

-- no block is listed twice among those that pieces need
abbrev pub NeedsAreOnce : Type 0
NeedsAreOnce =
    (block : ℕ) (pieces : List Piece) → IsDistinct is_same_block (needed_blocks block pieces)

-- and those are listed that some piece has bytes in
abbrev pub NeedsAreThose : Type 0
NeedsAreThose = (block : ℕ) (pieces : List Piece) (b : BlockId)
    → list_any (is_same_block b) (needed_blocks block pieces)
    ≡ list_any (is_same_block b) (flat_map (blocks_of_piece block) pieces)

-- a plan needs at most as many blocks as it has positions
abbrev pub NeedsAreFew : Type 0
NeedsAreFew = (block : ℕ) (list : List Rec) (from to : ℕ) (pieces : List Piece)
    → 0 < block → IsPlan list from to pieces → length (needed_blocks block pieces) ≤ to - from

-- the block of each byte that a piece shows is needed
abbrev pub NeedsHaveEachByte : Type 0
NeedsHaveEachByte = (block : ℕ) (pieces : List Piece) (k : ℕ) (piece : Piece) (id size at n : ℕ)
    → 0 < block → slice_get pieces k ≡ Some piece → piece.spot ≡ Slice id size at → n < piece.len
    → Contains (needed_blocks block pieces) (block_at id size block ((at + n) / block))

-- a slice is no longer than a window
abbrev pub FitsWindow : Spot → Type 0
FitsWindow Zero = Unit {0}
FitsWindow (Slice id size at) = size ≤ WINDOW

-- where no slice is longer than a window, the indexes of the blocks have names
abbrev pub IndexesAreLow : Type 0
IndexesAreLow = (block : ℕ) (pieces : List Piece)
    → MIN_BLOCK ≤ block → All IsPart pieces → All (λ piece. FitsWindow piece.spot) pieces
    → All (λ b. b.index < MAX_BLOCKS) (needed_blocks block pieces)

-- the widths of a block's numbers
pub record HasWidths (block : BlockId) : Type 0 where
  pub id : block.id < 2 ^ 64
  pub index : block.index < 2 ^ 32
  pub size : block.size < 2 ^ 32

-- two blocks of a volume have two names
abbrev pub NamesAreDistinct : Type 0
NamesAreDistinct = (setting : Setting) (a b : BlockId) → HasWidths a → HasWidths b
    → name_in setting a ≡ name_in setting b → a ≡ b
