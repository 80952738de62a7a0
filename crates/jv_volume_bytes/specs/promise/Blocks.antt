-- The blocks of slices, and their bytes.
use Rattle.std.specs.Prelude.{◌≡◌, ℕ, ◌/◌, ◌%◌, ◌<◌, List, [], length, slice_index, Option, Some, unwrap_or}
use Rattle.jv_model.specs.declared.row.SliceRow.{SliceRow}
use Rattle.jv_model.specs.declared.slice.BlockId.{BlockId}
use Rattle.jv_model.specs.promise.blocks.Slices.{block_at, block_count}
use Rattle.jv_volume.specs.promise.TypedRows.{Rows}
use Rattle.jv_volume.specs.promise.Views.{slice_row_at}
use Rattle.jv_volume.specs.promise.Slices.{next_slice}
use Rattle.jv_volume_bytes.specs.promise.Bytes.{KnownBytes}

-- the bytes of blocks, where they are there
abbrev pub Blocks : Type 0
Blocks = BlockId → Option (List ℕ)

-- a block that is there stays as it is
abbrev pub Grows : Blocks → Blocks → Type 0
Grows before after = (b : BlockId) (bytes : List ℕ) → before b ≡ Some bytes → after b ≡ Some bytes

-- the bytes that slices have by blocks of this length
abbrev pub known_by : ℕ → Blocks → KnownBytes
known_by block blocks id size at =
    slice_index (unwrap_or (blocks (block_at id size block (at / block))) []) (at % block)

-- a block is there, and has the length of its name
pub record IsThere (blocks : Blocks) (b : BlockId) : Type 0 where
  pub bytes : List ℕ
  pub is : blocks b ≡ Some bytes
  pub long : length bytes ≡ b.size

-- a property of each block of a slice of this size
abbrev pub EachOfSlice : (BlockId → Type 0) → ℕ → ℕ → ℕ → Type 0
EachOfSlice P block id size =
    (index : ℕ) → index < block_count size block → P (block_at id size block index)

-- a property of each block of each slice that has a row
abbrev pub EachBlock : (BlockId → Type 0) → ℕ → Rows → Type 0
EachBlock P block rows = (id : ℕ) (slice : SliceRow) → slice_row_at rows id ≡ Some slice
    → EachOfSlice P block id slice.size

-- each block of each slice that has a row is there
abbrev pub HasBlocks : ℕ → Rows → Blocks → Type 0
HasBlocks block rows blocks = EachBlock (IsThere blocks) block rows

-- no block is of a slice whose number is still to be given
abbrev pub AreBelow : Rows → Blocks → Type 0
AreBelow rows blocks =
    (b : BlockId) (bytes : List ℕ) → blocks b ≡ Some bytes → b.id < next_slice rows
