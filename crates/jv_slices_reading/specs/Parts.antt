-- A part of a window that is read, block by block.
use Rattle.std.specs.Prelude.{◌≡◌, ℕ, ◌+◌, ◌-◌, ◌/◌, ◌%◌, ◌<◌, List, [], ◌∷◌, fold, slice_get, slice_index, Contains, IfSome}
use Rattle.std.specs.List.{flat_map, range_with_len}
use Rattle.jv_model.specs.declared.slice.BlockId.{BlockId}
use Rattle.jv_model.specs.declared.slice.Rec.{Rec}
use Rattle.jv_model.specs.declared.slice.Spot.{Spot}
use Rattle.jv_model.specs.declared.slice.Spot.TheVariants.{Zero, Slice}
use Rattle.jv_model.specs.promise.blocks.Slices.{block_at, block_count, stored_place}
use Rattle.jv_model.specs.blocks.Slices.{with_block}
use Rattle.jv_volume_bytes.specs.promise.Bytes.{KnownBytes, spot_byte}

-- the positions of a window from one to another, by its list; the length of blocks; the blocks that
-- are left; the bytes so far
pub record Part : Type 0 where
  pub list : List Rec
  pub from : ℕ
  pub to : ℕ
  pub block : ℕ
  pub left : List BlockId
  pub bytes : List ℕ

-- which part it is
pub record IsPartOf (list : List Rec) (from to block : ℕ) (part : Part) : Type 0 where
  pub list_is : part.list ≡ list
  pub from_is : part.from ≡ from
  pub to_is : part.to ≡ to
  pub block_is : part.block ≡ block

-- the block in which the byte of a spot lies, if it is one of a slice
abbrev pub block_of_spot : ℕ → Spot → List BlockId
block_of_spot block Zero = []
block_of_spot block (Slice id size at) = block_at id size block (at / block) ∷ []

-- the blocks of positions in a row
abbrev pub blocks_along : ℕ → (ℕ → Spot) → ℕ → ℕ → List BlockId
blocks_along block places from len =
    flat_map (λ n. block_of_spot block (places n)) (range_with_len from len)

-- the blocks that the positions of a window need, from one to another: those of their bytes, each
-- where it comes first
unfoldable pub blocks_between : ℕ → List Rec → ℕ → ℕ → List BlockId
blocks_between block list from to =
    fold with_block [] (blocks_along block (stored_place list) from (to - from))

-- the byte that a position of a window has
abbrev pub window_byte : KnownBytes → List Rec → ℕ → ℕ
window_byte known_bytes list position = spot_byte known_bytes (stored_place list position)

-- the byte is of none of these blocks
abbrev pub IsOfNone : ℕ → List BlockId → Spot → Type 0
IsOfNone block blocks Zero = Unit {0}
IsOfNone block blocks (Slice id size at) = Contains blocks (block_at id size block (at / block)) → ⊥

-- each position has the byte that is known of it, unless that is of a block that is left
abbrev pub ReadsAs : KnownBytes → Part → Type 0
ReadsAs known_bytes part = (n : ℕ) → n < part.to - part.from
    → IsOfNone part.block part.left (stored_place part.list (part.from + n))
    → slice_index part.bytes n ≡ window_byte known_bytes part.list (part.from + n)

-- these bytes are known of a block
abbrev pub IsKnownOf : KnownBytes → ℕ → List ℕ → BlockId → Type 0
IsKnownOf known_bytes block bytes b = (id size at : ℕ) → at < size
    → block_at id size block (at / block) ≡ b
    → slice_index bytes (at % block) ≡ known_bytes id size at

-- where the bytes are those of the block that is next, the part reads as is known, as it did before
abbrev pub FillsIn : List ℕ → Part → Part → Type 0
FillsIn bytes before after = (known_bytes : KnownBytes)
    → IfSome (slice_get before.left 0) (IsKnownOf known_bytes before.block bytes)
    → ReadsAs known_bytes before → ReadsAs known_bytes after

-- a block of the slice of one of the records
pub record IsNamed (list : List Rec) (block : ℕ) (b : BlockId) : Type 0 where
  pub r : Rec
  pub there : Contains list r
  pub some : 0 < r.id
  pub below : b.index < block_count r.size block
  pub is : b ≡ block_at r.id r.size block b.index
