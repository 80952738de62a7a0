-- Slices in flight: a client has taken a number, and puts the blocks of its bytes one by one until
-- it commits them.
use Rattle.std.specs.Prelude.{◌≡◌, ℕ, ◌*◌, ◌<◌, List, length, take, drop, Some}
use Rattle.jv_model.specs.declared.slice.BlockId.{BlockId}
use Rattle.jv_model.specs.promise.blocks.Slices.{block_at, block_count}
use Rattle.jv_volume.specs.promise.TypedRows.{Rows}
use Rattle.jv_volume.specs.promise.Slices.{IsUnknown, next_slice}
use Rattle.jv_volume_bytes.specs.promise.Blocks.{Blocks}

-- a slice's number, its bytes, and how many of its blocks were put
pub record Flight : Type 0 where
  pub id : ℕ
  pub bytes : List ℕ
  pub put : ℕ

abbrev pub flight_block : ℕ → Flight → ℕ → BlockId
flight_block block f index = block_at f.id (length f.bytes) block index

-- the bytes of one of its blocks
abbrev pub flight_bytes : ℕ → Flight → ℕ → List ℕ
flight_bytes block f index = take block (drop (index * block) f.bytes)

-- a property of each of its blocks that were put
abbrev pub EachPut : (BlockId → Type 0) → ℕ → Flight → Type 0
EachPut P block f = (index : ℕ) → index < f.put → P (flight_block block f index)

-- No row names the slice; its first blocks were put with its bytes, and no other block has its
-- number.
pub record InFlight (block : ℕ) (rows : Rows) (blocks : Blocks) (f : Flight) : Type 0 where
  pub some : 0 < f.id
  pub below : f.id < next_slice rows
  pub unknown : IsUnknown rows f.id
  pub those : (index : ℕ) → index < f.put
      → blocks (flight_block block f index) ≡ Some (flight_bytes block f index)
  pub only : (b : BlockId) (bytes : List ℕ) → b.id ≡ f.id → blocks b ≡ Some bytes
      → (index : ℕ) × (index < f.put) × (b ≡ flight_block block f index)

-- all of them were put
abbrev pub IsComplete : ℕ → Flight → Type 0
IsComplete block f = f.put ≡ block_count (length f.bytes) block
