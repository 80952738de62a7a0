-- What is copied from a block.
use Rattle.std.specs.Prelude.{◌≡◌, ℕ, ◌+◌, ◌<◌, ◌≤◌, List, length, slice_index, true}
use Rattle.std.specs.List.{list_any}
use Rattle.jv_slices_reading.specs.declared.copying.Overlap.{Overlap}
use Rattle.jv_slices_reading.specs.Overlaps.{reaches}

-- an overlap lies in a block and in a part of these lengths
pub record Fits (block_len part_len : ℕ) (overlap : Overlap) : Type 0 where
  pub in_block : overlap.place + overlap.len ≤ block_len
  pub in_part : overlap.start + overlap.len ≤ part_len

-- the block has these bytes in the overlap
abbrev pub HasBytes : (ℕ → ℕ) → List ℕ → Overlap → Type 0
HasBytes byte block overlap =
    (k : ℕ) → k < overlap.len → slice_index block (overlap.place + k) ≡ byte (overlap.start + k)

-- the overlaps have these bytes now, and no such byte was lost
pub record IsCopied (byte : ℕ → ℕ) (overlaps : List Overlap) (before after : List ℕ) : Type 0 where
  pub kept : (n : ℕ) → n < length before → slice_index before n ≡ byte n
      → slice_index after n ≡ byte n
  pub copied : (n : ℕ) → n < length before → list_any (reaches n) overlaps ≡ true
      → slice_index after n ≡ byte n
