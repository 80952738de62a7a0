-- What only inner contracts cite: of `promise/Blocks`.
use Rattle.std.specs.Prelude.{◌≡◌, ◌≢◌, ℕ, List, None, Some}
use Rattle.jv_model.specs.declared.slice.BlockId.{BlockId}
use Rattle.jv_volume.specs.promise.TypedRows.{Rows}
use Rattle.jv_volume.specs.promise.Views.{slice_row_at}
use Rattle.jv_volume_bytes.specs.promise.Blocks.{Blocks}

-- of blocks whose slices have rows, those with the one property have the other
abbrev pub Carries : (P Q : BlockId → Type 0) → Rows → Type 0
Carries P Q rows = (b : BlockId) → slice_row_at rows b.id ≢ None → P b → Q b

-- a block is put there, and others stay
pub record IsPut (b : BlockId) (bytes : List ℕ) (before after : Blocks) : Type 0 where
  pub here : after b ≡ Some bytes
  pub others : (other : BlockId) → other ≢ b → after other ≡ before other
