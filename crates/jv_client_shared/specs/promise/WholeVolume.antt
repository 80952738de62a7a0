-- A volume that is whole, with all blocks of its files: what each run starts on and leaves.
use Rattle.std.specs.Prelude.{◌≡◌, ◌⊎◌, ℕ, List, Some}
use Rattle.jv_model.specs.declared.slice.BlockId.{BlockId}
use Rattle.jv_model.specs.promise.rows.RowKeys.{RowMap}
use Rattle.jv_outside.specs.promise.Blocks.{StagedMap}
use Rattle.jv_outside.specs.promise.Objects.{ObjectMap}
use Rattle.jv_volume.specs.promise.TypedRows.{typed}
use Rattle.jv_volume.specs.promise.Views.{setting_at}
use Rattle.jv_volume.specs.promise.Whole.{Whole}
use Rattle.jv_volume_bytes.specs.promise.Blocks.{AreBelow, Blocks}
use Rattle.jv_yard.specs.promise.Contents.{blocks_in}
use Rattle.jv_yard.specs.promise.YardValue.{KeepsStaged}
use Rattle.jv_client_shared.specs.promise.Shared.{AreStored, Shared, staged_in}

-- a copy of the block, in the depot or staged by a client, has these bytes
abbrev pub IsCopy : Blocks → (ℕ → Blocks) → BlockId → List ℕ → Type 0
IsCopy depot staged b bytes =
    (depot b ≡ Some bytes) ⊎ ((client : ℕ) × (staged client b ≡ Some bytes))

-- all copies of a block have equal bytes
abbrev pub AreAlike : Blocks → (ℕ → Blocks) → Type 0
AreAlike depot staged = (b : BlockId) (first second : List ℕ) → IsCopy depot staged b first
    → IsCopy depot staged b second → first ≡ second

-- Rows, depot and shelf are known. The rows are whole, and each block of their slices is in the
-- depot, or a client has staged it, with its length. All copies of a block are alike, and none is
-- of a slice that is still to get its number.
pub record WholeVolume (v : Shared) : Type 0 where
  pub rows : RowMap
  pub rows_are : v.keeper.rows ≡ Some rows
  pub whole : Whole (typed rows)
  pub setting : setting_at (typed rows) ≡ Some v.yard.setting
  pub objects : ObjectMap
  pub objects_are : v.yard.depot.content ≡ Some objects
  pub staged : StagedMap
  pub staged_are : v.yard.shelf.content ≡ Some staged
  pub there : AreStored v.yard.setting.block (typed rows) (blocks_in v.yard.setting objects)
      (staged_in v.yard staged)
  pub kept : KeepsStaged v.yard
  pub alike : AreAlike (blocks_in v.yard.setting objects) (staged_in v.yard staged)
  pub below : AreBelow (typed rows) (blocks_in v.yard.setting objects)
  pub staged_below : (client : ℕ) → AreBelow (typed rows) (staged_in v.yard staged client)
