-- What all clients share, and when it is a tree's.
use Rattle.std.specs.Prelude.{◌≡◌, ◌≢◌, ℕ, ◌&&◌, if◌then◌else◌, is_some, Option, None, Some}
use Rattle.jv_model.specs.declared.row.SliceRow.{SliceRow}
use Rattle.jv_model.specs.declared.setting.Setting.{Setting}
use Rattle.jv_model.specs.declared.slice.BlockId.{BlockId}
use Rattle.jv_model.specs.promise.rows.RowKeys.{RowMap}
use Rattle.jv_model.specs.promise.tree.Tree.{Tree}
use Rattle.jv_model.specs.promise.blocks.BlockNames.{name_in}
use Rattle.jv_outside.specs.promise.Blocks.{StagedMap, staged_at}
use Rattle.jv_outside.specs.promise.Carriage.{Carriage}
use Rattle.jv_outside.specs.promise.Objects.{ObjectMap}
use Rattle.jv_outside.specs.promise.Store.{Store}
use Rattle.jv_volume.specs.promise.TypedRows.{Rows, typed}
use Rattle.jv_volume.specs.promise.Views.{setting_at, slice_row_at}
use Rattle.jv_volume.specs.promise.Slices.{ListsHave}
use Rattle.jv_volume.specs.promise.Whole.{Whole}
use Rattle.jv_volume_bytes.specs.promise.Blocks.{AreBelow, Blocks, EachBlock, Grows, HasBlocks, IsThere, known_by}
use Rattle.jv_volume_bytes.specs.promise.Bytes.{tree_with}
use Rattle.jv_yard.specs.promise.Contents.{blocks_in}
use Rattle.jv_model.specs.promise.blocks.BlockNames.{is_block}
use Rattle.jv_yard.specs.promise.Staging.{staged_since}
use Rattle.jv_yard.specs.promise.YardValue.{KeepsStaged, YardValue}

-- the keeper's rows, the yard with depot and shelf, and what is seen of main's carrier
pub record Shared : Type 0 where
  pub keeper : Store
  pub yard : YardValue
  pub carrier : Carriage

-- the blocks of a depot, none where its objects aren't known
abbrev pub depot_blocks : Setting → Option ObjectMap → Blocks
depot_blocks setting None = λ b. None
depot_blocks setting (Some objects) = blocks_in setting objects

abbrev pub depot_in : Shared → Blocks
depot_in v = depot_blocks v.yard.setting v.yard.depot.content

-- What is known for good: the bytes of each block that there ever was, and the size of each slice
-- that has a number.
pub record Known : Type 0 where
  pub blocks : Blocks
  pub sizes : ℕ → ℕ

-- rows name each slice with the size that is known
pub record AreSized (sizes : ℕ → ℕ) (rows : Rows) : Type 0 where
  pub records : ListsHave (λ r. r.id ≢ 0 → r.size ≡ sizes r.id) rows
  pub slices : (id : ℕ) (slice : SliceRow) → slice_row_at rows id ≡ Some slice
      → slice.size ≡ sizes id

-- the blocks of the volume that a client has staged
abbrev pub staged_in : YardValue → StagedMap → ℕ → Blocks
staged_in yard staged client b =
    (if is_block yard.setting.block b
    && is_some (staged_since client (name_in yard.setting b) yard.staged)
    then staged_at client (name_in yard.setting b) staged else None)

-- a block is in the depot, or a client has staged it, with the length of its name
pub data IsStored (depot : Blocks) (staged : ℕ → Blocks) (b : BlockId) : Type 0 where
  InDepot : IsThere depot b → IsStored depot staged b
  OnShelf : (client : ℕ) → IsThere (staged client) b → IsStored depot staged b

-- each block of each slice that has a row is stored
abbrev pub AreStored : ℕ → Rows → Blocks → (ℕ → Blocks) → Type 0
AreStored block rows depot staged = EachBlock (IsStored depot staged) block rows

-- The tree is that of the keeper's rows, which are known and whole, with the bytes that their
-- slices' blocks have. Each of these blocks is stored; all copies of a block have its bytes, and
-- none is of a slice that is still to get its number. `direct` holds while each block goes to the
-- depot at once and none is removed.
pub record HasStore (t : Tree) (g : Known) (v : Shared) : Type 0 where
  pub rows : RowMap
  pub rows_are : v.keeper.rows ≡ Some rows
  pub whole : Whole (typed rows)
  pub sized : AreSized g.sizes (typed rows)
  pub setting : setting_at (typed rows) ≡ Some v.yard.setting
  pub objects : ObjectMap
  pub objects_are : v.yard.depot.content ≡ Some objects
  pub staged : StagedMap
  pub staged_are : v.yard.shelf.content ≡ Some staged
  pub there : AreStored v.yard.setting.block (typed rows) (blocks_in v.yard.setting objects)
      (staged_in v.yard staged)
  pub copies : Grows (blocks_in v.yard.setting objects) g.blocks
  pub staged_copies : (client : ℕ) → Grows (staged_in v.yard staged client) g.blocks
  pub kept : KeepsStaged v.yard
  pub below : AreBelow (typed rows) g.blocks
  pub tree : t ≡ tree_with (known_by v.yard.setting.block g.blocks) (typed rows)
  pub direct : HasBlocks v.yard.setting.block (typed rows) (blocks_in v.yard.setting objects)
