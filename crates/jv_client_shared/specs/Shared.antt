-- What only inner contracts cite: of `promise/Shared`.
use Rattle.std.specs.Prelude.{ℕ, ◌==◌, if◌then◌else◌, List, Option, None, Some}
use Rattle.jv_model.specs.declared.slice.BlockId.{BlockId}
use Rattle.jv_model.specs.promise.FiniteMap.{empty_map}
use Rattle.jv_model.specs.blocks.Slices.{is_same_block}
use Rattle.jv_model.specs.promise.rows.RowKeys.{RowMap}
use Rattle.jv_outside.specs.promise.Blocks.{StagedMap}
use Rattle.jv_volume.specs.promise.TypedRows.{Rows, typed}
use Rattle.jv_volume_bytes.specs.promise.Blocks.{Blocks}
use Rattle.jv_yard.specs.promise.YardValue.{YardValue}
use Rattle.jv_client_shared.specs.promise.Shared.{Shared, depot_in, Known, staged_in, IsStored}

-- the rows of a keeper, none where they aren't known
abbrev pub typed_in : Option RowMap → Rows
typed_in None = empty_map
typed_in (Some rows) = typed rows

abbrev pub rows_in : Shared → Rows
rows_in v = typed_in v.keeper.rows

-- a block is known too
abbrev pub with_block : BlockId → List ℕ → Known → Known
with_block b bytes g =
    record g { blocks = λ other. if is_same_block b other then Some bytes else g.blocks other }

-- and the size of a slice
abbrev pub with_size : ℕ → ℕ → Known → Known
with_size id size g = record g { sizes = λ other. if id == other then size else g.sizes other }

-- the blocks that a client has staged, none where the shelf's aren't known
abbrev pub staged_blocks : YardValue → Option StagedMap → ℕ → Blocks
staged_blocks yard None = λ client b. None
staged_blocks yard (Some staged) = staged_in yard staged

-- a block is stored in what clients share
abbrev pub InStore : Shared → BlockId → Type 0
InStore v = IsStored (depot_in v) (staged_blocks v.yard v.yard.shelf.content)
