-- What contracts see of staged blocks in memory.
use Rattle.std.specs.Prelude.{ℕ, List, Option, None, Some}
use Rattle.std.specs.declared.ops.Bound.{Bound}
use Rattle.std.specs.declared.ops.Bound.TheVariants.{Included, Excluded}
use Rattle.jv_model.specs.promise.FiniteMap.{map_of}
use Rattle.jv_outside.specs.declared.block_store.BlockStore.{BlockStore}
use Rattle.jv_outside.specs.promise.Blocks.{StagedMap}
use Rattle.jv_outside.specs.Blocks.{key_of, bytes_of}
use Rattle.jv_outside.specs.Overlaid.{overlaid}

-- the blocks: those in order, and over them those that aren't in order yet
abbrev pub blocks_in : BlockStore → StagedMap
blocks_in store = overlaid key_of bytes_of store.listed.items (map_of store.sorted.entries)

-- where a listing begins: after the key of a name, or at that key where no name is given
abbrev pub key_start : ℕ × List ℕ → Option (List ℕ) → Bound (ℕ × List ℕ)
key_start key None = Included key
key_start key (Some last) = Excluded key
