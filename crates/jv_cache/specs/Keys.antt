-- Keys of blocks.
use Rattle.std.specs.Prelude.{Bool, ◌&&◌, ◌==◌}
use Rattle.jv_cache.specs.declared.key.BlockKey.{BlockKey}

-- a block is named by its slice and its index in the slice
abbrev pub same_key : BlockKey → BlockKey → Bool
same_key a b = (a.id == b.id) && (a.index == b.index)
