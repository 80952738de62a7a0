-- The blocks of a volume that its depot has.
use Rattle.std.specs.Prelude.{if◌then◌else◌, None}
use Rattle.jv_model.specs.declared.setting.Setting.{Setting}
use Rattle.jv_model.specs.promise.blocks.BlockNames.{name_in}
pub use Rattle.jv_model.specs.promise.blocks.BlockNames.{is_block}
use Rattle.jv_outside.specs.promise.Objects.{ObjectMap, bytes_at}
use Rattle.jv_volume_bytes.specs.promise.Blocks.{Blocks}

-- the blocks of the volume among objects: names are spelled for other numbers too, which no block
-- has
abbrev pub blocks_in : Setting → ObjectMap → Blocks
blocks_in setting objects block =
    (if is_block setting.block block then bytes_at (name_in setting block) objects else None)
