-- What holds of yards.
use Rattle.std.specs.Prelude.{◌≡◌, ◌^◌, ℕ, ◌<◌, List, None, Some}
use Rattle.jv_model.specs.declared.setting.Setting.{Setting}
use Rattle.jv_model.specs.declared.slice.BlockId.{BlockId}
use Rattle.jv_model.specs.promise.blocks.BlockNames.{IsBlock, name_in}
use Rattle.jv_outside.specs.promise.Objects.{ObjectMap}
use Rattle.jv_outside.specs.Objects.{with_object}
use Rattle.jv_volume_bytes.specs.promise.Blocks.{Grows}
use Rattle.jv_yard.specs.promise.Contents.{blocks_in}
use Rattle.jv_yard.specs.Later.{Later}
use Rattle.jv_yard.specs.promise.YardValue.{YardValue}

-- a yard is later than itself
abbrev pub LaterIsReflexive : Type 0
LaterIsReflexive = (yard : YardValue) → Later yard yard

-- and than all those before one that it is later than
abbrev pub LaterIsTransitive : Type 0
LaterIsTransitive =
    (first second third : YardValue) → Later first second → Later second third → Later first third

-- an object of a block's name is that block among the depot's, and a new one leaves all others as
-- they are
abbrev pub PutsGrow : Type 0
PutsGrow = (setting : Setting) → setting.block < 2 ^ 32
    → (objects : ObjectMap) (b : BlockId) (bytes : List ℕ) (at : ℕ) → IsBlock setting.block b
    → (blocks_in setting (with_object (name_in setting b) bytes at objects) b ≡ Some bytes)
    × (blocks_in setting objects b ≡ None
    → Grows (blocks_in setting objects) (blocks_in setting (with_object
    (name_in setting b) bytes at objects)))
