-- What lines make of a yard.
use Rattle.std.specs.Prelude.{◌≡◌, ℕ, All, List, Option, Some, IsSome, Contains}
use Rattle.jv_model.specs.declared.setting.Setting.{Setting}
use Rattle.jv_model.specs.declared.slice.BlockId.{BlockId}
use Rattle.jv_model.specs.promise.FiniteMap.{get}
use Rattle.jv_model.specs.promise.blocks.BlockNames.{IsBlock, name_in}
use Rattle.jv_outside.specs.promise.Objects.{ObjectMap}
use Rattle.jv_yard.specs.promise.YardValue.{YardValue}

-- one of the blocks has this name
pub record HasName (setting : Setting) (blocks : List BlockId) (name : List ℕ) : Type 0 where
  pub block : BlockId
  pub among : Contains blocks block
  pub named : name ≡ name_in setting block

-- The objects are still known, and none of them is gone. Those that don't have the name of one of
-- the blocks are the same.
pub record ObjectsStay (setting : Setting) (blocks : List BlockId) (before : ObjectMap)
    (content : Option ObjectMap) : Type 0 where
  pub after : ObjectMap
  pub known : content ≡ Some after
  pub there : (name : List ℕ) → IsSome (get before name) → IsSome (get after name)
  pub others : (name : List ℕ) → (HasName setting blocks name → ⊥)
      → get after name ≡ get before name

-- blocks of the volume were put, and nothing else was done to objects; nothing was staged or
-- unstaged
pub record YardGrows (before after : YardValue) : Type 0 where
  pub staged : after.staged ≡ before.staged
  pub puts : List BlockId
  pub blocks : All (IsBlock before.setting.block) puts
  pub objects : (known : ObjectMap) → before.depot.content ≡ Some known
      → ObjectsStay before.setting puts known after.depot.content
