-- What a yard begins with: the blocks that it finds staged on its shelf.
use Rattle.std.specs.Prelude.{◌≡◌, ℕ, ◌≤◌, ◌<◌, List, [], Option, Some, IfSome, IsSome}
use Rattle.jv_model.specs.declared.limits.TheConstants.{LAST_CLIENT}
use Rattle.jv_model.specs.declared.fault.Down.TheVariants.{Failed}
use Rattle.jv_model.specs.declared.setting.Setting.{Setting}
use Rattle.jv_model.specs.promise.FiniteMap.{empty_map, get}
use Rattle.jv_outside.specs.promise.Holding.{Holding, FailsToHold}
use Rattle.jv_outside.specs.promise.Objects.{ObjectMap}
use Rattle.jv_outside.specs.promise.Blocks.{StagedMap, staged_at}
use Rattle.jv_yard.specs.declared.faults.YardFault.{YardFault}
use Rattle.jv_yard.specs.declared.faults.YardFault.TheVariants.{Depot, Shelf, Memory as NoMemory}
use Rattle.jv_yard.specs.promise.Staging.{ClientStaging}
use Rattle.jv_yard.specs.promise.YardValue.{YardValue, NamesBlock}

-- A client's staged blocks are those on its shelf, where that is known, whose names are of blocks
-- of the volume. The moment of their staging isn't known, and 0 stands for it.
pub record IsFound (setting : Setting) (content : Option StagedMap) (client : ℕ)
    (found : ClientStaging) : Type 0 where
  pub first : (name : List ℕ) (at : ℕ) → get found name ≡ Some at → at ≡ 0
  pub names : (name : List ℕ) → IsSome (get found name) → NamesBlock setting name
  pub only : IfSome content (λ blocks. (name : List ℕ) → IsSome (get found name)
      → IsSome (staged_at client name blocks))
  pub all : IfSome content (λ blocks. (name : List ℕ) → NamesBlock setting name
      → IsSome (staged_at client name blocks) → get found name ≡ Some 0)

-- a yard without a past, over devices that are as before
pub record IsStarted (setting : Setting) (depot : Holding ObjectMap) (shelf : Holding StagedMap)
    (yard : YardValue) : Type 0 where
  pub depot_same : yard.depot ≡ depot
  pub shelf_same : yard.shelf ≡ shelf
  pub setting_is : yard.setting ≡ setting
  pub staged_are : (client : ℕ) → client ≤ LAST_CLIENT
      → IsFound setting shelf.content client (yard.staged client)
  pub no_others : (client : ℕ) → LAST_CLIENT < client → yard.staged client ≡ empty_map
  pub last_is : yard.last ≡ 0
  pub log_is : yard.log ≡ []

-- the shelf failed and its count rose, or memory ran out
abbrev pub ShelfRefuses : Holding StagedMap → Holding StagedMap → YardFault → Type 0
ShelfRefuses before after Depot = ⊥
ShelfRefuses before after Shelf = FailsToHold before after Failed
ShelfRefuses before after NoMemory = after ≡ before
