-- What contracts see of a yard.
use Rattle.std.specs.Prelude.{◌≡◌, ℕ, ◌≤◌, List, Some, IsSome}
use Rattle.jv_model.specs.declared.limits.TheConstants.{LAST_CLIENT}
use Rattle.jv_model.specs.declared.setting.Setting.{Setting}
use Rattle.jv_model.specs.declared.slice.BlockId.{BlockId}
use Rattle.jv_model.specs.promise.blocks.BlockNames.{IsBlockName}
use Rattle.jv_outside.specs.promise.Holding.{Holding}
use Rattle.jv_outside.specs.promise.Objects.{ObjectMap}
use Rattle.jv_outside.specs.promise.Blocks.{StagedMap, staged_at}
use Rattle.jv_yard.specs.declared.note.Note.{Note}
use Rattle.jv_yard.specs.promise.Staging.{Staging, staged_since}

-- what is seen of its depot and its shelf, the volume's setting, the staged blocks, the last
-- moment, and the log
pub record YardValue : Type 0 where
  pub depot : Holding ObjectMap
  pub shelf : Holding StagedMap
  pub setting : Setting
  pub staged : Staging
  pub last : ℕ
  pub log : List Note

-- a name is one of a block of the volume
pub record NamesBlock (setting : Setting) (name : List ℕ) : Type 0 where
  pub block : BlockId
  pub is : IsBlockName setting block name

-- each staged block of a client has the name of a block of the volume, and the client's shelf has
-- it where the shelf is known
pub record KeepsStaged (yard : YardValue) : Type 0 where
  pub names : (client : ℕ) (name : List ℕ) → client ≤ LAST_CLIENT
      → IsSome (staged_since client name yard.staged) → NamesBlock yard.setting name
  pub there : (blocks : StagedMap) → yard.shelf.content ≡ Some blocks → (client : ℕ) (name : List ℕ)
      → client ≤ LAST_CLIENT
      → IsSome (staged_since client name yard.staged) → IsSome (staged_at client name blocks)
