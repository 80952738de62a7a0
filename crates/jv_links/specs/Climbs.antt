-- How far it is from a directory up to the root or the trash.
use Rattle.std.specs.Prelude.{◌≡◌, ℕ, ◌<◌, Some}
use Rattle.jv_model.specs.promise.rows.RowKeys.{RowMap}
use Rattle.jv_outside.specs.promise.Store.{Store}
use Rattle.jv_volume.specs.promise.Shape.{shape_of, Reaches}
use Rattle.jv_volume.specs.promise.TreeOf.{tree_of}
use Rattle.jv_volume.specs.promise.TypedRows.{typed}
use Rattle.jv_volume.specs.promise.Whole.{Whole, no_bytes}

-- fewer than `steps` steps up lead from a directory to the root or the trash
pub record IsNear (known : RowMap) (dir steps : ℕ) : Type 0 where
  pub taken : ℕ
  pub fewer : taken < steps
  pub reaches : Reaches (shape_of (tree_of no_bytes (typed known))).form taken dir

-- and so over whole rows; of other rows nothing is said
abbrev pub StandsNear : Store → ℕ → ℕ → Type 0
StandsNear store dir steps =
    (known : RowMap) → store.rows ≡ Some known → Whole (typed known) → IsNear known dir steps
