-- What one client's step leaves alone, so that what other clients hold stays true. `own` is the
-- number of the slice that the step is about, 0 where it is about none.
use Rattle.std.specs.Prelude.{◌≡◌, ◌≢◌, ℕ, ◌<◌, ◌≤◌, List, Some}
use Rattle.jv_model.specs.declared.slice.BlockId.{BlockId}
use Rattle.jv_model.specs.promise.tree.Tree.{Tree}
use Rattle.jv_volume.specs.promise.TypedRows.{Rows}
use Rattle.jv_volume.specs.promise.Slices.{IsUnknown, next_slice}
use Rattle.jv_volume_bytes.specs.promise.Blocks.{Grows}
use Rattle.jv_client_shared.specs.promise.Shared.{HasStore, Known, Shared, depot_in}
use Rattle.jv_client_shared.specs.Shared.{rows_in}

-- More is known later: no block changes, new ones are of the step's own slice, and only a slice
-- that had no number gets a size.
pub record Learns (own next : ℕ) (before after : Known) : Type 0 where
  pub blocks : Grows before.blocks after.blocks
  pub only : (b : BlockId) (bytes : List ℕ) → b.id ≢ own → after.blocks b ≡ Some bytes
      → before.blocks b ≡ Some bytes
  pub sizes : (id : ℕ) → id < next → after.sizes id ≡ before.sizes id

-- Numbers aren't given twice, and a slice that no row names is named by the step's own transaction
-- alone.
pub record KeepsNumbers (own : ℕ) (rows after : Rows) : Type 0 where
  pub next : next_slice rows ≤ next_slice after
  pub unknown : (id : ℕ) → 0 < id → id ≢ own → IsUnknown rows id → IsUnknown after id

-- both, by which views and slices in flight stay
pub record Keeps (own : ℕ) (rows rows' : Rows) (g g' : Known) : Type 0 where
  pub learns : Learns own (next_slice rows) g g'
  pub numbers : KeepsNumbers own rows rows'

-- A step on what clients share that leaves all this alone. The volume's setting is the same. By
-- `direct` the depot keeps its blocks, as it does while none is removed.
pub record KeepsShared (own : ℕ) (g g' : Known) (v v' : Shared) : Type 0 where
  pub setting : v'.yard.setting ≡ v.yard.setting
  pub keeps : Keeps own (rows_in v) (rows_in v') g g'
  pub direct : Grows (depot_in v) (depot_in v')

-- A step after which the tree is another one's, or still the same.
pub record Leads (own : ℕ) (t' : Tree) (g g' : Known) (v v' : Shared) : Type 0 where
  pub store : HasStore t' g' v'
  pub kept : KeepsShared own g g' v v'

-- Devices hold the same, whatever was counted or noted.
pub record HoldsSame (v v' : Shared) : Type 0 where
  pub rows : v'.keeper.rows ≡ v.keeper.rows
  pub objects : v'.yard.depot.content ≡ v.yard.depot.content
  pub blocks : v'.yard.shelf.content ≡ v.yard.shelf.content
  pub setting : v'.yard.setting ≡ v.yard.setting
  pub staged : v'.yard.staged ≡ v.yard.staged
