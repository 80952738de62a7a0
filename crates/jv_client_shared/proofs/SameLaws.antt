-- Calls of devices that change nothing that they hold: failures, reads, and what is noted or counted.
use Rattle.std.proofs.Common.{◌≡◌, ℕ, List, Option, Some, refl, sym, ap, subst, ◌∙◌}
use Rattle.std.specs.Prelude.{Result, Ok, Err}
use Rattle.jv_model.specs.declared.setting.Setting.{Setting}
use Rattle.jv_model.specs.promise.tree.Tree.{Tree}
use Rattle.jv_outside.specs.promise.Carriage.{Carriage}
use Rattle.jv_outside.specs.promise.Store.{Store}
use Rattle.jv_volume.specs.promise.TypedRows.{Rows, typed}
use Rattle.jv_volume_bytes.specs.promise.Blocks.{Blocks, Grows, HasBlocks, known_by}
use Rattle.jv_volume_bytes.specs.promise.Bytes.{tree_with}
use Rattle.jv_volume_bytes.proofs.BlockLaws.{grows-none}
use Rattle.jv_yard.specs.declared.faults.YardFault.{YardFault}
use Rattle.jv_yard.specs.declared.faults.YardFault.TheVariants.{Depot, Shelf, Memory}
use Rattle.jv_yard.specs.promise.Contents.{blocks_in}
use Rattle.jv_yard.specs.BlockCalls.{GetsBlock}
use Rattle.jv_yard.specs.Refusals.{Refuses}
use Rattle.jv_yard.specs.promise.YardValue.{YardValue}
use Rattle.jv_yard.proofs.CallLaws.{KeepsStaged-same}
use Rattle.jv_client_shared.specs.promise.Shared.{AreStored, HasStore, Known, Shared, depot_blocks, depot_in, staged_in}
use Rattle.jv_client_shared.specs.Shared.{rows_in, typed_in}
use Rattle.jv_client_shared.specs.Keeping.{HoldsSame, Keeps, KeepsShared, Leads}
use Rattle.jv_client_shared.proofs.KeepingLaws.{keeps-none}

-- ---- which calls those are

pub same-none : (v : Shared) → HoldsSame v v
same-none v = record { rows = refl; objects = refl; blocks = refl; setting = refl; staged = refl }

pub same-then : (v v' v'' : Shared) → HoldsSame v v' → HoldsSame v' v'' → HoldsSame v v''
same-then v v' v'' first second = record {
  rows = second.rows ∙ first.rows;
  objects = second.objects ∙ first.objects;
  blocks = second.blocks ∙ first.blocks;
  setting = second.setting ∙ first.setting;
  staged = second.staged ∙ first.staged;
}

-- the keeper has the rows that it had, whatever the carrier did
pub same-rows : (v : Shared) (keeper : Store) (carrier : Carriage) → keeper.rows ≡ v.keeper.rows → HoldsSame v (record v { keeper = keeper; carrier = carrier })
same-rows v keeper carrier rows = record { rows = rows; objects = refl; blocks = refl; setting = refl; staged = refl }

-- the yard refused a call
pub same-refused : (v : Shared) (yard : YardValue) (fault : YardFault) → Refuses v.yard yard fault → HoldsSame v (record v { yard = yard })
same-refused v yard Depot refused = record {
  rows = refl;
  objects = refused.0.content_is;
  blocks = ap (λ (y : YardValue). y.shelf.content) refused.1;
  setting = ap (λ (y : YardValue). y.setting) refused.1;
  staged = ap (λ (y : YardValue). y.staged) refused.1;
}
same-refused v yard Shelf refused = record {
  rows = refl;
  objects = ap (λ (y : YardValue). y.depot.content) refused.1;
  blocks = refused.0.content_is;
  setting = ap (λ (y : YardValue). y.setting) refused.1;
  staged = ap (λ (y : YardValue). y.staged) refused.1;
}
same-refused v yard Memory refused = record {
  rows = refl;
  objects = ap (λ (y : YardValue). y.depot.content) refused;
  blocks = ap (λ (y : YardValue). y.shelf.content) refused;
  setting = ap (λ (y : YardValue). y.setting) refused;
  staged = ap (λ (y : YardValue). y.staged) refused;
}

-- a block was read, or reading it was refused
pub same-gets : (v : Shared) (yard : YardValue) (client : ℕ) (name : List ℕ) (result : Result (Option (List ℕ)) YardFault) → GetsBlock client name v.yard yard result
    → HoldsSame v (record v { yard = yard })
same-gets v yard client name (Ok value) got = subst (λ (y : YardValue). HoldsSame v (record v { yard = y })) (sym got.0) (same-none v)
same-gets v yard client name (Err fault) refused = same-refused v yard fault refused

-- ---- what they keep

pub same-stays : (own : ℕ) (g : Known) (v v' : Shared) → HoldsSame v v' → KeepsShared own g g v v'
same-stays own g v v' same = record {
  setting = same.setting;
  keeps = subst (λ (rows : Rows). Keeps own (rows_in v) rows g g) (ap typed_in (sym same.rows)) (keeps-none own (rows_in v) g);
  direct = subst (λ (blocks : Blocks). Grows (depot_in v) blocks) depot_same (grows-none (depot_in v));
}
  where
    depot_same : depot_in v ≡ depot_in v'
    depot_same = λ i. depot_blocks (sym same.setting i) (sym same.objects i)

-- The tree is the same.
pub same-store : (t : Tree) (g : Known) (v v' : Shared) → HoldsSame v v' → HasStore t g v → HasStore t g v'
same-store t g v v' same s = record {
  rows = s.rows;
  rows_are = same.rows ∙ s.rows_are;
  whole = s.whole;
  sized = s.sized;
  setting = s.setting ∙ ap Some (sym same.setting);
  objects = s.objects;
  objects_are = same.objects ∙ s.objects_are;
  staged = s.staged;
  staged_are = same.blocks ∙ s.staged_are;
  there = subst (λ (y : YardValue). AreStored y.setting.block (typed s.rows) (blocks_in y.setting s.objects) (staged_in y s.staged)) yard_same s.there;
  copies = subst (λ (x : Setting). Grows (blocks_in x s.objects) g.blocks) (sym same.setting) s.copies;
  staged_copies = λ client. subst (λ (y : YardValue). Grows (staged_in y s.staged client) g.blocks) yard_same (s.staged_copies client);
  kept = KeepsStaged-same v.yard v'.yard same.setting same.blocks same.staged s.kept;
  below = s.below;
  tree = s.tree ∙ ap (λ (x : Setting). tree_with (known_by x.block g.blocks) (typed s.rows)) (sym same.setting);
  direct = subst (λ (x : Setting). HasBlocks x.block (typed s.rows) (blocks_in x s.objects)) (sym same.setting) s.direct;
}
  where
    -- setting and what is staged are the same, on which the blocks of the yard depend
    yard_same : v.yard ≡ record v.yard { setting = v'.yard.setting; staged = v'.yard.staged }
    yard_same = λ i. record v.yard { setting = sym same.setting i; staged = sym same.staged i }

pub same-leads : (own : ℕ) (t : Tree) (g : Known) (v v' : Shared) → HoldsSame v v' → HasStore t g v → Leads own t g g v v'
same-leads own t g v v' same s = record { store = same-store t g v v' same s; kept = same-stays own g v v' same }
