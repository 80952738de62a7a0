-- Requests that are one transaction on the keeper's rows: they lead to the tree of the rows left.
use Rattle.std.proofs.Common.{◌≡◌, ℕ, ◌+◌, ◌≤◌, Bool, List, length, Some, sym, subst, arith}
use Rattle.jv_model.specs.declared.act.ActKind.{ActKind}
use Rattle.jv_model.specs.declared.op.Op.{Op}
use Rattle.jv_model.specs.declared.op.Step.{Step}
use Rattle.jv_model.specs.promise.rows.RowKeys.{RowMap}
use Rattle.jv_model.specs.promise.tree.Tree.{Tree}
use Rattle.jv_model.specs.promise.tree.Caller.{Caller, Outcome}
use Rattle.jv_model.specs.promise.tree.TreeAct.{tree_act}
use Rattle.jv_model.specs.promise.client.ModelClient.{ModelClient}
use Rattle.jv_model.specs.promise.journal.State.{State}
use Rattle.jv_model.specs.promise.journal.Steps.{Start}
use Rattle.jv_outside.specs.promise.Store.{Store}
use Rattle.jv_volume.specs.promise.TypedRows.{typed}
use Rattle.jv_volume.specs.Whole.{FilesDrop}
use Rattle.jv_volume.specs.promise.Shape.{WholeShape, shape_of}
use Rattle.jv_volume.specs.Holding.{Stays}
use Rattle.jv_volume.specs.promise.Whole.{Whole}
use Rattle.jv_volume.proofs.holding.HoldingLaws.{stays-tree_act}
use Rattle.jv_volume.proofs.stored.StoredLaws.{whole-shape}
use Rattle.jv_volume_bytes.specs.promise.Blocks.{known_by}
use Rattle.jv_volume_bytes.specs.promise.Bytes.{KnownBytes, bytes_of, tree_with}
use Rattle.jv_volume_bytes.specs.Counts.{KeepsOthers}
use Rattle.jv_client_shared.specs.promise.Shared.{HasStore, Known, Shared}
use Rattle.jv_client_shared.proofs.RowStepLaws.{others-lead}
use Rattle.jv_model_steps.specs.IsStep.{IsStep}
use Rattle.jv_client_requests.specs.Request.{Request}
use Rattle.jv_client_requests.proofs.GrowsLaws.{left-grows}
use Rattle.jv_client_requests.proofs.RequestLaws.{Grows, drops-known, request-of}
use Rattle.jv_client_requests.proofs.StillLaws.{apart-none}

module _ (t : Tree) (g : Known) (v : Shared) (has : HasStore t g v) where
  -- what is known of slices
  abbrev pub known_in : KnownBytes
  known_in = known_by v.yard.setting.block g.blocks

  pub store-shape : WholeShape (shape_of t)
  store-shape = subst (λ (u : Tree). WholeShape (shape_of u)) (sym has.tree)
      (whole-shape (bytes_of known_in (typed has.rows)) (typed has.rows) has.whole)

  -- what clients hold they may still hold after any transaction of the tree
  pub acted-stays : (who : Caller) (o : Op) (after : Outcome) → tree_act t who o ≡ after → Stays t after.tree
  acted-stays who o after e = subst (λ (done : Outcome). Stays t done.tree) e (stays-tree_act t who store-shape o)

module _ (s : State) (g : Known) (v : Shared) (has : HasStore s.tree g v) (client now flying : ℕ)
    (keeper : Store) where
  abbrev after : Shared
  after = record v { keeper = keeper }

  -- the tree of rows that are left
  abbrev pub tree_left : RowMap → Tree
  tree_left left = tree_with (known_by v.yard.setting.block g.blocks) (typed left)

  module _ (left : RowMap) (is : keeper.rows ≡ Some left) (whole : Whole (typed left)) (more : ℕ)
      (others : KeepsOthers 0 more (typed has.rows) (typed left)) (drops : FilesDrop (typed has.rows) (typed left)) (stays : Stays s.tree (tree_left left))
      (kinds : List ActKind) (step : Step) (c : ModelClient) (copied : ℕ) where
    landed-grows : more + s.copied ≤ length kinds + copied
        → Grows s g g v after client now kinds step (tree_left left) c copied
    landed-grows few =
        let next = others.next in
        let many = others.records in
        left-grows s g g v has client now kinds step (tree_left left) c copied keeper left is (omega (arith, next))
        (omega (arith, many, few))

    -- A transaction that makes no slice, and adds no more records than the model counts for it.
    pub landed-request : more + s.copied ≤ length kinds + copied
        → ((start : Start) (alone : Bool) → IsStep start alone s client now kinds step (tree_left left) c copied)
        → Request s g g v after client now flying flying kinds step (tree_left left) c copied
    landed-request few steps =
        request-of s g g v after client now kinds step (tree_left left) c copied flying 0 flying
        (λ start alone within. steps start alone)
        (others-lead s.tree g v has keeper v.carrier left more is whole others stays.setting) (landed-grows few)
        (apart-none g v flying) stays (drops-known v after has.rows left has.rows_are is drops)
