-- Requests after which devices hold what they held: they lead to the same tree.
use Rattle.std.proofs.Common.{◌≡◌, ℕ, Bool, [], ◌∷◌, List, None, Some, refl, sym, ap, subst, arith}
use Rattle.std.specs.Prelude.{true, false, Result}
use Rattle.jv_model.specs.declared.act.ActKind.{ActKind}
use Rattle.jv_model.specs.declared.act.ActKind.TheVariants.{Answered}
use Rattle.jv_model.specs.declared.act.Told.TheVariants.{Refused as ToldRefused}
use Rattle.jv_model.specs.declared.fault.Device.TheVariants.{Keeper}
use Rattle.jv_model.specs.declared.fault.Down.{Down}
use Rattle.jv_model.specs.declared.fault.Down.TheVariants.{Failed, Memory}
use Rattle.jv_model.specs.declared.fault.Fault.{Fault}
use Rattle.jv_model.specs.declared.fault.Fault.TheVariants.{DeviceFailed, NoMemory}
use Rattle.jv_model.specs.declared.fault.TxFault.{TxFault}
use Rattle.jv_model.specs.declared.op.Reply.TheVariants.{Refused}
use Rattle.jv_model.specs.declared.op.Step.{Step}
use Rattle.jv_model.specs.declared.op.Step.TheVariants.{Done}
use Rattle.jv_model.specs.promise.tree.Tree.{Tree}
use Rattle.jv_model.specs.promise.client.ModelClient.{ModelClient, Doing}
use Rattle.jv_model.specs.promise.journal.State.{State}
use Rattle.jv_model.specs.promise.journal.Steps.{Start, is_failure, must_answer}
use Rattle.jv_outside.specs.promise.Store.{Store}
use Rattle.jv_rows.specs.Transactions.{Agrees, Looks}
use Rattle.jv_volume.specs.promise.TypedRows.{typed}
use Rattle.jv_volume.specs.promise.Slices.{next_slice}
use Rattle.jv_volume.specs.Holding.{Stays}
use Rattle.jv_volume_bytes.specs.promise.Blocks.{known_by}
use Rattle.jv_volume_bytes.specs.promise.Bytes.{bytes_of}
use Rattle.jv_volume_bytes.specs.promise.Counts.{record_count}
use Rattle.jv_client_shared.specs.Keeping.{HoldsSame}
use Rattle.jv_client_shared.specs.promise.Shared.{HasStore, Known, Shared}
use Rattle.jv_client_shared.specs.Shared.{rows_in, typed_in}
use Rattle.jv_client_shared.proofs.SameLaws.{same-leads}
use Rattle.jv_model_steps.specs.IsStep.{IsStep}
use Rattle.jv_model_steps.proofs.RefusalStepLaws.{failure-step}
use Rattle.jv_client_requests.specs.Request.{IsApart, IsWithin, Request}
use Rattle.jv_client_requests.proofs.RequestLaws.{Grows, drops-same, request-of}

-- a step that is about no slice is apart from those in flight, and the client keeps its own
pub apart-none : (g : Known) (v : Shared) (mine : ℕ) → IsApart g v mine 0 mine
apart-none g v mine = record {
  own_apart = λ f flies apart none. (let some = flies.ever.some in absurd (omega (arith, some, none)));
  new_apart = λ f flies apart. apart;
}

pub stays-same : (t : Tree) → Stays t t
stays-same t = record { setting = refl; next = omega arith; holdable = λ inode h. h }

-- what a reading part of a transaction finds in the rows is what it finds in the tree
pub found-in : {A : Type 0} (t : Tree) (g : Known) (v : Shared) → HasStore t g v → (after : Store)
    (result : Result A TxFault) (finds : Tree → Result A Fault) → Looks v.keeper after result finds
    → Agrees result (finds t)
found-in t g v has after result finds looks =
    subst (λ t. Agrees result (finds t)) (sym has.tree)
    (looks.agrees has.rows has.rows_are has.whole (bytes_of (known_by v.yard.setting.block g.blocks) (typed has.rows)))

-- what a call on rows that wasn't made is to the client
abbrev pub fault_of_rows : Down → Fault
fault_of_rows Failed = DeviceFailed Keeper
fault_of_rows Memory = NoMemory

fails-rows : (down : Down) → is_failure (ToldRefused (fault_of_rows down)) ≡ true
fails-rows Failed = refl
fails-rows Memory = refl

module _ (s : State) (g : Known) (v v' : Shared) (has : HasStore s.tree g v) (same : HoldsSame v v')
    (client now mine : ℕ) where
  same-grows : (kinds : List ActKind) (step : Step) (c : ModelClient)
      → Grows s g g v v' client now kinds step s.tree c s.copied
  same-grows kinds step c =
      let rows : rows_in v' ≡ rows_in v = ap typed_in same.rows in
      let numbers = ap next_slice rows in
      let records = ap record_count rows in
      record { numbers = omega (arith, numbers); records = omega (arith, records) }

  -- a step of the model that leaves the tree, where numbers are as a run's start allows
  pub still-within : (kinds : List ActKind) (step : Step) (c : ModelClient)
      → ((start : Start) (alone : Bool) → IsWithin start s (rows_in v)
      → IsStep start alone s client now kinds step s.tree c s.copied)
      → Request s g g v v' client now mine mine kinds step s.tree c s.copied
  still-within kinds step c steps =
      request-of s g g v v' client now kinds step s.tree c s.copied mine 0 mine steps
      (same-leads 0 s.tree g v v' same has) (same-grows kinds step c) (apart-none g v mine) (stays-same s.tree)
      (drops-same v v' same.rows)

  -- or whatever they are
  pub still-request : (kinds : List ActKind) (step : Step) (c : ModelClient)
      → ((start : Start) (alone : Bool) → IsStep start alone s client now kinds step s.tree c s.copied)
      → Request s g g v v' client now mine mine kinds step s.tree c s.copied
  still-request kinds step c steps = still-within kinds step c (λ start alone within. steps start alone)

  -- a device failed, or memory ran out
  pub failure-request : (d : Doing) → (s.clients client).doing ≡ Some d → must_answer d ≡ false → (fault : Fault)
      → is_failure (ToldRefused fault) ≡ true
      → Request s g g v v' client now mine mine (Answered (ToldRefused fault) ∷ []) (Done (Refused fault)) s.tree
      (record (s.clients client) { doing = None }) s.copied
  failure-request d busy goes fault fails =
      still-request (Answered (ToldRefused fault) ∷ []) (Done (Refused fault))
      (record (s.clients client) { doing = None })
      (λ start alone. failure-step start alone s client now d busy goes fault fails)

  -- the keeper failed, or memory ran out
  pub rows-failed : (d : Doing) → (s.clients client).doing ≡ Some d → must_answer d ≡ false → (down : Down)
      → Request s g g v v' client now mine mine (Answered (ToldRefused (fault_of_rows down)) ∷ [])
      (Done (Refused (fault_of_rows down))) s.tree (record (s.clients client) { doing = None }) s.copied
  rows-failed d busy goes down = failure-request d busy goes (fault_of_rows down) (fails-rows down)
