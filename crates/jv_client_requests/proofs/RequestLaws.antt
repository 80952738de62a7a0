-- A request from its parts: a step of the model, devices that stand for the tree that it leads to, and how many numbers
-- and records came.
use Rattle.std.proofs.Common.{◌≡◌, ℕ, ◌+◌, ◌≤◌, Bool, true, List, [], length, Option, Some, sym, subst, arith}
use Rattle.jv_model.specs.declared.act.ActKind.{ActKind}
use Rattle.jv_model.specs.declared.op.Step.{Step}
use Rattle.jv_model.specs.promise.tree.Tree.{Tree}
use Rattle.jv_model.specs.promise.client.ModelClient.{ModelClient}
use Rattle.jv_model.specs.promise.journal.State.{State}
use Rattle.jv_model.specs.promise.journal.Steps.{Start}
use Rattle.jv_model.specs.promise.rows.RowKeys.{RowMap}
use Rattle.jv_volume.specs.promise.TypedRows.{Rows, typed}
use Rattle.jv_volume.specs.Whole.{FilesDrop}
use Rattle.jv_volume.proofs.stored.QuietLaws.{drop-none}
use Rattle.jv_volume.specs.promise.Slices.{next_slice}
use Rattle.jv_volume.specs.Holding.{Stays}
use Rattle.jv_volume_bytes.specs.promise.Counts.{record_count}
use Rattle.jv_client_shared.specs.Keeping.{Leads}
use Rattle.jv_client_shared.specs.promise.Shared.{Known, Shared}
use Rattle.jv_client_shared.specs.Shared.{rows_in, typed_in}
use Rattle.jv_model_steps.specs.IsStep.{IsStep}
use Rattle.jv_client_requests.specs.Request.{IsApart, IsWithin, Request}

-- a run that began with these rows
abbrev pub begun_with : Tree → Rows → Start
begun_with t rows = record {
  tree = t;
  shelved = λ inode position. [];
  next_slice = next_slice rows;
  records = record_count rows;
}

begun-within : (s : State) (rows : Rows) → IsWithin (begun_with s.tree rows) s rows
begun-within s rows = record { numbers = omega arith; records = omega arith }

-- ---- the rows of files that go

pub drops-known : (before v : Shared) (known left : RowMap) → before.keeper.rows ≡ Some known → v.keeper.rows ≡ Some left
    → FilesDrop (typed known) (typed left) → FilesDrop (rows_in before) (rows_in v)
drops-known before v known left was is d =
    subst (λ (o : Option RowMap). FilesDrop (typed_in o) (rows_in v)) (sym was)
    (subst (λ (o : Option RowMap). FilesDrop (typed known) (typed_in o)) (sym is) d)

pub drops-same : (before v : Shared) → v.keeper.rows ≡ before.keeper.rows → FilesDrop (rows_in before) (rows_in v)
drops-same before v same =
    subst (λ (o : Option RowMap). FilesDrop (rows_in before) (typed_in o)) (sym same) (drop-none (rows_in before))

module _ (s : State) (g learned : Known) (before v : Shared) (client now : ℕ) (kinds : List ActKind) (step : Step)
    (t : Tree) (c : ModelClient) (copied : ℕ) where
  -- how many more numbers and records there are
  pub record Grows : Type 0 where
    pub numbers : next_slice (rows_in v) ≤ next_slice (rows_in before) + length kinds
    pub records : record_count (rows_in v) + s.copied ≤ record_count (rows_in before) + length kinds + copied

  pub request-of : (mine own after : ℕ)
      → ((start : Start) (alone : Bool) → IsWithin start s (rows_in before)
      → IsStep start alone s client now kinds step t c copied)
      → Leads own t g learned before v → Grows → IsApart g before mine own after → Stays s.tree t
      → FilesDrop (rows_in before) (rows_in v)
      → Request s g learned before v client now mine after kinds step t c copied
  request-of mine own after steps leads grows apart stays drops =
      let leaves = (steps (begun_with s.tree (rows_in before)) true (begun-within s (rows_in before))).leaves in
      record {
        own = own;
        allows = λ start alone within. (steps start alone within).allows;
        within = λ start within.
            (let count = leaves.count in let copied_is = leaves.copied_is in
            let numbers = within.numbers in let records = within.records in
            let more = grows.numbers in let more_records = grows.records in
            record {
              numbers = omega (arith, count, numbers, more);
              records = omega (arith, count, copied_is, records, more_records);
            });
        leaves = leaves;
        leads = subst (λ (t : Tree). Leads own t g learned before v) (sym leaves.tree) leads;
        apart = apart;
        stays = subst (λ (t : Tree). Stays s.tree t) (sym leaves.tree) stays;
        drops = drops;
      }
