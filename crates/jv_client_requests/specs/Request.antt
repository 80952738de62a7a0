-- What a step of a client leads to, but for what the client in memory becomes.
use Rattle.std.specs.Prelude.{◌≢◌, ℕ, ◌+◌, ◌≤◌, Bool, List, length}
use Rattle.jv_model.specs.declared.act.ActKind.{ActKind}
use Rattle.jv_model.specs.declared.op.Step.{Step}
use Rattle.jv_model.specs.promise.tree.Tree.{Tree}
use Rattle.jv_model.specs.promise.client.ModelClient.{ModelClient}
use Rattle.jv_model.specs.promise.journal.State.{State}
use Rattle.jv_model.specs.promise.journal.Steps.{Start}
use Rattle.jv_model.specs.journal.Stepping.{AllowsStep, stepped_by}
use Rattle.jv_volume.specs.promise.TypedRows.{Rows}
use Rattle.jv_volume.specs.promise.Slices.{next_slice}
use Rattle.jv_volume.specs.Holding.{Stays}
use Rattle.jv_volume.specs.Whole.{FilesDrop}
use Rattle.jv_volume_bytes.specs.promise.Counts.{record_count}
use Rattle.jv_volume_bytes.specs.Flights.{Flight}
use Rattle.jv_client_shared.specs.Flying.{Flies}
use Rattle.jv_client_shared.specs.Keeping.{Leads}
use Rattle.jv_client_shared.specs.promise.Shared.{Known, Shared}
use Rattle.jv_client_shared.specs.Shared.{rows_in}
use Rattle.jv_model_steps.specs.Leaves.{Leaves}

-- The numbers of slices and of records are no greater than a run's start and its entries allow.
pub record IsWithin (start : Start) (s : State) (rows : Rows) : Type 0 where
  pub numbers : next_slice rows ≤ start.next_slice + s.count
  pub records : record_count rows ≤ start.records + s.count + s.copied

-- A slice in flight is another one's, whose number isn't `mine`; it is neither the step's own nor
-- the client's own afterwards.
pub record IsApart (g : Known) (v : Shared) (mine own after : ℕ) : Type 0 where
  pub own_apart : (f : Flight) → Flies g v f → f.id ≢ mine → f.id ≢ own
  pub new_apart : (f : Flight) → Flies g v f → f.id ≢ mine → f.id ≢ after

-- The model allows these entries as a step, and they lead to this client, to this tree, to `copied`
-- bytes copied in all, and to devices that stand for the tree. Of what is known, of numbers, and of
-- what other clients hold nothing is lost, and dropped rows come for just the files that go.
-- `mine` is the number of the client's slice in flight before the step, `after` that after it, and 0
-- stands for none.
pub record Request (s : State) (g learned : Known) (before v : Shared) (client now mine after : ℕ)
    (kinds : List ActKind) (step : Step) (t : Tree) (c : ModelClient) (copied : ℕ) : Type 0 where
  pub own : ℕ
  pub allows : (start : Start) (alone : Bool) → IsWithin start s (rows_in before)
      → AllowsStep start alone s client now kinds step
  pub within : (start : Start) → IsWithin start s (rows_in before)
      → IsWithin start (stepped_by s client now kinds) (rows_in v)
  pub leaves : Leaves s (stepped_by s client now kinds) client (length kinds) t c copied
  pub leads : Leads own (stepped_by s client now kinds).tree g learned before v
  pub apart : IsApart g before mine own after
  pub stays : Stays s.tree (stepped_by s client now kinds).tree
  pub drops : FilesDrop (rows_in before) (rows_in v)
