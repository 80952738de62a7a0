use Rattle.std.proofs.Common.{◌≡◌, ◌+◌, drop}
use Rattle.jv_model.specs.promise.client.ModelClient.{free_from}
use Rattle.jv_client_handles.proofs.table.free_handle.Given as goal

abbrev pub invariant-loop-open : goal.invariant-loop-open
invariant-loop-open l =
    (l.handle ≡ l.open-index + 1) × (free_from l.handle (drop l.open-index l.handles) ≡ free_from 1 l.handles)
