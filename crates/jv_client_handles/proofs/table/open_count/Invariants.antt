use Rattle.std.proofs.Common.{◌≡◌, ◌+◌, ◌≤◌, drop}
use Rattle.jv_model.specs.promise.client.ModelClient.{open_count}
use Rattle.jv_client_handles.proofs.table.open_count.Given as goal

abbrev pub invariant-loop-open : goal.invariant-loop-open
invariant-loop-open l =
    (l.count + open_count (drop l.open-index l.handles) ≡ open_count l.handles) × (l.count ≤ l.open-index)
