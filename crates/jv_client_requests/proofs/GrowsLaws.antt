-- How many more numbers and records there are once a keeper has other rows.
use Rattle.std.proofs.Common.{◌≡◌, ℕ, ◌+◌, ◌≤◌, List, length, Some, ap, arith}
use Rattle.jv_model.specs.declared.act.ActKind.{ActKind}
use Rattle.jv_model.specs.declared.op.Step.{Step}
use Rattle.jv_model.specs.promise.rows.RowKeys.{RowMap}
use Rattle.jv_model.specs.promise.tree.Tree.{Tree}
use Rattle.jv_model.specs.promise.client.ModelClient.{ModelClient}
use Rattle.jv_model.specs.promise.journal.State.{State}
use Rattle.jv_outside.specs.promise.Store.{Store}
use Rattle.jv_volume.specs.promise.TypedRows.{typed}
use Rattle.jv_volume.specs.promise.Slices.{next_slice}
use Rattle.jv_volume_bytes.specs.promise.Counts.{record_count}
use Rattle.jv_client_shared.specs.promise.Shared.{HasStore, Known, Shared}
use Rattle.jv_client_shared.specs.Shared.{rows_in, typed_in}
use Rattle.jv_client_shared.proofs.StoreLaws.{rows_are}
use Rattle.jv_client_requests.proofs.RequestLaws.{Grows}

-- numbers and records, counted over the rows that there were and those left
pub left-grows : (s : State) (g learned : Known) (v : Shared) (store : HasStore s.tree g v) (client now : ℕ)
    (kinds : List ActKind) (step : Step) (t : Tree) (c : ModelClient) (copied : ℕ) (keeper : Store) (left : RowMap)
    → keeper.rows ≡ Some left
    → next_slice (typed left) ≤ next_slice (typed store.rows) + length kinds
    → record_count (typed left) + s.copied ≤ record_count (typed store.rows) + length kinds + copied
    → Grows s g learned v (record v { keeper = keeper }) client now kinds step t c copied
left-grows s g learned v store client now kinds step t c copied keeper left is numbers records =
    let was : next_slice (rows_in v) ≡ next_slice (typed store.rows) = ap next_slice (rows_are s.tree g v store) in
    let after : next_slice (typed_in keeper.rows) ≡ next_slice (typed left) =
    ap (λ rows. next_slice (typed_in rows)) is in
    let were : record_count (rows_in v) ≡ record_count (typed store.rows) =
    ap record_count (rows_are s.tree g v store) in
    let are : record_count (typed_in keeper.rows) ≡ record_count (typed left) =
    ap (λ rows. record_count (typed_in rows)) is in
    record { numbers = omega (arith, was, after, numbers); records = omega (arith, were, are, records) }
