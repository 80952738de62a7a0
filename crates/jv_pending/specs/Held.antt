-- What contracts see of the pending bytes.
use Rattle.std.specs.Prelude.{◌≡◌, ◌≤◌, ℕ, List, length}
use Rattle.jv_model.specs.promise.client.Pending.{PendingByte}
use Rattle.jv_pending.specs.Runs.{Run, InOrder, pending_bytes}

-- the bytes in rising order of their places, and how many there may be
pub record PendingValue : Type 0 where
  pub bytes : List PendingByte
  pub limit : ℕ

-- the runs are in order, and their bytes are counted and within the limit
pub record IsSound (runs : List Run) (held limit : ℕ) : Type 0 where
  pub order : InOrder 0 runs
  pub count : held ≡ length (pending_bytes runs)
  pub limited : held ≤ limit
