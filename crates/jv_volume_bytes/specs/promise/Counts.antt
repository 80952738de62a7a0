-- How many records there are, and what a transaction on lists leaves of the slices that it doesn't
-- make.
use Rattle.std.specs.Prelude.{ℕ, length, Some}
use Rattle.jv_model.specs.promise.FiniteMap.{sum_over}
use Rattle.jv_volume.specs.promise.TypedRows.{Rows}
use Rattle.jv_volume.specs.promise.Slices.{listed}

-- how many records all lists have together
unfoldable pub record_count : Rows → ℕ
record_count rows = sum_over (λ key cell. length (listed key (Some cell))) rows
