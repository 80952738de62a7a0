-- What lines leave while each block goes to the depot at once and none is removed. It is the field
-- `direct` of the contracts that say it, as `KeepsShelf` is, and stands beside what holds for good.
use Rattle.jv_volume_bytes.specs.promise.Blocks.{Grows}
use Rattle.jv_client_shared.specs.promise.Shared.{Shared, depot_in}

-- each block that the depot had it has later, with its bytes
abbrev pub BlocksStay : Shared → Shared → Type 0
BlocksStay before after = Grows (depot_in before) (depot_in after)
