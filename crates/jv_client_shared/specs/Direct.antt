-- What holds while each block goes to the depot at once and none is removed. These parts, and
-- `direct` of a store (`HasStore`) and of a step (`KeepsShared`), stand beside those that hold for
-- good, which speak of the blocks that are stored or that there ever were.
use Rattle.std.specs.Prelude.{◌≢◌, ℕ, List}
use Rattle.std.specs.List.{AllByRecursion}
use Rattle.jv_model.specs.declared.slice.Rec.{Rec}
use Rattle.jv_volume_bytes.specs.promise.Blocks.{Blocks, IsThere}
use Rattle.jv_volume_bytes.specs.Flights.{EachPut, Flight}
use Rattle.jv_client_shared.specs.Seen.{SliceIsThere}

-- the depot has each block of the slices that records name
abbrev pub HasNamed : ℕ → Blocks → List Rec → Type 0
HasNamed block depot list =
    AllByRecursion (λ r. r.id ≢ 0 → SliceIsThere block depot r.id r.size) list

-- the depot has the blocks of a slice in flight that were put
abbrev pub HasPut : ℕ → Blocks → Flight → Type 0
HasPut block depot f = EachPut (IsThere depot) block f
