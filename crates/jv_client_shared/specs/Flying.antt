-- A client's slice in flight: it has a number, and its first blocks were put.
use Rattle.std.specs.Prelude.{◌≡◌, ℕ, length}
use Rattle.jv_volume.specs.promise.TypedRows.{Rows}
use Rattle.jv_volume_bytes.specs.Flights.{Flight, InFlight}
use Rattle.jv_client_shared.specs.promise.Shared.{Known, Shared}
use Rattle.jv_client_shared.specs.Shared.{rows_in}

-- The blocks that were put have their bytes for good, and no other block that there ever was has
-- the slice's number. Its size is known.
pub record IsFlying (block : ℕ) (rows : Rows) (g : Known) (f : Flight) : Type 0 where
  pub ever : InFlight block rows g.blocks f
  pub size : g.sizes f.id ≡ length f.bytes

-- a slice in flight, over what clients share
abbrev pub Flies : Known → Shared → Flight → Type 0
Flies g v f = IsFlying v.yard.setting.block (rows_in v) g f
