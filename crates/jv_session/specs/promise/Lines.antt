-- What the call for one line of a script does.
use Rattle.std.specs.Prelude.{◌≡◌, ℕ, List, count_by}
use Rattle.jv_model.specs.declared.act.Act.{Act}
use Rattle.jv_model.specs.declared.fault.Device.{Device}
use Rattle.jv_client_shared.specs.promise.Shared.{Shared}
use Rattle.jv_client.specs.promise.Direct.{KeepsShelf}
use Rattle.jv_client.specs.promise.Makes.{is_failure_entry}
use Rattle.jv_session.specs.promise.Growing.{YardGrows}

-- how many entries answer that the device failed
abbrev pub device_failures : Device → List Act → ℕ
device_failures device = count_by (λ act. is_failure_entry device act.kind)

-- and how often it is answered that a device failed, by device
abbrev pub AreFailures : List Act → (Device → ℕ) → Type 0
AreFailures acts failed = (device : Device) → device_failures device acts ≡ failed device

-- Devices are open where they were. The yard is one of the same volume, which blocks were put into,
-- and by `direct` the shelf has the blocks that it had.
pub record StaysPut (before after : Shared) : Type 0 where
  pub keeper_at : after.keeper.opened ≡ before.keeper.opened
  pub carrier_at : after.carrier.opened ≡ before.carrier.opened
  pub depot_at : after.yard.depot.opened ≡ before.yard.depot.opened
  pub shelf_at : after.yard.shelf.opened ≡ before.yard.shelf.opened
  pub direct : KeepsShelf before after
  pub setting : after.yard.setting ≡ before.yard.setting
  pub grows : YardGrows before.yard after.yard
