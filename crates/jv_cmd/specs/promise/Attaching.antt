-- Where a session opens the devices for blocks and in which order, and how its yard is started over
-- them.
use Rattle.std.specs.Prelude.{◌≡◌, ℕ, List, Ok, Err}
use Rattle.jv_model.specs.declared.fault.Device.{Device}
use Rattle.jv_model.specs.declared.fault.Device.TheVariants as device
use Rattle.jv_model.specs.declared.fault.Down.{Down}
use Rattle.jv_model.specs.declared.fault.Down.TheVariants.{Failed, Memory}
use Rattle.jv_outside.specs.promise.Carriage.{Moves}
use Rattle.jv_outside.specs.promise.Causes.{RoseTimes}
use Rattle.jv_outside.specs.promise.Holding.{Attaches}
use Rattle.jv_yard.specs.declared.faults.YardFault.{YardFault}
use Rattle.jv_yard.specs.declared.faults.YardFault.TheVariants as fault
use Rattle.jv_yard.specs.promise.Starting.{ShelfRefuses}
use Rattle.jv_cmd.specs.declared.ended.Ended.{Ended}
use Rattle.jv_cmd.specs.declared.ended.Ended.TheVariants.{DepotFailed, CarrierFailed, ShelfFailed, OutOfMemory}
use Rattle.jv_cmd.specs.promise.Worlds.{BlockDevices}

-- how a command ends at a device's error, where it ends so if the device failed
abbrev pub ended_at : Ended → Down → Ended
ended_at failed Failed = failed
ended_at failed Memory = OutOfMemory

-- the depot and the carrier were opened at the bucket, and the shelf at the folder; what they hold
-- is the same, or no longer known
pub record AreAttached (bucket folder : List ℕ) (before after : BlockDevices) : Type 0 where
  pub depot : Attaches before.depot after.depot (Ok tt) bucket
  pub carrier : Moves before.carrier after.carrier (Ok tt) bucket
  pub shelf : Attaches before.shelf after.shelf (Ok tt) folder

-- The first of depot, carrier and shelf that isn't opened: those before it were, and those after it
-- are as they were.
pub data CannotAttach (bucket folder : List ℕ) (before after : BlockDevices)
    (ended : Ended) : Type 0 where
  NoDepot : (down : Down) → ended ≡ ended_at DepotFailed down
      → Attaches before.depot after.depot (Err down) bucket
      → after.carrier ≡ before.carrier → after.shelf ≡ before.shelf
      → CannotAttach bucket folder before after ended
  NoCarrier : (down : Down) → ended ≡ ended_at CarrierFailed down
      → Attaches before.depot after.depot (Ok tt) bucket
      → Moves before.carrier after.carrier (Err down) bucket → after.shelf ≡ before.shelf
      → CannotAttach bucket folder before after ended
  NoShelf : (down : Down) → ended ≡ ended_at ShelfFailed down
      → Attaches before.depot after.depot (Ok tt) bucket
      → Moves before.carrier after.carrier (Ok tt) bucket
      → Attaches before.shelf after.shelf (Err down) folder
      → CannotAttach bucket folder before after ended

-- how a command ends where the yard isn't started
abbrev pub ended_by_yard : YardFault → Ended
ended_by_yard fault.Depot = DepotFailed
ended_by_yard fault.Shelf = ShelfFailed
ended_by_yard fault.Memory = OutOfMemory

-- The blocks on the shelf weren't read, and depot and carrier are as they were.
pub record CannotStart (before after : BlockDevices) (ended : Ended) : Type 0 where
  pub fault : YardFault
  pub ended_is : ended ≡ ended_by_yard fault
  pub shelf : ShelfRefuses before.shelf after.shelf fault
  pub depot : after.depot ≡ before.depot
  pub carrier : after.carrier ≡ before.carrier

-- They are open where they were, by `direct` the shelf has the blocks that it had, and each of them
-- failed as often as `answers` says.
pub record UsesBlocks (answers : Device → ℕ) (before after : BlockDevices) : Type 0 where
  pub depot_at : after.depot.opened ≡ before.depot.opened
  pub shelf_at : after.shelf.opened ≡ before.shelf.opened
  pub carrier_at : after.carrier.opened ≡ before.carrier.opened
  pub direct : after.shelf.content ≡ before.shelf.content
  pub depot : RoseTimes (answers device.Depot) before.depot.faults after.depot.faults
  pub shelf : RoseTimes (answers device.Shelf) before.shelf.faults after.shelf.faults
  pub carrier : RoseTimes (answers device.Carrier) before.carrier.faults after.carrier.faults
