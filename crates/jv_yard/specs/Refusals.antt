-- What an error of a yard's call says.
use Rattle.std.specs.Prelude.{◌≡◌}
use Rattle.jv_model.specs.declared.fault.Device.TheVariants.{Depot as OfDepot, Shelf as OfShelf}
use Rattle.jv_model.specs.declared.fault.Down.{Down}
use Rattle.jv_model.specs.declared.fault.Down.TheVariants.{Failed, Memory}
use Rattle.jv_model.specs.declared.fault.Fault.{Fault}
use Rattle.jv_model.specs.declared.fault.Fault.TheVariants as fault
use Rattle.jv_model.specs.declared.fault.Fault.TheVariants.{DeviceFailed}
use Rattle.jv_outside.specs.promise.Holding.{FailsToHold}
use Rattle.jv_yard.specs.declared.faults.YardFault.{YardFault}
use Rattle.jv_yard.specs.declared.faults.YardFault.TheVariants.{Depot, Shelf, Memory as NoMemory}
use Rattle.jv_yard.specs.promise.YardValue.{YardValue}

-- what an error of a device is to the yard, by what it is where the device failed
abbrev pub fault_by : YardFault → Down → YardFault
fault_by failed Failed = failed
fault_by failed Memory = NoMemory

-- what a yard's fault is to a client
abbrev pub yard_fault : YardFault → Fault
yard_fault Depot = DeviceFailed OfDepot
yard_fault Shelf = DeviceFailed OfShelf
yard_fault NoMemory = fault.NoMemory

-- The named device failed and its count rose, or memory ran out. Nothing else has changed.
abbrev pub Refuses : YardValue → YardValue → YardFault → Type 0
Refuses before after Depot =
    FailsToHold before.depot after.depot Failed × (after ≡ record before { depot = after.depot })
Refuses before after Shelf =
    FailsToHold before.shelf after.shelf Failed × (after ≡ record before { shelf = after.shelf })
Refuses before after NoMemory = after ≡ before
