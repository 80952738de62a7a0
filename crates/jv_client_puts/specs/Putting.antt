-- Putting one block of a slice where the volume's objects are: the carrier sends it, and the depot
-- publishes it.
use Rattle.std.specs.Prelude.{◌≡◌, ℕ, Result, Ok, Err}
use Rattle.jv_model.specs.declared.fault.Device.TheVariants.{Carrier as OfCarrier, Depot as OfDepot}
use Rattle.jv_model.specs.declared.fault.Down.{Down}
use Rattle.jv_model.specs.declared.fault.Down.TheVariants.{Failed, Memory as OutOfMemory}
use Rattle.jv_model.specs.declared.fault.Fault.{Fault}
use Rattle.jv_model.specs.declared.fault.Fault.TheVariants.{DeviceFailed, NoMemory}
use Rattle.jv_model.specs.promise.blocks.BlockNames.{name_in}
use Rattle.jv_outside.specs.declared.parcel.Parcel.{Parcel}
use Rattle.jv_outside.specs.promise.Carriage.{Carriage, FailsToCarry, IsAt}
use Rattle.jv_outside.specs.Parcels.{StandsFor}
use Rattle.jv_volume_bytes.specs.Flights.{Flight, flight_block, flight_bytes}
use Rattle.jv_yard.specs.declared.faults.YardFault.TheVariants.{Depot as YardDepot}
use Rattle.jv_yard.specs.BlockCalls.{IsPut}
use Rattle.jv_yard.specs.Refusals.{Refuses}
use Rattle.jv_yard.specs.promise.YardValue.{YardValue}
use Rattle.jv_client_puts.specs.declared.putting.PutFault.{PutFault}
use Rattle.jv_client_puts.specs.declared.putting.PutFault.TheVariants.{Carrier, Depot, Memory}

-- a parcel for the next block of a flight, with its bytes and this moment, was put for a client
pub record IsNextPut (client now : ℕ) (f : Flight) (before after : YardValue) : Type 0 where
  pub parcel : Parcel
  pub stands : StandsFor parcel (name_in before.setting (flight_block before.setting.block f f.put))
      (flight_bytes before.setting.block f f.put) now
  pub put : IsPut client parcel before after

-- no call of the carrier failed, and it is where it was
abbrev pub IsCalm : Carriage → Carriage → Type 0
IsCalm was is = IsAt was is was.opened

-- The put of the next block of a flight, by the result. Only the device that failed counts a fault.
abbrev pub PutsFlight : (client now : ℕ) → Flight → YardValue → YardValue → Carriage → Carriage
    → Result (Unit {0}) PutFault → Type 0
PutsFlight client now f before after was is (Ok unit) =
    IsNextPut client now f before after × IsCalm was is
PutsFlight client now f before after was is (Err Carrier) =
    (after ≡ before) × FailsToCarry was is Failed
PutsFlight client now f before after was is (Err Depot) =
    Refuses before after YardDepot × IsCalm was is
PutsFlight client now f before after was is (Err Memory) = (after ≡ before) × IsCalm was is

-- what an error of the carrier is to a put
abbrev pub carrier_fault_of : Down → PutFault
carrier_fault_of Failed = Carrier
carrier_fault_of OutOfMemory = Memory

-- what an operation answers where a block wasn't put
abbrev pub fault_of : PutFault → Fault
fault_of Carrier = DeviceFailed OfCarrier
fault_of Depot = DeviceFailed OfDepot
fault_of Memory = NoMemory
