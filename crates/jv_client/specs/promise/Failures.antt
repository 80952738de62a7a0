-- Which device an answer says to have failed.
use Rattle.std.specs.Prelude.{Bool, true, false}
use Rattle.jv_model.specs.declared.act.Told.{Told}
use Rattle.jv_model.specs.declared.act.Told.TheVariants.{Refused as ToldRefused}
use Rattle.jv_model.specs.declared.fault.Device.{Device}
use Rattle.jv_model.specs.declared.fault.Device.TheVariants.{Keeper, Depot, Shelf, Carrier}
use Rattle.jv_model.specs.declared.fault.Fault.TheVariants.{DeviceFailed}

abbrev pub is_same_device : Device → Device → Bool
is_same_device Keeper Keeper = true
is_same_device Depot Depot = true
is_same_device Shelf Shelf = true
is_same_device Carrier Carrier = true
is_same_device _ _ = false

-- the answer is that the device failed
abbrev pub is_failure_of : Device → Told → Bool
is_failure_of device (ToldRefused (DeviceFailed failed)) = is_same_device device failed
is_failure_of device _ = false
