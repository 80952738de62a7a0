-- What a step makes of a client and of what all clients share.
use Rattle.std.specs.Prelude.{Bool, false}
use Rattle.jv_model.specs.declared.act.ActKind.{ActKind}
use Rattle.jv_model.specs.declared.act.ActKind.TheVariants.{Answered}
use Rattle.jv_model.specs.declared.fault.Device.{Device}
use Rattle.jv_client.specs.promise.Failures.{is_failure_of}

-- an entry answers that the device failed
abbrev pub is_failure_entry : Device → ActKind → Bool
is_failure_entry device (Answered told) = is_failure_of device told
is_failure_entry device _ = false
