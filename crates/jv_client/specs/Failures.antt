-- What only inner contracts cite: of `promise/Failures`.
use Rattle.std.specs.Prelude.{Bool, false}
use Rattle.jv_model.specs.declared.fault.Device.{Device}
use Rattle.jv_client.specs.declared.made.Made.{Made}
use Rattle.jv_client.specs.declared.made.Made.TheVariants as made
use Rattle.jv_client.specs.promise.Failures.{is_failure_of}

-- an answer without a request is that the device failed
abbrev pub says_failure : Device → Made → Bool
says_failure device (made.Request kind) = false
says_failure device (made.Answer told reply) = is_failure_of device told
says_failure device (made.Both kind told reply) = false
says_failure device (made.Broken key bytes) = false
