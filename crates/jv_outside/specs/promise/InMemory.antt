-- What contracts see of the devices in memory.
use Rattle.std.specs.Prelude.{ℕ, List, Option}
use Rattle.jv_outside.specs.promise.Stream.{Stream}

-- bytes of a device that never fails
abbrev pub never_failing : Option (List ℕ) → Stream
never_failing content = record { content = content; faults = 0 }
