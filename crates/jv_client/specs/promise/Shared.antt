-- What all clients share, put together from what is seen of the devices.
use Rattle.jv_outside.specs.promise.Carriage.{Carriage}
use Rattle.jv_outside.specs.promise.Store.{Store}
use Rattle.jv_yard.specs.promise.YardValue.{YardValue}
use Rattle.jv_client_shared.specs.promise.Shared.{Shared}

abbrev pub shared : Store → YardValue → Carriage → Shared
shared keeper yard carrier = record { keeper = keeper; yard = yard; carrier = carrier }
