-- What a door of a yard does.
use Rattle.std.specs.Prelude.{Option, IfSome}
use Rattle.jv_yard.specs.promise.YardValue.{YardValue}
use Rattle.jv_yard.specs.Later.{Later}

-- the yard that is taken is later than the one given last
abbrev pub IsTaken : Option YardValue → YardValue → Type 0
IsTaken given yard = IfSome given (λ before. Later before yard)
