-- Steps of an operation, the first refusal of which is its answer.
use Rattle.std.specs.Prelude.{Bool, true, false, Option, None, Some, Result, Ok, Err}
use Rattle.jv_model.specs.declared.fault.Fault.{Fault}

-- goes on with the value, unless there was a refusal
infixl 10 ◌>>=◌
abbrev pub ◌>>=◌ : {A B : Type 0} → Result A Fault → (A → Result B Fault) → Result B Fault
Ok x >>= next = next x
Err fault >>= next = Err fault

-- refuses where a test fails
abbrev pub require : Bool → Fault → Result (Unit {0}) Fault
require true fault = Ok tt
require false fault = Err fault

-- refuses where a value is absent
abbrev pub some_or : {A : Type 0} → Option A → Fault → Result A Fault
some_or None fault = Err fault
some_or (Some x) fault = Ok x
