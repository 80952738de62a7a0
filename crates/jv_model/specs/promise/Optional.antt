-- Steps that may have no value, and answers that may be faults.
use Rattle.std.specs.Prelude.{Bool, true, false, Option, None, Some, option_and_then}

-- the second step, if the first has a value
infixl 10 ◌>>=◌
abbrev pub ◌>>=◌ : {A B : Type 0} → Option A → (A → Option B) → Option B
o >>= f = option_and_then f o

-- the value, where a test passes
abbrev pub provided : {T : Type 0} → Bool → T → Option T
provided true value = Some value
provided false value = None
