-- What several calls of a clock in a row do to its answers to come.
use Rattle.std.proofs.Common.{ℕ, ◌+◌, Option, Some, None, ap, ◌∙◌, arith}
use Rattle.jv_outside.specs.promise.Ticks.{Passes}

-- no answer is passed
pub Passes-zero : (a : Option (ℕ → ℕ)) → Passes a a 0
Passes-zero None = record { known = tt }
Passes-zero (Some f) = record { known = λ n. ap f (omega arith) }

-- some answers are passed after others
pub Passes-trans : (a b c : Option (ℕ → ℕ)) (first second : ℕ) → Passes a b first → Passes b c second → Passes a c (first + second)
Passes-trans a b None first second p q = record { known = tt }
Passes-trans a None (Some h) first second p q = absurd q.known
Passes-trans None (Some g) (Some h) first second p q = absurd p.known
Passes-trans (Some f) (Some g) (Some h) first second p q =
    record { known = λ n. q.known n ∙ p.known (n + second) ∙ ap f (omega arith) }
