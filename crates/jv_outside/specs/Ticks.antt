-- What only inner contracts cite: of `promise/Ticks`.
use Rattle.std.specs.Prelude.{◌≡◌, ℕ, IfSome, Result, Ok, Err}
use Rattle.jv_model.specs.declared.fault.Down.{Down}
use Rattle.jv_outside.specs.Causes.{HasFailed}
use Rattle.jv_outside.specs.promise.Ticks.{Ticks, Passes}

-- the clock answered the first of the answers to come, in seconds
pub record HasAnswered (before after : Ticks) (moment : ℕ) : Type 0 where
  pub answer : IfSome before.answers (λ answers. moment ≡ answers 0)
  pub passes : Passes before.answers after.answers 1
  pub calm : after.faults ≡ before.faults

-- no answer has passed, and the count of faults rose
pub record FailsToAnswer (before after : Ticks) (down : Down) : Type 0 where
  pub answers : after.answers ≡ before.answers
  pub cause : HasFailed before.faults after.faults down

-- a call of a clock, by its result
abbrev pub ClockAnswers : Ticks → Ticks → Result ℕ Down → Type 0
ClockAnswers before after (Ok moment) = HasAnswered before after moment
ClockAnswers before after (Err down) = FailsToAnswer before after down
