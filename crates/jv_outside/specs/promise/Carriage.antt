-- What is seen of a carrier, and what a call does to it.
use Rattle.std.specs.Prelude.{◌≡◌, ℕ, List, Option, Some, Result, Ok, Err}
use Rattle.jv_model.specs.declared.fault.Down.{Down}
use Rattle.jv_outside.specs.promise.Causes.{IsCaused}

-- the place where the carrier was opened last, if it was, and how many calls failed
pub record Carriage : Type 0 where
  pub opened : Option (List ℕ)
  pub faults : ℕ

-- this is the place, and no call failed since
pub record IsAt (before after : Carriage) (opened : Option (List ℕ)) : Type 0 where
  pub opened_at : after.opened ≡ opened
  pub calm : after.faults ≡ before.faults

-- a call failed, or memory ran out for it, and the place is the same
pub record FailsToCarry (before after : Carriage) (down : Down) : Type 0 where
  pub opened_at : after.opened ≡ before.opened
  pub cause : IsCaused before.faults after.faults down

-- opening the carrier at a place, by the result
abbrev pub Moves : Carriage → Carriage → Result (Unit {0}) Down → List ℕ → Type 0
Moves before after (Ok unit) place = IsAt before after (Some place)
Moves before after (Err down) place = FailsToCarry before after down
