-- How a keeper answers what its database returned.
use Rattle.std.specs.Prelude.{◌≡◌, ℕ, Result, Ok, Err}
use Rattle.jv_model.specs.declared.fault.Down.{Down}
use Rattle.jv_model.specs.declared.fault.Down.TheVariants.{Failed as Fails, Memory as NoMemory}
use Rattle.jv_outside.specs.promise.Causes.{Rose}
use Rattle.jv_sql.specs.declared.cause.Refusal.{Refusal}
use Rattle.jv_sql.specs.declared.cause.Refusal.TheVariants.{Failed, Memory}

-- The answer and the count of faults before and after: a value is answered as it is, and each refusal
-- but out of memory is one more fault.
abbrev pub IsAnswered : {X : Type 0} → ℕ → ℕ → Result X Refusal → Result X Down → Type 0
IsAnswered before now (Ok value) answer = (answer ≡ Ok value) × (now ≡ before)
IsAnswered before now (Err Memory) answer = (answer ≡ Err NoMemory) × (now ≡ before)
IsAnswered before now (Err (Failed cause)) answer = (answer ≡ Err Fails) × Rose before now
