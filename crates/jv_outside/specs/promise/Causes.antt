-- What a device's error says of its count of faults.
use Rattle.std.specs.Prelude.{◌≡◌, ℕ, zero, suc, ◌≤◌, max, Bool, true, false}
use Rattle.jv_model.specs.declared.fault.Down.{Down}
use Rattle.jv_model.specs.declared.fault.Down.TheVariants.{Failed, Memory}
use Rattle.jv_model.specs.promise.Counts.{counted}

-- the count rose, or is saturated at 2^64 - 1
abbrev pub Rose : ℕ → ℕ → Type 0
Rose before now = max before (counted before) ≤ now

-- the count rose where the error is Failed, and is the same where memory ran out
abbrev pub IsCaused : ℕ → ℕ → Down → Type 0
IsCaused before now Failed = Rose before now
IsCaused before now Memory = now ≡ before

-- the count rose where the device failed, and is the same otherwise
abbrev pub RoseIf : Bool → ℕ → ℕ → Type 0
RoseIf true before now = Rose before now
RoseIf false before now = now ≡ before

-- the count rose `n` times, and not otherwise
abbrev pub RoseTimes : ℕ → ℕ → ℕ → Type 0
RoseTimes zero before now = now ≡ before
RoseTimes (suc n) before now = (between : ℕ) × RoseTimes n before between × Rose between now
