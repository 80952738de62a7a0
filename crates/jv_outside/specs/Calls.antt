-- Which calls of a device in memory are to fail, and what is counted of them.
use Rattle.std.specs.Prelude.{ℕ, Bool, if◌then◌else◌}
use Rattle.jv_model.specs.promise.Counts.{counted}
use Rattle.jv_model.specs.promise.Lists.{is_among}
use Rattle.jv_outside.specs.declared.calls.Fails.{Fails}
use Rattle.jv_outside.specs.declared.calls.Fails.TheVariants.{At}

-- the calls so far, those that are to fail, and the faults so far
pub record CallsValue : Type 0 where
  pub made : ℕ
  pub fails : Fails
  pub faults : ℕ

-- whether the call of that number is to fail
abbrev pub is_to_fail : Fails → ℕ → Bool
is_to_fail (At numbers) number = is_among number numbers

-- whether the next call is to fail
abbrev pub fails_next : CallsValue → Bool
fails_next calls = is_to_fail calls.fails (counted calls.made)

-- one more fault
abbrev pub after_fault : CallsValue → CallsValue
after_fault calls = record calls { faults = counted calls.faults }

-- one more call, which was a fault or not
abbrev pub after_call : Bool → CallsValue → CallsValue
after_call is_fault calls = record {
  made = counted calls.made;
  fails = calls.fails;
  faults = (if is_fault then counted calls.faults else calls.faults);
}
