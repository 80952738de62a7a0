use Rattle.std.proofs.Common.{◌≡◌, ℕ, ◌<◌, ◌≤◌, true, length, get_or}
use Rattle.jv_model.specs.promise.script.Spelling.{is_decimal_digit}
use Rattle.jv_slices.proofs.name_parsing.digits_start.Given as goal

abbrev pub invariant-loop-start : goal.invariant-loop-start
invariant-loop-start l = record {
  within : l.start ≤ length l.text;
  digits : (k : ℕ) → l.start ≤ k → k < length l.text → is_decimal_digit (get_or l.text k 0) ≡ true;
}

abbrev pub decreases-loop-start : goal.decreases-loop-start
decreases-loop-start l = l.start
