-- Numbers of a few digits, and lengths of blocks.
use Rattle.std.proofs.Common.{◌≡◌, ℕ, ◌^◌, ◌-◌, ◌<◌, ◌≤◌, true, false, not, ◌==◌, nat_le, List, [], ◌∷◌, length, get_or, arith, refl, zero, suc, None, inl, inr}
use Rattle.std.specs.List.{list_all}
use Rattle.jv_model.specs.declared.limits.TheConstants.{MAX_BLOCK}
use Rattle.jv_model.specs.promise.rows.RowGrammar.{is_block_length}
use Rattle.std.proofs.lemmas.Bool.{and_parts, cases_lt, leb-true}
use Rattle.std.proofs.lemmas.Bool.Decides.{nat_tests}
use Rattle.std.proofs.Math.Nat.{pow-le-pow_right}
use Rattle.jv_model.specs.promise.script.Spelling.{is_decimal_digit, is_numeral}
use Rattle.jv_cmd.specs.promise.Values.{as_block_size}

-- 19 digits are few
pub power_few : (i : ℕ) → i ≤ 19 → 10 ^ i ≤ 10000000000000000000
power_few i few = pow-le-pow_right {n = 10} (omega arith) few

-- each byte of a numeral is a digit
pub numeral_digits : (text : List ℕ) → is_numeral text ≡ true → list_all is_decimal_digit text ≡ true
numeral_digits [] h = refl
numeral_digits (digit ∷ []) h = rw h refl
numeral_digits (digit ∷ more ∷ digits) h = (and_parts (not (digit == 48)) _ h).1

digit_at_all : (text : List ℕ) (i : ℕ) → list_all is_decimal_digit text ≡ true → i < length text → get_or text i 0 ≤ 57
digit_at_all [] i h below = absurd (omega arith)
digit_at_all (digit ∷ digits) zero h below = leb-true digit 57 (and_parts (nat_le 48 digit) _ (and_parts (is_decimal_digit digit) _ h).0).1
digit_at_all (digit ∷ digits) (suc i) h below = digit_at_all digits i (and_parts (is_decimal_digit digit) _ h).1 (omega arith)

pub digit_at : (text : List ℕ) (i : ℕ) → is_numeral text ≡ true → i < length text → get_or text i 0 - 48 < 10
digit_at text i h below = omega (arith, digit_at_all text i (numeral_digits text h) below)

-- no block is longer than the longest
pub large_is_no_block : (bytes : ℕ) → MAX_BLOCK < bytes → is_block_length bytes ≡ false
large_is_no_block bytes large = grind (arith, nat_tests)

pub no_block : (bytes : ℕ) → 2 ^ 64 ≤ bytes → as_block_size bytes ≡ None
no_block bytes large = rw (large_is_no_block bytes (omega arith)) refl

pub block_is_small : (bytes : ℕ) → is_block_length bytes ≡ true → bytes ≤ MAX_BLOCK
block_is_small bytes h = elim (cases_lt MAX_BLOCK bytes) [
  | inl above ↦ let no = large_is_no_block bytes above in cc
  | inr small ↦ small
]
