-- The table of the values of digits.
use Rattle.std.proofs.Common.{◌≡◌, ℕ, zero, suc, ◌+◌, ◌*◌, ◌<◌, ◌&&◌, Bool, true, false, List, [], ◌∷◌, Some, None, get_or, refl, ap, ◌∙◌, arith}
use Rattle.std.specs.Prelude.{if◌then◌else◌}
use Rattle.std.proofs.lemmas.Bool.Decides.{nat_tests}
use Rattle.jv_model.specs.promise.script.Spelling.{is_hex_digit, hex_value, byte_of}
use Rattle.jv_model.specs.promise.Optional.{provided}
use Rattle.jv_script.specs.declared.hex_digits.TheConstants.{VALUES}

-- the value of a digit, or a number that is none
abbrev pub value_or_none : ℕ → ℕ
value_or_none c = (if is_hex_digit c then hex_value c else 255)

unfoldable values_from : ℕ → ℕ → List ℕ
values_from start zero = []
values_from start (suc count) = value_or_none start ∷ values_from (suc start) count

values_at : (start count k : ℕ) → k < count → get_or (values_from start count) k 0 ≡ value_or_none (start + k)
unfolding values_from
values_at start zero k below = absurd (omega arith)
values_at start (suc count) zero below = let same : start ≡ start + 0 = omega arith in ap value_or_none same
values_at start (suc count) (suc k) below =
    let same : suc start + k ≡ start + suc k = omega arith in
    values_at (suc start) count k (omega arith) ∙ ap value_or_none same

table : VALUES ≡ values_from 0 256
unfolding values_from
table = refl

pub value_at : (c : ℕ) → c < 256 → get_or VALUES c 0 ≡ value_or_none c
value_at c within =
    let same : 0 + c ≡ c = omega arith in
    ap (λ (values : List ℕ). get_or values c 0) table ∙ values_at 0 256 c within ∙ ap value_or_none same

value_small : (c : ℕ) → is_hex_digit c ≡ true → hex_value c < 16
value_small c hex = grind (arith, nat_tests)

-- two values of the table
pub pair_read : (high low : ℕ) → high < 256 → low < 256 → get_or VALUES high 0 < 16 → get_or VALUES low 0 < 16
    → Some (get_or VALUES high 0 * 16 + get_or VALUES low 0) ≡ provided (is_hex_digit high && is_hex_digit low) (byte_of high low)
pair_read high low high_byte low_byte high_small low_small = by_digits (is_hex_digit high) (is_hex_digit low) (value_at high high_byte) (value_at low low_byte)
  where
    by_digits : (u v : Bool) → get_or VALUES high 0 ≡ (if u then hex_value high else 255) → get_or VALUES low 0 ≡ (if v then hex_value low else 255)
        → Some (get_or VALUES high 0 * 16 + get_or VALUES low 0) ≡ provided (u && v) (byte_of high low)
    by_digits true true is_high is_low = rw (is_high, is_low) refl
    by_digits true false is_high is_low = absurd (omega (arith, is_low))
    by_digits false v is_high is_low = absurd (omega (arith, is_high))

-- a value that no digit has, of either
pub pair_refused : (high low : ℕ) → high < 256 → low < 256 → (get_or VALUES high 0 < 16 → get_or VALUES low 0 < 16 → ⊥) → None ≡ provided (is_hex_digit high && is_hex_digit low) (byte_of high low)
pair_refused high low high_byte low_byte large = by_digits (is_hex_digit high) (is_hex_digit low) (value_at high high_byte) (value_at low low_byte) (value_small high) (value_small low)
  where
    by_digits : (u v : Bool) → get_or VALUES high 0 ≡ (if u then hex_value high else 255) → get_or VALUES low 0 ≡ (if v then hex_value low else 255) → (u ≡ true → hex_value high < 16) → (v ≡ true → hex_value low < 16)
        → None ≡ provided (u && v) (byte_of high low)
    by_digits true true is_high is_low high_small low_small = absurd (large (omega (arith, is_high, high_small refl)) (omega (arith, is_low, low_small refl)))
    by_digits true false is_high is_low high_small low_small = refl
    by_digits false v is_high is_low high_small low_small = refl
