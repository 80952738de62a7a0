-- Numbers and bytes are read from their digits as what they were.
use Rattle.std.proofs.Common.{◌≡◌, ℕ, zero, suc, ◌+◌, ◌-◌, ◌*◌, ◌/◌, ◌%◌, ◌^◌, ◌<◌, true, List, [], ◌∷◌, get_or, map, Some, codes, refl, sym, ap, ◌∙◌, arith, rules, fold, decimal}
use Rattle.std.specs.List.{list_all}
use Rattle.std.proofs.lemmas.Fmt.{decimal_digit, digits_decimal, digits_value-decimal, first_decimal}
use Rattle.std.proofs.lemmas.Str.Parse.{IsNumeralModel, numerals_by_fold}
use Rattle.std.proofs.lemmas.Bool.{ne_eqb, and_parts}
use Rattle.jv_model.specs.promise.script.Spelling.{is_decimal_digit, is_hex_digit, hex_value, value_of, is_numeral, number_of, byte_of}
use Rattle.jv_model.specs.promise.script.Printed.{hex_digit}
use Rattle.jv_script.specs.RoundTrips.{IsByte}
use Rattle.jv_script.proofs.DigitLaws.{number_in}
use Rattle.jv_script.proofs.RoundTripLaws.{all_at, counted_from, counted_at, map_at}

-- lower-case digits stand for their places

lower_is_hex : (n : ℕ) → n < 16 → is_hex_digit (hex_digit n) ≡ true
lower_is_hex n small = all_at is_hex_digit (codes "0123456789abcdef") n refl small

lower_value : (n : ℕ) → n < 16 → hex_value (hex_digit n) ≡ n
unfolding counted_from
lower_value n small =
    let values : map hex_value (codes "0123456789abcdef") ≡ counted_from 0 16 = refl in
    sym (map_at hex_value (codes "0123456789abcdef") n small) ∙ ap (λ (xs : List ℕ). get_or xs n 0) values ∙ counted_at 0 16 n small ∙ omega arith

-- the two digits of a byte

pub high_is_hex : (c : ℕ) → IsByte c → is_hex_digit (hex_digit (c / 16)) ≡ true
high_is_hex c byte = lower_is_hex (c / 16) (omega arith)

pub low_is_hex : (c : ℕ) → is_hex_digit (hex_digit (c % 16)) ≡ true
low_is_hex c = lower_is_hex (c % 16) (omega arith)

pub pair_value : (c : ℕ) → IsByte c → byte_of (hex_digit (c / 16)) (hex_digit (c % 16)) ≡ c
pair_value c byte = rw (lower_value (c / 16) (omega arith), lower_value (c % 16) (omega arith)) (omega arith)

-- decimal numbers

decimal_model : IsNumeralModel (λ digits. list_all is_decimal_digit digits ≡ true) (value_of 10)
decimal_model = numerals_by_fold _ (search rules) (λ n digits. fold (λ n digit. n * 10 + (digit - 48)) n digits) (search rules)

pub decimal_digits : (n : ℕ) → n < 2 ^ 64 → list_all is_decimal_digit (decimal n) ≡ true
decimal_digits n small = digits_decimal decimal_model n small

-- digits of which the first is no zero
numeral : (digits : List ℕ) → list_all is_decimal_digit digits ≡ true → 48 < get_or digits 0 0 → is_numeral digits ≡ true
numeral [] all first = absurd (omega arith)
numeral (digit ∷ []) all first = (and_parts (is_decimal_digit digit) true all).0
numeral (digit ∷ more ∷ digits) all first = rw (ne_eqb digit 48 (λ same. omega arith)) all

decimal_numeral : (n : ℕ) → n < 2 ^ 64 → is_numeral (decimal n) ≡ true
decimal_numeral zero small = rw (decimal_digit 0 (omega arith)) refl
decimal_numeral (suc n) small = numeral (decimal (suc n)) (decimal_digits (suc n) small) (first_decimal (suc n) (omega arith) small)

pub decimal_read : (n : ℕ) → n < 2 ^ 64 → number_of (decimal n) ≡ Some n
decimal_read n small =
    let value : value_of 10 (decimal n) ≡ n = digits_value-decimal decimal_model n small in
    number_in (decimal n) (decimal_numeral n small) (omega (arith, value, small)) ∙ ap Some value
