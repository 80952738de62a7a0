-- Numbers and bytes as a drawn script spells them.
use Rattle.std.proofs.Common.{◌≡◌, ℕ, ◌/◌, ◌%◌, ◌^◌, ◌<◌, nat_lt, nat_le, true, arith, decimal}
use Rattle.std.proofs.lemmas.Bool.{and_parts, lt-ltb, leb-true}
use Rattle.std.proofs.lemmas.Fmt.{length-decimal-le}
use Rattle.jv_model.specs.promise.script.Spelling.{is_decimal_digit, is_hex_digit, byte_of}
use Rattle.jv_model.specs.promise.script.Printed.{hex_digit}
use Rattle.jv_script.proofs.DataRoundTripLaws.{weaker}
use Rattle.jv_script.proofs.PrintedDigitLaws.{decimal_digits, high_is_hex, low_is_hex, pair_value}
use Rattle.jv_cmd.proofs.drawn_scripts.DrawnWordLaws.{IsWord, are_past}

-- numbers

pub digit_past : (low c : ℕ) → low < 48 → is_decimal_digit c ≡ true → low < c
digit_past low c few digit = omega (arith, leb-true 48 c (and_parts (nat_le 48 c) (nat_le c 57) digit).0, few)

pub decimal_past : (low n : ℕ) → low < 48 → n < 2 ^ 64 → are_past low (decimal n) ≡ true
decimal_past low n few small =
    weaker is_decimal_digit (λ c. nat_lt low c) (decimal n) (λ c digit. lt-ltb low c (digit_past low c few digit))
    (decimal_digits n small)

pub decimal_word : (n : ℕ) → n < 2 ^ 64 → IsWord (decimal n)
decimal_word n small = record {
  bytes = decimal_past 32 n (omega arith) small;
  short = omega (arith, length-decimal-le 20 n (omega arith) (omega arith) small);
}

-- the two digits of a byte

pub record IsPair (c high low : ℕ) : Type 0 where
  pub high_is : is_hex_digit high ≡ true
  pub low_is : is_hex_digit low ≡ true
  pub value : byte_of high low ≡ c

pub pair_read : (c : ℕ) → c < 256 → IsPair c (hex_digit (c / 16)) (hex_digit (c % 16))
pair_read c small = record { high_is = high_is_hex c small; low_is = low_is_hex c; value = pair_value c small }
