-- A byte with a count as a drawn script writes it is read as that many bytes of its value.
use Rattle.std.proofs.Common.{◌≡◌, ℕ, ◌+◌, ◌^◌, ◌<◌, ◌≤◌, ◌==◌, nat_lt, true, false, List, [], ◌∷◌, replicate, Some, refl, ap, ◌∙◌, arith, codes, bytes_eq, decimal}
use Rattle.std.proofs.Math.Bool.{and-false}
use Rattle.std.proofs.lemmas.Bool.{le-leb, lt-ltb, ltb-true}
use Rattle.std.proofs.lemmas.Bool.Decides.{nat_tests}
use Rattle.std.proofs.lemmas.Fmt.{length-decimal-le}
use Rattle.std.proofs.lemmas.List.{append-nil}
use Rattle.std.proofs.lemmas.List.Splits.{slice_split_none}
use Rattle.jv_model.specs.declared.limits.TheConstants.{MAX_DATA}
use Rattle.jv_model.specs.promise.script.Spelling.{is_hex_digit}
use Rattle.jv_model.specs.promise.script.Printed.{Repeated}
use Rattle.jv_model.specs.promise.script.Grammar.{repeated_of, part_of, bytes_of_parts, data_of}
use Rattle.jv_script.proofs.DataRoundTripLaws.{weaker}
use Rattle.jv_script.proofs.PrintedDigitLaws.{decimal_read}
use Rattle.jv_script.proofs.PartLaws.{part_of_with_x, some_bytes}
use Rattle.jv_cmd.proofs.drawn_scripts.DrawnNumberLaws.{IsPair, decimal_past}
use Rattle.jv_cmd.proofs.drawn_scripts.DrawnWordLaws.{IsWord, are_past, lacks}

small_data : (n : ℕ) → n ≤ MAX_DATA → n < 2 ^ 64
small_data n few = omega (arith, few)

hex_past : (c : ℕ) → is_hex_digit c ≡ true → nat_lt 43 c ≡ true
hex_past c hex = grind (arith, nat_tests)

-- each of its bytes comes after `+`
run_past : (byte n high low : ℕ) → IsPair byte high low → n ≤ MAX_DATA
    → are_past 43 (high ∷ low ∷ 120 ∷ decimal n) ≡ true
run_past byte n high low pair few =
    rw (hex_past high pair.high_is, hex_past low pair.low_is) (decimal_past 43 n (omega arith) (small_data n few))

pub run_word : (byte n high low : ℕ) → IsPair byte high low → n ≤ MAX_DATA
    → IsWord (high ∷ low ∷ 120 ∷ decimal n)
run_word byte n high low pair few = record {
  bytes = weaker (λ c. nat_lt 43 c) (λ c. nat_lt 32 c) (high ∷ low ∷ 120 ∷ decimal n)
      (λ c past. lt-ltb 32 c (omega (arith, ltb-true 43 c past))) (run_past byte n high low pair few);
  short = omega (arith, length-decimal-le 7 n (omega arith) (omega (arith, few)) (small_data n few));
}

run_part : (byte n high low : ℕ) → IsPair byte high low → 0 < n → n ≤ MAX_DATA
    → part_of (high ∷ low ∷ 120 ∷ decimal n) ≡ Some (Repeated (record { byte = byte; count = n }))
unfolding repeated_of
run_part byte n high low pair some few =
    part_of_with_x (high ∷ low ∷ 120 ∷ decimal n) refl
    ∙ rw (decimal_read n (small_data n few), pair.high_is, pair.low_is, lt-ltb 0 n some, pair.value) refl

one_part : (byte n : ℕ) (text : List ℕ) → n ≤ MAX_DATA
    → part_of text ≡ Some (Repeated (record { byte = byte; count = n }))
    → bytes_of_parts (text ∷ []) ≡ Some (replicate n byte)
unfolding bytes_of_parts
one_part byte n text few part =
    let sum : 0 + n ≡ n = omega arith in
    rw (part, sum, le-leb n MAX_DATA few) (ap Some (append-nil (replicate n byte)))

no_dash : (high low n : ℕ) → bytes_eq (high ∷ low ∷ 120 ∷ decimal n) (codes "-") ≡ false
no_dash high low n = and-false (high == 45)

pub run_read : (byte n high low : ℕ) → IsPair byte high low → 0 < n → n ≤ MAX_DATA
    → data_of (high ∷ low ∷ 120 ∷ decimal n) ≡ Some (replicate n byte)
run_read byte n high low pair some few =
    let text = high ∷ low ∷ 120 ∷ decimal n in
    let no_plus = lacks 43 43 text (omega arith) (run_past byte n high low pair few) in
    some_bytes text (no_dash high low n) ∙ ap bytes_of_parts (slice_split_none (λ c. c == 43) text no_plus)
    ∙ one_part byte n text few (run_part byte n high low pair some few)
