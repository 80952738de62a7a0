-- The path of a file of a drawn script is read as it is.
use Rattle.std.proofs.Common.{◌≡◌, ℕ, ◌^◌, ◌<◌, ◌&&◌, ◌==◌, nat_le, true, false, not, List, ◌++◌, Some, refl, ap, ◌∙◌, arith, codes, decimal}
use Rattle.std.specs.List.{list_all}
use Rattle.std.proofs.lemmas.Bool.{and_parts, ne_eqb, not_from_false, not-true}
use Rattle.std.proofs.lemmas.Bool.Decides.{nat_tests}
use Rattle.std.proofs.lemmas.Fmt.{length-decimal-le}
use Rattle.std.proofs.lemmas.List.{append-nil}
use Rattle.std.proofs.lemmas.List.Elements.{All-weaker}
use Rattle.std.proofs.lemmas.List.Splits.{slice_split_none}
use Rattle.std.proofs.lemmas.List.Sums.{AllPass-from_list_all}
use Rattle.jv_model.specs.promise.script.Spelling.{is_decimal_digit}
use Rattle.jv_model.specs.promise.script.Grammar.{bytes_of_escapes, is_plain, path_of, unescaped}
use Rattle.jv_model.specs.promise.Lists.{has_no_zero}
use Rattle.jv_model.specs.promise.tree.Walk.{is_absolute}
use Rattle.jv_script.proofs.DataRoundTripLaws.{weaker}
use Rattle.jv_script.proofs.PrintedDigitLaws.{decimal_digits}
use Rattle.jv_cmd.proofs.drawn_scripts.DrawnNumberLaws.{decimal_word, digit_past}
use Rattle.jv_cmd.proofs.drawn_scripts.DrawnWordLaws.{IsWord}

-- a text without an escape
plain_read : (text : List ℕ) → list_all is_plain text ≡ true → unescaped text ≡ Some text
unfolding unescaped
plain_read text plain =
    let no_escape = All-weaker (λ c. is_plain c ≡ true) (λ c. (c == 37) ≡ false)
    (λ c is. not-true (c == 37) (and_parts (nat_le 33 c && nat_le c 126) (not (c == 37)) is).1) text
    (AllPass-from_list_all is_plain text plain) in
    ap bytes_of_escapes (slice_split_none (λ c. c == 37) text no_escape) ∙ rw plain (ap Some (append-nil text))

plain_path : (text : List ℕ) → list_all is_plain text ≡ true → is_absolute text ≡ true
    → path_of text ≡ Some text
unfolding path_of
plain_path text plain slash = rw (plain_read text plain, slash) refl

digit_is_plain : (c : ℕ) → is_decimal_digit c ≡ true → is_plain c ≡ true
digit_is_plain c digit = grind (arith, nat_tests)

digit_is_no_zero : (c : ℕ) → is_decimal_digit c ≡ true → not (c == 0) ≡ true
digit_is_no_zero c digit =
    not_from_false (c == 0) (ne_eqb c 0 (λ zero. omega (arith, digit_past 0 c (omega arith) digit)))

pub file_read : (i : ℕ) → i < 2 ^ 64 → path_of (codes "/g" ++ decimal i) ≡ Some (codes "/g" ++ decimal i)
file_read i small =
    plain_path (codes "/g" ++ decimal i)
    (weaker is_decimal_digit is_plain (decimal i) digit_is_plain (decimal_digits i small)) refl

pub file_spelled : (i : ℕ) → i < 2 ^ 64 → has_no_zero (codes "/g" ++ decimal i) ≡ true
file_spelled i small =
    weaker is_decimal_digit (λ c. not (c == 0)) (decimal i) digit_is_no_zero (decimal_digits i small)

pub file_word : (i : ℕ) → i < 2 ^ 64 → IsWord (codes "/g" ++ decimal i)
file_word i small = record {
  bytes = (decimal_word i small).bytes;
  short = omega (arith, length-decimal-le 20 i (omega arith) (omega arith) small);
}
