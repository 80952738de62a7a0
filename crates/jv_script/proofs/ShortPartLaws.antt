-- Short parts at the beginning of a text: a pair of digits, alone or with a count of one digit.
use Rattle.std.proofs.Common.{◌≡◌, ℕ, zero, suc, ◌-◌, ◌<◌, ◌≤◌, ◌&&◌, ◌==◌, Bool, true, false, List, [], ◌∷◌, ◌++◌, Some, length, get_or, take, drop, replicate, option_map, refl, sym, ap, ◌∙◌, arith}
use Rattle.std.proofs.lemmas.Bool.{eq-eqb, eqb-true, le-leb, lt-ltb, false≢true, false_from_ne_true}
use Rattle.std.proofs.lemmas.List.{take_rest}
use Rattle.std.proofs.lemmas.List.Splits.{slice_split_at}
use Rattle.jv_model.specs.promise.script.Spelling.{is_hex_digit, number_of, value_of, byte_of}
use Rattle.jv_model.specs.promise.script.Printed.{Repeated}
use Rattle.jv_model.specs.promise.script.Grammar.{is_pairs, repeated_of, part_of, part_bytes}
use Rattle.jv_model.specs.promise.Lists.{parted}
use Rattle.jv_model.specs.promise.Optional.{provided}
use Rattle.jv_script.specs.Reading.{IsFirstPart}
use Rattle.jv_script.proofs.DigitLaws.{number_in}
use Rattle.jv_script.proofs.PartLaws.{part_of_pairs, part_of_other}

digit_no_plus : (c : ℕ) → is_hex_digit c ≡ true → (c == 43) ≡ false
digit_no_plus c hex = false_from_ne_true (c == 43) (λ plus. false≢true (ap is_hex_digit (sym (eqb-true c 43 plus)) ∙ hex))

-- a pair that was read
pair_given : (high low byte : ℕ) → Some byte ≡ provided (is_hex_digit high && is_hex_digit low) (byte_of high low) → (is_hex_digit high ≡ true) × (is_hex_digit low ≡ true) × (byte_of high low ≡ byte)
pair_given high low byte read = by_digits (is_hex_digit high) (is_hex_digit low) read
  where
    by_digits : (u v : Bool) → Some byte ≡ provided (u && v) (byte_of high low) → (u ≡ true) × (v ≡ true) × (byte_of high low ≡ byte)
    by_digits true true e = (refl, refl, cc)
    by_digits true false e = (refl, cc, cc)
    by_digits false v e = (cc, cc, cc)

-- no part ends in it
unfoldable NoPlus : List ℕ → Type 0
NoPlus [] = Unit {0}
NoPlus (c ∷ text) = ((c == 43) ≡ false) × NoPlus text

no_plus_at : (text : List ℕ) → NoPlus text → (k d : ℕ) → k < length text → (get_or text k d == 43) ≡ false
unfolding NoPlus
no_plus_at [] others k d below = absurd (omega arith)
no_plus_at (c ∷ text) others zero d below = others.0
no_plus_at (c ∷ text) others (suc k) d below = no_plus_at text others.1 k d (omega arith)

-- the first part of a text, where it ends
first_part : (part rest tail spelled : List ℕ) (c : ℕ) → NoPlus part → c ≡ 43 → option_map part_bytes (part_of part) ≡ Some spelled → tail ≡ rest
    → IsFirstPart (part ++ c ∷ rest) spelled tail
first_part part rest tail spelled c others plus is_spelled same = record {
  part = part;
  bytes = is_spelled;
  parts = slice_split_at (λ c. c == 43) part c rest (no_plus_at part others) (eq-eqb c 43 plus) ∙ ap (λ (text : List ℕ). part ∷ parted 43 text) (sym same);
}

-- the byte of a pair that was read at a place
abbrev pub IsPairAt : List ℕ → ℕ → ℕ → Type 0
IsPairAt text at byte = Some byte ≡ provided (is_hex_digit (get_or text at 0) && is_hex_digit (get_or text (suc at) 0)) (byte_of (get_or text at 0) (get_or text (suc at) 0))

-- a pair alone
pub pair_first : (text : List ℕ) (byte : ℕ) → 3 ≤ length text → IsPairAt text 0 byte → get_or text 2 0 ≡ 43 → IsFirstPart text (byte ∷ []) (take (length text - 3) (drop 3 text))
unfolding NoPlus
pair_first [] byte long read plus = absurd (omega (arith, long))
pair_first (_ ∷ []) byte long read plus = absurd (omega (arith, long))
pair_first (_ ∷ _ ∷ []) byte long read plus = absurd (omega (arith, long))
pair_first (high ∷ low ∷ c ∷ rest) byte long read plus =
    let (is_high, is_low, is_byte) = pair_given high low byte read in
    let digits = high ∷ low ∷ [] in
    let pair : is_pairs digits ≡ true = rw (is_high, is_low) refl in
    let spelled = ap (option_map part_bytes) (part_of_pairs digits pair) ∙ ap (λ (byte : ℕ). Some (byte ∷ [])) is_byte in
    first_part digits rest (take (length (digits ++ c ∷ rest) - 3) (drop 3 (digits ++ c ∷ rest))) (byte ∷ []) c (digit_no_plus high is_high, (digit_no_plus low is_low, tt)) plus spelled (take_rest (digits ++ c ∷ rest) 3)

digit_number : (c : ℕ) → 49 ≤ c → c ≤ 57 → number_of (c ∷ []) ≡ Some (c - 48)
digit_number c low high =
    let value : value_of 10 (c ∷ []) ≡ c - 48 = omega arith in
    number_in (c ∷ []) (rw (le-leb 48 c (omega arith), le-leb c 57 high) refl) (omega (arith, value)) ∙ ap Some value

-- a byte and how often it stands, by one digit
counted : (high low x c byte : ℕ) → is_hex_digit high ≡ true → is_hex_digit low ≡ true → byte_of high low ≡ byte → x ≡ 120 → 49 ≤ c → c ≤ 57
    → part_of (high ∷ low ∷ x ∷ c ∷ []) ≡ Some (Repeated (record { byte = byte; count = c - 48 }))
unfolding repeated_of
counted high low x c byte is_high is_low is_byte is_x one nine =
    let no_pairs : is_pairs (high ∷ low ∷ x ∷ c ∷ []) ≡ false = rw (is_high, is_low, is_x) refl in
    part_of_other (high ∷ low ∷ x ∷ c ∷ []) no_pairs ∙ rw (digit_number c one nine, is_high, is_low, eq-eqb x 120 is_x, lt-ltb 0 (c - 48) (omega arith), is_byte) refl

-- a pair with a count of one digit
pub counted_first : (text : List ℕ) (byte : ℕ) → 5 ≤ length text → IsPairAt text 0 byte → get_or text 2 0 ≡ 120 → 49 ≤ get_or text 3 0 → get_or text 3 0 ≤ 57 → get_or text 4 0 ≡ 43
    → IsFirstPart text (replicate (get_or text 3 0 - 48) byte) (take (length text - 5) (drop 5 text))
unfolding NoPlus
counted_first [] byte long read is_x one nine plus = absurd (omega (arith, long))
counted_first (_ ∷ []) byte long read is_x one nine plus = absurd (omega (arith, long))
counted_first (_ ∷ _ ∷ []) byte long read is_x one nine plus = absurd (omega (arith, long))
counted_first (_ ∷ _ ∷ _ ∷ []) byte long read is_x one nine plus = absurd (omega (arith, long))
counted_first (_ ∷ _ ∷ _ ∷ _ ∷ []) byte long read is_x one nine plus = absurd (omega (arith, long))
counted_first (a ∷ b ∷ x ∷ d ∷ e ∷ rest) byte long read is_x one nine plus =
    let (is_a, is_b, is_byte) = pair_given a b byte read in
    let digits = a ∷ b ∷ x ∷ d ∷ [] in
    let x_no_plus : (x == 43) ≡ false = ap (λ (x : ℕ). x == 43) is_x in
    let d_no_plus : (d == 43) ≡ false = false_from_ne_true (d == 43) (λ plus. absurd (omega (arith, eqb-true d 43 plus))) in
    first_part digits rest (take (length (digits ++ e ∷ rest) - 5) (drop 5 (digits ++ e ∷ rest))) (replicate (d - 48) byte) e
    (digit_no_plus a is_a, (digit_no_plus b is_b, (x_no_plus, (d_no_plus, tt)))) plus (ap (option_map part_bytes) (counted a b x d byte is_a is_b is_byte is_x one nine)) (take_rest (digits ++ e ∷ rest) 5)
