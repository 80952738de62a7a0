-- Digits and what they stand for.
use Rattle.std.proofs.Common.{◌≡◌, ℕ, suc, Some, None, ◌^◌, ◌+◌, ◌-◌, ◌*◌, ◌<◌, ◌≤◌, true, List, [], ◌∷◌, length, get_or, take, drop, refl, sym, ap, ◌∙◌, arith, fold}
use Rattle.std.proofs.lemmas.List.{take-append-drop}
use Rattle.std.proofs.lemmas.Bool.{le-leb, lt-leb}
use Rattle.std.proofs.lemmas.List.Sums.{fold_more}
use Rattle.std.proofs.lemmas.Grind.{fold-append}
use Rattle.jv_model.specs.declared.options.TheConstants.{MAX_NUMBER}
use Rattle.jv_model.specs.promise.script.Spelling.{value_of, is_numeral, number_of, hex_value, bytes_of_digits}

-- the byte of the digits at twice a place
abbrev pub byte_at : List ℕ → ℕ → ℕ
byte_at digits k = hex_value (get_or digits (2 * k) 0) * 16 + hex_value (get_or digits (2 * k + 1) 0)

-- a list whose bytes are those of their digits is all of them
pub bytes_from_places : (digits bytes : List ℕ) → length digits ≡ 2 * length bytes → ((k : ℕ) → k < length bytes → get_or bytes k 0 ≡ byte_at digits k) → bytes ≡ bytes_of_digits digits
bytes_from_places [] [] h each = refl
bytes_from_places [] (b ∷ bytes) h each = absurd (omega arith)
bytes_from_places (x ∷ []) [] h each = refl
bytes_from_places (x ∷ []) (b ∷ bytes) h each = absurd (omega arith)
bytes_from_places (x ∷ y ∷ digits) [] h each = absurd (omega arith)
bytes_from_places (x ∷ y ∷ digits) (b ∷ bytes) h each =
    let first = each 0 (omega arith) in
    let rest = bytes_from_places digits bytes (omega arith) (λ k below. each_later x y digits b bytes k (each (suc k) (omega arith))) in
    ap (λ v. v ∷ bytes) first ∙ ap (λ v. (hex_value x * 16 + hex_value y) ∷ v) rest
  where
    each_later : (x y : ℕ) (digits : List ℕ) (b : ℕ) (bytes : List ℕ) (k : ℕ) → get_or (b ∷ bytes) (suc k) 0 ≡ byte_at (x ∷ y ∷ digits) (suc k) → get_or bytes k 0 ≡ byte_at digits k
    each_later x y digits b bytes k e =
        let high : 2 * suc k ≡ suc (suc (2 * k)) = omega arith in
        let low : 2 * suc k + 1 ≡ suc (suc (2 * k + 1)) = omega arith in
        let moved : byte_at (x ∷ y ∷ digits) (suc k) ≡ byte_at digits k = rw (low, high) refl in
        e ∙ moved

-- more digits never make a number smaller
pub value_grows : (n : ℕ) (digits : List ℕ) → n ≤ fold (λ n digit. n * 10 + (digit - 48)) n digits
value_grows n [] = omega arith
value_grows n (digit ∷ digits) = omega (arith, value_grows (n * 10 + (digit - 48)) digits)

pub value_of-take-le : (digits : List ℕ) (i : ℕ) → value_of 10 (take i digits) ≤ value_of 10 digits
value_of-take-le digits i =
    let whole = ap (value_of 10) (sym (take-append-drop i digits)) ∙ fold-append (λ n digit. n * 10 + (digit - 48)) 0 (take i digits) (drop i digits) in
    omega (arith, whole, value_grows (value_of 10 (take i digits)) (drop i digits))

-- one digit more
pub value_of_more : (digits : List ℕ) (i : ℕ) → i < length digits → value_of 10 (take (i + 1) digits) ≡ value_of 10 (take i digits) * 10 + (get_or digits i 0 - 48)
value_of_more digits i below = fold_more (λ n digit. n * 10 + (digit - 48)) 0 digits i 0 below

pub number_in : (digits : List ℕ) → is_numeral digits ≡ true → value_of 10 digits < 2 ^ 64 → number_of digits ≡ Some (value_of 10 digits)
unfolding number_of
number_in digits all small = rw (all, le-leb (value_of 10 digits) MAX_NUMBER (omega arith)) refl

-- a prefix that passes the greatest number already
pub number_over : (digits : List ℕ) (i : ℕ) → is_numeral digits ≡ true → 2 ^ 64 ≤ value_of 10 (take i digits) → number_of digits ≡ None
unfolding number_of
number_over digits i all large = rw (all, lt-leb (value_of 10 digits) MAX_NUMBER (omega (arith, value_of-take-le digits i))) refl
