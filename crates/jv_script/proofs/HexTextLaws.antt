-- Hexadecimal digits at the end of a text.
use Rattle.std.proofs.Common.{◌≡◌, ℕ, suc, ◌+◌, ◌-◌, ◌*◌, ◌/◌, ◌%◌, ◌<◌, List, [], ◌∷◌, ◌++◌, length, take, drop, get_or, set}
use Rattle.std.proofs.Common.{◌≢◌, refl, sym, ap, ◌∙◌, arith, below_more}
use Rattle.std.specs.List.{flat_map}
use Rattle.std.proofs.lemmas.List.{get_or-set_other, get_or-set_same, length-set, append-nil, take_at, take_all, drop_all, length-append, length-drop}
use borrow.Rule.Slice.PartMut.{post_of}
use Rattle.jv_model.specs.promise.script.Printed.{hex_digit, hex_pair}

-- two digits that are those of the byte at a place
abbrev pub HasPair : List ℕ → List ℕ → ℕ → Type 0
HasPair bytes digits k =
    (get_or digits (2 * k) 0 ≡ hex_digit (get_or bytes k 0 / 16))
    × (get_or digits (2 * k + 1) 0 ≡ hex_digit (get_or bytes k 0 % 16))

-- a list of such digits is all of them
pub digits_from_places : (bytes digits : List ℕ) → length digits ≡ 2 * length bytes
    → ((k : ℕ) → k < length bytes → HasPair bytes digits k) → digits ≡ flat_map hex_pair bytes
digits_from_places [] [] h each = refl
digits_from_places [] (x ∷ digits) h each = absurd (omega arith)
digits_from_places (b ∷ bytes) [] h each = absurd (omega arith)
digits_from_places (b ∷ bytes) (x ∷ []) h each = absurd (omega arith)
digits_from_places (b ∷ bytes) (x ∷ y ∷ digits) h each =
    let (high, low) = each 0 (omega arith) in
    let rest = digits_from_places bytes digits (omega arith)
    (λ k below. each_later b bytes x y digits k (each (suc k) (omega arith))) in
    ap (λ v. v ∷ y ∷ digits) high ∙ ap (λ v. hex_digit (b / 16) ∷ v ∷ digits) low
    ∙ ap (λ (text : List ℕ). hex_digit (b / 16) ∷ hex_digit (b % 16) ∷ text) rest
  where
    each_later : (b : ℕ) (bytes : List ℕ) (x y : ℕ) (digits : List ℕ) (k : ℕ)
        → HasPair (b ∷ bytes) (x ∷ y ∷ digits) (suc k) → HasPair bytes digits k
    each_later b bytes x y digits k (high, low) =
        let first : 2 * suc k ≡ suc (suc (2 * k)) = omega arith in
        let second : 2 * suc k + 1 ≡ suc (suc (2 * k + 1)) = omega arith in
        let at_first : get_or (x ∷ y ∷ digits) (2 * suc k) 0 ≡ get_or digits (2 * k) 0 = rw first refl in
        let at_second : get_or (x ∷ y ∷ digits) (2 * suc k + 1) 0 ≡ get_or digits (2 * k + 1) 0 = rw second refl in
        (sym at_first ∙ high, sym at_second ∙ low)

pub pairs_len : (bytes : List ℕ) → length (flat_map hex_pair bytes) ≡ 2 * length bytes
pairs_len [] = refl
pairs_len (b ∷ bytes) = omega (arith, pairs_len bytes)

-- two digits more
pub one_pair_more : (bytes digits : List ℕ) (i : ℕ) → 2 * i + 1 < length digits
    → ((k : ℕ) → k < i → HasPair bytes digits k)
    → (k : ℕ) → k < i + 1
    → HasPair bytes (set (set digits (2 * i) (hex_digit (get_or bytes i 0 / 16))) (2 * i + 1) (hex_digit (get_or bytes i 0 % 16))) k
one_pair_more bytes digits i fits before = below_more _ _ earlier here
  where
    high : ℕ
    high = hex_digit (get_or bytes i 0 / 16)

    low : ℕ
    low = hex_digit (get_or bytes i 0 % 16)

    at_other : (place : ℕ) → place ≢ 2 * i → place ≢ 2 * i + 1
        → get_or (set (set digits (2 * i) high) (2 * i + 1) low) place 0 ≡ get_or digits place 0
    at_other place first second = get_or-set_other (set digits (2 * i) high) (2 * i + 1) place low 0 second
        ∙ get_or-set_other digits (2 * i) place high 0 first

    earlier : (k : ℕ) → k < i → HasPair bytes (set (set digits (2 * i) high) (2 * i + 1) low) k
    earlier k less =
        let (is_high, is_low) = before k less in (
          at_other (2 * k) (omega (arith, less)) (omega (arith, less)) ∙ is_high,
          at_other (2 * k + 1) (omega (arith, less)) (omega (arith, less)) ∙ is_low,
        )

    here : HasPair bytes (set (set digits (2 * i) high) (2 * i + 1) low) i
    here =
        let apart : 2 * i ≢ 2 * i + 1 = omega arith in (
          get_or-set_other (set digits (2 * i) high) (2 * i + 1) (2 * i) low 0 apart
              ∙ get_or-set_same digits (2 * i) high 0 (omega (arith, fits)),
          get_or-set_same (set digits (2 * i) high) (2 * i + 1) low 0 (omega (arith, fits, length-set digits (2 * i) high)),
        )

-- a list that was made longer and then written from its old end on
pub tail_written : (old more lent items out : List ℕ) (start n : ℕ) → start ≡ length old → items ≡ old ++ more → lent ≡ items → length more ≡ length out → n ≡ length items
    → take n (take start lent ++ (out ++ post_of start (length lent - start) lent) ++ drop (length (take start lent ++ (out ++ post_of start (length lent - start) lent))) items) ≡ old ++ out
tail_written old more lent items out start n at_end longer is_lent sizes all =
    let made : lent ≡ old ++ more = is_lent ∙ longer in
    let front : take start lent ≡ old = ap (take start) made ∙ take_at old more start (sym at_end) in
    let lent_len : length lent ≡ length old + length more = ap length made ∙ length-append old more in
    let items_len : length items ≡ length old + length more = ap length longer ∙ length-append old more in
    let past : post_of start (length lent - start) lent ≡ [] = drop_all (length lent - start) (drop start lent) (omega (arith, length-drop start lent)) in
    let whole : take start lent ++ (out ++ post_of start (length lent - start) lent) ≡ old ++ out =
    ap (λ (rest : List ℕ). take start lent ++ (out ++ rest)) past ∙ ap (λ (text : List ℕ). take start lent ++ text) (append-nil out) ∙ ap (λ (text : List ℕ). text ++ out) front in
    let whole_len = ap length whole ∙ length-append old out in
    let rest : drop (length (take start lent ++ (out ++ post_of start (length lent - start) lent))) items ≡ [] =
    drop_all (length (take start lent ++ (out ++ post_of start (length lent - start) lent))) items (omega arith) in
    ap (λ (text : List ℕ). take n (text ++ drop (length (take start lent ++ (out ++ post_of start (length lent - start) lent))) items)) whole
    ∙ ap (λ (text : List ℕ). take n ((old ++ out) ++ text)) rest
    ∙ ap (take n) (append-nil (old ++ out))
    ∙ take_all n (old ++ out) (omega (arith, length-append old out))
