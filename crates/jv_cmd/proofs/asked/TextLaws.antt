-- How bytes are cut into texts.
use Rattle.std.proofs.Common.{◌≡◌, ℕ, suc, ◌+◌, ◌<◌, ◌≤◌, Bool, true, false, not, cond, ltb, List, [], ◌∷◌, ◌++◌, length, get_or, take, drop, zero, Option, Some, None, inl, inr, refl, sym, ap, ◌∙◌, arith}
use Rattle.std.proofs.lemmas.Bool.{or_parts, or_from, cond-true, cond-false, eqb-true, ltb-false, ltb-true, lt-ltb, le-ltb, cases_Bool}
use Rattle.std.proofs.lemmas.Bool.{false_from_ne_true}
use Rattle.std.proofs.lemmas.List.{take-append-drop, drop_more, get_or-take, length-take, length-drop}
use Rattle.std.proofs.lemmas.List.Quantifiers.{position-Some}
use Rattle.std.proofs.lemmas.List.Sums.{position_or_len_is}
use Rattle.std.specs.List.{onto_first, position, position_or_len, prefix_len}
use Rattle.memchr.specs.Find.{IsFirstByte, is_byte}
use Rattle.jv_cmd.specs.promise.Texts.{is_feed, texts_of}
use Rattle.jv_cmd.specs.Texts.{has_feed}

-- a text that a line feed ends
pub texts_of-feed : (xs ys : List ℕ) → has_feed xs ≡ false → texts_of (xs ++ 10 ∷ ys) ≡ xs ∷ texts_of ys
texts_of-feed [] ys h = refl
texts_of-feed (x ∷ xs) ys h =
    let parts = or_parts (is_feed x) (has_feed xs) h in
    cond-false (is_feed x) ([] ∷ texts_of (xs ++ 10 ∷ ys)) (onto_first x (texts_of (xs ++ 10 ∷ ys))) parts.0 ∙ ap (onto_first x) (texts_of-feed xs ys parts.1)

-- the last text, which no line feed ends
pub texts_of-last : (xs : List ℕ) → has_feed xs ≡ false → 0 < length xs → texts_of xs ≡ xs ∷ []
texts_of-last [] h s = absurd (omega arith)
texts_of-last (x ∷ []) h s = cond-false (is_feed x) ([] ∷ []) ((x ∷ []) ∷ []) (or_parts (is_feed x) false h).0
texts_of-last (x ∷ y ∷ xs) h s =
    let parts = or_parts (is_feed x) (has_feed (y ∷ xs)) h in
    cond-false (is_feed x) ([] ∷ texts_of (y ∷ xs)) (onto_first x (texts_of (y ∷ xs))) parts.0 ∙ ap (onto_first x) (texts_of-last (y ∷ xs) parts.1 (omega arith))

first_of : (x : ℕ) (texts : List (List ℕ)) → (next : List ℕ) × (more : List (List ℕ)) × (1 ≤ length next) × (onto_first x texts ≡ next ∷ more)
first_of x [] = (x ∷ [], [], omega arith, refl)
first_of x (text ∷ texts) = (x ∷ text, texts, omega arith, refl)

-- bytes without a line feed belong to the first text
pub texts_of-long : (xs ys : List ℕ) → has_feed xs ≡ false → 0 < length xs → (next : List ℕ) × (more : List (List ℕ)) × (length xs ≤ length next) × (texts_of (xs ++ ys) ≡ next ∷ more)
texts_of-long [] ys h s = absurd (omega arith)
texts_of-long (x ∷ []) ys h s =
    let first = first_of x (texts_of ys) in
    (first.0, first.1, first.2, cond-false (is_feed x) ([] ∷ texts_of ys) (onto_first x (texts_of ys)) (or_parts (is_feed x) false h).0 ∙ first.3)
texts_of-long (x ∷ y ∷ xs) ys h s =
    let parts = or_parts (is_feed x) (has_feed (y ∷ xs)) h in
    let later = texts_of-long (y ∷ xs) ys parts.1 (omega arith) in
    (x ∷ later.0, later.1, omega (arith, later.2), cond-false (is_feed x) ([] ∷ texts_of ((y ∷ xs) ++ ys)) (onto_first x (texts_of ((y ∷ xs) ++ ys))) parts.0 ∙ ap (onto_first x) later.3)

no_feed_from_places : (xs : List ℕ) → ((k : ℕ) → k < length xs → is_feed (get_or xs k 0) ≡ false) → has_feed xs ≡ false
no_feed_from_places [] each = refl
no_feed_from_places (x ∷ xs) each = or_from (is_feed x) (has_feed xs) (each 0 (omega arith)) (no_feed_from_places xs (λ k below. each (suc k) (omega arith)))

-- the bytes around the first line feed
pub around_feed : (xs : List ℕ) (k : ℕ) → position is_feed xs ≡ Some k → (k < length xs) × (has_feed (take k xs) ≡ false) × (xs ≡ take k xs ++ 10 ∷ drop (k + 1) xs)
around_feed xs k e =
    let found = position-Some is_feed xs k 0 e in
    let feed : get_or xs k 0 ≡ 10 = eqb-true (get_or xs k 0) 10 found.1 in
    let front = no_feed_from_places (take k xs) (λ i below.
    let low : i < k = omega (arith, length-take k xs) in
    ap is_feed (get_or-take k xs i 0 low) ∙ found.2 i low) in
    (found.0, front, sym (take-append-drop k xs) ∙ ap (λ rest. take k xs ++ rest) (drop_more xs k 0 found.0 ∙ ap (λ b. b ∷ drop (k + 1) xs) feed))

no_feed_along : (xs : List ℕ) → length xs ≤ position_or_len is_feed xs → has_feed xs ≡ false
no_feed_along [] h = refl
no_feed_along (x ∷ xs) h = elim (cases_Bool (is_feed x)) [
  | inl e ↦ let none : prefix_len (λ b. not (is_feed b)) (x ∷ xs) ≡ 0 = ap (λ b. cond (not b) (1 + prefix_len (λ b. not (is_feed b)) xs) 0) e in absurd (omega (arith, none))
  | inr e ↦ let one : prefix_len (λ b. not (is_feed b)) (x ∷ xs) ≡ 1 + prefix_len (λ b. not (is_feed b)) xs = ap (λ b. cond (not b) (1 + prefix_len (λ b. not (is_feed b)) xs) 0) e in or_from (is_feed x) (has_feed xs) e (no_feed_along xs (omega (arith, one)))
]

none_or_some : (b : Bool) (n : ℕ) → cond b (Some n) None ≡ None → b ≡ false
none_or_some true n e = cc
none_or_some false n e = refl

pub no_feed : (xs : List ℕ) → position is_feed xs ≡ None → has_feed xs ≡ false
no_feed xs e = no_feed_along xs (ltb-false (position_or_len is_feed xs) (length xs) (none_or_some (ltb (position_or_len is_feed xs) (length xs)) (position_or_len is_feed xs) e))

some_is : (b : Bool) (n k : ℕ) → cond b (Some n) None ≡ Some k → (b ≡ true) × (n ≡ k)
some_is true n k e = (refl, cc)
some_is false n k e = cc

length_after : (seen : ℕ) (xs : List ℕ) → seen ≤ length xs → has_feed (take seen xs) ≡ false → position_or_len is_feed xs ≡ seen + position_or_len is_feed (drop seen xs)
length_after zero xs h none = omega arith
length_after (suc seen) [] h none = absurd (omega arith)
length_after (suc seen) (x ∷ xs) h none =
    let parts = or_parts (is_feed x) (has_feed (take seen xs)) none in
    let one : position_or_len is_feed (x ∷ xs) ≡ 1 + position_or_len is_feed xs = ap (λ b. cond (not b) (1 + position_or_len is_feed xs) 0) parts.0 in
    let later = length_after seen xs (omega arith) parts.1 in
    omega (arith, one, later)

-- what a search for the byte finds
pub first_feed : (xs : List ℕ) (found : Option ℕ) → IsFirstByte (is_byte 10) xs found → found ≡ position is_feed xs
first_feed xs None nowhere =
    let past = position_or_len_is is_feed xs (length xs) 0 (omega arith)
    (λ k below. false_from_ne_true _ (nowhere k (omega arith) below)) (λ never. absurd (omega (arith, never))) in
    sym (cond-false _ (Some (position_or_len is_feed xs)) None
    (le-ltb (position_or_len is_feed xs) (length xs) (omega (arith, past))))
first_feed xs (Some k) (none, here) =
    let place = position_or_len_is is_feed xs k 0 (omega (arith, none.high))
    (λ j below. false_from_ne_true _ (none.before j (omega arith) below)) (λ within. here) in
    sym (cond-true _ (Some (position_or_len is_feed xs)) None
    (lt-ltb (position_or_len is_feed xs) (length xs) (omega (arith, none.high, place))) ∙ ap Some place)

-- a search that begins behind bytes without a line feed
pub position_after-none : (xs : List ℕ) (seen : ℕ) → seen ≤ length xs → has_feed (take seen xs) ≡ false → position is_feed (drop seen xs) ≡ None → position is_feed xs ≡ None
position_after-none xs seen h none e =
    let far = ltb-false _ _ (none_or_some (ltb (position_or_len is_feed (drop seen xs)) (length (drop seen xs))) _ e) in
    let all = length_after seen xs h none in
    cond-false _ (Some (position_or_len is_feed xs)) None (le-ltb (position_or_len is_feed xs) (length xs) (omega (arith, far, all, length-drop seen xs)))

pub position_after-some : (xs : List ℕ) (seen k : ℕ) → seen ≤ length xs → has_feed (take seen xs) ≡ false → position is_feed (drop seen xs) ≡ Some k → position is_feed xs ≡ Some (seen + k)
position_after-some xs seen k h none e =
    let is = some_is (ltb (position_or_len is_feed (drop seen xs)) (length (drop seen xs))) _ k e in
    let near = ltb-true _ _ is.0 in
    let all = length_after seen xs h none in
    let place : position_or_len is_feed xs ≡ seen + k = omega (arith, all, is.1) in
    cond-true _ (Some (position_or_len is_feed xs)) None (lt-ltb (position_or_len is_feed xs) (length xs) (omega (arith, near, all, length-drop seen xs))) ∙ ap Some place

pub position_within : (xs : List ℕ) (k : ℕ) → position is_feed xs ≡ Some k → k < length xs
position_within xs k e = (position-Some is_feed xs k 0 e).0
