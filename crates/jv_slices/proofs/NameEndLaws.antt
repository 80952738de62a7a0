-- Laws of texts that end in something.
use Rattle.std.proofs.Common.{◌≡◌, ◌≢◌, ℕ, ◌+◌, ◌-◌, ◌<◌, ◌≤◌, ◌^◌, true, false, List, [], ◌∷◌, ◌++◌, length, get_or, take, drop, Option, Some, None, Result, Ok, Err, refl, sym, ap, ◌∙◌, subst, arith, codes, append_assoc, ⊎_elim}
use Rattle.std.specs.Prelude.{MatchOption, MatchResult}
use Rattle.std.specs.Result.{result_ok}
use Rattle.std.specs.Borrow.{Bor}
use Rattle.std.specs.Fmt.{decimal}
use Rattle.std.specs.Int.{IsInRange}
use Rattle.std.proofs.lemmas.Bool.{cases_lt, false≢true, le-leb}
use Rattle.std.proofs.lemmas.Fmt.{digits_decimal, decimal_injective}
use Rattle.std.proofs.lemmas.Str.Parse.{numerals_by_value, tells_by_index}
use Rattle.std.proofs.lemmas.List.{append_cancel_right, take_at, drop_at, get_or-append-add, get_or_append_left, get_or_at, length-append}
use Rattle.jv_model.specs.declared.slice.BlockId.{BlockId}
use Rattle.jv_model.specs.promise.script.Spelling.{is_decimal_digit}
use Rattle.jv_slices.specs.NameParts.{numbers_of}

pub match_none : {A : Type 0} (r : Option A) (P : Type 0) (Q : A → Type 0) → r ≡ None → P → MatchOption r P Q
match_none {A} r P Q e p = let M : Option A → Type 0 = λ o. MatchOption o P Q in subst M (sym e) p

-- ends of three parts, the last of which isn't there
pub lacks_last : (text a b c : List ℕ) → ((front : List ℕ) → text ≢ front ++ c) → (front : List ℕ) → text ≢ front ++ (a ++ b ++ c)
lacks_last text a b c lacks front e = lacks (front ++ (a ++ b)) (e ∙ sym (append_assoc front (a ++ b) c))

-- or the one before it
pub lacks_mid : (text s a b c : List ℕ) → text ≡ s ++ c → ((front : List ℕ) → s ≢ front ++ b) → (front : List ℕ) → text ≢ front ++ (a ++ b ++ c)
lacks_mid text s a b c is lacks front e =
    lacks (front ++ a) (append_cancel_right s (front ++ a ++ b) c (sym is ∙ e ∙ sym (append_assoc front (a ++ b) c) ∙ ap (λ x. x ++ c) (sym (append_assoc front a b))))

-- ends of three parts, of which two are there
pub ends_three : (text s t a b c : List ℕ) (r : Option (Bor (List ℕ))) → text ≡ s ++ c → s ≡ t ++ b → MatchOption r ((front : List ℕ) → t ≢ front ++ a) (λ front. t ≡ front.now ++ a) → MatchOption r ((front : List ℕ) → text ≢ front ++ (a ++ b ++ c)) (λ front. text ≡ front.now ++ (a ++ b ++ c))
ends_three text s t a b c None is was lacks = λ front e.
    lacks front (append_cancel_right t (front ++ a) b (sym was ∙ append_cancel_right s (front ++ a ++ b) c (sym is ∙ e ∙ sym (append_assoc front (a ++ b) c) ∙ ap (λ x. x ++ c) (sym (append_assoc front a b)))))
ends_three text s t a b c (Some r) is was had = is ∙ ap (λ x. x ++ c) (was ∙ ap (λ x. x ++ b) had) ∙ ap (λ x. x ++ c) (append_assoc r.now a b) ∙ append_assoc r.now (a ++ b) c

-- the digits of a number are digits
pub decimal_digit_at : (n : ℕ) → n < 2 ^ 64 → (k : ℕ) → k < length (decimal n) → is_decimal_digit (get_or (decimal n) k 0) ≡ true
decimal_digit_at n small k below =
    let in_range : IsInRange 48 57 (get_or (decimal n) k 0) = digits_decimal (numerals_by_value _ tells_by_index) n small k below in
    rw (le-leb 48 (get_or (decimal n) k 0) (omega (arith, in_range)), le-leb (get_or (decimal n) k 0) 57 (omega (arith, in_range))) refl

-- where the digits of a number begin that stands behind another byte
pub digits_begin : (text front : List ℕ) (mark n start : ℕ) → is_decimal_digit mark ≡ false → n < 2 ^ 64 → text ≡ front ++ mark ∷ [] ++ decimal n → start ≤ length text → ((k : ℕ) → start ≤ k → k < length text → is_decimal_digit (get_or text k 0) ≡ true) → (0 < start → is_decimal_digit (get_or text (start - 1) 0) ≡ false) → start ≡ length (front ++ mark ∷ [])
digits_begin text front mark n start other small e within digits first =
    ⊎_elim (λ low. absurd (too_low low)) (λ high. ⊎_elim (λ over. absurd (too_high over)) (λ exact. omega (arith, exact)) (cases_lt (length whole) start)) (cases_lt start (length whole))
  where
    whole : List ℕ
    whole = front ++ mark ∷ []

    long : length text ≡ length whole + length (decimal n)
    long = ap (length {A = ℕ}) e ∙ length-append whole (decimal n)

    one_more : length whole ≡ length front + 1
    one_more = length-append front (mark ∷ [])

    too_low : start < length whole → ⊥
    too_low low =
        let at : get_or text (length front) 0 ≡ mark = ap (λ t. get_or t (length front) 0) e ∙ get_or_append_left whole (decimal n) 0 (length front) (omega (arith, one_more)) ∙ get_or_at front mark [] 0 (length front) refl in
        false≢true (sym other ∙ ap is_decimal_digit (sym at) ∙ digits (length front) (omega (arith, one_more)) (omega (arith, one_more, long)))

    too_high : length whole < start → ⊥
    too_high over =
        let k = start - 1 - length whole in
        let place : start - 1 ≡ length whole + k = omega arith in
        let at : get_or text (start - 1) 0 ≡ get_or (decimal n) k 0 = ap (λ t. get_or t (start - 1) 0) e ∙ ap (λ i. get_or (whole ++ decimal n) i 0) place ∙ get_or-append-add whole (decimal n) k 0 in
        false≢true (sym (first (omega arith)) ∙ ap is_decimal_digit at ∙ decimal_digit_at n small k (omega (arith, long)))

-- what a result without value, or with one, is
pub not_ok : {A E : Type 0} (r : Result A E) (P : A → Type 0) (Q : E → Type 0) → MatchResult r P Q → None ≡ result_ok r → (x : E) × Q x
not_ok (Ok x) P Q h e = let no : ⊥ = cc in absurd no
not_ok (Err x) P Q h e = (x, h)

pub ok_is : {A E : Type 0} (r : Result A E) (P : A → Type 0) (Q : E → Type 0) (x : A) → MatchResult r P Q → Some x ≡ result_ok r → P x
ok_is {A} (Ok y) P Q x h e = let same : y ≡ x = cc in subst P same h
ok_is (Err y) P Q x h e = let no : ⊥ = cc in absurd no

-- a text cut where its number begins
pub number_parts : (text whole : List ℕ) (n k : ℕ) → text ≡ whole ++ decimal n → k ≡ length whole → (take k text ≡ whole) × (drop k text ≡ decimal n)
number_parts text whole n k e at =
    (ap (take k) e ∙ take_at whole (decimal n) k (sym at), ap (drop k) e ∙ drop_at whole (decimal n) k (sym at))

-- a text ends in one number behind another byte
pub number_ends_once : (f g : List ℕ) (m k x y : ℕ) → is_decimal_digit m ≡ false → is_decimal_digit k ≡ false → x < 2 ^ 64 → y < 2 ^ 64 → f ++ m ∷ [] ++ decimal x ≡ g ++ k ∷ [] ++ decimal y → (f ++ m ∷ [] ≡ g ++ k ∷ []) × (x ≡ y)
number_ends_once f g m k x y m_other k_other x_small y_small e =
    (sym parts.0 ∙ other_parts.0, decimal_injective x y x_small y_small (sym parts.1 ∙ other_parts.1))
  where
    text : List ℕ
    text = f ++ m ∷ [] ++ decimal x

    whole : List ℕ
    whole = g ++ k ∷ []

    long : length text ≡ length whole + length (decimal y)
    long = ap (length {A = ℕ}) e ∙ length-append whole (decimal y)

    one_more : length whole ≡ length g + 1
    one_more = length-append g (k ∷ [])

    digits : (q : ℕ) → length whole ≤ q → q < length text → is_decimal_digit (get_or text q 0) ≡ true
    digits q low high =
        let j = q - length whole in
        let place : q ≡ length whole + j = omega arith in
        let at : get_or text q 0 ≡ get_or (decimal y) j 0 = ap (λ t. get_or t q 0) e ∙ ap (λ i. get_or (whole ++ decimal y) i 0) place ∙ get_or-append-add whole (decimal y) j 0 in
        ap is_decimal_digit at ∙ decimal_digit_at y y_small j (omega (arith, long))

    first : 0 < length whole → is_decimal_digit (get_or text (length whole - 1) 0) ≡ false
    first some =
        let last : length whole - 1 ≡ length g = omega (arith, one_more) in
        let at : get_or text (length whole - 1) 0 ≡ k = ap (λ i. get_or text i 0) last ∙ ap (λ t. get_or t (length g) 0) e ∙ get_or_append_left whole (decimal y) 0 (length g) (omega (arith, one_more)) ∙ get_or_at g k [] 0 (length g) refl in
        ap is_decimal_digit at ∙ k_other

    start : length whole ≡ length (f ++ m ∷ [])
    start = digits_begin text f m x (length whole) m_other x_small refl (omega (arith, long)) digits first

    parts : (take (length whole) text ≡ f ++ m ∷ []) × (drop (length whole) text ≡ decimal x)
    parts = number_parts text (f ++ m ∷ []) x (length whole) refl start

    other_parts : (take (length whole) text ≡ whole) × (drop (length whole) text ≡ decimal y)
    other_parts = number_parts text whole y (length whole) e refl

-- the numbers of a block, one after the other from the end
pub numbers_end : (text whole : List ℕ) (block : BlockId) → text ≡ whole ++ numbers_of block → text ≡ whole ++ (decimal block.id ++ codes "_" ++ decimal block.index) ++ codes "_" ++ decimal block.size
numbers_end text whole block e = e ∙ sym (append_assoc whole (front ++ codes "_") (decimal block.size)) ∙ ap (λ x. x ++ decimal block.size) (sym (append_assoc whole front (codes "_")))
  where
    front : List ℕ
    front = decimal block.id ++ codes "_" ++ decimal block.index

pub numbers_mid : (text whole : List ℕ) (block : BlockId) → text ≡ whole ++ (decimal block.id ++ codes "_" ++ decimal block.index) → text ≡ whole ++ decimal block.id ++ codes "_" ++ decimal block.index
numbers_mid text whole block e = e ∙ sym (append_assoc whole (decimal block.id ++ codes "_") (decimal block.index)) ∙ ap (λ x. x ++ decimal block.index) (sym (append_assoc whole (decimal block.id) (codes "_")))

pub same_block : (id index size : ℕ) (block : BlockId) → id ≡ block.id → index ≡ block.index → size ≡ block.size → record { id = id; index = index; size = size } ≡ block
same_block id index size block a b c =
    let first : BlockId = record { id = id; index = index; size = size } in
    let second : BlockId = record { id = block.id; index = index; size = size } in
    let third : BlockId = record { id = block.id; index = block.index; size = size } in
    let one : first ≡ second = ap (λ (n : ℕ). let r : BlockId = record { id = n; index = index; size = size } in r) a in
    let two : second ≡ third = ap (λ (n : ℕ). let r : BlockId = record { id = block.id; index = n; size = size } in r) b in
    let three : third ≡ block = ap (λ (n : ℕ). let r : BlockId = record { id = block.id; index = block.index; size = n } in r) c in
    one ∙ two ∙ three
