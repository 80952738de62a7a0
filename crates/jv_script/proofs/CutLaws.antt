-- A text, cut at the first place of a byte.
use Rattle.std.proofs.Common.{◌≡◌, ℕ, ◌+◌, ◌-◌, ◌<◌, ◌≤◌, Bool, true, false, ◌==◌, List, [], ◌∷◌, ◌++◌, Option, Some, None, option_map, inl, inr, length, get_or, take, drop, sym, ap, subst, ◌∙◌, arith, add-one, get_or-take, get_or-drop, drop-cons}
use Rattle.std.proofs.lemmas.Bool.{cases_lt, false_from_ne_true}
use Rattle.std.proofs.lemmas.List.{take_rest, take-append-drop, length-take, length-drop, get_or_default}
use Rattle.std.proofs.lemmas.List.Splits.{slice_split_at, slice_split_none}
use Rattle.memchr.specs.Find.{Nowhere, Passes, IsFirstByte}
use Rattle.jv_model.specs.promise.Lists.{parted}

-- the text round a place
around : (text : List ℕ) (end : ℕ) → end < length text → text ≡ take end text ++ get_or text end 0 ∷ drop (end + 1) text
around text end h = sym (take-append-drop end text) ∙ ap (λ rest. take end text ++ rest) (drop-cons text end 0 h ∙ ap (λ n. get_or text end 0 ∷ drop n text) (sym (add-one end)))

pub parted_found : (separator : ℕ) (text : List ℕ) (end : ℕ) → end < length text → ((k : ℕ) → 0 ≤ k → k < end → (get_or text k 0 == separator) ≡ true → ⊥) → (get_or text end 0 == separator) ≡ true
    → parted separator text ≡ take end text ∷ parted separator (take (length text - (end + 1)) (drop (end + 1) text))
parted_found separator text end within before here =
    ap (parted separator) (around text end within)
    ∙ slice_split_at (λ c. c == separator) (take end text) (get_or text end 0) (drop (end + 1) text) others here
    ∙ ap (λ rest. take end text ∷ parted separator rest) (sym (take_rest text (end + 1)))
  where
    others : (k d : ℕ) → k < length (take end text) → (get_or (take end text) k d == separator) ≡ false
    others k d below =
        let early : k < end = omega (arith, length-take end text) in
        let inside : k < length text = omega (arith, length-take end text) in
        let same : get_or (take end text) k d ≡ get_or text k 0 = get_or-take end text k d early ∙ get_or_default text k d 0 inside in
        ap (λ c. c == separator) same ∙ false_from_ne_true _ (before k (omega arith) early)

pub parted_none : (separator : ℕ) (text : List ℕ) → ((k : ℕ) → 0 ≤ k → k < length text → (get_or text k 0 == separator) ≡ true → ⊥) → parted separator text ≡ text ∷ []
parted_none separator text nowhere =
    slice_split_none (λ c. c == separator) text (λ k d below. ap (λ c. c == separator) (get_or_default text k d 0 below) ∙ false_from_ne_true _ (nowhere k (omega arith) below))

-- a byte that isn't near is looked for in the rest
in_rest : (test : ℕ → Bool) (near k : ℕ) (text : List ℕ) → near ≤ k → Passes test text k → Passes test (drop near text) (k - near)
in_rest test near k text far passes =
    let at_place : near + (k - near) ≡ k = omega arith in
    ap test (get_or-drop near text (k - near) 0 ∙ ap (λ (i : ℕ). get_or text i 0) at_place) ∙ passes

nowhere_far : (test : ℕ → Bool) (near end : ℕ) (text : List ℕ) → Nowhere (Passes test text) 0 near → Nowhere (Passes test (drop near text)) 0 end → Nowhere (Passes test text) 0 (near + end)
nowhere_far test near end text before after k low high passes = elim (cases_lt k near) [
  | inl less ↦ before k low less passes
  | inr far ↦ after (k - near) (omega arith) (omega arith) (in_rest test near k text far passes)
]

pub first_far : (test : ℕ → Bool) (near : ℕ) (text : List ℕ) (found : Option ℕ) → near ≤ length text → Nowhere (Passes test text) 0 near → IsFirstByte test (take (length text - near) (drop near text)) found
    → IsFirstByte test text (option_map (λ far. near + far) found)
first_far test near text found within before first = by_place found (subst (λ (rest : List ℕ). IsFirstByte test rest found) (take_rest text near) first)
  where
    whole : near + length (drop near text) ≡ length text
    whole = omega (arith, length-drop near text)

    by_place : (found : Option ℕ) → IsFirstByte test (drop near text) found → IsFirstByte test text (option_map (λ far. near + far) found)
    by_place None nowhere = subst (λ (n : ℕ). Nowhere (Passes test text) 0 n) whole (nowhere_far test near (length (drop near text)) text before nowhere)
    by_place (Some far) (none, here) =
        let at_place : get_or (drop near text) far 0 ≡ get_or text (near + far) 0 = get_or-drop near text far 0 in
        (record { low = omega arith; high = omega (arith, whole, none.high); before = nowhere_far test near far text before none.before }, ap test (sym at_place) ∙ here)
