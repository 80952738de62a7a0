-- Parts of a buffer.
use Rattle.std.proofs.Common.{◌≡◌, ℕ, ◌+◌, ◌-◌, ◌<◌, ◌≤◌, min, List, ◌++◌, length, take, drop, sym, ap, ◌∙◌, ⊎_elim, arith}
use Rattle.std.proofs.lemmas.List.{drop-drop, drop-take, drop-append-le, drop_all, length-take, take-append-le, take-take}
use Rattle.std.proofs.lemmas.Bool.{cases_lt}
use Rattle.std.proofs.Math.Seq.{take-add}

-- what is held from a place on
pub held_from : (xs : List ℕ) (start from end : ℕ) → start + from ≤ end → take (end - (start + from)) (drop (start + from) xs) ≡ drop from (take (end - start) (drop start xs))
held_from xs start from end h =
    let size : from + (end - (start + from)) ≡ end - start = omega arith in
    ap (take (end - (start + from))) (sym (drop-drop from start xs))
    ∙ sym (drop-take from (end - (start + from)) (drop start xs))
    ∙ ap (λ n. drop from (take n (drop start xs))) size

cut : (xs : List ℕ) (start end : ℕ) → start ≤ end → take (end - start) (drop start xs) ≡ drop start (take end xs)
cut xs start end h =
    let size : start + (end - start) ≡ end = omega arith in
    sym (drop-take start (end - start) xs) ∙ ap (λ n. drop start (take n xs)) size

-- what is held after bytes were put behind it
pub held_more : (xs ys : List ℕ) (start end count : ℕ) → start ≤ end → end ≤ length ys → take end ys ≡ take end xs
    → take (end + count - start) (drop start ys) ≡ take (end - start) (drop start xs) ++ take count (drop end ys)
held_more xs ys start end count h fits front =
    cut ys start (end + count) (omega arith)
    ∙ ap (drop start) (take-add end count ys)
    ∙ drop-append-le start (take end ys) (take count (drop end ys)) (omega (arith, length-take end ys))
    ∙ ap (λ held. held ++ take count (drop end ys)) (ap (drop start) front ∙ sym (cut xs start end h))

-- what is held once bytes were let go, or all where there are fewer
pub held_past : (xs : List ℕ) (start more end next : ℕ) → start ≤ end → next ≡ min end (start + more)
    → take (end - next) (drop next xs) ≡ drop more (take (end - start) (drop start xs))
held_past xs start more end next order is =
    ⊎_elim (λ (few : start + more < end).
    let there : next ≡ start + more = omega (arith, is) in
    ap (λ n. take (end - n) (drop n xs)) there ∙ held_from xs start more end (omega arith))
    (λ (many : end ≤ start + more).
    let none : end - next ≡ 0 = omega (arith, is) in
    ap (λ n. take n (drop next xs)) none
    ∙ sym (drop_all more (take (end - start) (drop start xs)) (omega (arith, length-take (end - start) (drop start xs)))))
    (cases_lt (start + more) end)

-- what is held stays where the buffer gets more room behind it
pub held_on : (xs ys : List ℕ) (end room : ℕ) → end ≤ length xs → end ≤ room → take end (take room xs ++ ys) ≡ take end xs
held_on xs ys end room fits low = take-append-le end (take room xs) ys (omega (arith, length-take room xs)) ∙ take-take end room xs low
