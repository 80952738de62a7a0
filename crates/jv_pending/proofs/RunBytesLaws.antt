-- Bytes behind room that is not theirs.
use Rattle.std.proofs.Common.{◌≡◌, ℕ, ◌+◌, ◌≤◌, List, ◌++◌, length, take, drop, ap, sym, ◌∙◌, arith}
use Rattle.std.proofs.lemmas.List.{drop-append-le, drop-take, drop-drop, length-take-le}
use Rattle.jv_pending.specs.Runs.{joined_behind}

-- what is written at an index of the bytes lies as far behind the room
pub drop_over : (room at : ℕ) (all xs : List ℕ) → room + at ≤ length all → drop room (take (room + at) all ++ xs) ≡ take at (drop room all) ++ xs
drop_over room at all xs h =
    drop-append-le room (take (room + at) all) xs (omega (arith, length-take-le (room + at) all h))
    ∙ ap (λ (t : List ℕ). t ++ xs) (drop-take room at all)

drop_rest : (room at n : ℕ) (all : List ℕ) → drop (room + at + n) all ≡ drop (at + n) (drop room all)
drop_rest room at n all = ap (λ k. drop k all) (let d : room + at + n ≡ room + (at + n) = omega arith in d) ∙ sym (drop-drop (at + n) room all)

pub put_behind : (room at : ℕ) (all bytes : List ℕ) → room + at ≤ length all
    → drop room (take (room + at) all ++ (bytes ++ drop (room + at + length bytes) all)) ≡ take at (drop room all) ++ (bytes ++ drop (at + length bytes) (drop room all))
put_behind room at all bytes h =
    drop_over room at all (bytes ++ drop (room + at + length bytes) all) h
    ∙ ap (λ (t : List ℕ). take at (drop room all) ++ (bytes ++ t)) (drop_rest room at (length bytes) all)

pub joined_behind_room : (room at : ℕ) (all bytes more : List ℕ) → room + at ≤ length all → drop room (joined_behind (room + at) all bytes more) ≡ joined_behind at (drop room all) bytes more
joined_behind_room room at all bytes more h =
    drop_over room at all (bytes ++ (drop (room + at + length bytes) all ++ more)) h
    ∙ ap (λ (t : List ℕ). take at (drop room all) ++ (bytes ++ (t ++ more))) (drop_rest room at (length bytes) all)
