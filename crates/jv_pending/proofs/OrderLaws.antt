-- Runs in order, their bytes, and a cut of them at a place.
use Rattle.std.proofs.Common.{◌≡◌, ℕ, suc, ◌+◌, ◌-◌, ◌≤◌, List, [], ◌∷◌, ◌++◌, length, take, drop, ⊎_elim, refl, sym, ap, ◌∙◌, arith}
use Rattle.std.proofs.lemmas.Bool.{cases_lt}
use Rattle.std.proofs.lemmas.List.{append_assoc, take_all, drop_all}
use Rattle.jv_model.specs.declared.limits.TheConstants.{FILE_END}
use Rattle.jv_model.specs.promise.client.Pending.{PendingByte}
use Rattle.jv_pending.specs.Runs.{Run, place, placed, pending_bytes, end_of_run, end_place, InOrder, end_after, EndBy}
use Rattle.jv_pending.proofs.ByteLaws.{Rises, Rises-weaker, Rises-placed, front, back, front_below, front_from, back_below, back_here, back_from}

pub EndBy-weaker : (m n : ℕ) (rs : List Run) → m ≤ n → EndBy m rs → EndBy n rs
EndBy-weaker m n [] h e = tt
EndBy-weaker m n (r ∷ rs) h e = (omega arith, EndBy-weaker m n rs h e.1)

pub InOrder-weaker : (m n : ℕ) (rs : List Run) → n ≤ m → InOrder m rs → InOrder n rs
InOrder-weaker m n [] h o = tt
InOrder-weaker m n (r ∷ rs) h o = (o.0, omega arith, o.2)

pub InOrder-left : (low : ℕ) (xs ys : List Run) → InOrder low (xs ++ ys) → InOrder low xs
InOrder-left low [] ys o = tt
InOrder-left low (x ∷ xs) ys o = (o.0, o.1, InOrder-left (end_place x) xs ys o.2)

pub InOrder-right : (low : ℕ) (xs ys : List Run) → InOrder low (xs ++ ys) → InOrder (end_after low xs) ys
InOrder-right low [] ys o = o
InOrder-right low (x ∷ xs) ys o = InOrder-right (end_place x) xs ys o.2

pub InOrder-append : (low : ℕ) (xs ys : List Run) → InOrder low xs → InOrder (end_after low xs) ys → InOrder low (xs ++ ys)
InOrder-append low [] ys o p = p
InOrder-append low (x ∷ xs) ys o p = (o.0, o.1, InOrder-append (end_place x) xs ys o.2 p)

pub end_after_by : (low n : ℕ) (rs : List Run) → low ≤ n → EndBy n rs → end_after low rs ≤ n
end_after_by low n [] h e = h
end_after_by low n (r ∷ rs) h e = end_after_by (end_place r) n rs e.0 e.1

pub end_after_mono : (m n : ℕ) (rs : List Run) → m ≤ n → end_after m rs ≤ end_after n rs
end_after_mono m n [] h = h
end_after_mono m n (r ∷ rs) h = omega arith

pub pending_bytes-append : (xs ys : List Run) → pending_bytes (xs ++ ys) ≡ pending_bytes xs ++ pending_bytes ys
pending_bytes-append [] ys = refl
pending_bytes-append (x ∷ xs) ys = ap (λ (t : List PendingByte). placed x.0.inode x.0.from x.1 ++ t) (pending_bytes-append xs ys) ∙ sym (append_assoc (placed x.0.inode x.0.from x.1) (pending_bytes xs) (pending_bytes ys))

pub placed-append : (i f : ℕ) (xs ys : List ℕ) → placed i f (xs ++ ys) ≡ placed i f xs ++ placed i (f + length xs) ys
placed-append i f [] ys = ap (λ k. placed i k ys) (omega arith)
placed-append i f (x ∷ xs) ys =
    ap (λ (t : List PendingByte). record { inode = i; position = f; byte = x } ∷ t)
    (placed-append i (f + 1) xs ys ∙ ap (λ k. placed i (f + 1) xs ++ placed i k ys) (omega arith))

pub length-placed : (i f : ℕ) (xs : List ℕ) → length (placed i f xs) ≡ length xs
length-placed i f [] = refl
length-placed i f (x ∷ xs) = ap suc (length-placed i (f + 1) xs)

pub Rises-runs : (low : ℕ) (rs : List Run) → InOrder low rs → Rises low (pending_bytes rs)
Rises-runs low [] o = tt
Rises-runs low (r ∷ rs) o =
    Rises-placed r.0.inode r.0.from low (end_of_run r) r.1 (pending_bytes rs) refl o.0.in_file (omega arith) (Rises-runs (end_place r) rs o.2)

front_placed : (n i f : ℕ) (bs : List ℕ) (t : List PendingByte) → place i (f + length bs) ≤ n → front n (placed i f bs ++ t) ≡ placed i f bs ++ front n t
front_placed n i f [] t h = refl
front_placed n i f (b ∷ bs) t h =
    front_below n (record { inode = i; position = f; byte = b }) (placed i (f + 1) bs ++ t) (omega arith)
    ∙ ap (λ (u : List PendingByte). record { inode = i; position = f; byte = b } ∷ u) (front_placed n i (f + 1) bs t (omega arith))

back_placed : (n i f : ℕ) (bs : List ℕ) (t : List PendingByte) → place i (f + length bs) ≤ n → back n (placed i f bs ++ t) ≡ back n t
back_placed n i f [] t h = refl
back_placed n i f (b ∷ bs) t h =
    back_below n (record { inode = i; position = f; byte = b }) (placed i (f + 1) bs ++ t) (omega arith)
    ∙ back_placed n i (f + 1) bs t (omega arith)

pub front_runs : (n : ℕ) (rs : List Run) (t : List PendingByte) → EndBy n rs → front n (pending_bytes rs ++ t) ≡ pending_bytes rs ++ front n t
front_runs n [] t e = refl
front_runs n (r ∷ rs) t e =
    ap (front n) (append_assoc (placed r.0.inode r.0.from r.1) (pending_bytes rs) t)
    ∙ front_placed n r.0.inode r.0.from r.1 (pending_bytes rs ++ t) e.0
    ∙ ap (λ (u : List PendingByte). placed r.0.inode r.0.from r.1 ++ u) (front_runs n rs t e.1)
    ∙ sym (append_assoc (placed r.0.inode r.0.from r.1) (pending_bytes rs) (front n t))

pub back_run : (n : ℕ) (r : Run) (rs : List Run) (t : List PendingByte) → end_place r ≤ n → back n (pending_bytes (r ∷ rs) ++ t) ≡ back n (pending_bytes rs ++ t)
back_run n r rs t h = ap (back n) (append_assoc (placed r.0.inode r.0.from r.1) (pending_bytes rs) t) ∙ back_placed n r.0.inode r.0.from r.1 (pending_bytes rs ++ t) h

pub back_runs : (n : ℕ) (rs : List Run) (t : List PendingByte) → EndBy n rs → back n (pending_bytes rs ++ t) ≡ back n t
back_runs n [] t e = refl
back_runs n (r ∷ rs) t e = back_run n r rs t e.0 ∙ back_runs n rs t e.1

-- bytes in a row, cut at a position
pub front_part : (n i f from : ℕ) (bs : List ℕ) (t : List PendingByte) → n ≡ place i from → f + length bs ≤ FILE_END → from ≤ f + length bs → Rises (place i (f + length bs)) t → front n (placed i f bs ++ t) ≡ placed i f (take (from - f) bs)
front_part n i f from [] t e l h r = front_from n t (Rises-weaker (place i (f + 0)) n t (omega arith) r) ∙ ap (placed i f) (sym (take_all (from - f) [] (omega arith)))
front_part n i f from (b ∷ bs) t e l h r =
    ⊎_elim
    (λ lt.
    front_below n (record { inode = i; position = f; byte = b }) (placed i (f + 1) bs ++ t) (omega arith)
    ∙ ap (λ (u : List PendingByte). record { inode = i; position = f; byte = b } ∷ u) (front_part n i (f + 1) from bs t e (omega arith) (omega arith) (Rises-weaker (place i (f + length (b ∷ bs))) (place i (f + 1 + length bs)) t (omega arith) r))
    ∙ ap (λ k. placed i f (take k (b ∷ bs))) (let d : suc (from - (f + 1)) ≡ from - f = omega arith in d))
    (λ ge.
    front_from n (placed i f (b ∷ bs) ++ t) (Rises-placed i f n (f + length (b ∷ bs)) (b ∷ bs) t refl l (omega arith) r)
    ∙ ap (λ k. placed i f (take k (b ∷ bs))) (let d : 0 ≡ from - f = omega arith in d))
    (cases_lt f from)

pub back_part : (n i f to : ℕ) (bs : List ℕ) (t : List PendingByte) → n ≡ place i to → f ≤ to → Rises n t → back n (placed i f bs ++ t) ≡ placed i to (drop (to - f) bs) ++ t
back_part n i f to [] t e h r = back_from n t r ∙ ap (λ (u : List ℕ). placed i to u ++ t) (sym (drop_all (to - f) [] (omega arith)))
back_part n i f to (b ∷ bs) t e h r =
    ⊎_elim
    (λ lt.
    back_below n (record { inode = i; position = f; byte = b }) (placed i (f + 1) bs ++ t) (omega arith)
    ∙ back_part n i (f + 1) to bs t e (omega arith) r
    ∙ ap (λ k. placed i to (drop k (b ∷ bs)) ++ t) (let d : suc (to - (f + 1)) ≡ to - f = omega arith in d))
    (λ ge.
    back_here n (record { inode = i; position = f; byte = b }) (placed i (f + 1) bs ++ t) (omega arith)
    ∙ ap (λ k. placed i k (b ∷ bs) ++ t) (let d : f ≡ to = omega arith in d)
    ∙ ap (λ k. placed i to (drop k (b ∷ bs)) ++ t) (let d : 0 ≡ to - f = omega arith in d))
    (cases_lt f to)
