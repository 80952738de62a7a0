-- A write over runs: what it leaves of the runs that it overlaps or touches, and that all stay in order.
use Rattle.std.proofs.Common.{◌≡◌, ℕ, ◌+◌, ◌-◌, ◌<◌, ◌≤◌, ◌%◌, min, eqb, List, [], ◌∷◌, ◌++◌, length, take, drop, subst, ◌⊎◌, inl, inr, ⊎_elim, sym, ap, ◌∙◌, arith}
use Rattle.std.proofs.lemmas.Bool.{cases_lt, cases_eq, cond-true, cond-false, eq-eqb, ne_eqb}
use Rattle.std.proofs.lemmas.List.{append_assoc, append-nil, length-append, length-take-le, length-drop}
use Rattle.jv_model.specs.declared.limits.TheConstants.{FILE_END, WINDOW}
use Rattle.jv_model.specs.promise.client.Pending.{PendingByte, written}
use Rattle.jv_pending.specs.Runs.{Run, place, placed, pending_bytes, end_of_run, end_place, start_place, gap, InOrder, Rise, end_after, IsCut, head_of, tail_of, joined_from, joined, EndBy, BeginBy, Reaches}
use Rattle.jv_pending.proofs.ByteLaws.{Rises, Rises-weaker, front, back, front_from, back_from, written_is}
use Rattle.jv_pending.proofs.OrderLaws.{EndBy-weaker, InOrder-weaker, InOrder-left, InOrder-right, InOrder-append, end_after_by, end_after_mono, pending_bytes-append, placed-append, Rises-runs, front_runs, back_runs, back_run, front_part, back_part}

-- a gap is 0 at the begin of a window, and 1 elsewhere
pub gap_says : (f : ℕ) → ((f % WINDOW ≡ 0) × (gap f ≡ 0)) ⊎ ((0 < f % WINDOW) × (gap f ≡ 1))
gap_says f =
    ⊎_elim
    (λ e. inl (e, cond-true (eqb (f % WINDOW) 0) 0 1 (eq-eqb (f % WINDOW) 0 e)))
    (λ n. inr (omega arith, cond-false (eqb (f % WINDOW) 0) 0 1 (ne_eqb (f % WINDOW) 0 n)))
    (cases_eq (f % WINDOW) 0)

pub gap_le : (f : ℕ) → (gap f ≤ 1) × (gap f ≤ f)
gap_le f =
    ⊎_elim
    (λ z. let e = z.1 in (omega arith, omega arith))
    (λ z. let e = z.1 in let l : 0 < f = omega (arith, z.0) in (omega arith, omega arith))
    (gap_says f)

-- the bytes before the write
head_from : (i from f : ℕ) (bs : List ℕ) → placed i f (take (from - f) bs) ≡ placed i (min f from) (take (from - f) bs)
head_from i from f bs =
    ⊎_elim
    (λ lt. ap (λ k. placed i k (take (from - f) bs)) (let d : f ≡ min f from = omega arith in d))
    (λ ge.
    ap (λ k. placed i f (take k bs)) (let d : from - f ≡ 0 = omega arith in d)
    ∙ ap (λ k. placed i (min f from) (take k bs)) (let d : 0 ≡ from - f = omega arith in d))
    (cases_lt f from)

pub front_joined : (i from low : ℕ) (mid after : List Run) → InOrder low (mid ++ after) → BeginBy i FILE_END mid → Reaches from mid → Rises (place i from) (pending_bytes after) → front (place i from) (pending_bytes mid ++ pending_bytes after) ≡ placed i (joined_from from mid) (head_of from mid)
front_joined i from low [] after o a h r = front_from (place i from) (pending_bytes after) r
front_joined i from low (x ∷ ms) after o a h r =
    ap (front (place i from)) (append_assoc (placed x.0.inode x.0.from x.1) (pending_bytes ms) (pending_bytes after))
    ∙ front_part (place i from) x.0.inode x.0.from from x.1 (pending_bytes ms ++ pending_bytes after) (let e = a.0 in omega arith) o.0.in_file (omega (arith, (gap_le from).0)) (rw (← pending_bytes-append ms after) (Rises-runs (end_place x) (ms ++ after) o.2))
    ∙ ap (λ k. placed k x.0.from (take (from - x.0.from) x.1)) a.0
    ∙ head_from i from x.0.from x.1

pub back_joined : (i to low : ℕ) (mid after : List Run) → InOrder low mid → BeginBy i to mid → Rises (place i to) (pending_bytes after) → back (place i to) (pending_bytes mid ++ pending_bytes after) ≡ placed i to (tail_of to mid) ++ pending_bytes after
back_joined i to low [] after o a r = back_from (place i to) (pending_bytes after) r
back_joined i to low (x ∷ []) after o a r =
    ap (λ (t : List PendingByte). back (place i to) (t ++ pending_bytes after)) (append-nil (placed x.0.inode x.0.from x.1))
    ∙ back_part (place i to) x.0.inode x.0.from to x.1 (pending_bytes after) (let e = a.0 in omega arith) a.1 r
    ∙ ap (λ k. placed k to (drop (to - x.0.from) x.1) ++ pending_bytes after) a.0
back_joined i to low (x ∷ y ∷ ms) after o a r =
    back_run (place i to) x (y ∷ ms) (pending_bytes after) (let e = a.2.0 in let f = a.2.1 in let g = o.2.1 in omega arith)
    ∙ back_joined i to (end_place x) (y ∷ ms) after o.2 a.2 r

-- the joined bytes are the head, the written bytes and the tail, each from its place on
pub length_head : (from : ℕ) (mid : List Run) → Reaches from mid → joined_from from mid + length (head_of from mid) ≡ from
length_head from [] h = omega arith
length_head from (x ∷ ms) h =
    ⊎_elim
    (λ lt. let e : length (take (from - x.0.from) x.1) ≡ from - x.0.from = length-take-le (from - x.0.from) x.1 (omega (arith, (gap_le from).0)) in omega arith)
    (λ ge. let e : length (take (from - x.0.from) x.1) ≡ 0 = ap (λ k. length (take k x.1)) (let d : from - x.0.from ≡ 0 = omega arith in d) in omega arith)
    (cases_lt x.0.from from)

pub placed_joined : (i from to : ℕ) (bs : List ℕ) (mid : List Run) → to ≡ from + length bs → Reaches from mid → placed i (joined_from from mid) (joined from bs mid) ≡ placed i (joined_from from mid) (head_of from mid) ++ (placed i from bs ++ placed i to (tail_of to mid))
placed_joined i from to bs mid e h =
    placed-append i (joined_from from mid) (head_of from mid) (bs ++ tail_of (from + length bs) mid)
    ∙ ap (λ k. placed i (joined_from from mid) (head_of from mid) ++ placed i k (bs ++ tail_of (from + length bs) mid)) (length_head from mid h)
    ∙ ap (λ (t : List PendingByte). placed i (joined_from from mid) (head_of from mid) ++ t) (placed-append i from bs (tail_of (from + length bs) mid))
    ∙ ap (λ k. placed i (joined_from from mid) (head_of from mid) ++ (placed i from bs ++ placed i k (tail_of k mid))) (sym e)

pub BeginBy-weaker : (i m n : ℕ) (mid : List Run) → m ≤ n → BeginBy i m mid → BeginBy i n mid
BeginBy-weaker i m n [] l a = tt
BeginBy-weaker i m n (x ∷ ms) l a = (a.0, omega arith, BeginBy-weaker i m n ms l a.2)

pub written_joined : (i from to low : ℕ) (bs : List ℕ) (before mid after : List Run) → to ≡ from + length bs → to ≤ FILE_END → InOrder low (before ++ (mid ++ after)) → EndBy (place i from) before → BeginBy i to mid → Reaches from mid → Rises (place i to) (pending_bytes after) → written i from bs (pending_bytes (before ++ (mid ++ after))) ≡ pending_bytes before ++ (placed i (joined_from from mid) (joined from bs mid) ++ pending_bytes after)
written_joined i from to low bs before mid after e l o b a h r =
    let rest = InOrder-right low before (mid ++ after) o in
    let first : (front (place i from) (pending_bytes (before ++ (mid ++ after))) ≡ pending_bytes before ++ placed i (joined_from from mid) (head_of from mid)) =
    ap (front (place i from)) (pending_bytes-append before (mid ++ after))
    ∙ front_runs (place i from) before (pending_bytes (mid ++ after)) b
    ∙ ap (λ (t : List PendingByte). pending_bytes before ++ front (place i from) t) (pending_bytes-append mid after)
    ∙ ap (λ (t : List PendingByte). pending_bytes before ++ t) (front_joined i from (end_after low before) mid after rest (BeginBy-weaker i to FILE_END mid l a) h (Rises-weaker (place i to) (place i from) (pending_bytes after) (omega arith) r)) in
    let last : (back (place i to) (pending_bytes (before ++ (mid ++ after))) ≡ placed i to (tail_of to mid) ++ pending_bytes after) =
    ap (back (place i to)) (pending_bytes-append before (mid ++ after))
    ∙ back_runs (place i to) before (pending_bytes (mid ++ after)) (EndBy-weaker (place i from) (place i to) before (omega arith) b)
    ∙ ap (back (place i to)) (pending_bytes-append mid after)
    ∙ back_joined i to (end_after low before) mid after (InOrder-left (end_after low before) mid after rest) a r in
    written_is i from to low bs (pending_bytes (before ++ (mid ++ after))) e l (Rises-runs low (before ++ (mid ++ after)) o)
    ∙ ap (λ (t : List PendingByte). t ++ (placed i from bs ++ back (place i to) (pending_bytes (before ++ (mid ++ after))))) first
    ∙ ap (λ (t : List PendingByte). (pending_bytes before ++ placed i (joined_from from mid) (head_of from mid)) ++ (placed i from bs ++ t)) last
    ∙ append_assoc (pending_bytes before) (placed i (joined_from from mid) (head_of from mid)) (placed i from bs ++ (placed i to (tail_of to mid) ++ pending_bytes after))
    ∙ ap (λ (t : List PendingByte). pending_bytes before ++ t)
    (ap (λ (t : List PendingByte). placed i (joined_from from mid) (head_of from mid) ++ t) (sym (append_assoc (placed i from bs) (placed i to (tail_of to mid)) (pending_bytes after)))
    ∙ sym (append_assoc (placed i (joined_from from mid) (head_of from mid)) (placed i from bs ++ placed i to (tail_of to mid)) (pending_bytes after))
    ∙ ap (λ (t : List PendingByte). t ++ pending_bytes after) (sym (placed_joined i from to bs mid e h)))

-- the runs in place of those that a write overlaps or touches stay in order with the others
joined_low : (i from low : ℕ) (mid : List Run) → InOrder low mid → BeginBy i FILE_END mid → low ≤ place i from - gap from → low ≤ place i (joined_from from mid) - gap (joined_from from mid)
joined_low i from low [] o a l = l
joined_low i from low (x ∷ ms) o a l =
    let g = gap_le x.0.from in let e = a.0 in
    ⊎_elim
    (λ lt. subst (λ k. low ≤ place i k - gap k) (let d : x.0.from ≡ min x.0.from from = omega arith in d) (let f = o.1 in omega arith))
    (λ ge. subst (λ k. low ≤ place i k - gap k) (let d : from ≡ min x.0.from from = omega arith in d) l)
    (cases_lt x.0.from from)

pub tail_order : (i to low : ℕ) (mid after : List Run) → BeginBy i to mid → InOrder (end_after low mid) after → InOrder (place i to) after → InOrder (place i (to + length (tail_of to mid))) after
tail_order i to low [] after a o p = InOrder-weaker (place i to) (place i (to + 0)) after (omega arith) p
tail_order i to low (x ∷ []) after a o p =
    let n : length (drop (to - x.0.from) x.1) ≡ length x.1 - (to - x.0.from) = length-drop (to - x.0.from) x.1 in
    let e = a.0 in let f = a.1 in
    ⊎_elim
    (λ lt. InOrder-weaker (end_place x) (place i (to + length (drop (to - x.0.from) x.1))) after (omega arith) o)
    (λ ge. InOrder-weaker (place i to) (place i (to + length (drop (to - x.0.from) x.1))) after (omega arith) p)
    (cases_lt to (end_of_run x))
tail_order i to low (x ∷ y ∷ ms) after a o p = tail_order i to (end_place x) (y ∷ ms) after a.2 o p

pub length_joined : (from to : ℕ) (bs : List ℕ) (mid : List Run) → to ≡ from + length bs → Reaches from mid → joined_from from mid + length (joined from bs mid) ≡ to + length (tail_of to mid)
length_joined from to bs mid e h =
    let n : length (joined from bs mid) ≡ length (head_of from mid) + (length bs + length (tail_of (from + length bs) mid)) =
    length-append (head_of from mid) (bs ++ tail_of (from + length bs) mid) ∙ ap (λ k. length (head_of from mid) + k) (length-append bs (tail_of (from + length bs) mid)) in
    let t : length (tail_of (from + length bs) mid) ≡ length (tail_of to mid) = ap (λ k. length (tail_of k mid)) (sym e) in
    omega (arith, length_head from mid h)

pub order_joined : (i from to low : ℕ) (bs : List ℕ) (before mid after fresh : List Run) → to ≡ from + length bs → to ≤ FILE_END → InOrder low (before ++ (mid ++ after)) → low ≤ place i from - gap from → EndBy (place i from - gap from) before → BeginBy i to mid → Reaches from mid → InOrder (place i to) after → IsCut i (joined_from from mid) (joined from bs mid) fresh → InOrder low (before ++ (fresh ++ after))
order_joined i from to low bs before mid after fresh e l o m b a h p cut =
    let rest = InOrder-right low before (mid ++ after) o in
    let below : end_after low before ≤ place i (joined_from from mid) - gap (joined_from from mid) =
    joined_low i from (end_after low before) mid (InOrder-left (end_after low before) mid after rest) (BeginBy-weaker i to FILE_END mid l a) (end_after_by low (place i from - gap from) before m b) in
    let last : end_after (end_after low before) fresh ≤ place i (to + length (tail_of to mid)) =
    let c = cut.ends in let n = length_joined from to bs mid e h in
    let q : place i (joined_from from mid + length (joined from bs mid)) ≡ place i (to + length (tail_of to mid)) = ap (place i) n in
    omega (arith, end_after_mono (end_after low before) (place i (joined_from from mid)) fresh (omega arith)) in
    InOrder-append low before (fresh ++ after) (InOrder-left low before (mid ++ after) o)
    (InOrder-append (end_after low before) fresh after
    (InOrder-weaker (place i (joined_from from mid) - gap (joined_from from mid)) (end_after low before) fresh below cut.order)
    (InOrder-weaker (place i (to + length (tail_of to mid))) (end_after (end_after low before) fresh) after last
    (tail_order i to (end_after low before) mid after a (InOrder-right (end_after low before) mid after rest) p)))

-- what lies after the touched runs begins late enough
pub order_after : (i to low : ℕ) (after : List Run) → InOrder low after → to ≤ FILE_END → Rise (place i (to + gap to)) after → InOrder (place i to) after
order_after i to low [] o l r = tt
order_after i to low (y ∷ ys) o l r =
    let g = gap_le to in
    let late = r.1 in
    let file = r.0 in
    let starts : place i to + gap y.0.from ≤ start_place y =
    ⊎_elim
    (λ z. let e = z.1 in omega arith)
    (λ z. let e = z.1 in let p = z.0 in
    ⊎_elim
    (λ same. ⊎_elim
    (λ in_file. let q : gap to ≡ gap y.0.from = ap gap (let d : to ≡ y.0.from = omega arith in d) in omega arith)
    (λ past. let d : y.0.from ≡ 0 = omega arith in absurd (omega arith))
    (cases_lt to FILE_END))
    (λ n. omega arith)
    (cases_eq (place i to) (start_place y)))
    (gap_says y.0.from) in
    (o.0, starts, o.2)
