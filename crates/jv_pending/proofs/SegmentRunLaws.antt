-- Segments of pending bytes against runs, and what is left when bytes go.
use Rattle.std.proofs.Common.{◌≡◌, ℕ, ◌+◌, ◌%◌, ◌<◌, ◌≤◌, Bool, true, false, not, cond, eqb, List, [], ◌∷◌, ◌++◌, length, map, filter, Some, None, refl, sym, ap, subst, ◌∙◌, ⊎_elim, arith}
use Rattle.std.proofs.lemmas.Bool.{cases_eq, cond-true, cond-false, eq-eqb, ne_eqb, and_from}
use Rattle.std.proofs.lemmas.Bool.Decides.{nat_tests}
use Rattle.std.proofs.lemmas.Option.{none-some, same_Some}
use Rattle.std.proofs.lemmas.List.{append-nil, length-append}
use Rattle.std.proofs.lemmas.List.Elements.{filter-append}
use Rattle.jv_model.specs.declared.limits.TheConstants.{FILE_END, WINDOW}
use Rattle.jv_model.specs.promise.client.Pending.{PendingByte, Segment, stands_at, comes_before, is_in_range, without_range, pending_of, run_length, first_segment, bytes_in_range}
use Rattle.jv_model.specs.client.Pending.{all_after, is_rising, pending_end}
use Rattle.jv_model.specs.Lists.{first_item}
use Rattle.jv_model.specs.promise.Lists.{last_item}
use Rattle.jv_pending.specs.declared.run.RunStart.{RunStart}
use Rattle.jv_pending.specs.Runs.{Run, place, place_of, placed, pending_bytes, bytes_at, end_of_run, start_place, end_place, segment_of_run, IsRun, InOrder, Rise, Before, runs_before, runs_from, without_run}
use Rattle.jv_pending.proofs.PlaceLaws.{byte_place, stands_here, stands_apart, after_true}
use Rattle.jv_pending.proofs.ByteLaws.{Rises, Rises-weaker, Rises-placed}
use Rattle.jv_pending.proofs.OrderLaws.{Rises-runs, InOrder-weaker, pending_bytes-append, length-placed}
use Rattle.jv_pending.proofs.JoinLaws.{gap_says}
use Rattle.jv_pending.proofs.PartLaws.{Rise-order, Rise-before, Rise-from, Before-before, Before-weaker, Before-last, Before-end, from_all, whole, first_split, first_nothing, first_at}
use Rattle.jv_pending.proofs.EntryLaws.{there, present}
use Rattle.jv_pending.proofs.TouchedLaws.{InOrder-from, last_split, last_nothing, last_file, last_is_run}

-- bytes that rise are rising
after_all : (b : PendingByte) (low : ℕ) (bs : List PendingByte) → byte_place b < low → Rises low bs → all_after b.inode b.position bs ≡ true
after_all b low [] l r = refl
after_all b low (x ∷ bs) l r =
    let k = r.1 in
    and_from (comes_before b.inode b.position x) (all_after b.inode b.position bs) (after_true b.inode b.position x r.0 (omega arith)) (after_all b (byte_place x + 1) bs (omega arith) r.2)

pub rising : (low : ℕ) (bs : List PendingByte) → Rises low bs → is_rising bs ≡ true
rising low [] r = refl
rising low (b ∷ bs) r = and_from (all_after b.inode b.position bs) (is_rising bs) (after_all b (byte_place b + 1) bs (omega arith) r.2) (rising (byte_place b + 1) bs r.2)

-- tests that no byte of a list passes, or that all pass
pub filter_none : (q : PendingByte → Bool) (low : ℕ) (bs : List PendingByte) → Rises low bs → ((b : PendingByte) → low ≤ byte_place b → b.position < FILE_END → q b ≡ false) → filter q bs ≡ []
filter_none q low [] r f = refl
filter_none q low (b ∷ bs) r f =
    cond-false (q b) (b ∷ filter q bs) (filter q bs) (f b r.1 r.0)
    ∙ filter_none q (byte_place b + 1) bs r.2 (λ x l p. f x (let k = r.1 in omega arith) p)

pub filter_all : (q : PendingByte → Bool) (low : ℕ) (bs : List PendingByte) → Rises low bs → ((b : PendingByte) → low ≤ byte_place b → b.position < FILE_END → q b ≡ true) → filter q bs ≡ bs
filter_all q low [] r f = refl
filter_all q low (b ∷ bs) r f =
    cond-true (q b) (b ∷ filter q bs) (filter q bs) (f b r.1 r.0)
    ∙ ap (λ (t : List PendingByte). b ∷ t) (filter_all q (byte_place b + 1) bs r.2 (λ x l p. f x (let k = r.1 in omega arith) p))

pub Rises-filter : (q : PendingByte → Bool) (low : ℕ) (bs : List PendingByte) → Rises low bs → Rises low (filter q bs)
Rises-filter q low [] r = tt
Rises-filter q low (b ∷ bs) r =
    elim (q b) as (λ t. Rises low (cond t (b ∷ filter q bs) (filter q bs))) [
      | true ↦ (r.0, r.1, Rises-filter q (byte_place b + 1) bs r.2)
      | false ↦ let k = r.1 in Rises-weaker (byte_place b + 1) low (filter q bs) (omega arith) (Rises-filter q (byte_place b + 1) bs r.2)
    ]

pub none_placed : (q : PendingByte → Bool) (i f to : ℕ) (bs : List ℕ) → to ≡ f + length bs → ((p b : ℕ) → f ≤ p → p < to → q (record { inode = i; position = p; byte = b }) ≡ false) → filter q (placed i f bs) ≡ []
none_placed q i f to [] e h = refl
none_placed q i f to (b ∷ bs) e h =
    cond-false (q (record { inode = i; position = f; byte = b })) _ (filter q (placed i (f + 1) bs)) (h f b (omega arith) (omega arith))
    ∙ none_placed q i (f + 1) to bs (omega arith) (λ p x l m. h p x (omega arith) m)

pub all_placed : (q : PendingByte → Bool) (i f to : ℕ) (bs : List ℕ) → to ≡ f + length bs → ((p b : ℕ) → f ≤ p → p < to → q (record { inode = i; position = p; byte = b }) ≡ true) → filter q (placed i f bs) ≡ placed i f bs
all_placed q i f to [] e h = refl
all_placed q i f to (b ∷ bs) e h =
    cond-true (q (record { inode = i; position = f; byte = b })) (record { inode = i; position = f; byte = b } ∷ filter q (placed i (f + 1) bs)) (filter q (placed i (f + 1) bs)) (h f b (omega arith) (omega arith))
    ∙ ap (λ (t : List PendingByte). record { inode = i; position = f; byte = b } ∷ t) (all_placed q i (f + 1) to bs (omega arith) (λ p x l m. h p x (omega arith) m))

bytes_placed : (i f : ℕ) (bs : List ℕ) → map (λ (b : PendingByte). b.byte) (placed i f bs) ≡ bs
bytes_placed i f [] = refl
bytes_placed i f (b ∷ bs) = ap (λ (t : List ℕ). b ∷ t) (bytes_placed i (f + 1) bs)

in_range_inside : (i f len p b : ℕ) → f ≤ p → p < f + len → is_in_range i f len (record { inode = i; position = p; byte = b }) ≡ true
in_range_inside i f len p b l m = grind (arith, nat_tests)

in_range_after : (i f len : ℕ) (b : PendingByte) → place i (f + len) ≤ byte_place b → is_in_range i f len b ≡ false
in_range_after i f len b h = let n : b.inode ≡ i → f + len ≤ b.position = λ e. omega arith in grind (arith, nat_tests)

in_range_before : (i f len : ℕ) (b : PendingByte) → byte_place b < place i f → is_in_range i f len b ≡ false
in_range_before i f len b h = let n : b.inode ≡ i → b.position < f = λ e. omega arith in grind (arith, nat_tests)

run_after : (low : ℕ) (xs : List Run) (r : Run) (ys : List Run) → InOrder low (xs ++ r ∷ ys) → low ≤ start_place r
run_after low [] r ys o = let k = o.1 in omega arith
run_after low (x ∷ xs) r ys o = let k = o.1 in omega (arith, run_after (end_place x) xs r ys o.2)

-- what stands in a run's range, and what is left without it
pub run_range : (low : ℕ) (xs : List Run) (r : Run) (ys : List Run) → InOrder low (xs ++ r ∷ ys) → filter (is_in_range r.0.inode r.0.from (length r.1)) (pending_bytes (xs ++ r ∷ ys)) ≡ placed r.0.inode r.0.from r.1
run_range low [] r ys o =
    filter-append (is_in_range r.0.inode r.0.from (length r.1)) (placed r.0.inode r.0.from r.1) (pending_bytes ys)
    ∙ ap (λ (t : List PendingByte). t ++ filter (is_in_range r.0.inode r.0.from (length r.1)) (pending_bytes ys)) (all_placed (is_in_range r.0.inode r.0.from (length r.1)) r.0.inode r.0.from (end_of_run r) r.1 refl (λ p b l m. in_range_inside r.0.inode r.0.from (length r.1) p b l m))
    ∙ ap (λ (t : List PendingByte). placed r.0.inode r.0.from r.1 ++ t) (filter_none (is_in_range r.0.inode r.0.from (length r.1)) (end_place r) (pending_bytes ys) (Rises-runs (end_place r) ys o.2) (λ b l p. in_range_after r.0.inode r.0.from (length r.1) b l))
    ∙ append-nil (placed r.0.inode r.0.from r.1)
run_range low (x ∷ xs) r ys o =
    let after : end_place x ≤ start_place r = run_after (end_place x) xs r ys o.2 in
    filter-append (is_in_range r.0.inode r.0.from (length r.1)) (placed x.0.inode x.0.from x.1) (pending_bytes (xs ++ r ∷ ys))
    ∙ ap (λ (t : List PendingByte). t ++ filter (is_in_range r.0.inode r.0.from (length r.1)) (pending_bytes (xs ++ r ∷ ys))) (none_placed (is_in_range r.0.inode r.0.from (length r.1)) x.0.inode x.0.from (end_of_run x) x.1 refl (λ p b l m. in_range_before r.0.inode r.0.from (length r.1) (record { inode = x.0.inode; position = p; byte = b }) (omega arith)))
    ∙ run_range (end_place x) xs r ys o.2

pub run_bytes : (low : ℕ) (xs : List Run) (r : Run) (ys : List Run) → InOrder low (xs ++ r ∷ ys) → bytes_in_range r.0.inode r.0.from (length r.1) (pending_bytes (xs ++ r ∷ ys)) ≡ r.1
run_bytes low xs r ys o = ap (map (λ (b : PendingByte). b.byte)) (run_range low xs r ys o) ∙ bytes_placed r.0.inode r.0.from r.1

pub run_without : (low : ℕ) (xs : List Run) (r : Run) (ys : List Run) → InOrder low (xs ++ r ∷ ys) → without_range r.0.inode r.0.from (length r.1) (pending_bytes (xs ++ r ∷ ys)) ≡ pending_bytes (xs ++ ys)
run_without low [] r ys o =
    filter-append (λ b. not (is_in_range r.0.inode r.0.from (length r.1) b)) (placed r.0.inode r.0.from r.1) (pending_bytes ys)
    ∙ ap (λ (t : List PendingByte). t ++ filter (λ b. not (is_in_range r.0.inode r.0.from (length r.1) b)) (pending_bytes ys)) (none_placed (λ b. not (is_in_range r.0.inode r.0.from (length r.1) b)) r.0.inode r.0.from (end_of_run r) r.1 refl (λ p b l m. ap not (in_range_inside r.0.inode r.0.from (length r.1) p b l m)))
    ∙ filter_all (λ b. not (is_in_range r.0.inode r.0.from (length r.1) b)) (end_place r) (pending_bytes ys) (Rises-runs (end_place r) ys o.2) (λ b l p. ap not (in_range_after r.0.inode r.0.from (length r.1) b l))
run_without low (x ∷ xs) r ys o =
    let after : end_place x ≤ start_place r = run_after (end_place x) xs r ys o.2 in
    filter-append (λ b. not (is_in_range r.0.inode r.0.from (length r.1) b)) (placed x.0.inode x.0.from x.1) (pending_bytes (xs ++ r ∷ ys))
    ∙ ap (λ (t : List PendingByte). t ++ filter (λ b. not (is_in_range r.0.inode r.0.from (length r.1) b)) (pending_bytes (xs ++ r ∷ ys))) (all_placed (λ b. not (is_in_range r.0.inode r.0.from (length r.1) b)) x.0.inode x.0.from (end_of_run x) x.1 refl (λ p b l m. ap not (in_range_before r.0.inode r.0.from (length r.1) (record { inode = x.0.inode; position = p; byte = b }) (omega arith))))
    ∙ ap (λ (t : List PendingByte). placed x.0.inode x.0.from x.1 ++ t) (run_without (end_place x) xs r ys o.2)

pub order_without : (low : ℕ) (xs : List Run) (r : Run) (ys : List Run) → InOrder low (xs ++ r ∷ ys) → InOrder low (xs ++ ys)
order_without low [] r ys o = let k = o.1 in InOrder-weaker (end_place r) low ys (omega arith) o.2
order_without low (x ∷ xs) r ys o = (o.0, o.1, order_without (end_place x) xs r ys o.2)

pub count_without : (xs : List Run) (r : Run) (ys : List Run) → length (pending_bytes (xs ++ ys)) + length r.1 ≡ length (pending_bytes (xs ++ r ∷ ys))
count_without [] r ys = omega (arith, length-append (placed r.0.inode r.0.from r.1) (pending_bytes ys), length-placed r.0.inode r.0.from r.1)
count_without (x ∷ xs) r ys =
    omega (arith, count_without xs r ys, length-append (placed x.0.inode x.0.from x.1) (pending_bytes (xs ++ ys)), length-append (placed x.0.inode x.0.from x.1) (pending_bytes (xs ++ r ∷ ys)))

-- a run is a maximal run of positions
run_length_none : (i f : ℕ) (t : List PendingByte) → Rises (place i f + 1) t → run_length i f t ≡ 0
run_length_none i f [] r = refl
run_length_none i f (x ∷ t) r = cond-false (stands_at i f x) _ 0 (stands_apart i f x (λ e. let k = r.1 in omega arith))

pub run_length_placed : (i f : ℕ) (bs : List ℕ) (t : List PendingByte) → 0 < length bs → f % WINDOW + length bs ≤ WINDOW → f + length bs ≤ FILE_END → (0 < (f + length bs) % WINDOW → Rises (place i (f + length bs) + 1) t) → run_length i f (placed i f bs ++ t) ≡ length bs
run_length_placed i f [] t s w l r = absurd (omega arith)
run_length_placed i f (b ∷ []) t s w l r =
    cond-true (stands_at i f (record { inode = i; position = f; byte = b })) _ 0 (stands_here i f (record { inode = i; position = f; byte = b }) (omega arith) (omega arith) refl)
    ∙ ⊎_elim
    (λ z. cond-true (eqb ((f + 1) % WINDOW) 0) 1 (1 + run_length i (f + 1) t) (eq-eqb ((f + 1) % WINDOW) 0 z))
    (λ n. cond-false (eqb ((f + 1) % WINDOW) 0) 1 (1 + run_length i (f + 1) t) (ne_eqb ((f + 1) % WINDOW) 0 n) ∙ ap (λ k. 1 + k) (run_length_none i (f + 1) t (r (omega arith))))
    (cases_eq ((f + 1) % WINDOW) 0)
run_length_placed i f (b ∷ c ∷ bs) t s w l r =
    let n : (f + 1) % WINDOW ≡ f % WINDOW + 1 = omega arith in
    cond-true (stands_at i f (record { inode = i; position = f; byte = b })) _ 0 (stands_here i f (record { inode = i; position = f; byte = b }) (omega arith) (omega arith) refl)
    ∙ cond-false (eqb ((f + 1) % WINDOW) 0) 1 (1 + run_length i (f + 1) (placed i (f + 1) (c ∷ bs) ++ t)) (ne_eqb ((f + 1) % WINDOW) 0 (λ e. omega arith))
    ∙ ap (λ k. 1 + k) (run_length_placed i (f + 1) (c ∷ bs) t (omega arith) (omega arith) (omega arith) (λ m. Rises-weaker (place i (f + length (b ∷ c ∷ bs)) + 1) (place i (f + 1 + length (c ∷ bs)) + 1) t (omega arith) (r (subst (λ k. 0 < k % WINDOW) (let d : f + 1 + length (c ∷ bs) ≡ f + length (b ∷ c ∷ bs) = omega arith in d) m))))
    ∙ omega arith

first_run : (i f : ℕ) (bs : List ℕ) (t : List PendingByte) → 0 < length bs → f % WINDOW + length bs ≤ WINDOW → f + length bs ≤ FILE_END → (0 < (f + length bs) % WINDOW → Rises (place i (f + length bs) + 1) t) → first_segment (placed i f bs ++ t) ≡ Some (record { inode = i; from = f; len = length bs })
first_run i f [] t s w l n = absurd (omega arith)
first_run i f (b ∷ bs) t s w l n = ap (λ k. Some (record { inode = i; from = f; len = k })) (run_length_placed i f (b ∷ bs) t s w l n)

pub first_placed : (r : Run) (t : List PendingByte) → IsRun r → (0 < end_of_run r % WINDOW → Rises (end_place r + 1) t) → first_segment (placed r.0.inode r.0.from r.1 ++ t) ≡ Some (segment_of_run r)
first_placed r t h n = first_run r.0.inode r.0.from r.1 t h.some h.in_window h.in_file n

-- the bytes after a run lie apart from it, but where its window ends
pub apart : (r : Run) (rs : List Run) → InOrder (end_place r) rs → 0 < end_of_run r % WINDOW → Rises (end_place r + 1) (pending_bytes rs)
apart r [] o h = tt
apart r (x ∷ rs) o h =
    let starts : end_place r + 1 ≤ start_place x =
    let g = o.1 in
    ⊎_elim
    (λ z. let e = z.0 in let c = z.1 in omega arith)
    (λ z. let c = z.1 in omega arith)
    (gap_says x.0.from) in
    Rises-placed x.0.inode x.0.from (end_place r + 1) (end_of_run x) x.1 (pending_bytes rs) refl o.0.in_file starts (Rises-runs (end_place x) rs o.2)

-- the runs are of other inodes
abbrev pub NoneOf : ℕ → List Run → Type 0
NoneOf i [] = Unit {0}
NoneOf i (r ∷ rs) = (r.0.inode ≡ i → ⊥) × NoneOf i rs

none_before : (i : ℕ) (rs : List Run) → Before (place i 0) rs → NoneOf i rs
none_before i [] b = tt
none_before i (r ∷ rs) b = (λ e. let l = b.0 in omega arith, none_before i rs b.1)

none_from : (i low : ℕ) (rs : List Run) → place (i + 1) 0 ≤ low → Rise low rs → NoneOf i rs
none_from i low [] h r = tt
none_from i low (x ∷ rs) h r = let k = r.1 in let f = r.0 in ((λ e. omega arith), none_from i (start_place x + 1) rs (omega arith) r.2)

of_placed : (i j f : ℕ) (bs : List ℕ) → j ≡ i → pending_of i (placed j f bs) ≡ placed j f bs
of_placed i j f bs e = all_placed (λ b. eqb b.inode i) j f (f + length bs) bs refl (λ p b l m. eq-eqb j i e)

others_placed : (i j f : ℕ) (bs : List ℕ) → (j ≡ i → ⊥) → pending_of i (placed j f bs) ≡ []
others_placed i j f bs n = none_placed (λ b. eqb b.inode i) j f (f + length bs) bs refl (λ p b l m. ne_eqb j i n)

of_none : (i : ℕ) (rs : List Run) → NoneOf i rs → pending_of i (pending_bytes rs) ≡ []
of_none i [] n = refl
of_none i (r ∷ rs) n =
    filter-append (λ b. eqb b.inode i) (placed r.0.inode r.0.from r.1) (pending_bytes rs)
    ∙ ap (λ (t : List PendingByte). t ++ pending_of i (pending_bytes rs)) (others_placed i r.0.inode r.0.from r.1 n.0)
    ∙ of_none i rs n.1

of_append : (i : ℕ) (xs ys : List Run) → pending_of i (pending_bytes (xs ++ ys)) ≡ pending_of i (pending_bytes xs) ++ pending_of i (pending_bytes ys)
of_append i xs ys = ap (pending_of i) (pending_bytes-append xs ys) ∙ filter-append (λ b. eqb b.inode i) (pending_bytes xs) (pending_bytes ys)

-- an inode's bytes are those of the runs from its first place on
of_from : (i : ℕ) (rs : List Run) → InOrder 0 rs → pending_of i (pending_bytes rs) ≡ pending_of i (pending_bytes (runs_from (place i 0) rs))
of_from i rs o =
    ap (λ (t : List Run). pending_of i (pending_bytes t)) (sym (whole (place i 0) 0 rs (Rise-order 0 rs o)))
    ∙ of_append i (runs_before (place i 0) rs) (runs_from (place i 0) rs)
    ∙ ap (λ (t : List PendingByte). t ++ pending_of i (pending_bytes (runs_from (place i 0) rs))) (of_none i (runs_before (place i 0) rs) (none_before i (runs_before (place i 0) rs) (Before-before (place i 0) rs)))

first_here : (i low : ℕ) (r : Run) (rs : List Run) → InOrder low (r ∷ rs) → r.0.inode ≡ i → first_segment (pending_of i (pending_bytes (r ∷ rs))) ≡ Some (segment_of_run r)
first_here i low r rs o e =
    ap first_segment (filter-append (λ b. eqb b.inode i) (placed r.0.inode r.0.from r.1) (pending_bytes rs))
    ∙ ap (λ (t : List PendingByte). first_segment (t ++ pending_of i (pending_bytes rs))) (of_placed i r.0.inode r.0.from r.1 e)
    ∙ first_placed r (pending_of i (pending_bytes rs)) o.0 (λ m. Rises-filter (λ b. eqb b.inode i) (end_place r + 1) (pending_bytes rs) (apart r rs o.2 m))

-- the first segment of an inode, by the first run from its first place on
pub own_first : (i : ℕ) (rs : List Run) (r : Run) → InOrder 0 rs → Some r ≡ first_item (runs_from (place i 0) rs) → r.0.inode ≡ i → first_segment (pending_of i (pending_bytes rs)) ≡ Some (segment_of_run r)
own_first i rs r o h e =
    let s = first_split (runs_from (place i 0) rs) r h in
    let q = InOrder-from (place i 0) 0 rs o in
    ap first_segment (of_from i rs o) ∙ ap (λ (t : List Run). first_segment (pending_of i (pending_bytes t))) s.1 ∙ first_here i q.0 r s.0 (subst (InOrder q.0) s.1 q.1) e

pub own_none : (i : ℕ) (rs : List Run) → InOrder 0 rs → None ≡ first_item (runs_from (place i 0) rs) → pending_of i (pending_bytes rs) ≡ []
own_none i rs o h = of_from i rs o ∙ ap (λ (t : List Run). pending_of i (pending_bytes t)) (first_nothing (runs_from (place i 0) rs) h)

pub own_other : (i : ℕ) (rs : List Run) (r : Run) → InOrder 0 rs → Some r ≡ first_item (runs_from (place i 0) rs) → (r.0.inode ≡ i → ⊥) → pending_of i (pending_bytes rs) ≡ []
own_other i rs r o h n =
    let low = Rise-order 0 rs o in
    let s = first_split (runs_from (place i 0) rs) r h in
    let at = first_at (place i 0) 0 rs r s.0 low s.1 in
    let rise : Rise (start_place r) (r ∷ s.0) = subst (Rise (start_place r)) at.2 (Rise-from (start_place r) 0 rs low) in
    let k = at.1 in
    let f = at.0 in
    of_from i rs o ∙ of_none i (runs_from (place i 0) rs) (subst (NoneOf i) (sym s.1) (none_from i (start_place r) (r ∷ s.0) (omega arith) rise))

-- the first run of all is the first segment
pub first_of_all : (rs : List Run) (r : Run) → InOrder 0 rs → Some r ≡ first_item (runs_from 0 rs) → first_segment (pending_bytes rs) ≡ Some (segment_of_run r)
first_of_all rs r o h =
    let s = first_split rs r (h ∙ ap first_item (from_all 0 0 rs (omega arith) (Rise-order 0 rs o))) in
    let q = subst (InOrder 0) s.1 o in
    ap (λ (t : List Run). first_segment (pending_bytes t)) s.1 ∙ first_placed r (pending_bytes s.0) q.0 (apart r s.0 q.2)

pub first_is_own : (rs : List Run) (r : Run) → InOrder 0 rs → Some r ≡ first_item (runs_from 0 rs) → first_segment (pending_of r.0.inode (pending_bytes rs)) ≡ Some (segment_of_run r)
first_is_own rs r o h =
    let s = first_split rs r (h ∙ ap first_item (from_all 0 0 rs (omega arith) (Rise-order 0 rs o))) in
    ap (λ (t : List Run). first_segment (pending_of r.0.inode (pending_bytes t))) s.1 ∙ first_here r.0.inode 0 r s.0 (subst (InOrder 0) s.1 o) refl

pub none_of_all : (rs : List Run) → InOrder 0 rs → None ≡ first_item (runs_from 0 rs) → pending_bytes rs ≡ []
none_of_all rs o h = ap pending_bytes (first_nothing rs (h ∙ ap first_item (from_all 0 0 rs (omega arith) (Rise-order 0 rs o))))

pub first_is_run : (n : ℕ) (rs : List Run) (r : Run) → InOrder 0 rs → Some r ≡ first_item (runs_from n rs) → IsRun r
first_is_run n rs r o h = let s = first_split (runs_from n rs) r h in let q = InOrder-from n 0 rs o in (subst (InOrder q.0) s.1 q.1).0

-- an inode's last pending position
end_append : (xs ys : List PendingByte) → 0 < pending_end ys → pending_end (xs ++ ys) ≡ pending_end ys
end_append [] ys h = refl
end_append (x ∷ []) [] h = absurd (omega arith)
end_append (x ∷ []) (y ∷ ys) h = refl
end_append (x ∷ z ∷ xs) ys h = end_append (z ∷ xs) ys h

end_placed : (i f : ℕ) (bs : List ℕ) → 0 < length bs → pending_end (placed i f bs) ≡ f + length bs
end_placed i f [] h = absurd (omega arith)
end_placed i f (b ∷ []) h = refl
end_placed i f (b ∷ c ∷ bs) h = end_placed i (f + 1) (c ∷ bs) (omega arith) ∙ omega arith

pub end_is : (i : ℕ) (rs : List Run) (r : Run) → InOrder 0 rs → Some r ≡ last_item (runs_before (place i FILE_END) rs) → r.0.inode ≡ i → pending_end (pending_of i (pending_bytes rs)) ≡ end_of_run r
end_is i rs r o h e =
    let low = Rise-order 0 rs o in
    let n : ℕ = place i FILE_END in
    let s = last_split (runs_before n rs) r h in
    let some = (last_is_run n rs r o h).some in
    let last = end_placed r.0.inode r.0.from r.1 some in
    ap (λ (t : List Run). pending_end (pending_of i (pending_bytes t))) (sym (whole n 0 rs low))
    ∙ ap pending_end (of_append i (runs_before n rs) (runs_from n rs)
    ∙ ap (λ (t : List PendingByte). pending_of i (pending_bytes (runs_before n rs)) ++ t) (of_none i (runs_from n rs) (none_from i n (runs_from n rs) (omega arith) (Rise-from n 0 rs low)))
    ∙ append-nil (pending_of i (pending_bytes (runs_before n rs)))
    ∙ ap (λ (t : List Run). pending_of i (pending_bytes t)) s.1
    ∙ of_append i s.0 (r ∷ [])
    ∙ ap (λ (t : List PendingByte). pending_of i (pending_bytes s.0) ++ pending_of i t) (append-nil (placed r.0.inode r.0.from r.1))
    ∙ ap (λ (t : List PendingByte). pending_of i (pending_bytes s.0) ++ t) (of_placed i r.0.inode r.0.from r.1 e))
    ∙ end_append (pending_of i (pending_bytes s.0)) (placed r.0.inode r.0.from r.1) (omega arith)
    ∙ last

no_end : (i : ℕ) (rs : List Run) → InOrder 0 rs → NoneOf i (runs_before (place i FILE_END) rs) → pending_end (pending_of i (pending_bytes rs)) ≡ 0
no_end i rs o h =
    let low = Rise-order 0 rs o in
    let n : ℕ = place i FILE_END in
    ap (λ (t : List Run). pending_end (pending_of i (pending_bytes t))) (sym (whole n 0 rs low))
    ∙ ap pending_end (of_append i (runs_before n rs) (runs_from n rs)
    ∙ ap (λ (t : List PendingByte). t ++ pending_of i (pending_bytes (runs_from n rs))) (of_none i (runs_before n rs) h)
    ∙ of_none i (runs_from n rs) (none_from i n (runs_from n rs) (omega arith) (Rise-from n 0 rs low)))

pub end_none : (i : ℕ) (rs : List Run) → InOrder 0 rs → None ≡ last_item (runs_before (place i FILE_END) rs) → pending_end (pending_of i (pending_bytes rs)) ≡ 0
end_none i rs o h = no_end i rs o (subst (NoneOf i) (sym (last_nothing (runs_before (place i FILE_END) rs) h)) tt)

pub end_other : (i : ℕ) (rs : List Run) (r : Run) → InOrder 0 rs → Some r ≡ last_item (runs_before (place i FILE_END) rs) → (r.0.inode ≡ i → ⊥) → pending_end (pending_of i (pending_bytes rs)) ≡ 0
end_other i rs r o h n =
    let low = Rise-order 0 rs o in
    let s = last_split (runs_before (place i FILE_END) rs) r h in
    let f = last_file (place i FILE_END) rs r low h in
    let k = f.1 in
    let front = Before-last 0 s.0 r (subst (Rise 0) s.1 (Rise-before (place i FILE_END) 0 rs low)) in
    no_end i rs o (subst (NoneOf i) (sym s.1) (none_before i (s.0 ++ r ∷ []) (Before-end (place i 0) s.0 r (Before-weaker (start_place r) (place i 0) s.0 (omega arith) front.0) (omega arith))))

-- the run that an inode's first segment names
pub record Named (start : RunStart) (len : ℕ) (rs : List Run) : Type 0 where
  pub bytes : List ℕ
  pub file : start.from < FILE_END
  pub len_is : length bytes ≡ len
  pub found : bytes_at start rs ≡ Some bytes
  pub all : rs ≡ runs_before (place_of start) rs ++ (start, bytes) ∷ runs_from (place_of start + 1) rs

named_run : (rs : List Run) (r : Run) (n : ℕ) → InOrder 0 rs → Some r ≡ first_item (runs_from n rs) → Named r.0 (length r.1) rs
named_run rs r n o h =
    let low = Rise-order 0 rs o in
    let t = first_split (runs_from n rs) r h in
    let at = first_at n 0 rs r t.0 low t.1 in
    let found : bytes_at r.0 rs ≡ Some r.1 = there r.0 at.0 0 rs t.0 r.1 low at.2 in
    record {
      bytes = r.1;
      file = at.0;
      len_is = refl;
      found = found;
      all = sym (ap (λ (x : List Run). runs_before (place_of r.0) rs ++ x) (sym (present r.0 at.0 0 rs r.1 low found)) ∙ whole (place_of r.0) 0 rs low);
    }

pub named : (start : RunStart) (s : Segment) (rs : List Run) → InOrder 0 rs → start.inode ≡ s.inode → start.from ≡ s.from → first_segment (pending_of s.inode (pending_bytes rs)) ≡ Some s → Named start s.len rs
named start s rs o ei ef h =
    elim (first_item (runs_from (place s.inode 0) rs)) as (λ x. first_item (runs_from (place s.inode 0) rs) ≡ x → Named start s.len rs) [
      | None ↦ λ e. absurd (none-some s (sym (ap first_segment (own_none s.inode rs o (sym e))) ∙ h))
      | Some r ↦ λ e. ⊎_elim
          (λ same.
          let g : segment_of_run r ≡ s = same_Some (segment_of_run r) s (sym (own_first s.inode rs r o (sym e) same) ∙ h) in
          let i : r.0.inode ≡ start.inode = ap (λ (x : Segment). x.inode) g ∙ sym ei in
          let f : r.0.from ≡ start.from = ap (λ (x : Segment). x.from) g ∙ sym ef in
          subst (λ (k : RunStart). Named k s.len rs) (λ j. record { inode = i j; from = f j })
          (subst (λ n. Named r.0 n rs) (ap (λ (x : Segment). x.len) g) (named_run rs r (place s.inode 0) o (sym e))))
          (λ n. absurd (none-some s (sym (ap first_segment (own_other s.inode rs r o (sym e) n)) ∙ h)))
          (cases_eq r.0.inode s.inode)
    ] refl

-- its bytes, and what is left without it
module _ (start : RunStart) (len : ℕ) (rs : List Run) (o : InOrder 0 rs) (n : Named start len rs) where
  in_parts : InOrder 0 (runs_before (place_of start) rs ++ (start, n.bytes) ∷ runs_from (place_of start + 1) rs)
  in_parts = subst (InOrder 0) n.all o

  pub named_bytes : bytes_in_range start.inode start.from len (pending_bytes rs) ≡ n.bytes
  named_bytes =
      ap (λ k. bytes_in_range start.inode start.from k (pending_bytes rs)) (sym n.len_is)
      ∙ ap (λ (t : List Run). bytes_in_range start.inode start.from (length n.bytes) (pending_bytes t)) n.all
      ∙ run_bytes 0 (runs_before (place_of start) rs) (start, n.bytes) (runs_from (place_of start + 1) rs) in_parts

  pub taken_order : InOrder 0 (without_run start rs)
  taken_order = order_without 0 (runs_before (place_of start) rs) (start, n.bytes) (runs_from (place_of start + 1) rs) in_parts

  pub taken : pending_bytes (without_run start rs) ≡ without_range start.inode start.from len (pending_bytes rs)
  taken =
      sym (run_without 0 (runs_before (place_of start) rs) (start, n.bytes) (runs_from (place_of start + 1) rs) in_parts)
      ∙ ap (λ (t : List Run). without_range start.inode start.from (length n.bytes) (pending_bytes t)) (sym n.all)
      ∙ ap (λ k. without_range start.inode start.from k (pending_bytes rs)) n.len_is

  pub taken_count : length (pending_bytes (without_run start rs)) + length n.bytes ≡ length (pending_bytes rs)
  taken_count =
      count_without (runs_before (place_of start) rs) (start, n.bytes) (runs_from (place_of start + 1) rs)
      ∙ ap (λ (t : List Run). length (pending_bytes t)) (sym n.all)
