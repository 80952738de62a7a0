-- An inode's first segment, and what is left without it.
use Rattle.std.proofs.Common.{◌≡◌, ℕ, ◌+◌, ◌%◌, ◌<◌, ◌≤◌, true, false, not, cond, eqb, ◌==◌, List, [], ◌∷◌, length, Some, None, refl, sym, ap, subst, ◌∙◌, ⊎_elim, arith}
use Rattle.std.proofs.lemmas.Bool.{cases_eq, cond-true, cond-false, cond_both, and_parts, eqb-true, eq-eqb, ne_eqb}
use Rattle.std.proofs.lemmas.Bool.Decides.{nat_tests}
use Rattle.std.proofs.lemmas.Option.{none-some, same_Some}
use Rattle.jv_model.specs.declared.limits.TheConstants.{WINDOW}
use Rattle.jv_model.specs.promise.client.Pending.{PendingByte, Segment, comes_before, stands_at, is_in_range, without_range, pending_of, pending_of_others, run_length, first_segment, byte_set, written}
use Rattle.jv_model.specs.client.Pending.{all_after, is_rising, pending_end, end_of}
use Rattle.jv_model.proofs.PendingLaws.{no_first_segment}

-- an inode's first segment is its own, and its first byte lies in it
out_of_range : (i f n : ℕ) (b : PendingByte) → (b.inode ≡ i → ⊥) → is_in_range i f n b ≡ false
out_of_range i f n b h = grind (arith, nat_tests)

in_range : (i f n : ℕ) (b : PendingByte) → b.inode ≡ i → b.position ≡ f → 0 < n → is_in_range i f n b ≡ true
in_range i f n b e p h = grind (arith, nat_tests)

pub own_segment : (i : ℕ) (bytes : List PendingByte) (s : Segment) → first_segment (pending_of i bytes) ≡ Some s → s.inode ≡ i
own_segment i [] s h = absurd (none-some s h)
own_segment i (b ∷ bytes) s h =
    ⊎_elim
    (λ e.
    let here = ap first_segment (cond-true (eqb b.inode i) (b ∷ pending_of i bytes) (pending_of i bytes) (eq-eqb b.inode i e)) in
    sym (ap (λ (t : Segment). t.inode) (same_Some _ s (sym here ∙ h))) ∙ e)
    (λ n. own_segment i bytes s (sym (ap first_segment (cond-false (eqb b.inode i) (b ∷ pending_of i bytes) (pending_of i bytes) (ne_eqb b.inode i n))) ∙ h))
    (cases_eq b.inode i)

stands_here : (b : PendingByte) → stands_at b.inode b.position b ≡ true
stands_here b = grind (arith, nat_tests)

-- a first segment has a byte
pub segment-some : (bytes : List PendingByte) (s : Segment) → first_segment bytes ≡ Some s → 0 < s.len
segment-some [] s h = absurd (none-some s h)
segment-some (b ∷ bytes) s h =
    let same = same_Some _ s h in
    let more : ℕ = run_length b.inode (b.position + 1) bytes in
    let ahead : ℕ = cond ((b.position + 1) % WINDOW == 0) 1 (1 + more) in
    let some : 0 < ahead = cond_both ((b.position + 1) % WINDOW == 0) 1 (1 + more) (λ n. 0 < n) (λ _. omega arith) (λ _. omega arith) in
    let is : cond (stands_at b.inode b.position b) ahead 0 ≡ ahead = cond-true (stands_at b.inode b.position b) ahead 0 (stands_here b) in
    subst (λ (t : Segment). 0 < t.len) same (subst (λ n. 0 < n) (sym is) some)

fewer : (i f n : ℕ) (bytes : List PendingByte) → length (without_range i f n bytes) ≤ length bytes
fewer i f n [] = omega arith
fewer i f n (b ∷ bytes) =
    elim (not (is_in_range i f n b)) as (λ t. length (cond t (b ∷ without_range i f n bytes) (without_range i f n bytes)) ≤ length (b ∷ bytes)) [
      | true ↦ omega (arith, fewer i f n bytes)
      | false ↦ omega (arith, fewer i f n bytes)
    ]

pub length-without : (i : ℕ) (bytes : List PendingByte) (s : Segment) → first_segment (pending_of i bytes) ≡ Some s → length (without_range s.inode s.from s.len bytes) < length bytes
length-without i [] s h = absurd (none-some s h)
length-without i (b ∷ bytes) s h =
    let l = segment-some (pending_of i (b ∷ bytes)) s h in
    ⊎_elim
    (λ e.
    let here = ap first_segment (cond-true (eqb b.inode i) (b ∷ pending_of i bytes) (pending_of i bytes) (eq-eqb b.inode i e)) in
    let same = same_Some _ s (sym here ∙ h) in
    let inside = in_range s.inode s.from s.len b (ap (λ (t : Segment). t.inode) same) (ap (λ (t : Segment). t.from) same) l in
    let gone = ap length (cond-false (not (is_in_range s.inode s.from s.len b)) (b ∷ without_range s.inode s.from s.len bytes) (without_range s.inode s.from s.len bytes) (ap not inside)) in
    omega (arith, fewer s.inode s.from s.len bytes))
    (λ n.
    let rest = sym (ap first_segment (cond-false (eqb b.inode i) (b ∷ pending_of i bytes) (pending_of i bytes) (ne_eqb b.inode i n))) ∙ h in
    let own = own_segment i bytes s rest in
    let outside = out_of_range s.inode s.from s.len b (λ e. n (e ∙ own)) in
    let kept = ap length (cond-true (not (is_in_range s.inode s.from s.len b)) (b ∷ without_range s.inode s.from s.len bytes) (without_range s.inode s.from s.len bytes) (ap not outside)) in
    omega (arith, length-without i bytes s rest))
    (cases_eq b.inode i)

-- the bytes of an inode are from a position on
abbrev Above : ℕ → ℕ → List PendingByte → Type 0
Above i low [] = Unit {0}
Above i low (b ∷ bs) = (b.inode ≡ i → low ≤ b.position) × Above i low bs

-- all bytes are of one inode, and rise from a position on
abbrev RiseFrom : ℕ → ℕ → List PendingByte → Type 0
RiseFrom i low [] = Unit {0}
RiseFrom i low (b ∷ bs) = (b.inode ≡ i) × (low ≤ b.position) × RiseFrom i (b.position + 1) bs

above_none : (i : ℕ) (bs : List PendingByte) → Above i 0 bs
above_none i [] = tt
above_none i (b ∷ bs) = (λ e. omega arith, above_none i bs)

before_says : (i p : ℕ) (b : PendingByte) → comes_before i p b ≡ true → b.inode ≡ i → p < b.position
before_says i p b h e = grind (arith, nat_tests)

above_after : (i p : ℕ) (bs : List PendingByte) → all_after i p bs ≡ true → Above i (p + 1) bs
above_after i p [] h = tt
above_after i p (b ∷ bs) h =
    let both = and_parts (comes_before i p b) (all_after i p bs) h in
    (λ e. let l = before_says i p b both.0 e in omega arith, above_after i p bs both.1)

-- the bytes of an inode rise
rises_of : (i low : ℕ) (bs : List PendingByte) → is_rising bs ≡ true → Above i low bs → RiseFrom i low (pending_of i bs)
rises_of i low [] r a = tt
rises_of i low (b ∷ bs) r a =
    let both = and_parts (all_after b.inode b.position bs) (is_rising bs) r in
    cond_both (b.inode == i) (b ∷ pending_of i bs) (pending_of i bs) (RiseFrom i low)
    (λ e. let same = eqb-true b.inode i e in
    (same, a.0 same, rises_of i (b.position + 1) bs both.1 (subst (λ j. Above j (b.position + 1) bs) same (above_after b.inode b.position bs both.0))))
    (λ e. rises_of i low bs both.1 a.1)

rises : (i : ℕ) (bs : List PendingByte) → is_rising bs ≡ true → RiseFrom i 0 (pending_of i bs)
rises i bs r = rises_of i 0 bs r (above_none i bs)

-- they end after the first of them
ends_after : (i low : ℕ) (b : PendingByte) (bs : List PendingByte) → RiseFrom i low (b ∷ bs) → b.position < pending_end (b ∷ bs)
ends_after i low b [] r = omega arith
ends_after i low b (c ∷ cs) r = let l = ends_after i (b.position + 1) c cs r.2 in let m = r.2.1 in omega arith

-- a run from the first of them on ends by the last
run_ends : (i j low p : ℕ) (b : PendingByte) (bs : List PendingByte) → RiseFrom i low (b ∷ bs) → p ≤ b.position
    → p + run_length j p (b ∷ bs) ≤ pending_end (b ∷ bs)
run_ends i j low p b [] r first =
    let most : run_length j p (b ∷ []) ≤ 1 = cond_both (stands_at j p b) (cond ((p + 1) % WINDOW == 0) 1 1) 0 (λ n. n ≤ 1)
    (λ _. cond_both ((p + 1) % WINDOW == 0) 1 1 (λ n. n ≤ 1) (λ _. omega arith) (λ _. omega arith)) (λ _. omega arith) in
    omega (arith, most, first)
run_ends i j low p b (c ∷ cs) r first =
    let more : ℕ = run_length j (p + 1) (c ∷ cs) in
    let rises = r.2.1 in
    let later : p + 1 + more ≤ pending_end (c ∷ cs) = run_ends i j (b.position + 1) (p + 1) c cs r.2 (omega (arith, first, rises)) in
    let most : run_length j p (b ∷ c ∷ cs) ≤ 1 + more = cond_both (stands_at j p b) (cond ((p + 1) % WINDOW == 0) 1 (1 + more)) 0 (λ n. n ≤ 1 + more)
    (λ _. cond_both ((p + 1) % WINDOW == 0) 1 (1 + more) (λ n. n ≤ 1 + more) (λ _. omega arith) (λ _. omega arith)) (λ _. omega arith) in
    omega (arith, later, most)

-- an inode's first segment ends by its last byte
pub segment-ends : (i : ℕ) (bytes : List PendingByte) (s : Segment) → is_rising bytes ≡ true → first_segment (pending_of i bytes) ≡ Some s
    → s.from + s.len ≤ end_of i bytes
segment-ends i bytes s rising first = of_list (pending_of i bytes) (rises i bytes rising) first
  where
    of_list : (bs : List PendingByte) → RiseFrom i 0 bs → first_segment bs ≡ Some s → s.from + s.len ≤ pending_end bs
    of_list [] r e = absurd (none-some s e)
    of_list (b ∷ bs) r e = subst (λ (t : Segment). t.from + t.len ≤ pending_end (b ∷ bs)) (same_Some _ s e)
        (run_ends i b.inode 0 b.position b bs r (omega arith))

-- the others' bytes stay
pub others_stay : (i f n : ℕ) (bytes : List PendingByte) → pending_of_others i (without_range i f n bytes) ≡ pending_of_others i bytes
others_stay i f n [] = refl
others_stay i f n (b ∷ bytes) =
    ⊎_elim
    (λ e.
    let drops : (t : List PendingByte) → pending_of_others i (b ∷ t) ≡ pending_of_others i t = λ t. cond-false (not (eqb b.inode i)) (b ∷ pending_of_others i t) (pending_of_others i t) (ap not (eq-eqb b.inode i e)) in
    elim (not (is_in_range i f n b)) as (λ t. pending_of_others i (cond t (b ∷ without_range i f n bytes) (without_range i f n bytes)) ≡ pending_of_others i (b ∷ bytes)) [
      | true ↦ drops (without_range i f n bytes) ∙ others_stay i f n bytes ∙ sym (drops bytes)
      | false ↦ others_stay i f n bytes ∙ sym (drops bytes)
    ])
    (λ m.
    let keeps : (t : List PendingByte) → pending_of_others i (b ∷ t) ≡ b ∷ pending_of_others i t = λ t. cond-true (not (eqb b.inode i)) (b ∷ pending_of_others i t) (pending_of_others i t) (ap not (ne_eqb b.inode i m)) in
    ap (pending_of_others i) (cond-true (not (is_in_range i f n b)) (b ∷ without_range i f n bytes) (without_range i f n bytes) (ap not (out_of_range i f n b m)))
    ∙ keeps (without_range i f n bytes) ∙ ap (λ (t : List PendingByte). b ∷ t) (others_stay i f n bytes) ∙ sym (keeps bytes))
    (cases_eq b.inode i)

-- where an inode has no segment, all bytes are the others'
some_segment : (b : PendingByte) (bytes : List PendingByte) → first_segment (b ∷ bytes) ≡ None → ⊥
some_segment b bytes h = none-some _ (sym h)

pub others_all : (i : ℕ) (bytes : List PendingByte) → first_segment (pending_of i bytes) ≡ None → pending_of_others i bytes ≡ bytes
others_all i [] h = refl
others_all i (b ∷ bytes) h =
    ⊎_elim
    (λ e. absurd (some_segment b (pending_of i bytes) (sym (ap first_segment (cond-true (eqb b.inode i) (b ∷ pending_of i bytes) (pending_of i bytes) (eq-eqb b.inode i e))) ∙ h)))
    (λ n.
    cond-true (not (eqb b.inode i)) (b ∷ pending_of_others i bytes) (pending_of_others i bytes) (ap not (ne_eqb b.inode i n))
    ∙ ap (λ (t : List PendingByte). b ∷ t) (others_all i bytes (sym (ap first_segment (cond-false (eqb b.inode i) (b ∷ pending_of i bytes) (pending_of i bytes) (ne_eqb b.inode i n))) ∙ h)))
    (cases_eq b.inode i)

pub none_of_others : (i : ℕ) (bytes : List PendingByte) → first_segment (pending_of i bytes) ≡ None → pending_of i bytes ≡ []
none_of_others i bytes h = no_first_segment (pending_of i bytes) h

pub no_end : (i : ℕ) (bytes : List PendingByte) → first_segment (pending_of i bytes) ≡ None → end_of i bytes ≡ 0
no_end i bytes h = ap pending_end (none_of_others i bytes h)

drop_same : (i : ℕ) (x : PendingByte) (bs : List PendingByte) → x.inode ≡ i → pending_of_others i (x ∷ bs) ≡ pending_of_others i bs
drop_same i x bs e = cond-false (not (eqb x.inode i)) (x ∷ pending_of_others i bs) (pending_of_others i bs) (ap not (eq-eqb x.inode i e))

drop_own : (i p b : ℕ) (bs : List PendingByte) → pending_of_others i (record { inode = i; position = p; byte = b } ∷ bs) ≡ pending_of_others i bs
drop_own i p b bs = drop_same i (record { inode = i; position = p; byte = b }) bs refl

stands_inode : (i p : ℕ) (x : PendingByte) → stands_at i p x ≡ true → x.inode ≡ i
stands_inode i p x h = grind (arith, nat_tests)

-- a write changes no other inode's bytes
set_others : (i p b : ℕ) (bytes : List PendingByte) → pending_of_others i (byte_set i p b bytes) ≡ pending_of_others i bytes
set_others i p b [] = drop_own i p b []
set_others i p b (x ∷ bytes) =
    cond_both (stands_at i p x) (record { inode = i; position = p; byte = b } ∷ bytes)
    (cond (comes_before i p x) (record { inode = i; position = p; byte = b } ∷ x ∷ bytes) (x ∷ byte_set i p b bytes))
    (λ t. pending_of_others i t ≡ pending_of_others i (x ∷ bytes))
    (λ here. drop_own i p b bytes ∙ sym (drop_same i x bytes (stands_inode i p x here)))
    (λ _. cond_both (comes_before i p x) (record { inode = i; position = p; byte = b } ∷ x ∷ bytes) (x ∷ byte_set i p b bytes)
    (λ t. pending_of_others i t ≡ pending_of_others i (x ∷ bytes))
    (λ _. drop_own i p b (x ∷ bytes))
    (λ _. ap (λ (t : List PendingByte). cond (not (eqb x.inode i)) (x ∷ t) t) (set_others i p b bytes)))

pub written_others : (i from : ℕ) (bs : List ℕ) (bytes : List PendingByte) → pending_of_others i (written i from bs bytes) ≡ pending_of_others i bytes
written_others i from [] bytes = refl
written_others i from (b ∷ bs) bytes = set_others i from b (written i (from + 1) bs bytes) ∙ written_others i (from + 1) bs bytes
