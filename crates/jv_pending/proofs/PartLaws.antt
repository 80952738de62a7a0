-- Runs that rise, cut at places.
use Rattle.std.proofs.Common.{◌≡◌, ℕ, ◌+◌, ◌<◌, ◌≤◌, ltb, leb, cond, List, [], ◌∷◌, ◌++◌, Some, None, refl, sym, ap, subst, ◌∙◌, ⊎_elim, arith}
use Rattle.std.proofs.lemmas.Bool.{cases_lt, cond-true, cond-false, lt-ltb, le-ltb, le-leb, lt-leb}
use Rattle.std.proofs.lemmas.List.{append-nil}
use Rattle.std.proofs.lemmas.Option.{none-some, same_Some}
use Rattle.std.proofs.lemmas.List.Elements.{filter-append}
use Rattle.jv_model.specs.declared.limits.TheConstants.{FILE_END}
use Rattle.jv_model.specs.Lists.{first_item}
use Rattle.jv_model.specs.promise.Lists.{last_item}
use Rattle.jv_pending.specs.Runs.{Run, Before, start_place, end_place, Rise, InOrder, runs_before, runs_from, runs_within, first_place, with_runs}

pub before_yes : (n : ℕ) (r : Run) (rs : List Run) → start_place r < n → runs_before n (r ∷ rs) ≡ r ∷ runs_before n rs
before_yes n r rs h = cond-true (ltb (start_place r) n) (r ∷ runs_before n rs) (runs_before n rs) (lt-ltb (start_place r) n h)

pub before_no : (n : ℕ) (r : Run) (rs : List Run) → n ≤ start_place r → runs_before n (r ∷ rs) ≡ runs_before n rs
before_no n r rs h = cond-false (ltb (start_place r) n) (r ∷ runs_before n rs) (runs_before n rs) (le-ltb (start_place r) n h)

pub from_yes : (n : ℕ) (r : Run) (rs : List Run) → n ≤ start_place r → runs_from n (r ∷ rs) ≡ r ∷ runs_from n rs
from_yes n r rs h = cond-true (leb n (start_place r)) (r ∷ runs_from n rs) (runs_from n rs) (le-leb n (start_place r) h)

pub from_no : (n : ℕ) (r : Run) (rs : List Run) → start_place r < n → runs_from n (r ∷ rs) ≡ runs_from n rs
from_no n r rs h = cond-false (leb n (start_place r)) (r ∷ runs_from n rs) (runs_from n rs) (lt-leb n (start_place r) h)

pub Rise-weaker : (m n : ℕ) (rs : List Run) → n ≤ m → Rise m rs → Rise n rs
Rise-weaker m n [] h r = tt
Rise-weaker m n (x ∷ rs) h r = (r.0, omega arith, r.2)

pub Rise-order : (low : ℕ) (rs : List Run) → InOrder low rs → Rise low rs
Rise-order low [] o = tt
Rise-order low (r ∷ rs) o =
    let some = o.0.some in
    let file = o.0.in_file in
    (omega arith, omega arith, Rise-weaker (end_place r) (start_place r + 1) rs (omega arith) (Rise-order (end_place r) rs o.2))

-- all on one side of a place
pub before_all : (n : ℕ) (rs : List Run) → Before n rs → runs_before n rs ≡ rs
before_all n [] b = refl
before_all n (r ∷ rs) b = before_yes n r rs b.0 ∙ ap (λ (t : List Run). r ∷ t) (before_all n rs b.1)

pub from_none : (n : ℕ) (rs : List Run) → Before n rs → runs_from n rs ≡ []
from_none n [] b = refl
from_none n (r ∷ rs) b = from_no n r rs b.0 ∙ from_none n rs b.1

pub before_none : (n low : ℕ) (rs : List Run) → n ≤ low → Rise low rs → runs_before n rs ≡ []
before_none n low [] h r = refl
before_none n low (x ∷ rs) h r = let k = r.1 in before_no n x rs (omega arith) ∙ before_none n (start_place x + 1) rs (omega arith) r.2

pub from_all : (n low : ℕ) (rs : List Run) → n ≤ low → Rise low rs → runs_from n rs ≡ rs
from_all n low [] h r = refl
from_all n low (x ∷ rs) h r = let k = r.1 in from_yes n x rs (omega arith) ∙ ap (λ (t : List Run). x ∷ t) (from_all n (start_place x + 1) rs (omega arith) r.2)

-- the runs before a place, and those from it on
pub Before-before : (n : ℕ) (rs : List Run) → Before n (runs_before n rs)
Before-before n [] = tt
Before-before n (r ∷ rs) =
    ⊎_elim
    (λ l. subst (Before n) (sym (before_yes n r rs l)) (l, Before-before n rs))
    (λ g. subst (Before n) (sym (before_no n r rs g)) (Before-before n rs))
    (cases_lt (start_place r) n)

pub Rise-before : (n low : ℕ) (rs : List Run) → Rise low rs → Rise low (runs_before n rs)
Rise-before n low [] r = tt
Rise-before n low (x ∷ rs) r =
    ⊎_elim
    (λ l. subst (Rise low) (sym (before_yes n x rs l)) (r.0, r.1, Rise-before n (start_place x + 1) rs r.2))
    (λ g. let k = r.1 in subst (Rise low) (sym (before_no n x rs g)) (Rise-weaker (start_place x + 1) low (runs_before n rs) (omega arith) (Rise-before n (start_place x + 1) rs r.2)))
    (cases_lt (start_place x) n)

pub Rise-from : (n low : ℕ) (rs : List Run) → Rise low rs → Rise n (runs_from n rs)
Rise-from n low [] r = tt
Rise-from n low (x ∷ rs) r =
    ⊎_elim
    (λ l. subst (Rise n) (sym (from_no n x rs l)) (Rise-from n (start_place x + 1) rs r.2))
    (λ g. subst (Rise n) (sym (from_yes n x rs g ∙ ap (λ (t : List Run). x ∷ t) (from_all n (start_place x + 1) rs (omega arith) r.2))) (r.0, g, r.2))
    (cases_lt (start_place x) n)

pub Rise-append : (low n : ℕ) (xs ys : List Run) → low ≤ n → Rise low xs → Before n xs → Rise n ys → Rise low (xs ++ ys)
Rise-append low n [] ys h r b s = Rise-weaker n low ys h s
Rise-append low n (x ∷ xs) ys h r b s = (r.0, r.1, Rise-append (start_place x + 1) n xs ys (let l = b.0 in omega arith) r.2 b.1 s)

pub whole : (n low : ℕ) (rs : List Run) → Rise low rs → runs_before n rs ++ runs_from n rs ≡ rs
whole n low [] r = refl
whole n low (x ∷ rs) r =
    ⊎_elim
    (λ l. ap (λ (t : List Run). t ++ runs_from n (x ∷ rs)) (before_yes n x rs l) ∙ ap (λ (t : List Run). (x ∷ runs_before n rs) ++ t) (from_no n x rs l) ∙ ap (λ (t : List Run). x ∷ t) (whole n (start_place x + 1) rs r.2))
    (λ g. let s : Rise n (x ∷ rs) = (r.0, g, r.2) in ap (λ (t : List Run). t ++ runs_from n (x ∷ rs)) (before_none n n (x ∷ rs) (omega arith) s) ∙ from_all n n (x ∷ rs) (omega arith) s)
    (cases_lt (start_place x) n)

pub Before-weaker : (m n : ℕ) (rs : List Run) → m ≤ n → Before m rs → Before n rs
Before-weaker m n [] h b = tt
Before-weaker m n (r ∷ rs) h b = (let l = b.0 in omega arith, Before-weaker m n rs h b.1)

-- the runs before the last one
pub Before-last : (low : ℕ) (xs : List Run) (r : Run) → Rise low (xs ++ r ∷ []) → Before (start_place r) xs × (low ≤ start_place r)
Before-last low [] r h = (tt, h.1)
Before-last low (x ∷ xs) r h = let q = Before-last (start_place x + 1) xs r h.2 in let k = h.1 in ((omega (arith, q.1), q.0), omega (arith, q.1))

pub Before-end : (n : ℕ) (xs : List Run) (r : Run) → Before n xs → start_place r < n → Before n (xs ++ r ∷ [])
Before-end n [] r b h = (h, tt)
Before-end n (x ∷ xs) r b h = (b.0, Before-end n xs r b.1 h)

pub file_last : (low : ℕ) (xs : List Run) (r : Run) → Rise low (xs ++ r ∷ []) → r.0.from < FILE_END
file_last low [] r h = h.0
file_last low (x ∷ xs) r h = file_last (start_place x + 1) xs r h.2

pub last_early : (n : ℕ) (xs : List Run) (r : Run) → Before n (xs ++ r ∷ []) → start_place r < n
last_early n [] r h = h.0
last_early n (x ∷ xs) r h = last_early n xs r h.1

-- cuts of cuts
pub before_before : (m n : ℕ) (rs : List Run) → m ≤ n → runs_before m (runs_before n rs) ≡ runs_before m rs
before_before m n [] h = refl
before_before m n (r ∷ rs) h =
    ⊎_elim
    (λ l. ap (runs_before m) (before_yes n r rs l) ∙ ap (λ (t : List Run). cond (ltb (start_place r) m) (r ∷ t) t) (before_before m n rs h))
    (λ g. ap (runs_before m) (before_no n r rs g) ∙ before_before m n rs h ∙ sym (before_no m r rs (omega arith)))
    (cases_lt (start_place r) n)

pub from_from : (m n : ℕ) (rs : List Run) → m ≤ n → runs_from n (runs_from m rs) ≡ runs_from n rs
from_from m n [] h = refl
from_from m n (r ∷ rs) h =
    ⊎_elim
    (λ l. ap (runs_from n) (from_no m r rs l) ∙ from_from m n rs h ∙ sym (from_no n r rs (omega arith)))
    (λ g. ap (runs_from n) (from_yes m r rs g) ∙ ap (λ (t : List Run). cond (leb n (start_place r)) (r ∷ t) t) (from_from m n rs h))
    (cases_lt (start_place r) m)

pub within_is : (m n : ℕ) (rs : List Run) → runs_within m n rs ≡ runs_before n (runs_from m rs)
within_is m n [] = refl
within_is m n (r ∷ rs) =
    ⊎_elim
    (λ l. ap (runs_from m) (before_yes n r rs l)
    ∙ ⊎_elim
    (λ k. from_no m r (runs_before n rs) k ∙ within_is m n rs ∙ sym (ap (runs_before n) (from_no m r rs k)))
    (λ k. from_yes m r (runs_before n rs) k ∙ ap (λ (t : List Run). r ∷ t) (within_is m n rs) ∙ sym (ap (runs_before n) (from_yes m r rs k) ∙ before_yes n r (runs_from m rs) l))
    (cases_lt (start_place r) m))
    (λ g. ap (runs_from m) (before_no n r rs g) ∙ within_is m n rs
    ∙ ⊎_elim
    (λ k. sym (ap (runs_before n) (from_no m r rs k)))
    (λ k. sym (ap (runs_before n) (from_yes m r rs k) ∙ before_no n r (runs_from m rs) g))
    (cases_lt (start_place r) m))
    (cases_lt (start_place r) n)

pub thirds : (m n low : ℕ) (rs : List Run) → m ≤ n → Rise low rs → runs_before m rs ++ (runs_within m n rs ++ runs_from n rs) ≡ rs
thirds m n low rs h r =
    ap (λ (t : List Run). runs_before m rs ++ (t ++ runs_from n rs)) (within_is m n rs)
    ∙ ap (λ (t : List Run). runs_before m rs ++ (runs_before n (runs_from m rs) ++ t)) (sym (from_from m n rs h))
    ∙ ap (λ (t : List Run). runs_before m rs ++ t) (whole n m (runs_from m rs) (Rise-from m low rs r))
    ∙ whole m low rs r

-- runs in the place of others
pub first_low : (n : ℕ) (rs : List Run) → Before n rs → first_place n rs ≤ n
first_low n [] b = omega arith
first_low n (r ∷ rs) b = let l = b.0 in omega arith

pub Rise-first : (n low : ℕ) (rs : List Run) → Rise low rs → Rise (first_place n rs) rs
Rise-first n low [] r = tt
Rise-first n low (x ∷ rs) r = (r.0, omega arith, r.2)

module _ (fresh : List Run) (high low : ℕ) (es : List Run) (f : Rise 0 fresh) (b : Before high fresh) (e : Rise low es) where
  pub with_before : (n : ℕ) → n ≤ first_place high fresh → runs_before n (with_runs fresh high es) ≡ runs_before n es
  with_before n h =
      let top = first_low high fresh b in
      filter-append (λ r. ltb (start_place r) n) (runs_before (first_place high fresh) es) (fresh ++ runs_from high es)
      ∙ ap (λ (t : List Run). t ++ runs_before n (fresh ++ runs_from high es)) (before_before n (first_place high fresh) es h)
      ∙ ap (λ (t : List Run). runs_before n es ++ t)
      (filter-append (λ r. ltb (start_place r) n) fresh (runs_from high es)
      ∙ ap (λ (t : List Run). t ++ runs_before n (runs_from high es)) (before_none n (first_place high fresh) fresh h (Rise-first high 0 fresh f))
      ∙ before_none n high (runs_from high es) (omega arith) (Rise-from high low es e))
      ∙ append-nil (runs_before n es)

  pub with_from : (n : ℕ) → high ≤ n → runs_from n (with_runs fresh high es) ≡ runs_from n es
  with_from n h =
      let top = first_low high fresh b in
      filter-append (λ r. leb n (start_place r)) (runs_before (first_place high fresh) es) (fresh ++ runs_from high es)
      ∙ ap (λ (t : List Run). t ++ runs_from n (fresh ++ runs_from high es)) (from_none n (runs_before (first_place high fresh) es) (Before-weaker (first_place high fresh) n (runs_before (first_place high fresh) es) (omega arith) (Before-before (first_place high fresh) es)))
      ∙ filter-append (λ r. leb n (start_place r)) fresh (runs_from high es)
      ∙ ap (λ (t : List Run). t ++ runs_from n (runs_from high es)) (from_none n fresh (Before-weaker high n fresh h b))
      ∙ from_from high n es h

  pub with_here : runs_from (first_place high fresh) (with_runs fresh high es) ≡ fresh ++ runs_from high es
  with_here =
      let top = first_low high fresh b in
      filter-append (λ r. leb (first_place high fresh) (start_place r)) (runs_before (first_place high fresh) es) (fresh ++ runs_from high es)
      ∙ ap (λ (t : List Run). t ++ runs_from (first_place high fresh) (fresh ++ runs_from high es)) (from_none (first_place high fresh) (runs_before (first_place high fresh) es) (Before-before (first_place high fresh) es))
      ∙ filter-append (λ r. leb (first_place high fresh) (start_place r)) fresh (runs_from high es)
      ∙ ap (λ (t : List Run). t ++ runs_from (first_place high fresh) (runs_from high es)) (from_all (first_place high fresh) (first_place high fresh) fresh (omega arith) (Rise-first high 0 fresh f))
      ∙ ap (λ (t : List Run). fresh ++ t) (from_all (first_place high fresh) high (runs_from high es) top (Rise-from high low es e))

  pub with_rise : Rise 0 (with_runs fresh high es)
  with_rise =
      Rise-append 0 (first_place high fresh) (runs_before (first_place high fresh) es) (fresh ++ runs_from high es) (omega arith)
      (Rise-before (first_place high fresh) 0 es (Rise-weaker low 0 es (omega arith) e)) (Before-before (first_place high fresh) es)
      (Rise-append (first_place high fresh) high fresh (runs_from high es) (first_low high fresh b) (Rise-first high 0 fresh f) b (Rise-from high low es e))

-- what is put over runs that were put there before
pub with_with : (xs ys : List Run) (high top low : ℕ) (es : List Run) → Rise 0 ys → Before top ys → Rise low es → first_place high xs ≤ first_place top ys → top ≤ high → with_runs xs high (with_runs ys top es) ≡ with_runs xs high es
with_with xs ys high top low es f b r h k =
    ap (λ (t : List Run). t ++ (xs ++ runs_from high (with_runs ys top es))) (with_before ys top low es f b r (first_place high xs) h)
    ∙ ap (λ (t : List Run). runs_before (first_place high xs) es ++ (xs ++ t)) (with_from ys top low es f b r high k)

-- runs taken out
module _ (lo hi low : ℕ) (es : List Run) (h : lo ≤ hi) (e : Rise low es) where
  pub cut_before : (n : ℕ) → n ≤ lo → runs_before n (runs_before lo es ++ runs_from hi es) ≡ runs_before n es
  cut_before n l =
      filter-append (λ r. ltb (start_place r) n) (runs_before lo es) (runs_from hi es)
      ∙ ap (λ (t : List Run). t ++ runs_before n (runs_from hi es)) (before_before n lo es l)
      ∙ ap (λ (t : List Run). runs_before n es ++ t) (before_none n hi (runs_from hi es) (omega arith) (Rise-from hi low es e))
      ∙ append-nil (runs_before n es)

  pub cut_from : (n : ℕ) → hi ≤ n → runs_from n (runs_before lo es ++ runs_from hi es) ≡ runs_from n es
  cut_from n l =
      filter-append (λ r. leb n (start_place r)) (runs_before lo es) (runs_from hi es)
      ∙ ap (λ (t : List Run). t ++ runs_from n (runs_from hi es)) (from_none n (runs_before lo es) (Before-weaker lo n (runs_before lo es) (omega arith) (Before-before lo es)))
      ∙ from_from hi n es l

  pub cut_rest : (n : ℕ) → lo ≤ n → n ≤ hi → runs_from n (runs_before lo es ++ runs_from hi es) ≡ runs_from hi es
  cut_rest n k l =
      filter-append (λ r. leb n (start_place r)) (runs_before lo es) (runs_from hi es)
      ∙ ap (λ (t : List Run). t ++ runs_from n (runs_from hi es)) (from_none n (runs_before lo es) (Before-weaker lo n (runs_before lo es) k (Before-before lo es)))
      ∙ from_all n hi (runs_from hi es) l (Rise-from hi low es e)

  pub cut_rise : Rise 0 (runs_before lo es ++ runs_from hi es)
  cut_rise =
      Rise-append 0 hi (runs_before lo es) (runs_from hi es) (omega arith) (Rise-before lo 0 es (Rise-weaker low 0 es (omega arith) e))
      (Before-weaker lo hi (runs_before lo es) h (Before-before lo es)) (Rise-from hi low es e)

-- the first run from a place on
pub first_split : (xs : List Run) (r : Run) → Some r ≡ first_item xs → (t : List Run) × (xs ≡ r ∷ t)
first_split [] r h = absurd (none-some r (sym h))
first_split (x ∷ xs) r h = (xs, ap (λ (y : Run). y ∷ xs) (let q : Some r ≡ Some x = h in sym (same_Some r x q)))

pub first_nothing : (xs : List Run) → None ≡ first_item xs → xs ≡ []
first_nothing [] h = refl
first_nothing (x ∷ xs) h = absurd (none-some x h)

pub first_at : (n low : ℕ) (es : List Run) (r : Run) (t : List Run) → Rise low es → runs_from n es ≡ r ∷ t → (r.0.from < FILE_END) × (n ≤ start_place r) × (runs_from (start_place r) es ≡ r ∷ t)
first_at n low es r t e h =
    let s : Rise n (r ∷ t) = subst (Rise n) h (Rise-from n low es e) in
    let k = s.1 in
    (s.0, s.1, sym (from_from n (start_place r) es s.1) ∙ ap (runs_from (start_place r)) h ∙ from_all (start_place r) (start_place r) (r ∷ t) (omega arith) (s.0, omega arith, s.2))

-- no run begins between two places
pub none_between : (n m low : ℕ) (es : List Run) (r : Run) (t : List Run) → n ≤ m → Rise low es → runs_from n es ≡ r ∷ t → m ≤ start_place r → es ≡ runs_before n es ++ runs_from m es
none_between n m low es r t l e h k =
    let s : Rise n (r ∷ t) = subst (Rise n) h (Rise-from n low es e) in
    sym (ap (λ (x : List Run). runs_before n es ++ x) (sym (from_from n m es l) ∙ ap (runs_from m) h ∙ from_all m m (r ∷ t) (omega arith) (s.0, k, s.2) ∙ sym h) ∙ whole n low es e)

pub none_behind : (n m low : ℕ) (es : List Run) → n ≤ m → Rise low es → runs_from n es ≡ [] → es ≡ runs_before n es ++ runs_from m es
none_behind n m low es l e h =
    sym (ap (λ (x : List Run). runs_before n es ++ x) (sym (from_from n m es l) ∙ ap (runs_from m) h ∙ sym h) ∙ whole n low es e)
