-- The first row behind a key: numbers go as their bytes do, and a scan of one row finds the least that passes.
use Rattle.std.proofs.Common.{◌≡◌, ℕ, ◌+◌, ◌*◌, ◌<◌, ◌≤◌, ◌^◌, ◌⊎◌, Bool, true, false, cond, T, List, [], ◌∷◌, length, take, inl, inr, Option, None, Some, Ok, Err, refl, sym, ap, subst, ◌∙◌, arith, true≢false, eqb-true}
use Rattle.std.specs.Prelude.{◌==◌, ◌&&◌, filter, IfSome}
use Rattle.std.specs.Int.{w32, w64, from_be_bytes}
use Rattle.std.specs.List.{AllByRecursion}
use Rattle.std.specs.declared.cmp.Ordering.{Ordering}
use Rattle.std.specs.declared.cmp.Ordering.TheVariants.{Less, Equal, Greater}
use Rattle.std.specs.Ordering.{is_lt, nat_cmp, ordering_then, ordering_reverse, eq_by_cmp}
use Rattle.std.specs.Cmp.{nat_cmp_total, tied_itself}
use Rattle.std.specs.Cmp.Lexicographic.{slice_cmp}
use Rattle.std.specs.FinMap.Entries.{find, below_all, is_sorted}
use Rattle.std.proofs.Math.Nat.{mul-le-mul_right}
use Rattle.std.proofs.lemmas.Bool.{cases_order}
use Rattle.std.proofs.lemmas.Nat.{from_be_bytes-to_be_bytes_4, from_be_bytes-to_be_bytes_8}
use Rattle.jv_model.specs.declared.row.Row.{Row}
use Rattle.jv_model.specs.declared.row.RowKey.{RowKey}
use Rattle.jv_model.specs.promise.FiniteMap.{KeyOrder, Map, get, first_passing, first_where}
use Rattle.jv_model.specs.promise.rows.RowFields.{word, long}
use Rattle.jv_model.specs.promise.rows.RowGrammar.{row_of}
use Rattle.jv_model.specs.promise.rows.RowKeys.{RowMap, row_cmp, row_cmp_total}
use Rattle.jv_model.proofs.TestLaws.{first_of_both, second_of_both, less_is, tie_is, nat_less, if_some-by, of_known, same_Err}
use Rattle.jv_outside.specs.Rows.{is_after, rows_after}
use Rattle.jv_outside.specs.promise.Store.{Store}
use Rattle.jv_rows.specs.Scans.{row_then, rows_read, ScansRows}

-- ---- numbers and their bytes

abbrev size : List ℕ → ℕ
size [] = 1
size (x ∷ xs) = 256 * size xs

abbrev value : List ℕ → ℕ
value [] = 0
value (x ∷ xs) = x * size xs + value xs

abbrev AreDigits : List ℕ → Type 0
AreDigits digits = AllByRecursion (λ d. d < 256) digits

value-below : (xs : List ℕ) → AreDigits xs → value xs < size xs
value-below [] all = omega arith
value-below (x ∷ xs) all =
    let below = value-below xs all.1 in
    let first = all.0 in
    let most : (x + 1) * size xs ≤ 256 * size xs = mul-le-mul_right (size xs) (omega (arith, first)) in
    let parts : (x + 1) * size xs ≡ x * size xs + size xs = succ_times x (size xs) in
    omega (arith, below, most, parts)
  where
    succ_times : (a b : ℕ) → (a + 1) * b ≡ a * b + b
    succ_times a b = omega arith

-- the first digits decide
greater-no : (x y s v w : ℕ) → v < s → w < s → x * s + v < y * s + w → y < x → ⊥
greater-no x y s v w lv lw less more =
    let most : (y + 1) * s ≤ x * s = mul-le-mul_right s (omega (arith, more)) in
    let parts : (y + 1) * s ≡ y * s + s = succ_times y s in
    absurd (omega (arith, lv, lw, less, most, parts))
  where
    succ_times : (a b : ℕ) → (a + 1) * b ≡ a * b + b
    succ_times a b = omega arith

-- numbers of as many digits go as their digits do
digits-less : (xs ys : List ℕ) → length xs ≡ length ys → AreDigits xs → AreDigits ys → value xs < value ys → slice_cmp nat_cmp xs ys ≡ Less
digits-less [] [] len ax ay less = absurd (omega (arith, less))
digits-less [] (y ∷ ys) len ax ay less = refl
digits-less (x ∷ xs) [] len ax ay less = absurd (omega (arith, len))
digits-less (x ∷ xs) (y ∷ ys) len ax ay less =
    let same_size : size xs ≡ size ys = sizes xs ys (omega (arith, len)) in
    let vx : value xs < size ys = subst (λ s. value xs < s) same_size (value-below xs ax.1) in
    let lower : x * size ys + value xs < y * size ys + value ys = subst (λ s. x * s + value xs < y * size ys + value ys) same_size less in
    elim (cases_order x y) [
      | inl same ↦ ap (λ n. ordering_then (nat_cmp n y) (slice_cmp nat_cmp xs ys)) same ∙ ap (λ o. ordering_then o (slice_cmp nat_cmp xs ys))
          (tied_itself nat_cmp_total y)
          ∙ digits-less xs ys (omega (arith, len)) ax.1 ay.1 (rest_less (size ys) same lower)
      | inr other ↦ elim other [
        | inl low ↦ ap (λ o. ordering_then o (slice_cmp nat_cmp xs ys)) (nat_less x y low)
        | inr high ↦ absurd (greater-no x y (size ys) (value xs) (value ys) vx (value-below ys ay.1) lower high)
      ]
    ]
  where
    sizes : (ms ns : List ℕ) → length ms ≡ length ns → size ms ≡ size ns
    sizes [] [] e = refl
    sizes [] (b ∷ ns) e = absurd (omega (arith, e))
    sizes (a ∷ ms) [] e = absurd (omega (arith, e))
    sizes (a ∷ ms) (b ∷ ns) e = ap (λ n. 256 * n) (sizes ms ns (omega (arith, e)))

    rest_less : (s : ℕ) → x ≡ y → x * s + value xs < y * s + value ys → value xs < value ys
    rest_less s same h = (let e : x * s ≡ y * s = ap (λ n. n * s) same in omega (arith, e, h))

long-digits : (n : ℕ) → AreDigits (long n)
long-digits n = (omega arith, (omega arith, (omega arith, (omega arith, (omega arith, (omega arith, (omega arith, (omega arith, tt))))))))

long-value : (n : ℕ) → n < 2 ^ 64 → value (long n) ≡ n
long-value n small = same_value (long n) ∙ from_be_bytes-to_be_bytes_8 n small
  where
    same_value : (bytes : List ℕ) → value (long n) ≡ from_be_bytes w64 (long n)
    same_value bytes = omega arith

pub long-less : (a b : ℕ) → a < b → b < 2 ^ 64 → slice_cmp nat_cmp (long a) (long b) ≡ Less
long-less a b less small =
    let va = long-value a (omega (arith, less, small)) in
    let vb = long-value b small in
    digits-less (long a) (long b) refl (long-digits a) (long-digits b) (omega (arith, va, vb, less))

word-digits : (n : ℕ) → AreDigits (word n)
word-digits n = (omega arith, (omega arith, (omega arith, (omega arith, tt))))

word-same : (n : ℕ) → value (word n) ≡ from_be_bytes w32 (word n)
word-same n = omega arith

pub word-less : (a b : ℕ) → a < b → b < 2 ^ 32 → slice_cmp nat_cmp (word a) (word b) ≡ Less
word-less a b less small =
    let va : value (word a) ≡ a = word-same a ∙ from_be_bytes-to_be_bytes_4 a (omega (arith, less, small)) in
    let vb : value (word b) ≡ b = word-same b ∙ from_be_bytes-to_be_bytes_4 b small in
    digits-less (word a) (word b) refl (word-digits a) (word-digits b) (omega (arith, va, vb, less))

pub word_below : (n : ℕ) → from_be_bytes w32 (word n) < 2 ^ 32
word_below n =
    let below : value (word n) < 2 ^ 32 = value-below (word n) (word-digits n) in
    subst (λ v. v < 2 ^ 32) (word-same n) below

-- ---- keys

-- no key is before another and also that one, or behind it
pub not_behind : (x y : RowKey) → row_cmp x y ≡ Less → (x ≡ y) ⊎ (row_cmp y x ≡ Less) → ⊥
not_behind x y less (inl same) = (let both = sym (tied_itself row_cmp_total y) ∙ subst (λ k. row_cmp k y ≡ Less) same less in absurd (cc))
not_behind x y less (inr back) = (let both = sym less ∙ row_cmp_total.antisymm x y ∙ ap ordering_reverse back in absurd (cc))

-- ---- the first row that passes is the least

module _ {K X : Type 0} (order : KeyOrder K) where
  above_at : (x k : K) (e : K × X) (es : List (K × X)) (y : X) (b : Bool) → eq_by_cmp order.cmp k e.0 ≡ b → order.cmp x e.0 ≡ Less
      → (find order.cmp k es ≡ Some y → order.cmp x k ≡ Less) → cond b (Some e.1) (find order.cmp k es) ≡ Some y → order.cmp x k ≡ Less
  above_at x k e es y true is less rest h = ap (order.cmp x) (order.same k e.0 (tie_is (order.cmp k e.0) is)) ∙ less
  above_at x k e es y false is less rest h = rest h

  -- what is found among entries above a key is above it
  found-above : (x k : K) (es : List (K × X)) (y : X) → T (below_all order.cmp x es) → find order.cmp k es ≡ Some y → order.cmp x k ≡ Less
  found-above x k [] y below h = absurd (cc)
  found-above x k (e ∷ es) y below h = above_at x k e es y (eq_by_cmp order.cmp k e.0) refl (less_is (order.cmp x e.0) (first_of_both _ _ below))
      (found-above x k es y (second_of_both _ _ below)) h

  module _ (test : K → X → Bool) where
    least_at : (e found : K × X) (es : List (K × X)) (k : K) (y : X) (b c : Bool) → test e.0 e.1 ≡ b → eq_by_cmp order.cmp k e.0 ≡ c
        → T (below_all order.cmp e.0 es)
        → (first_passing test es ≡ Some found → find order.cmp k es ≡ Some y → (k ≡ found.0) ⊎ (order.cmp found.0 k ≡ Less))
        → (elim b as (λ _. Option (K × X)) [ true ↦ Some e | false ↦ first_passing test es ]) ≡ Some found
        → cond c (Some e.1) (find order.cmp k es) ≡ Some y → test k y ≡ true → (k ≡ found.0) ⊎ (order.cmp found.0 k ≡ Less)
    least_at e found es k y true true t is below rest first h passes =
        let same : e ≡ found = cc in inl (order.same k e.0 (tie_is (order.cmp k e.0) is) ∙ ap (λ (p : K × X). p.0) same)
    least_at e found es k y true false t is below rest first h passes =
        let same : e ≡ found = cc in inr (ap (λ (p : K × X). order.cmp p.0 k) (sym same) ∙ found-above e.0 k es y below h)
    least_at e found es k y false true t is below rest first h passes =
        let value_is : e.1 ≡ y = cc in
        absurd (true≢false (sym passes ∙ (λ i. test (order.same k e.0 (tie_is (order.cmp k e.0) is) i) (sym value_is i)) ∙ t))
    least_at e found es k y false false t is below rest first h passes = rest first h

    least_in : (es : List (K × X)) (found : K × X) (k : K) (y : X) → T (is_sorted order.cmp es) → first_passing test es ≡ Some found
        → find order.cmp k es ≡ Some y
        → test k y ≡ true → (k ≡ found.0) ⊎ (order.cmp found.0 k ≡ Less)
    least_in [] found k y sorted first h passes = absurd (cc)
    least_in (e ∷ es) found k y sorted first h passes = least_at e found es k y (test e.0 e.1) (eq_by_cmp order.cmp k e.0) refl refl (first_of_both _ _ sorted)
        (λ f g. least_in es found k y (second_of_both _ _ sorted) f g passes) first h passes

    pub first_where-least : (m : Map order X) (found : K × X) (k : K) (y : X) → first_where test m ≡ Some found → get m k ≡ Some y → test k y ≡ true
        → (k ≡ found.0) ⊎ (order.cmp found.0 k ≡ Less)
    unfolding first_where get
    first_where-least m found k y first h passes = least_in m.list found k y m.sorted first h passes

-- ---- one row behind a key

-- whether a key is of a table, and behind another
abbrev pub passes : ℕ → RowKey → RowKey → List ℕ → Bool
passes tab last key bytes = is_after tab (Some last) key

abbrev pub first_behind : ℕ → RowKey → RowMap → Option (RowKey × List ℕ)
first_behind tab last known = first_where (passes tab last) known

abbrev as_list : {A : Type 0} → Option A → List A
as_list None = []
as_list (Some x) = x ∷ []

one_at : (tab : ℕ) (last : RowKey) (e : RowKey × List ℕ) (es : List (RowKey × List ℕ)) (b : Bool)
    → take 1 (filter (λ row. is_after tab (Some last) row.0) es) ≡ as_list (first_passing (passes tab last) es)
    → take 1 (cond b (e ∷ filter (λ row. is_after tab (Some last) row.0) es) (filter (λ row. is_after tab (Some last) row.0) es))
    ≡ as_list (elim b as (λ _. Option (RowKey × List ℕ)) [ true ↦ Some e | false ↦ first_passing (passes tab last) es ])
one_at tab last e es true rest = refl
one_at tab last e es false rest = rest

one_of : (tab : ℕ) (last : RowKey) (es : List (RowKey × List ℕ)) → take 1 (filter (λ row. is_after tab (Some last) row.0) es) ≡ as_list (first_passing (passes tab last) es)
one_of tab last [] = refl
one_of tab last (e ∷ es) = one_at tab last e es (is_after tab (Some last) e.0) (one_of tab last es)

one-behind : (tab : ℕ) (known : RowMap) (last : RowKey) → rows_after known tab (Some last) 1 ≡ as_list (first_behind tab last known)
unfolding first_where
one-behind tab known last = one_of tab last known.list

-- what was read of it
pub record IsRead (tab : ℕ) (last : RowKey) (known : RowMap) (list : List (RowKey × Row)) (e : RowKey × List ℕ) : Type 0 where
  pub row : Row
  pub first : first_behind tab last known ≡ Some e
  pub read : row_of e.0.tab e.1 ≡ Some row
  pub list_is : list ≡ (e.0, row) ∷ []

pub data ReadsOne (tab : ℕ) (last : RowKey) (known : RowMap) (list : List (RowKey × Row)) : Type 0 where
  NoRow : first_behind tab last known ≡ None → list ≡ [] → ReadsOne tab last known list
  OneRow : (e : RowKey × List ℕ) → IsRead tab last known list e → ReadsOne tab last known list

module _ (tab : ℕ) (last : RowKey) (known : RowMap) (list : List (RowKey × Row)) where
  by_row : (e : RowKey × List ℕ) → first_behind tab last known ≡ Some e → (o : Option Row) → row_of e.0.tab e.1 ≡ o → row_then e.0 e.1 o (Ok []) ≡ Ok list
      → ReadsOne tab last known list
  by_row e first None is h = absurd (cc)
  by_row e first (Some row) is h = OneRow e (record { row = row; first = first; read = is; list_is = cc })

  by_first : (o : Option (RowKey × List ℕ)) → first_behind tab last known ≡ o → rows_read (as_list o) ≡ Ok list → ReadsOne tab last known list
  by_first None first h = NoRow first (cc)
  by_first (Some e) first h = by_row e first (row_of e.0.tab e.1) refl h

  pub reads-one : (before now : Store) → ScansRows tab (Some last) 1 before now (Ok list) → before.rows ≡ Some known → ReadsOne tab last known list
  reads-one before now s is = by_first (first_behind tab last known) refl (ap rows_read (sym (one-behind tab known last))
      ∙ of_known (λ known. rows_read (rows_after known tab (Some last) 1) ≡ Ok list) before.rows known is s.found)

module _ (tab : ℕ) (last : RowKey) (known : RowMap) (off : RowKey × List ℕ) where
  off_row : (e : RowKey × List ℕ) (o : Option Row) → row_then e.0 e.1 o (Ok []) ≡ Err off → e ≡ off
  off_row e None h = same_Err (e.0, e.1) off h
  off_row e (Some row) h = absurd (cc)

  off_first : (o : Option (RowKey × List ℕ)) → first_behind tab last known ≡ o → rows_read (as_list o) ≡ Err off → first_behind tab last known ≡ Some off
  off_first None first h = absurd (cc)
  off_first (Some e) first h = first ∙ ap (λ (x : RowKey × List ℕ). Some x) (off_row e (row_of e.0.tab e.1) h)

  -- the row that was malformed is the first
  pub off-one : rows_read (rows_after known tab (Some last) 1) ≡ Err off → first_behind tab last known ≡ Some off
  off-one h = off_first (first_behind tab last known) refl (ap rows_read (sym (one-behind tab known last)) ∙ h)

-- what holds wherever a row was read holds of known rows, if the scan found one
pub of_read : (P : RowMap → Type 0) (tab : ℕ) (last : RowKey) (before now : Store) (list : List (RowKey × Row))
    → ScansRows tab (Some last) 1 before now (Ok list) → (list ≡ [] → ⊥)
    → ((known : RowMap) (e : RowKey × List ℕ) → IsRead tab last known list e → P known) → IfSome before.rows P
of_read P tab last before now list s some h = if_some-by P before.rows (λ known is. by_read known (reads-one tab last known list before now s is))
  where
    by_read : (known : RowMap) → ReadsOne tab last known list → P known
    by_read known (NoRow first none) = absurd (some none)
    by_read known (OneRow e r) = h known e r

-- such a key is of the table, and behind
pub tab_of : (tab : ℕ) (last key : RowKey) (bytes : List ℕ) → passes tab last key bytes ≡ true → (key.tab ≡ tab) × (row_cmp last key ≡ Less)
tab_of tab last key bytes h = by_test (key.tab == tab) refl (row_cmp last key) refl h
  where
    by_test : (b : Bool) → (key.tab == tab) ≡ b → (o : Ordering) → row_cmp last key ≡ o → (b && is_lt o) ≡ true → (key.tab ≡ tab) × (row_cmp last key ≡ Less)
    by_test true t Less l e = (eqb-true key.tab tab t, l)
    by_test true t Equal l e = absurd (cc)
    by_test true t Greater l e = absurd (cc)
    by_test false t o l e = absurd (cc)
