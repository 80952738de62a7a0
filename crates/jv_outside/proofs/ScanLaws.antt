-- A scan of the tree finds the rows of the table after the key.
use Rattle.std.proofs.Common.{◌≡◌, ◌≢◌, ℕ, suc, ◌-◌, ◌<◌, ◌≤◌, Bool, true, false, cond, if◌then◌else◌, ◌&&◌, ◌==◌, T, List, [], ◌∷◌, ◌++◌, length, length-append, filter, take, take_while, Option, None, Some, Result, IfOk, refl, sym, ap, subst, ◌∙◌, append_assoc, eqb-true, ne_eqb, arith}
use Rattle.std.proofs.lemmas.Bool.{eqb-false}
use Rattle.std.proofs.lemmas.List.Sums.{take_while-cons}
use Rattle.std.specs.declared.cmp.Ordering.{Ordering}
use Rattle.std.specs.declared.cmp.Ordering.TheVariants.{Less, Equal, Greater}
use Rattle.std.specs.declared.ops.Bound.TheVariants.{Included, Excluded, Unbounded}
use Rattle.std.specs.Ordering.{is_lt, is_le, nat_cmp, ordering_then, ordering_reverse}
use Rattle.std.specs.Cmp.{IsTotalOrder, alike_right, ranked, nat_cmp_is}
use Rattle.std.specs.List.{AllByRecursion}
use Rattle.std.specs.List.Sorted.{IsStrictlySortedBy}
use Rattle.std.specs.Map.{keys_of}
use Rattle.std.specs.Cmp.Lexicographic.{slice_cmp}
use Rattle.std.specs.BTreeMap.Range.{entries_between, range_contains}
use Rattle.std.specs.FinMap.Entries.{below_all, is_sorted}
use Rattle.jv_model.specs.declared.row.RowKey.{RowKey}
use Rattle.jv_model.specs.promise.FiniteMap.{KeyOrder, Map, get, map_of}
use Rattle.jv_model.specs.promise.rows.RowKeys.{row_cmp, row_cmp_total}
use Rattle.jv_model.proofs.FiniteMapLaws.{get-map_of, same_map}
use Rattle.jv_model.proofs.TestLaws.{lt_is, and_true}
use Rattle.jv_outside.specs.Rows.{is_after}
use Rattle.jv_outside.specs.Stored.{scan_start}

-- ---- what a loop has found, and the first of the rest up to `n` in all

module _ {A : Type 0} (n : ℕ) where
  abbrev pub glimpse : List A → List A → List A
  glimpse found rest = found ++ take (n - length found) rest

  glimpse-more : (found : List A) (x : A) (rest : List A) → length found < n → glimpse (found ++ x ∷ []) rest ≡ glimpse found (x ∷ rest)
  glimpse-more found x rest few =
      let left : n - length found ≡ suc (n - length (found ++ x ∷ [])) = omega (arith, length-append found (x ∷ [])) in
      append_assoc found (x ∷ []) _ ∙ ap (λ l. found ++ l) (sym (ap (λ m. take m (x ∷ rest)) left))

  -- the next of the rest is found
  pub glimpse-next : (found found' rest rest' all : List A) (x y : A) → rest ≡ x ∷ rest' → found' ≡ found ++ y ∷ [] → y ≡ x
      → length found < n → glimpse found rest ≡ all → glimpse found' rest' ≡ all
  glimpse-next found found' rest rest' all x y step added copy few before =
      (λ i. glimpse (added i) rest') ∙ (λ i. glimpse (found ++ copy i ∷ []) rest') ∙ glimpse-more found x rest' few ∙ ap (glimpse found) (sym step) ∙ before

module _ {A : Type 0} (p : A → Bool) where
  -- the next one passes
  pub take_while-passes : (x : A) (xs : List A) → p x ≡ true → take_while p (x ∷ xs) ≡ x ∷ take_while p xs
  take_while-passes x xs is = take_while-cons p x xs ∙ ap (λ b. cond b (x ∷ take_while p xs) []) is

  -- the next one doesn't pass
  pub take_while-ends : (x : A) (xs : List A) → p x ≡ false → take_while p (x ∷ xs) ≡ []
  take_while-ends x xs is = take_while-cons p x xs ∙ ap (λ b. cond b (x ∷ take_while p xs) []) is

module _ {A : Type 0} (p : A → Bool) (n : ℕ) where
  -- the next of the rest is found, of which those up to one that doesn't pass are looked at
  pub glimpse-next_while : (found found' rest rest' all : List A) (x y : A) → rest ≡ x ∷ rest' → found' ≡ found ++ y ∷ [] → y ≡ x
      → length found < n → p x ≡ true → glimpse n found (take_while p rest) ≡ all → glimpse n found' (take_while p rest') ≡ all
  glimpse-next_while found found' rest rest' all x y step added copy few is before =
      glimpse-next n found found' (take_while p rest) (take_while p rest') all x y (ap (take_while p) step ∙ take_while-passes p x rest' is) added copy few before

-- ---- a tree in order as a finite map

both : (a b : Bool) → T a → T b → T (a && b)
both true b p q = q
both false b p q = p

module _ {K X : Type 0} (order : KeyOrder K) where
  below : (k : K) (es : List (K × X)) → AllByRecursion (λ q. order.cmp k q ≡ Less) (keys_of es) → T (below_all order.cmp k es)
  below k [] h = tt
  below k (e ∷ es) h = both _ _ (subst (λ r. T (is_lt r)) (sym h.0) tt) (below k es h.1)

  in_order : (es : List (K × X)) → IsStrictlySortedBy order.cmp (keys_of es) → T (is_sorted order.cmp es)
  unfolding IsStrictlySortedBy
  in_order [] h = tt
  in_order (e ∷ es) h = both _ _ (below e.0 es h.0) (in_order es h.1)

  pub list-map_of : (es : List (K × X)) → IsStrictlySortedBy order.cmp (keys_of es) → (map_of {order = order} es).list ≡ es
  unfolding get
  list-map_of es h =
      let m : Map order X = record { list = es; sorted = in_order es h } in
      same_map (map_of es) m (λ q. get-map_of order es q)

-- ---- the rows from a start on, up to another table

-- no later key passes
none_passes : {K X : Type 0} (g : K → Bool) (R : K → K → Ordering) (k : K) (es : List (K × X))
    → ((y : K) → R k y ≡ Less → g y ≡ false) → AllByRecursion (λ q. R k q ≡ Less) (keys_of es) → filter (λ e. g e.0) es ≡ []
none_passes g R k [] later h = refl
none_passes g R k (e ∷ es) later h = ap (λ b. cond b (e ∷ filter (λ x. g x.0) es) (filter (λ x. g x.0) es)) (later e.0 h.0) ∙ none_passes g R k es later h.1

-- where the keys rise, those from a start on up to one that doesn't pass are those that pass, if all that pass lie there together
module _ {K X : Type 0} (R : K → K → Ordering) (f p g : K → Bool) (same : (q : K) → g q ≡ (p q && f q))
    (later : (q y : K) → f q ≡ true → p q ≡ false → R q y ≡ Less → p y ≡ false) where
  abbrev from_start : List (K × X) → List (K × X)
  from_start es = filter (λ e. f e.0) es

  abbrev passing : List (K × X) → List (K × X)
  passing es = filter (λ e. g e.0) es

  front_at : (e : K × X) (es : List (K × X)) (b c : Bool) → f e.0 ≡ b → p e.0 ≡ c → AllByRecursion (λ q. R e.0 q ≡ Less) (keys_of es)
      → take_while (λ e. p e.0) (from_start es) ≡ passing es
      → take_while (λ e. p e.0) (cond b (e ∷ from_start es) (from_start es)) ≡ cond (c && b) (e ∷ passing es) (passing es)
  front_at e es false true is passes above rest = rest
  front_at e es false false is passes above rest = rest
  front_at e es true true is passes above rest =
      take_while-cons (λ x. p x.0) e _ ∙ ap (λ b. cond b (e ∷ take_while (λ x. p x.0) (from_start es)) []) passes ∙ ap (λ l. e ∷ l) rest
  front_at e es true false is passes above rest =
      take_while-cons (λ x. p x.0) e _ ∙ ap (λ b. cond b (e ∷ take_while (λ x. p x.0) (from_start es)) []) passes
      ∙ sym (none_passes g R e.0 es (λ y less. same y ∙ ap (λ b. b && f y) (later e.0 y is passes less)) above)

  pub front : (es : List (K × X)) → IsStrictlySortedBy R (keys_of es) → take_while (λ e. p e.0) (from_start es) ≡ passing es
  unfolding IsStrictlySortedBy
  front [] h = refl
  front (e ∷ es) h =
      front_at e es (f e.0) (p e.0) refl refl h.0 (front es h.1) ∙ ap (λ b. cond b (e ∷ passing es) (passing es)) (sym (same e.0))

-- a key is of no earlier table than one that isn't after it
pub table_rises : (x y : ℕ) (o rest : Ordering) → o ≡ nat_cmp x y → is_le (ordering_then o rest) ≡ true → x ≤ y
table_rises x y Less rest e h =
    let l : x < y = ranked x y Less e in
    omega arith
table_rises x y Equal rest e h =
    let l : x ≡ y = ranked x y Equal e in
    omega arith
table_rises x y Greater rest e h = cc

-- the least key of a table
abbrev first_of : ℕ → RowKey
first_of tab = record { tab = tab; a = 0; b = [] }

-- no bytes are before other bytes, and no number below 0
pub least_bytes : (bytes : List ℕ) → is_le (slice_cmp nat_cmp [] bytes) ≡ true
least_bytes [] = refl
least_bytes (b ∷ bytes) = refl

least_rest : (a : ℕ) (o : Ordering) (bytes : List ℕ) → o ≡ nat_cmp 0 a → is_le (ordering_then o (slice_cmp nat_cmp [] bytes)) ≡ true
least_rest a Less bytes e = refl
least_rest a Equal bytes e = least_bytes bytes
least_rest a Greater bytes e =
    let l : a < 0 = ranked 0 a Greater e in
    absurd (omega arith)

-- the least key of a table is not after a key of the table
first-le : (tab : ℕ) (q : RowKey) → (q.tab == tab) ≡ true → is_le (row_cmp (first_of tab) q) ≡ true
first-le tab q is =
    let tie : Equal ≡ nat_cmp tab q.tab = nat_cmp_is tab q.tab Equal (sym (eqb-true q.tab tab is)) in
    ap (λ o. is_le (ordering_then o (ordering_then (nat_cmp 0 q.a) (slice_cmp nat_cmp [] q.b)))) (sym tie) ∙ least_rest q.a _ q.b refl

-- after a row that isn't before the least key of the table, and isn't of the table, there is none of it
table_ends : (tab : ℕ) (q y : RowKey) → is_le (row_cmp (first_of tab) q) ≡ true → (q.tab == tab) ≡ false → row_cmp q y ≡ Less → (y.tab == tab) ≡ false
table_ends tab q y from other less =
    let at_least : tab ≤ q.tab = table_rises tab q.tab (nat_cmp tab q.tab) _ refl from in
    let apart : q.tab ≢ tab = eqb-false q.tab tab other in
    let rises : q.tab ≤ y.tab = table_rises q.tab y.tab (nat_cmp q.tab y.tab) _ refl (ap is_le less) in
    let later : y.tab ≢ tab = omega arith in
    ne_eqb y.tab tab later

-- a test that follows from another adds nothing to it
and_implied : (b c : Bool) → (b ≡ true → c ≡ true) → b ≡ (b && (c && true))
and_implied true c h = sym (ap (λ x. x && true) (h refl))
and_implied false c h = refl

and_both : (a b c : Bool) → (a ≡ true → b ≡ true) → (a ≡ true → c ≡ true) → (a && b) ≡ (a && (c && true))
and_both true b c h k = h refl ∙ sym (ap (λ x. x && true) (k refl))
and_both false b c h k = refl

not_le_is : (o : Ordering) → is_le o ≡ false → o ≡ Greater
not_le_is Less h = cc
not_le_is Equal h = cc
not_le_is Greater h = refl

module _ {K : Type 0} {R : K → K → Ordering} (order : IsTotalOrder R) where
  lt_le_by : (x y z : K) (o : Ordering) → R y z ≡ o → R x y ≡ Less → is_le o ≡ true → R x z ≡ Less
  lt_le_by x y z Less e less le = order.trans x y z less e
  lt_le_by x y z Equal e less le = sym (alike_right order y z x e) ∙ less
  lt_le_by x y z Greater e less le = cc

  le_lt_by : (x y z : K) (o : Ordering) → R x y ≡ o → is_le o ≡ true → R y z ≡ Less → R x z ≡ Less
  le_lt_by x y z Less e le less = order.trans x y z e less
  le_lt_by x y z Equal e le less = order.congr x y z e ∙ less
  le_lt_by x y z Greater e le less = cc

module _ {X : Type 0} (tab : ℕ) where
  rows-from_first : (g : RowKey → Bool) → ((q : RowKey) → g q ≡ ((q.tab == tab) && range_contains row_cmp (Included (first_of tab)) Unbounded q))
      → (es : List (RowKey × X)) → IsStrictlySortedBy row_cmp (keys_of es)
      → take_while (λ row. row.0.tab == tab) (entries_between row_cmp (Included (first_of tab)) Unbounded es) ≡ filter (λ row. g row.0) es
  rows-from_first g same es h =
      front row_cmp (range_contains row_cmp (Included (first_of tab)) Unbounded) (λ q. q.tab == tab) g same
      (λ q y from other less. table_ends tab q y (sym (and_true _) ∙ from) other less) es h

  rows-from_at : (last : RowKey) (es : List (RowKey × X)) → IsStrictlySortedBy row_cmp (keys_of es) → (b : Bool) → is_le (row_cmp (first_of tab) last) ≡ b
      → take_while (λ row. row.0.tab == tab) (entries_between row_cmp (if b then Excluded last else Included (first_of tab)) Unbounded es)
      ≡ filter (λ row. is_after tab (Some last) row.0) es
  rows-from_at last es h true not_before =
      front row_cmp (range_contains row_cmp (Excluded last) Unbounded) (λ q. q.tab == tab) (is_after tab (Some last))
      (λ q. ap (λ b. (q.tab == tab) && b) (sym (and_true _)))
      (λ q y from other less.
      let after : row_cmp last q ≡ Less = lt_is _ (sym (and_true _) ∙ from) in
      table_ends tab q y (ap is_le (le_lt_by row_cmp_total (first_of tab) last q _ refl not_before after)) other less)
      es h
  rows-from_at last es h false before =
      rows-from_first (is_after tab (Some last))
      (λ q. and_both _ _ _
      (λ of_table. ap is_lt (lt_le_by row_cmp_total last (first_of tab) q _ refl
      (row_cmp_total.antisymm last (first_of tab) ∙ ap ordering_reverse (not_le_is _ before)) (first-le tab q of_table)))
      (first-le tab q))
      es h

  pub rows-from : (last : Option RowKey) (es : List (RowKey × X)) → IsStrictlySortedBy row_cmp (keys_of es)
      → take_while (λ row. row.0.tab == tab) (entries_between row_cmp (scan_start (first_of tab) last) Unbounded es) ≡ filter (λ row. is_after tab last row.0) es
  rows-from None es h = rows-from_first (is_after tab None) (λ q. and_implied _ _ (first-le tab q)) es h
  rows-from (Some last) es h = rows-from_at last es h (is_le (row_cmp (first_of tab) last)) refl

-- what a value is said to be, along an equation
pub if_ok_along : {A E : Type 0} (r : Result A E) (a b : A) → a ≡ b → IfOk r (λ x. x ≡ a) → IfOk r (λ x. x ≡ b)
if_ok_along {A} r a b e h =
    let P : A → Type 0 = λ y. IfOk r (λ x. x ≡ y) in
    subst P e h
