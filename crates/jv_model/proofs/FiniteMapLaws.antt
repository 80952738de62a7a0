-- What a finite map answers after a change.
use Rattle.std.proofs.Common.{◌≡◌, ℕ, ◌+◌, Bool, true, false, cond, not, T, List, [], ◌∷◌, Option, None, Some, refl, sym, ap, subst, ◌∙◌, arith}
use Rattle.std.specs.declared.cmp.Ordering.{Ordering}
use Rattle.std.specs.declared.cmp.Ordering.TheVariants.{Less, Equal, Greater}
use Rattle.std.specs.Ordering.{eq_by_cmp, is_eq}
use Rattle.std.specs.Cmp.{alike_right, eq_by_cmp_equiv}
use Rattle.std.specs.FinMap.Entries.{put, find, where_key, below_all, is_sorted, find-put, find-where_key, same_entries, by_order}
use Rattle.jv_model.specs.promise.FiniteMap.{KeyOrder, Map, empty_map, first_passing, first_where, get, insert, remove, retain_keys, map_of, sum_over, total_over}
use Rattle.jv_model.specs.FiniteMap.{alter, maps_of_entries}
use Rattle.jv_model.proofs.TestLaws.{first_of_both, second_of_both, less_is, tie_is}

-- what an entry adds to a sum
abbrev pub share : {K X : Type 0} → (K → X → ℕ) → K → Option X → ℕ
share f k None = 0
share f k (Some x) = f k x

-- a choice by the turned test
turned : {A : Type 0} (b : Bool) (x y : A) → cond (not b) x y ≡ cond b y x
turned true x y = refl
turned false x y = refl

module _ {K X : Type 0} {order : KeyOrder K} where
  pub get-insert : (m : Map order X) (k : K) (v : X) (q : K) → get (insert m k v) q ≡ cond (eq_by_cmp order.cmp q k) (Some v) (get m q)
  unfolding get insert
  get-insert m k v q = find-put order.cmp order.total q k v m.list

  pub get-remove : (m : Map order X) (k q : K) → get (remove m k) q ≡ cond (eq_by_cmp order.cmp q k) None (get m q)
  unfolding get remove
  get-remove m k q =
      find-where_key order.cmp (λ x. not (eq_by_cmp order.cmp k x)) q (λ x t. ap (λ r. not (is_eq r)) (sym (alike_right order.total q x k t))) m.list
      ∙ turned (eq_by_cmp order.cmp k q) _ _ ∙ ap (λ b. cond b None (get m q)) ((eq_by_cmp_equiv order.total).symm k q)

  pub get-retain_keys : (m : Map order X) (test : K → Bool) (q : K) → get (retain_keys test m) q ≡ cond (test q) (get m q) None
  unfolding get retain_keys
  get-retain_keys m test q = find-where_key order.cmp test q (λ x t. ap test (sym (order.same q x t))) m.list

  pub get-alter : (m : Map order X) (k : K) (v : Option X) (q : K) → get (alter m k v) q ≡ cond (eq_by_cmp order.cmp q k) v (get m q)
  get-alter m k None q = get-remove m k q
  get-alter m k (Some v) q = get-insert m k v q

  pub same_map : (m n : Map order X) → ((q : K) → get m q ≡ get n q) → m.list ≡ n.list
  unfolding get
  same_map m n h = same_entries order.cmp order.total order.same m.list n.list m.sorted n.sorted h

  -- maps that answer alike are the same
  pub same_maps : (m n : Map order X) → ((q : K) → get m q ≡ get n q) → m ≡ n
  same_maps m n h = maps_of_entries m n (same_map m n h)

module _ {K X : Type 0} (order : KeyOrder K) where
  pub get-empty_map : (q : K) → get (empty_map {X = X} {order = order}) q ≡ None
  unfolding get
  get-empty_map q = refl

  pub get-map_of : (es : List (K × X)) (q : K) → get (map_of {order = order} es) q ≡ find order.cmp q es
  get-map_of [] q = get-empty_map q
  get-map_of (e ∷ es) q = get-insert (map_of es) e.0 e.1 q ∙ ap (cond (eq_by_cmp order.cmp q e.0) (Some e.1)) (get-map_of es q)

-- entries that all stand above a key
pub find-below_all : {K X : Type 0} (order : KeyOrder K) (k : K) (es : List (K × X)) → T (below_all order.cmp k es) → find order.cmp k es ≡ None
find-below_all order k [] h = refl
find-below_all order k (e ∷ es) h =
    ap (λ o. cond (is_eq o) (Some e.1) (find order.cmp k es)) (less_is _ (first_of_both _ _ h)) ∙ find-below_all order k es (second_of_both _ _ h)

pub put_first : {K X : Type 0} (order : KeyOrder K) (k : K) (x : X) (es : List (K × X)) → T (below_all order.cmp k es) → put order.cmp k x es ≡ (k, x) ∷ es
put_first order k x [] below = refl
put_first order k x (e ∷ es) below =
    ap (λ o. by_order o ((k, x) ∷ e ∷ es) ((e.0, x) ∷ es) (e ∷ put order.cmp k x es)) (less_is (order.cmp k e.0) (first_of_both _ _ below))

pub found_here : {K X : Type 0} (order : KeyOrder K) (e : K × X) (es : List (K × X)) → find order.cmp e.0 (e ∷ es) ≡ Some e.1
found_here order e es = ap (λ b. cond b (Some e.1) (find order.cmp e.0 es)) ((eq_by_cmp_equiv order.total).refl e.0)

module _ {K X : Type 0} (order : KeyOrder K) (f : K → X → ℕ) where
  find-below : (k x : K) (es : List (K × X)) → order.cmp k x ≡ Less → T (below_all order.cmp x es) → find order.cmp k es ≡ None
  find-below k x [] p h = refl
  find-below k x (e ∷ es) p h =
      let later : order.cmp k e.0 ≡ Less = order.total.trans k x e.0 p (less_is _ (first_of_both _ _ h)) in
      ap (λ o. cond (is_eq o) (Some e.1) (find order.cmp k es)) later ∙ find-below k x es p (second_of_both _ _ h)

  total-put_at : (k : K) (v : X) (e : K × X) (es : List (K × X)) (o : Ordering) → order.cmp k e.0 ≡ o → T (below_all order.cmp e.0 es)
      → total_over f (put order.cmp k v es) + share f k (find order.cmp k es) ≡ total_over f es + f k v
      → total_over f (by_order o ((k, v) ∷ e ∷ es) ((e.0, v) ∷ es) (e ∷ put order.cmp k v es)) + share f k (cond (is_eq o) (Some e.1) (find order.cmp k es)) ≡ (f e.0 e.1 + total_over f es) + f k v
  total-put_at k v e es Less p below rest =
      let absent : share f k (find order.cmp k es) ≡ 0 = ap (share f k) (find-below k e.0 es p below) in
      omega (arith, absent)
  total-put_at k v e es Equal p below rest =
      let one : f k v ≡ f e.0 v = ap (λ q. f q v) (order.same k e.0 p) in
      let other : f k e.1 ≡ f e.0 e.1 = ap (λ q. f q e.1) (order.same k e.0 p) in
      omega (arith, one, other)
  total-put_at k v e es Greater p below rest = omega (arith, rest)

  total-put : (k : K) (v : X) (es : List (K × X)) → T (is_sorted order.cmp es) → total_over f (put order.cmp k v es) + share f k (find order.cmp k es) ≡ total_over f es + f k v
  total-put k v [] h = omega arith
  total-put k v (e ∷ es) h =
      total-put_at k v e es (order.cmp k e.0) refl (first_of_both _ _ h) (total-put k v es (second_of_both _ _ h))

  pub sum-insert : (m : Map order X) (k : K) (v : X) → sum_over f (insert m k v) + share f k (get m k) ≡ sum_over f m + f k v
  unfolding sum_over insert get
  sum-insert m k v = total-put k v m.list m.sorted

  -- the entries without a key
  abbrev without : K → List (K × X) → List (K × X)
  without k es = where_key order.cmp (λ q. not (eq_by_cmp order.cmp k q)) es

  total-without_at : (k : K) (e : K × X) (es : List (K × X)) (b : Bool) → eq_by_cmp order.cmp k e.0 ≡ b → T (below_all order.cmp e.0 es)
      → total_over f (without k es) + share f k (find order.cmp k es) ≡ total_over f es
      → total_over f (cond (not b) (e ∷ without k es) (without k es)) + share f k (cond b (Some e.1) (find order.cmp k es)) ≡ f e.0 e.1 + total_over f es
  total-without_at k e es true p below rest =
      let same : k ≡ e.0 = order.same k e.0 (tie_is _ p) in
      let absent : share f k (find order.cmp k es) ≡ 0 = ap (share f k) (find-below_all order k es (subst (λ q. T (below_all order.cmp q es)) (sym same) below)) in
      let one : f k e.1 ≡ f e.0 e.1 = ap (λ q. f q e.1) same in
      omega (arith, absent, one, rest)
  total-without_at k e es false p below rest = omega (arith, rest)

  total-without : (k : K) (es : List (K × X)) → T (is_sorted order.cmp es) → total_over f (without k es) + share f k (find order.cmp k es) ≡ total_over f es
  total-without k [] h = refl
  total-without k (e ∷ es) h =
      total-without_at k e es (eq_by_cmp order.cmp k e.0) refl (first_of_both _ _ h) (total-without k es (second_of_both _ _ h))

  pub sum-remove : (m : Map order X) (k : K) → sum_over f (remove m k) + share f k (get m k) ≡ sum_over f m
  unfolding sum_over remove get
  sum-remove m k = total-without k m.list m.sorted

-- the first entry that passes a test

pub record IsFound {K X : Type 0} {order : KeyOrder K} (test : K → X → Bool) (m : Map order X) (key : K) (value : X) : Type 0 where
  pub there : get m key ≡ Some value
  pub passes : test key value ≡ true

record FoundIn {K X : Type 0} (order : KeyOrder K) (test : K → X → Bool) (es : List (K × X)) (key : K) (value : X) : Type 0 where
  there : find order.cmp key es ≡ Some value
  passes : test key value ≡ true

module _ {K X : Type 0} (order : KeyOrder K) (test : K → X → Bool) where
  found_later : (e : K × X) (es : List (K × X)) (k : K) (x : X) (o : Ordering) → order.cmp k e.0 ≡ o → find order.cmp k es ≡ Some x → T (below_all order.cmp e.0 es) → cond (is_eq o) (Some e.1) (find order.cmp k es) ≡ Some x
  found_later e es k x Less p h below = h
  found_later e es k x Greater p h below = h
  found_later e es k x Equal p h below = let none : find order.cmp k es ≡ None = ap (λ q. find order.cmp q es) (order.same k e.0 p) ∙ find-below_all order e.0 es below in absurd (cc)

  found_branch : (e : K × X) (es : List (K × X)) (found : K × X) (b : Bool) → test e.0 e.1 ≡ b → T (below_all order.cmp e.0 es) → (first_passing test es ≡ Some found → FoundIn order test es found.0 found.1)
      → (elim b as (λ _. Option (K × X)) [ true ↦ Some e | false ↦ first_passing test es ]) ≡ Some found → FoundIn order test (e ∷ es) found.0 found.1
  found_branch e es found true t below rest h = let same : e ≡ found = cc in subst (λ (p : K × X). FoundIn order test (e ∷ es) p.0 p.1) same (record { there = found_here order e es; passes = t })
  found_branch e es found false t below rest h = let r = rest h in record { there = found_later e es found.0 found.1 (order.cmp found.0 e.0) refl r.there below; passes = r.passes }

  found_in : (es : List (K × X)) (found : K × X) → T (is_sorted order.cmp es) → first_passing test es ≡ Some found → FoundIn order test es found.0 found.1
  found_in [] found sorted h = absurd (cc)
  found_in (e ∷ es) found sorted h = found_branch e es found (test e.0 e.1) refl (first_of_both _ _ sorted) (found_in es found (second_of_both _ _ sorted)) h

  pub first_where-found : (m : Map order X) (found : K × X) → first_where test m ≡ Some found → IsFound test m found.0 found.1
  unfolding first_where get
  first_where-found m found h = let r = found_in m.list found m.sorted h in record { there = r.there; passes = r.passes }
