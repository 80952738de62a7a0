-- Finite maps: entries by key, and what a map of changed values answers.
use Rattle.std.proofs.Common.{◌≡◌, ◌≢◌, ℕ, ◌+◌, Bool, true, false, cond, T, ◌&&◌, List, [], ◌∷◌, map, Option, None, Some, option_map, refl, sym, ap, subst, ◌∙◌, arith}
use Rattle.std.specs.Ordering.{eq_by_cmp, is_lt}
use Rattle.std.specs.FinMap.Entries.{find, below_all, is_sorted, where_key}
use Rattle.jv_model.specs.promise.FiniteMap.{KeyOrder, Map, get, insert, remove, sum_over, total_over, retain_keys}
use Rattle.jv_model.specs.FiniteMap.{alter}
use Rattle.jv_model.proofs.FiniteMapLaws.{share, get-alter, same_maps, sum-insert, sum-remove}
use Rattle.jv_volume.proofs.shapes.ShapeMapLaws.{tied_here, tied_same}
pub use Rattle.jv_volume.proofs.shapes.ShapeMapLaws.{get-alter-here, get-alter-apart}

-- keys that are the same tie
pub key_ties : {K : Type 0} (order : KeyOrder K) (x y : K) → x ≡ y → eq_by_cmp order.cmp x y ≡ true
key_ties order x y e = subst (λ z. eq_by_cmp order.cmp x z ≡ true) e (tied_here order x)

module _ {K X Y : Type 0} (order : KeyOrder K) (f : K → X → Y) where
  find-map_at : (q : K) (e : K × X) (es : List (K × X)) (b : Bool) → eq_by_cmp order.cmp q e.0 ≡ b
      → cond b (Some (f e.0 e.1)) (option_map (f q) (find order.cmp q es)) ≡ option_map (f q) (cond b (Some e.1) (find order.cmp q es))
  find-map_at q e es true p = ap (λ k. Some (f k e.1)) (sym (tied_same order e.0 q p))
  find-map_at q e es false p = refl

  -- the value at a key among entries whose values were changed
  pub find-map : (q : K) (es : List (K × X)) → find order.cmp q (map (λ e. (e.0, f e.0 e.1)) es) ≡ option_map (f q) (find order.cmp q es)
  find-map q [] = refl
  find-map q (e ∷ es) = ap (cond (eq_by_cmp order.cmp q e.0) (Some (f e.0 e.1))) (find-map q es) ∙ find-map_at q e es (eq_by_cmp order.cmp q e.0) refl

-- ---- sums of maps that have the same keys

module _ {K X Y : Type 0} (order : KeyOrder K) (f : K → X → Y) where
  abbrev changed_entries : List (K × X) → List (K × Y)
  changed_entries es = map (λ e. (e.0, f e.0 e.1)) es

  below_all-changed : (x : K) (es : List (K × X)) → below_all order.cmp x (changed_entries es) ≡ below_all order.cmp x es
  below_all-changed x [] = refl
  below_all-changed x (e ∷ es) = ap (λ b. is_lt (order.cmp x e.0) && b) (below_all-changed x es)

  pub is_sorted-changed : (es : List (K × X)) → is_sorted order.cmp (changed_entries es) ≡ is_sorted order.cmp es
  is_sorted-changed [] = refl
  is_sorted-changed (e ∷ es) = λ i. below_all-changed e.0 es i && is_sorted-changed es i

  -- the map of the same keys with changed values
  unfoldable pub changed_values : Map order X → Map order Y
  changed_values m = record { list = changed_entries m.list; sorted = subst T (sym (is_sorted-changed m.list)) m.sorted }

  pub get-changed_values : (m : Map order X) (k : K) → get (changed_values m) k ≡ option_map (f k) (get m k)
  unfolding get changed_values
  get-changed_values m k = find-map order f k m.list

module _ {K X : Type 0} (order : KeyOrder K) (f : K → X → ℕ) where
  total-changed : (es : List (K × X)) → total_over (λ k n. n) (changed_entries order f es) ≡ total_over f es
  total-changed [] = refl
  total-changed (e ∷ es) = ap (λ n. f e.0 e.1 + n) (total-changed es)

  sum-changed_values : (m : Map order X) → sum_over (λ k n. n) (changed_values order f m) ≡ sum_over f m
  unfolding sum_over changed_values
  sum-changed_values m = total-changed m.list

-- maps that have the same keys, with as much at each, have the same sum
pub sum-alike : {K X Y : Type 0} (order : KeyOrder K) (f : K → X → ℕ) (g : K → Y → ℕ) (m : Map order X) (n : Map order Y)
    → ((k : K) → option_map (f k) (get m k) ≡ option_map (g k) (get n k)) → sum_over f m ≡ sum_over g n
sum-alike order f g m n same =
    sym (sum-changed_values order f m)
    ∙ ap (sum_over (λ k n. n)) (same_maps (changed_values order f m) (changed_values order g n) (λ k. get-changed_values order f m k ∙ same k
    ∙ sym (get-changed_values order g n k)))
    ∙ sum-changed_values order g n

zeros : {K X : Type 0} (es : List (K × X)) → total_over (λ k x. 0) es ≡ 0
zeros [] = refl
zeros (e ∷ es) = omega (arith, zeros es)

sum-zeros : {K X : Type 0} (order : KeyOrder K) (m : Map order X) → sum_over (λ k x. 0) m ≡ 0
unfolding sum_over
sum-zeros order m = zeros m.list

entry_alike : {K X : Type 0} (f g : K → X → ℕ) (k : K) (o : Option X) → ((x : X) → o ≡ Some x → f k x ≡ g k x) → option_map (f k) o ≡ option_map (g k) o
entry_alike f g k None same = refl
entry_alike f g k (Some x) same = ap (λ n. Some n) (same x refl)

-- two functions that agree on the entries of a map have the same sum
pub sum-agree : {K X : Type 0} (order : KeyOrder K) (f g : K → X → ℕ) (m : Map order X) → ((k : K) (x : X) → get m k ≡ Some x → f k x ≡ g k x)
    → sum_over f m ≡ sum_over g m
sum-agree order f g m same = sum-alike order f g m m (λ k. entry_alike f g k (get m k) (same k))

-- a sum of nothing but zeros
pub sum-nothing : {K X : Type 0} (order : KeyOrder K) (f : K → X → ℕ) (m : Map order X) → ((k : K) (x : X) → get m k ≡ Some x → f k x ≡ 0) → sum_over f m ≡ 0
sum-nothing order f m none = sum-agree order f (λ k x. 0) m none ∙ sum-zeros order m

module _ {K X : Type 0} (order : KeyOrder K) (f : K → X → ℕ) (m : Map order X) (k : K) where
  -- a sum with an entry at a free key
  pub sum-new : (x : X) → get m k ≡ None → sum_over f (insert m k x) ≡ sum_over f m + f k x
  sum-new x free =
      let all = ap (λ o. sum_over f (insert m k x) + share f k o) (sym free) ∙ sum-insert order f m k x in
      omega (arith, all)

  -- with another value at a key
  pub sum-over : (old x : X) → get m k ≡ Some old → sum_over f (insert m k x) + f k old ≡ sum_over f m + f k x
  sum-over old x there = ap (λ o. sum_over f (insert m k x) + share f k o) (sym there) ∙ sum-insert order f m k x

  -- without an entry
  pub sum-gone : (old : X) → get m k ≡ Some old → sum_over f (remove m k) + f k old ≡ sum_over f m
  sum-gone old there = ap (λ o. sum_over f (remove m k) + share f k o) (sym there) ∙ sum-remove order f m k

-- ---- changes after one another: an insert is a change to some value, a removal one to none

module _ {K X : Type 0} (order : KeyOrder K) (m : Map order X) where
  -- the later of two changes at one key stands
  pub alter-again : (k : K) (v w : Option X) → alter (alter m k v) k w ≡ alter m k w
  alter-again k v w =
      same_maps (alter (alter m k v) k w) (alter m k w) (λ q.
      get-alter (alter m k v) k w q ∙ ap (cond (eq_by_cmp order.cmp q k) w) (get-alter m k v q)
      ∙ later (eq_by_cmp order.cmp q k) w v (get m q) ∙ sym (get-alter m k w q))
    where
      later : (b : Bool) (x y z : Option X) → cond b x (cond b y z) ≡ cond b x z
      later true x y z = refl
      later false x y z = refl

  -- changes at two keys in either order
  pub alter-swap : (k j : K) (v w : Option X) → j ≢ k → alter (alter m k v) j w ≡ alter (alter m j w) k v
  alter-swap k j v w apart =
      same_maps (alter (alter m k v) j w) (alter (alter m j w) k v) (λ q.
      get-alter (alter m k v) j w q ∙ ap (cond (eq_by_cmp order.cmp q j) w) (get-alter m k v q)
      ∙ either (eq_by_cmp order.cmp q j) (eq_by_cmp order.cmp q k) w v (get m q) (λ e f. apart (sym (tied_same order j q e) ∙ tied_same order k q f))
      ∙ sym (get-alter (alter m j w) k v q ∙ ap (cond (eq_by_cmp order.cmp q k) v) (get-alter m j w q)))
    where
      either : (b c : Bool) (x y z : Option X) → (b ≡ true → c ≡ true → ⊥) → cond b x (cond c y z) ≡ cond c y (cond b x z)
      either true true x y z both = absurd (both refl refl)
      either true false x y z both = refl
      either false c x y z both = refl

  -- what stands there already changes nothing
  pub alter-same : (k : K) (v : Option X) → get m k ≡ v → alter m k v ≡ m
  alter-same k v there =
      same_maps (alter m k v) m (λ q. get-alter m k v q ∙ by_tie q (eq_by_cmp order.cmp q k) refl)
    where
      by_tie : (q : K) (b : Bool) → eq_by_cmp order.cmp q k ≡ b → cond b v (get m q) ≡ get m q
      by_tie q true e = sym (ap (get m) (tied_same order k q e) ∙ there)
      by_tie q false e = refl

  pub insert-again : (k : K) (v w : X) → insert (insert m k v) k w ≡ insert m k w
  insert-again k v w = alter-again k (Some v) (Some w)

  pub insert-swap : (k j : K) (v w : X) → j ≢ k → insert (insert m k v) j w ≡ insert (insert m j w) k v
  insert-swap k j v w apart = alter-swap k j (Some v) (Some w) apart

  pub remove-absent : (k : K) → get m k ≡ None → remove m k ≡ m
  remove-absent k none = alter-same k None none

-- ---- a sum over some of the entries

module _ {K X : Type 0} (order : KeyOrder K) (f : K → X → ℕ) (test : K → Bool) (nothing : (k : K) (x : X) → test k ≡ false → f k x ≡ 0) where
  total-where_at : (e : K × X) (es : List (K × X)) (b : Bool) → test e.0 ≡ b → total_over f (where_key order.cmp test es) ≡ total_over f es
      → total_over f (cond b (e ∷ where_key order.cmp test es) (where_key order.cmp test es)) ≡ f e.0 e.1 + total_over f es
  total-where_at e es true t rest = omega (arith, rest)
  total-where_at e es false t rest = omega (arith, rest, nothing e.0 e.1 t)

  total-where : (es : List (K × X)) → total_over f (where_key order.cmp test es) ≡ total_over f es
  total-where [] = refl
  total-where (e ∷ es) = total-where_at e es (test e.0) refl (total-where es)

  -- a function that is 0 elsewhere has the sum of the entries whose keys pass
  pub sum-retain_keys : (m : Map order X) → sum_over f (retain_keys test m) ≡ sum_over f m
  unfolding sum_over retain_keys
  sum-retain_keys m = total-where m.list

-- a sum with another value at one key
pub sum-alter : {K X : Type 0} (order : KeyOrder K) (f : K → X → ℕ) (m : Map order X) (k : K) (x : Option X)
    → sum_over f (alter m k x) + share f k (get m k) ≡ sum_over f m + share f k x
sum-alter order f m k None = let without = sum-remove order f m k in omega (arith, without)
sum-alter order f m k (Some x) = sum-insert order f m k x
