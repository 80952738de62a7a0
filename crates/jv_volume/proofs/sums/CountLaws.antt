-- How many inodes a whole tree counts: as many as there are below the next one at most, and at least those on a way up.
use Rattle.std.proofs.Common.{◌≡◌, ◌≢◌, ℕ, zero, suc, ◌+◌, ◌<◌, ◌≤◌, Bool, true, false, not, ◌==◌, ◌⊎◌, inl, inr, Option, None, Some, is_some, refl, sym, ap, ◌∙◌, arith}
use Rattle.std.specs.Prelude.{nat_lt, if◌then◌else◌, IsTrue}
use Rattle.std.proofs.lemmas.Bool.{cases_eq, cases_Bool, and_cases, and_parts, false≢true, lt-ltb, ltb-true, ltb-false, ne_eqb}
use Rattle.jv_model.specs.declared.limits.TheConstants.{ROOT, TRASH_ROOT}
use Rattle.jv_model.specs.promise.FiniteMap.{Map, number_key, get, remove, sum_over}
use Rattle.jv_model.specs.promise.tree.Tree.{Tree, Node, node_at, node_count, is_counted, used_inodes}
use Rattle.jv_model.proofs.FiniteMapLaws.{share, sum-remove}
use Rattle.jv_model.proofs.TestLaws.{at_most_one}
use Rattle.jv_volume.specs.promise.Shape.{Form, Dir, WholeShape, is_there, is_top, shape_of, Reaches}
use Rattle.jv_volume.proofs.shapes.ClimbLaws.{Once, once_at, steps_within}
use Rattle.jv_volume.proofs.maps.MapLaws.{sum-nothing}
use Rattle.jv_volume.proofs.shapes.ShapeMapLaws.{get-removed, get-remove_apart, is_there-form}

-- ---- counted inodes are below the next one

-- what is counted once at most is no more than the numbers below which it is counted
sum-below : (count : ℕ → Node → ℕ) → ((k : ℕ) (x : Node) → count k x ≤ 1) → (bound : ℕ) (m : Map number_key Node)
    → ((k : ℕ) (x : Node) → get m k ≡ Some x → (k < bound) ⊎ (count k x ≡ 0)) → sum_over count m ≤ bound
sum-below count once zero m low = omega (arith, sum-nothing number_key count m (λ k x is. elim (low k x is) [ inl less ↦ absurd (omega arith) | inr none ↦ none ]))
sum-below count once (suc bound) m low =
    let rest = sum-below count once bound (remove m bound) still in
    omega (arith, rest, sum-remove number_key count m bound, one (get m bound))
  where
    one : (o : Option Node) → share count bound o ≤ 1
    one None = omega arith
    one (Some x) = once bound x

    still : (k : ℕ) (x : Node) → get (remove m bound) k ≡ Some x → (k < bound) ⊎ (count k x ≡ 0)
    still k x is = elim (cases_eq k bound) [
      | inl e ↦ (let gone : get (remove m bound) k ≡ None = ap (get (remove m bound)) e ∙ get-removed number_key m bound in absurd (cc))
      | inr apart ↦ elim (low k x (sym (get-remove_apart number_key m bound k apart) ∙ is)) [
        | inl less ↦ inl (omega (arith, less, apart))
        | inr none ↦ inr none
      ]
    ]

module _ (t : Tree) (w : WholeShape (shape_of t)) where
  abbrev form : ℕ → Form
  form = (shape_of t).form

  there_at : (inode : ℕ) → IsTrue (is_some (node_at t inode)) → IsTrue (is_there (form inode))
  there_at inode h = is_there-form (node_at t inode) ∙ h

  counted_low : (inode : ℕ) → is_counted inode ≡ true → inode < TRASH_ROOT
  counted_low inode h = ltb-true inode TRASH_ROOT (and_parts (not (inode == ROOT)) (nat_lt inode TRASH_ROOT) h).1

  -- no more inodes are counted than were given
  pub used_below : used_inodes t ≤ t.next_inode
  used_below = sum-below node_count (λ k x. at_most_one (is_counted k)) t.next_inode t.nodes (λ k x is. below k x is (is_counted k) refl)
    where
      below : (k : ℕ) (x : Node) → node_at t k ≡ Some x → (b : Bool) → is_counted k ≡ b → (k < t.next_inode) ⊎ (node_count k x ≡ 0)
      below k x is true counted = inl (w.below k (there_at k (ap is_some is)) (lt-ltb k TRASH_ROOT (counted_low k counted)))
      below k x is false counted = inr (ap (λ b. if b then 1 else 0) counted)

  -- ---- directories on a way up are counted, but for the last two

  -- one step leads to the top at most
  abbrev Near : ℕ → Type 0
  Near dir = (steps : ℕ) × (steps ≤ 1) × Reaches form steps dir

  abbrev Counted : ℕ → Type 0
  Counted inode = IsTrue (is_some (node_at t inode)) × (is_counted inode ≡ true)

  node_there : (dir parent : ℕ) → form dir ≡ Dir parent → IsTrue (is_some (node_at t dir))
  node_there dir parent is = sym (is_there-form (node_at t dir)) ∙ ap is_there is

  -- the root, the trash, and the hours in it
  near : (dir parent : ℕ) → form dir ≡ Dir parent → is_counted dir ≡ false → Near dir
  near dir parent is h = elim (cases_eq dir ROOT) [
    | inl e ↦ (0, omega arith, ap is_top e)
    | inr apart ↦ elim (cases_eq dir TRASH_ROOT) [
      | inl e ↦ (0, omega arith, ap is_top e)
      | inr other ↦
          let high : TRASH_ROOT ≤ dir = ltb-false dir TRASH_ROOT (above apart) in
          let hour = w.hours dir (ap is_there is) (lt-ltb TRASH_ROOT dir (omega (arith, high, other))) in
          (1, omega arith, (TRASH_ROOT, hour.1, refl))
    ]
  ]
    where
      above : dir ≢ ROOT → nat_lt dir TRASH_ROOT ≡ false
      above apart = elim (and_cases (not (dir == ROOT)) (nat_lt dir TRASH_ROOT) h) [
        | inl same ↦ absurd (false≢true (sym same ∙ ap not (ne_eqb dir ROOT apart)))
        | inr high ↦ high
      ]

  counted_way : (steps dir : ℕ) → Reaches form steps dir → (n : ℕ) × Once form Near Counted n dir
  counted_way zero dir h = (0, (0, omega arith, h))
  counted_way (suc steps) dir h = elim (cases_Bool (is_counted dir)) [
    | inl counted ↦
        let rest = counted_way steps h.0 h.2 in
        once_at form Near Counted dir h.0 rest.0 h.1 (node_there dir h.0 h.1, counted) rest.1
    | inr free ↦ (0, near dir h.0 h.1 free)
  ]

  counts_one : (inode : ℕ) → Counted inode → share node_count inode (node_at t inode) ≡ 1
  counts_one inode h = by_node (node_at t inode) h.0
    where
      by_node : (o : Option Node) → IsTrue (is_some o) → share node_count inode o ≡ 1
      by_node None none = absurd (false≢true none)
      by_node (Some node) there = ap (λ b. if b then 1 else 0) h.1

  reaches_near : (P : ℕ → Type 0) (n dir : ℕ) → Once form Near P n dir → (steps : ℕ) × (steps ≤ n + 1) × Reaches form steps dir
  reaches_near P zero dir h = h
  reaches_near P (suc n) dir h =
      let rest = reaches_near _ n h.0 h.3 in
      (suc rest.0, omega (arith, rest.1), (h.0, h.1, rest.2))

  -- a way up has one step more than inodes are counted, at most
  pub short_way : (steps dir : ℕ) → Reaches form steps dir → (n : ℕ) × (n ≤ used_inodes t + 1) × Reaches form n dir
  short_way steps dir h =
      let counted = counted_way steps dir h in
      let few = steps_within form Near node_count t.nodes Counted counts_one counted.0 dir counted.1 in
      let way = reaches_near Counted counted.0 dir counted.1 in
      (way.0, omega (arith, few, way.1), way.2)
