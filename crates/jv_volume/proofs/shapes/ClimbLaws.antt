-- The way up from a directory to the root or the trash, and the model's test whether a directory lies in another one.
use Rattle.std.proofs.Common.{◌≡◌, ◌≢◌, ℕ, zero, suc, ◌≤◌, Bool, true, false, not, ◌&&◌, ◌==◌, ◌⊎◌, inl, inr, List, [], ◌∷◌, length, Option, None, Some, is_some, refl, sym, ap, subst, ◌∙◌, arith}
use Rattle.std.specs.Prelude.{IsTrue}
use Rattle.std.proofs.lemmas.Bool.{cases_eq, eqb-true, eqb-false, ne_eqb, false≢true, or_parts, or_from, and_right, and_cases, true_from_ne_false, or_cases}
use Rattle.jv_model.specs.declared.limits.TheConstants.{ROOT, TRASH_ROOT}
use Rattle.jv_model.specs.promise.FiniteMap.{Map, number_key, get, remove, key_count, sum_over, total_over}
use Rattle.jv_model.specs.promise.tree.Tree.{Tree, Node, Kind, File, Directory, Symlink, node_at, parent_of, parent_at, is_directory}
use Rattle.jv_model.specs.promise.tree.Renaming.{is_within, is_inside}
use Rattle.jv_model.proofs.FiniteMapLaws.{share, sum-remove}
use Rattle.jv_volume.specs.promise.Shape.{Form, Absent, Regular, Link, Dir, Shape, WholeShape, form_of, is_dir, is_there, shape_of, is_top, Reaches}
use Rattle.jv_volume.proofs.shapes.ShapeMapLaws.{get-remove_apart, parent_of_dir, is_directory-form, is_there-form}

parent_in : Form → ℕ → ℕ
parent_in Absent other = other
parent_in Regular other = other
parent_in Link other = other
parent_in (Dir parent) other = parent

-- directories of one form have one parent
pub dir_parent : (p q : ℕ) → Dir p ≡ Dir q → p ≡ q
unfolding parent_in
dir_parent p q e = ap (λ f. parent_in f 0) e

-- `steps` up lead from a directory to the root or the trash, by directories that are all another one than an inode
abbrev pub Avoids : (ℕ → Form) → ℕ → ℕ → ℕ → Type 0
Avoids form inode zero dir = (dir ≢ inode) × IsTrue (is_top dir)
Avoids form inode (suc steps) dir = (dir ≢ inode) × ((parent : ℕ) × (form dir ≡ Dir parent) × Avoids form inode steps parent)

abbrev IsTop : ℕ → Type 0
IsTop dir = IsTrue (is_top dir)

-- `steps` up to a directory of a kind, by directories that have a property and are all different
abbrev pub Once : (ℕ → Form) → (ℕ → Type 0) → (ℕ → Type 0) → ℕ → ℕ → Type 0
Once form Last P zero dir = Last dir
Once form Last P (suc steps) dir = (parent : ℕ) × (form dir ≡ Dir parent) × P dir × Once form Last (λ q. P q × (q ≢ dir)) steps parent

module _ (form : ℕ → Form) (Last : ℕ → Type 0) where
  weaken : (P Q : ℕ → Type 0) → ((q : ℕ) → P q → Q q) → (steps dir : ℕ) → Once form Last P steps dir → Once form Last Q steps dir
  weaken P Q more zero dir h = h
  weaken P Q more (suc steps) dir h = (h.0, h.1, more dir h.2, weaken _ _ (λ q p. (more q p.0, p.1)) steps h.0 h.3)

  -- a way up comes by a directory, or it doesn't
  split : (d : ℕ) (P : ℕ → Type 0) (steps q : ℕ) → Once form Last P steps q
      → Once form Last (λ x. P x × (x ≢ d)) steps q ⊎ ((less : ℕ) × Once form Last P less d)
  split d P zero q h = inl h
  split d P (suc steps) q h = elim (cases_eq q d) [
    | inl e ↦ inr (suc steps, subst (Once form Last P (suc steps)) e h)
    | inr apart ↦ elim (split d (λ x. P x × (x ≢ q)) steps h.0 h.3) [
      | inl r ↦ inl (h.0, h.1, (h.2, apart), weaken _ _ (λ x p. ((p.0.0, p.1), p.0.1)) steps h.0 r)
      | inr r ↦ inr (r.0, weaken _ P (λ x p. p.0) r.0 d r.1)
    ]
  ]

  -- one step more, without the circle that it may close
  pub once_at : (P : ℕ → Type 0) (dir parent steps : ℕ) → form dir ≡ Dir parent → P dir → Once form Last P steps parent
      → (n : ℕ) × Once form Last P n dir
  once_at P dir parent steps e p h = elim (split dir P steps parent h) [
    | inl r ↦ (suc steps, (parent, e, p, r))
    | inr r ↦ r
  ]

module _ (form : ℕ → Form) where
  -- a way up without the circles
  once_from : (P : ℕ → Type 0) → ((q parent : ℕ) → form q ≡ Dir parent → P q) → (steps dir : ℕ) → Reaches form steps dir
      → (n : ℕ) × Once form IsTop P n dir
  once_from P all zero dir h = (0, h)
  once_from P all (suc steps) dir h =
      let rest = once_from P all steps h.0 h.2 in
      once_at form IsTop P dir h.0 rest.0 h.1 (all dir h.0 h.1) rest.1

  reaches_once : (P : ℕ → Type 0) (steps dir : ℕ) → Once form IsTop P steps dir → Reaches form steps dir
  reaches_once P zero dir h = h
  reaches_once P (suc steps) dir h = (h.0, h.1, reaches_once _ steps h.0 h.3)

length_total : {K X : Type 0} (es : List (K × X)) → length es ≡ total_over (λ k x. 1) es
length_total [] = refl
length_total (e ∷ es) = omega (arith, length_total es)

key_count_sum : (m : Map number_key Node) → key_count m ≡ sum_over (λ k x. 1) m
unfolding key_count sum_over
key_count_sum m = length_total m.list

counted_once : (k : ℕ) (o : Option Node) → IsTrue (is_some o) → share (λ q x. 1) k o ≡ 1
counted_once k None h = absurd (false≢true h)
counted_once k (Some node) h = refl

-- a way up by different directories that count for one each is no longer than their sum
pub steps_within : (form : ℕ → Form) (Last : ℕ → Type 0) (count : ℕ → Node → ℕ) (m : Map number_key Node) (P : ℕ → Type 0)
    → ((q : ℕ) → P q → share count q (get m q) ≡ 1) → (steps dir : ℕ) → Once form Last P steps dir → steps ≤ sum_over count m
steps_within form Last count m P one zero dir h = omega arith
steps_within form Last count m P one (suc steps) dir h =
    let still : (q : ℕ) → P q × (q ≢ dir) → share count q (get (remove m dir) q) ≡ 1 =
    λ q p. ap (share count q) (get-remove_apart number_key m dir q p.1) ∙ one q p.0 in
    let rest = steps_within form Last count (remove m dir) (λ q. P q × (q ≢ dir)) still steps h.0 h.3 in
    omega (arith, rest, sum-remove number_key count m dir, one dir h.2)

-- the model's test

parent_of_kind : (node : Node) (kind : Kind) (parent : ℕ) → form_of (Some (record node { kind = kind })) ≡ Dir parent
    → parent_of (Some (record node { kind = kind })) ≡ Some parent
parent_of_kind node (File content) parent h = absurd (false≢true (ap is_dir h))
parent_of_kind node (Directory own) parent h = ap Some (dir_parent own parent h)
parent_of_kind node (Symlink target) parent h = absurd (false≢true (ap is_dir h))

parent_of_form : (o : Option Node) (parent : ℕ) → form_of o ≡ Dir parent → parent_of o ≡ Some parent
parent_of_form None parent h = absurd (false≢true (ap is_dir h))
parent_of_form (Some node) parent h = parent_of_kind node node.kind parent h

-- and has the same parent there
pub parent_at-form : (t : Tree) (dir parent : ℕ) → (shape_of t).form dir ≡ Dir parent → parent_at t dir ≡ Some parent
parent_at-form t dir parent h = parent_of_form (node_at t dir) parent h

node_of_form : (o : Option Node) (parent : ℕ) → form_of o ≡ Dir parent → IsTrue (is_some o)
node_of_form o parent h = sym (is_there-form o) ∙ ap is_there h

-- what the test says of one directory on the way up
step_up : Tree → ℕ → ℕ → ℕ → Option ℕ → Bool
step_up t steps dir above o = elim o [ None ↦ false | Some parent ↦ not (dir == ROOT) && is_within steps t parent above ]

apart_within : (t : Tree) (steps dir above : ℕ) → is_within steps t dir above ≡ false → dir ≢ above
unfolding is_within
apart_within t zero dir above h = eqb-false dir above h
apart_within t (suc steps) dir above h = eqb-false dir above (or_parts (dir == above) _ h).0

goes_up : (t : Tree) (steps dir above parent : ℕ) → parent_at t dir ≡ Some parent → is_within (suc steps) t dir above ≡ false
    → (not (dir == ROOT) && is_within steps t parent above) ≡ false
unfolding is_within step_up
goes_up t steps dir above parent e h = sym (ap (step_up t steps dir above) e) ∙ (or_parts (dir == above) (step_up t steps dir above (parent_at t dir)) h).1

top_root : (dir : ℕ) → dir ≡ ROOT → IsTrue (is_top dir)
top_root dir e = ap is_top e

climbed : (t : Tree) (above steps count dir : ℕ) → steps ≤ count → Reaches (shape_of t).form steps dir → is_within count t dir above ≡ false
    → (n : ℕ) × Avoids (shape_of t).form above n dir
climbed t above zero count dir less h test = (0, (apart_within t count dir above test, h))
climbed t above (suc steps) zero dir less h test = absurd (omega arith)
climbed t above (suc steps) (suc count) dir less h test = elim (cases_eq dir ROOT) [
  | inl e ↦ (0, (apart_within t (suc count) dir above test, top_root dir e))
  | inr apart ↦
      let up : (not (dir == ROOT) && is_within count t h.0 above) ≡ false = goes_up t count dir above h.0 (parent_at-form t dir h.0 h.1) test in
      let next : is_within count t h.0 above ≡ false = sym (ap (λ b. not b && is_within count t h.0 above) (ne_eqb dir ROOT apart)) ∙ up in
      let rest = climbed t above steps count h.0 (omega arith) h.2 next in
      (suc rest.0, (apart_within t (suc count) dir above test, (h.0, h.1, rest.1)))
]

-- the way up from a directory has at most as many steps as there are nodes
pub few_steps : (t : Tree) (steps dir : ℕ) → Reaches (shape_of t).form steps dir → (n : ℕ) × (n ≤ key_count t.nodes) × Reaches (shape_of t).form n dir
few_steps t steps dir h =
    let once = once_from (shape_of t).form (λ q. IsTrue (is_some (node_at t q))) (λ q parent e. node_of_form (node_at t q) parent e) steps dir h in
    let few : once.0 ≤ sum_over (λ q x. 1) t.nodes =
    steps_within (shape_of t).form IsTop (λ q x. 1) t.nodes _ (λ q p. counted_once q (node_at t q) p) once.0 dir once.1 in (
      once.0,
      omega (arith, few, key_count_sum t.nodes),
      reaches_once (shape_of t).form _ once.0 dir once.1,
    )

-- what is at the top
pub top_cases : (dir : ℕ) → IsTrue (is_top dir) → (dir ≡ ROOT) ⊎ (dir ≡ TRASH_ROOT)
top_cases dir h = elim (or_cases (dir == ROOT) (dir == TRASH_ROOT) h) [
  | inl e ↦ inl (eqb-true dir ROOT e)
  | inr e ↦ inr (eqb-true dir TRASH_ROOT e)
]

-- the root's own parent, and the trash's, is the root
pub top_parent : (s : Shape) (dir parent : ℕ) → WholeShape s → IsTrue (is_top dir) → s.form dir ≡ Dir parent → parent ≡ ROOT
top_parent s dir parent whole top is = elim (top_cases dir top) [
  | inl e ↦ dir_parent parent ROOT (sym is ∙ ap s.form e ∙ whole.root_there)
  | inr e ↦ dir_parent parent ROOT (sym is ∙ ap s.form e ∙ whole.trash_there)
]

-- no directory on the way up is a file or a symlink
pub avoids_leaf : (s : Shape) (inode steps dir : ℕ) → WholeShape s → is_dir (s.form inode) ≡ false → Reaches s.form steps dir → Avoids s.form inode steps dir
avoids_leaf s inode zero dir whole leaf h = (top_apart, h)
  where
    top_dir : IsTrue (is_dir (s.form dir))
    top_dir = elim (top_cases dir h) [
      | inl e ↦ ap (λ q. is_dir (s.form q)) e ∙ ap is_dir whole.root_there
      | inr e ↦ ap (λ q. is_dir (s.form q)) e ∙ ap is_dir whole.trash_there
    ]

    top_apart : dir ≢ inode
    top_apart e = false≢true (sym leaf ∙ sym (ap (λ q. is_dir (s.form q)) e) ∙ top_dir)
avoids_leaf s inode (suc steps) dir whole leaf h =
    (λ e. false≢true (sym leaf ∙ sym (ap (λ q. is_dir (s.form q)) e) ∙ ap is_dir h.1), (h.0, h.1, avoids_leaf s inode steps h.0 whole leaf h.2))

-- the way up from a directory
pub reaches_dir : (s : Shape) (dir : ℕ) → WholeShape s → IsTrue (is_dir (s.form dir)) → (steps : ℕ) × Reaches s.form steps dir
reaches_dir s dir whole is = let own = parent_of_dir (s.form dir) is in whole.rooted dir own.0 own.1

-- A directory that isn't inside another one has a way up that avoids that one. A file or a symlink is on no way up.
pub avoids_outside : (t : Tree) (dir inode : ℕ) → WholeShape (shape_of t) → IsTrue (is_dir ((shape_of t).form dir)) → is_inside t dir inode ≡ false
    → (n : ℕ) × Avoids (shape_of t).form inode n dir
avoids_outside t dir inode whole is outside =
    let up = reaches_dir (shape_of t) dir whole is in
    elim (and_cases (is_directory t inode) (is_within (key_count t.nodes) t dir inode) outside) [
      | inl leaf ↦ (up.0, avoids_leaf (shape_of t) inode up.0 dir whole (sym (is_directory-form t inode) ∙ leaf) up.1)
      | inr test ↦ let few = few_steps t up.0 dir up.1 in climbed t inode few.0 (key_count t.nodes) dir few.1 few.2 test
    ]

apart_avoids : (form : ℕ → Form) (inode n dir : ℕ) → Avoids form inode n dir → dir ≢ inode
apart_avoids form inode zero dir h = h.0
apart_avoids form inode (suc n) dir h = h.0

stays_out : (t : Tree) (steps dir above parent : ℕ) → dir ≢ above → parent_at t dir ≡ Some parent
    → (not (dir == ROOT) && is_within steps t parent above) ≡ false → is_within (suc steps) t dir above ≡ false
unfolding is_within step_up
stays_out t steps dir above parent apart e up = or_from (dir == above) (step_up t steps dir above (parent_at t dir)) (ne_eqb dir above apart)
    (ap (step_up t steps dir above) e ∙ up)

root_outside : (t : Tree) (steps above : ℕ) → WholeShape (shape_of t) → ROOT ≢ above → is_within steps t ROOT above ≡ false
unfolding is_within
root_outside t zero above whole apart = ne_eqb ROOT above apart
root_outside t (suc steps) above whole apart = stays_out t steps ROOT above ROOT apart (parent_at-form t ROOT ROOT whole.root_there) refl

top_outside : (t : Tree) (steps dir above : ℕ) → WholeShape (shape_of t) → is_top above ≡ false → dir ≢ above → IsTrue (is_top dir)
    → is_within steps t dir above ≡ false
unfolding is_within
top_outside t zero dir above whole low apart h = ne_eqb dir above apart
top_outside t (suc steps) dir above whole low apart h =
    let free : ROOT ≢ above = λ e. false≢true (sym low ∙ ap is_top (sym e)) in
    elim (top_cases dir h) [
      | inl e ↦ ap (λ q. is_within (suc steps) t q above) e ∙ root_outside t (suc steps) above whole free
      | inr same ↦
          let parent : parent_at t dir ≡ Some ROOT = ap (parent_at t) same ∙ parent_at-form t TRASH_ROOT ROOT whole.trash_there in
          stays_out t steps dir above ROOT apart parent (and_right (not (dir == ROOT)) _ (root_outside t steps above whole free))
    ]

avoided : (t : Tree) (above n steps dir : ℕ) → WholeShape (shape_of t) → is_top above ≡ false → Avoids (shape_of t).form above n dir
    → is_within steps t dir above ≡ false
unfolding is_within
avoided t above zero steps dir whole low h = top_outside t steps dir above whole low h.0 h.1
avoided t above (suc n) zero dir whole low h = ne_eqb dir above h.0
avoided t above (suc n) (suc steps) dir whole low h =
    stays_out t steps dir above h.1.0 h.0 (parent_at-form t dir h.1.0 h.1.1) (and_right (not (dir == ROOT)) _ (avoided t above n steps h.1.0 whole low h.1.2))

-- A directory with a way up that avoids another one isn't inside that one. The root itself may be on no way, and all are inside it.
pub outside_avoids : (t : Tree) (dir inode n : ℕ) → WholeShape (shape_of t) → is_top inode ≡ false → Avoids (shape_of t).form inode n dir
    → is_inside t dir inode ≡ false
outside_avoids t dir inode n whole low h = and_right (is_directory t inode) _ (avoided t inode n (key_count t.nodes) dir whole low h)

-- `steps` up lead from a directory to an inode
abbrev pub Meets : (ℕ → Form) → ℕ → ℕ → ℕ → Type 0
Meets form inode zero dir = dir ≡ inode
Meets form inode (suc steps) dir = (parent : ℕ) × (form dir ≡ Dir parent) × Meets form inode steps parent

root_meets : (s : Shape) (inode n dir : ℕ) → WholeShape s → is_top inode ≡ false → dir ≡ ROOT → Meets s.form inode n dir → ⊥
root_meets s inode zero dir whole low e h = false≢true (sym low ∙ ap is_top (sym h ∙ e))
root_meets s inode (suc n) dir whole low e h =
    root_meets s inode n h.0 whole low (dir_parent h.0 ROOT (sym h.1 ∙ ap s.form e ∙ whole.root_there)) h.2

top_meets : (s : Shape) (inode n dir : ℕ) → WholeShape s → is_top inode ≡ false → IsTrue (is_top dir) → Meets s.form inode n dir → ⊥
top_meets s inode zero dir whole low top h = false≢true (sym low ∙ ap is_top (sym h) ∙ top)
top_meets s inode (suc n) dir whole low top h = root_meets s inode n h.0 whole low (top_parent s dir h.0 whole top h.1) h.2

meets_avoided : (s : Shape) (inode n m dir : ℕ) → WholeShape s → is_top inode ≡ false → Meets s.form inode n dir → Avoids s.form inode m dir → ⊥
meets_avoided s inode zero m dir whole low h k = apart_avoids s.form inode m dir k h
meets_avoided s inode (suc n) zero dir whole low h k = top_meets s inode (suc n) dir whole low k.1 h
meets_avoided s inode (suc n) (suc m) dir whole low h k =
    let same : h.0 ≡ k.1.0 = dir_parent _ _ (sym h.1 ∙ k.1.1) in
    meets_avoided s inode n m k.1.0 whole low (subst (Meets s.form inode n) same h.2) k.1.2

-- a directory from which a way up leads to another one, or to itself, is inside that one
pub inside_meets : (t : Tree) (dir inode n : ℕ) → WholeShape (shape_of t) → IsTrue (is_dir ((shape_of t).form dir)) → is_top inode ≡ false
    → Meets (shape_of t).form inode n dir → is_inside t dir inode ≡ true
inside_meets t dir inode n whole is low h = true_from_ne_false (is_inside t dir inode) (λ outside.
    let up = avoids_outside t dir inode whole is outside in
    meets_avoided (shape_of t) inode n up.0 dir whole low h up.1)

-- a way up that comes by no directory twice avoids where it began

avoid_once : (form : ℕ → Form) (P : ℕ → Type 0) (d : ℕ) → ((x : ℕ) → P x → x ≢ d) → is_top d ≡ false → (n q : ℕ) → Once form IsTop P n q → Avoids form d n q
avoid_once form P d apart low zero q h = (λ e. false≢true (sym low ∙ sym (ap is_top e) ∙ h), h)
avoid_once form P d apart low (suc n) q h = (apart q h.2, (h.0, h.1, avoid_once form _ d (λ x p. apart x p.0) low n h.0 h.3))

above_once : (form : ℕ → Form) (dir parent n : ℕ) → is_top dir ≡ false → form dir ≡ Dir parent → Once form IsTop (λ q. Unit {0}) n dir
    → (m : ℕ) × Avoids form dir m parent
above_once form dir parent zero low is h = absurd (false≢true (sym low ∙ h))
above_once form dir parent (suc n) low is h =
    let same : h.0 ≡ parent = dir_parent _ _ (sym h.1 ∙ is) in
    (n, subst (Avoids form dir n) same (avoid_once form _ dir (λ x p. p.1) low n h.0 h.3))

-- the way up from a directory's parent avoids the directory
pub above_avoids : (form : ℕ → Form) (dir parent steps : ℕ) → is_top dir ≡ false → form dir ≡ Dir parent → Reaches form steps dir
    → (n : ℕ) × Avoids form dir n parent
above_avoids form dir parent steps low is h =
    let once = once_from form (λ q. Unit {0}) (λ q p e. tt) steps dir h in
    above_once form dir parent once.0 low is once.1

-- a way up that avoids two inodes still does where only they have another form
pub avoids_beside : (form after : ℕ → Form) (a b : ℕ) → ((q parent : ℕ) → q ≢ a → q ≢ b → form q ≡ Dir parent → after q ≡ Dir parent)
    → (n m dir : ℕ) → Avoids form a n dir → Avoids form b m dir → (k : ℕ) × Avoids after a k dir
avoids_beside form after a b stays zero m dir h k = (0, h)
avoids_beside form after a b stays (suc n) zero dir h k = (0, (h.0, k.1))
avoids_beside form after a b stays (suc n) (suc m) dir h k =
    let same : k.1.0 ≡ h.1.0 = dir_parent _ _ (sym k.1.1 ∙ h.1.1) in
    let rest = avoids_beside form after a b stays n m h.1.0 h.1.2 (subst (Avoids form b m) same k.1.2) in
    (suc rest.0, (h.0, (h.1.0, stays dir h.1.0 h.0 k.0 h.1.1, rest.1)))

-- a way up that avoids an inode is one
pub reaches_avoiding : (form : ℕ → Form) (inode n dir : ℕ) → Avoids form inode n dir → Reaches form n dir
reaches_avoiding form inode zero dir h = h.1
reaches_avoiding form inode (suc n) dir h = (h.1.0, h.1.1, reaches_avoiding form inode n h.1.0 h.1.2)

-- a way up stays, and what it avoids, where an inode goes that is no directory's parent
pub avoids_without : (form after : ℕ → Form) (gone inode : ℕ) → ((q parent : ℕ) → form q ≡ Dir parent → q ≢ gone → after q ≡ Dir parent)
    → ((q parent : ℕ) → form q ≡ Dir parent → parent ≢ gone) → (n dir : ℕ) → dir ≢ gone → Avoids form inode n dir → Avoids after inode n dir
avoids_without form after gone inode stays childless zero dir apart h = h
avoids_without form after gone inode stays childless (suc n) dir apart h =
    (h.0, (h.1.0, stays dir h.1.0 h.1.1 apart, avoids_without form after gone inode stays childless n h.1.0 (childless dir h.1.0 h.1.1) h.1.2))
