-- What stands in a shape after one change of its maps: entries that are looked up and counted, and the forms of inodes.
use Rattle.std.proofs.Common.{◌≡◌, ◌≢◌, ℕ, zero, suc, ◌+◌, ◌≤◌, Bool, true, false, ◌==◌, if◌then◌else◌, ◌⊎◌, inl, inr, List, [], ◌∷◌, Option, None, Some, is_some, refl, sym, ap, ◌∙◌, arith}
use Rattle.std.specs.Prelude.{IsTrue}
use Rattle.std.specs.Option.{option_map}
use Rattle.std.specs.Ordering.{eq_by_cmp}
use Rattle.std.specs.Cmp.{eq_by_cmp_equiv, Equal-is}
use Rattle.std.specs.FinMap.Entries.{find}
use Rattle.std.proofs.lemmas.Option.{same_Some}
use Rattle.std.proofs.lemmas.Bool.{or_from, cases_Bool, cond-true, cond-false, false_from_ne_true, false≢true, eq-eqb, ne_eqb, eqb-true, cases_eq}
use Rattle.jv_model.specs.declared.limits.TheConstants.{ROOT, TRASH_ROOT}
use Rattle.jv_model.specs.promise.FiniteMap.{KeyOrder, Map, number_key, get, insert, remove, first_passing, first_where, sum_over, total_over}
use Rattle.jv_model.specs.FiniteMap.{alter}
use Rattle.jv_model.specs.promise.tree.Tree.{Tree, Node, Kind, File, Directory, Symlink, Content, EntryKey, SustainedFile, entry_key, node_at, is_directory, content_in, parent_of, naming, name_count}
use Rattle.jv_model.specs.promise.tree.Changes.{touched, put_node, drop_node, set_node, change_node, touch, put_entry, take_entry}
use Rattle.jv_model.proofs.FiniteMapLaws.{share, sum-insert, sum-remove, IsFound, first_where-found, get-alter}
use Rattle.jv_volume.specs.promise.Shape.{Form, Absent, Regular, Link, Dir, Shape, form_of, is_there, is_dir, shape_of, names, is_top, is_hour, Reaches, Names}

-- keys of finite maps

module _ {K : Type 0} (order : KeyOrder K) where
  -- a key ties with itself
  pub tied_here : (k : K) → eq_by_cmp order.cmp k k ≡ true
  tied_here k = (eq_by_cmp_equiv order.total).refl k

  -- keys that tie are one
  pub tied_same : (k q : K) → eq_by_cmp order.cmp q k ≡ true → q ≡ k
  tied_same k q p = order.same q k ((Equal-is (order.cmp q k)).0 p)

  -- keys that are apart don't tie
  pub tied_apart : (k q : K) → q ≢ k → eq_by_cmp order.cmp q k ≡ false
  tied_apart k q apart = false_from_ne_true _ (λ p. apart (tied_same k q p))

  -- two keys are one, or apart
  pub same_or_apart : (q k : K) → (q ≡ k) ⊎ (q ≢ k)
  same_or_apart q k = elim (cases_Bool (eq_by_cmp order.cmp q k)) [
    | inl p ↦ inl (tied_same k q p)
    | inr p ↦ inr (λ e. false≢true (sym p ∙ ap (λ x. eq_by_cmp order.cmp x k) e ∙ tied_here k))
  ]

-- what stands at a key after an insert or a removal

module _ {K X : Type 0} (order : KeyOrder K) where
  -- what stands at a changed key
  pub get-alter-here : (m : Map order X) (k : K) (v : Option X) → get (alter m k v) k ≡ v
  get-alter-here m k v = get-alter m k v k ∙ cond-true _ _ _ (tied_here order k)

  -- what stands at another key than the changed one
  pub get-alter-apart : (m : Map order X) (k : K) (v : Option X) (q : K) → q ≢ k → get (alter m k v) q ≡ get m q
  get-alter-apart m k v q apart = get-alter m k v q ∙ cond-false _ _ _ (tied_apart order k q apart)

  -- what was inserted stands there
  pub get-inserted : (m : Map order X) (k : K) (v : X) → get (insert m k v) k ≡ Some v
  get-inserted m k v = get-alter-here m k (Some v)

  -- an insert leaves what stands elsewhere
  pub get-insert_apart : (m : Map order X) (k : K) (v : X) (q : K) → q ≢ k → get (insert m k v) q ≡ get m q
  get-insert_apart m k v q apart = get-alter-apart m k (Some v) q apart

  -- nothing stands at a removed key
  pub get-removed : (m : Map order X) (k : K) → get (remove m k) k ≡ None
  get-removed m k = get-alter-here m k None

  -- a removal leaves what stands elsewhere
  pub get-remove_apart : (m : Map order X) (k q : K) → q ≢ k → get (remove m k) q ≡ get m q
  get-remove_apart m k q apart = get-alter-apart m k None q apart

  -- what stands there after an insert is the new value, or was there before
  pub was_inserted : (m : Map order X) (k : K) (v : X) (q : K) (x : X) → get (insert m k v) q ≡ Some x → ((q ≡ k) × (x ≡ v)) ⊎ ((q ≢ k) × (get m q ≡ Some x))
  was_inserted m k v q x h = elim (same_or_apart order q k) [
    | inl e ↦ let here : get (insert m k v) q ≡ Some v = ap (get (insert m k v)) e ∙ get-inserted m k v in inl (e, cc)
    | inr apart ↦ inr (apart, sym (get-insert_apart m k v q apart) ∙ h)
  ]

  -- what stands there after a removal was there before, elsewhere than at the removed key
  pub was_kept : (m : Map order X) (k q : K) (x : X) → get (remove m k) q ≡ Some x → (q ≢ k) × (get m q ≡ Some x)
  was_kept m k q x h = elim (same_or_apart order q k) [
    | inl e ↦ let here : get (remove m k) q ≡ None = ap (get (remove m k)) e ∙ get-removed m k in absurd (cc)
    | inr apart ↦ (apart, sym (get-remove_apart m k q apart) ∙ h)
  ]

-- no entry passes a test where none is found
module _ {K X : Type 0} (order : KeyOrder K) (test : K → X → Bool) where
  none_passes_at : (e : K × X) (es : List (K × X)) (k : K) (x : X) (b : Bool) → test e.0 e.1 ≡ b
      → (first_passing test es ≡ None → find order.cmp k es ≡ Some x → test k x ≡ true → ⊥)
      → (elim b as (λ _. Option (K × X)) [ true ↦ Some e | false ↦ first_passing test es ]) ≡ None → find order.cmp k (e ∷ es) ≡ Some x → test k x ≡ true → ⊥
  none_passes_at e es k x true t rest h there passes = absurd (cc)
  none_passes_at e es k x false t rest h there passes = elim (same_or_apart order k e.0) [
    | inl same ↦
        let here : find order.cmp k (e ∷ es) ≡ Some e.1 = cond-true _ _ _ (ap (λ q. eq_by_cmp order.cmp q e.0) same ∙ tied_here order e.0) in
        let value : e.1 ≡ x = same_Some e.1 x (sym here ∙ there) in
        let again : test k x ≡ test e.0 e.1 = ap (λ q. test q x) same ∙ ap (test e.0) (sym value) in
        absurd (false≢true (sym t ∙ sym again ∙ passes))
    | inr apart ↦ rest h (sym (cond-false _ _ _ (tied_apart order e.0 k apart)) ∙ there) passes
  ]

  none_passes : (es : List (K × X)) (k : K) (x : X) → first_passing test es ≡ None → find order.cmp k es ≡ Some x → test k x ≡ true → ⊥
  none_passes [] k x h there passes = absurd (cc)
  none_passes (e ∷ es) k x h there passes = none_passes_at e es k x (test e.0 e.1) refl (none_passes es k x) h there passes

  -- where no first entry passes a test, none does
  pub first_where-none : (m : Map order X) (k : K) (x : X) → first_where test m ≡ None → get m k ≡ Some x → test k x ≡ true → ⊥
  unfolding first_where get
  first_where-none m k x h there passes = none_passes m.list k x h there passes

-- what stands elsewhere than at a free key stays
pub stays_at : {K X : Type 0} (order : KeyOrder K) (m : Map order X) (k : K) (v : X) (q : K) (x : X) → get m k ≡ None → get m q ≡ Some x
    → get (insert m k v) q ≡ Some x
stays_at order m k v q x free there = get-insert_apart order m k v q (λ e. (let both = ap (get m) e in absurd (cc))) ∙ there

-- a session's place for a file that it keeps
abbrev pub pair_of : ℕ → ℕ → SustainedFile
pair_of sid inode = record { sid = sid; inode = inode }

-- how many entries name an inode

-- the entries of a tree, or of its shape
abbrev pub Entries : Type 0
Entries = Map entry_key ℕ

-- an entry of the inode counts
pub naming_same : (inode : ℕ) (at : EntryKey) → naming inode at inode ≡ 1
naming_same inode at = cond-true _ _ _ (eq-eqb inode inode refl)

-- an entry of another one doesn't
pub naming_apart : (inode : ℕ) (at : EntryKey) (other : ℕ) → other ≢ inode → naming inode at other ≡ 0
naming_apart inode at other apart = cond-false _ _ _ (ne_eqb other inode apart)

-- after an entry in a free place
pub count-insert : (m : Entries) (at : EntryKey) (i inode : ℕ) → get m at ≡ None → name_count (insert m at i) inode ≡ name_count m inode + naming inode at i
count-insert m at i inode free =
    let all = sum-insert entry_key (naming inode) m at i in
    let nothing : share (naming inode) at (get m at) ≡ 0 = ap (share (naming inode) at) free in
    omega (arith, all, nothing)

-- an entry of the inode more
pub count-insert_same : (m : Entries) (at : EntryKey) (inode : ℕ) → get m at ≡ None → name_count (insert m at inode) inode ≡ name_count m inode + 1
count-insert_same m at inode free = count-insert m at inode inode free ∙ ap (λ n. name_count m inode + n) (naming_same inode at)

-- an entry of another inode more
pub count-insert_apart : (m : Entries) (at : EntryKey) (i inode : ℕ) → get m at ≡ None → i ≢ inode → name_count (insert m at i) inode ≡ name_count m inode
count-insert_apart m at i inode free apart =
    let all = count-insert m at i inode free in
    let nothing = naming_apart inode at i apart in
    omega (arith, all, nothing)

-- after an entry that was there is gone
pub count-remove : (m : Entries) (at : EntryKey) (i inode : ℕ) → get m at ≡ Some i → name_count (remove m at) inode + naming inode at i ≡ name_count m inode
count-remove m at i inode there = ap (λ o. name_count (remove m at) inode + share (naming inode) at o) (sym there) ∙ sum-remove entry_key (naming inode) m at

-- an entry of the inode less
pub count-remove_same : (m : Entries) (at : EntryKey) (inode : ℕ) → get m at ≡ Some inode → name_count (remove m at) inode + 1 ≡ name_count m inode
count-remove_same m at inode there = ap (λ n. name_count (remove m at) inode + n) (sym (naming_same inode at)) ∙ count-remove m at inode inode there

-- an entry of another inode less
pub count-remove_apart : (m : Entries) (at : EntryKey) (i inode : ℕ) → get m at ≡ Some i → i ≢ inode → name_count (remove m at) inode ≡ name_count m inode
count-remove_apart m at i inode there apart =
    let all = count-remove m at i inode there in
    let nothing = naming_apart inode at i apart in
    omega (arith, all, nothing)

-- an inode that an entry names has one at least
pub counted_once : (m : Entries) (at : EntryKey) (inode : ℕ) → get m at ≡ Some inode → 1 ≤ name_count m inode
counted_once m at inode there = let all = count-remove_same m at inode there in omega (arith, all)

-- no entry names an inode that has none
pub uncounted : (m : Entries) (at : EntryKey) (inode : ℕ) → name_count m inode ≡ 0 → get m at ≢ Some inode
uncounted m at inode none there = let one = counted_once m at inode there in absurd (omega (arith, one, none))

-- the only entry of an inode
pub only_one : (m : Entries) (at other : EntryKey) (inode : ℕ) → name_count m inode ≡ 1 → get m at ≡ Some inode → get m other ≡ Some inode → other ≡ at
only_one m at other inode one there also = elim (same_or_apart entry_key other at) [
  | inl same ↦ same
  | inr apart ↦
      let rest = count-remove_same m at inode there in
      let more = counted_once (remove m at) other inode (get-remove_apart entry_key m at other apart ∙ also) in
      absurd (omega (arith, one, rest, more))
]

-- an inode that no entry names has none

total_none_at : (inode : ℕ) (e : EntryKey × ℕ) (es : List (EntryKey × ℕ)) (b : Bool) → (e.1 == inode) ≡ b
    → (first_passing (λ at i. i == inode) es ≡ None → total_over (naming inode) es ≡ 0)
    → (elim b as (λ _. Option (EntryKey × ℕ)) [ true ↦ Some e | false ↦ first_passing (λ at i. i == inode) es ]) ≡ None
    → (if b then 1 else 0) + total_over (naming inode) es ≡ 0
total_none_at inode e es true t rest h = absurd (cc)
total_none_at inode e es false t rest h = omega (arith, rest h)

total_none : (inode : ℕ) (es : List (EntryKey × ℕ)) → first_passing (λ at i. i == inode) es ≡ None → total_over (naming inode) es ≡ 0
total_none inode [] h = refl
total_none inode (e ∷ es) h = total_none_at inode e es (e.1 == inode) refl (total_none inode es) h

none_counted : (m : Entries) (inode : ℕ) → first_where (λ at i. i == inode) m ≡ None → name_count m inode ≡ 0
unfolding first_where sum_over
none_counted m inode h = total_none inode m.list h

-- an entry that names an inode
pub record IsNamed (m : Entries) (inode : ℕ) : Type 0 where
  pub at : EntryKey
  pub is : get m at ≡ Some inode

named_by_found : (m : Entries) (inode : ℕ) (o : Option (EntryKey × ℕ)) → first_where (λ at i. i == inode) m ≡ o → (name_count m inode ≡ 0) ⊎ IsNamed m inode
named_by_found m inode None h = inl (none_counted m inode h)
named_by_found m inode (Some found) h =
    let f : IsFound (λ at i. i == inode) m found.0 found.1 = first_where-found entry_key (λ at i. i == inode) m found h in
    inr (record { at = found.0; is = f.there ∙ ap Some (eqb-true found.1 inode f.passes) })

-- an inode has no entry, or this one
pub count_cases : (m : Entries) (inode : ℕ) → (name_count m inode ≡ 0) ⊎ IsNamed m inode
count_cases m inode = named_by_found m inode (first_where (λ at i. i == inode) m) refl

-- an inode that no entry names has none
pub count_none : (m : Entries) (inode : ℕ) → ((at : EntryKey) → get m at ≢ Some inode) → name_count m inode ≡ 0
count_none m inode none = elim (count_cases m inode) [
  | inl e ↦ e
  | inr one ↦ absurd (none one.at one.is)
]

-- an inode with only one entry has one
pub count_one : (m : Entries) (at : EntryKey) (inode : ℕ) → get m at ≡ Some inode → ((other : EntryKey) → get m other ≡ Some inode → other ≡ at)
    → name_count m inode ≡ 1
count_one m at inode there only =
    let rest : name_count (remove m at) inode ≡ 0 = count_none (remove m at) inode (λ other h.
    let kept : (other ≢ at) × (get m other ≡ Some inode) = was_kept entry_key m at other inode h in
    kept.0 (only other kept.1)) in
    let all = count-remove_same m at inode there in
    omega (arith, rest, all)

-- forms

-- the forms of all inodes, with another one of one inode
abbrev pub with_form : (ℕ → Form) → ℕ → Form → ℕ → Form
with_form form inode f other = (if other == inode then f else form other)

-- the form that was put
pub with_form-here : (form : ℕ → Form) (inode : ℕ) (f : Form) → with_form form inode f inode ≡ f
with_form-here form inode f = cond-true _ _ _ (eq-eqb inode inode refl)

-- the forms of other inodes
pub with_form-apart : (form : ℕ → Form) (inode : ℕ) (f : Form) (other : ℕ) → other ≢ inode → with_form form inode f other ≡ form other
with_form-apart form inode f other apart = cond-false _ _ _ (ne_eqb other inode apart)

-- the same form again changes none
pub with_form-same : (form : ℕ → Form) (inode other : ℕ) → with_form form inode (form inode) other ≡ form other
with_form-same form inode other = elim (cases_eq other inode) [
  | inl e ↦ ap (with_form form inode (form inode)) e ∙ with_form-here form inode (form inode) ∙ ap form (sym e)
  | inr apart ↦ with_form-apart form inode (form inode) other apart
]

-- forms that aren't there differ from one that is
pub apart_by_form : (form : ℕ → Form) (i j : ℕ) → form i ≡ Absent → IsTrue (is_there (form j)) → j ≢ i
apart_by_form form i j absent there same = false≢true (sym (ap is_there (ap form same ∙ absent)) ∙ there)

-- a directory is there
pub there_of_dir : (f : Form) → IsTrue (is_dir f) → IsTrue (is_there f)
there_of_dir Absent h = absurd (false≢true h)
there_of_dir Regular h = absurd (false≢true h)
there_of_dir Link h = absurd (false≢true h)
there_of_dir (Dir parent) h = refl

-- the parent of a directory
pub parent_of_dir : (f : Form) → IsTrue (is_dir f) → (parent : ℕ) × (f ≡ Dir parent)
parent_of_dir Absent h = absurd (false≢true h)
parent_of_dir Regular h = absurd (false≢true h)
parent_of_dir Link h = absurd (false≢true h)
parent_of_dir (Dir parent) h = (parent, refl)

-- where each directory of the way up keeps its parent, the way up stays
pub reaches_lift : (form after : ℕ → Form) → ((dir parent : ℕ) → form dir ≡ Dir parent → after dir ≡ Dir parent) → (steps dir : ℕ) → Reaches form steps dir
    → Reaches after steps dir
reaches_lift form after stays zero dir h = h
reaches_lift form after stays (suc steps) dir h = (h.0, stays dir h.0 h.1, reaches_lift form after stays steps h.0 h.2)

-- the shape of a tree after a small change

-- a shape with other forms, or with other entries
abbrev pub with_forms : Shape → (ℕ → Form) → Shape
with_forms s form = record s { form = form }

-- a shape with other entries
abbrev pub with_entries : Shape → Entries → Shape
with_entries s entries = record s { entries = entries }

-- the forms after a node was put
pub form-put_node : (t : Tree) (inode : ℕ) (node : Node) (other : ℕ)
    → (shape_of (put_node t inode node)).form other ≡ with_form (shape_of t).form inode (form_of (Some node)) other
form-put_node t inode node other = elim (cases_eq other inode) [
  | inl e ↦ ap form_of (ap (get (insert t.nodes inode node)) e ∙ get-inserted number_key t.nodes inode node)
      ∙ sym (ap (with_form (shape_of t).form inode (form_of (Some node))) e ∙ with_form-here (shape_of t).form inode _)
  | inr apart ↦ ap form_of (get-insert_apart number_key t.nodes inode node other apart) ∙ sym (with_form-apart (shape_of t).form inode _ other apart)
]

-- the forms after a node is gone
pub form-drop_node : (t : Tree) (inode other : ℕ) → (shape_of (drop_node t inode)).form other ≡ with_form (shape_of t).form inode Absent other
form-drop_node t inode other = elim (cases_eq other inode) [
  | inl e ↦ ap form_of (ap (get (remove t.nodes inode)) e ∙ get-removed number_key t.nodes inode)
      ∙ sym (ap (with_form (shape_of t).form inode Absent) e ∙ with_form-here (shape_of t).form inode Absent)
  | inr apart ↦ ap form_of (get-remove_apart number_key t.nodes inode other apart) ∙ sym (with_form-apart (shape_of t).form inode Absent other apart)
]

-- a node put
pub shape-put_node : (t : Tree) (inode : ℕ) (node : Node)
    → shape_of (put_node t inode node) ≡ with_forms (shape_of t) (with_form (shape_of t).form inode (form_of (Some node)))
shape-put_node t inode node = λ i. record (shape_of t) { form = λ other. form-put_node t inode node other i }

-- a node gone
pub shape-drop_node : (t : Tree) (inode : ℕ) → shape_of (drop_node t inode) ≡ with_forms (shape_of t) (with_form (shape_of t).form inode Absent)
shape-drop_node t inode = λ i. record (shape_of t) { form = λ other. form-drop_node t inode other i }

-- a node of the form that was there before
pub shape-put_node_same : (t : Tree) (inode : ℕ) (node : Node) → form_of (Some node) ≡ (shape_of t).form inode → shape_of (put_node t inode node) ≡ shape_of t
shape-put_node_same t inode node same = shape-put_node t inode node ∙ ap (λ f. with_forms (shape_of t) (with_form (shape_of t).form inode f)) same
    ∙ (λ i. record (shape_of t) { form = λ other. with_form-same (shape_of t).form inode other i })

change_node_at : (t : Tree) (inode : ℕ) (change : Node → Node) (o : Option Node) → node_at t inode ≡ o
    → ((node : Node) → form_of (Some (change node)) ≡ form_of (Some node))
    → shape_of (set_node t inode (option_map change o)) ≡ shape_of t
change_node_at t inode change None e keeps_form = refl
change_node_at t inode change (Some node) e keeps_form = shape-put_node_same t inode (change node) (keeps_form node ∙ sym (ap form_of e))

-- a change that keeps forms
pub shape-change_node_same : (t : Tree) (inode : ℕ) (change : Node → Node) → ((node : Node) → form_of (Some (change node)) ≡ form_of (Some node))
    → shape_of (change_node t inode change) ≡ shape_of t
shape-change_node_same t inode change keeps_form = change_node_at t inode change (node_at t inode) refl keeps_form

-- a change of a node that is there
pub shape-change_node : (t : Tree) (inode : ℕ) (change : Node → Node) (node : Node) → node_at t inode ≡ Some node
    → shape_of (change_node t inode change) ≡ with_forms (shape_of t) (with_form (shape_of t).form inode (form_of (Some (change node))))
shape-change_node t inode change node there = ap (λ o. shape_of (set_node t inode (option_map change o))) there ∙ shape-put_node t inode (change node)

-- a directory whose entries changed
pub shape-touch : (t : Tree) (now dir : ℕ) → shape_of (touch t now dir) ≡ shape_of t
shape-touch t now dir = shape-change_node_same t dir (touched now) (λ node. refl)

-- an entry put
pub shape-put_entry : (t : Tree) (now : ℕ) (place : EntryKey) (inode : ℕ)
    → shape_of (put_entry t now place inode) ≡ with_entries (shape_of t) (insert t.entries place inode)
shape-put_entry t now place inode = ap (λ (s : Shape). with_entries s (insert t.entries place inode)) (shape-touch t now place.dir)

-- an entry gone
pub shape-take_entry : (t : Tree) (now : ℕ) (place : EntryKey) → shape_of (take_entry t now place) ≡ with_entries (shape_of t) (remove t.entries place)
shape-take_entry t now place = ap (λ (s : Shape). with_entries s (remove t.entries place)) (shape-touch t now place.dir)

-- forms by nodes

-- a node of another kind
abbrev of_kind : Node → Kind → Option Node
of_kind node kind = Some (record node { kind = kind })

-- an inode is there where it has a node
pub is_there-form : (o : Option Node) → is_there (form_of o) ≡ is_some o
is_there-form None = refl
is_there-form (Some node) = elim node.kind as (λ kind. is_there (form_of (of_kind node kind)) ≡ true) [
  | File content ↦ refl
  | Directory parent ↦ refl
  | Symlink target ↦ refl
]

-- it is a directory where its node has a parent
pub is_dir-form : (o : Option Node) → is_dir (form_of o) ≡ is_some (parent_of o)
is_dir-form None = refl
is_dir-form (Some node) = elim node.kind as (λ kind. is_dir (form_of (of_kind node kind)) ≡ is_some (parent_of (of_kind node kind))) [
  | File content ↦ refl
  | Directory parent ↦ refl
  | Symlink target ↦ refl
]

-- the test of a tree's directories is that of its forms
pub is_directory-form : (t : Tree) (inode : ℕ) → is_directory t inode ≡ is_dir ((shape_of t).form inode)
is_directory-form t inode = sym (is_dir-form (node_at t inode))

-- a form by the kind of a node
abbrev pub kind_form : Kind → Form
kind_form (File content) = Regular
kind_form (Directory parent) = Dir parent
kind_form (Symlink target) = Link

-- a node has the form of its kind
pub form-kind : (node : Node) → form_of (Some node) ≡ kind_form node.kind
form-kind node = elim node.kind as (λ kind. form_of (of_kind node kind) ≡ kind_form kind) [
  | File content ↦ refl
  | Directory parent ↦ refl
  | Symlink target ↦ refl
]

-- a directory, by its parent
pub form-parent : (o : Option Node) (parent : ℕ) → parent_of o ≡ Some parent → form_of o ≡ Dir parent
form-parent None parent h = absurd (cc)
form-parent (Some node) parent h = elim node.kind as (λ kind. parent_of (of_kind node kind) ≡ Some parent → form_of (of_kind node kind) ≡ Dir parent) [
  | File content ↦ λ e. absurd (cc)
  | Directory other ↦ λ e. ap Dir (same_Some other parent e)
  | Symlink target ↦ λ e. absurd (cc)
] h

-- a file, by its bytes
pub form-content : (o : Option Node) (content : Content) → content_in o ≡ Some content → form_of o ≡ Regular
form-content None content h = absurd (cc)
form-content (Some node) content h = elim node.kind as (λ kind. content_in (of_kind node kind) ≡ Some content → form_of (of_kind node kind) ≡ Regular) [
  | File own ↦ λ e. refl
  | Directory other ↦ λ e. absurd (cc)
  | Symlink target ↦ λ e. absurd (cc)
] h

-- an entry after a change: what it names is there as before, and a directory as before, and it still stands in a directory
pub entry_stays : (s after : Shape) (at : EntryKey) (inode : ℕ) → is_there (after.form inode) ≡ is_there (s.form inode)
    → is_dir (after.form inode) ≡ is_dir (s.form inode) → IsTrue (is_dir (after.form at.dir))
    → (IsTrue (is_hour at.dir) → names s inode ≡ 1 → names after inode ≡ 1) → Names s at inode → Names after at inode
entry_stays s after at inode there leaf within once n = record {
  there = there ∙ n.there;
  free = n.free;
  within = within;
  hour = n.hour;
  trashed = λ hour.
      let old = n.trashed hour in
      record { leaf = leaf ∙ old.leaf; only = once hour old.only; place = old.place; name = old.name };
}

-- an entry after a change that leaves what it names, and that it stands in a directory
pub names_kept : (s after : Shape) (at : EntryKey) (inode : ℕ) → after.form inode ≡ s.form inode → IsTrue (is_dir (after.form at.dir))
    → (IsTrue (is_hour at.dir) → names s inode ≡ 1 → names after inode ≡ 1) → Names s at inode → Names after at inode
names_kept s after at inode same within once n = entry_stays s after at inode (ap is_there same) (ap is_dir same) within once n

-- a leaf is neither the root nor the trash, nor one of its hours
pub leaf_apart : (s : Shape) (dir parent inode : ℕ) → s.form dir ≡ Dir parent → is_dir (s.form inode) ≡ false → inode ≢ dir
leaf_apart s dir parent inode is leaf same = false≢true (sym leaf ∙ ap (λ i. is_dir (s.form i)) same ∙ ap is_dir is)

-- what is neither the root nor the trash
pub not_top : (inode : ℕ) → inode ≢ ROOT → inode ≢ TRASH_ROOT → is_top inode ≡ false
not_top inode a b = or_from _ _ (ne_eqb inode ROOT a) (ne_eqb inode TRASH_ROOT b)
