-- A new inode under a new entry keeps a tree whole: a file, a symlink, a directory, the directory of an hour.
use Rattle.std.proofs.Common.{◌≡◌, ◌≢◌, ℕ, suc, ◌+◌, ◌≤◌, ◌<◌, true, false, inl, inr, List, None, Some, sym, ap, subst, ◌∙◌, arith}
use Rattle.std.specs.Prelude.{IsTrue, nat_lt}
use Rattle.std.proofs.lemmas.Bool.{or_parts, and_left, not-true, false≢true, le-ltb, leb-false, ltb-true, lt-ltb, cases_eq, false_from_ne_true}
use Rattle.jv_model.specs.declared.limits.TheConstants.{FULL_COUNT, ROOT, TRASH_ROOT}
use Rattle.jv_model.specs.promise.FiniteMap.{insert}
use Rattle.jv_model.specs.promise.tree.Tree.{Tree, Node, Content, File, Directory, Symlink, EntryKey, entry_key, new_node, node_at, is_directory}
use Rattle.jv_model.specs.promise.tree.Changes.{put_node, with_node}
use Rattle.jv_model.specs.promise.tree.Making.{may_be_new, with_next}
use Rattle.jv_model.proofs.TestLaws.{none_if}
use Rattle.jv_volume.specs.promise.Shape.{Form, Absent, Dir, Shape, form_of, is_there, is_dir, shape_of, named, keeps, names, is_top, is_hour, Reaches, NamesHour, Names, Entered, Keeps, IsKept, WholeShape}
use Rattle.jv_volume.proofs.shapes.ShapeMapLaws.{stays_at, get-inserted, was_inserted, count-insert_apart, uncounted, with_form, with_form-here, with_form-apart, apart_by_form, there_of_dir, parent_of_dir, reaches_lift, with_entries, shape-put_node, shape-put_entry, is_there-form, is_dir-form, names_kept, not_top}

-- a shape with a new inode under a new entry, and a next inode
abbrev pub with_new : Shape → EntryKey → ℕ → Form → ℕ → Shape
with_new s place new f next = record s { form = with_form s.form new f; entries = insert s.entries place new; next_inode = next }

-- what lets an inode be new, of this form, under this entry
pub record MayEnter (s : Shape) (place : EntryKey) (new : ℕ) (f : Form) (next : ℕ) : Type 0 where
  pub absent : s.form new ≡ Absent
  pub free : named s place ≡ None
  pub within : IsTrue (is_dir (s.form place.dir))
  pub there : IsTrue (is_there f)
  pub parent : (parent : ℕ) → f ≡ Dir parent → parent ≡ place.dir
  pub hour : place.dir ≡ TRASH_ROOT → NamesHour place new
  pub apart : is_hour place.dir ≡ false
  pub hours : IsTrue (nat_lt TRASH_ROOT new) → IsTrue (is_hour new) × (f ≡ Dir TRASH_ROOT)
  pub below : IsTrue (nat_lt new TRASH_ROOT) → new < next
  pub grows : s.next_inode ≤ next
  pub ends : next ≤ FULL_COUNT

module _ (s : Shape) (place : EntryKey) (new : ℕ) (f : Form) (next : ℕ) (w : WholeShape s) (h : MayEnter s place new f next) where
  abbrev after : Shape
  after = with_new s place new f next

  form_after : (inode : ℕ) → inode ≢ new → after.form inode ≡ s.form inode
  form_after inode apart = with_form-apart s.form new f inode apart

  form_new : after.form new ≡ f
  form_new = with_form-here s.form new f

  was_there : (inode : ℕ) → IsTrue (is_there (s.form inode)) → inode ≢ new
  was_there inode there = apart_by_form s.form new inode h.absent there

  dir_after : (dir parent : ℕ) → s.form dir ≡ Dir parent → after.form dir ≡ Dir parent
  dir_after dir parent is = form_after dir (was_there dir (ap is_there is)) ∙ is

  -- nothing names it, and no session keeps it
  unnamed : (at : EntryKey) → named s at ≢ Some new
  unnamed at is = false≢true (sym (ap is_there h.absent) ∙ (w.entry at new is).there)

  unkept : (sid : ℕ) → keeps s sid new ≡ true → ⊥
  unkept sid is = let file = (w.sustains sid new is).file in let absent = h.absent in absurd (cc)

  names_after : (inode : ℕ) → inode ≢ new → names after inode ≡ names s inode
  names_after inode apart = count-insert_apart s.entries place new inode h.free (λ e. apart (sym e))

  within_after : IsTrue (is_dir (after.form place.dir))
  within_after = ap is_dir (form_after place.dir (was_there place.dir (there_of_dir _ h.within))) ∙ h.within

  new_is_entry : Names after place new
  new_is_entry = record {
    there = ap is_there form_new ∙ h.there;
    free = not_top new (λ e. was_there ROOT (ap is_there w.root_there) (sym e)) (λ e. was_there TRASH_ROOT (ap is_there w.trash_there) (sym e));
    within = within_after;
    hour = h.hour;
    trashed = λ hour. absurd (false≢true (sym h.apart ∙ hour));
  }

  old_entry : (at : EntryKey) (inode : ℕ) → named s at ≡ Some inode → Names after at inode
  old_entry at inode is =
      let n = w.entry at inode is in
      let apart = was_there inode n.there in
      names_kept s after at inode (form_after inode apart) (ap is_dir (form_after at.dir (was_there at.dir (there_of_dir _ n.within))) ∙ n.within)
      (λ hour one. names_after inode apart ∙ one) n

  entry_after : (at : EntryKey) (inode : ℕ) → named after at ≡ Some inode → Names after at inode
  entry_after at inode is = elim (was_inserted entry_key s.entries place new at inode is) [
    | inl e ↦ subst (λ x. Names after x inode) (sym e.0) (subst (Names after place) (sym e.1) new_is_entry)
    | inr e ↦ old_entry at inode e.1
  ]

  new_entered : Entered after new place.dir
  new_entered = record {
    name = place.name;
    is = get-inserted entry_key s.entries place new;
    only = λ at is. elim (was_inserted entry_key s.entries place new at new is) [
      | inl e ↦ e.0
      | inr e ↦ absurd (unnamed at e.1)
    ];
  }

  old_entered : (dir parent : ℕ) → dir ≢ new → Entered s dir parent → Entered after dir parent
  old_entered dir parent apart old = record {
    name = old.name;
    is = stays_at entry_key s.entries place new (record { dir = parent; name = old.name }) dir h.free old.is;
    only = λ at is. elim (was_inserted entry_key s.entries place new at dir is) [
      | inl e ↦ absurd (apart e.1)
      | inr e ↦ old.only at e.1
    ];
  }

  entered_after : (dir parent : ℕ) → after.form dir ≡ Dir parent → is_top dir ≡ false → Entered after dir parent
  entered_after dir parent is top = elim (cases_eq dir new) [
    | inl e ↦
        let here : f ≡ Dir parent = sym form_new ∙ ap after.form (sym e) ∙ is in
        subst (λ d. Entered after d parent) (sym e) (subst (Entered after new) (sym (h.parent parent here)) new_entered)
    | inr apart ↦ old_entered dir parent apart (w.entered dir parent (sym (form_after dir apart) ∙ is) top)
  ]

  old_rooted : (dir parent : ℕ) → s.form dir ≡ Dir parent → (steps : ℕ) × Reaches after.form steps dir
  old_rooted dir parent is = let old = w.rooted dir parent is in (old.0, reaches_lift s.form after.form dir_after old.0 dir old.1)

  new_rooted : f ≡ Dir place.dir → (steps : ℕ) × Reaches after.form steps new
  new_rooted is =
      let above = parent_of_dir (s.form place.dir) h.within in
      let way = old_rooted place.dir above.0 above.1 in
      (suc way.0, (place.dir, form_new ∙ is, way.1))

  rooted_after : (dir parent : ℕ) → after.form dir ≡ Dir parent → (steps : ℕ) × Reaches after.form steps dir
  rooted_after dir parent is = elim (cases_eq dir new) [
    | inl e ↦
        let here : f ≡ Dir parent = sym form_new ∙ ap after.form (sym e) ∙ is in
        subst (λ d. (steps : ℕ) × Reaches after.form steps d) (sym e) (new_rooted (here ∙ ap Dir (h.parent parent here)))
    | inr apart ↦ old_rooted dir parent (sym (form_after dir apart) ∙ is)
  ]

  held_after : (inode : ℕ) → IsTrue (is_there (after.form inode)) → is_dir (after.form inode) ≡ false → names after inode ≡ 0 → IsKept after inode
  held_after inode there leaf none =
      let apart : inode ≢ new = λ e. uncounted after.entries place inode none (get-inserted entry_key s.entries place new ∙ ap Some (sym e)) in
      let same = form_after inode apart in
      let kept = w.held inode (ap is_there (sym same) ∙ there) (ap is_dir (sym same) ∙ leaf) (sym (names_after inode apart) ∙ none) in
      record { sid = kept.sid; is = kept.is }

  sustains_after : (sid inode : ℕ) → IsTrue (keeps after sid inode) → Keeps after sid inode
  sustains_after sid inode is =
      let old = w.sustains sid inode is in
      let apart : inode ≢ new = was_there inode (ap is_there old.file) in
      record { session = old.session; file = form_after inode apart ∙ old.file; unnamed = names_after inode apart ∙ old.unnamed; one = old.one }

  hours_after : (inode : ℕ) → IsTrue (is_there (after.form inode)) → IsTrue (nat_lt TRASH_ROOT inode)
      → IsTrue (is_hour inode) × (after.form inode ≡ Dir TRASH_ROOT)
  hours_after inode there above = elim (cases_eq inode new) [
    | inl e ↦
        let both = h.hours (ap (nat_lt TRASH_ROOT) (sym e) ∙ above) in
        (ap is_hour e ∙ both.0, ap after.form e ∙ form_new ∙ both.1)
    | inr apart ↦
        let both = w.hours inode (ap is_there (sym (form_after inode apart)) ∙ there) above in
        (both.0, form_after inode apart ∙ both.1)
  ]

  below_after : (inode : ℕ) → IsTrue (is_there (after.form inode)) → IsTrue (nat_lt inode TRASH_ROOT) → inode < next
  below_after inode there low = elim (cases_eq inode new) [
    | inl e ↦ subst (λ i. i < next) (sym e) (h.below (ap (λ i. nat_lt i TRASH_ROOT) (sym e) ∙ low))
    | inr apart ↦
        let old = w.below inode (ap is_there (sym (form_after inode apart)) ∙ there) low in
        let grows = h.grows in
        omega (arith, old, grows)
  ]

  -- a new inode under a new entry
  pub whole-with_new : WholeShape (with_new s place new f next)
  whole-with_new = record {
    root_there = dir_after ROOT ROOT w.root_there;
    trash_there = dir_after TRASH_ROOT ROOT w.trash_there;
    entry = entry_after;
    entered = entered_after;
    rooted = rooted_after;
    held = held_after;
    sustains = sustains_after;
    hours = hours_after;
    below = below_after;
    sessions = w.sessions;
    inodes_end = h.ends;
    sessions_end = w.sessions_end;
  }

-- nodes under new entries

-- where a new entry may stand, it isn't in the trash
pub new_below : (place : EntryKey) → may_be_new place ≡ true → place.dir < TRASH_ROOT
new_below place may = leb-false TRASH_ROOT place.dir ((or_parts _ _ (not-true _ may)).0)

-- what lies below the trash is no hour
pub not_hour_below : (dir : ℕ) → dir < TRASH_ROOT → is_hour dir ≡ false
not_hour_below dir low = and_left _ _ (le-ltb TRASH_ROOT dir (omega (arith, low)))

-- a new node under a new entry
pub shape-with_node : (t : Tree) (now : ℕ) (place : EntryKey) (inode : ℕ) (node : Node)
    → shape_of (with_node t now place inode node) ≡ with_new (shape_of t) place inode (form_of (Some node)) t.next_inode
shape-with_node t now place inode node = shape-put_entry (put_node t inode node) now place inode
    ∙ ap (λ (s : Shape). with_entries s (insert t.entries place inode)) (shape-put_node t inode node)

-- the next inode under a new entry
pub shape-with_next : (t : Tree) (now : ℕ) (place : EntryKey) (node : Node)
    → shape_of (with_next t now place node) ≡ with_new (shape_of t) place t.next_inode (form_of (Some node)) (t.next_inode + 1)
shape-with_next t now place node = ap (λ (s : Shape). record s { next_inode = t.next_inode + 1 }) (shape-with_node t now place t.next_inode node)

-- the next inode isn't there
pub next_absent : (t : Tree) → WholeShape (shape_of t) → node_at t t.next_inode ≡ None
next_absent t w = none_if (node_at t t.next_inode) (false_from_ne_true _ (λ there.
    let less = w.below t.next_inode (is_there-form (node_at t t.next_inode) ∙ there) (lt-ltb t.next_inode TRASH_ROOT (omega (arith, w.inodes_end))) in
    absurd (omega (arith, less))))

module _ (t : Tree) (now : ℕ) (place : EntryKey) (w : WholeShape (shape_of t)) (free : named (shape_of t) place ≡ None)
    (within : is_directory t place.dir ≡ true) (may : may_be_new place ≡ true) (room : t.next_inode < FULL_COUNT) where
  -- the next inode, of any kind that has this parent where it is a directory
  pub whole-with_next : (node : Node) → ((parent : ℕ) → form_of (Some node) ≡ Dir parent → parent ≡ place.dir)
      → WholeShape (shape_of (with_next t now place node))
  whole-with_next node parent =
      let low : place.dir < TRASH_ROOT = new_below place may in
      let new = whole-with_new (shape_of t) place t.next_inode (form_of (Some node)) (t.next_inode + 1) w in
      subst WholeShape (sym (shape-with_next t now place node)) (new (record {
        absent = ap form_of (next_absent t w);
        free = free;
        within = is_dir-form (node_at t place.dir) ∙ within;
        there = is_there-form (Some node);
        parent = parent;
        hour = λ e. absurd (omega (arith, e, low));
        apart = not_hour_below place.dir low;
        hours = λ above. let high = ltb-true TRASH_ROOT t.next_inode above in absurd (omega (arith, high, room));
        below = λ _. omega arith;
        grows = omega arith;
        ends = omega (arith, room);
      }))

  -- a file
  pub whole-with_next_file : (content : Content) (mode : ℕ) → WholeShape (shape_of (with_next t now place (new_node (File content) mode now)))
  whole-with_next_file content mode = whole-with_next (new_node (File content) mode now) (λ parent e. absurd (cc))

  -- a symlink
  pub whole-with_next_symlink : (target : List ℕ) (mode : ℕ) → WholeShape (shape_of (with_next t now place (new_node (Symlink target) mode now)))
  whole-with_next_symlink target mode = whole-with_next (new_node (Symlink target) mode now) (λ parent e. absurd (cc))

  -- a directory
  pub whole-with_next_directory : (mode : ℕ) → WholeShape (shape_of (with_next t now place (new_node (Directory place.dir) mode now)))
  whole-with_next_directory mode = whole-with_next (new_node (Directory place.dir) mode now) (λ parent e. let same : Dir place.dir ≡ Dir parent = e in cc)
