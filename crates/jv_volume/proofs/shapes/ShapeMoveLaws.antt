-- A shape stays whole where an inode moves from one entry to another.
use Rattle.std.proofs.Common.{◌≡◌, ◌≢◌, ℕ, zero, suc, Bool, false, ◌⊎◌, inl, inr, None, Some, refl, sym, ap, subst, ◌∙◌}
use Rattle.std.specs.Prelude.{IsTrue}
use Rattle.std.proofs.lemmas.Bool.{false≢true, cases_eq}
use Rattle.std.proofs.lemmas.Option.{same_Some, none-some}
use Rattle.jv_model.specs.declared.limits.TheConstants.{ROOT, TRASH_ROOT}
use Rattle.jv_model.specs.promise.FiniteMap.{get, insert, remove}
use Rattle.jv_model.specs.promise.tree.Tree.{EntryKey, entry_key}
use Rattle.jv_volume.specs.promise.Shape.{Form, Absent, Regular, Link, Dir, Shape, WholeShape, Names, NamesTrashed, Entered, is_there, is_dir, named, names, is_top, is_hour, Reaches}
use Rattle.jv_volume.proofs.shapes.ShapeMapLaws.{get-inserted, get-insert_apart, get-remove_apart, was_inserted, was_kept, count-insert, count-remove, with_form, with_form-here, with_form-apart, parent_of_dir}
use Rattle.jv_volume.proofs.shapes.ClimbLaws.{Avoids, dir_parent, avoids_beside, reaches_avoiding}
use Rattle.jv_volume.proofs.shapes.ShapeLossLaws.{entry_kept, entered_kept}
use Rattle.jv_volume.proofs.names.HourNameLaws.{hour_is_deep}

-- what an inode is under another directory
abbrev pub form_under : ℕ → Form → Form
form_under dir Absent = Absent
form_under dir Regular = Regular
form_under dir Link = Link
form_under dir (Dir parent) = Dir dir

there_under : (dir : ℕ) (f : Form) → is_there (form_under dir f) ≡ is_there f
there_under dir Absent = refl
there_under dir Regular = refl
there_under dir Link = refl
there_under dir (Dir parent) = refl

dir_under : (dir : ℕ) (f : Form) → is_dir (form_under dir f) ≡ is_dir f
dir_under dir Absent = refl
dir_under dir Regular = refl
dir_under dir Link = refl
dir_under dir (Dir parent) = refl

parent_under : (dir parent : ℕ) (f : Form) → form_under dir f ≡ Dir parent → parent ≡ dir
parent_under dir parent Absent e = absurd (false≢true (ap is_dir e))
parent_under dir parent Regular e = absurd (false≢true (ap is_dir e))
parent_under dir parent Link e = absurd (false≢true (ap is_dir e))
parent_under dir parent (Dir own) e = sym (dir_parent dir parent e)

-- an inode moved from one entry to another
abbrev pub moved_shape : Shape → EntryKey → ℕ → EntryKey → Shape
moved_shape s from inode to = record s { form = with_form s.form inode (form_under to.dir (s.form inode)); entries = insert (remove s.entries from) to inode }

-- An entry may move to a free place of a directory that isn't below its inode. Hours stay, and into an hour come only the
-- last entries of files and symlinks, under their names.
pub record MayMove (s : Shape) (from : EntryKey) (inode : ℕ) (to : EntryKey) : Type 0 where
  pub is : named s from ≡ Some inode
  pub free : named s to ≡ None
  pub within : IsTrue (is_dir (s.form to.dir))
  pub leaves : from.dir ≢ TRASH_ROOT
  pub enters : to.dir ≢ TRASH_ROOT
  pub trashed : IsTrue (is_hour to.dir) → NamesTrashed s to inode
  pub steps : ℕ
  pub avoids : Avoids s.form inode steps to.dir

module _ (s : Shape) (from : EntryKey) (inode : ℕ) (to : EntryKey) (whole : WholeShape s) (may : MayMove s from inode to) where
  abbrev after : Shape
  after = moved_shape s from inode to

  own : Names s from inode
  own = whole.entry from inode may.is

  top_apart : (top : ℕ) → IsTrue (is_top top) → top ≢ inode
  top_apart top h e = false≢true (sym own.free ∙ ap is_top (sym e) ∙ h)

  form_here : after.form inode ≡ form_under to.dir (s.form inode)
  form_here = with_form-here s.form inode (form_under to.dir (s.form inode))

  form_apart : (i : ℕ) → i ≢ inode → after.form i ≡ s.form i
  form_apart i apart = with_form-apart s.form inode (form_under to.dir (s.form inode)) i apart

  -- what a move leaves of each form
  same_of : (g : Form → Bool) → (g (form_under to.dir (s.form inode)) ≡ g (s.form inode)) → (i : ℕ) → g (after.form i) ≡ g (s.form i)
  same_of g under i = elim (cases_eq i inode) [
    | inl e ↦ ap (λ q. g (after.form q)) e ∙ ap g form_here ∙ under ∙ ap (λ q. g (s.form q)) (sym e)
    | inr apart ↦ ap g (form_apart i apart)
  ]

  there_same : (i : ℕ) → is_there (after.form i) ≡ is_there (s.form i)
  there_same = same_of is_there (there_under to.dir (s.form inode))

  -- directories stay directories
  pub dir_same : (i : ℕ) → is_dir (after.form i) ≡ is_dir (s.form i)
  dir_same = same_of is_dir (dir_under to.dir (s.form inode))

  file_same : (i : ℕ) → s.form i ≡ Regular → after.form i ≡ Regular
  file_same i file = elim (cases_eq i inode) [
    | inl e ↦ ap after.form e ∙ form_here ∙ ap (form_under to.dir) (ap s.form (sym e) ∙ file)
    | inr apart ↦ form_apart i apart ∙ file
  ]

  named_cases : (at : EntryKey) (i : ℕ) → named after at ≡ Some i → ((at ≡ to) × (i ≡ inode)) ⊎ ((at ≢ from) × (named s at ≡ Some i))
  named_cases at i h = elim (was_inserted entry_key (remove s.entries from) to inode at i h) [
    | inl e ↦ inl e
    | inr old ↦ inr (was_kept entry_key s.entries from at i old.1)
  ]

  named_moved : named after to ≡ Some inode
  named_moved = get-inserted entry_key (remove s.entries from) to inode

  named_other : (at : EntryKey) (i : ℕ) → i ≢ inode → named s at ≡ Some i → named after at ≡ Some i
  named_other at i apart h =
      get-insert_apart entry_key (remove s.entries from) to inode at (λ e. none-some _ (sym may.free ∙ ap (named s) (sym e) ∙ h))
      ∙ get-remove_apart entry_key s.entries from at (λ e. apart (same_Some _ _ (sym h ∙ ap (named s) e ∙ may.is))) ∙ h

  free_then : get (remove s.entries from) to ≡ None
  free_then = get-remove_apart entry_key s.entries from to (λ e. none-some _ (sym may.free ∙ ap (named s) e ∙ may.is)) ∙ may.free

  names_same : (i : ℕ) → names after i ≡ names s i
  names_same i = count-insert (remove s.entries from) to inode i free_then ∙ count-remove s.entries from inode i may.is

  -- the entry that moved
  moved_entry : Names after to inode
  moved_entry = record {
    there = there_same inode ∙ own.there;
    free = own.free;
    within = dir_same to.dir ∙ may.within;
    hour = λ e. absurd (may.enters e);
    trashed = λ e. let t = may.trashed e in record { leaf = dir_same inode ∙ t.leaf; only = names_same inode ∙ t.only; place = t.place; name = t.name };
  }

  -- the only entry of a directory that moved
  moved_only : IsTrue (is_dir (s.form inode)) → (at : EntryKey) → named after at ≡ Some inode → at ≡ to
  moved_only dir at h = elim (named_cases at inode h) [
    | inl e ↦ e.0
    | inr old ↦
        let parent = parent_of_dir (s.form inode) dir in
        let only = (whole.entered inode parent.0 parent.1 own.free).only in
        absurd (old.0 (only at old.1 ∙ sym (only from may.is)))
  ]

  entered_moved : (parent : ℕ) → after.form inode ≡ Dir parent → Entered after inode parent
  entered_moved parent e =
      let same : parent ≡ to.dir = parent_under to.dir parent (s.form inode) (sym form_here ∙ e) in
      subst (Entered after inode) (sym same) (record { name = to.name; is = named_moved; only = moved_only (sym (dir_same inode) ∙ ap is_dir e) })

  reaches_there : (steps : ℕ) × Reaches after.form steps to.dir
  reaches_there =
      let up = avoids_beside s.form after.form inode inode (λ q parent apart away e. form_apart q apart
      ∙ e) may.steps may.steps to.dir may.avoids may.avoids in
      (up.0, reaches_avoiding after.form inode up.0 to.dir up.1)

  reaches_moved : (steps dir : ℕ) → Reaches s.form steps dir → (n : ℕ) × Reaches after.form n dir
  reaches_moved zero dir h = (0, h)
  reaches_moved (suc steps) dir h = elim (cases_eq dir inode) [
    | inl e ↦ (suc reaches_there.0, (to.dir, ap after.form e ∙ form_here ∙ ap (form_under to.dir) (ap s.form (sym e) ∙ h.1), reaches_there.1))
    | inr apart ↦ let up = reaches_moved steps h.0 h.2 in (suc up.0, (h.0, form_apart dir apart ∙ h.1, up.1))
  ]

  -- an hour's directory doesn't move
  no_hour : (i : ℕ) → s.form i ≡ Dir TRASH_ROOT → is_top i ≡ false → i ≢ inode
  no_hour i is deep e =
      let entered = whole.entered i TRASH_ROOT is deep in
      may.leaves (ap (λ (at : EntryKey). at.dir) (entered.only from (may.is ∙ ap Some (sym e))))

  -- a shape stays whole where an entry moves that may move
  pub whole-moved : WholeShape (moved_shape s from inode to)
  whole-moved = record {
    root_there = form_apart ROOT (top_apart ROOT refl) ∙ whole.root_there;
    trash_there = form_apart TRASH_ROOT (top_apart TRASH_ROOT refl) ∙ whole.trash_there;
    entry = λ at i h. elim (named_cases at i h) [
      | inl e ↦ subst (Names after at) (sym e.1) (subst (λ q. Names after q inode) (sym e.0) moved_entry)
      | inr old ↦ entry_kept s after at i (there_same i) (dir_same i) (dir_same at.dir) (λ one. names_same i ∙ one) (whole.entry at i old.1)
    ];
    entered = λ dir parent e deep. elim (cases_eq dir inode) [
      | inl same ↦ subst (λ q. Entered after q parent) (sym same) (entered_moved parent (ap after.form (sym same) ∙ e))
      | inr apart ↦
          entered_kept s after dir parent (λ at h. named_other at dir apart h) (λ at h. named_before at dir apart h)
          (whole.entered dir parent (sym (form_apart dir apart) ∙ e) deep)
    ];
    rooted = λ dir parent e.
        let before = parent_of_dir (s.form dir) (sym (dir_same dir) ∙ ap is_dir e) in
        let up = whole.rooted dir before.0 before.1 in
        reaches_moved up.0 dir up.1;
    held = λ i there leaf none.
        let kept = whole.held i (sym (there_same i) ∙ there) (sym (dir_same i) ∙ leaf) (sym (names_same i) ∙ none) in
        record { sid = kept.sid; is = kept.is };
    sustains = λ sid i h.
        let k = whole.sustains sid i h in
        record { session = k.session; file = file_same i k.file; unnamed = names_same i ∙ k.unnamed; one = k.one };
    hours = λ i there more.
        let h = whole.hours i (sym (there_same i) ∙ there) more in
        (h.0, form_apart i (no_hour i h.1 (hour_is_deep i h.0)) ∙ h.1);
    below = λ i there less. whole.below i (sym (there_same i) ∙ there) less;
    sessions = whole.sessions;
    inodes_end = whole.inodes_end;
    sessions_end = whole.sessions_end;
  }
    where
      named_before : (at : EntryKey) (i : ℕ) → i ≢ inode → named after at ≡ Some i → named s at ≡ Some i
      named_before at i apart h = elim (named_cases at i h) [
        | inl e ↦ absurd (apart e.1)
        | inr old ↦ old.1
      ]
