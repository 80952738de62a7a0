-- A shape stays whole where an entry goes: with its inode, without it, or with a session that keeps the file.
use Rattle.std.proofs.Common.{◌≡◌, ◌≢◌, ℕ, zero, suc, ◌<◌, false, ◌⊎◌, None, inl, inr, Some, is_some, refl, sym, ap, ◌∙◌, arith}
use Rattle.std.specs.Prelude.{IsTrue}
use Rattle.std.proofs.lemmas.Bool.{false≢true, cases_Bool, cases_eq}
use Rattle.std.proofs.lemmas.Option.{same_Some}
use Rattle.jv_model.specs.declared.limits.TheConstants.{ROOT, TRASH_ROOT}
use Rattle.jv_model.specs.promise.FiniteMap.{get, insert, remove}
use Rattle.jv_model.specs.promise.tree.Tree.{EntryKey, entry_key, pair_key, SustainedFile}
use Rattle.jv_volume.specs.promise.Shape.{Absent, Regular, Dir, Shape, WholeShape, Names, Entered, Keeps, is_there, is_dir, named, keeps, names, is_top, Reaches}
use Rattle.jv_volume.proofs.shapes.ShapeMapLaws.{same_or_apart, get-inserted, get-insert_apart, get-removed, get-remove_apart, was_kept, count-remove_same, count-remove_apart, counted_once, with_form, with_form-here, with_form-apart, with_entries, pair_of, entry_stays}
use Rattle.jv_volume.proofs.shapes.ClimbLaws.{top_parent}

-- an entry that stays where its inode and its directory are what they were
pub entry_kept : (s after : Shape) (at : EntryKey) (inode : ℕ) → is_there (after.form inode) ≡ is_there (s.form inode)
    → is_dir (after.form inode) ≡ is_dir (s.form inode)
    → is_dir (after.form at.dir) ≡ is_dir (s.form at.dir) → (names s inode ≡ 1 → names after inode ≡ 1) → Names s at inode → Names after at inode
entry_kept s after at inode there leaf within one h = entry_stays s after at inode there leaf (within ∙ h.within) (λ hour. one) h

-- a directory's entry that stays, and stays alone
pub entered_kept : (s after : Shape) (dir parent : ℕ) → ((at : EntryKey) → named s at ≡ Some dir → named after at ≡ Some dir)
    → ((at : EntryKey) → named after at ≡ Some dir → named s at ≡ Some dir)
    → Entered s dir parent → Entered after dir parent
entered_kept s after dir parent to from h = record { name = h.name; is = to _ h.is; only = λ at e. h.only at (from at e) }

-- an inode in which no entry stands is no directory's parent
pub parent_apart : (s : Shape) (inode : ℕ) → WholeShape s → is_top inode ≡ false → ((at : EntryKey) (i : ℕ) → named s at ≡ Some i → at.dir ≢ inode)
    → (dir parent : ℕ) → s.form dir ≡ Dir parent → parent ≢ inode
parent_apart s inode whole low empty dir parent e = elim (cases_Bool (is_top dir)) [
  | inl top ↦ λ same. false≢true (sym low ∙ ap is_top (sym same ∙ top_parent s dir parent whole top e))
  | inr deep ↦ empty (record { dir = parent; name = (whole.entered dir parent e deep).name }) dir (whole.entered dir parent e deep).is
]

-- what a shape keeps where an inode loses an entry: other entries, at least those outside the trash itself, and other directories
pub record Without (s after : Shape) (place : EntryKey) (inode : ℕ) : Type 0 where
  pub gone : named after place ≡ None
  pub still : (at : EntryKey) (i : ℕ) → at ≢ place → at.dir ≢ TRASH_ROOT → named s at ≡ Some i → named after at ≡ Some i
  pub dirs : (dir parent : ℕ) → s.form dir ≡ Dir parent → dir ≢ inode → after.form dir ≡ Dir parent

-- where nothing but the entry went, or its inode with it
pub without_only : (s after : Shape) (place : EntryKey) (inode : ℕ) → after.entries ≡ remove s.entries place
    → ((i : ℕ) → i ≢ inode → after.form i ≡ s.form i) → Without s after place inode
without_only s after place inode same forms = record {
  gone = ap (λ m. get m place) same ∙ get-removed entry_key s.entries place;
  still = λ at i apart off h. ap (λ m. get m at) same ∙ get-remove_apart entry_key s.entries place at apart ∙ h;
  dirs = λ dir parent is apart. forms dir apart ∙ is;
}

-- what stands at the only entry of an inode
same_named : (s : Shape) (at : EntryKey) (i inode : ℕ) → named s at ≡ Some i → i ≡ inode → named s at ≡ Some inode
same_named s at i inode is e = is ∙ ap Some e

-- an inode that no entry names is another one
unnamed_apart : (s : Shape) (place : EntryKey) (inode : ℕ) → named s place ≡ Some inode → (i : ℕ) → names s i ≡ 0 → i ≢ inode
unnamed_apart s place inode is i none e = let one = counted_once s.entries place i (same_named s place inode i is (sym e)) in absurd (omega (arith, one, none))

-- without an inode and its entry
abbrev pub without_inode : Shape → EntryKey → ℕ → Shape
without_inode s place inode = record s { form = with_form s.form inode Absent; entries = remove s.entries place }

module _ (s : Shape) (place : EntryKey) (inode : ℕ) (whole : WholeShape s) (is : named s place ≡ Some inode)
    (only : (at : EntryKey) → named s at ≡ Some inode → at ≡ place) (empty : (at : EntryKey) (i : ℕ) → named s at ≡ Some i → at.dir ≢ inode) where
  abbrev after_loss : Shape
  after_loss = without_inode s place inode

  low : is_top inode ≡ false
  low = (whole.entry place inode is).free

  form_apart : (i : ℕ) → i ≢ inode → after_loss.form i ≡ s.form i
  form_apart i apart = with_form-apart s.form inode Absent i apart

  there_apart : (i : ℕ) → IsTrue (is_there (after_loss.form i)) → i ≢ inode
  there_apart i there e = false≢true (sym (ap is_there (ap after_loss.form e ∙ with_form-here s.form inode Absent)) ∙ there)

  dir_apart : (i parent : ℕ) → after_loss.form i ≡ Dir parent → i ≢ inode
  dir_apart i parent e = there_apart i (ap is_there e)

  named_apart : (at : EntryKey) (i : ℕ) → named after_loss at ≡ Some i → (i ≢ inode) × (named s at ≡ Some i)
  named_apart at i h =
      let kept : (at ≢ place) × (named s at ≡ Some i) = was_kept entry_key s.entries place at i h in
      (λ e. kept.0 (only at (same_named s at i inode kept.1 e)), kept.1)

  named_still : (at : EntryKey) (i : ℕ) → i ≢ inode → named s at ≡ Some i → named after_loss at ≡ Some i
  named_still at i apart h = get-remove_apart entry_key s.entries place at (λ e. apart (same_Some _ _ (sym h ∙ ap (named s) e ∙ is))) ∙ h

  names_apart : (i : ℕ) → i ≢ inode → names after_loss i ≡ names s i
  names_apart i apart = count-remove_apart s.entries place inode i is (λ e. apart (sym e))

  reaches_still : (steps dir : ℕ) → dir ≢ inode → Reaches s.form steps dir → Reaches after_loss.form steps dir
  reaches_still zero dir apart h = h
  reaches_still (suc steps) dir apart h = (h.0, form_apart dir apart ∙ h.1, reaches_still steps h.0 (parent_apart s inode whole low empty dir h.0 h.1) h.2)

  -- a shape stays whole without an inode that has one entry, and no entries in it
  pub whole-without_inode : WholeShape (without_inode s place inode)
  whole-without_inode = record {
    root_there = form_apart ROOT (λ e. false≢true (sym low ∙ ap is_top (sym e))) ∙ whole.root_there;
    trash_there = form_apart TRASH_ROOT (λ e. false≢true (sym low ∙ ap is_top (sym e))) ∙ whole.trash_there;
    entry = λ at i h.
        let k = named_apart at i h in
        entry_kept s after_loss at i (ap is_there (form_apart i k.0)) (ap is_dir (form_apart i k.0)) (ap is_dir (form_apart at.dir (empty at i k.1)))
        (λ one. names_apart i k.0 ∙ one) (whole.entry at i k.1);
    entered = λ dir parent e deep.
        let apart = dir_apart dir parent e in
        entered_kept s after_loss dir parent (λ at h. named_still at dir apart h) (λ at h. (named_apart at dir h).1)
        (whole.entered dir parent (sym (form_apart dir apart) ∙ e) deep);
    rooted = λ dir parent e.
        let apart = dir_apart dir parent e in
        let up = whole.rooted dir parent (sym (form_apart dir apart) ∙ e) in
        (up.0, reaches_still up.0 dir apart up.1);
    held = λ i there leaf none.
        let apart = there_apart i there in
        let kept = whole.held i (sym (ap is_there (form_apart i apart)) ∙ there) (sym (ap is_dir (form_apart i apart)) ∙ leaf) (sym (names_apart i apart)
        ∙ none) in
        record { sid = kept.sid; is = kept.is };
    sustains = λ sid i h.
        let k = whole.sustains sid i h in
        let apart : i ≢ inode = λ e. unnamed_apart s place inode is i k.unnamed e in
        record { session = k.session; file = form_apart i apart ∙ k.file; unnamed = names_apart i apart ∙ k.unnamed; one = k.one };
    hours = λ i there more.
        let apart = there_apart i there in
        let h = whole.hours i (sym (ap is_there (form_apart i apart)) ∙ there) more in
        (h.0, form_apart i apart ∙ h.1);
    below = λ i there less. let apart = there_apart i there in whole.below i (sym (ap is_there (form_apart i apart)) ∙ there) less;
    sessions = whole.sessions;
    inodes_end = whole.inodes_end;
    sessions_end = whole.sessions_end;
  }

-- what stays where a file's or a symlink's entry goes, and its inode stays
module _ (s : Shape) (place : EntryKey) (inode : ℕ) (whole : WholeShape s) (is : named s place ≡ Some inode) (leaf : is_dir (s.form inode) ≡ false) where
  abbrev less : Shape
  less = with_entries s (remove s.entries place)

  dir_not_it : (dir parent : ℕ) → s.form dir ≡ Dir parent → dir ≢ inode
  dir_not_it dir parent e same = false≢true (sym leaf ∙ ap is_dir (ap s.form (sym same) ∙ e))

  named_before : (at : EntryKey) (i : ℕ) → named less at ≡ Some i → named s at ≡ Some i
  named_before at i h = (was_kept entry_key s.entries place at i h).1

  named_after : (at : EntryKey) (i : ℕ) → i ≢ inode → named s at ≡ Some i → named less at ≡ Some i
  named_after at i apart h = get-remove_apart entry_key s.entries place at (λ e. apart (same_Some _ _ (sym h ∙ ap (named s) e ∙ is))) ∙ h

  names_less : (i : ℕ) → i ≢ inode → names less i ≡ names s i
  names_less i apart = count-remove_apart s.entries place inode i is (λ e. apart (sym e))

  entered_less : (dir parent : ℕ) → s.form dir ≡ Dir parent → is_top dir ≡ false → Entered less dir parent
  entered_less dir parent e deep =
      entered_kept s less dir parent (λ at h. named_after at dir (dir_not_it dir parent e) h) (λ at h. named_before at dir h)
      (whole.entered dir parent e deep)

  -- a shape stays whole without one of several entries of a file or a symlink
  pub whole-without_entry : 1 < names s inode → WholeShape (with_entries s (remove s.entries place))
  whole-without_entry several = record {
    root_there = whole.root_there;
    trash_there = whole.trash_there;
    entry = λ at i h. entry_kept s less at i refl refl refl (one_still i) (whole.entry at i (named_before at i h));
    entered = entered_less;
    rooted = whole.rooted;
    held = λ i there is_leaf none.
        let kept = whole.held i there is_leaf (none_before i none) in
        record { sid = kept.sid; is = kept.is };
    sustains = λ sid i h.
        let k = whole.sustains sid i h in
        record { session = k.session; file = k.file; unnamed = names_less i (unnamed_apart s place inode is i k.unnamed) ∙ k.unnamed; one = k.one };
    hours = whole.hours;
    below = whole.below;
    sessions = whole.sessions;
    inodes_end = whole.inodes_end;
    sessions_end = whole.sessions_end;
  }
    where
      one_apart : (i : ℕ) → names s i ≡ 1 → i ≢ inode
      one_apart i one e = absurd (omega (arith, several, ap (names s) e, one))

      one_still : (i : ℕ) → names s i ≡ 1 → names less i ≡ 1
      one_still i one = names_less i (one_apart i one) ∙ one

      none_before : (i : ℕ) → names less i ≡ 0 → names s i ≡ 0
      none_before i none = elim (cases_eq i inode) [
        | inl e ↦ absurd (omega (arith, several, ap (names less) e, none, count-remove_same s.entries place inode is))
        | inr apart ↦ sym (names_less i apart) ∙ none
      ]

-- without an entry of a file that a session keeps from then on
abbrev pub sustained_shape : Shape → EntryKey → ℕ → ℕ → Shape
sustained_shape s place sid inode = record s { entries = remove s.entries place; sustained = insert s.sustained (record { sid = sid; inode = inode }) tt }

-- what a session keeps then
keeps_cases : (s : Shape) (place : EntryKey) (sid inode other i : ℕ) → IsTrue (keeps (sustained_shape s place sid inode) other i)
    → ((other ≡ sid) × (i ≡ inode)) ⊎ IsTrue (keeps s other i)
keeps_cases s place sid inode other i h = elim (same_or_apart pair_key (pair_of other i) (pair_of sid inode)) [
  | inl e ↦ inl (ap (λ (p : SustainedFile). p.sid) e, ap (λ (p : SustainedFile). p.inode) e)
  | inr apart ↦ inr (sym (ap is_some (get-insert_apart pair_key s.sustained (pair_of sid inode) tt (pair_of other i) apart)) ∙ h)
]

keeps_new : (s : Shape) (place : EntryKey) (sid inode : ℕ) → IsTrue (keeps (sustained_shape s place sid inode) sid inode)
keeps_new s place sid inode = ap is_some (get-inserted pair_key s.sustained (pair_of sid inode) tt)

keeps_old : (s : Shape) (place : EntryKey) (sid inode other i : ℕ) → IsTrue (keeps s other i) → IsTrue (keeps (sustained_shape s place sid inode) other i)
keeps_old s place sid inode other i h = elim (same_or_apart pair_key (pair_of other i) (pair_of sid inode)) [
  | inl e ↦ ap (λ p. is_some (get (insert s.sustained (pair_of sid inode) tt) p)) e ∙ keeps_new s place sid inode
  | inr apart ↦ ap is_some (get-insert_apart pair_key s.sustained (pair_of sid inode) tt (pair_of other i) apart) ∙ h
]

module _ (s : Shape) (place : EntryKey) (sid inode : ℕ) (whole : WholeShape s) (is : named s place ≡ Some inode) (file : s.form inode ≡ Regular)
    (one : names s inode ≡ 1) (session : IsTrue (s.in_session sid)) where
  abbrev kept : Shape
  kept = sustained_shape s place sid inode

  file_leaf : is_dir (s.form inode) ≡ false
  file_leaf = ap is_dir file

  names_kept_apart : (i : ℕ) → i ≢ inode → names kept i ≡ names s i
  names_kept_apart = names_less s place inode whole is file_leaf

  unnamed_now : names kept inode ≡ 0
  unnamed_now = omega (arith, count-remove_same s.entries place inode is, one)

  kept_by_none : (other : ℕ) → IsTrue (keeps s other inode) → ⊥
  kept_by_none other h = unnamed_apart s place inode is inode (whole.sustains other inode h).unnamed refl

  keeps_it : (other i : ℕ) → (other ≡ sid) × (i ≡ inode) → Keeps kept other i
  keeps_it other i e = record {
    session = ap s.in_session e.0 ∙ session;
    file = ap s.form e.1 ∙ file;
    unnamed = ap (names kept) e.1 ∙ unnamed_now;
    one = λ third h. elim (keeps_cases s place sid inode third i h) [
      | inl same ↦ same.0 ∙ sym e.0
      | inr old ↦ absurd (kept_by_none third (ap (keeps s third) (sym e.1) ∙ old))
    ];
  }

  keeps_other : (other i : ℕ) → IsTrue (keeps s other i) → Keeps kept other i
  keeps_other other i h =
      let k = whole.sustains other i h in
      let apart = unnamed_apart s place inode is i k.unnamed in
      record {
        session = k.session;
        file = k.file;
        unnamed = names_kept_apart i apart ∙ k.unnamed;
        one = λ third g. elim (keeps_cases s place sid inode third i g) [
          | inl same ↦ absurd (apart same.1)
          | inr old ↦ k.one third old
        ];
      }

  -- a shape stays whole where a session keeps a file that lost its last entry
  pub whole-sustained : WholeShape (sustained_shape s place sid inode)
  whole-sustained = record {
    root_there = whole.root_there;
    trash_there = whole.trash_there;
    entry = λ at i h.
        let apart : i ≢ inode = λ e. unnamed_named at i h e in
        entry_kept s kept at i refl refl refl (λ e. names_kept_apart i apart ∙ e) (whole.entry at i (named_before s place inode whole is file_leaf at i h));
    entered = λ dir parent e deep. let old = entered_less s place inode whole is file_leaf dir parent e deep in
        record { name = old.name; is = old.is; only = old.only };
    rooted = whole.rooted;
    held = λ i there leaf none. elim (cases_eq i inode) [
      | inl e ↦ record { sid = sid; is = ap (keeps kept sid) e ∙ keeps_new s place sid inode }
      | inr apart ↦
          let old = whole.held i there leaf (sym (names_kept_apart i apart) ∙ none) in
          record { sid = old.sid; is = keeps_old s place sid inode old.sid i old.is }
    ];
    sustains = λ other i h. elim (keeps_cases s place sid inode other i h) [
      | inl e ↦ keeps_it other i e
      | inr old ↦ keeps_other other i old
    ];
    hours = whole.hours;
    below = whole.below;
    sessions = whole.sessions;
    inodes_end = whole.inodes_end;
    sessions_end = whole.sessions_end;
  }
    where
      unnamed_named : (at : EntryKey) (i : ℕ) → named kept at ≡ Some i → i ≢ inode
      unnamed_named at i h e = let some = counted_once kept.entries at inode (h ∙ ap Some e) in absurd (omega (arith, some, unnamed_now))
