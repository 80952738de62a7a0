-- What lets a file or a symlink that lost its last entry go to the trash: the steps' premises, over the tree that it
-- was whole in.
use Rattle.std.proofs.Common.{◌≡◌, ◌≢◌, ℕ, ◌+◌, ◌<◌, ◌≤◌, Bool, true, false, ◌&&◌, ◌==◌, inl, inr, None, Some, is_some, Ok, refl, sym, ap, subst, ◌∙◌, arith, ne_eqb, le-leb}
use Rattle.std.specs.Prelude.{IsTrue, if◌then◌else◌}
use Rattle.std.proofs.lemmas.Bool.{false≢true, cases_eq, lt-ltb}
use Rattle.jv_model.specs.declared.limits.TheConstants.{MAX_LINKS, TRASH_ROOT}
use Rattle.jv_model.specs.declared.fault.Fault.TheVariants.{NoSpace}
use Rattle.jv_model.specs.promise.FiniteMap.{get, remove, sum_over}
use Rattle.jv_model.specs.promise.tree.Attempt.{◌>>=◌, require}
use Rattle.jv_model.specs.promise.tree.Changes.{put_entry}
use Rattle.jv_model.specs.promise.tree.HourNames.{hour_at}
use Rattle.jv_model.specs.promise.tree.Trash.{hour_inode, hour_place, with_hour, trash_place, trash_name}
use Rattle.jv_model.specs.promise.tree.Tree.{Tree, EntryKey, entry_key, in_trash, is_directory, link_count, links_fit, node_at, name_count}
use Rattle.jv_rows_drafts.specs.Ready.{MayHaveHour, MayStandAt, IsThere, entry_put}
use Rattle.jv_links.specs.Losses.{IsToTrash}
use Rattle.jv_volume.specs.promise.Shape.{Form, Absent, Dir, Shape, Names, form_of, shape_of, is_there, is_dir, named, names, is_hour}
use Rattle.jv_volume.specs.promise.TypedRows.{is_entry_name}
use Rattle.jv_volume.proofs.names.HourNameLaws.{last_hour, is_hour-hour_inode}
use Rattle.jv_volume.proofs.shapes.HourShapeLaws.{hour_inode_high, free_hour, WithHour, Was, Comes, shape-with_hour}
use Rattle.jv_volume.proofs.sums.LinkLaws.{link_count-shape, link_count-put_entry-leaf, dirs_of, within_of}
use Rattle.jv_volume.proofs.maps.MapLaws.{sum-nothing}
use Rattle.jv_volume.proofs.shapes.ShapeMapLaws.{was_kept, get-insert_apart, get-remove_apart, count-remove_same, count-insert_apart, with_form-here, with_form-apart, with_entries, there_of_dir, is_there-form, is_dir-form, is_directory-form, shape-take_entry, shape-put_entry}
use Rattle.jv_volume.proofs.shapes.TrashLaws.{trash_place_free}

-- ---- the entries and the forms with an hour's directory

hour_entries : (s after : Shape) (hour : ℕ) → WithHour s hour after → (at : EntryKey) → at.dir ≢ TRASH_ROOT
    → named after at ≡ named s at
hour_entries s after hour (Was there same) at apart = ap (λ (x : Shape). named x at) same
hour_entries s after hour (Comes absent same) at apart = ap (λ (x : Shape). named x at) same
    ∙ get-insert_apart entry_key s.entries (hour_place hour) (hour_inode hour) at
    (λ e. apart (ap (λ (x : EntryKey). x.dir) e))

hour_forms : (s after : Shape) (hour : ℕ) → WithHour s hour after → (inode : ℕ) → inode ≢ hour_inode hour
    → after.form inode ≡ s.form inode
hour_forms s after hour (Was there same) inode apart = ap (λ (x : Shape). x.form inode) same
hour_forms s after hour (Comes absent same) inode apart = ap (λ (x : Shape). x.form inode) same
    ∙ with_form-apart s.form (hour_inode hour) (Dir TRASH_ROOT) inode apart

hour_form : (s after : Shape) (hour : ℕ) → WithHour s hour after
    → (IsTrue (is_there (s.form (hour_inode hour))) → s.form (hour_inode hour) ≡ Dir TRASH_ROOT)
    → after.form (hour_inode hour) ≡ Dir TRASH_ROOT
hour_form s after hour (Was there same) is = ap (λ (x : Shape). x.form (hour_inode hour)) same ∙ is there
hour_form s after hour (Comes absent same) is = ap (λ (x : Shape). x.form (hour_inode hour)) same
    ∙ with_form-here s.form (hour_inode hour) (Dir TRASH_ROOT)

hour_counts : (s after : Shape) (hour : ℕ) → WithHour s hour after
    → (s.form (hour_inode hour) ≡ Absent → named s (hour_place hour) ≡ None)
    → (inode : ℕ) → inode ≢ hour_inode hour → names after inode ≡ names s inode
hour_counts s after hour (Was there same) free inode apart = ap (λ (x : Shape). names x inode) same
hour_counts s after hour (Comes absent same) free inode apart = ap (λ (x : Shape). names x inode) same
    ∙ count-insert_apart s.entries (hour_place hour) (hour_inode hour) inode (free absent) (λ e. apart (sym e))

abbrev one_if : Bool → ℕ
one_if b = (if b then 1 else 0)

-- ---- the steps

module _ (less : Tree) (now : ℕ) (place : EntryKey) (inode : ℕ) (may : IsToTrash less now place inode) where
  abbrev t : Tree
  t = may.before

  abbrev s : Shape
  s = shape_of may.before

  abbrev hour : ℕ
  hour = hour_at now

  abbrev dir : ℕ
  dir = hour_inode (hour_at now)

  abbrev at : EntryKey
  at = trash_place (hour_at now) place inode

  abbrev made : Tree
  made = with_hour less now (hour_at now)

  low : hour_at now ≤ last_hour
  low = let clock = may.clock in omega (arith, clock)

  high : TRASH_ROOT < hour_inode (hour_at now)
  high = hour_inode_high (hour_at now) low

  shape_less : shape_of less ≡ with_entries s (remove s.entries place)
  shape_less = ap shape_of may.is ∙ shape-take_entry t now place

  form_less : (i : ℕ) → (shape_of less).form i ≡ s.form i
  form_less i = ap (λ (x : Shape). x.form i) shape_less

  named_less : (q : EntryKey) → named (shape_of less) q ≡ get (remove s.entries place) q
  named_less q = ap (λ (x : Shape). named x q) shape_less

  own : Names s place inode
  own = may.whole.entry place inode may.named

  leaf_form : is_dir (s.form inode) ≡ false
  leaf_form = is_dir-form (node_at t inode) ∙ may.leaf

  -- an entry that is left was there
  was_there : (q : EntryKey) (i : ℕ) → get less.entries q ≡ Some i → named s q ≡ Some i
  was_there q i e = (was_kept entry_key s.entries place q i (sym (named_less q) ∙ e)).1

  hour_is_dir : IsTrue (is_there (s.form (hour_inode (hour_at now))))
      → s.form (hour_inode (hour_at now)) ≡ Dir TRASH_ROOT
  hour_is_dir there = (may.whole.hours dir there (lt-ltb TRASH_ROOT dir high)).1

  inode_apart : inode ≢ hour_inode (hour_at now)
  inode_apart e = false≢true (sym leaf_form ∙ ap is_dir
      (ap s.form e ∙ hour_is_dir (subst (λ i. IsTrue (is_there (s.form i))) e own.there)))

  place_apart : (q : EntryKey) → TRASH_ROOT ≤ q.dir → q ≢ place
  place_apart q in_it e = false≢true
      (sym may.outside ∙ ap (λ (x : EntryKey). in_trash x.dir) (sym e) ∙ le-leb TRASH_ROOT q.dir in_it)

  hour_off : (node_at less (hour_inode (hour_at now)) ≡ None) → s.form (hour_inode (hour_at now)) ≡ Absent
  hour_off none = sym (form_less dir) ∙ ap form_of none

  free_less : s.form (hour_inode (hour_at now)) ≡ Absent → named (shape_of less) (hour_place (hour_at now)) ≡ None
  free_less absent =
      named_less (hour_place hour) ∙ get-remove_apart entry_key s.entries place (hour_place hour)
      (place_apart (hour_place hour) (omega arith))
      ∙ free_hour s hour may.whole low absent

  not_there : (i : ℕ) → s.form i ≡ Absent → IsTrue (is_there (s.form i)) → ⊥
  not_there i absent there = false≢true (sym (ap is_there absent) ∙ there)

  -- the directory of the hour is there, or may come
  pub trash_hour : MayHaveHour less (hour_at now)
  trash_hour = record {
    trash = is_directory-form less TRASH_ROOT ∙ ap is_dir (form_less TRASH_ROOT ∙ may.whole.trash_there);
    free = λ none. free_less (hour_off none);
    unnamed = λ none q e. not_there dir (hour_off none) (may.whole.entry q dir (was_there q dir e)).there;
    empty = λ none q i e within. not_there dir (hour_off none)
        (subst (λ d. IsTrue (is_there (s.form d))) within
        (there_of_dir (s.form q.dir) (may.whole.entry q i (was_there q i e)).within));
    hours = λ q i e within. (may.whole.entry q i (was_there q i e)).hour within;
    below = (let next : (shape_of less).next_inode ≡ s.next_inode = ap (λ (x : Shape). x.next_inode) shape_less in
        let last = may.whole.inodes_end in omega (arith, next, last));
  }

  with_it : WithHour (shape_of less) (hour_at now) (shape_of (with_hour less now (hour_at now)))
  with_it = shape-with_hour less now hour

  form_made : (i : ℕ) → i ≢ hour_inode (hour_at now) → (shape_of (with_hour less now (hour_at now))).form i ≡ s.form i
  form_made i apart = hour_forms (shape_of less) (shape_of made) hour with_it i apart ∙ form_less i

  dir_made : (shape_of (with_hour less now (hour_at now))).form (hour_inode (hour_at now)) ≡ Dir TRASH_ROOT
  dir_made = hour_form (shape_of less) (shape_of made) hour with_it
      (λ there. form_less dir ∙ hour_is_dir (subst (λ f. IsTrue (is_there f)) (form_less dir) there))

  named_made : (q : EntryKey) → q.dir ≢ TRASH_ROOT
      → get (with_hour less now (hour_at now)).entries q ≡ get less.entries q
  named_made q apart = hour_entries (shape_of less) (shape_of made) hour with_it q apart

  one : names s inode ≡ 1
  one = may.one

  free_at : get (with_hour less now (hour_at now)).entries (trash_place (hour_at now) place inode) ≡ None
  free_at =
      named_made at (λ e. absurd (omega (arith, high, e))) ∙ named_less at
      ∙ get-remove_apart entry_key s.entries place at (place_apart at (omega (arith, high)))
      ∙ trash_place_free t now place inode may.whole may.clock may.named may.leaf one may.outside

  pub leaf_made : is_directory (with_hour less now (hour_at now)) inode ≡ false
  leaf_made = is_directory-form made inode ∙ ap is_dir (form_made inode inode_apart) ∙ leaf_form

  there_made : is_some (node_at (with_hour less now (hour_at now)) inode) ≡ true
  there_made = sym (is_there-form (node_at made inode)) ∙ ap is_there (form_made inode inode_apart) ∙ own.there

  -- its entry in the trash may come
  pub trash_stands : IsTrue (is_entry_name (trash_name place inode))
      → MayStandAt (with_hour less now (hour_at now)) (trash_place (hour_at now) place inode) inode
  trash_stands name = record {
    free = free_at;
    name = name;
    within = is_directory-form made dir ∙ ap is_dir dir_made;
    there = there_made;
    apart = λ e. inode_apart (sym e);
  }

  -- ---- its links

  unnamed_less : names (shape_of less) inode ≡ 0
  unnamed_less =
      let all = count-remove_same s.entries place inode may.named in
      let left : names (shape_of less) inode ≡ name_count (remove s.entries place) inode =
      ap (λ (x : Shape). names x inode) shape_less in
      let all_one = one in
      omega (arith, all, left, all_one)

  unnamed_made : names (shape_of (with_hour less now (hour_at now))) inode ≡ 0
  unnamed_made = hour_counts (shape_of less) (shape_of made) hour with_it
      (λ absent. free_less (sym (form_less dir) ∙ absent)) inode inode_apart ∙ unnamed_less

  links_inode : link_count (with_hour less now (hour_at now)) inode ≡ 0
  links_inode =
      link_count-shape made inode
      ∙ ap (λ b. if b then 2 + sum_over (within_of (dirs_of (shape_of made)) inode) made.entries
      else name_count made.entries inode) (sym (is_directory-form made inode) ∙ leaf_made)
      ∙ unnamed_made

  -- no directory stands in an hour
  none_in : (q : EntryKey) (i : ℕ) → get (with_hour less now (hour_at now)).entries q ≡ Some i
      → within_of (dirs_of (shape_of (with_hour less now (hour_at now)))) (hour_inode (hour_at now)) q i ≡ 0
  none_in q i e = elim (cases_eq q.dir dir) [
    | inl in_it ↦
        let there : named s q ≡ Some i =
        was_there q i (sym (named_made q (λ is. absurd (omega (arith, high, is, in_it)))) ∙ e) in
        let leaf = ((may.whole.entry q i there).trashed
        (subst (λ d. IsTrue (is_hour d)) (sym in_it) (is_hour-hour_inode hour low))).leaf in
        let here = (may.whole.entry q i there).there in
        let off : i ≢ dir = λ same. false≢true
        (sym leaf ∙ ap is_dir (ap s.form same ∙ hour_is_dir (subst (λ j. IsTrue (is_there (s.form j))) same here)))
        in
        let none : is_dir ((shape_of made).form i) ≡ false = ap is_dir (form_made i off) ∙ leaf in
        ap (λ b. one_if ((q.dir == dir) && b)) none ∙ no_both (q.dir == dir)
    | inr off ↦ ap (λ b. one_if (b && is_dir ((shape_of made).form i))) (ne_eqb q.dir dir off)
  ]
    where
      no_both : (b : Bool) → one_if (b && false) ≡ 0
      no_both true = refl
      no_both false = refl

  links_dir : link_count (with_hour less now (hour_at now)) (hour_inode (hour_at now)) ≡ 2
  links_dir =
      link_count-shape made dir
      ∙ ap (λ (f : Form). if is_dir f then 2 + sum_over (within_of (dirs_of (shape_of made)) dir) made.entries
      else name_count made.entries dir) dir_made
      ∙ ap (λ n. 2 + n) (sum-nothing entry_key (within_of (dirs_of (shape_of made)) dir) made.entries none_in)

  abbrev entered : Tree
  entered = put_entry (with_hour less now (hour_at now)) now (trash_place (hour_at now) place inode) inode

  links_at : (j n : ℕ) → link_count (with_hour less now (hour_at now)) j ≡ n → n ≤ 2
      → links_fit (put_entry (with_hour less now (hour_at now)) now (trash_place (hour_at now) place inode) inode)
      j ≡ true
  links_at j n is few =
      let all = link_count-put_entry-leaf made now at inode j free_at leaf_made in
      let most = naming_most j in
      le-leb (link_count entered j) MAX_LINKS (omega (arith, all, is, few, most))
    where
      naming_most : (k : ℕ) → one_if (inode == k) ≤ 1
      naming_most k = by_test (inode == k)
        where
          by_test : (b : Bool) → one_if b ≤ 1
          by_test true = omega arith
          by_test false = omega arith

  -- its link count and the hour's can be stored
  pub trash_enters : entry_put now (trash_place (hour_at now) place inode) inode (with_hour less now (hour_at now))
      ≡ Ok (put_entry (with_hour less now (hour_at now)) now (trash_place (hour_at now) place inode) inode)
  trash_enters =
      ap (λ b. require b NoSpace >>= (λ _. Ok entered))
      (ap (λ b. b && links_fit entered inode) (links_at dir 2 links_dir (omega arith))
      ∙ links_at inode 0 links_inode (omega arith))

  -- its node is there then
  pub trash_there : IsThere inode
      (put_entry (with_hour less now (hour_at now)) now (trash_place (hour_at now) place inode) inode)
  trash_there =
      sym (is_there-form (node_at entered inode))
      ∙ ap (λ (x : Shape). is_there (x.form inode)) (shape-put_entry made now at inode)
      ∙ is_there-form (node_at made inode) ∙ there_made
