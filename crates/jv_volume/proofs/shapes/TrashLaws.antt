-- A shape stays whole where a file or a symlink goes to the trash.
use Rattle.std.proofs.Common.{◌≡◌, ◌≢◌, ℕ, ◌≤◌, ◌<◌, false, inl, inr, Option, None, Some, refl, sym, ap, subst, ◌∙◌, arith}
use Rattle.std.proofs.lemmas.Bool.{false≢true, cases_eq, lt-ltb, le-leb}
use Rattle.jv_model.specs.declared.limits.TheConstants.{LAST_MOMENT, TRASH_ROOT}
use Rattle.jv_model.specs.promise.FiniteMap.{KeyOrder, Map, insert, remove}
use Rattle.jv_model.specs.promise.tree.Tree.{Tree, EntryKey, entry_key, in_trash, is_directory, node_at}
use Rattle.jv_model.specs.promise.tree.HourNames.{hour_at}
use Rattle.jv_model.specs.promise.tree.Trash.{hour_inode, hour_place, with_hour, trash_place, trashed}
use Rattle.jv_model.specs.promise.tree.Changes.{status_changed, put_entry, take_entry}
use Rattle.jv_volume.specs.promise.Shape.{Form, Absent, Regular, Link, Dir, Shape, WholeShape, Names, is_there, is_dir, shape_of, named, names}
use Rattle.jv_volume.proofs.shapes.ShapeMapLaws.{get-insert_apart, get-removed, get-remove_apart, only_one, with_form, with_form-same, with_form-apart, with_entries, there_of_dir, shape-put_entry, shape-take_entry, shape-change_node_same, is_dir-form}
use Rattle.jv_volume.proofs.maps.MapLaws.{alter-swap}
use Rattle.jv_volume.proofs.shapes.ClimbLaws.{avoids_leaf, reaches_dir}
use Rattle.std.proofs.lemmas.Option.{none-some}
use Rattle.jv_volume.proofs.shapes.ShapeLossLaws.{Without}
use Rattle.jv_volume.proofs.shapes.ShapeMoveLaws.{form_under, moved_shape, MayMove, whole-moved}
use Rattle.jv_volume.proofs.names.HourNameLaws.{last_hour, is_hour-hour_inode}
use Rattle.jv_volume.proofs.names.TrashNameLaws.{trash_name_inode, inode_low}
use Rattle.jv_volume.proofs.shapes.HourShapeLaws.{hour_inode_high, with_hour_in, WithHour, Was, Comes, shape-with_hour, whole-with_hour, KeepsButHour, keeps-with_hour}

-- an insert and a removal at different keys, in the other order
pub insert-remove : {K X : Type 0} (order : KeyOrder K) (m : Map order X) (a b : K) (v : X) → a ≢ b → insert (remove m a) b v ≡ remove (insert m b v) a
insert-remove order m a b v apart = alter-swap order m a b None (Some v) (λ same. apart (sym same))

-- without an entry, and with one
abbrev taken : Shape → EntryKey → Shape
taken s place = with_entries s (remove s.entries place)

abbrev put_in : Shape → EntryKey → ℕ → Shape
put_in s place inode = with_entries s (insert s.entries place inode)

leaf_under : (dir : ℕ) (f : Form) → is_dir f ≡ false → form_under dir f ≡ f
leaf_under dir Absent e = refl
leaf_under dir Regular e = refl
leaf_under dir Link e = refl
leaf_under dir (Dir parent) e = absurd (false≢true (sym e))

-- a file or a symlink that moves has the form that it had
pub moved_leaf : (s : Shape) (from : EntryKey) (inode : ℕ) (to : EntryKey) → is_dir (s.form inode) ≡ false
    → moved_shape s from inode to ≡ with_entries s (insert (remove s.entries from) to inode)
moved_leaf s from inode to leaf =
    ap (λ f. record s { form = with_form s.form inode f; entries = insert (remove s.entries from) to inode }) (leaf_under to.dir (s.form inode) leaf)
    ∙ (λ i. record s { form = λ other. with_form-same s.form inode other i; entries = insert (remove s.entries from) to inode })

-- The directory of an hour, and an entry that goes elsewhere: in either order they leave one shape.
hour_taken : (s less after final : Shape) (hour : ℕ) (place : EntryKey) → less ≡ taken s place → place ≢ hour_place hour → WithHour s hour after
    → WithHour less hour final → final ≡ taken after place
hour_taken s less after final hour place same apart (Was there e) (Was there' e') = e' ∙ same ∙ ap (λ (q : Shape). taken q place) (sym e)
hour_taken s less after final hour place same apart (Was there e) (Comes absent e') =
    absurd (false≢true (sym (ap is_there (sym (ap (λ (q : Shape). q.form (hour_inode hour)) same) ∙ absent)) ∙ there))
hour_taken s less after final hour place same apart (Comes absent e) (Was there' e') =
    absurd (false≢true (sym (ap is_there (ap (λ (q : Shape). q.form (hour_inode hour)) same ∙ absent)) ∙ there'))
hour_taken s less after final hour place same apart (Comes absent e) (Comes absent' e') =
    e' ∙ ap (λ (q : Shape). with_hour_in q hour) same
    ∙ ap (with_entries (with_hour_in s hour)) (insert-remove entry_key s.entries place (hour_place hour) (hour_inode hour) apart)
    ∙ ap (λ (q : Shape). taken q place) (sym e)

-- a place outside the trash is none in it
place_apart : (place at : EntryKey) → in_trash place.dir ≡ false → TRASH_ROOT ≤ at.dir → place ≢ at
place_apart place at outside high e = false≢true (sym outside ∙ ap (λ (q : EntryKey). in_trash q.dir) e ∙ le-leb TRASH_ROOT at.dir high)

module _ (t : Tree) (now : ℕ) (place : EntryKey) (inode : ℕ) (whole : WholeShape (shape_of t)) (clock : now ≤ LAST_MOMENT)
    (is : named (shape_of t) place ≡ Some inode)
    (leaf : is_directory t inode ≡ false) (one : names (shape_of t) inode ≡ 1) (outside : in_trash place.dir ≡ false) where
  abbrev s : Shape
  s = shape_of t

  abbrev hour : ℕ
  hour = hour_at now

  abbrev made : Shape
  made = shape_of (with_hour t now (hour_at now))

  abbrev at_trash : EntryKey
  at_trash = trash_place (hour_at now) place inode

  low : hour_at now ≤ last_hour
  low = omega (arith, clock)

  made_whole : WholeShape made
  made_whole = whole-with_hour t now hour whole low

  beside : KeepsButHour s made hour
  beside = keeps-with_hour t now hour whole low

  after_trash : TRASH_ROOT < hour_inode hour
  after_trash = hour_inode_high hour low

  own : Names s place inode
  own = whole.entry place inode is

  leaf_form : is_dir (s.form inode) ≡ false
  leaf_form = is_dir-form (node_at t inode) ∙ leaf

  no_hour : inode ≢ hour_inode hour
  no_hour e =
      let hours = whole.hours inode own.there (lt-ltb TRASH_ROOT inode (omega (arith, after_trash, e))) in
      false≢true (sym leaf_form ∙ ap is_dir hours.1)

  place_off : place.dir ≢ TRASH_ROOT
  place_off e = false≢true (sym outside ∙ ap in_trash e)

  is_made : named made place ≡ Some inode
  is_made = beside.entries place place_off ∙ is

  form_made : made.form inode ≡ s.form inode
  form_made = beside.forms inode no_hour

  one_made : names made inode ≡ 1
  one_made = beside.counts inode no_hour ∙ one

  -- An entry of the hour under that name would be another one of the same inode, and inodes of the trash have one.
  free_at : (o : Option ℕ) → named made at_trash ≡ o → o ≡ None
  free_at None e = refl
  free_at (Some other) e =
      let names_it = made_whole.entry at_trash other e in
      let trashed_it = names_it.trashed (is_hour-hour_inode hour low) in
      let same : inode ≡ other = trash_name_inode place trashed_it.place inode other
      (inode_low s place.dir whole (there_of_dir (s.form place.dir) own.within)) (inode_low s inode whole own.there)
      (inode_low made other made_whole names_it.there) trashed_it.name in
      absurd (place_apart place at_trash outside (omega (arith, after_trash)) (only_one (made).entries at_trash place inode one_made (e
      ∙ ap Some (sym same)) is_made))

  -- the place in the trash is free, once the hour's directory is made, and before
  pub made_place_free : named (shape_of (with_hour t now (hour_at now))) (trash_place (hour_at now) place inode) ≡ None
  made_place_free = free_at (named made at_trash) refl

  -- and before it is made
  pub trash_place_free : named (shape_of t) (trash_place (hour_at now) place inode) ≡ None
  trash_place_free = sym (beside.entries at_trash (λ e. absurd (omega (arith, after_trash, e)))) ∙ made_place_free

  leaf_made : is_dir (made.form inode) ≡ false
  leaf_made = ap is_dir form_made ∙ leaf_form

  may_trash : MayMove made place inode at_trash
  may_trash =
      let up = reaches_dir made (hour_inode hour) made_whole (ap is_dir beside.is) in record {
        is = is_made;
        free = made_place_free;
        within = ap is_dir beside.is;
        leaves = place_off;
        enters = λ e. absurd (omega (arith, after_trash, e));
        trashed = λ e. record { leaf = leaf_made; only = one_made; place = place; name = refl };
        steps = up.0;
        avoids = avoids_leaf made inode up.0 (hour_inode hour) made_whole leaf_made up.1;
      }

  shape-trashed : shape_of (trashed (take_entry t now place) now place inode) ≡ moved_shape made place inode at_trash
  shape-trashed =
      let less = take_entry t now place in
      shape-change_node_same (put_entry (with_hour less now hour) now at_trash inode) inode (status_changed now) (λ node. refl)
      ∙ shape-put_entry (with_hour less now hour) now at_trash inode
      ∙ ap (λ (q : Shape). put_in q at_trash inode)
      (hour_taken s (shape_of less) made (shape_of (with_hour less now hour)) hour place (shape-take_entry t now place)
      (place_apart place (hour_place hour) outside (omega arith))
      (shape-with_hour t now hour) (shape-with_hour less now hour))
      ∙ sym (moved_leaf made place inode at_trash leaf_made)

  -- A tree stays whole where a file or a symlink outside the trash goes there with its last entry. The clock has the moment.
  pub whole-trashed : WholeShape (shape_of (trashed (take_entry t now place) now place inode))
  whole-trashed = subst WholeShape (sym shape-trashed) (whole-moved made place inode at_trash made_whole may_trash)

  -- what such a move leaves
  pub without-trashed : Without s (shape_of (trashed (take_entry t now place) now place inode)) place inode
  without-trashed = subst (λ after. Without s after place inode) (sym shape-trashed) (record {
    gone = get-insert_apart entry_key (remove (made).entries place) at_trash inode place (place_apart place at_trash outside (omega (arith, after_trash)))
        ∙ get-removed entry_key (made).entries place;
    still = λ at i apart off h.
        let there : named made at ≡ Some i = beside.entries at off ∙ h in
        get-insert_apart entry_key (remove (made).entries place) at_trash inode at (λ e. none-some _ (sym made_place_free ∙ ap (named made) (sym e) ∙ there))
        ∙ get-remove_apart entry_key (made).entries place at apart ∙ there;
    dirs = λ dir parent is_it apart. with_form-apart (made).form inode _ dir apart ∙ dir_made dir parent is_it;
  })
    where
      dir_made : (dir parent : ℕ) → s.form dir ≡ Dir parent → made.form dir ≡ Dir parent
      dir_made dir parent is_it = elim (cases_eq dir (hour_inode hour)) [
        | inl e ↦
            let own_hour = whole.hours dir (ap is_there is_it) (lt-ltb TRASH_ROOT dir (omega (arith, after_trash, e))) in
            ap (made).form e ∙ beside.is ∙ sym own_hour.1 ∙ is_it
        | inr off ↦ beside.forms dir off ∙ is_it
      ]
