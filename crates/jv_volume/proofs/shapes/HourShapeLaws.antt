-- The directory of an hour keeps a tree whole, and is there afterwards.
use Rattle.std.proofs.Common.{◌≡◌, ◌≢◌, ℕ, ◌/◌, ◌≤◌, ◌<◌, true, Option, None, Some, refl, sym, ap, subst, ◌∙◌, arith}
use Rattle.std.specs.Prelude.{IsTrue}
use Rattle.std.proofs.lemmas.Bool.{and_parts, false≢true, lt-ltb, ltb-true}
use Rattle.jv_model.specs.declared.limits.TheConstants.{LAST_MOMENT, READ_ONLY_MODE, TRASH_ROOT}
use Rattle.jv_model.specs.declared.lifetimes.TheConstants.{HOUR}
use Rattle.jv_model.specs.promise.tree.Tree.{Tree, Node, Directory, EntryKey, entry_key, new_node, node_at}
use Rattle.jv_model.specs.promise.tree.Changes.{with_node}
use Rattle.jv_model.specs.promise.tree.HourNames.{hour_name}
use Rattle.jv_model.specs.promise.tree.Trash.{hour_inode, hour_place, with_hour}
use Rattle.jv_volume.specs.promise.Shape.{Absent, Dir, Shape, form_of, is_there, is_dir, shape_of, named, names, WholeShape}
use Rattle.jv_volume.proofs.shapes.ShapeMapLaws.{get-insert_apart, count-insert_apart, with_form-here, with_form-apart, is_there-form}
use Rattle.jv_volume.proofs.shapes.EnteredShapeLaws.{MayEnter, with_new, whole-with_new, shape-with_node}
use Rattle.jv_volume.proofs.names.HourNameLaws.{last_hour, is_hour-hour_inode, hour_of-hour_inode, hour_by_name}

-- the inode of an hour's directory follows the trash's own
pub hour_inode_high : (hour : ℕ) → hour ≤ last_hour → TRASH_ROOT < hour_inode hour
hour_inode_high hour low = ltb-true TRASH_ROOT (hour_inode hour) (and_parts _ _ (is_hour-hour_inode hour low)).0

-- the place of an hour that isn't there is free
free_hour_at : (s : Shape) (hour : ℕ) (o : Option ℕ) → named s (hour_place hour) ≡ o → WholeShape s → hour ≤ last_hour → s.form (hour_inode hour) ≡ Absent
    → o ≡ None
free_hour_at s hour None e w low absent = refl
free_hour_at s hour (Some inode) e w low absent =
    let n = w.entry (hour_place hour) inode e in
    let h = n.hour refl in
    let same : inode ≡ hour_inode hour = hour_by_name inode hour h.hour low h.name in
    let there : is_there (s.form (hour_inode hour)) ≡ true = ap (λ i. is_there (s.form i)) (sym same) ∙ n.there in
    absurd (false≢true (sym (ap is_there absent) ∙ there))

-- the same, of what stands there
pub free_hour : (s : Shape) (hour : ℕ) → WholeShape s → hour ≤ last_hour → s.form (hour_inode hour) ≡ Absent → named s (hour_place hour) ≡ None
free_hour s hour w low absent = free_hour_at s hour (named s (hour_place hour)) refl w low absent

-- a shape with the directory of an hour
abbrev pub with_hour_in : Shape → ℕ → Shape
with_hour_in s hour = with_new s (hour_place hour) (hour_inode hour) (Dir TRASH_ROOT) s.next_inode

-- an hour that is not there may come
pub may_enter_hour : (s : Shape) (hour : ℕ) → WholeShape s → hour ≤ last_hour → s.form (hour_inode hour) ≡ Absent
    → MayEnter s (hour_place hour) (hour_inode hour) (Dir TRASH_ROOT) s.next_inode
may_enter_hour s hour w low absent =
    let high = hour_inode_high hour low in
    record {
      absent = absent;
      free = free_hour s hour w low absent;
      within = ap is_dir w.trash_there;
      there = refl;
      parent = λ parent e. (let same : Dir TRASH_ROOT ≡ Dir parent = e in cc);
      hour = λ _. record { hour = is_hour-hour_inode hour low; name = ap hour_name (sym (hour_of-hour_inode hour low)) };
      apart = refl;
      hours = λ _. (is_hour-hour_inode hour low, refl);
      below = λ less. absurd (let less_is = ltb-true (hour_inode hour) TRASH_ROOT less in omega (arith, less_is, high));
      grows = omega arith;
      ends = w.inodes_end;
    }

-- The shape is as it was where the hour was there, and has one more directory where it wasn't.
pub data WithHour (s : Shape) (hour : ℕ) (after : Shape) : Type 0 where
  Was : IsTrue (is_there (s.form (hour_inode hour))) → after ≡ s → WithHour s hour after
  Comes : s.form (hour_inode hour) ≡ Absent → after ≡ with_hour_in s hour → WithHour s hour after

hour_by : (t : Tree) (now hour : ℕ) (o : Option Node) → node_at t (hour_inode hour) ≡ o
    → WithHour (shape_of t) hour (shape_of (elim o as (λ _. Tree) [
      | None ↦ with_node t now (hour_place hour) (hour_inode hour) (new_node (Directory TRASH_ROOT) READ_ONLY_MODE now)
      | Some node ↦ t
    ]))
hour_by t now hour None e = Comes (ap form_of e)
    (shape-with_node t now (hour_place hour) (hour_inode hour) (new_node (Directory TRASH_ROOT) READ_ONLY_MODE now))
hour_by t now hour (Some node) e = Was (ap (λ o. is_there (form_of o)) e ∙ is_there-form (Some node)) refl

-- the shape after `with_hour`
pub shape-with_hour : (t : Tree) (now hour : ℕ) → WithHour (shape_of t) hour (shape_of (with_hour t now hour))
unfolding with_hour
shape-with_hour t now hour = hour_by t now hour (node_at t (hour_inode hour)) refl

whole_by : (s after : Shape) (hour : ℕ) → WithHour s hour after → WholeShape s → hour ≤ last_hour → WholeShape after
whole_by s after hour (Was there same) w low = subst WholeShape (sym same) w
whole_by s after hour (Comes absent same) w low = subst WholeShape (sym same)
    (whole-with_new s (hour_place hour) (hour_inode hour) (Dir TRASH_ROOT) s.next_inode w (may_enter_hour s hour w low absent))

-- the directory of an hour of a moment
pub whole-with_hour : (t : Tree) (now hour : ℕ) → WholeShape (shape_of t) → hour ≤ LAST_MOMENT / HOUR → WholeShape (shape_of (with_hour t now hour))
whole-with_hour t now hour w low = whole_by (shape_of t) (shape_of (with_hour t now hour)) hour (shape-with_hour t now hour) w low

-- what is as before: other inodes, and entries elsewhere
pub record KeepsButHour (s after : Shape) (hour : ℕ) : Type 0 where
  pub is : after.form (hour_inode hour) ≡ Dir TRASH_ROOT
  pub forms : (inode : ℕ) → inode ≢ hour_inode hour → after.form inode ≡ s.form inode
  pub entries : (at : EntryKey) → at.dir ≢ TRASH_ROOT → named after at ≡ named s at
  pub counts : (inode : ℕ) → inode ≢ hour_inode hour → names after inode ≡ names s inode
  pub pairs : after.sustained ≡ s.sustained
  pub next : after.next_inode ≡ s.next_inode

keeps_by : (s after : Shape) (hour : ℕ) → WithHour s hour after → WholeShape s → hour ≤ last_hour → KeepsButHour s after hour
keeps_by s after hour (Was there same) w low = record {
  is = ap (λ (x : Shape). x.form (hour_inode hour)) same
      ∙ (w.hours (hour_inode hour) there (lt-ltb TRASH_ROOT (hour_inode hour) (hour_inode_high hour low))).1;
  forms = λ inode apart. ap (λ (x : Shape). x.form inode) same;
  entries = λ at apart. ap (λ (x : Shape). named x at) same;
  counts = λ inode apart. ap (λ (x : Shape). names x inode) same;
  pairs = ap (λ (x : Shape). x.sustained) same;
  next = ap (λ (x : Shape). x.next_inode) same;
}
keeps_by s after hour (Comes absent same) w low = record {
  is = ap (λ (x : Shape). x.form (hour_inode hour)) same ∙ with_form-here s.form (hour_inode hour) (Dir TRASH_ROOT);
  forms = λ inode apart. ap (λ (x : Shape). x.form inode) same ∙ with_form-apart s.form (hour_inode hour) (Dir TRASH_ROOT) inode apart;
  entries = λ at apart. ap (λ (x : Shape). named x at) same
      ∙ get-insert_apart entry_key s.entries (hour_place hour) (hour_inode hour) at (λ e. apart (ap (λ (x : EntryKey). x.dir) e));
  counts = λ inode apart. ap (λ (x : Shape). names x inode) same
      ∙ count-insert_apart s.entries (hour_place hour) (hour_inode hour) inode (free_hour s hour w low absent) (λ e. apart (sym e));
  pairs = ap (λ (x : Shape). x.sustained) same;
  next = ap (λ (x : Shape). x.next_inode) same;
}

-- what `with_hour` leaves as it was
pub keeps-with_hour : (t : Tree) (now hour : ℕ) → WholeShape (shape_of t) → hour ≤ LAST_MOMENT / HOUR
    → KeepsButHour (shape_of t) (shape_of (with_hour t now hour)) hour
keeps-with_hour t now hour w low = keeps_by (shape_of t) (shape_of (with_hour t now hour)) hour (shape-with_hour t now hour) w low
