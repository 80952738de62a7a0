-- One more entry of a file or a symlink keeps a tree whole. An inode that has none, and is kept by a session, can't be linked.
use Rattle.std.proofs.Common.{◌≡◌, ◌≢◌, ℕ, ◌+◌, ◌≤◌, ◌<◌, true, false, ◌&&◌, ◌==◌, inl, inr, None, Some, refl, sym, ap, subst, ◌∙◌, arith}
use Rattle.std.specs.Prelude.{IsTrue}
use Rattle.std.proofs.lemmas.Bool.{and_from, and_parts, false≢true, eq-eqb, le-leb, ltb-true, cases_eq, false_from_ne_true}
use Rattle.jv_model.specs.declared.limits.TheConstants.{ROOT, TRASH_ROOT}
use Rattle.jv_model.specs.promise.FiniteMap.{get, insert}
use Rattle.jv_model.specs.promise.tree.Tree.{Tree, EntryKey, entry_key, in_trash, node_at, is_directory, trash_entry}
use Rattle.jv_model.specs.promise.tree.Changes.{put_entry}
use Rattle.jv_model.specs.promise.tree.Making.{may_be_new, is_trashed, linked}
use Rattle.jv_model.proofs.TestLaws.{none_if}
use Rattle.jv_volume.specs.promise.Shape.{Dir, Shape, is_there, is_dir, shape_of, named, keeps, names, is_top, is_hour, Names, Entered, Keeps, IsKept, WholeShape}
use Rattle.jv_volume.proofs.shapes.ShapeMapLaws.{stays_at, was_inserted, first_where-none, count-insert_same, count-insert_apart, counted_once, with_entries, shape-put_entry, is_dir-form, names_kept, leaf_apart, not_top}
use Rattle.jv_volume.proofs.shapes.SameShapeLaws.{shape-status_changed}
use Rattle.jv_volume.proofs.shapes.EnteredShapeLaws.{new_below, not_hour_below}

-- what lets an inode have one more entry
pub record MayLink (s : Shape) (place : EntryKey) (inode : ℕ) : Type 0 where
  pub free : named s place ≡ None
  pub within : IsTrue (is_dir (s.form place.dir))
  pub low : place.dir < TRASH_ROOT
  pub there : IsTrue (is_there (s.form inode))
  pub leaf : is_dir (s.form inode) ≡ false
  pub has : 1 ≤ names s inode
  pub untrashed : (at : EntryKey) → named s at ≡ Some inode → is_hour at.dir ≡ false

module _ (s : Shape) (place : EntryKey) (inode : ℕ) (w : WholeShape s) (h : MayLink s place inode) where
  abbrev after : Shape
  after = with_entries s (insert s.entries place inode)

  names_after : (other : ℕ) → other ≢ inode → names after other ≡ names s other
  names_after other apart = count-insert_apart s.entries place inode other h.free (λ e. apart (sym e))

  more : names after inode ≡ names s inode + 1
  more = count-insert_same s.entries place inode h.free

  new_entry : Names after place inode
  new_entry = record {
    there = h.there;
    free = not_top inode (leaf_apart s ROOT ROOT inode w.root_there h.leaf) (leaf_apart s TRASH_ROOT ROOT inode w.trash_there h.leaf);
    within = h.within;
    hour = λ e. let low = h.low in absurd (omega (arith, e, low));
    trashed = λ hour. absurd (false≢true (sym (not_hour_below place.dir h.low) ∙ hour));
  }

  -- an entry of an hour names another inode
  once : (at : EntryKey) (other : ℕ) → named s at ≡ Some other → IsTrue (is_hour at.dir) → names s other ≡ 1 → names after other ≡ 1
  once at other is hour one = elim (cases_eq other inode) [
    | inl e ↦ absurd (false≢true (sym (h.untrashed at (is ∙ ap Some e)) ∙ hour))
    | inr apart ↦ names_after other apart ∙ one
  ]

  entry_after : (at : EntryKey) (other : ℕ) → named after at ≡ Some other → Names after at other
  entry_after at other is = elim (was_inserted entry_key s.entries place inode at other is) [
    | inl e ↦ subst (λ x. Names after x other) (sym e.0) (subst (Names after place) (sym e.1) new_entry)
    | inr e ↦ let n = w.entry at other e.1 in names_kept s after at other refl n.within (once at other e.1) n
  ]

  entered_after : (dir parent : ℕ) → s.form dir ≡ Dir parent → is_top dir ≡ false → Entered after dir parent
  entered_after dir parent is top =
      let old = w.entered dir parent is top in
      record {
        name = old.name;
        is = stays_at entry_key s.entries place inode (record { dir = parent; name = old.name }) dir h.free old.is;
        only = λ at there. elim (was_inserted entry_key s.entries place inode at dir there) [
          | inl e ↦ absurd (leaf_apart s dir parent inode is h.leaf (sym e.1))
          | inr e ↦ old.only at e.1
        ];
      }

  unnamed_before : (other : ℕ) → names after other ≡ 0 → names s other ≡ 0
  unnamed_before other none = elim (cases_eq other inode) [
    | inl e ↦ let same = ap (names after) e in absurd (omega (arith, same, none, more))
    | inr apart ↦ sym (names_after other apart) ∙ none
  ]

  held_after : (other : ℕ) → IsTrue (is_there (s.form other)) → is_dir (s.form other) ≡ false → names after other ≡ 0 → IsKept after other
  held_after other there leaf none = let kept = w.held other there leaf (unnamed_before other none) in record { sid = kept.sid; is = kept.is }

  sustains_after : (sid other : ℕ) → IsTrue (keeps after sid other) → Keeps after sid other
  sustains_after sid other is =
      let old = w.sustains sid other is in
      let apart : other ≢ inode = λ e. (let same = ap (names s) e in let none = old.unnamed in let has = h.has in absurd (omega (arith, same, none, has))) in
      record { session = old.session; file = old.file; unnamed = names_after other apart ∙ old.unnamed; one = old.one }

  -- one more entry of an inode
  pub whole-with_entry : WholeShape (with_entries s (insert s.entries place inode))
  whole-with_entry = record {
    root_there = w.root_there;
    trash_there = w.trash_there;
    entry = entry_after;
    entered = entered_after;
    rooted = w.rooted;
    held = held_after;
    sustains = sustains_after;
    hours = w.hours;
    below = w.below;
    sessions = w.sessions;
    inodes_end = w.inodes_end;
    sessions_end = w.sessions_end;
  }

-- an inode that isn't in the trash has no entry in an hour
untrashed_entry : (t : Tree) (inode : ℕ) (at : EntryKey) → is_trashed t inode ≡ false → get t.entries at ≡ Some inode → is_hour at.dir ≡ false
untrashed_entry t inode at untrashed is = false_from_ne_true _ (λ hour.
    let high = ltb-true TRASH_ROOT at.dir ((and_parts _ _ hour).0) in
    first_where-none entry_key (λ key i. (i == inode) && in_trash key.dir) t.entries at inode (none_if (trash_entry t inode) untrashed) is
    (and_from _ _ (eq-eqb inode inode refl) (le-leb TRASH_ROOT at.dir (omega (arith, high)))))

-- The model's `link`. That some entry names the inode comes of the walk that led to it.
pub whole-linked : (t : Tree) (now : ℕ) (place at : EntryKey) (inode : ℕ) → WholeShape (shape_of t)
    → named (shape_of t) place ≡ None → is_directory t place.dir ≡ true → may_be_new place ≡ true → is_directory t inode ≡ false → is_trashed t inode ≡ false
    → named (shape_of t) at ≡ Some inode
    → WholeShape (shape_of (linked t now place inode))
whole-linked t now place at inode w free within may leaf untrashed is =
    let shape = shape-status_changed (put_entry t now place inode) now inode ∙ shape-put_entry t now place inode in
    subst WholeShape (sym shape) (whole-with_entry (shape_of t) place inode w (record {
      free = free;
      within = is_dir-form (node_at t place.dir) ∙ within;
      low = new_below place may;
      there = (w.entry at inode is).there;
      leaf = is_dir-form (node_at t inode) ∙ leaf;
      has = counted_once t.entries at inode is;
      untrashed = λ other names_it. untrashed_entry t inode other untrashed names_it;
    }))
