-- A tree stays whole without an entry: an empty directory's, a file's or a symlink's, and what a cleaning purges.
use Rattle.std.proofs.Common.{◌≡◌, ◌≢◌, ℕ, ◌≤◌, true, false, not, ◌&&◌, ◌==◌, List, Option, None, Some, is_some, refl, sym, ap, subst, ◌∙◌, arith}
use Rattle.std.specs.Prelude.{IsTrue, nat_lt}
use Rattle.std.specs.Option.{option_map}
use Rattle.std.proofs.lemmas.Bool.{false≢true, cond_both, and_parts, ltb-true, ltb-false, eq-eqb, eqb-true, not-true}
use Rattle.std.proofs.lemmas.Option.{same_Some, none-some}
use Rattle.jv_model.specs.declared.limits.TheConstants.{LAST_MOMENT, TRASH_ROOT}
use Rattle.jv_model.specs.promise.FiniteMap.{get, insert, remove, first_where}
use Rattle.jv_model.specs.promise.tree.Tree.{Tree, EntryKey, entry_key, in_trash, is_directory, has_entries, entry_count, trash_entry, node_at}
use Rattle.jv_model.specs.promise.tree.Changes.{status_changed, drop_node, take_entry}
use Rattle.jv_model.specs.promise.tree.Caller.{Caller}
use Rattle.jv_model.specs.promise.tree.Removing.{fate_of, Fate, Linked, Trashed, Sustained, Dropped, with_fate, remove_entry, remove_directory}
use Rattle.jv_model.specs.promise.tree.Trash.{first_in, due_purge, purged, is_due, hour_of}
use Rattle.jv_model.proofs.FiniteMapLaws.{IsFound, first_where-found}
use Rattle.jv_volume.specs.promise.Shape.{Absent, Regular, Dir, Shape, WholeShape, is_there, is_dir, shape_of, named, names, is_hour}
use Rattle.jv_volume.proofs.shapes.ShapeMapLaws.{first_where-none, only_one, counted_once, with_form, with_form-apart, with_forms, with_entries, parent_of_dir, is_dir-form, shape-drop_node, shape-take_entry, shape-change_node_same}
use Rattle.jv_model.proofs.TestLaws.{none_if}
use Rattle.jv_model.specs.promise.Lists.{is_among}
use Rattle.jv_volume.proofs.shapes.ShapeLossLaws.{Without, without_only, without_inode, whole-without_inode, whole-without_entry, sustained_shape, whole-sustained}
use Rattle.jv_volume.proofs.shapes.TrashLaws.{whole-trashed, without-trashed}

-- An inode that may go with its entry: it has no other one, and none is in it.
pub record MayGo (s : Shape) (place : EntryKey) (inode : ℕ) : Type 0 where
  pub is : named s place ≡ Some inode
  pub only : (at : EntryKey) → named s at ≡ Some inode → at ≡ place
  pub empty : (at : EntryKey) (i : ℕ) → named s at ≡ Some i → at.dir ≢ inode

whole-gone : (s : Shape) (place : EntryKey) (inode : ℕ) → WholeShape s → MayGo s place inode → WholeShape (without_inode s place inode)
whole-gone s place inode whole may = whole-without_inode s place inode whole may.is may.only may.empty

-- a directory's only entry
dir_only : (s : Shape) (place : EntryKey) (inode : ℕ) → WholeShape s → named s place ≡ Some inode → IsTrue (is_dir (s.form inode)) → (at : EntryKey)
    → named s at ≡ Some inode → at ≡ place
dir_only s place inode whole is dir at also =
    let parent = parent_of_dir (s.form inode) dir in
    let entered = whole.entered inode parent.0 parent.1 (whole.entry place inode is).free in
    entered.only at also ∙ sym (entered.only place is)

-- an empty directory may go
pub directory_may_go : (t : Tree) (place : EntryKey) (inode : ℕ) → WholeShape (shape_of t) → named (shape_of t) place ≡ Some inode
    → is_directory t inode ≡ true → has_entries t inode ≡ false
    → MayGo (shape_of t) place inode
directory_may_go t place inode whole is dir vacant = record {
  is = is;
  only = dir_only (shape_of t) place inode whole is (is_dir-form (node_at t inode) ∙ dir);
  empty = λ at i h e. first_where-none entry_key (λ key named. key.dir == inode) t.entries at i (none_if _ vacant) h (eq-eqb at.dir inode e);
}

-- no entry stands in a file or a symlink
pub leaf_empty : (s : Shape) (inode : ℕ) → WholeShape s → is_dir (s.form inode) ≡ false → (at : EntryKey) (i : ℕ) → named s at ≡ Some i → at.dir ≢ inode
leaf_empty s inode whole leaf at i h e = false≢true (sym leaf ∙ ap (λ q. is_dir (s.form q)) (sym e) ∙ (whole.entry at i h).within)

-- so may a file or a symlink that has one entry
leaf_may_go : (s : Shape) (place : EntryKey) (inode : ℕ) → WholeShape s → named s place ≡ Some inode → is_dir (s.form inode) ≡ false → names s inode ≡ 1
    → MayGo s place inode
leaf_may_go s place inode whole is leaf one = record {
  is = is;
  only = λ at also. only_one s.entries place at inode one is also;
  empty = leaf_empty s inode whole leaf;
}

-- the shape without a directory
pub shape-remove_directory : (t : Tree) (now : ℕ) (place : EntryKey) (inode : ℕ)
    → shape_of (remove_directory t now place inode) ≡ without_inode (shape_of t) place inode
shape-remove_directory t now place inode =
    shape-drop_node (take_entry t now place) inode
    ∙ ap (λ (q : Shape). with_forms q (with_form q.form inode Absent)) (shape-take_entry t now place)

-- a tree stays whole without an empty directory
pub whole-remove_directory : (t : Tree) (now : ℕ) (place : EntryKey) (inode : ℕ) → WholeShape (shape_of t) → named (shape_of t) place ≡ Some inode
    → is_directory t inode ≡ true → has_entries t inode ≡ false → WholeShape (shape_of (remove_directory t now place inode))
whole-remove_directory t now place inode whole is dir vacant =
    subst WholeShape (sym (shape-remove_directory t now place inode))
    (whole-gone (shape_of t) place inode whole (directory_may_go t place inode whole is dir vacant))

-- what the removal of a directory leaves
pub without-remove_directory : (t : Tree) (now : ℕ) (place : EntryKey) (inode : ℕ)
    → Without (shape_of t) (shape_of (remove_directory t now place inode)) place inode
without-remove_directory t now place inode =
    subst (λ q. Without (shape_of t) q place inode) (sym (shape-remove_directory t now place inode))
    (without_only (shape_of t) _ place inode refl (λ i apart. with_form-apart (shape_of t).form inode Absent i apart))

-- what a client has open of a tree's inodes are files
abbrev pub HoldsFiles : Shape → List ℕ → Type 0
HoldsFiles s held = (inode : ℕ) → IsTrue (is_among inode held) → IsTrue (is_there (s.form inode)) → s.form inode ≡ Regular

-- An entry of a file or a symlink that a caller may remove: the caller's session is there, what it has open are files,
-- and the clock has the moment.
pub record MayRemove (t : Tree) (who : Caller) (place : EntryKey) (inode : ℕ) : Type 0 where
  pub is : named (shape_of t) place ≡ Some inode
  pub leaf : is_directory t inode ≡ false
  pub session : IsTrue (is_some (get t.sessions who.sid))
  pub held : HoldsFiles (shape_of t) who.held
  pub clock : who.now ≤ LAST_MOMENT

-- an inode that loses its last entry is named once
pub one_entry : (t : Tree) (place : EntryKey) (inode : ℕ) → get t.entries place ≡ Some inode → nat_lt 1 (entry_count t inode) ≡ false
    → names (shape_of t) inode ≡ 1
one_entry t place inode is few =
    let most : entry_count t inode ≤ 1 = ltb-false 1 (entry_count t inode) few in
    let least : 1 ≤ names (shape_of t) inode = counted_once t.entries place inode is in
    omega (arith, most, least)

module _ (t : Tree) (who : Caller) (place : EntryKey) (inode : ℕ) (whole : WholeShape (shape_of t)) (may : MayRemove t who place inode) where
  abbrev s : Shape
  s = shape_of t

  abbrev less : Tree
  less = take_entry t who.now place

  leaf_form : is_dir (s.form inode) ≡ false
  leaf_form = is_dir-form (node_at t inode) ∙ may.leaf

  -- the shape of each fate but the trash
  pub shape-linked : shape_of (with_fate Linked less who place inode) ≡ with_entries s (remove s.entries place)
  shape-linked = shape-change_node_same less inode (status_changed who.now) (λ node. refl) ∙ shape-take_entry t who.now place

  -- where the session keeps the file
  pub shape-sustained : shape_of (with_fate Sustained less who place inode) ≡ sustained_shape s place who.sid inode
  shape-sustained =
      ap (λ (q : Shape). record q { sustained = insert (less).sustained (record { sid = who.sid; inode = inode }) tt })
      (shape-change_node_same less inode (status_changed who.now) (λ node. refl))
      ∙ ap (λ (q : Shape). record q { sustained = insert q.sustained (record { sid = who.sid; inode = inode }) tt }) (shape-take_entry t who.now place)

  -- where the inode goes
  pub shape-dropped : shape_of (with_fate Dropped less who place inode) ≡ without_inode s place inode
  shape-dropped = shape-remove_directory t who.now place inode

  -- the tree after a fate is whole, and keeps other entries
  abbrev Survives : Fate → Type 0
  Survives fate = WholeShape (shape_of (with_fate fate less who place inode)) × Without s (shape_of (with_fate fate less who place inode)) place inode

  survives_as : (fate : Fate) (after : Shape) → shape_of (with_fate fate less who place inode) ≡ after → WholeShape after → Without s after place inode
      → Survives fate
  survives_as fate after same kept beside = (subst WholeShape (sym same) kept, subst (λ q. Without s q place inode) (sym same) beside)

  fate_linked : nat_lt 1 (entry_count t inode) ≡ true → Survives Linked
  fate_linked several = survives_as Linked (with_entries s (remove s.entries place)) shape-linked
      (whole-without_entry s place inode whole may.is leaf_form (ltb-true 1 (entry_count t inode) several))
      (without_only s _ place inode refl (λ i apart. refl))

  fate_trashed : names s inode ≡ 1 → (nat_lt 0 t.setting.trash_days && not (in_trash place.dir)) ≡ true → Survives Trashed
  fate_trashed one days =
      let outside : in_trash place.dir ≡ false = not-true (in_trash place.dir) (and_parts _ _ days).1 in
      let kept = whole-trashed t who.now place inode whole may.clock may.is may.leaf one outside in
      (kept, without-trashed t who.now place inode whole may.clock may.is may.leaf one outside)

  fate_sustained : names s inode ≡ 1 → is_among inode who.held ≡ true → Survives Sustained
  fate_sustained one used =
      let file : s.form inode ≡ Regular = may.held inode used (whole.entry place inode may.is).there in
      survives_as Sustained (sustained_shape s place who.sid inode) shape-sustained
      (whole-sustained s place who.sid inode whole may.is file one may.session) (without_only s _ place inode refl (λ i apart. refl))

  fate_dropped : names s inode ≡ 1 → Survives Dropped
  fate_dropped one = survives_as Dropped (without_inode s place inode) shape-dropped
      (whole-gone s place inode whole (leaf_may_go s place inode whole may.is leaf_form one))
      (without_only s _ place inode refl (λ i apart. with_form-apart s.form inode Absent i apart))

  survives : Survives (fate_of t who place inode)
  survives = cond_both (nat_lt 1 (entry_count t inode)) _ _ Survives fate_linked (λ few.
      cond_both (nat_lt 0 t.setting.trash_days && not (in_trash place.dir)) _ _ Survives (fate_trashed (one_entry t place inode may.is few)) (λ keeps_none.
      cond_both (is_among inode who.held) _ _ Survives (fate_sustained (one_entry t place inode may.is few)) (λ closed. fate_dropped (one_entry t place inode may.is few))))

  -- a tree stays whole without an entry of a file or a symlink
  pub whole-remove_entry : WholeShape (shape_of (remove_entry t who place inode))
  unfolding remove_entry
  whole-remove_entry = survives.0

  -- and keeps other entries and its directories
  pub without-remove_entry : Without s (shape_of (remove_entry t who place inode)) place inode
  unfolding remove_entry
  without-remove_entry = survives.1

-- what a cleaning purges

-- the hour that is due is an entry of the trash
record IsDueHour (t : Tree) (hour : ℕ) : Type 0 where
  name : List ℕ
  is : named (shape_of t) (record { dir = TRASH_ROOT; name = name }) ≡ Some hour

-- an inode that may go with whichever entry it has
abbrev Loose : Tree → ℕ → Type 0
Loose t inode = (place : EntryKey) → named (shape_of t) place ≡ Some inode → MayGo (shape_of t) place inode

hour_dir : (t : Tree) (hour : ℕ) → WholeShape (shape_of t) → IsDueHour t hour → IsTrue (is_hour hour) × ((shape_of t).form hour ≡ Dir TRASH_ROOT)
hour_dir t hour whole due =
    let n = whole.entry (record { dir = TRASH_ROOT; name = due.name }) hour due.is in
    let h = (n.hour refl).hour in
    (h, (whole.hours hour n.there (and_parts (nat_lt TRASH_ROOT hour) _ h).0).1)

loose_in : (t : Tree) (hour : ℕ) (o : Option (EntryKey × ℕ)) → first_in t hour ≡ o → WholeShape (shape_of t) → IsDueHour t hour
    → Loose t (elim o as (λ _. ℕ) [ None ↦ hour | Some e ↦ e.1 ])
loose_in t hour None vacant whole due place is = record {
  is = is;
  only = dir_only (shape_of t) place hour whole is (ap is_dir (hour_dir t hour whole due).1);
  empty = λ at i h e. first_where-none entry_key (λ key named. key.dir == hour) t.entries at i vacant h (eq-eqb at.dir hour e);
}
loose_in t hour (Some e) found whole due place is =
    let first : IsFound (λ key named. key.dir == hour) t.entries e.0 e.1 = first_where-found entry_key (λ key named. key.dir == hour) t.entries e found in
    let within : IsTrue (is_hour (e.0).dir) = ap is_hour (eqb-true (e.0).dir hour first.passes) ∙ (hour_dir t hour whole due).0 in
    let trashed = (whole.entry e.0 e.1 first.there).trashed within in
    leaf_may_go (shape_of t) place e.1 whole is trashed.leaf trashed.only

due_at : (t : Tree) (now inode : ℕ) (o : Option (EntryKey × ℕ))
    → first_where (λ key inode. (key.dir == TRASH_ROOT) && is_due t.setting now (hour_of inode)) t.entries ≡ o
    → option_map (λ hour. elim (first_in t hour) as (λ _. ℕ) [ None ↦ hour | Some e ↦ e.1 ]) (option_map (λ (e : EntryKey × ℕ). e.1) o) ≡ Some inode
    → WholeShape (shape_of t) → Loose t inode
due_at t now inode None found due whole = absurd (none-some _ due)
due_at t now inode (Some e) found due whole =
    let first : IsFound (λ key inode. (key.dir == TRASH_ROOT) && is_due t.setting now (hour_of inode)) t.entries e.0 e.1 =
    first_where-found entry_key (λ key inode. (key.dir == TRASH_ROOT) && is_due t.setting now (hour_of inode)) t.entries e found in
    let dir : (e.0).dir ≡ TRASH_ROOT = eqb-true (e.0).dir TRASH_ROOT (and_parts _ _ first.passes).0 in
    let at_trash = λ (d : ℕ). named (shape_of t) (record { dir = d; name = (e.0).name }) ≡ Some e.1 in
    let hour : IsDueHour t e.1 = record { name = (e.0).name; is = subst at_trash dir first.there } in
    subst (Loose t) (same_Some _ _ due) (loose_in t e.1 (first_in t e.1) refl whole hour)

due_loose : (t : Tree) (now inode : ℕ) → due_purge t now ≡ Some inode → WholeShape (shape_of t) → Loose t inode
due_loose t now inode due whole = due_at t now inode _ refl due whole

purged_at : (t : Tree) (inode : ℕ) (o : Option (EntryKey × ℕ)) → trash_entry t inode ≡ o → WholeShape (shape_of t) → Loose t inode
    → WholeShape (shape_of (elim o as (λ _. Tree) [ None ↦ t | Some e ↦ record (drop_node t inode) { entries = remove t.entries e.0 } ]))
purged_at t inode None found whole loose = whole
purged_at t inode (Some e) found whole loose =
    let first : IsFound (λ key named. (named == inode) && in_trash key.dir) t.entries e.0 e.1 =
    first_where-found entry_key (λ key named. (named == inode) && in_trash key.dir) t.entries e found in
    let is : named (shape_of t) e.0 ≡ Some inode = first.there ∙ ap Some (eqb-true e.1 inode (and_parts _ _ first.passes).0) in
    subst WholeShape (sym (ap (λ (q : Shape). with_entries q (remove t.entries e.0)) (shape-drop_node t inode)))
    (whole-gone (shape_of t) e.0 inode whole (loose e.0 is))

-- a tree stays whole without what a cleaning purges next
pub whole-purged : (t : Tree) (now inode : ℕ) → due_purge t now ≡ Some inode → WholeShape (shape_of t) → WholeShape (shape_of (purged t inode))
whole-purged t now inode due whole = purged_at t inode (trash_entry t inode) refl whole (due_loose t now inode due whole)
