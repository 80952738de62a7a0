-- What lets the small changes of a removal be made: facts of whole trees.
use Rattle.std.proofs.Common.{◌≡◌, ◌≢◌, ℕ, ◌<◌, true, false, not, ◌==◌, inl, inr, Some, Result, Ok, is_some, sym, ap, subst, ◌∙◌, arith, ne_eqb}
use Rattle.std.specs.Prelude.{nat_lt}
use Rattle.std.proofs.lemmas.Bool.{false≢true, and_from, not-true, or_parts, lt-ltb, eqb-false, cases_lt}
use Rattle.jv_model.specs.declared.limits.TheConstants.{ROOT, TRASH_ROOT}
use Rattle.jv_model.specs.declared.fault.Fault.{Fault}
use Rattle.jv_model.specs.promise.FiniteMap.{get}
use Rattle.jv_model.specs.promise.tree.Changes.{touched, take_entry, drop_node}
use Rattle.jv_model.specs.promise.tree.Removing.{may_go}
use Rattle.jv_model.specs.promise.tree.Tree.{Tree, EntryKey, entry_key, is_counted, is_directory, has_entries, node_at}
use Rattle.jv_model.specs.promise.tree.Walk.{is_trash}
use Rattle.jv_rows_drafts.specs.Ready.{StandsAt, MayGo}
use Rattle.jv_volume.specs.promise.Shape.{WholeShape, shape_of, is_dir, names}
use Rattle.jv_volume.proofs.operations.ChangeLaws.{change_node-apart, change_node-next_inode}
use Rattle.jv_volume.proofs.shapes.RemovalLaws.{directory_may_go, leaf_empty}
use Rattle.jv_volume.proofs.shapes.ShapeMapLaws.{was_kept, only_one, is_there-form, is_dir-form}

-- the step in which a node goes
abbrev pub drops : ℕ → Tree → Result Tree Fault
drops inode t = Ok (drop_node t inode)

module _ (t : Tree) (place : EntryKey) (inode : ℕ) (whole : WholeShape (shape_of t))
    (is : get t.entries place ≡ Some inode) where
  -- its node is there
  pub node_there : is_some (node_at t inode) ≡ true
  node_there = sym (is_there-form (node_at t inode)) ∙ (whole.entry place inode is).there

  pub place_within : is_directory t place.dir ≡ true
  place_within = sym (is_dir-form (node_at t place.dir)) ∙ (whole.entry place inode is).within

  -- an entry that stands in its directory
  pub stands_at : place.dir ≢ inode → StandsAt t place inode
  stands_at apart = record { named = is; within = place_within; there = node_there; apart = apart }

  pub top_apart : (inode ≢ ROOT) × (inode ≢ TRASH_ROOT)
  top_apart =
      let parts = or_parts (inode == ROOT) (inode == TRASH_ROOT) (whole.entry place inode is).free in
      (eqb-false inode ROOT parts.0, eqb-false inode TRASH_ROOT parts.1)

  counted_low : inode < TRASH_ROOT → is_counted inode ≡ true
  counted_low low = and_from (not (inode == ROOT)) (nat_lt inode TRASH_ROOT) (ap not (ne_eqb inode ROOT top_apart.0))
      (lt-ltb inode TRASH_ROOT low)

  -- what goes with its only entry
  may_go_low : (now : ℕ) → place.dir ≢ inode → inode < TRASH_ROOT
      → ((at : EntryKey) → get t.entries at ≡ Some inode → at ≡ place) → MayGo (take_entry t now place) inode
  may_go_low now apart low only = record {
    there = ap is_some (change_node-apart t place.dir (touched now) inode (λ e. apart (sym e))) ∙ node_there;
    unnamed = λ at there. (let kept = was_kept entry_key t.entries place at inode there in kept.0 (only at kept.1));
    counted = counted_low low;
    given = subst (λ n. inode < n) (sym (change_node-next_inode t place.dir (touched now)))
        (whole.below inode (whole.entry place inode is).there (lt-ltb inode TRASH_ROOT low));
  }

  -- a file or a symlink is none of the trash's directories, and a directory that may go isn't either
  leaf_low : is_directory t inode ≡ false → inode < TRASH_ROOT
  leaf_low leaf = elim (cases_lt inode TRASH_ROOT) [
    | inl low ↦ low
    | inr high ↦
        let other = top_apart.1 in
        let hours = whole.hours inode (whole.entry place inode is).there
        (lt-ltb TRASH_ROOT inode (omega (arith, high, other))) in
        absurd (false≢true (sym (is_dir-form (node_at t inode) ∙ leaf) ∙ ap is_dir hours.1))
  ]

  off_trash : may_go place ≡ true → place.dir ≢ TRASH_ROOT
  off_trash may e =
      let parts = or_parts (place.dir == TRASH_ROOT) (is_trash place.dir place.name) (not-true _ may) in
      eqb-false place.dir TRASH_ROOT parts.0 e

  directory_low : may_go place ≡ true → inode < TRASH_ROOT
  directory_low may = elim (cases_lt inode TRASH_ROOT) [
    | inl low ↦ low
    | inr high ↦
        let other = top_apart.1 in
        let names_it = whole.entry place inode is in
        let hours = whole.hours inode names_it.there (lt-ltb TRASH_ROOT inode (omega (arith, high, other))) in
        let entered = whole.entered inode TRASH_ROOT hours.1 names_it.free in
        absurd (off_trash may (ap (λ (q : EntryKey). q.dir) (entered.only place is)))
  ]

  -- no entry stands in a file or a symlink, nor one in an empty directory
  pub leaf_apart_dir : is_directory t inode ≡ false → place.dir ≢ inode
  leaf_apart_dir leaf = leaf_empty (shape_of t) inode whole (is_dir-form (node_at t inode) ∙ leaf) place inode is

  pub empty_apart : is_directory t inode ≡ true → has_entries t inode ≡ false → place.dir ≢ inode
  empty_apart dir vacant = (directory_may_go t place inode whole is dir vacant).empty place inode is

  -- an empty directory goes with its entry
  pub empty_goes : (now : ℕ) → is_directory t inode ≡ true → has_entries t inode ≡ false → may_go place ≡ true
      → MayGo (take_entry t now place) inode
  empty_goes now dir vacant may =
      may_go_low now (empty_apart dir vacant) (directory_low may)
      (directory_may_go t place inode whole is dir vacant).only

  -- and so does a file or a symlink with its last
  pub leaf_goes : (now : ℕ) → is_directory t inode ≡ false → names (shape_of t) inode ≡ 1
      → MayGo (take_entry t now place) inode
  leaf_goes now leaf one = may_go_low now (leaf_apart_dir leaf) (leaf_low leaf)
      (λ at also. only_one t.entries place at inode one is also)
