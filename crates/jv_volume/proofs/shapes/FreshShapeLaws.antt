-- The tree of a volume that was just formatted is whole.
use Rattle.std.proofs.Common.{◌≡◌, ◌≢◌, ℕ, zero, ◌<◌, true, ◌⊎◌, inl, inr, None, Some, is_some, sym, ap, ◌∙◌, arith}
use Rattle.std.specs.Prelude.{IsTrue, nat_lt}
use Rattle.std.proofs.lemmas.Bool.{false≢true, ltb-true, cases_eq}
use Rattle.jv_model.specs.declared.limits.TheConstants.{FULL_MODE, ROOT, TRASH_ROOT}
use Rattle.jv_model.specs.declared.setting.Setting.{Setting}
use Rattle.jv_model.specs.promise.FiniteMap.{Map, number_key, empty_map, get, insert}
use Rattle.jv_model.specs.promise.tree.Tree.{Node, Directory, EntryKey, entry_key, pair_key, new_node}
use Rattle.jv_model.specs.tree.Tree.{fresh_tree}
use Rattle.jv_model.proofs.FiniteMapLaws.{get-empty_map}
use Rattle.jv_volume.specs.promise.Shape.{Absent, Dir, Shape, form_of, is_there, is_dir, shape_of, named, keeps, is_top, WholeShape}
use Rattle.jv_volume.proofs.shapes.ShapeMapLaws.{get-inserted, get-insert_apart}

-- an inode is the root or the trash, or isn't there
data IsFresh (s : Shape) (inode : ℕ) : Type 0 where
  Top : is_top inode ≡ true → s.form inode ≡ Dir ROOT → (inode ≡ ROOT) ⊎ (inode ≡ TRASH_ROOT) → IsFresh s inode
  Free : s.form inode ≡ Absent → IsFresh s inode

module _ (setting : Setting) (now : ℕ) where
  abbrev fresh : Shape
  fresh = shape_of (fresh_tree setting now)

  abbrev first : Map number_key Node
  first = insert empty_map ROOT (new_node (Directory ROOT) FULL_MODE now)

  trash_is : fresh.form TRASH_ROOT ≡ Dir ROOT
  trash_is = ap form_of (get-inserted number_key first TRASH_ROOT _)

  not_trash : (inode : ℕ) → inode ≢ TRASH_ROOT → fresh.form inode ≡ form_of (get first inode)
  not_trash inode apart = ap form_of (get-insert_apart number_key first TRASH_ROOT _ inode apart)

  root_is : fresh.form ROOT ≡ Dir ROOT
  root_is = not_trash ROOT (λ e. omega (arith, e)) ∙ ap form_of (get-inserted number_key empty_map ROOT _)

  is_fresh : (inode : ℕ) → IsFresh fresh inode
  is_fresh inode = elim (cases_eq inode TRASH_ROOT) [
    | inl e ↦ Top (ap is_top e) (ap fresh.form e ∙ trash_is) (inr e)
    | inr apart ↦ elim (cases_eq inode ROOT) [
      | inl e ↦ Top (ap is_top e) (ap fresh.form e ∙ root_is) (inl e)
      | inr other ↦ Free (not_trash inode apart ∙ ap form_of (get-insert_apart number_key empty_map ROOT _ inode other ∙ get-empty_map number_key inode))
    ]
  ]

  no_entry : (at : EntryKey) (inode : ℕ) → named fresh at ≢ Some inode
  no_entry at inode is = let none : named fresh at ≡ None = get-empty_map entry_key at in absurd (cc)

  no_pair : (sid inode : ℕ) → keeps fresh sid inode ≢ true
  no_pair sid inode is = false≢true (sym (ap is_some (get-empty_map pair_key (record { sid = sid; inode = inode }))) ∙ is)

  no_session : (sid : ℕ) → fresh.in_session sid ≢ true
  no_session sid is = false≢true (sym (ap is_some (get-empty_map number_key sid)) ∙ is)

  -- whatever is there is the root or the trash
  top_of : (inode : ℕ) → IsTrue (is_there (fresh.form inode)) → IsFresh fresh inode → is_top inode ≡ true
  top_of inode there (Top top is one) = top
  top_of inode there (Free absent) = absurd (false≢true (sym (ap is_there absent) ∙ there))

  dir_of : (inode : ℕ) → IsTrue (is_there (fresh.form inode)) → IsFresh fresh inode → is_dir (fresh.form inode) ≡ true
  dir_of inode there (Top top is one) = ap is_dir is
  dir_of inode there (Free absent) = absurd (false≢true (sym (ap is_there absent) ∙ there))

  one_of : (inode : ℕ) → IsTrue (is_there (fresh.form inode)) → IsFresh fresh inode → (inode ≡ ROOT) ⊎ (inode ≡ TRASH_ROOT)
  one_of inode there (Top top is one) = one
  one_of inode there (Free absent) = absurd (false≢true (sym (ap is_there absent) ∙ there))

  none_above : (inode : ℕ) → IsTrue (is_there (fresh.form inode)) → IsTrue (nat_lt TRASH_ROOT inode) → ⊥
  none_above inode there above =
      let high = ltb-true TRASH_ROOT inode above in
      elim (one_of inode there (is_fresh inode)) [ inl e ↦ omega (arith, e, high) | inr e ↦ omega (arith, e, high) ]

  low_of : (inode : ℕ) → IsTrue (is_there (fresh.form inode)) → IsTrue (nat_lt inode TRASH_ROOT) → inode < 2
  low_of inode there below =
      let low = ltb-true inode TRASH_ROOT below in
      elim (one_of inode there (is_fresh inode)) [ inl e ↦ omega (arith, e) | inr e ↦ absurd (omega (arith, e, low)) ]

  -- the tree of a volume that was just formatted
  pub whole-fresh_tree : WholeShape (shape_of (fresh_tree setting now))
  whole-fresh_tree = record {
    root_there = root_is;
    trash_there = trash_is;
    entry = λ at inode is. absurd (no_entry at inode is);
    entered = λ dir parent is top. absurd (false≢true (sym top ∙ top_of dir (ap is_there is) (is_fresh dir)));
    rooted = λ dir parent is. (zero, top_of dir (ap is_there is) (is_fresh dir));
    held = λ inode there leaf none. absurd (false≢true (sym leaf ∙ dir_of inode there (is_fresh inode)));
    sustains = λ sid inode is. absurd (no_pair sid inode is);
    hours = λ inode there above. absurd (none_above inode there above);
    below = low_of;
    sessions = λ sid is. absurd (no_session sid is);
    inodes_end = omega arith;
    sessions_end = omega arith;
  }
