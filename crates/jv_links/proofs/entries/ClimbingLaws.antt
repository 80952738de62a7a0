-- The way up from a directory, by one step: whether it lies in another one is whether its parent does.
use Rattle.std.proofs.Common.{◌≡◌, ◌≢◌, ℕ, zero, suc, ◌+◌, ◌-◌, ◌^◌, ◌<◌, ◌≤◌, min, arith, Bool, true, false, ◌&&◌, ◌==◌, ne_eqb, List, [], None, Some, Result, Ok, Err, refl, sym, ap, subst, ◌∙◌}
use Rattle.std.specs.Prelude.{IsTrue, if◌then◌else◌}
use Rattle.std.proofs.lemmas.Bool.{false≢true}
use Rattle.jv_model.specs.declared.fault.Fault.{Fault}
use Rattle.jv_model.specs.declared.fault.TxFault.{TxFault}
use Rattle.jv_model.specs.declared.row.Counters.{Counters}
use Rattle.jv_model.specs.declared.row.Row.TheVariants.{OfCounters}
use Rattle.jv_model.specs.promise.FiniteMap.{get, key_count}
use Rattle.jv_model.specs.promise.rows.RowGrammar.{is_counters}
use Rattle.jv_model.specs.promise.rows.RowKeys.{RowMap}
use Rattle.jv_model.specs.promise.rows.RowPlaces.{counters_key}
use Rattle.jv_model.specs.promise.tree.Attempt.{◌>>=◌}
use Rattle.jv_model.specs.promise.tree.Renaming.{is_inside, is_within}
use Rattle.jv_model.specs.promise.tree.Tree.{Tree, is_directory, node_at, parent_at, used_inodes}
use Rattle.jv_outside.specs.declared.batch.Change.{Change}
use Rattle.jv_outside.specs.promise.Store.{Store}
use Rattle.jv_rows.specs.Drafts.{drafted, Needs}
use Rattle.jv_rows.specs.declared.walking.Place.{Place}
use Rattle.jv_rows.specs.Transactions.{Looks}
use Rattle.jv_rows.specs.Walks.{HasNodeRow, Comes}
use Rattle.jv_rows.proofs.transactions.TransactionLaws.{Past, past-start, past-as, past-looks, past-stops, past-gives, fails-looks, drafted-none}
use Rattle.jv_rows.proofs.transactions.NeedingLaws.{CountersNeeded, fails-needed, stands-needs}
use Rattle.jv_volume.specs.promise.Shape.{Dir, Reaches, WholeShape, shape_of, is_dir, is_top}
use Rattle.jv_volume.specs.promise.TypedRows.{Rows, typed}
use Rattle.jv_volume.specs.promise.TreeOf.{tree_of}
use Rattle.jv_volume.specs.promise.Views.{counters_in, row_in}
use Rattle.jv_volume.specs.promise.Whole.{Whole, no_bytes}
use Rattle.jv_volume.proofs.shapes.ClimbLaws.{Avoids, dir_parent, avoids_outside, outside_avoids, inside_meets}
use Rattle.jv_volume.proofs.sums.CountLaws.{short_way, used_below}
use Rattle.jv_volume.proofs.shapes.ShapeMapLaws.{is_directory-form, form-parent}
use Rattle.jv_volume.proofs.stored.StoredLaws.{HasNode, found_counters, whole-shape, whole-stored}
use Rattle.jv_volume.proofs.shapes.WalkShapeLaws.{parent_directory}
use Rattle.jv_links.specs.Climbs.{IsNear, StandsNear}
use Rattle.jv_links.specs.Moves.{StandsDirectory}
use Rattle.jv_links.proofs.moves.RenameAnswerLaws.{has_node}
use Rattle.jv_model.proofs.TestLaws.{same_Ok}

module _ (t : Tree) (dir parent inode : ℕ) (whole : WholeShape (shape_of t)) (is : (shape_of t).form dir ≡ Dir parent)
    (within : IsTrue (is_dir ((shape_of t).form parent)))
    (low : is_top inode ≡ false) (apart : dir ≢ inode) (below : is_top dir ≡ false) where
  up_avoids : (n : ℕ) → Avoids (shape_of t).form inode n dir → is_inside t parent inode ≡ false
  up_avoids zero h = absurd (false≢true (sym below ∙ h.1))
  up_avoids (suc n) h =
      outside_avoids t parent inode n whole low
      (subst (Avoids (shape_of t).form inode n) (dir_parent h.1.0 parent (sym h.1.1 ∙ is)) h.1.2)

  by_answers : (b d : Bool) → is_inside t dir inode ≡ b → is_inside t parent inode ≡ d
      → is_inside t dir inode ≡ is_inside t parent inode
  by_answers true true e f = e ∙ sym f
  by_answers false false e f = e ∙ sym f
  by_answers false true e f =
      let up = avoids_outside t dir inode whole (ap is_dir is) e in
      absurd (false≢true (sym (up_avoids up.0 up.1) ∙ f))
  by_answers true false e f =
      let up = avoids_outside t parent inode whole within f in
      absurd (false≢true (sym (outside_avoids t dir inode (suc up.0) whole low (apart, (parent, is, up.1))) ∙ e))

  -- one step up
  pub inside-parent : is_inside t dir inode ≡ is_inside t parent inode
  inside-parent = by_answers (is_inside t dir inode) (is_inside t parent inode) refl refl

-- each exit of the climb, from a place that it has reached
module _ (before now : Store) (start source : ℕ) (place : Place) (low : is_top source ≡ false)
    (p : Past before now (λ t. Ok (is_inside t start source)) (λ t. Ok (is_inside t place.inode source)))
    (s : StandsDirectory now place) where
  abbrev act : Tree → Result Bool Fault
  act t = Ok (is_inside t start source)

  abbrev rest : Tree → Result Bool Fault
  rest t = Ok (is_inside t place.inode source)

  here : (known : RowMap) → before.rows ≡ Some known → Whole (typed known) → (bytes : ℕ → ℕ → ℕ)
      → HasNode (tree_of bytes (typed known)) place.inode place.node (bytes place.inode)
  here known is whole bytes = has_node now place.inode place known s.row (p.rows_are ∙ is) whole bytes

  is_here : (known : RowMap) → before.rows ≡ Some known → Whole (typed known) → (bytes : ℕ → ℕ → ℕ)
      → is_directory (tree_of bytes (typed known)) place.inode ≡ true
  is_here known is whole bytes = (here known is whole bytes).directory ∙ ap (λ k. k == 2) s.directory

  dir_here : (known : RowMap) → before.rows ≡ Some known → Whole (typed known) → (bytes : ℕ → ℕ → ℕ)
      → IsTrue (is_dir ((shape_of (tree_of bytes (typed known))).form place.inode))
  dir_here known is whole bytes = sym (is_directory-form (tree_of bytes (typed known)) place.inode)
      ∙ is_here known is whole bytes

  parent_is : (known : RowMap) → before.rows ≡ Some known → Whole (typed known) → (bytes : ℕ → ℕ → ℕ)
      → parent_at (tree_of bytes (typed known)) place.inode ≡ Some place.node.parent
  parent_is known is whole bytes = (here known is whole bytes).parent
      ∙ ap (λ k. if k == 2 then Some place.node.parent else None) s.directory

  form_is : (known : RowMap) → before.rows ≡ Some known → Whole (typed known) → (bytes : ℕ → ℕ → ℕ)
      → (shape_of (tree_of bytes (typed known))).form place.inode ≡ Dir place.node.parent
  form_is known is whole bytes = form-parent (node_at (tree_of bytes (typed known)) place.inode) place.node.parent
      (parent_is known is whole bytes)

  -- it has reached the inode
  pub climb-met : place.inode ≡ source → Looks before now (Ok true) act
  climb-met same = past-gives before now act true
      (past-as before now now act rest p (λ t. Ok true) (λ known is whole bytes. ap Ok
      (inside_meets (tree_of bytes (typed known)) place.inode source 0 (whole-shape bytes (typed known) whole)
      (dir_here known is whole bytes) low same)))

  module _ (apart : place.inode ≢ source) where
    -- it has reached the top
    pub climb-top : is_top place.inode ≡ true → Looks before now (Ok false) act
    climb-top top = past-gives before now act false
        (past-as before now now act rest p (λ t. Ok false) (λ known is whole bytes. ap Ok
        (outside_avoids (tree_of bytes (typed known)) place.inode source 0 (whole-shape bytes (typed known) whole) low
        (apart, top))))

    module _ (below : is_top place.inode ≡ false) where
      abbrev finds : Tree → Result ℕ Fault
      finds t = Ok place.node.parent

      abbrev next : Tree → ℕ → Result Bool Fault
      next t inode = Ok (is_inside t inode source)

      up : Past before now act (λ t. finds t >>= next t)
      up = past-as before now now act rest p (λ t. finds t >>= next t)
          (λ known is whole bytes. (let t = tree_of bytes (typed known) in
          let shape = whole-shape bytes (typed known) whole in
          ap Ok (inside-parent t place.inode place.node.parent source shape (form_is known is whole bytes)
          (sym (is_directory-form t place.node.parent) ∙ parent_directory t shape place.inode place.node.parent
          (parent_is known is whole bytes)) low apart below)))

      -- the parent wasn't read
      pub climb-not_up : (after : Store) (fault : TxFault) → Comes now after (Err fault) finds
          → Looks before after (Err fault) act
      climb-not_up after fault w = past-stops before now after act finds next up fault w.looks

      module _ (after : Store) (above : Place) (w : Comes now after (Ok above) finds) where
        -- it was
        pub climb-up : Past before after act (λ t. Ok (is_inside t above.inode source))
        climb-up = past-looks before now after act finds next up above.inode w.looks

        one_less : (known : RowMap) → before.rows ≡ Some known → Whole (typed known) → (taken left fewer : ℕ)
            → left ≤ fewer + 1 → taken < left
            → Reaches (shape_of (tree_of no_bytes (typed known))).form taken place.inode
            → IsNear known above.inode fewer
        one_less known is whole zero left fewer more short h = absurd (false≢true (sym below ∙ h))
        one_less known is whole (suc taken) left fewer more short h =
            let own : h.0 ≡ place.node.parent = dir_parent h.0 place.node.parent
            (sym h.1 ∙ form_is known is whole no_bytes) in
            let read : place.node.parent ≡ above.inode = same_Ok place.node.parent above.inode
            (w.looks.agrees known (p.rows_are ∙ is) whole no_bytes) in
            record {
              taken = taken;
              fewer = omega (arith, more, short);
              reaches = subst (Reaches (shape_of (tree_of no_bytes (typed known))).form taken) (own ∙ read) h.2;
            }

        -- and the way up from there has one step less
        pub climb-nearer : (left fewer : ℕ) → left ≤ fewer + 1 → StandsNear before place.inode left
            → StandsNear before above.inode fewer
        climb-nearer left fewer more near = λ known is whole. let n = near known is whole in
            one_less known is whole n.taken left fewer more n.fewer n.reaches

-- ---- before the climb

-- nothing is inside a file or a symlink
pub outside-leaf : (store : Store) (dir source : ℕ) (place : Place) → HasNodeRow store source place.node
    → place.node.kind ≢ 2
    → Looks store store (Ok false) (λ t. Ok (is_inside t dir source))
outside-leaf store dir source place row leaf = past-gives store store (λ t. Ok (is_inside t dir source)) false
    (past-as store store store (λ t. Ok (is_inside t dir source)) (λ t. Ok (is_inside t dir source))
    (past-start store (λ t. Ok (is_inside t dir source)))
    (λ t. Ok false) (λ known is whole bytes. (let t = tree_of bytes (typed known) in
    ap (λ b. Ok (b && is_within (key_count t.nodes) t dir source))
    ((has_node store source place known row is whole bytes).directory ∙ ne_eqb place.node.kind 2 leaf))))

module _ (before now : Store) (changes : List Change) (none : changes ≡ []) where
  kept : (known : RowMap) → before.rows ≡ Some known
      → get (drafted changes known) counters_key ≡ get (typed known) counters_key
  kept known is = ap (λ ch. get (drafted ch known) counters_key) none
      ∙ ap (λ (rows : Rows). get rows counters_key) (drafted-none known)

  -- the counters weren't read
  pub inside-no_counters : (act : Tree → Result Bool Fault) (fault : TxFault)
      → Needs OfCounters is_counters counters_key changes before now (Err fault)
      → Looks {A = Bool} before now (Err fault) act
  inside-no_counters act fault n = fails-looks before now act fault
      (fails-needed OfCounters is_counters counters_key changes before now kept (CountersNeeded refl) fault n)

  module _ (dir : Place) (s : StandsDirectory before dir) (counters : Counters)
      (n : Needs OfCounters is_counters counters_key changes before now (Ok counters)) where
    near_by : (known : RowMap) → before.rows ≡ Some known → Whole (typed known)
        → IsNear known dir.inode (min (counters.used_inodes + 2) (2 ^ 64 - 1))
    near_by known is whole =
        let t = tree_of no_bytes (typed known) in
        let shape = whole-shape no_bytes (typed known) whole in
        let stored = whole-stored no_bytes (typed known) whole in
        let row = stands-needs OfCounters is_counters counters_key changes before now kept counters n known is in
        let counted : used_inodes t ≡ counters.used_inodes =
        (found_counters no_bytes (typed known) stored counters (ap (λ c. counters_in (row_in c)) row)).inodes in
        let node = has_node before dir.inode dir known s.row is whole no_bytes in
        let parent : parent_at t dir.inode ≡ Some dir.node.parent = node.parent
        ∙ ap (λ k. if k == 2 then Some dir.node.parent else None) s.directory in
        let up = shape.rooted dir.inode dir.node.parent (form-parent (node_at t dir.inode) dir.node.parent parent) in
        let short = short_way t shape up.0 dir.inode up.1 in
        let below = used_below t shape in
        let end = shape.inodes_end in
        record {
          taken = short.0;
          fewer = omega (arith, short.1, counted, below, end);
          reaches = short.2;
        }

    -- the way up from a directory has fewer steps than two more than inodes are counted
    pub inside-near : (steps : ℕ) → steps ≡ min (counters.used_inodes + 2) (2 ^ 64 - 1) → StandsNear now dir.inode steps
    inside-near steps is_min = λ known is whole. subst (IsNear known dir.inode) (sym is_min)
        (near_by known (sym n.rows_are ∙ is) whole)
