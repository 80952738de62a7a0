-- What a removal leaves of links, and that an entry may move to the place that it makes free.
use Rattle.std.proofs.Common.{◌≡◌, ◌≢◌, ℕ, ◌≤◌, Bool, true, false, not, ◌&&◌, Option, None, Some, is_some, refl, sym, ap, ◌∙◌, arith}
use Rattle.std.specs.Prelude.{IsTrue, nat_lt}
use Rattle.jv_model.specs.promise.Lists.{is_among}
use Rattle.std.proofs.lemmas.Bool.{false≢true, cond_both, and_parts, not-true, le-leb, leb-true}
use Rattle.std.proofs.lemmas.Option.{same_Some}
use Rattle.jv_model.specs.declared.limits.TheConstants.{MAX_LINKS, READ_ONLY_MODE, TRASH_ROOT}
use Rattle.jv_model.specs.promise.tree.Caller.{Caller}
use Rattle.jv_model.specs.promise.tree.Changes.{status_changed, take_entry, put_entry, with_node}
use Rattle.jv_model.specs.promise.tree.HourNames.{hour_at}
use Rattle.jv_model.specs.promise.tree.Removing.{Fate, Linked, Trashed, Sustained, Dropped, fate_of, with_fate, remove_entry, remove_directory}
use Rattle.jv_model.specs.promise.tree.Renaming.{without_target}
use Rattle.jv_model.specs.promise.tree.Trash.{hour_inode, hour_place, trash_place, trash_name, with_hour}
use Rattle.jv_model.specs.promise.tree.Tree.{Tree, Node, Directory, EntryKey, in_trash, new_node, node_at, is_directory, entry_count, link_count, links_fit}
use Rattle.jv_volume.specs.promise.Shape.{Shape, WholeShape, shape_of, is_there, is_dir, names, named}
use Rattle.jv_volume.specs.promise.TypedRows.{is_entry_name}
use Rattle.jv_volume.proofs.shapes.ClimbLaws.{avoids_outside, avoids_without, outside_avoids}
use Rattle.jv_volume.proofs.sums.LinkLaws.{IsFree, standing_apart, link_count-change_node, link_count-put_entry-leaf, link_count-take_entry-leaf, link_count-beside_dir, link_count-without_leaf, link_count-without_dir}
use Rattle.jv_volume.proofs.shapes.MoveLaws.{MayRename, MayReplace, no_entries, not_trash_root, target_empty, whole-without_target, beside-without_target}
use Rattle.jv_volume.proofs.shapes.RemovalLaws.{directory_may_go, one_entry}
use Rattle.jv_volume.proofs.shapes.ShapeLossLaws.{parent_apart}
use Rattle.jv_volume.proofs.shapes.ShapeMapLaws.{naming_apart, only_one, parent_of_dir, is_dir-form, is_there-form, is_directory-form, there_of_dir, shape-take_entry}
use Rattle.jv_links.specs.Losses.{IsToTrash}
use Rattle.jv_links.specs.Moves.{MayMove}
use Rattle.jv_links.specs.Removals.{MayLose}
use Rattle.jv_links.proofs.losses.RemovalStepLaws.{top_apart}
use Rattle.jv_links.proofs.entries.TrashEntryLaws.{trash_name-entry}
use Rattle.jv_links.proofs.losses.TrashStepLaws.{trash_hour, trash_stands, leaf_made}

-- ---- the links of what a file or a symlink leaves

-- an hour's directory that comes changes the links of the trash alone
module _ (less : Tree) (now : ℕ) (place : EntryKey) (inode : ℕ) (may : IsToTrash less now place inode) (j : ℕ)
    (off : j ≢ TRASH_ROOT) (here : is_some (node_at less j) ≡ true) where
  abbrev hour_node : Node
  hour_node = new_node (Directory TRASH_ROOT) READ_ONLY_MODE now

  beside : link_count (with_hour less now (hour_at now)) j ≡ link_count less j
  unfolding with_hour
  beside = by_node (node_at less (hour_inode (hour_at now))) refl
    where
      by_node : (o : Option Node) → node_at less (hour_inode (hour_at now)) ≡ o → link_count (elim o as (λ _. Tree) [
        | None ↦ with_node less now (hour_place (hour_at now)) (hour_inode (hour_at now)) hour_node
        | Some node ↦ less
      ]) j ≡ link_count less j
      by_node None none =
          let m = trash_hour less now place inode may in
          let apart : j ≢ hour_inode (hour_at now) =
          λ e. false≢true (sym (ap (λ o. is_some o) (ap (node_at less) e ∙ none)) ∙ here) in
          let free : IsFree less (hour_inode (hour_at now)) =
          record { absent = none; unnamed = m.unnamed none; empty = m.empty none } in
          link_count-beside_dir less now (hour_place (hour_at now)) (hour_inode (hour_at now)) hour_node free
          (m.free none) refl m.trash j apart
          ∙ (let alone = standing_apart j (hour_place (hour_at now)) (λ e. off (sym e)) in omega (arith, alone))
      by_node (Some node) is = refl

  -- so does its entry there
  pub links-trashed : IsTrue (is_entry_name (trash_name place inode)) → j ≢ inode
      → link_count (put_entry (with_hour less now (hour_at now)) now (trash_place (hour_at now) place inode) inode)
      j ≡ link_count less j
  links-trashed name other =
      let made = with_hour less now (hour_at now) in
      let at = trash_place (hour_at now) place inode in
      let all = link_count-put_entry-leaf made now at inode j (trash_stands less now place inode may name).free
      (leaf_made less now place inode may) in
      let nothing = naming_apart j at inode (λ e. other (sym e)) in
      let same = beside in
      omega (arith, all, nothing, same)

module _ (t : Tree) (who : Caller) (place : EntryKey) (inode : ℕ) (may : MayLose t who place inode)
    (name : IsTrue (is_entry_name place.name))
    (j : ℕ) (other : j ≢ inode) (off : j ≢ TRASH_ROOT) (here : IsTrue (is_there ((shape_of t).form j))) where
  abbrev less : Tree
  less = take_entry t who.now place

  less_links : link_count less j ≡ link_count t j
  less_links =
      let all = link_count-take_entry-leaf t who.now place inode j may.is may.leaf in
      let nothing = naming_apart j place inode (λ e. other (sym e)) in
      omega (arith, all, nothing)

  abbrev Keeps : Fate → Type 0
  Keeps fate = link_count (with_fate fate less who place inode) j ≡ link_count t j

  keeps_linked : Keeps Linked
  keeps_linked = link_count-change_node less inode (status_changed who.now) (λ node. refl) j ∙ less_links

  keeps_sustained : Keeps Sustained
  keeps_sustained = keeps_linked

  keeps_dropped : names (shape_of t) inode ≡ 1 → Keeps Dropped
  keeps_dropped one = link_count-without_leaf t who.now place inode may.is
      (λ at also. only_one t.entries place at inode one may.is also) j other may.leaf

  keeps_trashed : names (shape_of t) inode ≡ 1 → (nat_lt 0 t.setting.trash_days && not (in_trash place.dir)) ≡ true
      → Keeps Trashed
  keeps_trashed one days =
      let to_trash : IsToTrash less who.now place inode = record {
        before = t;
        is = refl;
        whole = may.whole;
        named = may.is;
        leaf = may.leaf;
        one = one;
        outside = not-true (in_trash place.dir) (and_parts _ _ days).1;
        clock = may.clock;
        name = name;
      } in
      let there : is_some (node_at less j) ≡ true = sym (is_there-form (node_at less j))
      ∙ ap (λ (s : Shape). is_there (s.form j)) (shape-take_entry t who.now place) ∙ here in
      link_count-change_node (put_entry (with_hour less who.now (hour_at who.now)) who.now
      (trash_place (hour_at who.now) place inode) inode) inode (status_changed who.now) (λ node. refl) j
      ∙ links-trashed less who.now place inode to_trash j off there (trash_name-entry place inode name) other
      ∙ less_links

  kept_links : Keeps (fate_of t who place inode)
  kept_links = cond_both (nat_lt 1 (entry_count t inode)) _ _ Keeps (λ several. keeps_linked) (λ few.
      cond_both (nat_lt 0 t.setting.trash_days && not (in_trash place.dir)) _ _ Keeps
      (keeps_trashed (one_entry t place inode may.is few)) (λ keeps_none.
      cond_both (is_among inode who.held) _ _ Keeps (λ used. keeps_sustained)
      (λ closed. keeps_dropped (one_entry t place inode may.is few))))

  -- other inodes have the links that they had, but the trash
  pub links-remove_entry : link_count (remove_entry t who place inode) j ≡ link_count t j
  unfolding remove_entry
  links-remove_entry = kept_links

-- ---- the tree without the target of a rename

module _ (t : Tree) (who : Caller) (from : EntryKey) (source : ℕ) (to : EntryKey) (other : ℕ)
    (whole : WholeShape (shape_of t)) (may : MayReplace t who to other)
    (rename : MayRename t from source to) (name : IsTrue (is_entry_name to.name)) (apart : source ≢ other) where
  abbrev s : Shape
  s = shape_of t

  abbrev after : Tree
  after = without_target t who to other

  to_within : is_directory t to.dir ≡ true
  to_within = rename.within

  least_by : (b : Bool) → is_directory t other ≡ b → (j : ℕ) → j ≢ other → j ≢ TRASH_ROOT
      → IsTrue (is_there ((shape_of t).form j))
      → link_count (elim b as (λ _. Tree) [
        | true ↦ remove_directory t who.now to other
        | false ↦
            remove_entry t who to other
      ]) j ≤ link_count t j
  least_by true dir j aside off here =
      let only = (directory_may_go t to other whole may.is dir (no_entries t who to other whole may dir)).only in
      let all = link_count-without_dir t who.now to other may.is only j aside dir rename.within in
      omega (arith, all)
  least_by false leaf j aside off here =
      let all = links-remove_entry t who to other
      (record {
        whole = whole;
        is = may.is;
        leaf = leaf;
        session = may.session;
        held = may.held;
        clock = may.clock;
      }) name j aside off here in
      omega (arith, all)

  fits : (j : ℕ) → j ≢ other → j ≢ TRASH_ROOT → IsTrue (is_there ((shape_of t).form j)) → links_fit t j ≡ true
      → links_fit (without_target t who to other) j ≡ true
  fits j aside off here fit =
      let least = least_by (is_directory t other) refl j aside off here in
      let known = leb-true (link_count t j) MAX_LINKS fit in
      le-leb (link_count (without_target t who to other) j) MAX_LINKS (omega (arith, least, known))

  -- what is left may move there
  pub may_move-without_target : links_fit t from.dir ≡ true → links_fit t source ≡ true
      → MayMove (without_target t who to other) from source to
  may_move-without_target fit_from fit_source =
      let beside = beside-without_target t who to other whole may in
      let left = whole-without_target t who to other whole may in
      let own = whole.entry from source rename.is in
      let dir = is_dir-form (node_at t to.dir) ∙ rename.within in
      let parent = parent_of_dir (s.form to.dir) dir in
      let out = not_trash_root from rename.leaves in
      let up = avoids_outside t to.dir source whole dir rename.outside in
      let away : to.dir ≢ other = target_empty t who to other whole may to other may.is in
      record {
        whole = left;
        is = beside.still from source (λ e. apart (same_Some _ _ (sym rename.is ∙ ap (named s) e ∙ may.is))) out
            rename.is;
        free = beside.gone;
        name = name;
        within = is_directory-form after to.dir ∙ ap is_dir (beside.dirs to.dir parent.0 parent.1 away);
        outside = outside_avoids after to.dir source up.0 left own.free
            (avoids_without s.form (shape_of after).form other source (λ q p is not_it. beside.dirs q p is not_it)
            (parent_apart s other whole (whole.entry to other may.is).free (target_empty t who to other whole may)) up.0
            to.dir away up.1);
        links_from = fits from.dir (target_empty t who to other whole may from source rename.is) out
            (there_of_dir (s.form from.dir) own.within) fit_from;
        links_source = fits source apart (top_apart t from source whole rename.is).1 own.there fit_source;
      }
