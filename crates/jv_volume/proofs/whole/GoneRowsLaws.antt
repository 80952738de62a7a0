-- Rows after an inode went with its only entry: no node, no edge, its directory touched, and the counters less. Their tree is
-- the model's, and they are the rows of that tree.
use Rattle.std.proofs.Common.{◌≡◌, ◌≢◌, ℕ, ◌+◌, ◌-◌, Bool, true, false, inl, inr, None, Some, Ok, refl, sym, ap, subst, ◌∙◌, arith}
use Rattle.std.specs.Prelude.{if◌then◌else◌}
use Rattle.std.specs.Option.{option_map}
use Rattle.std.specs.Ordering.{eq_by_cmp}
use Rattle.std.proofs.lemmas.Bool.{cases_eq}
use Rattle.jv_model.specs.declared.row.RowKey.{RowKey}
use Rattle.jv_model.specs.declared.row.Counters.{Counters}
use Rattle.jv_model.specs.declared.row.Node.{Node as NodeRow}
use Rattle.jv_model.specs.declared.row.Edge.{Edge}
use Rattle.jv_model.specs.declared.row.Row.TheVariants.{OfSetting, OfCounters, OfNode}
use Rattle.jv_model.specs.promise.FiniteMap.{number_key, get, insert, remove}
use Rattle.jv_model.specs.promise.rows.RowKeys.{row_key, row_cmp}
use Rattle.jv_model.specs.promise.rows.RowPlaces.{setting_key, counters_key, node_key, edge_key, session_key, sustained_key}
use Rattle.jv_model.specs.promise.tree.Tree.{Tree, Node, EntryKey, entry_key, node_at, is_directory, link_count, used_space, used_inodes, node_space, node_count}
use Rattle.jv_model.specs.promise.tree.Changes.{touched, put_node, drop_node}
use Rattle.jv_model.specs.promise.tree.Removing.{remove_directory}
use Rattle.jv_model.proofs.FiniteMapLaws.{get-insert, get-remove}
use Rattle.jv_volume.specs.promise.TypedRows.{Cell, Rows}
use Rattle.jv_volume.specs.promise.Views.{row_in, edge_in, counters_at, node_row_at}
use Rattle.jv_volume.specs.promise.TreeOf.{node_of_row, tree_of}
use Rattle.jv_volume.specs.promise.Shape.{form_of, is_dir}
use Rattle.jv_volume.specs.promise.Stored.{Stored, number_of_node, counters_row}
use Rattle.jv_volume.specs.Stored.{directory_touched}
use Rattle.jv_volume.proofs.shapes.ShapeMapLaws.{same_or_apart, get-inserted, get-insert_apart, get-removed, get-remove_apart}
use Rattle.jv_volume.proofs.maps.MapLaws.{alter-swap}
use Rattle.jv_volume.proofs.stored.NodeRowLaws.{IsNodeRow, IsNodeRow-touched}
use Rattle.jv_volume.proofs.stored.StoredLaws.{HasNode, HasCounters, found_node, found_counters}
use Rattle.jv_volume.proofs.stored.StoringLaws.{AreStored, IsNodeCell, IsEdgeCell, are_stored, stored-by}
use Rattle.jv_volume.proofs.stored.StoredStepLaws.{put_kept, drop_kept}
use Rattle.jv_volume.proofs.stored.TreeOfLaws.{get-entries, tree_of-put_node, tree_of-drop_node, tree_of-drop_edge, tree_of-put_counters}
use Rattle.jv_volume.proofs.operations.ChangeLaws.{take_entry-there}
use Rattle.jv_volume.proofs.sums.LinkLaws.{standing, standing_here, standing_apart, dirs-shape, link_count-without_leaf, link_count-without_dir, none_within}
use Rattle.jv_volume.proofs.sums.SumLaws.{used_space-removed, used_inodes-removed}

abbrev pub shrunk : ℕ → ℕ → Counters → Counters
shrunk space count c = record c { used_space = c.used_space - space; used_inodes = c.used_inodes - count }

abbrev pub gone_rows : Rows → ℕ → EntryKey → ℕ → NodeRow → ℕ → Counters → ℕ → ℕ → Rows
gone_rows rows now place inode dir links c space count =
    insert (insert (remove (remove rows (node_key inode)) (edge_key place.dir place.name)) (node_key place.dir) (Ok (OfNode (directory_touched now links dir))))
    counters_key (Ok (OfCounters (shrunk space count c)))

-- the premises on the rows that go
pub record IsGoing (t : Tree) (place : EntryKey) (inode : ℕ) (row dir : NodeRow) (byte : ℕ → ℕ) (links space count : ℕ) : Type 0 where
  pub named : get t.entries place ≡ Some inode
  pub only : (at : EntryKey) → get t.entries at ≡ Some inode → at ≡ place
  pub within : is_directory t place.dir ≡ true
  pub apart : place.dir ≢ inode
  pub dir_links : links + (if is_dir (form_of (Some (node_of_row byte row))) then 1 else 0) ≡ dir.nlink
  pub space_is : space ≡ node_space inode (node_of_row byte row)
  pub count_is : count ≡ node_count inode (node_of_row byte row)

module _ (bytes : ℕ → ℕ → ℕ) (rows : Rows) (now : ℕ) (place : EntryKey) (inode : ℕ) (row dir : NodeRow) (links : ℕ) (c : Counters) (space count : ℕ)
    (s : Stored rows (tree_of bytes rows)) (there : node_row_at rows place.dir ≡ Some dir) (here : node_row_at rows inode
    ≡ Some row) (counters : counters_at rows ≡ Some c)
    (going : IsGoing (tree_of bytes rows) place inode row dir (bytes inode) links space count) where
  abbrev t : Tree
  t = tree_of bytes rows

  abbrev node : Node
  node = node_of_row (bytes inode) row

  abbrev after : Rows
  after = gone_rows rows now place inode dir links c space count

  abbrev touched_dir : Node
  touched_dir = touched now (node_of_row (bytes place.dir) dir)

  dir_is : HasNode t place.dir dir (bytes place.dir)
  dir_is = found_node bytes rows s place.dir dir there

  node_is : HasNode t inode row (bytes inode)
  node_is = found_node bytes rows s inode row here

  c_is : HasCounters t c
  c_is = found_counters bytes rows s c counters

  abbrev r1 : Rows
  r1 = remove rows (node_key inode)

  abbrev r2 : Rows
  r2 = remove r1 (edge_key place.dir place.name)

  abbrev dir_row : Cell
  dir_row = Ok (OfNode (directory_touched now links dir))

  abbrev r3 : Rows
  r3 = insert r2 (node_key place.dir) dir_row

  abbrev gone_tree : ℕ → ℕ → Tree
  gone_tree next session = record t {
    nodes = insert (remove t.nodes inode) place.dir touched_dir;
    entries = remove t.entries place;
    next_inode = next;
    next_session = session;
  }

  by_rows : tree_of bytes after ≡ gone_tree c.inode c.session
  by_rows =
      tree_of-put_counters bytes r3 (shrunk space count c)
      ∙ ap (λ (u : Tree). record u { next_inode = c.inode; next_session = c.session })
      (tree_of-put_node bytes r2 place.dir (directory_touched now links dir)
      ∙ ap (λ (u : Tree). put_node u place.dir touched_dir)
      (tree_of-drop_edge bytes r1 place.dir place.name
      ∙ ap (λ (u : Tree). record u { entries = remove u.entries place }) (tree_of-drop_node bytes rows inode)))

  by_model : remove_directory t now place inode ≡ gone_tree t.next_inode t.next_session
  by_model =
      ap (λ (u : Tree). drop_node u inode) (take_entry-there t now place (node_of_row (bytes place.dir) dir) dir_is.there)
      ∙ ap (λ nodes. record t { nodes = nodes; entries = remove t.entries place })
      (alter-swap number_key t.nodes place.dir inode (Some touched_dir) None (λ same. going.apart (sym same)))

  -- the tree of the rows after an inode went
  pub tree_of-gone : tree_of bytes after ≡ remove_directory t now place inode
  tree_of-gone = by_rows ∙ sym (by_model ∙ (λ i. gone_tree (c_is.next_inode i) (c_is.next_session i)))

  -- link counts

  is_dir_here : is_directory t inode ≡ is_dir (form_of (Some node))
  is_dir_here = dirs-shape t inode ∙ ap (λ o. is_dir (form_of o)) node_is.there

  without_links : (b : Bool) → is_dir (form_of (Some node)) ≡ b → (j : ℕ) → j ≢ inode
      → link_count (remove_directory t now place inode) j + (if b then standing j place else 0) ≡ link_count t j
  without_links true e j apart = link_count-without_dir t now place inode going.named going.only j apart (is_dir_here ∙ e) going.within
  without_links false e j apart = (let same = link_count-without_leaf t now place inode going.named going.only j apart (is_dir_here ∙ e) in omega (arith, same))

  dir_links : link_count (tree_of bytes after) place.dir ≡ links
  dir_links =
      let all = without_links (is_dir (form_of (Some node))) refl place.dir going.apart in
      let one : (if is_dir (form_of (Some node)) then standing place.dir place else 0) ≡ (if is_dir (form_of (Some node)) then 1 else 0) =
      ap (λ n. if is_dir (form_of (Some node)) then n else 0) (standing_here place.dir place refl) in
      let same = ap (λ (x : Tree). link_count x place.dir) tree_of-gone in
      omega (arith, all, one, same, dir_is.links, going.dir_links)

  other_links : (j : ℕ) → j ≢ place.dir → j ≢ inode → link_count (tree_of bytes after) j ≡ link_count t j
  other_links j aside apart =
      let all = without_links (is_dir (form_of (Some node))) refl j apart in
      let nothing = none_within (is_dir (form_of (Some node))) (standing j place) (standing_apart j place (λ same. aside (sym same))) in
      let same = ap (λ (x : Tree). link_count x j) tree_of-gone in
      omega (arith, all, nothing, same)

  -- nodes

  before_stored : AreStored bytes rows
  before_stored = are_stored bytes rows s

  last_put : (q : RowKey) → eq_by_cmp row_cmp q counters_key ≡ false → get after q ≡ get r3 q
  last_put q apart = put_kept r3 counters_key (Ok (OfCounters (shrunk space count c))) q apart

  node_beside : (i : ℕ) → i ≢ place.dir → get after (node_key i) ≡ get r1 (node_key i)
  node_beside i aside =
      last_put (node_key i) refl ∙ get-insert_apart row_key r2 (node_key place.dir) dir_row (node_key i) (λ same. aside (ap (λ (q : RowKey). q.a) same))
      ∙ get-remove r1 (edge_key place.dir place.name) (node_key i)

  dir_cell : (cell : Cell) → get after (node_key place.dir) ≡ Some cell → IsNodeCell (link_count (tree_of bytes after) place.dir) (bytes place.dir) cell
  dir_cell cell e =
      let put : get after (node_key place.dir) ≡ Some dir_row = last_put (node_key place.dir) refl ∙ get-inserted row_key r2 (node_key place.dir) dir_row in
      record {
        row = directory_touched now links dir;
        is = cc;
        row_is = subst (λ l. IsNodeRow l (bytes place.dir) (directory_touched now links dir)) (sym dir_links)
            (IsNodeRow-touched (bytes place.dir) dir now (link_count t place.dir) links dir_is.row_is);
      }

  no_cell : get after (node_key inode) ≡ None
  no_cell = node_beside inode (λ same. going.apart (sym same)) ∙ get-removed row_key rows (node_key inode)

  node_after : (i : ℕ) (cell : Cell) → get after (node_key i) ≡ Some cell → IsNodeCell (link_count (tree_of bytes after) i) (bytes i) cell
  node_after i cell e = elim (cases_eq i place.dir) [
    | inl same ↦ subst (λ k. IsNodeCell (link_count (tree_of bytes after) k) (bytes k) cell) (sym same)
        (dir_cell cell (sym (ap (λ k. get after (node_key k)) same) ∙ e))
    | inr aside ↦ elim (cases_eq i inode) [
      | inl same ↦ let none : get after (node_key i) ≡ None = ap (λ k. get after (node_key k)) same ∙ no_cell in absurd (cc)
      | inr apart ↦
          let was : get rows (node_key i) ≡ Some cell =
          sym (node_beside i aside ∙ get-remove_apart row_key rows (node_key inode) (node_key i) (λ same. apart (ap (λ (q : RowKey). q.a) same))) ∙ e in
          subst (λ l. IsNodeCell l (bytes i) cell) (sym (other_links i aside apart)) (before_stored.node i cell was)
    ]
  ]

  -- entries

  old_number : (i : ℕ) → i ≢ inode → number_of_node (node_at (tree_of bytes after) i) ≡ number_of_node (node_at t i)
  old_number i apart = ap (λ (x : Tree). number_of_node (node_at x i)) by_rows ∙ elim (cases_eq i place.dir) [
    | inl same ↦ ap number_of_node (ap (get (insert (remove t.nodes inode) place.dir touched_dir)) same
        ∙ get-inserted number_key (remove t.nodes inode) place.dir touched_dir)
        ∙ sym (ap number_of_node (ap (node_at t) same ∙ dir_is.there))
    | inr aside ↦ ap number_of_node (get-insert_apart number_key (remove t.nodes inode) place.dir touched_dir i aside
        ∙ get-remove_apart number_key t.nodes inode i apart)
  ]

  edge_put : (at : EntryKey) → get after (edge_key at.dir at.name) ≡ get r2 (edge_key at.dir at.name)
  edge_put at = last_put (edge_key at.dir at.name) refl ∙ get-insert r2 (node_key place.dir) dir_row (edge_key at.dir at.name)

  edge_after : (at : EntryKey) (cell : Cell) → get after (edge_key at.dir at.name) ≡ Some cell → IsEdgeCell (tree_of bytes after) cell
  edge_after at cell e = elim (same_or_apart entry_key at place) [
    | inl same ↦
        let none : get after (edge_key at.dir at.name) ≡ None =
        edge_put at ∙ ap (λ (k : EntryKey). get r2 (edge_key k.dir k.name)) same ∙ get-removed row_key r1 (edge_key place.dir place.name) in
        absurd (cc)
    | inr aside ↦
        let was : get rows (edge_key at.dir at.name) ≡ Some cell =
        sym (edge_put at
        ∙ get-remove_apart row_key r1 (edge_key place.dir place.name) (edge_key at.dir at.name)
        (λ same. aside (λ i. record { dir = (same i).a; name = (same i).b }))
        ∙ get-remove rows (node_key inode) (edge_key at.dir at.name)) ∙ e in
        let old = before_stored.edge at cell was in
        let named : get t.entries at ≡ Some old.edge.inode = get-entries bytes rows at
        ∙ ap (λ o. option_map (λ (edge : Edge). edge.inode) (edge_in (row_in o))) (was ∙ ap (λ x. Some x) old.is) in
        let apart : old.edge.inode ≢ inode = (λ same. aside (going.only at (named ∙ ap (λ i. Some i) same))) in
        record { edge = old.edge; is = old.is; kind = old.kind ∙ sym (old_number old.edge.inode apart) }
  ]

  -- the other tables

  kept : (q : RowKey) → eq_by_cmp row_cmp q counters_key ≡ false → eq_by_cmp row_cmp q (node_key place.dir) ≡ false
      → eq_by_cmp row_cmp q (edge_key place.dir place.name) ≡ false
      → eq_by_cmp row_cmp q (node_key inode) ≡ false → get after q ≡ get rows q
  kept q a b d e =
      last_put q a ∙ put_kept r2 (node_key place.dir) dir_row q b ∙ drop_kept r1 (edge_key place.dir place.name) q d
      ∙ drop_kept rows (node_key inode) q e

  space_after : used_space (tree_of bytes after) ≡ c.used_space - space
  space_after =
      let all = used_space-removed t now place inode node node_is.there (λ same. going.apart (sym same)) in
      let same = ap used_space tree_of-gone in
      omega (arith, all, same, going.space_is, c_is.space)

  inodes_after : used_inodes (tree_of bytes after) ≡ c.used_inodes - count
  inodes_after =
      let all = used_inodes-removed t now place inode node node_is.there (λ same. going.apart (sym same)) in
      let same = ap used_inodes tree_of-gone in
      omega (arith, all, same, going.count_is, c_is.inodes)

  counters_after : shrunk space count c ≡ counters_row (tree_of bytes after) c.slice
  counters_after = λ i. record {
    inode = sym (ap (λ (x : Tree). x.next_inode) by_rows) i;
    slice = c.slice;
    session = sym (ap (λ (x : Tree). x.next_session) by_rows) i;
    used_space = sym space_after i;
    used_inodes = sym inodes_after i;
  }

  -- the rows after an inode went are those of their tree
  pub stored-gone : Stored after (tree_of bytes after)
  stored-gone = stored-by bytes after (record {
    slice = c.slice;
    setting = kept setting_key refl refl refl refl ∙ s.setting ∙ ap (λ x. Some (Ok (OfSetting x))) (sym (ap (λ (x : Tree). x.setting) by_rows));
    counters = get-inserted row_key r3 counters_key (Ok (OfCounters (shrunk space count c))) ∙ ap (λ x. Some (Ok (OfCounters x))) counters_after;
    node = node_after;
    edge = edge_after;
    session = λ sid cell e. before_stored.session sid cell (sym (kept (session_key sid) refl refl refl refl) ∙ e);
    sustained = λ sid inode less cell e. before_stored.sustained sid inode less cell (sym (kept (sustained_key sid inode) refl refl refl refl) ∙ e);
  })
