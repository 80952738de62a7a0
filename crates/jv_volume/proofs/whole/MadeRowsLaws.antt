-- Rows after a creation: a new node, its edge, its directory touched, and the counters. Their tree is the model's, and they
-- are the rows of that tree.
use Rattle.std.proofs.Common.{◌≡◌, ◌≢◌, ℕ, ◌+◌, Bool, true, false, inl, inr, None, Some, Ok, refl, sym, ap, subst, ◌∙◌, arith}
use Rattle.std.specs.Prelude.{if◌then◌else◌}
use Rattle.std.specs.Option.{option_map}
use Rattle.std.specs.Ordering.{eq_by_cmp}
use Rattle.std.proofs.lemmas.Bool.{cases_eq}
use Rattle.jv_model.specs.declared.row.RowKey.{RowKey}
use Rattle.jv_model.specs.declared.row.Counters.{Counters}
use Rattle.jv_model.specs.declared.row.Node.{Node as NodeRow}
use Rattle.jv_model.specs.declared.row.Edge.{Edge}
use Rattle.jv_model.specs.declared.row.Row.TheVariants.{OfSetting, OfCounters, OfNode, OfEdge}
use Rattle.jv_model.specs.promise.FiniteMap.{number_key, get, insert}
use Rattle.jv_model.specs.promise.rows.RowKeys.{row_key, row_cmp}
use Rattle.jv_model.specs.promise.rows.RowPlaces.{setting_key, counters_key, node_key, edge_key, session_key, sustained_key}
use Rattle.jv_model.specs.promise.tree.Tree.{Tree, Node, EntryKey, entry_key, node_at, is_directory, link_count, used_space, used_inodes, kind_space, is_counted}
use Rattle.jv_model.specs.promise.tree.Changes.{touched, put_node}
use Rattle.jv_model.specs.promise.tree.Making.{with_next}
use Rattle.jv_volume.specs.promise.TypedRows.{Cell, Rows}
use Rattle.jv_volume.specs.promise.Views.{row_in, edge_in, counters_at, node_row_at}
use Rattle.jv_volume.specs.promise.TreeOf.{node_of_row, tree_of}
use Rattle.jv_volume.specs.promise.Shape.{WholeShape, shape_of, form_of, is_dir}
use Rattle.jv_volume.specs.promise.Stored.{Stored, number_of_node, counters_row}
use Rattle.jv_volume.specs.Stored.{directory_touched}
use Rattle.jv_model.proofs.FiniteMapLaws.{get-insert}
use Rattle.jv_volume.proofs.shapes.ShapeMapLaws.{same_or_apart, get-inserted, get-insert_apart}
use Rattle.jv_volume.proofs.stored.NodeRowLaws.{IsNodeRow, IsNodeRow-touched}
use Rattle.jv_volume.proofs.stored.StoredLaws.{HasNode, HasCounters, found_node, found_counters}
use Rattle.jv_volume.proofs.stored.StoringLaws.{AreStored, IsNodeCell, IsEdgeCell, are_stored, stored-by}
use Rattle.jv_volume.proofs.stored.StoredStepLaws.{put_kept}
use Rattle.jv_volume.proofs.stored.TreeOfLaws.{get-entries, tree_of-put_node, tree_of-put_edge, tree_of-put_counters}
use Rattle.jv_volume.proofs.operations.ChangeLaws.{with_node-there}
use Rattle.jv_volume.proofs.sums.LinkLaws.{next_low, standing, standing_here, standing_apart, IsFree, free_inode, next_absent, link_count-new_leaf, link_count-beside_leaf, link_count-new_dir, link_count-beside_dir, none_within}
use Rattle.jv_volume.proofs.sums.SumLaws.{counted, node_space-counted, node_count-counted, used_space-with_next, used_inodes-with_next}

-- the counters after a node came
abbrev pub grown : ℕ → Counters → Counters
grown space c = record c { inode = c.inode + 1; used_space = c.used_space + space; used_inodes = c.used_inodes + 1 }

abbrev pub made_rows : Rows → ℕ → EntryKey → NodeRow → NodeRow → ℕ → Counters → ℕ → Rows
made_rows rows now place row dir links c space =
    insert (insert (insert (insert rows (node_key c.inode) (Ok (OfNode row))) (edge_key place.dir place.name)
    (Ok (OfEdge (record { kind = row.kind; inode = c.inode }))))
    (node_key place.dir) (Ok (OfNode (directory_touched now links dir)))) counters_key (Ok (OfCounters (grown space c)))

module _ (bytes : ℕ → ℕ → ℕ) (rows : Rows) (now : ℕ) (place : EntryKey) (row dir : NodeRow) (links : ℕ) (c : Counters) (space : ℕ)
    (s : Stored rows (tree_of bytes rows)) (shape : WholeShape (shape_of (tree_of bytes rows)))
    (there : node_row_at rows place.dir ≡ Some dir) (counters : counters_at rows ≡ Some c) where
  abbrev t : Tree
  t = tree_of bytes rows

  abbrev node : Node
  node = node_of_row (bytes c.inode) row

  abbrev after : Rows
  after = made_rows rows now place row dir links c space

  dir_is : HasNode t place.dir dir (bytes place.dir)
  dir_is = found_node bytes rows s place.dir dir there

  c_is : HasCounters t c
  c_is = found_counters bytes rows s c counters

  c_absent : node_at t c.inode ≡ None
  c_absent = subst (λ i. node_at t i ≡ None) c_is.next_inode (next_absent t shape)

  c_free : IsFree t c.inode
  c_free = free_inode t c.inode shape c_absent

  dir_apart : place.dir ≢ c.inode
  dir_apart same = (let found : Some (node_of_row (bytes place.dir) dir) ≡ None = sym dir_is.there ∙ ap (node_at t) same ∙ c_absent in absurd (cc))

  abbrev touched_dir : Node
  touched_dir = touched now (node_of_row (bytes place.dir) dir)

  abbrev edge : Edge
  edge = record { kind = row.kind; inode = c.inode }

  abbrev rows_1 : Rows
  rows_1 = insert rows (node_key c.inode) (Ok (OfNode row))

  abbrev rows_2 : Rows
  rows_2 = insert rows_1 (edge_key place.dir place.name) (Ok (OfEdge edge))

  abbrev rows_3 : Rows
  rows_3 = insert rows_2 (node_key place.dir) (Ok (OfNode (directory_touched now links dir)))

  abbrev made_tree : ℕ → ℕ → Tree
  made_tree inode session = record t {
    nodes = insert (insert t.nodes inode node) place.dir touched_dir;
    entries = insert t.entries place inode;
    next_inode = inode + 1;
    next_session = session;
  }

  by_rows : tree_of bytes after ≡ made_tree c.inode c.session
  by_rows =
      tree_of-put_counters bytes rows_3 (grown space c)
      ∙ ap (λ (u : Tree). record u { next_inode = c.inode + 1; next_session = c.session })
      (tree_of-put_node bytes rows_2 place.dir (directory_touched now links dir)
      ∙ ap (λ (u : Tree). put_node u place.dir touched_dir)
      (tree_of-put_edge bytes rows_1 place.dir place.name edge
      ∙ ap (λ (u : Tree). record u { entries = insert u.entries place c.inode }) (tree_of-put_node bytes rows c.inode row)))

  by_model : with_next t now place node ≡ made_tree t.next_inode t.next_session
  by_model =
      ap (λ (u : Tree). record u { next_inode = t.next_inode + 1 })
      (with_node-there t now place t.next_inode node (node_of_row (bytes place.dir) dir) dir_is.there (λ same. dir_apart (same ∙ c_is.next_inode)))

  -- the tree of the rows after a creation
  pub tree_of-made : tree_of bytes after ≡ with_next t now place node
  tree_of-made = by_rows ∙ sym (by_model ∙ (λ i. made_tree (c_is.next_inode i) (c_is.next_session i)))

-- The premises on the new rows, by whether the new node is a directory.
pub record IsMade (t : Tree) (place : EntryKey) (row dir : NodeRow) (byte : ℕ → ℕ) (links space : ℕ) : Type 0 where
  pub free : get t.entries place ≡ None
  pub within : is_directory t place.dir ≡ true
  pub new_row : IsNodeRow (if is_dir (form_of (Some (node_of_row byte row))) then 2 else 1) byte row
  pub dir_links : links ≡ dir.nlink + (if is_dir (form_of (Some (node_of_row byte row))) then 1 else 0)
  pub space_is : space ≡ kind_space (node_of_row byte row).kind

module _ (bytes : ℕ → ℕ → ℕ) (rows : Rows) (now : ℕ) (place : EntryKey) (row dir : NodeRow) (links : ℕ) (c : Counters) (space : ℕ)
    (s : Stored rows (tree_of bytes rows)) (shape : WholeShape (shape_of (tree_of bytes rows)))
    (there : node_row_at rows place.dir ≡ Some dir) (counters : counters_at rows
    ≡ Some c) (made : IsMade (tree_of bytes rows) place row dir (bytes c.inode) links space) where
  abbrev before_it : Tree
  before_it = tree_of bytes rows

  abbrev new : Node
  new = node_of_row (bytes c.inode) row

  abbrev is_new_dir : Bool
  is_new_dir = is_dir (form_of (Some new))

  abbrev done_rows : Rows
  done_rows = made_rows rows now place row dir links c space

  abbrev after_it : Tree
  after_it = with_next before_it now place new

  dir_found : HasNode before_it place.dir dir (bytes place.dir)
  dir_found = dir_is bytes rows now place row dir links c space s shape there counters

  c_found : HasCounters before_it c
  c_found = c_is bytes rows now place row dir links c space s shape there counters

  free_next : IsFree before_it before_it.next_inode
  free_next = free_inode before_it before_it.next_inode shape (next_absent before_it shape)

  is_tree : tree_of bytes done_rows ≡ after_it
  is_tree = tree_of-made bytes rows now place row dir links c space s shape there counters

  is_put : tree_of bytes done_rows ≡ made_tree bytes rows now place row dir links c space s shape there counters c.inode c.session
  is_put = by_rows bytes rows now place row dir links c space s shape there counters

  place_apart : place.dir ≢ c.inode
  place_apart = dir_apart bytes rows now place row dir links c space s shape there counters

  -- link counts

  next_links : (b : Bool) → is_new_dir ≡ b → link_count after_it before_it.next_inode ≡ (if b then 2 else 1)
  next_links true e = link_count-new_dir before_it now place before_it.next_inode new free_next made.free e made.within
  next_links false e = link_count-new_leaf before_it now place before_it.next_inode new free_next made.free e

  beside_links : (b : Bool) → is_new_dir ≡ b → (j : ℕ) → j ≢ before_it.next_inode
      → link_count after_it j ≡ link_count before_it j + (if b then standing j place else 0)
  beside_links true e j apart = link_count-beside_dir before_it now place before_it.next_inode new free_next made.free e made.within j apart
  beside_links false e j apart = link_count-beside_leaf before_it now place before_it.next_inode new free_next made.free e j apart ∙ omega arith

  new_links : link_count (tree_of bytes done_rows) c.inode ≡ (if is_new_dir then 2 else 1)
  new_links = ap (λ (x : Tree). link_count x c.inode) is_tree ∙ ap (link_count after_it) (sym c_found.next_inode) ∙ next_links is_new_dir refl

  links_within : (b : Bool) (n : ℕ) → n ≡ 1 → (if b then n else 0) ≡ (if b then 1 else 0)
  links_within b n e = ap (λ m. if b then m else 0) e

  dir_links : link_count (tree_of bytes done_rows) place.dir ≡ links
  dir_links =
      ap (λ (x : Tree). link_count x place.dir) is_tree
      ∙ beside_links is_new_dir refl place.dir (λ same. place_apart (same ∙ c_found.next_inode))
      ∙ (λ i. sym dir_found.links i + links_within is_new_dir (standing place.dir place) (standing_here place.dir place refl) i) ∙ sym made.dir_links

  other_links : (j : ℕ) → j ≢ place.dir → j ≢ c.inode → link_count (tree_of bytes done_rows) j ≡ link_count before_it j
  other_links j aside apart =
      let beside = ap (λ (x : Tree). link_count x j) is_tree ∙ beside_links is_new_dir refl j (λ same. apart (same ∙ c_found.next_inode)) in
      let nothing = none_within is_new_dir (standing j place) (standing_apart j place (λ same. aside (sym same))) in
      omega (arith, beside, nothing)

  -- nodes

  abbrev r1 : Rows
  r1 = insert rows (node_key c.inode) (Ok (OfNode row))

  abbrev r2 : Rows
  r2 = insert r1 (edge_key place.dir place.name) (Ok (OfEdge (record { kind = row.kind; inode = c.inode })))

  abbrev r3 : Rows
  r3 = insert r2 (node_key place.dir) (Ok (OfNode (directory_touched now links dir)))

  before_stored : AreStored bytes rows
  before_stored = are_stored bytes rows s

  last_put : (q : RowKey) → eq_by_cmp row_cmp q counters_key ≡ false → get done_rows q ≡ get r3 q
  last_put q apart = put_kept r3 counters_key (Ok (OfCounters (grown space c))) q apart

  node_beside : (inode : ℕ) → inode ≢ place.dir → get done_rows (node_key inode) ≡ get r1 (node_key inode)
  node_beside inode aside =
      last_put (node_key inode) refl ∙ get-insert_apart row_key r2 (node_key place.dir) (Ok (OfNode (directory_touched now links dir))) (node_key inode)
      (λ same. aside (ap (λ (q : RowKey). q.a) same))
      ∙ get-insert r1 (edge_key place.dir place.name) (Ok (OfEdge (record { kind = row.kind; inode = c.inode }))) (node_key inode)

  dir_cell : (cell : Cell) → get done_rows (node_key place.dir) ≡ Some cell → IsNodeCell (link_count (tree_of bytes done_rows) place.dir) (bytes place.dir) cell
  dir_cell cell e =
      let put : get done_rows (node_key place.dir) ≡ Some (Ok (OfNode (directory_touched now links dir))) =
      last_put (node_key place.dir) refl ∙ get-inserted row_key r2 (node_key place.dir) (Ok (OfNode (directory_touched now links dir))) in
      record {
        row = directory_touched now links dir;
        is = cc;
        row_is = subst (λ l. IsNodeRow l (bytes place.dir) (directory_touched now links dir)) (sym dir_links)
            (IsNodeRow-touched (bytes place.dir) dir now (link_count before_it place.dir) links dir_found.row_is);
      }

  new_cell : (cell : Cell) → get done_rows (node_key c.inode) ≡ Some cell → IsNodeCell (link_count (tree_of bytes done_rows) c.inode) (bytes c.inode) cell
  new_cell cell e =
      let put : get done_rows (node_key c.inode) ≡ Some (Ok (OfNode row)) = node_beside c.inode (λ same. place_apart (sym same))
      ∙ get-inserted row_key rows (node_key c.inode) (Ok (OfNode row)) in
      record { row = row; is = cc; row_is = subst (λ l. IsNodeRow l (bytes c.inode) row) (sym new_links) made.new_row }

  node_after : (inode : ℕ) (cell : Cell) → get done_rows (node_key inode) ≡ Some cell
      → IsNodeCell (link_count (tree_of bytes done_rows) inode) (bytes inode) cell
  node_after inode cell e = elim (cases_eq inode place.dir) [
    | inl same ↦ subst (λ i. IsNodeCell (link_count (tree_of bytes done_rows) i) (bytes i) cell) (sym same)
        (dir_cell cell (sym (ap (λ i. get done_rows (node_key i)) same) ∙ e))
    | inr aside ↦ elim (cases_eq inode c.inode) [
      | inl same ↦ subst (λ i. IsNodeCell (link_count (tree_of bytes done_rows) i) (bytes i) cell) (sym same)
          (new_cell cell (sym (ap (λ i. get done_rows (node_key i)) same) ∙ e))
      | inr apart ↦
          let was : get rows (node_key inode) ≡ Some cell =
          sym (node_beside inode aside ∙ get-insert_apart row_key rows (node_key c.inode) (Ok (OfNode row)) (node_key inode)
          (λ same. apart (ap (λ (q : RowKey). q.a) same))) ∙ e in
          subst (λ l. IsNodeCell l (bytes inode) cell) (sym (other_links inode aside apart)) (before_stored.node inode cell was)
    ]
  ]

  -- entries

  abbrev nodes_then : Tree
  nodes_then = made_tree bytes rows now place row dir links c space s shape there counters c.inode c.session

  new_number : number_of_node (node_at nodes_then c.inode) ≡ row.kind
  new_number =
      ap number_of_node (get-insert_apart number_key (insert before_it.nodes c.inode new) place.dir
      (touched now (node_of_row (bytes place.dir) dir)) c.inode (λ same. place_apart (sym same))
      ∙ get-inserted number_key before_it.nodes c.inode new)
      ∙ sym (ap (λ (r : NodeRow). r.kind) made.new_row)

  old_number : (inode : ℕ) → inode ≢ c.inode → number_of_node (node_at nodes_then inode) ≡ number_of_node (node_at before_it inode)
  old_number inode apart = elim (cases_eq inode place.dir) [
    | inl same ↦ ap number_of_node (ap (node_at nodes_then) same
        ∙ get-inserted number_key (insert before_it.nodes c.inode new) place.dir (touched now (node_of_row (bytes place.dir) dir)))
        ∙ sym (ap number_of_node (ap (node_at before_it) same ∙ dir_found.there))
    | inr aside ↦ ap number_of_node (get-insert_apart number_key (insert before_it.nodes c.inode new) place.dir
        (touched now (node_of_row (bytes place.dir) dir)) inode aside
        ∙ get-insert_apart number_key before_it.nodes c.inode new inode apart)
  ]

  number_after : (inode : ℕ) (n : ℕ) → number_of_node (node_at nodes_then inode) ≡ n → number_of_node (node_at (tree_of bytes done_rows) inode) ≡ n
  number_after inode n e = ap (λ (x : Tree). number_of_node (node_at x inode)) is_put ∙ e

  edge_put : (at : EntryKey) → get done_rows (edge_key at.dir at.name) ≡ get r2 (edge_key at.dir at.name)
  edge_put at = last_put (edge_key at.dir at.name) refl ∙ get-insert r2 (node_key place.dir) (Ok (OfNode (directory_touched now links dir))) (edge_key at.dir at.name)

  edge_after : (at : EntryKey) (cell : Cell) → get done_rows (edge_key at.dir at.name) ≡ Some cell → IsEdgeCell (tree_of bytes done_rows) cell
  edge_after at cell e = elim (same_or_apart entry_key at place) [
    | inl same ↦
        let put : get done_rows (edge_key at.dir at.name) ≡ Some (Ok (OfEdge (record { kind = row.kind; inode = c.inode }))) =
        edge_put at ∙ ap (λ (k : EntryKey). get r2 (edge_key k.dir k.name)) same
        ∙ get-inserted row_key r1 (edge_key place.dir place.name) (Ok (OfEdge (record { kind = row.kind; inode = c.inode }))) in
        record { edge = record { kind = row.kind; inode = c.inode }; is = cc; kind = sym (number_after c.inode row.kind new_number) }
    | inr aside ↦
        let was : get rows (edge_key at.dir at.name) ≡ Some cell =
        sym (edge_put at
        ∙ get-insert_apart row_key r1 (edge_key place.dir place.name) (Ok (OfEdge (record { kind = row.kind; inode = c.inode })))
        (edge_key at.dir at.name) (λ same. aside (λ i. record { dir = (same i).a; name = (same i).b }))
        ∙ get-insert rows (node_key c.inode) (Ok (OfNode row)) (edge_key at.dir at.name)) ∙ e in
        let old = before_stored.edge at cell was in
        let named : get before_it.entries at ≡ Some old.edge.inode = get-entries bytes rows at
        ∙ ap (λ o. option_map (λ (edge : Edge). edge.inode) (edge_in (row_in o))) (was ∙ ap (λ x. Some x) old.is) in
        let apart : old.edge.inode ≢ c.inode = (λ same. free_next.unnamed at (named ∙ ap (λ i. Some i) (same ∙ sym c_found.next_inode))) in
        record {
          edge = old.edge;
          is = old.is;
          kind = old.kind
              ∙ sym (number_after old.edge.inode (number_of_node (node_at before_it old.edge.inode)) (old_number old.edge.inode apart));
        }
  ]

  -- the other tables

  kept : (q : RowKey) → eq_by_cmp row_cmp q counters_key ≡ false → eq_by_cmp row_cmp q (node_key place.dir) ≡ false
      → eq_by_cmp row_cmp q (edge_key place.dir place.name) ≡ false
      → eq_by_cmp row_cmp q (node_key c.inode) ≡ false → get done_rows q ≡ get rows q
  kept q a b d e =
      last_put q a ∙ put_kept r2 (node_key place.dir) (Ok (OfNode (directory_touched now links dir))) q b
      ∙ put_kept r1 (edge_key place.dir place.name) (Ok (OfEdge (record { kind = row.kind; inode = c.inode }))) q d
      ∙ put_kept rows (node_key c.inode) (Ok (OfNode row)) q e

  counted_next : is_counted before_it.next_inode ≡ true
  counted_next = (let low = next_low before_it shape in counted before_it.next_inode low.0 low.1)

  space_after : used_space (tree_of bytes done_rows) ≡ c.used_space + space
  space_after =
      ap used_space is_tree ∙ used_space-with_next before_it now place new free_next.absent
      ∙ (λ i. c_found.space i + (node_space-counted before_it.next_inode new counted_next ∙ sym made.space_is) i)

  inodes_after : used_inodes (tree_of bytes done_rows) ≡ c.used_inodes + 1
  inodes_after =
      ap used_inodes is_tree ∙ used_inodes-with_next before_it now place new free_next.absent
      ∙ (λ i. c_found.inodes i + node_count-counted before_it.next_inode new counted_next i)

  counters_after : grown space c ≡ counters_row (tree_of bytes done_rows) c.slice
  counters_after = λ i. record {
    inode = sym (ap (λ (x : Tree). x.next_inode) is_put) i;
    slice = c.slice;
    session = sym (ap (λ (x : Tree). x.next_session) is_put) i;
    used_space = sym space_after i;
    used_inodes = sym inodes_after i;
  }

  -- the rows after a creation are those of their tree
  pub stored-made : Stored done_rows (tree_of bytes done_rows)
  stored-made = stored-by bytes done_rows (record {
    slice = c.slice;
    setting = kept setting_key refl refl refl refl ∙ s.setting ∙ ap (λ x. Some (Ok (OfSetting x))) (sym (ap (λ (x : Tree). x.setting) is_put));
    counters = get-inserted row_key r3 counters_key (Ok (OfCounters (grown space c))) ∙ ap (λ x. Some (Ok (OfCounters x))) counters_after;
    node = node_after;
    edge = edge_after;
    session = λ sid cell e. before_stored.session sid cell (sym (kept (session_key sid) refl refl refl refl) ∙ e);
    sustained = λ sid inode less cell e. before_stored.sustained sid inode less cell (sym (kept (sustained_key sid inode) refl refl refl refl) ∙ e);
  })
