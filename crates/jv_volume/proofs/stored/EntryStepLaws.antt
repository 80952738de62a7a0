-- Rows stay those of their tree when an entry comes, and when one goes.
use Rattle.std.proofs.Common.{◌≡◌, ◌≢◌, ℕ, ◌+◌, ◌-◌, Bool, true, false, inl, inr, None, Some, Ok, refl, sym, ap, subst, ◌∙◌, arith}
use Rattle.std.specs.Prelude.{◌==◌, if◌then◌else◌}
use Rattle.std.specs.Ordering.{eq_by_cmp}
use Rattle.std.proofs.lemmas.Bool.{cases_eq}
use Rattle.jv_model.specs.declared.row.RowKey.{RowKey}
use Rattle.jv_model.specs.declared.row.Node.{Node as NodeRow}
use Rattle.jv_model.specs.declared.row.Edge.{Edge}
use Rattle.jv_model.specs.declared.row.Row.TheVariants.{OfCounters, OfNode, OfEdge}
use Rattle.jv_model.specs.promise.FiniteMap.{number_key, get, insert, remove}
use Rattle.jv_model.specs.promise.rows.RowKeys.{row_key, row_cmp}
use Rattle.jv_model.specs.promise.rows.RowPlaces.{setting_key, counters_key, node_key, edge_key, session_key, sustained_key}
use Rattle.jv_model.specs.promise.tree.Tree.{Tree, EntryKey, entry_key, is_directory, link_count, naming}
use Rattle.jv_model.specs.promise.tree.Changes.{touched, put_node, put_entry, take_entry}
use Rattle.jv_volume.specs.promise.TypedRows.{Cell, Rows}
use Rattle.jv_volume.specs.promise.Views.{node_row_at}
use Rattle.jv_volume.specs.promise.TreeOf.{node_of_row, tree_of}
use Rattle.jv_volume.specs.promise.Stored.{Stored, number_of_node}
use Rattle.jv_volume.specs.Stored.{directory_touched}
use Rattle.jv_volume.proofs.shapes.ShapeMapLaws.{naming_same, naming_apart, same_or_apart, get-inserted, get-insert_apart, get-removed, get-remove_apart}
use Rattle.jv_volume.proofs.maps.MapLaws.{alter-same}
use Rattle.jv_volume.proofs.stored.NodeRowLaws.{IsNodeRow, IsNodeRow-touched}
use Rattle.jv_volume.proofs.stored.StoredLaws.{HasNode, found_node}
use Rattle.jv_volume.proofs.stored.TreeOfLaws.{tree_of-put_node, tree_of-put_edge, tree_of-drop_edge}
use Rattle.jv_volume.proofs.operations.ChangeLaws.{change_node-setting, change_node-next_inode, change_node-next_session, put_entry-there, take_entry-there}
use Rattle.jv_volume.proofs.sums.LinkLaws.{standing, standing_here, standing_apart, link_count-put_entry-leaf, link_count-put_entry-dir, link_count-take_entry-leaf, link_count-take_entry-dir, none_within}
use Rattle.jv_volume.proofs.sums.SumLaws.{used_space-put_entry, used_space-take_entry, used_inodes-put_entry, used_inodes-take_entry}
use Rattle.jv_volume.proofs.stored.StoredStepLaws.{NodeGoes, NodeKept, NodePut, EdgeGoes, EdgeKept, EdgePut, EdgeGone, CellKept, stored-goes, number-put_entry, number-take_entry, row_number, put_kept, drop_kept, node_apart, node_here}

-- what an entry adds to the link count of its directory, and to that of its inode, by the inode's kind
abbrev pub to_dir : NodeRow → ℕ
to_dir row = (if row.kind == 2 then 1 else 0)

abbrev pub to_inode : NodeRow → ℕ
to_inode row = (if row.kind == 2 then 0 else 1)

module _ (bytes : ℕ → ℕ → ℕ) (rows : Rows) (now : ℕ) (at : EntryKey) (inode : ℕ) (row dir : NodeRow) (s : Stored rows (tree_of bytes rows))
    (here : node_row_at rows inode ≡ Some row) (there : node_row_at rows at.dir ≡ Some dir) (within : dir.kind ≡ 2) (apart : at.dir ≢ inode) where
  abbrev t : Tree
  t = tree_of bytes rows

  inode_is : HasNode t inode row (bytes inode)
  inode_is = found_node bytes rows s inode row here

  at_is : HasNode t at.dir dir (bytes at.dir)
  at_is = found_node bytes rows s at.dir dir there

  within_is : is_directory t at.dir ≡ true
  within_is = at_is.directory ∙ ap (λ n. n == 2) within

  -- the link counts with the entry

  abbrev with_it : Tree
  with_it = put_entry t now at inode

  put_links : (b : Bool) → is_directory t inode ≡ b → get t.entries at ≡ None
      → (j : ℕ) → link_count with_it j ≡ link_count t j + (let n : ℕ = (if b then standing j at else naming j at inode) in n)
  put_links true e free j = link_count-put_entry-dir t now at inode j free e within_is
  put_links false e free j = link_count-put_entry-leaf t now at inode j free e

  take_links : (b : Bool) → is_directory t inode ≡ b → get t.entries at ≡ Some inode
      → (j : ℕ) → link_count (take_entry t now at) j + (let n : ℕ = (if b then standing j at else naming j at inode) in n) ≡ link_count t j
  take_links true e named j = link_count-take_entry-dir t now at inode j named e within_is
  take_links false e named j = link_count-take_entry-leaf t now at inode j named e

  share_by : ℕ → ℕ
  share_by j = (if row.kind == 2 then standing j at else naming j at inode)

  share_dir : share_by at.dir ≡ to_dir row
  unfolding share_by
  share_dir = λ i. if row.kind == 2 then standing_here at.dir at refl i else naming_apart at.dir at inode (λ same. apart (sym same)) i

  share_inode : share_by inode ≡ to_inode row
  unfolding share_by
  share_inode = λ i. if row.kind == 2 then standing_apart inode at apart i else naming_same inode at i

  share_other : (j : ℕ) → j ≢ at.dir → j ≢ inode → share_by j ≡ 0
  unfolding share_by
  share_other j aside other =
      (λ i. if row.kind == 2 then standing_apart j at (λ same. aside (sym same)) i else naming_apart j at inode (λ same. other (sym same)) i)
      ∙ none_within (row.kind == 2) 0 refl

  put_share : get t.entries at ≡ None → (j : ℕ) → link_count with_it j ≡ link_count t j + share_by j
  unfolding share_by
  put_share free j = put_links (row.kind == 2) inode_is.directory free j

  take_share : get t.entries at ≡ Some inode → (j : ℕ) → link_count (take_entry t now at) j + share_by j ≡ link_count t j
  unfolding share_by
  take_share named j = take_links (row.kind == 2) inode_is.directory named j

  -- the rows with the entry

  abbrev edge : Edge
  edge = record { kind = row.kind; inode = inode }

  abbrev edge_cell : Cell
  edge_cell = Ok (OfEdge edge)

  abbrev dir_more : Cell
  dir_more = Ok (OfNode (directory_touched now (dir.nlink + to_dir row) dir))

  abbrev row_more : NodeRow
  row_more = record row { nlink = row.nlink + to_inode row }

  abbrev e1 : Rows
  e1 = insert rows (edge_key at.dir at.name) edge_cell

  abbrev e2 : Rows
  e2 = insert e1 (node_key at.dir) dir_more

  abbrev pub rows_with_entry : Rows
  rows_with_entry = insert e2 (node_key inode) (Ok (OfNode row_more))

  by_entry : tree_of bytes rows_with_entry ≡ record t {
    nodes = insert (insert t.nodes at.dir (touched now (node_of_row (bytes at.dir) dir))) inode
        (node_of_row (bytes inode) row);
    entries = insert t.entries at inode;
  }
  by_entry =
      tree_of-put_node bytes e2 inode row_more
      ∙ ap (λ (x : Tree). put_node x inode (node_of_row (bytes inode) row)) (tree_of-put_node bytes e1 at.dir (directory_touched now (dir.nlink + to_dir row) dir)
      ∙ ap (λ (x : Tree). put_node x at.dir (touched now (node_of_row (bytes at.dir) dir))) (tree_of-put_edge bytes rows at.dir at.name edge))

  still_node : get (insert t.nodes at.dir (touched now (node_of_row (bytes at.dir) dir))) inode ≡ Some (node_of_row (bytes inode) row)
  still_node = get-insert_apart number_key t.nodes at.dir (touched now (node_of_row (bytes at.dir) dir)) inode (λ same. apart (sym same)) ∙ inode_is.there

  pub tree_of-entry_in : tree_of bytes rows_with_entry ≡ put_entry t now at inode
  tree_of-entry_in =
      by_entry
      ∙ ap (λ nodes. record t { nodes = nodes; entries = insert t.entries at inode })
      (alter-same number_key (insert t.nodes at.dir (touched now (node_of_row (bytes at.dir) dir))) inode (Some (node_of_row (bytes inode) row)) still_node)
      ∙ sym (put_entry-there t now at inode (node_of_row (bytes at.dir) dir) at_is.there)

  entry_kept : (q : RowKey) → eq_by_cmp row_cmp q (node_key inode) ≡ false → eq_by_cmp row_cmp q (node_key at.dir) ≡ false
      → eq_by_cmp row_cmp q (edge_key at.dir at.name) ≡ false
      → get rows_with_entry q ≡ get rows q
  entry_kept q a b d = put_kept e2 (node_key inode) (Ok (OfNode row_more)) q a ∙ put_kept e1 (node_key at.dir) dir_more q b
      ∙ put_kept rows (edge_key at.dir at.name) edge_cell q d

  node_with : get t.entries at ≡ None → (k : ℕ) → NodeGoes rows rows_with_entry t with_it bytes k
  node_with free k = elim (cases_eq k inode) [
    | inl same ↦ NodePut row_more (node_here e2 inode (Ok (OfNode row_more)) k same)
        (subst (λ i. IsNodeRow (link_count with_it i) (bytes i) row_more) (sym same)
        (subst (λ l. IsNodeRow l (bytes inode) row_more) (sym (put_share free inode ∙ (λ i. sym inode_is.links i + share_inode i)))
        (ap (λ (r : NodeRow). record r { nlink = row.nlink + to_inode row }) inode_is.row_is)))
    | inr other ↦ elim (cases_eq k at.dir) [
      | inl same ↦ NodePut (directory_touched now (dir.nlink + to_dir row) dir) (node_apart e2 inode (Ok (OfNode row_more)) k other
          ∙ node_here e1 at.dir dir_more k same)
          (subst (λ i. IsNodeRow (link_count with_it i) (bytes i) (directory_touched now (dir.nlink + to_dir row) dir)) (sym same)
          (subst (λ l. IsNodeRow l (bytes at.dir) (directory_touched now (dir.nlink + to_dir row) dir)) (sym (put_share free at.dir
          ∙ (λ i. sym at_is.links i + share_dir i)))
          (IsNodeRow-touched (bytes at.dir) dir now (link_count t at.dir) (dir.nlink + to_dir row) at_is.row_is)))
      | inr aside ↦ NodeKept (node_apart e2 inode (Ok (OfNode row_more)) k other ∙ node_apart e1 at.dir dir_more k aside
          ∙ put_kept rows (edge_key at.dir at.name) edge_cell (node_key k) refl)
          (put_share free k ∙ ap (λ n. link_count t k + n) (share_other k aside other) ∙ omega arith)
    ]
  ]

  edge_with : (k : EntryKey) → EdgeGoes rows rows_with_entry t with_it k
  edge_with k = elim (same_or_apart entry_key k at) [
    | inl same ↦ EdgePut edge (put_kept e2 (node_key inode) (Ok (OfNode row_more)) (edge_key k.dir k.name) refl
        ∙ put_kept e1 (node_key at.dir) dir_more (edge_key k.dir k.name) refl
        ∙ ap (λ (x : EntryKey). get e1 (edge_key x.dir x.name)) same ∙ get-inserted row_key rows (edge_key at.dir at.name) edge_cell)
        (sym (number-put_entry t now at inode inode ∙ ap number_of_node inode_is.there ∙ row_number (link_count t inode) (bytes inode) row inode_is.row_is))
    | inr aside ↦ EdgeKept (put_kept e2 (node_key inode) (Ok (OfNode row_more)) (edge_key k.dir k.name) refl
        ∙ put_kept e1 (node_key at.dir) dir_more (edge_key k.dir k.name) refl
        ∙ get-insert_apart row_key rows (edge_key at.dir at.name) edge_cell (edge_key k.dir k.name)
        (λ same. aside (λ i. record { dir = (same i).a; name = (same i).b })))
        (λ i e. number-put_entry t now at inode i)
  ]

  -- an entry of an inode that is there
  pub stored-entry_in : get t.entries at ≡ None → Stored rows_with_entry (tree_of bytes rows_with_entry)
  stored-entry_in free = stored-goes bytes rows rows_with_entry with_it s.slice s (record {
    tree = tree_of-entry_in;
    setting = entry_kept setting_key refl refl refl;
    same_setting = change_node-setting t at.dir (touched now);
    counters = entry_kept counters_key refl refl refl ∙ s.counters ∙ (λ i. Some (Ok (OfCounters (record {
      inode = sym (change_node-next_inode t at.dir (touched now)) i;
      slice = s.slice;
      session = sym (change_node-next_session t at.dir (touched now)) i;
      used_space = sym (used_space-put_entry t now at inode) i;
      used_inodes = sym (used_inodes-put_entry t now at inode) i;
    }))));
    node = node_with free;
    edge = edge_with;
    session = λ sid. CellKept (entry_kept (session_key sid) refl refl refl);
    sustained = λ sid i small. CellKept (entry_kept (sustained_key sid i) refl refl refl);
  })

  -- the rows without the entry

  abbrev without_it : Tree
  without_it = take_entry t now at

  abbrev dir_less : Cell
  dir_less = Ok (OfNode (directory_touched now (dir.nlink - to_dir row) dir))

  abbrev row_less : NodeRow
  row_less = record row { nlink = row.nlink - to_inode row }

  abbrev l1 : Rows
  l1 = remove rows (edge_key at.dir at.name)

  abbrev l2 : Rows
  l2 = insert l1 (node_key at.dir) dir_less

  abbrev pub rows_without_entry : Rows
  rows_without_entry = insert l2 (node_key inode) (Ok (OfNode row_less))

  by_no_entry : tree_of bytes rows_without_entry ≡ record t {
    nodes = insert (insert t.nodes at.dir (touched now (node_of_row (bytes at.dir) dir))) inode
        (node_of_row (bytes inode) row);
    entries = remove t.entries at;
  }
  by_no_entry =
      tree_of-put_node bytes l2 inode row_less
      ∙ ap (λ (x : Tree). put_node x inode (node_of_row (bytes inode) row)) (tree_of-put_node bytes l1 at.dir (directory_touched now (dir.nlink - to_dir row) dir)
      ∙ ap (λ (x : Tree). put_node x at.dir (touched now (node_of_row (bytes at.dir) dir))) (tree_of-drop_edge bytes rows at.dir at.name))

  pub tree_of-entry_out : tree_of bytes rows_without_entry ≡ take_entry t now at
  tree_of-entry_out =
      by_no_entry
      ∙ ap (λ nodes. record t { nodes = nodes; entries = remove t.entries at })
      (alter-same number_key (insert t.nodes at.dir (touched now (node_of_row (bytes at.dir) dir))) inode (Some (node_of_row (bytes inode) row)) still_node)
      ∙ sym (take_entry-there t now at (node_of_row (bytes at.dir) dir) at_is.there)

  no_entry_kept : (q : RowKey) → eq_by_cmp row_cmp q (node_key inode) ≡ false → eq_by_cmp row_cmp q (node_key at.dir) ≡ false
      → eq_by_cmp row_cmp q (edge_key at.dir at.name) ≡ false
      → get rows_without_entry q ≡ get rows q
  no_entry_kept q a b d = put_kept l2 (node_key inode) (Ok (OfNode row_less)) q a ∙ put_kept l1 (node_key at.dir) dir_less q b
      ∙ drop_kept rows (edge_key at.dir at.name) q d

  links_less : get t.entries at ≡ Some inode → (j n share : ℕ) → n ≡ link_count t j → share_by j ≡ share → link_count without_it j ≡ n - share
  links_less named j n share links same = (let all = take_share named j in omega (arith, all, links, same))

  node_without : get t.entries at ≡ Some inode → (k : ℕ) → NodeGoes rows rows_without_entry t without_it bytes k
  node_without named k = elim (cases_eq k inode) [
    | inl same ↦ NodePut row_less (node_here l2 inode (Ok (OfNode row_less)) k same)
        (subst (λ i. IsNodeRow (link_count without_it i) (bytes i) row_less) (sym same)
        (subst (λ l. IsNodeRow l (bytes inode) row_less) (sym (links_less named inode row.nlink (to_inode row) inode_is.links share_inode))
        (ap (λ (r : NodeRow). record r { nlink = row.nlink - to_inode row }) inode_is.row_is)))
    | inr other ↦ elim (cases_eq k at.dir) [
      | inl same ↦ NodePut (directory_touched now (dir.nlink - to_dir row) dir) (node_apart l2 inode (Ok (OfNode row_less)) k other
          ∙ node_here l1 at.dir dir_less k same)
          (subst (λ i. IsNodeRow (link_count without_it i) (bytes i) (directory_touched now (dir.nlink - to_dir row) dir)) (sym same)
          (subst (λ l. IsNodeRow l (bytes at.dir) (directory_touched now (dir.nlink - to_dir row) dir))
          (sym (links_less named at.dir dir.nlink (to_dir row) at_is.links share_dir))
          (IsNodeRow-touched (bytes at.dir) dir now (link_count t at.dir) (dir.nlink - to_dir row) at_is.row_is)))
      | inr aside ↦ NodeKept (node_apart l2 inode (Ok (OfNode row_less)) k other ∙ node_apart l1 at.dir dir_less k aside
          ∙ drop_kept rows (edge_key at.dir at.name) (node_key k) refl)
          (let all = take_share named k in let nothing = share_other k aside other in omega (arith, all, nothing))
    ]
  ]

  edge_without : (k : EntryKey) → EdgeGoes rows rows_without_entry t without_it k
  edge_without k = elim (same_or_apart entry_key k at) [
    | inl same ↦ EdgeGone (put_kept l2 (node_key inode) (Ok (OfNode row_less)) (edge_key k.dir k.name) refl
        ∙ put_kept l1 (node_key at.dir) dir_less (edge_key k.dir k.name) refl
        ∙ ap (λ (x : EntryKey). get l1 (edge_key x.dir x.name)) same ∙ get-removed row_key rows (edge_key at.dir at.name))
    | inr aside ↦ EdgeKept (put_kept l2 (node_key inode) (Ok (OfNode row_less)) (edge_key k.dir k.name) refl
        ∙ put_kept l1 (node_key at.dir) dir_less (edge_key k.dir k.name) refl
        ∙ get-remove_apart row_key rows (edge_key at.dir at.name) (edge_key k.dir k.name) (λ same. aside (λ i. record { dir = (same i).a; name = (same i).b })))
        (λ i e. number-take_entry t now at i)
  ]

  -- an entry gone, whose inode stays
  pub stored-entry_out : get t.entries at ≡ Some inode → Stored rows_without_entry (tree_of bytes rows_without_entry)
  stored-entry_out named = stored-goes bytes rows rows_without_entry without_it s.slice s (record {
    tree = tree_of-entry_out;
    setting = no_entry_kept setting_key refl refl refl;
    same_setting = change_node-setting t at.dir (touched now);
    counters = no_entry_kept counters_key refl refl refl ∙ s.counters ∙ (λ i. Some (Ok (OfCounters (record {
      inode = sym (change_node-next_inode t at.dir (touched now)) i;
      slice = s.slice;
      session = sym (change_node-next_session t at.dir (touched now)) i;
      used_space = sym (used_space-take_entry t now at) i;
      used_inodes = sym (used_inodes-take_entry t now at) i;
    }))));
    node = node_without named;
    edge = edge_without;
    session = λ sid. CellKept (no_entry_kept (session_key sid) refl refl refl);
    sustained = λ sid i small. CellKept (no_entry_kept (sustained_key sid i) refl refl refl);
  })
