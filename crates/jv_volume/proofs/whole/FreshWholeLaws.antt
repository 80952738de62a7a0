-- The rows of a volume that was just formatted are whole.
use Rattle.std.proofs.Common.{List, ◌≡◌, ◌≢◌, ℕ, inl, inr, [], ◌∷◌, None, Some, Ok, refl, sym, ap, subst, ◌∙◌, arith}
use Rattle.std.specs.Option.{option_map}
use Rattle.std.specs.List.{AllByRecursion}
use Rattle.std.proofs.lemmas.Option.{none-some, same_Some}
use Rattle.std.proofs.lemmas.Bool.{cond-true, cond-false, eq-eqb, ne_eqb, cases_eq}
use Rattle.jv_model.specs.declared.tables.TheConstants.{TABLE_OF_LISTS}
use Rattle.jv_model.specs.declared.limits.TheConstants.{FULL_MODE, READ_ONLY_MODE, ROOT, TRASH_ROOT}
use Rattle.jv_model.specs.declared.row.RowKey.{RowKey}
use Rattle.jv_model.specs.declared.row.Node.{Node as NodeRow}
use Rattle.jv_model.specs.declared.row.Row.TheVariants.{OfSetting, OfCounters, OfNode, OfEdge, OfSession, OfSustained}
use Rattle.jv_model.specs.declared.setting.Setting.{Setting}
use Rattle.jv_model.specs.declared.slice.Rec.{Rec}
use Rattle.jv_model.specs.promise.FiniteMap.{number_key, empty_map, get, insert, map_of}
use Rattle.jv_model.specs.promise.rows.RowPlaces.{setting_key, counters_key, node_key, edge_key, session_key, sustained_key, slice_key, dropped_key, dead_key}
use Rattle.jv_model.specs.promise.tree.Tree.{Tree, entry_key, pair_key, node_at, link_count}
use Rattle.jv_model.specs.tree.Tree.{fresh_tree}
use Rattle.jv_model.proofs.FiniteMapLaws.{get-empty_map}
use Rattle.jv_model.proofs.TreeComputeLaws.{maps_compute}
use Rattle.jv_model.specs.promise.blocks.Slices.{IsRecord}
use Rattle.jv_volume.specs.promise.TypedRows.{Cell, Rows}
use Rattle.jv_volume.specs.promise.Views.{row_in, node_in, records_in, slice_in, dropped_in, dead_in, node_row_at, slice_row_at, dropped_at, dead_at}
use Rattle.jv_volume.specs.promise.TreeOf.{tree_of, selected, nodes_of, entries_of_rows, sessions_of, sustained_of_rows}
use Rattle.jv_volume.specs.promise.Shape.{WholeShape, shape_of}
use Rattle.jv_volume.specs.promise.Stored.{Stored, node_row, edge_row, session_row, counters_row}
use Rattle.jv_volume.specs.promise.Slices.{count_in, listed, ListsHave, named_by, next_slice, WholeSlices, WholeFiles}
use Rattle.jv_volume.specs.promise.Whole.{IsRowAt, no_bytes, Whole}
use Rattle.jv_volume.specs.promise.Fresh.{fresh_counters, fresh_directory}
use Rattle.jv_volume.proofs.shapes.ShapeMapLaws.{get-insert_apart}
use Rattle.jv_volume.proofs.maps.WrittenRowsLaws.{none_at, rows_at}
use Rattle.jv_volume.proofs.shapes.FreshShapeLaws.{whole-fresh_tree}

-- the rows of a volume that is formatted at a moment: its setting, its counters, its root and its trash
abbrev first_entries : Setting → ℕ → List (RowKey × Cell)
first_entries setting at =
    (setting_key, Ok (OfSetting setting))
    ∷ (counters_key, Ok (OfCounters fresh_counters))
    ∷ (node_key ROOT, Ok (OfNode (fresh_directory FULL_MODE at)))
    ∷ (node_key TRASH_ROOT, Ok (OfNode (fresh_directory READ_ONLY_MODE at)))
    ∷ []

-- the same as a map
abbrev pub first_rows : Setting → ℕ → Rows
first_rows setting at = map_of (first_entries setting at)

module _ (setting : Setting) (at : ℕ) where
  abbrev rows : Rows
  rows = first_rows setting at

  abbrev fresh : Tree
  fresh = fresh_tree setting at

  -- nothing stands elsewhere
  none_of_node : (inode : ℕ) → inode ≢ ROOT → inode ≢ TRASH_ROOT → get rows (node_key inode) ≡ None
  none_of_node inode a b = none_at 2 (node_key inode) (first_entries setting at) refl
      ((λ e. a (ap (λ (k : RowKey). k.a) e)), ((λ e. b (ap (λ (k : RowKey). k.a) e)), tt))

  no_node : (inode : ℕ) → inode ≢ ROOT → inode ≢ TRASH_ROOT → node_at fresh inode ≡ None
  no_node inode a b = get-insert_apart number_key (insert empty_map ROOT _) TRASH_ROOT _ inode b ∙ get-insert_apart number_key empty_map ROOT _ inode a
      ∙ get-empty_map number_key inode

  fresh_cell : (key : RowKey) (cell : Cell) → get rows key ≡ Some cell → IsRowAt key cell
  fresh_cell = rows_at (first_entries setting at) refl

  tree_is : tree_of no_bytes rows ≡ fresh
  unfolding maps_compute tree_of selected nodes_of entries_of_rows sessions_of sustained_of_rows
  tree_is = refl

  root_is : get rows (node_key ROOT) ≡ option_map (λ node. Ok (OfNode (node_row (link_count fresh ROOT) node))) (node_at fresh ROOT)
  unfolding maps_compute
  root_is = refl

  trash_is : get rows (node_key TRASH_ROOT) ≡ option_map (λ node. Ok (OfNode (node_row (link_count fresh TRASH_ROOT) node))) (node_at fresh TRASH_ROOT)
  unfolding maps_compute
  trash_is = refl

  node_is : (inode : ℕ) → get rows (node_key inode) ≡ option_map (λ node. Ok (OfNode (node_row (link_count fresh inode) node))) (node_at fresh inode)
  node_is inode = elim (cases_eq inode ROOT) [
    | inl e ↦ subst (λ i. get rows (node_key i) ≡ option_map (λ node. Ok (OfNode (node_row (link_count fresh i) node))) (node_at fresh i)) (sym e) root_is
    | inr a ↦ elim (cases_eq inode TRASH_ROOT) [
      | inl e ↦ subst (λ i. get rows (node_key i) ≡ option_map (λ node. Ok (OfNode (node_row (link_count fresh i) node))) (node_at fresh i)) (sym e) trash_is
      | inr b ↦ none_of_node inode a b ∙ sym (ap (option_map (λ node. Ok (OfNode (node_row (link_count fresh inode) node)))) (no_node inode a b))
    ]
  ]

  setting_is : get rows setting_key ≡ Some (Ok (OfSetting setting))
  unfolding maps_compute
  setting_is = refl

  counters_is : get rows counters_key ≡ Some (Ok (OfCounters (counters_row fresh 1)))
  unfolding maps_compute
  counters_is = refl

  stored : Stored rows fresh
  stored = record {
    slice = 1;
    setting = setting_is;
    counters = counters_is;
    node = node_is;
    edge = λ place. none_at 3 (edge_key place.dir place.name) (first_entries setting at) refl tt
        ∙ sym (ap (option_map (λ inode. Ok (OfEdge (edge_row fresh inode)))) (get-empty_map entry_key place));
    session = λ sid. none_at 6 (session_key sid) (first_entries setting at) refl tt
        ∙ sym (ap (option_map (λ entry. Ok (OfSession (session_row entry)))) (get-empty_map number_key sid));
    sustained = λ sid inode small. none_at 7 (sustained_key sid inode) (first_entries setting at) refl tt
        ∙ sym (ap (option_map (λ unit. Ok OfSustained)) (get-empty_map pair_key (record { sid = sid; inode = inode })));
  }

  -- no list, no slice

  no_list : (key : RowKey) → listed key (get rows key) ≡ []
  no_list key = elim (cases_eq key.tab TABLE_OF_LISTS) [
    | inl e ↦ cond-true _ _ _ (eq-eqb key.tab TABLE_OF_LISTS e) ∙ ap (λ o. records_in (row_in o)) (none_at 4 key (first_entries setting at) e tt)
    | inr apart ↦ cond-false _ _ _ (ne_eqb key.tab TABLE_OF_LISTS apart)
  ]

  lists_have : (P : Rec → Type 0) → ListsHave P rows
  lists_have P key = subst (AllByRecursion P) (sym (no_list key)) tt

  no_slice : (id : ℕ) → slice_row_at rows id ≡ None
  no_slice id = ap (λ o. slice_in (row_in o)) (none_at 5 (slice_key id) (first_entries setting at) refl tt)

  no_dead : (id : ℕ) → dead_at rows id ≡ None
  no_dead id = ap (λ o. dead_in (row_in o)) (none_at 9 (dead_key id) (first_entries setting at) refl tt)

  no_dropped : (inode : ℕ) → dropped_at rows inode ≡ None
  no_dropped inode = ap (λ o. dropped_in (row_in o)) (none_at 8 (dropped_key inode) (first_entries setting at) refl tt)

  unnamed : (id : ℕ) → named_by rows id ≡ 0
  unfolding maps_compute named_by
  unnamed id = refl

  next_is : next_slice rows ≡ 1
  unfolding maps_compute
  next_is = refl

  slices : WholeSlices rows
  slices = record {
    sizes = λ id. 0;
    records = lists_have IsRecord;
    sized = lists_have (λ r. r.id ≢ 0 → r.size ≡ 0);
    slice_size = λ id slice is. absurd (none-some slice (sym (no_slice id) ∙ is));
    exact = λ id some. ap count_in (no_slice id) ∙ sym (unnamed id);
    dead_size = λ id dead some is. absurd (none-some dead (sym (no_dead id) ∙ is));
    apart = λ id some is. no_slice id;
    below = λ id past. record { unnamed = unnamed id; no_row = no_slice id; not_dead = no_dead id };
    none = no_slice 0;
    slices_end = omega (arith, next_is);
  }

  -- no file

  root_kind : (node : NodeRow) → node_row_at rows ROOT ≡ Some node → node.kind ≡ 2
  unfolding maps_compute
  root_kind node is = ap (λ (n : NodeRow). n.kind) (sym (same_Some (fresh_directory FULL_MODE at) node is))

  trash_kind : (node : NodeRow) → node_row_at rows TRASH_ROOT ≡ Some node → node.kind ≡ 2
  unfolding maps_compute
  trash_kind node is = ap (λ (n : NodeRow). n.kind) (sym (same_Some (fresh_directory READ_ONLY_MODE at) node is))

  kind_is : (inode : ℕ) (node : NodeRow) → node_row_at rows inode ≡ Some node → node.kind ≡ 2
  kind_is inode node is = elim (cases_eq inode ROOT) [
    | inl e ↦ root_kind node (ap (node_row_at rows) (sym e) ∙ is)
    | inr a ↦ elim (cases_eq inode TRASH_ROOT) [
      | inl e ↦ trash_kind node (ap (node_row_at rows) (sym e) ∙ is)
      | inr b ↦ absurd (none-some node (sym (ap (λ o. node_in (row_in o)) (none_of_node inode a b)) ∙ is))
    ]
  ]

  files : WholeFiles rows
  files = record {
    small = λ inode node is file. (let kind = kind_is inode node is in absurd (omega (arith, kind, file)));
    past = λ inode node is file position past. (let kind = kind_is inode node is in absurd (omega (arith, kind, file)));
    owned = λ key tab is. absurd (is (none_at 4 key (first_entries setting at) tab tt));
    gone = λ inode is. absurd (is (no_dropped inode));
  }

  -- rows that were just formatted are whole
  pub whole-first_rows : Whole (first_rows setting at)
  whole-first_rows = record {
    cells = fresh_cell;
    stored = subst (Stored rows) (sym tree_is) stored;
    tree = subst (λ (t : Tree). WholeShape (shape_of t)) (sym tree_is) (whole-fresh_tree setting at);
    slices = slices;
    files = files;
  }
