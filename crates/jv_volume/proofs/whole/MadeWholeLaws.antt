-- Rows after a creation are whole, and lists and slices are as before.
use Rattle.std.proofs.Common.{◌≡◌, ℕ, ◌≤◌, ◌<◌, true, Option, None, Some, Ok, refl, sym, ap, subst, ◌∙◌, arith}
use Rattle.std.specs.Prelude.{IsTrue}
use Rattle.std.specs.Option.{option_map}
use Rattle.jv_model.specs.declared.limits.TheConstants.{FILE_END, FULL_COUNT}
use Rattle.jv_model.specs.declared.row.RowKey.{RowKey}
use Rattle.jv_model.specs.declared.row.Counters.{Counters}
use Rattle.jv_model.specs.declared.row.Node.{Node as NodeRow}
use Rattle.jv_model.specs.declared.row.Dropped.{Dropped}
use Rattle.jv_model.specs.declared.row.Row.TheVariants.{OfCounters, OfNode, OfEdge}
use Rattle.jv_model.specs.promise.FiniteMap.{insert}
use Rattle.jv_model.specs.promise.rows.RowKeys.{row_key}
use Rattle.jv_model.specs.promise.rows.RowPlaces.{counters_key, node_key, edge_key}
use Rattle.jv_model.specs.promise.tree.Tree.{Tree, EntryKey, node_at, link_count}
use Rattle.jv_model.specs.promise.tree.Making.{may_be_new, with_next}
use Rattle.jv_model.proofs.FiniteMapLaws.{get-insert}
use Rattle.jv_volume.specs.promise.TypedRows.{Cell, Rows, is_entry_name}
use Rattle.jv_volume.specs.promise.Views.{row_in, counters_in, counters_at, node_in, node_row_at, dropped_at}
use Rattle.jv_volume.specs.promise.TreeOf.{node_of_row, or_no_counters, counters_of_rows, tree_of}
use Rattle.jv_volume.specs.promise.Shape.{Dir, WholeShape, form_of, shape_of}
use Rattle.jv_volume.specs.promise.Stored.{Stored, node_row}
use Rattle.jv_volume.specs.Stored.{directory_touched}
use Rattle.jv_volume.specs.promise.Slices.{WholeFiles}
use Rattle.jv_volume.specs.promise.Whole.{Whole, no_bytes}
use Rattle.jv_volume.specs.Whole.{Quiet}
use Rattle.jv_volume.proofs.shapes.EnteredShapeLaws.{whole-with_next}
use Rattle.jv_volume.proofs.stored.FilesLaws.{fresh_lists}
use Rattle.jv_volume.proofs.stored.FileStepLaws.{files-other, files-same_length, files-new_node, files-put_counters}
use Rattle.jv_volume.proofs.sums.LinkLaws.{next_absent}
use Rattle.jv_volume.proofs.whole.MadeRowsLaws.{grown, made_rows, IsMade, tree_of-made, stored-made}
use Rattle.jv_volume.proofs.stored.QuietLaws.{quiet-alter, quiet-new_node, quiet-none, quiet-put_counters, quiet-put_node, quiet-slices}
use Rattle.jv_volume.proofs.maps.SeenLaws.{AreRows, row-put, rows-alter}
use Rattle.jv_volume.proofs.shapes.ShapeMapLaws.{get-insert_apart}
use Rattle.jv_volume.proofs.stored.StoredLaws.{same_shape, found_counters, stored-again, stored_node_row, whole-shape, whole-stored}
use Rattle.jv_volume.proofs.whole.WholeLaws.{given-row, again-row}

-- What lets a new row and its entry be those of whole rows: a name of an entry in a place for new ones, and an inode that is left.
pub record MayBeMade (place : EntryKey) (row : NodeRow) (byte : ℕ → ℕ) (c : Counters) : Type 0 where
  pub may : may_be_new place ≡ true
  pub name : IsTrue (is_entry_name place.name)
  pub room : c.inode < FULL_COUNT
  pub small : row.length ≤ FILE_END
  pub parent : (parent : ℕ) → form_of (Some (node_of_row byte row)) ≡ Dir parent → parent ≡ place.dir

module _ (bytes : ℕ → ℕ → ℕ) (rows : Rows) (now : ℕ) (place : EntryKey) (row dir : NodeRow) (links : ℕ) (c : Counters) (space : ℕ) (whole : Whole rows)
    (there : node_row_at rows place.dir ≡ Some dir) (counters : counters_at rows ≡ Some c)
    (made : IsMade (tree_of bytes rows) place row dir (bytes c.inode) links space) where
  abbrev t : Tree
  t = tree_of bytes rows

  abbrev after : Rows
  after = made_rows rows now place row dir links c space

  abbrev new_cell : Cell
  new_cell = Ok (OfNode row)

  abbrev edge_cell : Cell
  edge_cell = Ok (OfEdge (record { kind = row.kind; inode = c.inode }))

  abbrev dir_cell : Cell
  dir_cell = Ok (OfNode (directory_touched now links dir))

  abbrev r1 : Rows
  r1 = insert rows (node_key c.inode) new_cell

  abbrev r2 : Rows
  r2 = insert r1 (edge_key place.dir place.name) edge_cell

  abbrev r3 : Rows
  r3 = insert r2 (node_key place.dir) dir_cell

  stored : Stored rows t
  stored = whole-stored bytes rows whole

  shape : WholeShape (shape_of t)
  shape = whole-shape bytes rows whole

  -- the tree after it
  pub tree-made : tree_of bytes after ≡ with_next t now place (node_of_row (bytes c.inode) row)
  tree-made = tree_of-made bytes rows now place row dir links c space stored shape there counters

  next_is : t.next_inode ≡ c.inode
  next_is = (found_counters bytes rows stored c counters).next_inode

  none_new : node_row_at rows c.inode ≡ None
  none_new = stored_node_row rows t stored c.inode
      ∙ ap (option_map (node_row (link_count t c.inode))) (subst (λ i. node_at t i ≡ None) next_is (next_absent t shape))

  apart : place.dir ≡ c.inode → ⊥
  apart same = (let both : Some dir ≡ None = sym there ∙ ap (node_row_at rows) same ∙ none_new in absurd (cc))

  counters_3 : counters_at r3 ≡ Some c
  counters_3 = ap (λ o. counters_in (row_in o)) (get-insert r2 (node_key place.dir) dir_cell counters_key
      ∙ get-insert r1 (edge_key place.dir place.name) edge_cell counters_key ∙ get-insert rows (node_key c.inode) new_cell counters_key) ∙ counters

  dir_2 : node_row_at r2 place.dir ≡ Some dir
  dir_2 = ap (λ o. node_in (row_in o)) (get-insert r1 (edge_key place.dir place.name) edge_cell (node_key place.dir)
      ∙ get-insert_apart row_key rows (node_key c.inode) new_cell (node_key place.dir) (λ same. apart (ap (λ (q : RowKey). q.a) same))) ∙ there

  high : (counters_of_rows rows).inode ≤ c.inode
  high = subst (λ n. n ≤ c.inode) (sym (ap (λ o. (or_no_counters o).inode) counters)) (omega arith)

  -- nothing was removed at an inode that was never given
  not_dropped : dropped_at rows c.inode ≡ None
  not_dropped = by_dropped (dropped_at rows c.inode) refl
    where
      by_dropped : (o : Option Dropped) → dropped_at rows c.inode ≡ o → o ≡ None
      by_dropped None e = refl
      by_dropped (Some dropped) e = (let gone = (whole.files.gone c.inode (λ none. absurd (cc))).1 in absurd (omega (arith, gone, high)))

  -- lists, slices, dropped rows and the next slice are as before
  pub quiet-made : Quiet rows after
  quiet-made =
      let quiet_1 : Quiet rows r1 = quiet-new_node rows rows (quiet-none rows) c.inode row none_new not_dropped in
      let quiet_2 : Quiet rows r2 = quiet-alter rows r1 quiet_1 (edge_key place.dir place.name) (Some edge_cell) refl refl refl refl in
      let quiet_3 : Quiet rows r3 = quiet-put_node rows r2 quiet_2 place.dir dir (directory_touched now links dir) dir_2 in
      quiet-put_counters rows r3 quiet_3 c (grown space c) counters_3 refl

  module _ (may : MayBeMade place row (bytes c.inode) c) where
    cells_made : AreRows after
    cells_made =
        let all_1 : AreRows r1 = rows-alter rows (node_key c.inode) (Some new_cell) whole.cells
        (λ x. row-put (node_key c.inode) new_cell x (given-row c.inode row (omega (arith, may.room)))) in
        let all_2 : AreRows r2 = rows-alter r1 (edge_key place.dir place.name) (Some edge_cell) all_1
        (λ x. row-put (edge_key place.dir place.name) edge_cell x (record { key_is = may.name; cell_is = refl; hour = refl })) in
        let all_3 : AreRows r3 = rows-alter r2 (node_key place.dir) (Some dir_cell) all_2
        (λ x. row-put (node_key place.dir) dir_cell x (again-row r2 place.dir dir (directory_touched now links dir) all_2 dir_2 refl)) in
        let counted : Cell = Ok (OfCounters (grown space c)) in
        rows-alter r3 counters_key (Some counted) all_3
        (λ x. row-put counters_key counted x (record { key_is = refl; cell_is = refl; hour = refl }))

    files_made : WholeFiles after
    files_made =
        let files_1 : WholeFiles r1 = files-new_node rows c.inode row whole.files none_new high may.small (λ window. fresh_lists rows c.inode window whole.files none_new high) in
        let files_2 : WholeFiles r2 = files-other r1 (edge_key place.dir place.name) (Some edge_cell) files_1 refl refl refl refl in
        let files_3 : WholeFiles r3 = files-same_length r2 place.dir dir (directory_touched now links dir) files_2 dir_2 refl refl in
        files-put_counters r3 c (grown space c) files_3 counters_3 refl (omega arith)

    shape_made : WholeShape (shape_of (with_next t now place (node_of_row (bytes c.inode) row)))
    shape_made =
        whole-with_next t now place shape made.free made.within may.may (subst (λ n. n < FULL_COUNT) (sym next_is) may.room) (node_of_row (bytes c.inode) row) may.parent

    -- the rows after a creation are whole
    pub whole-made : Whole after
    whole-made = record {
      cells = cells_made;
      stored = stored-again bytes no_bytes after (stored-made bytes rows now place row dir links c space stored shape there counters made);
      tree = subst WholeShape (same_shape bytes no_bytes after) (subst (λ (u : Tree). WholeShape (shape_of u)) (sym tree-made) shape_made);
      slices = quiet-slices rows after quiet-made whole.slices;
      files = files_made;
    }
