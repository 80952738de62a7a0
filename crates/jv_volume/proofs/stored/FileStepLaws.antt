-- Files stay whole with each small change of metadata: of a row that is no file's, of a node's row, of the counters, and of a
-- file that becomes a dropped one.
use Rattle.std.proofs.Common.{◌≡◌, ◌≢◌, ℕ, ◌<◌, ◌≤◌, false, [], inl, inr, Option, None, Some, Ok, refl, sym, ap, subst, ◌∙◌, arith}
use Rattle.std.proofs.lemmas.Option.{same_Some}
use Rattle.std.specs.Prelude.{◌==◌}
use Rattle.std.proofs.lemmas.Bool.{cases_eq}
use Rattle.jv_model.specs.declared.limits.TheConstants.{FILE_END}
use Rattle.jv_model.specs.declared.row.RowKey.{RowKey}
use Rattle.jv_model.specs.declared.row.Counters.{Counters}
use Rattle.jv_model.specs.declared.row.Dropped.{Dropped}
use Rattle.jv_model.specs.declared.row.Node.{Node as NodeRow}
use Rattle.jv_model.specs.declared.row.Row.TheVariants.{OfCounters, OfNode, OfDropped as DroppedRow}
use Rattle.jv_model.specs.promise.FiniteMap.{insert, remove}
use Rattle.jv_model.specs.FiniteMap.{alter}
use Rattle.jv_model.specs.promise.rows.RowKeys.{row_key}
use Rattle.jv_model.specs.promise.rows.RowPlaces.{counters_key, node_key, dropped_key}
use Rattle.jv_volume.specs.promise.TypedRows.{Cell, Rows}
use Rattle.jv_volume.specs.promise.Views.{row_in, counters_in, counters_at, node_in, node_row_at, dropped_in, dropped_at, lists_of}
use Rattle.jv_volume.specs.promise.TreeOf.{or_no_counters, counters_of_rows}
use Rattle.jv_volume.specs.promise.Slices.{HasLists, OfFile, OfDropped, WholeFiles}
use Rattle.jv_volume.specs.Whole.{is_of_slices, SlicesStay}
use Rattle.jv_volume.proofs.stored.FilesLaws.{FileIs, AsBefore, IsNew, files-kept}
use Rattle.jv_volume.proofs.maps.MapLaws.{get-alter-here, get-alter-apart}
use Rattle.jv_volume.proofs.stored.QuietLaws.{other_tab, slices-alter, slices-then}

-- ---- views after a change at another key

module _ (rows : Rows) (q : RowKey) (cell : Option Cell) where
  node_stays : (inode : ℕ) → node_key inode ≢ q → node_row_at (alter rows q cell) inode ≡ node_row_at rows inode
  node_stays inode apart = ap (λ c. node_in (row_in c)) (get-alter-apart row_key rows q cell (node_key inode) apart)

  dropped_stays : (inode : ℕ) → dropped_key inode ≢ q → dropped_at (alter rows q cell) inode ≡ dropped_at rows inode
  dropped_stays inode apart = ap (λ c. dropped_in (row_in c)) (get-alter-apart row_key rows q cell (dropped_key inode) apart)

  counters_stay : counters_key ≢ q → counters_of_rows (alter rows q cell) ≡ counters_of_rows rows
  counters_stay apart = ap (λ c. or_no_counters (counters_in (row_in c))) (get-alter-apart row_key rows q cell counters_key apart)

-- ---- a row that is neither a node's, nor a dropped file's, nor the counters'
pub files-other : (rows : Rows) (q : RowKey) (cell : Option Cell) → WholeFiles rows → is_of_slices q.tab ≡ false → (1 == q.tab) ≡ false
    → (2 == q.tab) ≡ false → (8 == q.tab) ≡ false → WholeFiles (alter rows q cell)
files-other rows q cell w slices counters nodes dropped =
    let node : (i : ℕ) → node_row_at (alter rows q cell) i ≡ node_row_at rows i = (λ i. node_stays rows q cell i (other_tab (node_key i) q nodes)) in
    let drop : (i : ℕ) → dropped_at (alter rows q cell) i ≡ dropped_at rows i = (λ i. dropped_stays rows q cell i (other_tab (dropped_key i) q dropped)) in
    files-kept rows (alter rows q cell) (slices-alter rows q cell slices) w (record {
      file = λ i n there is. AsBefore n (sym (node i) ∙ there) is refl;
      owner = λ i was there is. OfFile was (node i ∙ there) is;
      dropped = λ i there none. there (sym (drop i) ∙ none);
      gone = λ i there. (let was = w.gone i (λ none. there (drop i ∙ none)) in
          (node i ∙ was.0, subst (λ c. i < c.inode) (sym (counters_stay rows q cell (other_tab counters_key q counters))) was.1));
    })

-- ---- a node's row

module _ (rows : Rows) (inode : ℕ) (cell : Option Cell) (w : WholeFiles rows) where
  abbrev after : Rows
  after = alter rows (node_key inode) cell

  same_slices : SlicesStay rows after
  same_slices = slices-alter rows (node_key inode) cell refl

  node_beside : (i : ℕ) → i ≢ inode → node_row_at after i ≡ node_row_at rows i
  node_beside i apart = node_stays rows (node_key inode) cell i (λ same. apart (ap (λ (q : RowKey). q.a) same))

  node_there : node_row_at after inode ≡ node_in (row_in cell)
  node_there = ap (λ c. node_in (row_in c)) (get-alter-here row_key rows (node_key inode) cell)

  dropped_is : (i : ℕ) → dropped_at after i ≡ dropped_at rows i
  dropped_is i = dropped_stays rows (node_key inode) cell i (other_tab (dropped_key i) (node_key inode) refl)

  next_is : counters_of_rows after ≡ counters_of_rows rows
  next_is = counters_stay rows (node_key inode) cell (other_tab counters_key (node_key inode) refl)

  -- what a file's row here means, that a file here keeps its lists, and that nothing here was dropped
  pub files-node : ((node : NodeRow) → node_in (row_in cell) ≡ Some node → node.kind ≡ 1 → FileIs rows inode node)
      → ((was : NodeRow) → node_row_at rows inode ≡ Some was → was.kind ≡ 1 → HasLists after inode)
      → (dropped_at rows inode ≢ None → node_in (row_in cell) ≡ None) → WholeFiles after
  files-node file owner dropped = files-kept rows after same_slices w (record {
    file = λ i n there is. elim (cases_eq i inode) [
      | inl same ↦ subst (λ j. FileIs rows j n) (sym same) (file n (sym node_there ∙ ap (node_row_at after) (sym same) ∙ there) is)
      | inr apart ↦ AsBefore n (sym (node_beside i apart) ∙ there) is refl
    ];
    owner = λ i was there is. elim (cases_eq i inode) [
      | inl same ↦ subst (HasLists after) (sym same) (owner was (ap (node_row_at rows) (sym same) ∙ there) is)
      | inr apart ↦ OfFile was (node_beside i apart ∙ there) is
    ];
    dropped = λ i there none. there (sym (dropped_is i) ∙ none);
    gone = λ i there. (let was = w.gone i (λ none. there (dropped_is i ∙ none)) in (
      (elim (cases_eq i inode) [
        | inl same ↦ ap (node_row_at after) same ∙ node_there ∙ dropped (λ none. there (dropped_is i ∙ ap (dropped_at rows) same ∙ none))
        | inr apart ↦ node_beside i apart ∙ was.0
      ]),
      subst (λ c. i < c.inode) (sym next_is) was.1,
    ));
  })

-- a node's row that keeps its kind and its length
pub files-same_length : (rows : Rows) (inode : ℕ) (was row : NodeRow) → WholeFiles rows → node_row_at rows inode ≡ Some was → row.kind ≡ was.kind
    → row.length ≡ was.length
    → WholeFiles (insert rows (node_key inode) (Ok (OfNode row)))
files-same_length rows inode was row w there kind length =
    files-node rows inode (Some (Ok (OfNode row))) w
    (λ node is file. let same : row ≡ node = cc in subst (FileIs rows inode) same (AsBefore was there (sym kind
    ∙ subst (λ (r : NodeRow). r.kind ≡ 1) (sym same) file) length))
    (λ old here file. let same : was ≡ old = (let both = sym there ∙ here in same_Some was old both) in
    OfFile row (node_there rows inode (Some (Ok (OfNode row))) w) (kind ∙ ap (λ (r : NodeRow). r.kind) same ∙ file))
    (λ drop. let gone = (w.gone inode drop).0 in absurd (cc))

-- a new node at an inode that was never given
pub files-new_node : (rows : Rows) (inode : ℕ) (row : NodeRow) → WholeFiles rows → node_row_at rows inode ≡ None → (counters_of_rows rows).inode ≤ inode
    → row.length ≤ FILE_END
    → ((window : ℕ) → lists_of rows inode window ≡ []) → WholeFiles (insert rows (node_key inode) (Ok (OfNode row)))
files-new_node rows inode row w none high small lists =
    files-node rows inode (Some (Ok (OfNode row))) w
    (λ node is file. let same : row ≡ node = cc in subst (FileIs rows inode) same (IsNew small lists))
    (λ was there file. absurd (cc))
    (λ drop. let gone = (w.gone inode drop).1 in absurd (omega (arith, gone, high)))

-- a directory or a symlink that goes
pub files-drop_other : (rows : Rows) (inode : ℕ) (was : NodeRow) → WholeFiles rows → node_row_at rows inode ≡ Some was → was.kind ≢ 1
    → WholeFiles (remove rows (node_key inode))
files-drop_other rows inode was w there other =
    files-node rows inode None w
    (λ node is file. absurd (cc))
    (λ old here file. let same : was ≡ old = (let both = sym there ∙ here in same_Some was old both) in
    absurd (other (ap (λ (r : NodeRow). r.kind) same ∙ file)))
    (λ drop. refl)

-- ---- the counters, whose next inode may rise

pub files-put_counters : (rows : Rows) (before c : Counters) → WholeFiles rows → counters_at rows ≡ Some before → c.slice ≡ before.slice
    → before.inode ≤ c.inode
    → WholeFiles (insert rows counters_key (Ok (OfCounters c)))
files-put_counters rows before c w there slice rises =
    let cell : Option Cell = Some (Ok (OfCounters c)) in
    let node : (i : ℕ) → node_row_at (alter rows counters_key cell) i
    ≡ node_row_at rows i = (λ i. node_stays rows counters_key cell i (other_tab (node_key i) counters_key refl)) in
    let drop : (i : ℕ) → dropped_at (alter rows counters_key cell) i
    ≡ dropped_at rows i = (λ i. dropped_stays rows counters_key cell i (other_tab (dropped_key i) counters_key refl)) in
    let new : (counters_of_rows (alter rows counters_key cell)).inode ≡ c.inode =
    ap (λ o. (or_no_counters (counters_in (row_in o))).inode) (get-alter-here row_key rows counters_key cell) in
    let old : (counters_of_rows rows).inode ≡ before.inode = ap (λ o. (or_no_counters o).inode) there in
    files-kept rows (alter rows counters_key cell) (slices-alter rows counters_key cell refl) w (record {
      file = λ i n here is. AsBefore n (sym (node i) ∙ here) is refl;
      owner = λ i was here is. OfFile was (node i ∙ here) is;
      dropped = λ i here none. here (sym (drop i) ∙ none);
      gone = λ i here. (let was = w.gone i (λ none. here (drop i ∙ none)) in (node i ∙ was.0, (let less = was.1 in omega (arith, less, new, old, rises))));
    })

-- ---- a file that becomes a dropped one

module _ (rows : Rows) (inode : ℕ) (was : NodeRow) (dropped_row : Dropped) (w : WholeFiles rows) (there : node_row_at rows inode
    ≡ Some was) (given : inode < (counters_of_rows rows).inode) where
  abbrev without_file : Rows
  without_file = remove rows (node_key inode)

  abbrev drop_cell : Option Cell
  drop_cell = Some (Ok (DroppedRow dropped_row))

  abbrev dropped_rows : Rows
  dropped_rows = insert without_file (dropped_key inode) (Ok (DroppedRow dropped_row))

  slices_both : SlicesStay rows dropped_rows
  slices_both = slices-then rows without_file dropped_rows (slices-alter rows (node_key inode) None refl)
      (slices-alter without_file (dropped_key inode) drop_cell refl)

  same_node : (i : ℕ) → i ≢ inode → node_row_at dropped_rows i ≡ node_row_at rows i
  same_node i apart =
      node_stays without_file (dropped_key inode) drop_cell i (other_tab (node_key i) (dropped_key inode) refl)
      ∙ node_stays rows (node_key inode) None i (λ same. apart (ap (λ (q : RowKey). q.a) same))

  no_node : node_row_at dropped_rows inode ≡ None
  no_node =
      node_stays without_file (dropped_key inode) drop_cell inode (other_tab (node_key inode) (dropped_key inode) refl)
      ∙ ap (λ c. node_in (row_in c)) (get-alter-here row_key rows (node_key inode) None)

  same_drop : (i : ℕ) → i ≢ inode → dropped_at dropped_rows i ≡ dropped_at rows i
  same_drop i apart =
      dropped_stays without_file (dropped_key inode) drop_cell i (λ same. apart (ap (λ (q : RowKey). q.a) same))
      ∙ dropped_stays rows (node_key inode) None i (other_tab (dropped_key i) (node_key inode) refl)

  is_dropped : dropped_at dropped_rows inode ≡ Some dropped_row
  is_dropped = ap (λ c. dropped_in (row_in c)) (get-alter-here row_key without_file (dropped_key inode) drop_cell)

  same_next : counters_of_rows dropped_rows ≡ counters_of_rows rows
  same_next =
      counters_stay without_file (dropped_key inode) drop_cell (other_tab counters_key (dropped_key inode) refl)
      ∙ counters_stay rows (node_key inode) None (other_tab counters_key (node_key inode) refl)

  dropped_here : dropped_at dropped_rows inode ≢ None
  dropped_here none = (let both : Some dropped_row ≡ None = sym is_dropped ∙ none in absurd (cc))

  pub files-drop_file : WholeFiles dropped_rows
  files-drop_file = files-kept rows dropped_rows slices_both w (record {
    file = λ i n here is. elim (cases_eq i inode) [
      | inl same ↦ (let none : node_row_at dropped_rows i ≡ None = ap (node_row_at dropped_rows) same ∙ no_node in absurd (cc))
      | inr apart ↦ AsBefore n (sym (same_node i apart) ∙ here) is refl
    ];
    owner = λ i old here is. elim (cases_eq i inode) [
      | inl same ↦ subst (HasLists dropped_rows) (sym same) (OfDropped dropped_here)
      | inr apart ↦ OfFile old (same_node i apart ∙ here) is
    ];
    dropped = λ i here. elim (cases_eq i inode) [
      | inl same ↦ subst (λ j. dropped_at dropped_rows j ≢ None) (sym same) dropped_here
      | inr apart ↦ (λ none. here (sym (same_drop i apart) ∙ none))
    ];
    gone = λ i here. elim (cases_eq i inode) [
      | inl same ↦ (
        ap (node_row_at dropped_rows) same ∙ no_node,
        subst (λ c. i < c.inode) (sym same_next)
            (subst (λ j. j < (counters_of_rows rows).inode) (sym same) given),
      )
      | inr apart ↦ (let old = w.gone i (λ none. here (same_drop i apart ∙ none)) in (
        same_node i apart
            ∙ old.0,
        subst (λ c. i < c.inode) (sym same_next) old.1,
      ))
    ];
  })
