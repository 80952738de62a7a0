-- A walk's places: what a reading of a node or an entry reaches, and which rows whole volumes have.
use Rattle.std.proofs.Common.{◌≡◌, ◌≢◌, ℕ, Bool, true, false, List, [], Option, None, Some, Result, Ok, Err, option_map, refl, sym, ap, subst, ◌∙◌, true≢false, eqb-true}
use Rattle.std.specs.Prelude.{if◌then◌else◌, ◌&&◌, ◌||◌, ◌==◌, IsTrue}
use Rattle.jv_model.specs.declared.limits.TheConstants.{ROOT, TRASH_ROOT}
use Rattle.jv_model.specs.declared.row.RowKey.{RowKey}
use Rattle.jv_model.specs.declared.row.Row.TheVariants.{OfNode, OfEdge}
use Rattle.jv_model.specs.declared.row.Node.{Node as NodeRow}
use Rattle.jv_model.specs.declared.row.Edge.{Edge}
use Rattle.jv_model.specs.declared.fault.Fault.{Fault}
use Rattle.jv_model.specs.declared.fault.Fault.TheVariants.{NotADirectory}
use Rattle.jv_model.specs.declared.fault.RowFault.{RowFault}
use Rattle.jv_model.specs.declared.fault.RowFault.TheVariants.{Bad}
use Rattle.jv_model.specs.declared.fault.TxFault.{TxFault}
use Rattle.jv_model.specs.declared.fault.TxFault.TheVariants.{Refused, Rows as OfRows}
use Rattle.jv_model.specs.promise.FiniteMap.{get}
use Rattle.jv_model.specs.promise.rows.RowGrammar.{node_bytes, is_node, edge_bytes, is_edge}
use Rattle.jv_model.specs.promise.rows.RowKeys.{RowMap, row_key, is_key_of}
use Rattle.jv_model.specs.promise.rows.RowPlaces.{node_key, edge_key}
use Rattle.jv_model.specs.promise.tree.Tree.{Tree, Node, EntryKey, node_at, parent_at}
use Rattle.jv_outside.specs.promise.Store.{Store}
use Rattle.jv_volume.specs.promise.TypedRows.{typed}
use Rattle.jv_volume.specs.promise.Views.{row_in, node_in, edge_in}
use Rattle.jv_volume.specs.promise.TreeOf.{tree_of}
use Rattle.jv_volume.specs.promise.Shape.{Form, Dir, form_of, is_there, shape_of, is_top, WholeShape}
use Rattle.jv_volume.specs.promise.Whole.{Whole}
use Rattle.jv_volume.proofs.shapes.ShapeMapLaws.{tied_here, form-parent, there_of_dir}
use Rattle.jv_volume.proofs.stored.TreeOfLaws.{get-entries}
use Rattle.jv_volume.proofs.stored.StoredLaws.{whole-stored, whole-shape, found_node, no_node}
use Rattle.jv_volume.proofs.shapes.WalkShapeLaws.{parent_directory}
use Rattle.jv_volume.proofs.shapes.ClimbLaws.{dir_parent}
use Rattle.jv_rows.specs.Drafts.{Sees}
use Rattle.jv_rows.specs.promise.Transactions.{NamesNone, Lacks, names_row, is_needed}
use Rattle.jv_rows.specs.Transactions.{Looks}
use Rattle.jv_rows.specs.Walks.{HasNodeRow, HasEdgeRow, Comes}
use Rattle.jv_rows.specs.declared.walking.Place.{Place}
use Rattle.jv_rows.proofs.transactions.TransactionLaws.{Past}
use Rattle.jv_rows.proofs.transactions.ReadingPartLaws.{last_part, answered, finds_bad, not_read, was_read, stands_there}
use Rattle.jv_model.proofs.TestLaws.{if_some-by, of_known}

-- ---- rows that were read

pub has_node_row : {inode : ℕ} {node : NodeRow} {before after : Store} → Sees OfNode is_node (node_key inode) [] before after (Ok (Some node)) → HasNodeRow after inode node
has_node_row {inode = inode} {node = node} {before = before} {after = after} r =
    if_some-by _ after.rows (λ known is. stands_there OfNode is_node (node_key inode) before after (Some node) r known (sym r.rows_are ∙ is))

pub has_edge_row : {dir : ℕ} {name : List ℕ} {edge : Edge} {before after : Store} → Sees OfEdge is_edge (edge_key dir name) [] before after (Ok (Some edge)) → HasEdgeRow after dir name edge
has_edge_row {dir = dir} {name = name} {edge = edge} {before = before} {after = after} r =
    if_some-by _ after.rows (λ known is. stands_there OfEdge is_edge (edge_key dir name) before after (Some edge) r known (sym r.rows_are ∙ is))

-- ---- a part of a walk that reaches a node

pub failed_to_come : {before after : Store} {asked : Tree → Result ℕ Fault} {fault : TxFault} → Looks before after (Err fault) asked → Comes before after (Err fault) asked
failed_to_come looks = record { looks = looks; stands = tt; allowed = tt }

-- the node of a row that was read
pub comes_to : {before after : Store} (inode : ℕ) (node : NodeRow) → Sees OfNode is_node (node_key inode) [] before after (Ok (Some node))
    → Comes before after (Ok (record { inode = inode; node = node })) (λ t. Ok inode)
comes_to {before = before} {after = after} inode node r = record {
  looks = answered inode (was_read OfNode is_node (node_key inode) before after (Some node) (λ t. Ok inode) r);
  stands = has_node_row r;
  allowed = r.allowed;
}

pub last_come : {before now after : Store} {asked left : Tree → Result ℕ Fault} {result : Result Place TxFault} → Past before now asked left → Comes now after result left → Comes before after result asked
last_come l r = record { looks = last_part l r.looks; stands = r.stands; allowed = r.allowed }

-- a node whose row wasn't read
pub not_come : {before after : Store} (inode : ℕ) (fault : RowFault) (asked : Tree → Result ℕ Fault) → Sees OfNode is_node (node_key inode) [] before after (Err fault)
    → Comes before after (Err (OfRows fault)) asked
not_come {before = before} {after = after} inode fault asked r = failed_to_come (not_read OfNode is_node (node_key inode) before after fault asked r)

-- ---- rows that whole volumes have

-- the top directories

either_top : (inode : ℕ) (a b : Bool) → (inode == ROOT) ≡ a → (inode == TRASH_ROOT) ≡ b → IsTrue (a || b) → (P : ℕ → Type 0) → P ROOT → P TRASH_ROOT → P inode
either_top inode true b e f h P at_root at_trash = subst P (sym (eqb-true inode ROOT e)) at_root
either_top inode false true e f h P at_root at_trash = subst P (sym (eqb-true inode TRASH_ROOT f)) at_trash
either_top inode false false e f h P at_root at_trash = absurd (true≢false (sym h))

-- what holds of both holds of a top directory
pub of_top : (inode : ℕ) → IsTrue (is_top inode) → (P : ℕ → Type 0) → P ROOT → P TRASH_ROOT → P inode
of_top inode h P at_root at_trash = either_top inode (inode == ROOT) (inode == TRASH_ROOT) refl refl h P at_root at_trash

absent_form : {node : Option Node} {form : Form} → node ≡ None → form_of node ≡ form → IsTrue (is_there form) → ⊥
absent_form {form = form} none is there = true≢false (sym there ∙ sym (ap is_there is) ∙ ap (λ o. is_there (form_of o)) none)

module _ (known : RowMap) (whole : Whole (typed known)) where
  abbrev bare : Tree
  bare = tree_of (λ inode position. 0) (typed known)

  shape : WholeShape (shape_of bare)
  shape = whole-shape (λ inode position. 0) (typed known) whole

  absent : (inode : ℕ) → get (typed known) (node_key inode) ≡ None → node_at bare inode ≡ None
  absent inode none = no_node (λ inode position. 0) (typed known) inode (ap (λ cell. node_in (row_in cell)) none)

  -- no top directory is absent
  pub has_top : (inode : ℕ) → IsTrue (is_top inode) → get (typed known) (node_key inode) ≡ None → ⊥
  has_top inode top none =
      of_top inode top (λ i. node_at bare i ≡ None → ⊥) (λ gone. absent_form gone shape.root_there refl) (λ gone. absent_form gone shape.trash_there refl) (absent inode none)

  -- no entry's node is absent
  pub has_named : (at : EntryKey) (edge : Edge) → get (typed known) (edge_key at.dir at.name) ≡ Some (Ok (OfEdge edge)) → get (typed known) (node_key edge.inode) ≡ None → ⊥
  has_named at edge there none =
      let entry : get bare.entries at ≡ Some edge.inode = get-entries (λ inode position. 0) (typed known) at ∙ ap (λ cell. option_map (λ e. e.inode) (edge_in (row_in cell))) there in
      absent_form (absent edge.inode none) refl (shape.entry at edge.inode entry).there

  -- the parent of a directory is there
  parent_there : (dir parent : ℕ) (top : Bool) → is_top dir ≡ top → form_of (node_at bare dir) ≡ Dir parent → IsTrue (is_there (form_of (node_at bare parent)))
  parent_there dir parent true top form = subst (λ p. IsTrue (is_there (form_of (node_at bare p)))) (of_top dir top (λ d. form_of (node_at bare d) ≡ Dir parent → ROOT ≡ parent)
      (λ is. dir_parent _ _ (sym shape.root_there ∙ is)) (λ is. dir_parent _ _ (sym shape.trash_there ∙ is)) form) (subst (λ f. IsTrue (is_there f)) (sym shape.root_there) refl)
  parent_there dir parent false top form =
      let entered = shape.entered dir parent form top in
      there_of_dir (form_of (node_at bare parent)) (shape.entry (record { dir = parent; name = entered.name }) dir entered.is).within

  -- no directory's parent is absent
  pub has_parent : (inode : ℕ) (node : NodeRow) → get (typed known) (node_key inode) ≡ Some (Ok (OfNode node)) → node.kind ≡ 2 → get (typed known) (node_key node.parent) ≡ None → ⊥
  has_parent inode node there directory none =
      let h = found_node (λ inode position. 0) (typed known) (whole-stored (λ inode position. 0) (typed known) whole) inode node (ap (λ cell. node_in (row_in cell)) there) in
      let parent : parent_at bare inode ≡ Some node.parent = h.parent ∙ ap (λ k. if k == 2 then Some node.parent else None) directory in
      absent_form (absent node.parent none) refl (parent_there inode node.parent (is_top inode) refl (form-parent (node_at bare inode) node.parent parent))

  -- nor is it a file or a symlink
  pub has_directory : (inode : ℕ) (node parent : NodeRow) → get (typed known) (node_key inode) ≡ Some (Ok (OfNode node)) → node.kind ≡ 2
      → get (typed known) (node_key node.parent) ≡ Some (Ok (OfNode parent)) → parent.kind ≢ 2 → ⊥
  has_directory inode node parent there directory above leaf =
      let stored = whole-stored (λ inode position. 0) (typed known) whole in
      let h = found_node (λ inode position. 0) (typed known) stored inode node (ap (λ cell. node_in (row_in cell)) there) in
      let p = found_node (λ inode position. 0) (typed known) stored node.parent parent (ap (λ cell. node_in (row_in cell)) above) in
      let is : parent_at bare inode ≡ Some node.parent = h.parent ∙ ap (λ k. if k == 2 then Some node.parent else None) directory in
      leaf (eqb-true parent.kind 2 (sym p.directory ∙ parent_directory bare shape inode node.parent is))

-- ---- a row that is Bad since another isn't there

names_it : (key : RowKey) → IsTrue (is_key_of key key)
names_it key = tied_here row_key key

needs_top : (inode : ℕ) → IsTrue (is_top inode) → IsTrue (is_needed (node_key inode))
needs_top inode top = of_top inode top (λ i. IsTrue (is_needed (node_key i))) refl refl

-- the node of a top directory is absent
pub lacks_top : {before after : Store} (inode : ℕ) → IsTrue (is_top inode) → Sees OfNode is_node (node_key inode) [] before after (Ok None)
    → Comes before after (Err (OfRows (Bad (node_key inode) []))) (λ t. Ok inode)
lacks_top {before = before} {after = after} inode top r =
    failed_to_come (finds_bad (node_key inode) [] (was_read OfNode is_node (node_key inode) before after None (λ t. Ok inode) r)
    (if_some-by _ before.rows (λ known is. Lacks (needs_top inode top) (stands_there OfNode is_node (node_key inode) before after None r known is) refl))
    (λ known is whole. has_top known whole inode top (stands_there OfNode is_node (node_key inode) before after None r known is)))

-- the node of an entry is absent
pub names_none : {before after : Store} (dir : ℕ) (name : List ℕ) (edge : Edge) → HasEdgeRow before dir name edge → Sees OfNode is_node (node_key edge.inode) [] before after (Ok None)
    → Comes before after (Err (OfRows (Bad (edge_key dir name) (edge_bytes edge)))) (λ t. Ok edge.inode)
names_none {before = before} {after = after} dir name edge there r =
    failed_to_come (finds_bad (edge_key dir name) (edge_bytes edge) (was_read OfNode is_node (node_key edge.inode) before after None (λ t. Ok edge.inode) r)
    (if_some-by _ before.rows (λ known is. NamesNone (OfEdge edge) (node_key edge.inode) (of_known _ before.rows known is there) refl
    (names_it (node_key edge.inode)) (stands_there OfNode is_node (node_key edge.inode) before after None r known is)))
    (λ known is whole. has_named known whole (record { dir = dir; name = name }) edge (of_known _ before.rows known is there) (stands_there OfNode is_node (node_key edge.inode) before after None r known is)))

names_parent : (inode : ℕ) (node : NodeRow) → node.kind ≡ 2 → IsTrue (names_row (node_key inode) (OfNode node) (node_key node.parent))
names_parent inode node directory = ap (λ k. (k == 2) && is_key_of (node_key node.parent) (node_key node.parent)) directory ∙ names_it (node_key node.parent)

-- the parent of a directory is absent
pub lacks_parent : {before after : Store} (inode : ℕ) (node : NodeRow) → HasNodeRow before inode node → node.kind ≡ 2 → Sees OfNode is_node (node_key node.parent) [] before after (Ok None)
    → Comes before after (Err (OfRows (Bad (node_key inode) (node_bytes node)))) (λ t. Ok node.parent)
lacks_parent {before = before} {after = after} inode node there directory r =
    failed_to_come (finds_bad (node_key inode) (node_bytes node) (was_read OfNode is_node (node_key node.parent) before after None (λ t. Ok node.parent) r)
    (if_some-by _ before.rows (λ known is. NamesNone (OfNode node) (node_key node.parent) (of_known _ before.rows known is there) refl
    (names_parent inode node directory) (stands_there OfNode is_node (node_key node.parent) before after None r known is)))
    (λ known is whole. has_parent known whole inode node (of_known _ before.rows known is there) directory (stands_there OfNode is_node (node_key node.parent) before after None r known is)))

-- the parent of a directory is a file or a symlink, as in no whole rows
pub no_parent : {before after : Store} (inode : ℕ) (node parent : NodeRow) → HasNodeRow before inode node → node.kind ≡ 2
    → Sees OfNode is_node (node_key node.parent) [] before after (Ok (Some parent)) → parent.kind ≢ 2
    → Comes before after (Err (Refused NotADirectory)) (λ t. Ok node.parent)
no_parent {before = before} {after = after} inode node parent there directory r leaf =
    let l = was_read OfNode is_node (node_key node.parent) before after (Some parent) (λ t. Ok node.parent) r in
    failed_to_come (record {
      rows_are = l.rows_are;
      opened_at = l.opened_at;
      counts = l.calm;
      agrees = λ known is whole bytes. absurd (has_directory known whole inode node parent (of_known _ before.rows known is there) directory
          (stands_there OfNode is_node (node_key node.parent) before after (Some parent) r known is) leaf);
      bad = if_some-by _ before.rows (λ known is. tt);
    })
