-- Drafted files keep their lengths with each small change: of a row that is no node's, of a node's row that keeps kind and length, of a
-- directory that comes, and of a node that goes.
use Rattle.std.proofs.Common.{◌≡◌, ℕ, false, inl, inr, Option, None, Some, Ok, sym, ap, ◌∙◌}
use Rattle.std.specs.Prelude.{◌==◌, if◌then◌else◌}
use Rattle.std.proofs.lemmas.Bool.{cases_eq}
use Rattle.jv_model.specs.declared.row.Node.{Node as NodeRow}
use Rattle.jv_model.specs.declared.row.Row.TheVariants.{OfNode}
use Rattle.jv_model.specs.declared.row.RowKey.{RowKey}
use Rattle.jv_model.specs.FiniteMap.{alter}
use Rattle.jv_model.specs.promise.FiniteMap.{insert, remove}
use Rattle.jv_model.specs.promise.rows.RowKeys.{row_key}
use Rattle.jv_model.specs.promise.rows.RowPlaces.{node_key}
use Rattle.jv_volume.specs.promise.TypedRows.{Cell, Rows}
use Rattle.jv_volume.specs.promise.Views.{row_in, node_in, node_row_at}
use Rattle.jv_volume.specs.Whole.{file_length}
use Rattle.jv_volume.proofs.maps.MapLaws.{get-alter-here, get-alter-apart}
use Rattle.jv_volume.proofs.stored.QuietLaws.{other_tab}
use Rattle.jv_rows_drafts.specs.Drafting.{KeepsLengths}

pub lengths-none : (rows : Rows) → KeepsLengths rows rows
lengths-none rows inode row there = ap file_length (sym there)

module _ (start rows : Rows) (lengths : KeepsLengths start rows) where
  -- a row of another table
  pub lengths-alter : (q : RowKey) (cell : Option Cell) → (2 == q.tab) ≡ false → KeepsLengths start (alter rows q cell)
  lengths-alter q cell other inode row there =
      lengths inode row (sym (ap (λ c. node_in (row_in c)) (get-alter-apart row_key rows q cell (node_key inode) (other_tab (node_key inode) q other))) ∙ there)

  module _ (inode : ℕ) (cell : Option Cell) where
    -- what stands at a node's key afterwards is as long as at the start
    by_node : ((row : NodeRow) → node_in (row_in cell) ≡ Some row → file_length (Some row) ≡ file_length (node_row_at start inode))
        → KeepsLengths start (alter rows (node_key inode) cell)
    by_node here i row there = elim (cases_eq i inode) [
      | inl same ↦ here row (sym (ap (λ c. node_in (row_in c)) (get-alter-here row_key rows (node_key inode) cell))
          ∙ ap (node_row_at (alter rows (node_key inode) cell)) (sym same) ∙ there)
          ∙ ap (λ j. file_length (node_row_at start j)) (sym same)
      | inr apart ↦ lengths i row (sym (ap (λ c. node_in (row_in c)) (get-alter-apart row_key rows (node_key inode) cell (node_key i)
          (λ same. apart (ap (λ (q : RowKey). q.a) same)))) ∙ there)
    ]

  -- another row of a node that keeps its kind and its length
  pub lengths-put_node : (inode : ℕ) (was row : NodeRow) → node_row_at rows inode ≡ Some was → row.kind ≡ was.kind → row.length ≡ was.length
      → KeepsLengths start (insert rows (node_key inode) (Ok (OfNode row)))
  lengths-put_node inode was row there kind length = by_node inode (Some (Ok (OfNode row))) (λ new is.
      let same : row ≡ new = cc in
      ap (λ n. file_length (Some n)) (sym same)
      ∙ (λ i. if kind i == 1 then Some (length i) else None)
      ∙ lengths inode was there)

  -- a node that comes and is no file, where no file was
  pub lengths-new_node : (inode : ℕ) (row : NodeRow) → (row.kind == 1) ≡ false → file_length (node_row_at start inode) ≡ None
      → KeepsLengths start (insert rows (node_key inode) (Ok (OfNode row)))
  lengths-new_node inode row other none = by_node inode (Some (Ok (OfNode row))) (λ new is.
      let same : row ≡ new = cc in
      ap (λ n. file_length (Some n)) (sym same) ∙ ap (λ b. if b then Some row.length else None) other ∙ sym none)

  -- a node that goes
  pub lengths-drop_node : (inode : ℕ) → KeepsLengths start (remove rows (node_key inode))
  lengths-drop_node inode = by_node inode None (λ new is. absurd (cc))
