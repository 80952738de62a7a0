-- The row of a node may stand at its inode: it's of no hour, or it's read-only and root's, or as one that stood there was.
use Rattle.std.proofs.Common.{◌≡◌, ℕ, ◌≤◌, Bool, true, false, Option, None, Some, Ok, refl, sym, ap, ◌∙◌, arith}
use Rattle.std.specs.Prelude.{if◌then◌else◌, IsTrue}
use Rattle.std.proofs.lemmas.Option.{none-some}
use Rattle.jv_model.specs.declared.limits.TheConstants.{FULL_COUNT}
use Rattle.jv_model.specs.declared.row.Node.{Node}
use Rattle.jv_model.specs.declared.row.Row.TheVariants.{OfNode}
use Rattle.jv_model.specs.promise.FiniteMap.{get}
use Rattle.jv_model.specs.promise.rows.RowPlaces.{node_key}
use Rattle.jv_volume.specs.promise.TypedRows.{Cell, Rows}
use Rattle.jv_volume.specs.promise.Views.{row_in, node_in, node_row_at}
use Rattle.jv_volume.specs.promise.Shape.{is_hour}
use Rattle.jv_volume.specs.promise.Whole.{IsRowAt, is_read_only, is_read_only_in, is_read_only_if_hour}
use Rattle.jv_volume.proofs.shapes.EnteredShapeLaws.{not_hour_below}
use Rattle.jv_volume.proofs.maps.SeenLaws.{AreRows}

-- a node of no hour
pub no_hour-row : (inode : ℕ) (row : Node) → is_hour inode ≡ false → IsRowAt (node_key inode) (Ok (OfNode row))
no_hour-row inode row none = record {
  key_is = refl;
  cell_is = refl;
  hour = ap (λ b. if b then is_read_only row else true) none;
}

-- as one whose inode was given
pub given-row : (inode : ℕ) (row : Node) → inode ≤ FULL_COUNT → IsRowAt (node_key inode) (Ok (OfNode row))
given-row inode row low = no_hour-row inode row (not_hour_below inode (omega (arith, low)))

if_hour : (b c : Bool) → c ≡ true → (if b then c else true) ≡ true
if_hour true c is = is
if_hour false c is = refl

-- a directory that is read-only and root's
pub read_only-row : (inode : ℕ) (row : Node) → IsTrue (is_read_only row) → IsRowAt (node_key inode) (Ok (OfNode row))
read_only-row inode row is = record { key_is = refl; cell_is = refl; hour = if_hour (is_hour inode) (is_read_only row) is }

-- a node's row that keeps its mode and its owner
pub again-row : (rows : Rows) (inode : ℕ) (was row : Node) → AreRows rows → node_row_at rows inode ≡ Some was
    → is_read_only row ≡ is_read_only was → IsRowAt (node_key inode) (Ok (OfNode row))
again-row rows inode was row all there same = by_cell (get rows (node_key inode)) refl
  where
    by_cell : (stands : Option Cell) → get rows (node_key inode) ≡ stands → IsRowAt (node_key inode) (Ok (OfNode row))
    by_cell None e = absurd (none-some was (sym (ap (λ o. node_in (row_in o)) e) ∙ there))
    by_cell (Some cell) e =
        let seen : node_in (row_in (Some cell)) ≡ Some was = sym (ap (λ o. node_in (row_in o)) e) ∙ there in
        let hour : IsTrue (is_read_only_if_hour (node_key inode) cell) = (all (node_key inode) cell e).hour in
        record {
          key_is = refl;
          cell_is = refl;
          hour = ap (λ b. if is_hour inode then b else true) (same ∙ ap is_read_only_in (sym seen)) ∙ hour;
        }
