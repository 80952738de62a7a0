-- Changes of lists, slices and dead slices alone: the tree is as before, and whole rows are whole again where slices and files are.
use Rattle.std.proofs.Common.{◌≡◌, ℕ, List, Option, Some, Ok, refl, sym, subst, ◌∙◌}
use Rattle.std.specs.Prelude.{IsTrue}
use Rattle.jv_model.specs.declared.row.Row.TheVariants.{OfList}
use Rattle.jv_model.specs.declared.row.RowKey.{RowKey}
use Rattle.jv_model.specs.declared.slice.Rec.{Rec}
use Rattle.jv_model.specs.FiniteMap.{alter}
use Rattle.jv_model.specs.promise.rows.RowPlaces.{list_key}
use Rattle.jv_volume.specs.promise.TypedRows.{Cell, Rows}
use Rattle.jv_volume.specs.promise.TreeOf.{tree_of}
use Rattle.jv_volume.specs.promise.Stored.{Stored}
use Rattle.jv_volume.specs.promise.Shape.{WholeShape, shape_of}
use Rattle.jv_volume.specs.promise.Slices.{WholeSlices, WholeFiles}
use Rattle.jv_volume.specs.promise.Whole.{IsRowAt, Whole, no_bytes}
use Rattle.jv_volume.proofs.stored.TreeOfLaws.{is_unseen, unseen, tree_of-unseen}
use Rattle.jv_volume.proofs.stored.TableStepLaws.{stored-unseen}
use Rattle.jv_volume.proofs.maps.SeenLaws.{AreRows, row-put, rows-alter}

-- rows with the same tree
pub record Beside (rows after : Rows) : Type 0 where
  pub tree : (bytes : ℕ → ℕ → ℕ) → tree_of bytes after ≡ tree_of bytes rows
  pub stored : (bytes : ℕ → ℕ → ℕ) → Stored rows (tree_of bytes rows) → Stored after (tree_of bytes after)
  pub cells : AreRows rows → AreRows after

pub beside-none : (rows : Rows) → Beside rows rows
beside-none rows = record { tree = λ bytes. refl; stored = λ bytes s. s; cells = λ cells. cells }

pub beside-then : (rows middle after : Rows) → Beside rows middle → Beside middle after → Beside rows after
beside-then rows middle after p q = record {
  tree = λ bytes. q.tree bytes ∙ p.tree bytes;
  stored = λ bytes s. q.stored bytes (p.stored bytes s);
  cells = λ cells. q.cells (p.cells cells);
}

-- a row of the tables that a tree isn't made of
pub beside-alter : (rows : Rows) (key : RowKey) (cell : Option Cell) → IsTrue (is_unseen key.tab) → ((x : Cell) → cell ≡ Some x → IsRowAt key x)
    → Beside rows (alter rows key cell)
beside-alter rows key cell is row = record {
  tree = λ bytes. tree_of-unseen rows key cell bytes (unseen key is);
  stored = λ bytes s. stored-unseen bytes rows key cell is s;
  cells = λ cells. rows-alter rows key cell cells row;
}

-- a list's row may stand where it is put
pub list_is_row : (inode window : ℕ) (records : List Rec) (x : Cell) → Some (Ok (OfList records)) ≡ Some x → IsRowAt (list_key inode window) x
list_is_row inode window records x = row-put (list_key inode window) (Ok (OfList records)) x (record { key_is = refl; cell_is = refl; hour = refl })

-- rows that are a whole tree's, whatever their lists and slices
pub record IsFormed (rows : Rows) : Type 0 where
  pub cells : AreRows rows
  pub stored : Stored rows (tree_of no_bytes rows)
  pub tree : WholeShape (shape_of (tree_of no_bytes rows))

pub formed-beside : (rows after : Rows) → IsFormed rows → Beside rows after → IsFormed after
formed-beside rows after f b = record {
  cells = b.cells f.cells;
  stored = b.stored no_bytes f.stored;
  tree = subst (λ t. WholeShape (shape_of t)) (sym (b.tree no_bytes)) f.tree;
}

pub whole-formed : (rows : Rows) → IsFormed rows → WholeSlices rows → WholeFiles rows → Whole rows
whole-formed rows f slices files = record { cells = f.cells; stored = f.stored; tree = f.tree; slices = slices; files = files }
