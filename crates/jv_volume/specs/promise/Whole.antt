-- When a volume's rows are whole: they are those of their tree, which is whole, and so are lists,
-- slices and files.
use Rattle.std.specs.Prelude.{◌≡◌, ℕ, Bool, true, ◌&&◌, ◌==◌, if◌then◌else◌, Option, None, Some, IsTrue}
use Rattle.jv_model.specs.declared.limits.TheConstants.{READ_ONLY_MODE}
use Rattle.jv_model.specs.declared.row.Node.{Node}
use Rattle.jv_model.specs.declared.row.RowKey.{RowKey}
use Rattle.jv_model.specs.declared.tables.TheConstants.{TABLE_OF_NODES}
use Rattle.jv_model.specs.promise.FiniteMap.{get}
use Rattle.jv_volume.specs.promise.TypedRows.{Cell, Rows, is_key, is_typed}
use Rattle.jv_volume.specs.promise.Views.{row_in, node_in}
use Rattle.jv_volume.specs.promise.TreeOf.{tree_of}
use Rattle.jv_volume.specs.promise.Shape.{WholeShape, shape_of, is_hour}
use Rattle.jv_volume.specs.promise.Stored.{Stored}
use Rattle.jv_volume.specs.promise.Slices.{WholeSlices, WholeFiles}

-- whether a directory with this row is root's, and nobody may write in it
abbrev pub is_read_only : Node → Bool
is_read_only row = row.mode == READ_ONLY_MODE && row.uid == 0 && row.gid == 0

-- the same of the node that stands somewhere, if one does
abbrev pub is_read_only_in : Option Node → Bool
is_read_only_in None = true
is_read_only_in (Some row) = is_read_only row

-- The directory of an hour is root's, and nobody may write in it. Nothing is asked of other rows.
abbrev pub is_read_only_if_hour : RowKey → Cell → Bool
is_read_only_if_hour key cell =
    (if key.tab == TABLE_OF_NODES && is_hour key.a
    then is_read_only_in (node_in (row_in (Some cell))) else true)

-- what stands somewhere is a row, at a key of its table, and read-only if it's an hour's
pub record IsRowAt (key : RowKey) (cell : Cell) : Type 0 where
  pub key_is : IsTrue (is_key key)
  pub cell_is : IsTrue (is_typed cell)
  pub hour : IsTrue (is_read_only_if_hour key cell)

-- No bytes of files are asked for: neither shape nor counts see them.
abbrev pub no_bytes : ℕ → ℕ → ℕ
no_bytes inode position = 0

pub record Whole (rows : Rows) : Type 0 where
  pub cells : (key : RowKey) (cell : Cell) → get rows key ≡ Some cell → IsRowAt key cell
  pub stored : Stored rows (tree_of no_bytes rows)
  pub tree : WholeShape (shape_of (tree_of no_bytes rows))
  pub slices : WholeSlices rows
  pub files : WholeFiles rows
