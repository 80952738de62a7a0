-- What only inner contracts cite: of `promise/Whole`.
use Rattle.std.specs.Prelude.{◌≡◌, ℕ, Bool, ◌||◌, ◌==◌, if◌then◌else◌, Option, None, Some, Ok, IsTrue}
use Rattle.jv_model.specs.declared.row.Node.{Node}
use Rattle.jv_model.specs.declared.row.Row.TheVariants.{OfDropped}
use Rattle.jv_model.specs.declared.row.RowKey.{RowKey}
use Rattle.jv_model.specs.declared.tables.TheConstants.{TABLE_OF_LISTS, TABLE_OF_SLICES, TABLE_OF_DEAD}
use Rattle.jv_model.specs.promise.FiniteMap.{get}
use Rattle.jv_model.specs.promise.rows.RowPlaces.{dropped_key}
use Rattle.jv_volume.specs.promise.TypedRows.{Cell, Rows}
use Rattle.jv_volume.specs.promise.Views.{node_row_at}
use Rattle.jv_volume.specs.promise.Slices.{next_slice}

-- the tables of lists, slices and dead slices
abbrev pub is_of_slices : ℕ → Bool
is_of_slices tab = (tab == TABLE_OF_LISTS) || (tab == TABLE_OF_SLICES) || (tab == TABLE_OF_DEAD)

-- lists, slices and dead slices stay as they are
abbrev pub SlicesStay : Rows → Rows → Type 0
SlicesStay rows after =
    (key : RowKey) → IsTrue (is_of_slices key.tab) → get after key ≡ get rows key

-- the length of the file that a node is, if it is one
abbrev pub file_length : Option Node → Option ℕ
file_length None = None
file_length (Some row) = (if row.kind == 1 then Some row.length else None)

-- What is left at the key of a dropped row: where a file's node went, its length. No other node
-- leaves anything, nor does one that is still there.
abbrev pub with_length : Option ℕ → Option Cell → Option Cell
with_length None cell = cell
with_length (Some length) cell = Some (Ok (OfDropped (record { length = length })))

abbrev pub left_by : Option Node → Option Node → Option Cell → Option Cell
left_by was (Some row) cell = cell
left_by was None cell = with_length (file_length was) cell

-- There are dropped rows of the files that went, with their lengths, and the others are as before.
abbrev pub FilesDrop : Rows → Rows → Type 0
FilesDrop rows after = (inode : ℕ) → get after (dropped_key inode)
    ≡ left_by (node_row_at rows inode) (node_row_at after inode) (get rows (dropped_key inode))

-- What a transaction on metadata does to rows that the tree doesn't see: lists, slices and the next
-- slice stay, and dropped rows come for just the files that it takes away.
pub record Quiet (rows after : Rows) : Type 0 where
  pub apart : SlicesStay rows after
  pub next : next_slice after ≡ next_slice rows
  pub dropped : FilesDrop rows after
