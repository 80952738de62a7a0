-- What a transaction on a volume's rows does, by the tree that they have.
use Rattle.std.specs.Prelude.{◌≡◌, ℕ, Bool, false, ◌&&◌, not, ◌==◌, List, [], ◌∷◌, None, Some, Ok, Err, IsTrue}
use Rattle.std.specs.List.{list_any}
use Rattle.std.specs.Int.{w64, from_be_bytes}
use Rattle.jv_model.specs.declared.limits.TheConstants.{ROOT, TRASH_ROOT}
use Rattle.jv_model.specs.declared.row.Row.{Row}
use Rattle.jv_model.specs.declared.row.Row.TheVariants.{OfNode, OfEdge, OfList, OfSustained}
use Rattle.jv_model.specs.declared.row.RowKey.{RowKey}
use Rattle.jv_model.specs.promise.FiniteMap.{get}
use Rattle.jv_model.specs.promise.rows.RowGrammar.{row_bytes}
use Rattle.jv_model.specs.promise.rows.RowKeys.{is_key_of}
use Rattle.jv_model.specs.promise.rows.RowPlaces.{setting_key, counters_key, node_key, slice_key}
use Rattle.jv_volume.specs.promise.TypedRows.{Rows}

-- Whether a row names another: an entry its node, a directory its parent, a list its slices, and a
-- session's file, which its key spells, its node.
abbrev pub names_row : RowKey → Row → RowKey → Bool
names_row at (OfEdge edge) key = is_key_of (node_key edge.inode) key
names_row at (OfNode node) key = (node.kind == 2) && is_key_of (node_key node.parent) key
names_row at (OfList records) key =
    list_any (λ r. not (r.id == 0) && is_key_of (slice_key r.id) key) records
names_row at OfSustained key = is_key_of (node_key (from_be_bytes w64 at.b)) key
names_row at _ key = false

-- the rows that each volume has
abbrev pub is_needed : RowKey → Bool
is_needed key =
    list_any (is_key_of key) (setting_key ∷ counters_key ∷ node_key ROOT ∷ node_key TRASH_ROOT ∷ [])

-- Why a row is Bad: its bytes are malformed, it names a node or a slice that isn't there, or it is
-- absent where each volume has one, and then without bytes.
pub data IsBad (rows : Rows) (at : RowKey) (bytes : List ℕ) : Type 0 where
  Malformed : get rows at ≡ Some (Err bytes) → IsBad rows at bytes
  NamesNone : (row : Row) → (key : RowKey) → get rows at ≡ Some (Ok row) → bytes ≡ row_bytes row
      → IsTrue (names_row at row key)
      → get rows key ≡ None → IsBad rows at bytes
  Lacks : IsTrue (is_needed at) → get rows at ≡ None → bytes ≡ [] → IsBad rows at bytes
