-- The rows of a volume that was just formatted, by their types and as a tree.
use Rattle.std.specs.Prelude.{◌≡◌, ℕ, [], Ok}
use Rattle.std.proofs.Common.{refl}
use Rattle.std.specs.Str.{is_utf8, chars}
use Rattle.jv_model.specs.declared.limits.TheConstants.{ROOT, TRASH_ROOT, FULL_MODE, READ_ONLY_MODE}
use Rattle.jv_model.specs.declared.row.Row.TheVariants.{OfSetting, OfCounters, OfNode}
use Rattle.jv_model.specs.promise.FiniteMap.{empty_map, get, insert}
use Rattle.jv_model.specs.promise.rows.RowGrammar.{setting_bytes, setting_of, counters_bytes, counters_of, node_bytes, node_of, row_of}
use Rattle.jv_model.specs.promise.rows.RowKeys.{RowMap}
use Rattle.jv_model.specs.rows.RowKeys.{row_map}
use Rattle.jv_model.specs.promise.rows.RowPlaces.{setting_key, counters_key, node_key}
use Rattle.jv_model.specs.tree.Tree.{fresh_tree}
use Rattle.jv_outside.specs.promise.Rows.{applied}
use Rattle.jv_volume.specs.promise.TypedRows.{Rows, typed}
use Rattle.jv_volume.specs.promise.TreeOf.{selected, nodes_of, entries_of_rows, sessions_of, sustained_of_rows, tree_of}
use Rattle.jv_volume.specs.promise.Whole.{no_bytes}
use Rattle.jv_volume.specs.promise.Fresh.{fresh_counters, fresh_directory}
use Rattle.jv_rows.specs.FreshRows.{default_setting}
use Rattle.jv_rows.specs.promise.FreshRows.{fresh_rows}

-- what the changes of a format leave where no row was
abbrev formatted : ℕ → RowMap
formatted now = applied (fresh_rows default_setting now) (row_map [])

abbrev by_types : ℕ → Rows
by_types now = insert (insert (insert (insert empty_map (node_key TRASH_ROOT) (Ok (OfNode (fresh_directory READ_ONLY_MODE now)))) (node_key ROOT)
    (Ok (OfNode (fresh_directory FULL_MODE now))))
    counters_key (Ok (OfCounters fresh_counters))) setting_key (Ok (OfSetting default_setting))

-- the four rows by their types
fresh_rows_typed : (typed (formatted 1700000000)).list ≡ (by_types 1700000000).list
unfolding is_utf8 chars lib.Utf8.encode typed insert row_of setting_bytes setting_of counters_bytes counters_of node_bytes node_of
fresh_rows_typed = refl

-- the tree of rows is that of a volume that was just formatted
fresh_rows_tree : tree_of no_bytes (typed (formatted 1700000000)) ≡ fresh_tree default_setting 1700000000
unfolding is_utf8 chars lib.Utf8.encode typed insert get row_of setting_bytes setting_of counters_bytes counters_of node_bytes node_of
    selected nodes_of entries_of_rows sessions_of sustained_of_rows tree_of
fresh_rows_tree = refl
