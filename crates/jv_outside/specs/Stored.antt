-- What contracts see of rows in memory.
use Rattle.std.specs.Prelude.{◌≡◌, [], ◌++◌, if◌then◌else◌, Option, None, Some}
use Rattle.std.specs.declared.ops.Bound.{Bound}
use Rattle.std.specs.declared.ops.Bound.TheVariants.{Included, Excluded}
use Rattle.std.specs.Ordering.{is_le}
use Rattle.jv_model.specs.declared.row.RowKey.{RowKey}
use Rattle.jv_model.specs.promise.rows.RowKeys.{RowMap, row_cmp}
use Rattle.jv_model.specs.rows.RowKeys.{row_map}
use Rattle.jv_outside.specs.declared.store.RowStore.{RowStore}
use Rattle.jv_outside.specs.LazyTrees.{entries_in}
use Rattle.jv_outside.specs.promise.Rows.{applied}

-- the rows: those in the tree, before them those that aren't there yet, and on both the changes
-- that wait
abbrev pub stored : RowStore → RowMap
stored store = applied store.waiting.items (row_map (store.listed.items ++ entries_in store.tree))

-- all rows are in the tree, and no change waits
pub record IsSettled (store : RowStore) : Type 0 where
  pub listed : store.listed.items ≡ []
  pub waiting : store.waiting.items ≡ []

-- where a scan of a table begins: at its least key, or after a key that isn't before that
abbrev pub scan_start : RowKey → Option RowKey → Bound RowKey
scan_start first None = Included first
scan_start first (Some last) =
    (if is_le (row_cmp first last) then Excluded last else Included first)
