-- What only inner contracts cite: of `promise/Rows`.
use Rattle.std.specs.Prelude.{ℕ, ◌==◌, ◌&&◌, List, filter, take, Bool, Option, None, Some}
use Rattle.std.specs.Ordering.{is_lt}
use Rattle.jv_model.specs.declared.row.RowKey.{RowKey}
use Rattle.jv_model.specs.promise.rows.RowKeys.{row_cmp, RowMap}

-- whether a key is of a table, and after another key where there is one
abbrev pub is_after : ℕ → Option RowKey → RowKey → Bool
is_after tab None key = key.tab == tab
is_after tab (Some last) key = key.tab == tab && is_lt (row_cmp last key)

-- the first `count` rows of a table after a key, or from the table's first on, in the order of
-- their keys
abbrev pub rows_after : RowMap → ℕ → Option RowKey → ℕ → List (RowKey × List ℕ)
rows_after rows tab last count = take count (filter (λ row. is_after tab last row.0) rows.list)
