-- What a keeper's calls do to its rows.
use Rattle.std.specs.Prelude.{List, [], ◌∷◌}
use Rattle.jv_model.specs.promise.FiniteMap.{insert, remove}
use Rattle.jv_model.specs.promise.rows.RowKeys.{RowMap}
use Rattle.jv_outside.specs.declared.batch.Change.{Change}
use Rattle.jv_outside.specs.declared.batch.Change.TheVariants.{Put, Del}

-- the rows after a change
abbrev pub after_change : Change → RowMap → RowMap
after_change (Put key bytes) rows = insert rows key bytes
after_change (Del key) rows = remove rows key

-- the rows after changes, one after another
abbrev pub applied : List Change → RowMap → RowMap
applied [] rows = rows
applied (first ∷ rest) rows = applied rest (after_change first rows)
