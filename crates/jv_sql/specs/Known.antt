-- What is known of a keeper's rows.
use Rattle.std.specs.Prelude.{Option, None, Some}
use Rattle.jv_model.specs.promise.rows.RowKeys.{RowMap}
use Rattle.jv_sql.specs.declared.sql_keeper.Place.{Place}
use Rattle.jv_sql.specs.declared.sql_keeper.Place.TheVariants.{Memory, File}

-- the rows in memory; nobody knows those of a file
abbrev pub known_rows : Place → Option RowMap
known_rows (Memory keeper) = Some keeper.rows
known_rows (File database) = None
