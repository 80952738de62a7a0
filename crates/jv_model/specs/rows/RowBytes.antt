-- What only inner contracts cite: of `promise/rows/RowBytes`.
use Rattle.std.specs.Prelude.{◌++◌, vec_items}
use Rattle.std.specs.Option.{IsSome}
use Rattle.std.specs.Arc.{arc_value}
use Rattle.jv_model.specs.declared.row_bytes.Held.{Held}
use Rattle.jv_model.specs.declared.row_bytes.Held.TheVariants as held
use Rattle.jv_model.specs.promise.rows.RowGrammar.{list_of}

-- bytes that are held as a list of records spell one
abbrev pub KnowsLists : Held → Type 0
KnowsLists (held.Short count short) = Unit {0}
KnowsLists (held.Shared shared) = Unit {0}
KnowsLists (held.List front back) = IsSome (list_of (front ++ vec_items (arc_value back)))
