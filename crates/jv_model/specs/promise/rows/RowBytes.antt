-- The bytes of a row, however they are held.
use Rattle.std.specs.Prelude.{ℕ, ◌*◌, List, ◌++◌, min, take, vec_items}
use Rattle.std.specs.Arc.{arc_value}
use Rattle.jv_model.specs.declared.tables.TheConstants.{RECORD_LENGTH}
use Rattle.jv_model.specs.declared.row_bytes.Held.{Held}
use Rattle.jv_model.specs.declared.row_bytes.Held.TheVariants as held

-- those of a short row are the first of an array, at most as many as two records have
abbrev pub held_bytes : Held → List ℕ
held_bytes (held.Short count short) = take (min (2 * RECORD_LENGTH) count) short
held_bytes (held.Shared shared) = shared
held_bytes (held.List front back) = front ++ vec_items (arc_value back)
