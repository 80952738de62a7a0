-- What is known of an operation by its form alone, as contracts and laws cite it.
use Rattle.std.specs.Prelude.{Bool, true, false}
use Rattle.jv_model.specs.declared.op.Op.{Op}
use Rattle.jv_model.specs.declared.op.Op.TheVariants as op

abbrev pub is_read : Op → Bool
is_read (op.Read handle offset len) = true
is_read _ = false
