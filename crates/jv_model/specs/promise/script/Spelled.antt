-- What a line of a script can spell of the values that operations write.
use Rattle.std.specs.Prelude.{Bool, true, ◌&&◌, nat_lt, nat_le, length}
use Rattle.jv_model.specs.declared.limits.TheConstants.{MAX_MODE}
use Rattle.jv_model.specs.declared.op.Op.{Op}
use Rattle.jv_model.specs.declared.op.Op.TheVariants as op
use Rattle.jv_model.specs.promise.Lists.{has_no_zero}

-- Paths and targets that are written have no byte 0, permission bits are four octal digits, and a
-- target has at least one byte.
abbrev pub is_spelled : Op → Bool
is_spelled (op.Mkdir path mode) = has_no_zero path && nat_le mode MAX_MODE
is_spelled (op.Create path mode) = has_no_zero path && nat_le mode MAX_MODE
is_spelled (op.Chmod path mode) = nat_le mode MAX_MODE
is_spelled (op.Symlink target path) =
    has_no_zero target && nat_lt 0 (length target) && has_no_zero path
is_spelled (op.Link path to) = has_no_zero to
is_spelled (op.Rename path to how) = has_no_zero to
is_spelled _ = true
