-- The lines that a session runs today: eight clients, step by step, with all operations on metadata
-- and on the bytes of files, in direct mode.
use Rattle.std.specs.Prelude.{Bool, true, false, ◌||◌, not, nat_le, length}
use Rattle.jv_model.specs.declared.limits.TheConstants.{MAX_DATA}
use Rattle.jv_model.specs.declared.basics.Limits.{Limits}
use Rattle.jv_model.specs.declared.op.Op.{Op}
use Rattle.jv_model.specs.declared.op.Op.TheVariants as op
use Rattle.jv_model.specs.declared.op.Line.{Line}
use Rattle.jv_model.specs.declared.op.Line.TheVariants.{Empty, Do, Begin, Step, Run, Crash, Drain, Tick}
use Rattle.jv_model.specs.promise.script.Spelled.{is_spelled}

-- The operations that are built: a mount that isn't in writeback mode, and what neither compacts,
-- cleans, collects nor uploads. What a line writes is as a line can spell it, and what it reads or
-- writes of a file has as many bytes as a line may.
abbrev pub is_built_op : Limits → Op → Bool
is_built_op limits (op.Mount writeback) = not (writeback || limits.writeback)
is_built_op limits (op.Compact path window) = false
is_built_op limits op.Clean = false
is_built_op limits (op.Gc delete) = false
is_built_op limits op.Upload = false
is_built_op limits (op.Read handle offset len) = nat_le len MAX_DATA
is_built_op limits (op.Write handle offset bytes) = nat_le (length bytes) MAX_DATA
is_built_op limits o = is_spelled o

-- whether a line is built
abbrev pub is_built_line : Limits → Line → Bool
is_built_line limits Empty = true
is_built_line limits (Do client o) = is_built_op limits o
is_built_line limits (Begin client o) = is_built_op limits o
is_built_line limits (Step client) = true
is_built_line limits (Run client) = true
is_built_line limits (Crash client) = true
is_built_line limits (Drain client) = false
is_built_line limits (Tick by) = true
