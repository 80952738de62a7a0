use Rattle.std.proofs.Common.{◌≤◌, ◌-◌, length}
use Rattle.jv_script.specs.Printing.{HasNoLongBefore}
use Rattle.jv_script.proofs.repeats.plain_length.Given as goal

abbrev pub invariant-loop-end : goal.invariant-loop-end
invariant-loop-end l = record { within : l.end ≤ length l.bytes; plain : HasNoLongBefore l.end l.bytes }

abbrev pub decreases-loop-end : goal.decreases-loop-end
decreases-loop-end l = length l.bytes - l.end
