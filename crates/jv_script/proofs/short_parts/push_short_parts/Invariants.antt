use Rattle.std.proofs.Common.{length}
use Rattle.jv_script.specs.Reading.{Leaves}
use Rattle.jv_script.proofs.short_parts.push_short_parts.Given as goal
use Rattle.jv_model.specs.promise.Lists.{parted}

abbrev pub invariant-loop-byte : goal.invariant-loop-byte
invariant-loop-byte l = Leaves l.initial.bytes.items l.text l.bytes.items l.rest

abbrev pub decreases-loop-byte : goal.decreases-loop-byte
decreases-loop-byte l = length (parted 43 l.rest)
