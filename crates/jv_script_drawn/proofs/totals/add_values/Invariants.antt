use Rattle.std.proofs.Common.{◌≡◌, sum, take}
use Rattle.jv_script_drawn.specs.promise.Summary.{added}
use Rattle.jv_script_drawn.proofs.totals.add_values.Given as goal

abbrev pub invariant-loop-byte : goal.invariant-loop-byte
invariant-loop-byte l = l.total ≡ added l.before (sum (take l.byte-index l.bytes))
