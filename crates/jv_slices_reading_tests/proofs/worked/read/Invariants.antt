use Rattle.std.proofs.Common.{length}
use Rattle.std.specs.Bool.{⊤}
use Rattle.jv_slices_reading_tests.proofs.worked.read.Given as goal

abbrev pub invariant-loop-block : goal.invariant-loop-block
invariant-loop-block l = ⊤

abbrev pub decreases-loop-block : goal.decreases-loop-block
decreases-loop-block l = length l.part.left
