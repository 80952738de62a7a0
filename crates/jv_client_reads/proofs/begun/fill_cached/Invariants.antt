use Rattle.std.proofs.Common.{length}
use Rattle.jv_client_reads.specs.Inside.{Fills}
use Rattle.jv_client_reads.proofs.begun.fill_cached.Given as goal

abbrev pub invariant-loop-block : goal.invariant-loop-block
invariant-loop-block l = Fills l.initial.cache l.cache l.initial.part l.part

abbrev pub decreases-loop-block : goal.decreases-loop-block
decreases-loop-block l = length l.part.left
