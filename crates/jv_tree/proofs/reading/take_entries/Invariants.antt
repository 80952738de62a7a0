use Rattle.std.proofs.Common.{length}
use Rattle.jv_tree.proofs.DirectoryLaws.{IsTakenSoFar}
use Rattle.jv_tree.proofs.reading.take_entries.Given as goal

abbrev pub invariant-loop-key : goal.invariant-loop-key
invariant-loop-key l = IsTakenSoFar l.fn.dir l.fn.page (length l.yielded) l.initial.entries l.entries
