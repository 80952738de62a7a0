use Rattle.std.proofs.Common.{◌≡◌, ◌++◌, drop}
use Rattle.jv_rows.proofs.walking.append.Given as goal

abbrev pub invariant-loop-index : goal.invariant-loop-index
invariant-loop-index l = l.all ++ drop l.index l.names ≡ l.fn.all ++ drop l.behind l.names
