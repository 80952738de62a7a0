use Rattle.std.proofs.Common.{◌-◌, ◌^◌, length}
use Rattle.jv_tree.proofs.DirectoryLaws.{IsReadTo}
use Rattle.jv_tree.proofs.reading.entries_in.Given as goal

abbrev pub invariant-loop-last : goal.invariant-loop-last
invariant-loop-last g l = IsReadTo l.dir (g.K.Keeper.seen l.initial.k) (g.K.Keeper.seen l.k) l.last l.entries

abbrev pub decreases-loop-last : goal.decreases-loop-last
decreases-loop-last g l = 2 ^ 63 - length l.entries
