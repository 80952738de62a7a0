use Rattle.std.proofs.Common.{◌+◌, length}
use Rattle.std.specs.Ordering.{nat_cmp}
use Rattle.std.specs.BTreeMap.{get}
use Rattle.jv_rows.proofs.counts.AdjustLaws.{IsAdjusting}
use Rattle.jv_rows.proofs.adjusting.adjust.Given as goal

abbrev pub invariant-loop-id : goal.invariant-loop-id
invariant-loop-id g l =
    IsAdjusting l.gone l.added l.due (get nat_cmp l.fewer) (get nat_cmp l.more) (g.K.Keeper.seen l.fn.k) (g.K.Keeper.seen l.k) l.fn.draft l.draft

abbrev pub decreases-loop-id : goal.decreases-loop-id
decreases-loop-id g l = length l.fewer.entries + length l.more.entries
