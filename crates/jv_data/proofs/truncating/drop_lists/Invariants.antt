use Rattle.jv_data.proofs.truncates.TruncateLaws.{IsDropping, windows_left}
use Rattle.jv_data.proofs.truncating.drop_lists.Given as goal

abbrev pub invariant-loop-gone : goal.invariant-loop-gone
invariant-loop-gone g l = IsDropping l.inode l.fn.start l.last (g.K.Keeper.seen l.fn.k) (g.K.Keeper.seen l.k) l.fn.draft l.draft l.gone.items

abbrev pub decreases-loop-gone : goal.decreases-loop-gone
decreases-loop-gone g l = windows_left l.last
