use Rattle.jv_data.proofs.truncates.TruncateLaws.{IsChecking}
use Rattle.jv_data.proofs.truncating.check_slices.Given as goal

abbrev pub invariant-loop-record : goal.invariant-loop-record
invariant-loop-record g l = IsChecking l.list (g.K.Keeper.seen l.fn.k) (g.K.Keeper.seen l.k) l.record-index
