use Rattle.std.proofs.Common.{length}
use Rattle.jv_pending.proofs.write.+write_from.Given as goal

abbrev pub decreases-write_from : goal.decreases-write_from
decreases-write_from l = length l.bytes.now
