use Rattle.std.proofs.Common.{length}
use Rattle.jv_slices.proofs.layout.+layout.Given as goal

abbrev pub decreases-layout : goal.decreases-layout
decreases-layout l = length l.records.now
