use Rattle.std.proofs.Common.{length}
use Rattle.jv_slices.proofs.layout.+show_records.Given as goal

abbrev pub decreases-show_records : goal.decreases-show_records
decreases-show_records l = length l.records.now
