use Rattle.jv_slices.proofs.NeedLaws.{indexes_are_low as the_law}
use Rattle.jv_slices.proofs.laws.indexes_are_low.Goals as goal

pub returns : goal.returns
returns c = the_law
