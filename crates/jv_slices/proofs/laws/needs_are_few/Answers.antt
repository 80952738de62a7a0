use Rattle.jv_slices.proofs.NeedLaws.{needs_are_few as the_law}
use Rattle.jv_slices.proofs.laws.needs_are_few.Goals as goal

pub returns : goal.returns
returns c = the_law
