use Rattle.jv_slices.proofs.NeedLaws.{needs_are_those as the_law}
use Rattle.jv_slices.proofs.laws.needs_are_those.Goals as goal

pub returns : goal.returns
returns c = the_law
