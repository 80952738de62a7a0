use Rattle.jv_slices.proofs.NeedLaws.{needs_have_each_byte as the_law}
use Rattle.jv_slices.proofs.laws.needs_have_each_byte.Goals as goal

pub returns : goal.returns
returns c = the_law
