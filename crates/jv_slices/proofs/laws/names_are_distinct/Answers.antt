use Rattle.jv_slices.proofs.NameLaws.{names_are_distinct as the_law}
use Rattle.jv_slices.proofs.laws.names_are_distinct.Goals as goal

pub returns : goal.returns
returns c = the_law
