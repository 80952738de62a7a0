use Rattle.jv_slices.proofs.PlanFormLaws.{plans_are_determined as the_law}
use Rattle.jv_slices.proofs.laws.plans_are_determined.Goals as goal

pub returns : goal.returns
returns c = the_law
