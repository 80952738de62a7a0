use Rattle.jv_yard.proofs.LaterLaws.{Later-refl}
use Rattle.jv_yard.proofs.laws.later_is_reflexive.Goals as goal

pub returns : goal.returns
returns c = Later-refl
