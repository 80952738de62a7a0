use Rattle.jv_yard.proofs.LaterLaws.{Later-trans}
use Rattle.jv_yard.proofs.laws.later_is_transitive.Goals as goal

pub returns : goal.returns
returns c = Later-trans
