use Rattle.jv_script.proofs.RoundTripLaws.{targets_read_again}
use Rattle.jv_script.proofs.laws.targets_are_read_again.Goals as goal

pub returns : goal.returns
returns c = targets_read_again
