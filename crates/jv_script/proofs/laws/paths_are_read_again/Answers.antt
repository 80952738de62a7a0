use Rattle.jv_script.proofs.RoundTripLaws.{paths_read_again}
use Rattle.jv_script.proofs.laws.paths_are_read_again.Goals as goal

pub returns : goal.returns
returns c = paths_read_again
