use Rattle.jv_script.proofs.RoundTripLaws.{names_read_again}
use Rattle.jv_script.proofs.laws.names_are_read_again.Goals as goal

pub returns : goal.returns
returns c = names_read_again
