use Rattle.jv_script.proofs.DataRoundTripLaws.{data_read_again}
use Rattle.jv_script.proofs.laws.data_is_read_again.Goals as goal

pub returns : goal.returns
returns c = data_read_again
