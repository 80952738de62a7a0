use Rattle.jv_slices_reading.proofs.PartLaws.{reads_go_on as the_law}
use Rattle.jv_slices_reading.proofs.laws.reads_go_on.Goals as goal

pub returns : goal.returns
returns c = the_law
