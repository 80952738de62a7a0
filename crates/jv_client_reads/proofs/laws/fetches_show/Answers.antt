use Rattle.jv_client_reads.proofs.SameLaws.{fetches_show as the_law}
use Rattle.jv_client_reads.proofs.laws.fetches_show.Goals as goal

pub returns : goal.returns
returns c = the_law
