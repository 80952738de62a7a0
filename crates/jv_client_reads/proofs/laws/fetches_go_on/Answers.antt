use Rattle.jv_client_reads.proofs.FetchLaws.{fetches_go_on as the_law}
use Rattle.jv_client_reads.proofs.laws.fetches_go_on.Goals as goal

pub returns : goal.returns
returns c = the_law
