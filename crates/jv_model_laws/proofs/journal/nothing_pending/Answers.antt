use Rattle.jv_model_laws.proofs.JournalDoingLaws.{nothing_pending as the_law}
use Rattle.jv_model_laws.proofs.journal.nothing_pending.Goals as goal

pub returns : goal.returns
returns c = the_law
