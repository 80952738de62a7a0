use Rattle.jv_model_laws.proofs.JournalOwedLaws.{settles_owed as the_law}
use Rattle.jv_model_laws.proofs.journal.settles_owed.Goals as goal

pub returns : goal.returns
returns c = the_law
