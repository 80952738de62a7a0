use Rattle.jv_model_laws.proofs.JournalGrowthLaws.{journals_grow as the_law}
use Rattle.jv_model_laws.proofs.journal.journals_grow.Goals as goal

pub returns : goal.returns
returns c = the_law
