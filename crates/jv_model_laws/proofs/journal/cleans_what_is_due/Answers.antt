use Rattle.jv_model_laws.proofs.JournalDueLaws.{cleans_due}
use Rattle.jv_model_laws.proofs.journal.cleans_what_is_due.Goals as goal

pub returns : goal.returns
returns c = cleans_due
