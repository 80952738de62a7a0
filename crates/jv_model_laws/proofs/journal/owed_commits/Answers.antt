use Rattle.jv_model_laws.proofs.JournalOwedLaws.{owed_commits as the_law}
use Rattle.jv_model_laws.proofs.journal.owed_commits.Goals as goal

pub returns : goal.returns
returns c = the_law
