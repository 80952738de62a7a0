use Rattle.jv_model_laws.proofs.JournalOwedLaws.{drained}
use Rattle.jv_model_laws.proofs.journal.drains_settle_all.Goals as goal

pub returns : goal.returns
returns c = drained
