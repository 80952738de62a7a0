use Rattle.jv_model_laws.proofs.JournalCleaningLaws.{expires_gone}
use Rattle.jv_model_laws.proofs.journal.expires_only_gone.Goals as goal

pub returns : goal.returns
returns c = expires_gone
