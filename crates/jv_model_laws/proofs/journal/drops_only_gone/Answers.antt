use Rattle.jv_model_laws.proofs.JournalCleaningLaws.{drops_gone}
use Rattle.jv_model_laws.proofs.journal.drops_only_gone.Goals as goal

pub returns : goal.returns
returns c = drops_gone
