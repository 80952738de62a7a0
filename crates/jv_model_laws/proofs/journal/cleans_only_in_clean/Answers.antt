use Rattle.jv_model_laws.proofs.JournalStageLaws.{clean_only}
use Rattle.jv_model_laws.proofs.journal.cleans_only_in_clean.Goals as goal

pub returns : goal.returns
returns c = clean_only
