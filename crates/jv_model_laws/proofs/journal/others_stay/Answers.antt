use Rattle.jv_model_laws.proofs.JournalGrowthLaws.{others_kept}
use Rattle.jv_model_laws.proofs.journal.others_stay.Goals as goal

pub returns : goal.returns
returns c = others_kept
