use Rattle.jv_model_laws.proofs.JournalGrowthLaws.{earlier_text}
use Rattle.jv_model_laws.proofs.journal.earlier_text_stays.Goals as goal

pub returns : goal.returns
returns c = earlier_text
