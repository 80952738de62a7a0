use Rattle.jv_model_laws.proofs.JournalGrowthLaws.{counted}
use Rattle.jv_model_laws.proofs.journal.entries_are_counted.Goals as goal

pub returns : goal.returns
returns c = counted
