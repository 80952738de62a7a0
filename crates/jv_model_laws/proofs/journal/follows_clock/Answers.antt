use Rattle.jv_model_laws.proofs.JournalGrowthLaws.{clock_followed}
use Rattle.jv_model_laws.proofs.journal.follows_clock.Goals as goal

pub returns : goal.returns
returns c = clock_followed
