use Rattle.jv_model_laws.proofs.JournalClockLaws.{moments_known}
use Rattle.jv_model_laws.proofs.journal.moments_are_the_clocks.Goals as goal

pub returns : goal.returns
returns c = moments_known
