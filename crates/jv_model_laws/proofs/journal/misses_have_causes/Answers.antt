use Rattle.jv_model_laws.proofs.misses.MissLaws.{misses_caused}
use Rattle.jv_model_laws.proofs.journal.misses_have_causes.Goals as goal

pub returns : goal.returns
returns c = misses_caused
