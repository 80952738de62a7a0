use Rattle.jv_model_laws.proofs.JournalReadLaws.{reads_seen}
use Rattle.jv_model_laws.proofs.journal.reads_are_of_fresh_looks.Goals as goal

pub returns : goal.returns
returns c = reads_seen
