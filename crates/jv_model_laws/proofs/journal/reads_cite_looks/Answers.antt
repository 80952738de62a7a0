use Rattle.jv_model_laws.proofs.JournalReadLaws.{reads_cite}
use Rattle.jv_model_laws.proofs.journal.reads_cite_looks.Goals as goal

pub returns : goal.returns
returns c = reads_cite
