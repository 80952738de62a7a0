use Rattle.jv_model_laws.proofs.JournalLineLaws.{lines_have_entries as the_law}
use Rattle.jv_model_laws.proofs.journal.lines_have_entries.Goals as goal

pub returns : goal.returns
returns c = the_law
