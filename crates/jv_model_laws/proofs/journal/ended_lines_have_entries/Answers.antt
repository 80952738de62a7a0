use Rattle.jv_model_laws.proofs.JournalLineLaws.{ended_lines}
use Rattle.jv_model_laws.proofs.journal.ended_lines_have_entries.Goals as goal

pub returns : goal.returns
returns c = ended_lines
