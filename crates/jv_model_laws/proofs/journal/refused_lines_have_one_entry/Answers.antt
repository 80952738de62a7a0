use Rattle.jv_model_laws.proofs.JournalLineLaws.{refused_once}
use Rattle.jv_model_laws.proofs.journal.refused_lines_have_one_entry.Goals as goal

pub returns : goal.returns
returns c = refused_once
