use Rattle.jv_model_laws.proofs.JournalAnswerLaws.{answers_model as the_law}
use Rattle.jv_model_laws.proofs.journal.answers_model.Goals as goal

pub returns : goal.returns
returns c = the_law
