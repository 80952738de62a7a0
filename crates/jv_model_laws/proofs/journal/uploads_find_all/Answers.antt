use Rattle.jv_model_laws.proofs.JournalUploadLaws.{uploads_find}
use Rattle.jv_model_laws.proofs.journal.uploads_find_all.Goals as goal

pub returns : goal.returns
returns c = uploads_find
