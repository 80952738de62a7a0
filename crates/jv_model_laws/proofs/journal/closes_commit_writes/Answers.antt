use Rattle.jv_model_laws.proofs.JournalCloseLaws.{closes_commit}
use Rattle.jv_model_laws.proofs.journal.closes_commit_writes.Goals as goal

pub returns : goal.returns
returns c = closes_commit
