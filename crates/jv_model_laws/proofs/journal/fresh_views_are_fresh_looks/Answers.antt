use Rattle.jv_model_laws.proofs.JournalLooksLaws.{fresh_views}
use Rattle.jv_model_laws.proofs.journal.fresh_views_are_fresh_looks.Goals as goal

pub returns : goal.returns
returns c = fresh_views
