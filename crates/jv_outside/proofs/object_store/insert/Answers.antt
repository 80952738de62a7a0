use Rattle.jv_model.specs.promise.FiniteMap.{text_key}
use Rattle.jv_outside.proofs.StoredLaws.{map_of-updated}
use Rattle.jv_outside.proofs.object_store.insert.Goals as goal

pub returns-in-Ok-clause-ok : goal.returns-in-Ok-clause-ok
returns-in-Ok-clause-ok c = map_of-updated text_key _ _ _ _ c.in-Ok.ensures.ok
