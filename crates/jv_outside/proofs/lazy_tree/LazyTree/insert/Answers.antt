use Rattle.jv_outside.proofs.LazyTreeLaws.{alters-recent}
use Rattle.jv_outside.proofs.lazy_tree.LazyTree.insert.Goals as goal

pub returns-in-Ok-clause-ok : goal.returns-in-Ok-clause-ok
returns-in-Ok-clause-ok g c = alters-recent g.K.Ord.cmp g.K.PartialEq.eq g.met.K.Ord.matches_eq _ _ _ _ _ c.in-Ok.ensures.updates.0
