use Rattle.jv_outside.proofs.LazyTreeLaws.{alters-both}
use Rattle.jv_outside.proofs.lazy_tree.LazyTree.remove.Goals as goal

pub returns : goal.returns
returns g c = alters-both g.K.Ord.cmp g.K.PartialEq.eq g.met.K.Ord.matches_eq _ _ _ _ _ c.swap_remove.ensures.updates.0 c.remove.ensures.updates.0
