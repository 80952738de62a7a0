-- What was inserted last stands first.
use Rattle.std.proofs.Common.{sym, ◌∙◌}
use Rattle.jv_outside.proofs.LazyTreeLaws.{found-recent, found-sorted}
use Rattle.jv_outside.proofs.lazy_tree.LazyTree.get.Goals as goal

pub returns-in-Some : goal.returns-in-Some
returns-in-Some g c = sym (found-recent g.K.Ord.cmp g.K.PartialEq.eq g.met.K.Ord.matches_eq _ _ _ _ (sym c.in-Some.ensures.value))

pub returns-in-None : goal.returns-in-None
returns-in-None g c = c.get-in-None.ensures.value ∙ sym (found-sorted g.K.Ord.cmp g.K.PartialEq.eq g.met.K.Ord.matches_eq _ _ _ (sym c.in-None.ensures.value))
