-- An object that is taken out of the tree is gone from the objects.
use Rattle.std.proofs.Common.{None, ap, sym, ◌∙◌}
use Rattle.jv_model.specs.promise.FiniteMap.{map_of, remove, text_key}
use Rattle.jv_outside.specs.LazyTrees.{entries_in}
use Rattle.jv_outside.specs.Objects.{name_of, value_of}
use Rattle.jv_outside.specs.Overlaid.{overlaid}
use Rattle.jv_outside.proofs.OverlaidLaws.{objects-settled}
use Rattle.jv_outside.proofs.StoredLaws.{map_of-updated}
use Rattle.jv_outside.proofs.object_store.ObjectStore.remove.Goals as goal

pub returns-clause-ok : goal.returns-clause-ok
returns-clause-ok c =
    ap (λ objects. overlaid name_of value_of objects (map_of {order = text_key} (entries_in c.remove.new.self))) c.in_ok-settle.ensures.settled
    ∙ map_of-updated text_key _ _ _ None c.remove.ensures
    ∙ ap (λ m. remove m c.args.name.now) (sym (objects-settled c.settle.new.self c.in_ok-settle.ensures.settled) ∙ c.in_ok-settle.ensures.same)
