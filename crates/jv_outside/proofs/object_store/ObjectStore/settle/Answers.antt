-- An object that is brought into the tree stays what the depot has at its name.
use Rattle.std.proofs.Common.{sym, ap, ◌∙◌}
use Rattle.jv_model.specs.promise.FiniteMap.{map_of, text_key}
use Rattle.jv_outside.specs.LazyTrees.{entries_in}
use Rattle.jv_outside.specs.Objects.{name_of, value_of}
use Rattle.jv_outside.specs.Overlaid.{overlaid}
use Rattle.jv_outside.proofs.OverlaidLaws.{overlaid-moved}
use Rattle.jv_outside.proofs.object_store.ObjectStore.settle.Goals as goal

pub loop-object-preserved : goal.loop-object-preserved
loop-object-preserved c =
    overlaid-moved text_key name_of value_of _ _ _ _ c.in_default-insert.ensures.ok
    ∙ ap (λ objects. overlaid name_of value_of objects (map_of (entries_in c.loop-object.self.tree))) (sym c.in-Some.ensures.items)
    ∙ c.loop-object.invariant
