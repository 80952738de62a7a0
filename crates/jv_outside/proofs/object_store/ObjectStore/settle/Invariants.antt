use Rattle.std.proofs.Common.{◌≡◌, length}
use Rattle.jv_outside.specs.StoredObjects.{objects_in}
use Rattle.jv_outside.proofs.object_store.ObjectStore.settle.Given as goal

abbrev pub invariant-loop-object : goal.invariant-loop-object
invariant-loop-object l = objects_in l.self ≡ objects_in l.initial.self

abbrev pub decreases-loop-object : goal.decreases-loop-object
decreases-loop-object l = length l.self.listed.items
