use Rattle.std.proofs.Common.{◌≡◌, length}
use Rattle.jv_outside.specs.Stored.{stored}
use Rattle.jv_outside.proofs.store.RowStore.settle_listed.Given as goal

abbrev pub invariant-loop-key : goal.invariant-loop-key
invariant-loop-key l = stored l.self ≡ stored l.initial.self

abbrev pub decreases-loop-key : goal.decreases-loop-key
decreases-loop-key l = length l.self.listed.items
