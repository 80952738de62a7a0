use Rattle.std.proofs.Common.{◌≡◌, [], length}
use Rattle.jv_outside.specs.Stored.{stored}
use Rattle.jv_outside.proofs.store.RowStore.make_waiting.Given as goal

abbrev pub invariant-loop-change : goal.invariant-loop-change
invariant-loop-change l = record {
  listed : l.self.listed.items ≡ [];
  same : stored l.self ≡ stored l.initial.self;
}

abbrev pub decreases-loop-change : goal.decreases-loop-change
decreases-loop-change l = length l.self.waiting.items
