use Rattle.std.proofs.Common.{◌≡◌, ◌++◌, drop, filter}
use Rattle.jv_slices.specs.Stretches.{touches}
use Rattle.jv_slices.proofs.layout.touching.Given as goal

abbrev pub invariant-loop-record : goal.invariant-loop-record
invariant-loop-record l = record {
  left : filter (touches l.from l.to) l.records ≡ l.near.items ++ filter (touches l.from l.to) (drop l.record-index l.records);
}
