use Rattle.std.specs.Prelude.{All}
use Rattle.jv_model.specs.promise.blocks.Slices.{IsRecord}
use Rattle.bench_measure.proofs.plans.records.Given as goal

abbrev pub invariant-loop-number : goal.invariant-loop-number
invariant-loop-number l = All IsRecord l.records.items
