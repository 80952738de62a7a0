use Rattle.std.proofs.Common.{◌≡◌, length, ◌-◌, ◌≤◌, take}
use Rattle.jv_outside.specs.promise.Stream.{Gains}
use Rattle.jv_outside.proofs.sink.write_whole.Given as goal

abbrev pub invariant-pieces : goal.invariant-pieces
invariant-pieces g l = record {
  within : l.at ≤ length l.bytes;
  gains : Gains (g.K.Sink.seen l.initial.sink).content (g.K.Sink.seen l.sink).content (take l.at l.bytes);
  calm : (g.K.Sink.seen l.sink).faults ≡ (g.K.Sink.seen l.initial.sink).faults;
}

abbrev pub decreases-pieces : goal.decreases-pieces
decreases-pieces g l = length l.bytes - l.at
