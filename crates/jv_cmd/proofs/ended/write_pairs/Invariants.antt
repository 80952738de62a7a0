use Rattle.std.proofs.Common.{take}
use Rattle.std.specs.List.{flat_map}
use Rattle.jv_model.specs.promise.script.Printed.{hex_pair}
use Rattle.jv_outside.specs.promise.Stream.{HasAll}
use Rattle.jv_cmd.proofs.ended.write_pairs.Given as goal

-- the pairs of the bytes so far are written
abbrev pub invariant-loop-byte : goal.invariant-loop-byte
invariant-loop-byte g l = HasAll (g.E.Sink.seen l.initial.err) (g.E.Sink.seen l.err)
    (flat_map hex_pair (take l.byte-index l.bytes))
