use Rattle.std.proofs.Common.{List, ℕ, suc, ◌<◌, length, get_or, take, drop, subst, arith}
use Rattle.std.specs.List.{flat_map}
use Rattle.jv_model.specs.promise.script.Printed.{hex_pair}
use Rattle.jv_outside.specs.Stream.{FailsToWriteAll, WritesAll}
use Rattle.jv_cmd.proofs.streams.SayingLaws.{WritesAll-stopped, pairs_apart}
use Rattle.jv_cmd.proofs.ended.write_pairs.Goals as goal

pub returns-in_err-write_whole : goal.returns-in_err-write_whole
returns-in_err-write_whole g c =
    let before = g.E.Sink.seen c.args.err.now in
    let between = g.E.Sink.seen c.loop-byte.err in
    let after = g.E.Sink.seen c.write_whole.new.sink in
    let bytes = c.args.bytes.now in
    let i = c.loop-byte.byte-index in
    let below : i < length bytes = omega arith in
    let down = c.in_err-write_whole.field-0.0 in
    let fails : FailsToWriteAll between after down (hex_pair (get_or bytes i 0)) =
    subst (λ (pair : List ℕ). FailsToWriteAll between after down pair) c.hex_pair.ensures c.in_err-write_whole.ensures
    in
    subst (λ (text : List ℕ). WritesAll before after c.from_residual.result text) (pairs_apart bytes i below)
    (WritesAll-stopped c.from_residual.result before between after down (flat_map hex_pair (take i bytes))
    (hex_pair (get_or bytes i 0)) (flat_map hex_pair (drop (suc i) bytes))
    c.from_residual.ensures.1 c.loop-byte.invariant fails)
