use Rattle.std.proofs.Common.{◌+◌, ◌∙◌, drop, ap, arith}
use Rattle.jv_cmd.proofs.streams.BufferLaws.{held_past}
use Rattle.jv_cmd.proofs.reader.LineReader.pass.Goals as goal

pub returns : goal.returns
returns c =
    let i = c.self.inside in
    held_past i.buffer.items i.start (c.args.count + 1) i.end c.min-self-inside.result c.self.invariant.0
    (omega (arith, c.min-self-inside.ensures))
    ∙ ap (drop (c.args.count + 1)) c.self.view_is
