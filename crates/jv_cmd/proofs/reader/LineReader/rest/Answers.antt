use Rattle.std.proofs.Common.{◌≡◌, ◌+◌, ◌-◌, take, drop, length, ap, ◌∙◌, arith}
use Rattle.std.proofs.lemmas.List.{length-take}
use Rattle.jv_cmd.proofs.streams.BufferLaws.{held_from}
use Rattle.jv_cmd.proofs.reader.LineReader.rest.Goals as goal

pub returns-clause-rest : goal.returns-clause-rest
returns-clause-rest c =
    let i = c.self.inside in
    let view : take (i.end - i.start) (drop i.start i.buffer.items) ≡ c.args.self.now = c.self.view_is in
    let size = length-take (i.end - i.start) (drop i.start i.buffer.items) in
    ap (λ bytes. take (i.end - (i.start + c.args.from)) (drop (i.start + c.args.from) bytes)) c.as_slice.ensures.value
    ∙ held_from i.buffer.items i.start c.args.from i.end (omega (arith, size, ap length view))
    ∙ ap (drop c.args.from) view
