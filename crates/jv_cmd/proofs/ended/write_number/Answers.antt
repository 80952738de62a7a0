use Rattle.std.proofs.Common.{rules, ◌≡◌, ◌++◌, decimal, subst}
use Rattle.jv_outside.specs.promise.Stream.{HasAll}
use Rattle.jv_outside.specs.Stream.{FailsToWriteAll}
use Rattle.jv_cmd.proofs.streams.SayingLaws.{HasAll-after, Fails-after, Fails-more, WritesAll-after, WritesAll-failed}
use Rattle.jv_cmd.proofs.ended.write_number.Goals as goal

pub returns-in_err-write_whole : goal.returns-in_err-write_whole
returns-in_err-write_whole g c =
    let before = g.E.Sink.seen c.args.err.now in
    let after = g.E.Sink.seen c.write_whole.new.sink in
    let number = decimal c.args.number in
    let down = c.in_err-write_whole.field-0.0 in
    WritesAll-failed c.from_residual.result before after down
    (c.args.before.now ++ number ++ c.args.after.now) c.from_residual.ensures.1
    (Fails-more before after down (c.args.before.now ++ number) c.args.after.now
    (Fails-more before after down c.args.before.now number c.in_err-write_whole.ensures))

pub returns-in_err-write_whole-2 : goal.returns-in_err-write_whole-2
returns-in_err-write_whole-2 g c =
    let before = g.E.Sink.seen c.args.err.now in
    let between = g.E.Sink.seen c.write_whole.new.sink in
    let after = g.E.Sink.seen c.write_whole-2.new.sink in
    let down = c.in_err-write_whole-2.field-0.0 in
    let number : c.as_bytes.result.now ≡ decimal c.args.number = search rules in
    let fails : FailsToWriteAll between after down (decimal c.args.number) = subst
    (λ text. FailsToWriteAll between after down text) number c.in_err-write_whole-2.ensures in
    WritesAll-failed c.from_residual-in_err-write_whole-2.result before after down
    (c.args.before.now ++ decimal c.args.number ++ c.args.after.now) c.from_residual-in_err-write_whole-2.ensures.1
    (Fails-more before after down (c.args.before.now ++ decimal c.args.number) c.args.after.now
    (Fails-after before between after down c.args.before.now (decimal c.args.number) c.in_ok-write_whole.ensures fails))

pub returns : goal.returns
returns g c =
    let before = g.E.Sink.seen c.args.err.now in
    let between = g.E.Sink.seen c.write_whole.new.sink in
    let nearly = g.E.Sink.seen c.write_whole-2.new.sink in
    let after = g.E.Sink.seen c.write_whole-3.new.sink in
    let number : c.as_bytes.result.now ≡ decimal c.args.number = search rules in
    let all : HasAll between nearly (decimal c.args.number) = subst
    (λ text. HasAll between nearly text) number c.in_ok-write_whole-2.ensures in
    WritesAll-after c.write_whole-3.result before nearly after
    (c.args.before.now ++ decimal c.args.number) c.args.after.now
    (HasAll-after before between nearly c.args.before.now (decimal c.args.number) c.in_ok-write_whole.ensures all)
    c.write_whole-3.ensures
