use Rattle.std.proofs.Common.{◌<◌, take, Ok, ap, subst, arith}
use Rattle.std.specs.Io.KnownBytes.{prepend_known}
use Rattle.jv_model.specs.declared.limits.TheConstants.{MAX_LINES}
use Rattle.jv_cmd.specs.declared.reader.Next.{Next}
use Rattle.jv_cmd.specs.Cutting.{Finds, CutsText, IsOverlong}
use Rattle.jv_cmd.proofs.runs.ReachedLaws.{Going-read, NextLine-front, EndsScript-succeeded, EndsScript-overlong, EndsScript-too_many, EndsScript-source}
use Rattle.jv_cmd.proofs.streams.ReadingLaws.{BeginsWith-cut}
use Rattle.jv_cmd.proofs.lines.run_next.Goals as goal

pub returns-then-done-eq-MAX_LINES-clause-runs : goal.returns-then-done-eq-MAX_LINES-clause-runs
returns-then-done-eq-MAX_LINES-clause-runs g c = λ before going.
    let source = g.S.Source.seen c.next.new.source in
    let left = prepend_known c.args.reader.now (g.S.Source.seen c.args.stage.now.source).content in
    let cut : CutsText left source.content c.next.new.self c.in-Ok-Text.count =
    subst (λ (next : Next). Finds left source.content c.next.new.self (Ok next)) c.in-Ok-Text.field-0-is
    c.in-Ok-Text.ensures.finds in
    EndsScript-too_many left before _ source c.args.done c.args.schedule.now going c.in-Ok-Text.ensures.counts
    (take c.in-Ok-Text.count c.next.new.self)
    (BeginsWith-cut left source.content c.next.new.self c.in-Ok-Text.count cut) c.if-done-eq-MAX_LINES.true

pub returns-else-done-eq-MAX_LINES-clause-runs : goal.returns-else-done-eq-MAX_LINES-clause-runs
returns-else-done-eq-MAX_LINES-clause-runs g c = λ before going.
    let source = g.S.Source.seen c.next.new.source in
    let left = prepend_known c.args.reader.now (g.S.Source.seen c.args.stage.now.source).content in
    let held = c.next.new.self in
    let count = c.in-Ok-Text.count in
    let ran = c.run_text-ran in
    let cut : CutsText left source.content held count =
    subst (λ (next : Next). Finds left source.content held (Ok next)) c.in-Ok-Text.field-0-is
    c.in-Ok-Text.ensures.finds in
    let room : c.args.done < MAX_LINES = omega (arith, c.requires.few, c.if-done-eq-MAX_LINES.false) in
    NextLine-front left source.content before _ _ c.args.done count held c.args.schedule.now ran.new.schedule
    (Going-read left before _ source c.args.done c.args.schedule.now c.in-Ok-Text.ensures.counts going) room cut
    (ap (λ s. (g.S.Source.seen s).faults) ran.ensures.source) c.front.result.now c.pass.new.self
    (g.S.Source.seen ran.new.stage.source).content ran.result c.front.ensures c.pass.ensures
    (ap (λ s. (g.S.Source.seen s).content) ran.ensures.source) ran.ensures.ends

pub returns-in-Ok-TooLong-clause-runs : goal.returns-in-Ok-TooLong-clause-runs
returns-in-Ok-TooLong-clause-runs g c = λ before going.
    let source = g.S.Source.seen c.next.new.source in
    let left = prepend_known c.args.reader.now (g.S.Source.seen c.args.stage.now.source).content in
    let long : IsOverlong left =
    subst (λ (next : Next). Finds left source.content c.next.new.self (Ok next)) c.in-Ok-TooLong.field-0-is
    c.in-Ok-TooLong.ensures.finds in
    EndsScript-overlong left before _ source c.args.done c.args.schedule.now going c.in-Ok-TooLong.ensures.counts long

pub returns-in-Ok-End-clause-runs : goal.returns-in-Ok-End-clause-runs
returns-in-Ok-End-clause-runs g c = λ before going.
    let source = g.S.Source.seen c.next.new.source in
    let left = prepend_known c.args.reader.now (g.S.Source.seen c.args.stage.now.source).content in
    let none = subst (λ (next : Next). Finds left source.content c.next.new.self (Ok next)) c.in-Ok-End.field-0-is
    c.in-Ok-End.ensures.finds in
    EndsScript-succeeded left before _ source c.args.done c.args.schedule.now going c.in-Ok-End.ensures.counts none

pub returns-in-Err-clause-runs : goal.returns-in-Err-clause-runs
returns-in-Err-clause-runs g c = λ before going.
    let source = g.S.Source.seen c.next.new.source in
    let left = prepend_known c.args.reader.now (g.S.Source.seen c.args.stage.now.source).content in
    EndsScript-source left before _ source c.args.done c.args.schedule.now going c.in-Err.ensures.counts
