-- A refused submission is the line's one entry.
use Rattle.std.proofs.Common.{subst}
use Rattle.jv_session.specs.Lines.{line_state}
use Rattle.jv_session.specs.InLine.{IsRefused, LineGoes}
use Rattle.jv_session.proofs.NoteLaws.{refuse_says, stops_noted, refusal_breaks}
use Rattle.jv_session.proofs.schedule.Schedule.refuse.Goals as goal

pub returns-in-Ok-clause-goes : goal.returns-in-Ok-clause-goes
returns-in-Ok-clause-goes g c v calm =
    let clock = g.C.Clock.seen c.args.clock.now in
    let ticked = g.C.Clock.seen c.note.new.clock in
    let journal = c.args.journal.now.acts in
    let more = c.note.new.journal.acts in
    let s = c.args.self.now in
    subst (λ k. LineGoes (IsRefused k c.args.fault) c.args.number
    (line_state clock v journal s) (line_state ticked v more c.note.new.self) c.said.result)
    c.number.ensures.number
    (refuse_says v c.args.number clock ticked journal more s c.number.result c.args.fault c.note.new.self
    c.note.result c.in-Ok.field-0 c.print.result c.said.result
    c.number.ensures.limit calm c.note.ensures.notes c.in-Ok.is c.print.ensures c.said.ensures)

pub returns-in-Err-clause-goes : goal.returns-in-Err-clause-goes
returns-in-Err-clause-goes g c v calm =
    let clock = g.C.Clock.seen c.args.clock.now in
    let journal = c.args.journal.now.acts in
    let s = c.args.self.now in
    stops_noted v c.args.number clock (g.C.Clock.seen c.note.new.clock) journal
    c.note.new.journal.acts s (IsRefused c.args.client c.args.fault) c.number.result 0 _
    c.note.new.self c.note.result c.in-Err.stopped c.into_end.result
    (refusal_breaks c.args.client c.args.fault (line_state clock v journal s))
    c.note.ensures.notes c.in-Err.is c.into_end.ensures
