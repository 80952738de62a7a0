-- A tick is the line's one entry, and moves the clock on.
use Rattle.std.proofs.Common.{◌≡◌, ◌+◌, min, ap, ◌∙◌, arith}
use Rattle.jv_session.specs.Stands.{ScheduleValue}
use Rattle.jv_session.specs.Lines.{line_state}
use Rattle.jv_model.specs.declared.limits.TheConstants.{LAST_MOMENT}
use Rattle.jv_session.specs.InLine.{Passing}
use Rattle.jv_session.proofs.NoteLaws.{tick_says, stops_noted, tick_breaks}
use Rattle.jv_session.proofs.schedule.Schedule.tick.Goals as goal

pub returns-in-Ok-clause-goes : goal.returns-in-Ok-clause-goes
returns-in-Ok-clause-goes g c v =
    let noted : ScheduleValue = c.note.new.self in
    let ticks = c.min-self-inside.result in
    let seen = c.self.view_is in
    let last : ScheduleValue = record {
      limits = c.self.inside.limits;
      at = c.self.inside.at;
      ticks = ticks;
      clients = c.self.inside.clients;
      setting = c.self.inside.setting;
    } in
    let same : last ≡ record noted { ticks = ticks } = ap (λ (x : ScheduleValue). record x { ticks = ticks }) seen in
    let sum = c.saturating_add.ensures in
    let least = c.min-self-inside.ensures in
    let here : min LAST_MOMENT (c.self.inside.ticks + c.args.by) ≡ min LAST_MOMENT (noted.ticks + c.args.by) = ap
    (λ (v : ScheduleValue). min LAST_MOMENT (v.ticks + c.args.by)) seen in
    let passed : ticks ≡ min LAST_MOMENT (noted.ticks + c.args.by) =
    (let told : ticks ≡ min LAST_MOMENT (c.self.inside.ticks + c.args.by) = omega (arith, sum, least) in told
    ∙ here) in
    tick_says v c.args.number (g.C.Clock.seen c.args.clock.now)
    (g.C.Clock.seen c.note.new.clock) c.args.journal.now.acts c.note.new.journal.acts c.args.self.now
    c.args.by noted last ticks c.in-Ok.now c.note.result c.moment_text.result c.said.result c.note.ensures.notes
    c.in-Ok.is same passed c.moment_text.ensures c.said.ensures

pub returns-in-Err-clause-goes : goal.returns-in-Err-clause-goes
returns-in-Err-clause-goes g c v =
    let clock = g.C.Clock.seen c.args.clock.now in
    let journal = c.args.journal.now.acts in
    let s = c.args.self.now in
    stops_noted v c.args.number clock (g.C.Clock.seen c.note.new.clock) journal
    c.note.new.journal.acts s (Passing c.args.by) _ c.args.by _
    c.note.new.self c.note.result c.in-Err.stopped c.into_end.result
    (tick_breaks c.args.by (line_state clock v journal s)) c.note.ensures.notes c.in-Err.is
    c.into_end.ensures
