-- An operation is submitted, or refused.
use Rattle.std.specs.Prelude.{codes}
use Rattle.jv_model.specs.declared.op.Line.TheVariants as line
use Rattle.jv_model.specs.promise.script.ReplyText.{with_feed}
use Rattle.jv_session.specs.Lines.{line_state}
use Rattle.jv_session.specs.InLine.{IsRefused}
use Rattle.jv_session.proofs.WholeLineLaws.{SaysAlone, begin_enters, begin_refused_enters, says_goes, whole_line}
use Rattle.jv_session.proofs.schedule.Schedule.begin.Goals as goal

pub returns-in-Ok-clause-runs : goal.returns-in-Ok-clause-runs
returns-in-Ok-clause-runs g c v =
    let s1 = c.submit.new.self in
    let clock = g.C.Clock.seen c.args.clock.now in
    let journal = c.args.journal.now.acts in
    whole_line (line.Begin c.args.client c.args.op) c.args.number (line_state clock v journal c.args.self.now)
    (line_state clock v journal s1) s1 (SaysAlone (with_feed (codes "begun")))
    (begin_enters c.args.number c.args.self.now s1 c.args.client c.args.op c.in-Ok.ensures) c.said.result
    (says_goes (with_feed (codes "begun")) c.args.number clock v journal s1 c.text.result c.said.result
    c.text.ensures c.said.ensures)

pub returns-in-Err-clause-runs : goal.returns-in-Err-clause-runs
returns-in-Err-clause-runs g c v =
    let s1 = c.submit.new.self in
    whole_line (line.Begin c.args.client c.args.op) c.args.number
    (line_state (g.C.Clock.seen c.args.clock.now) v c.args.journal.now.acts c.args.self.now)
    (line_state (g.C.Clock.seen c.refuse.new.clock) v c.refuse.new.journal.acts c.refuse.new.self) s1
    (IsRefused c.args.client c.in-Err.fault)
    (begin_refused_enters c.args.number c.args.self.now s1 c.args.client c.args.op c.in-Err.fault c.in-Err.ensures)
    c.refuse.result (c.refuse.ensures.goes v c.in-Err.ensures.calm)
