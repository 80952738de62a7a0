-- One step is made of an operation in progress; where there is none, the line says so.
use Rattle.std.proofs.Common.{sym, ◌∙◌}
use Rattle.jv_model.specs.declared.op.Line.TheVariants as line
use Rattle.jv_model.specs.promise.journal.Past.{idle_text}
use Rattle.jv_client.specs.promise.Shared.{shared}
use Rattle.jv_session.specs.Lines.{line_state}
use Rattle.jv_session.specs.InLine.{StepsOnce}
use Rattle.jv_session.proofs.SeenLaws.{seen_yard}
use Rattle.jv_session.proofs.WholeLineLaws.{SaysAlone, step_enters, step_idle_enters, says_goes, whole_line}
use Rattle.jv_session.proofs.schedule.Schedule.step.Goals as goal

pub returns-then-not-is_busy-clause-runs : goal.returns-then-not-is_busy-clause-runs
returns-then-not-is_busy-clause-runs g c =
    let seen = seen_yard g.D.Depot.seen g.H.Shelf.seen in
    let way = (goal.Carrier-dyn g c.args.carrier.now).seen in
    let before = line_state (g.C.Clock.seen c.args.clock.now)
    (shared (g.K.Keeper.seen c.args.k.now) (seen c.args.yard.now) (way c.args.carrier.now.1)) c.args.journal.now.acts c.args.self.now in
    let s = c.args.self.now in
    whole_line (line.Step c.args.client) c.args.number before before s (SaysAlone idle_text)
    (step_idle_enters c.args.number s c.args.client c.is_busy.ensures.low
    (sym c.is_busy.ensures.busy ∙ c.if-not-is_busy.true)) c.said.result
    (says_goes idle_text c.args.number before.clock before.devices before.journal s c.text.result c.said.result
    c.text.ensures c.said.ensures)

pub returns-clause-runs : goal.returns-clause-runs
returns-clause-runs g c =
    let seen = seen_yard g.D.Depot.seen g.H.Shelf.seen in
    let way = (goal.Carrier-dyn g c.args.carrier.now).seen in
    let before = line_state (g.C.Clock.seen c.args.clock.now)
    (shared (g.K.Keeper.seen c.args.k.now) (seen c.args.yard.now) (way c.args.carrier.now.1)) c.args.journal.now.acts c.args.self.now in
    let after = line_state (g.C.Clock.seen c.step_once.new.clock)
    (shared (g.K.Keeper.seen c.step_once.new.k) (seen c.step_once.new.yard) (way c.step_once.new.carrier)) c.step_once.new.journal.acts c.step_once.new.self in
    let s = c.args.self.now in
    whole_line (line.Step c.args.client) c.args.number before after s (StepsOnce c.args.client)
    (step_enters c.args.number s c.args.client c.is_busy.ensures.low
    (sym c.is_busy.ensures.busy ∙ c.if-not-is_busy.false)) c.step_once.result c.step_once.ensures.goes
