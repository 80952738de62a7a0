-- A line by its form: those that make no step go on here from the line begun.
use Rattle.std.proofs.Common.{sym, subst}
use Rattle.jv_model.specs.declared.op.Line.{Line}
use Rattle.jv_model.specs.declared.op.Line.TheVariants as line
use Rattle.jv_client.specs.promise.Shared.{shared}
use Rattle.jv_session.specs.Lines.{LineRuns, line_state}
use Rattle.jv_session.specs.InLine.{Crashes, Passing}
use Rattle.jv_session.proofs.SeenLaws.{seen_yard}
use Rattle.jv_session.proofs.WholeLineLaws.{crash_enters, tick_enters, whole_line}
use Rattle.jv_session.proofs.schedule.Schedule.run_line.Goals as goal

pub returns-in-Begin-clause-runs : goal.returns-in-Begin-clause-runs
returns-in-Begin-clause-runs g c =
    let seen = seen_yard g.D.Depot.seen g.H.Shelf.seen in
    let way = (goal.Carrier-dyn g c.args.carrier.now).seen in
    let before = line_state (g.C.Clock.seen c.args.clock.now)
    (shared (g.K.Keeper.seen c.args.k.now) (seen c.args.yard.now) (way c.args.carrier.now.1)) c.args.journal.now.acts c.args.self.now in
    let v = before.devices in
    let after = line_state (g.C.Clock.seen c.begin.new.clock) v c.begin.new.journal.acts c.begin.new.self in
    subst (λ (l : Line). LineRuns l c.args.number before after c.begin.result) (sym c.in-Begin.is)
    (c.begin.ensures.runs v)

pub returns-in-Crash-clause-runs : goal.returns-in-Crash-clause-runs
returns-in-Crash-clause-runs g c =
    let seen = seen_yard g.D.Depot.seen g.H.Shelf.seen in
    let way = (goal.Carrier-dyn g c.args.carrier.now).seen in
    let before = line_state (g.C.Clock.seen c.args.clock.now)
    (shared (g.K.Keeper.seen c.args.k.now) (seen c.args.yard.now) (way c.args.carrier.now.1)) c.args.journal.now.acts c.args.self.now in
    let v = before.devices in
    let after = line_state (g.C.Clock.seen c.crash.new.clock) v c.crash.new.journal.acts c.crash.new.self in
    subst (λ (l : Line). LineRuns l c.args.number before after c.crash.result) (sym c.in-Crash.is)
    (whole_line (line.Crash c.in-Crash.client) c.args.number before after c.args.self.now (Crashes c.in-Crash.client)
    (crash_enters c.args.number c.args.self.now c.in-Crash.client) c.crash.result (c.crash.ensures.goes v))

pub returns-in-Tick-clause-runs : goal.returns-in-Tick-clause-runs
returns-in-Tick-clause-runs g c =
    let seen = seen_yard g.D.Depot.seen g.H.Shelf.seen in
    let way = (goal.Carrier-dyn g c.args.carrier.now).seen in
    let before = line_state (g.C.Clock.seen c.args.clock.now)
    (shared (g.K.Keeper.seen c.args.k.now) (seen c.args.yard.now) (way c.args.carrier.now.1)) c.args.journal.now.acts c.args.self.now in
    let v = before.devices in
    let after = line_state (g.C.Clock.seen c.tick.new.clock) v c.tick.new.journal.acts c.tick.new.self in
    subst (λ (l : Line). LineRuns l c.args.number before after c.tick.result) (sym c.in-Tick.is)
    (whole_line (line.Tick c.in-Tick.by) c.args.number before after c.args.self.now (Passing c.in-Tick.by)
    (tick_enters c.args.number c.args.self.now c.in-Tick.by) c.tick.result (c.tick.ensures.goes v))
