-- An operation is submitted, and run to its end or refused.
use Rattle.jv_model.specs.declared.op.Line.TheVariants as line
use Rattle.jv_client.specs.promise.Shared.{shared}
use Rattle.jv_session.specs.Lines.{line_state}
use Rattle.jv_session.specs.InLine.{RunsToEnd, IsRefused}
use Rattle.jv_session.proofs.MemberLaws.{yard_begun}
use Rattle.jv_session.proofs.SeenLaws.{seen_yard}
use Rattle.jv_session.proofs.WholeLineLaws.{do_enters, do_refused_enters, whole_line}
use Rattle.jv_session.proofs.schedule.Schedule.run_whole.Goals as goal

-- the schedule may still go on with the yard
pub run_to_end-requires-clause-yard : goal.run_to_end-requires-clause-yard
run_to_end-requires-clause-yard g c =
    yard_begun c.args.self.now c.submit.new.self c.args.client c.args.op
    (seen_yard g.D.Depot.seen g.H.Shelf.seen c.args.yard.now) c.in-Ok.ensures c.requires.yard

pub returns-in-Ok-clause-runs : goal.returns-in-Ok-clause-runs
returns-in-Ok-clause-runs g c =
    let seen = seen_yard g.D.Depot.seen g.H.Shelf.seen in
    let way = (goal.Carrier-dyn g c.args.carrier.now).seen in
    let before = line_state (g.C.Clock.seen c.args.clock.now)
    (shared (g.K.Keeper.seen c.args.k.now) (seen c.args.yard.now) (way c.args.carrier.now.1)) c.args.journal.now.acts c.args.self.now in
    let after = line_state (g.C.Clock.seen c.run_to_end.new.clock)
    (shared (g.K.Keeper.seen c.run_to_end.new.k) (seen c.run_to_end.new.yard) (way c.run_to_end.new.carrier)) c.run_to_end.new.journal.acts c.run_to_end.new.self in
    let s1 = c.submit.new.self in
    whole_line (line.Do c.args.client c.args.op) c.args.number before after s1 (RunsToEnd c.args.client)
    (do_enters c.args.number c.args.self.now s1 c.args.client c.args.op c.in-Ok.ensures) c.run_to_end.result
    c.run_to_end.ensures.goes

pub returns-in-Err-clause-runs : goal.returns-in-Err-clause-runs
returns-in-Err-clause-runs g c =
    let seen = seen_yard g.D.Depot.seen g.H.Shelf.seen in
    let way = (goal.Carrier-dyn g c.args.carrier.now).seen in
    let before = line_state (g.C.Clock.seen c.args.clock.now)
    (shared (g.K.Keeper.seen c.args.k.now) (seen c.args.yard.now) (way c.args.carrier.now.1)) c.args.journal.now.acts c.args.self.now in
    let v = before.devices in
    let s1 = c.submit.new.self in
    whole_line (line.Do c.args.client c.args.op) c.args.number before
    (line_state (g.C.Clock.seen c.refuse.new.clock) v c.refuse.new.journal.acts c.refuse.new.self) s1
    (IsRefused c.args.client c.in-Err.fault)
    (do_refused_enters c.args.number c.args.self.now s1 c.args.client c.args.op c.in-Err.fault c.in-Err.ensures)
    c.refuse.result (c.refuse.ensures.goes v c.in-Err.ensures.calm)
