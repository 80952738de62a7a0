-- A client's operation is run to its end, step by step.
use Rattle.std.proofs.Common.{Ok, ap, ◌∙◌}
use Rattle.jv_client.specs.promise.Shared.{shared}
use Rattle.jv_session.specs.Lines.{line_state}
use Rattle.jv_session.proofs.RunLaws.{reached_none, reached_step, run_says, run_breaks, run_stops, falls_step}
use Rattle.jv_session.proofs.SeenLaws.{seen_yard}
use Rattle.jv_session.proofs.schedule.Schedule.run_to_end.Goals as goal

pub loop-reply-init : goal.loop-reply-init
loop-reply-init g c =
    let seen = seen_yard g.D.Depot.seen g.H.Shelf.seen in
    let first = (goal.Carrier-dyn g c.args.carrier.now).seen in
    let start = line_state (g.C.Clock.seen c.args.clock.now)
    (shared (g.K.Keeper.seen c.args.k.now) (seen c.args.yard.now) (first c.args.carrier.now.1))
    c.args.journal.now.acts c.args.self.now in
    reached_none c.args.client c.args.number start c.requires.busy c.requires.yard

pub loop-reply-smaller : goal.loop-reply-smaller
loop-reply-smaller g c =
    let seen = seen_yard g.D.Depot.seen g.H.Shelf.seen in
    let way = (goal.Carrier-dyn g c.loop-reply.carrier.now).seen in
    let now = line_state (g.C.Clock.seen c.loop-reply.clock)
    (shared (g.K.Keeper.seen c.loop-reply.k) (seen c.loop-reply.yard) (way c.loop-reply.carrier.now.1)) c.loop-reply.journal.acts c.loop-reply.self in
    let later = line_state (g.C.Clock.seen c.make_step.new.clock)
    (shared (g.K.Keeper.seen c.make_step.new.k) (seen c.make_step.new.yard) (way c.make_step.new.carrier)) c.make_step.new.journal.acts c.make_step.new.self in
    falls_step c.args.client c.args.number now later c.make_step.result c.make_step.ensures.steps
    (c.in-Ok-More.is ∙ ap Ok c.in-Ok-More.field-0-is)

pub loop-reply-preserved : goal.loop-reply-preserved
loop-reply-preserved g c =
    let seen = seen_yard g.D.Depot.seen g.H.Shelf.seen in
    let first = (goal.Carrier-dyn g c.args.carrier.now).seen in
    let start = line_state (g.C.Clock.seen c.args.clock.now)
    (shared (g.K.Keeper.seen c.args.k.now) (seen c.args.yard.now) (first c.args.carrier.now.1))
    c.args.journal.now.acts c.args.self.now in
    let way = (goal.Carrier-dyn g c.loop-reply.carrier.now).seen in
    let now = line_state (g.C.Clock.seen c.loop-reply.clock)
    (shared (g.K.Keeper.seen c.loop-reply.k) (seen c.loop-reply.yard) (way c.loop-reply.carrier.now.1)) c.loop-reply.journal.acts c.loop-reply.self in
    let later = line_state (g.C.Clock.seen c.make_step.new.clock)
    (shared (g.K.Keeper.seen c.make_step.new.k) (seen c.make_step.new.yard) (way c.make_step.new.carrier)) c.make_step.new.journal.acts c.make_step.new.self in
    reached_step c.args.client c.args.number start now later c.loop-reply.invariant c.make_step.result
    c.make_step.ensures.steps (c.in-Ok-More.is ∙ ap Ok c.in-Ok-More.field-0-is)

pub returns-in-Ok-Done : goal.returns-in-Ok-Done
returns-in-Ok-Done g c =
    let seen = seen_yard g.D.Depot.seen g.H.Shelf.seen in
    let first = (goal.Carrier-dyn g c.args.carrier.now).seen in
    let start = line_state (g.C.Clock.seen c.args.clock.now)
    (shared (g.K.Keeper.seen c.args.k.now) (seen c.args.yard.now) (first c.args.carrier.now.1))
    c.args.journal.now.acts c.args.self.now in
    let way = (goal.Carrier-dyn g c.loop-reply.carrier.now).seen in
    let now = line_state (g.C.Clock.seen c.loop-reply.clock)
    (shared (g.K.Keeper.seen c.loop-reply.k) (seen c.loop-reply.yard) (way c.loop-reply.carrier.now.1)) c.loop-reply.journal.acts c.loop-reply.self in
    let later = line_state (g.C.Clock.seen c.make_step.new.clock)
    (shared (g.K.Keeper.seen c.make_step.new.k) (seen c.make_step.new.yard) (way c.make_step.new.carrier)) c.make_step.new.journal.acts c.make_step.new.self in
    record {
      goes = run_says c.args.client c.args.number start now later c.loop-reply.invariant c.make_step.result
          c.make_step.ensures.steps c.in-Ok-Done.reply c.print.result c.said.result
          (c.in-Ok-Done.is ∙ ap Ok c.in-Ok-Done.field-0-is) c.print.ensures c.said.ensures;
    }

pub returns-in-Ok-Broken : goal.returns-in-Ok-Broken
returns-in-Ok-Broken g c =
    let seen = seen_yard g.D.Depot.seen g.H.Shelf.seen in
    let first = (goal.Carrier-dyn g c.args.carrier.now).seen in
    let start = line_state (g.C.Clock.seen c.args.clock.now)
    (shared (g.K.Keeper.seen c.args.k.now) (seen c.args.yard.now) (first c.args.carrier.now.1))
    c.args.journal.now.acts c.args.self.now in
    let way = (goal.Carrier-dyn g c.loop-reply.carrier.now).seen in
    let now = line_state (g.C.Clock.seen c.loop-reply.clock)
    (shared (g.K.Keeper.seen c.loop-reply.k) (seen c.loop-reply.yard) (way c.loop-reply.carrier.now.1)) c.loop-reply.journal.acts c.loop-reply.self in
    let later = line_state (g.C.Clock.seen c.make_step.new.clock)
    (shared (g.K.Keeper.seen c.make_step.new.k) (seen c.make_step.new.yard) (way c.make_step.new.carrier)) c.make_step.new.journal.acts c.make_step.new.self in
    record {
      goes = run_breaks c.args.client c.args.number start now later c.loop-reply.invariant c.make_step.result
          c.make_step.ensures.steps c.in-Ok-Broken.key c.in-Ok-Broken.bytes
          (c.in-Ok-Broken.is ∙ ap Ok c.in-Ok-Broken.field-0-is);
    }

pub returns-in-Err : goal.returns-in-Err
returns-in-Err g c =
    let seen = seen_yard g.D.Depot.seen g.H.Shelf.seen in
    let first = (goal.Carrier-dyn g c.args.carrier.now).seen in
    let start = line_state (g.C.Clock.seen c.args.clock.now)
    (shared (g.K.Keeper.seen c.args.k.now) (seen c.args.yard.now) (first c.args.carrier.now.1))
    c.args.journal.now.acts c.args.self.now in
    let way = (goal.Carrier-dyn g c.loop-reply.carrier.now).seen in
    let now = line_state (g.C.Clock.seen c.loop-reply.clock)
    (shared (g.K.Keeper.seen c.loop-reply.k) (seen c.loop-reply.yard) (way c.loop-reply.carrier.now.1)) c.loop-reply.journal.acts c.loop-reply.self in
    let later = line_state (g.C.Clock.seen c.make_step.new.clock)
    (shared (g.K.Keeper.seen c.make_step.new.k) (seen c.make_step.new.yard) (way c.make_step.new.carrier)) c.make_step.new.journal.acts c.make_step.new.self in
    record {
      goes = run_stops c.args.client c.args.number start now later c.loop-reply.invariant c.make_step.result
          c.make_step.ensures.steps c.in-Err.stopped c.into_end.result
          c.in-Err.is c.into_end.ensures;
    }
