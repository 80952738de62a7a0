-- One step of a client's operation.
use Rattle.std.proofs.Common.{Ok, ap, ◌∙◌}
use Rattle.jv_client.specs.promise.Shared.{shared}
use Rattle.jv_session.specs.Lines.{line_state}
use Rattle.jv_session.proofs.InLineLaws.{once_says_more, once_says_done, once_breaks, once_stops}
use Rattle.jv_session.proofs.SeenLaws.{seen_yard}
use Rattle.jv_session.proofs.schedule.Schedule.step_once.Goals as goal

pub returns-in-Ok-More : goal.returns-in-Ok-More
returns-in-Ok-More g c =
    let seen = seen_yard g.D.Depot.seen g.H.Shelf.seen in
    let way = (goal.Carrier-dyn g c.args.carrier.now).seen in
    let before = line_state (g.C.Clock.seen c.args.clock.now)
    (shared (g.K.Keeper.seen c.args.k.now) (seen c.args.yard.now) (way c.args.carrier.now.1)) c.args.journal.now.acts c.args.self.now in
    let after = line_state (g.C.Clock.seen c.make_step.new.clock)
    (shared (g.K.Keeper.seen c.make_step.new.k) (seen c.make_step.new.yard) (way c.make_step.new.carrier)) c.make_step.new.journal.acts c.make_step.new.self in
    record {
      goes = once_says_more c.args.client c.args.number before after c.make_step.result c.make_step.ensures.steps
          c.text.result c.said.result (c.in-Ok-More.is ∙ ap Ok c.in-Ok-More.field-0-is)
          c.text.ensures c.said.ensures;
    }

pub returns-in-Ok-Done : goal.returns-in-Ok-Done
returns-in-Ok-Done g c =
    let seen = seen_yard g.D.Depot.seen g.H.Shelf.seen in
    let way = (goal.Carrier-dyn g c.args.carrier.now).seen in
    let before = line_state (g.C.Clock.seen c.args.clock.now)
    (shared (g.K.Keeper.seen c.args.k.now) (seen c.args.yard.now) (way c.args.carrier.now.1)) c.args.journal.now.acts c.args.self.now in
    let after = line_state (g.C.Clock.seen c.make_step.new.clock)
    (shared (g.K.Keeper.seen c.make_step.new.k) (seen c.make_step.new.yard) (way c.make_step.new.carrier)) c.make_step.new.journal.acts c.make_step.new.self in
    record {
      goes = once_says_done c.args.client c.args.number before after c.make_step.result c.make_step.ensures.steps
          c.in-Ok-Done.reply c.print.result c.said-in-Ok-Done.result
          (c.in-Ok-Done.is ∙ ap Ok c.in-Ok-Done.field-0-is) c.print.ensures c.said-in-Ok-Done.ensures;
    }

pub returns-in-Ok-Broken : goal.returns-in-Ok-Broken
returns-in-Ok-Broken g c =
    let seen = seen_yard g.D.Depot.seen g.H.Shelf.seen in
    let way = (goal.Carrier-dyn g c.args.carrier.now).seen in
    let before = line_state (g.C.Clock.seen c.args.clock.now)
    (shared (g.K.Keeper.seen c.args.k.now) (seen c.args.yard.now) (way c.args.carrier.now.1)) c.args.journal.now.acts c.args.self.now in
    let after = line_state (g.C.Clock.seen c.make_step.new.clock)
    (shared (g.K.Keeper.seen c.make_step.new.k) (seen c.make_step.new.yard) (way c.make_step.new.carrier)) c.make_step.new.journal.acts c.make_step.new.self in
    record {
      goes = once_breaks c.args.client c.args.number before after c.make_step.result c.make_step.ensures.steps
          c.in-Ok-Broken.key c.in-Ok-Broken.bytes
          (c.in-Ok-Broken.is ∙ ap Ok c.in-Ok-Broken.field-0-is);
    }

pub returns-in-Err : goal.returns-in-Err
returns-in-Err g c =
    let seen = seen_yard g.D.Depot.seen g.H.Shelf.seen in
    let way = (goal.Carrier-dyn g c.args.carrier.now).seen in
    let before = line_state (g.C.Clock.seen c.args.clock.now)
    (shared (g.K.Keeper.seen c.args.k.now) (seen c.args.yard.now) (way c.args.carrier.now.1)) c.args.journal.now.acts c.args.self.now in
    let after = line_state (g.C.Clock.seen c.make_step.new.clock)
    (shared (g.K.Keeper.seen c.make_step.new.k) (seen c.make_step.new.yard) (way c.make_step.new.carrier)) c.make_step.new.journal.acts c.make_step.new.self in
    record {
      goes = once_stops c.args.client c.args.number before after c.make_step.result c.make_step.ensures.steps
          c.in-Err.stopped c.into_end.result c.in-Err.is c.into_end.ensures;
    }
