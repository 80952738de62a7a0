-- The client's operation goes on from where the line found it.
use Rattle.jv_client.specs.promise.Shared.{shared}
use Rattle.jv_session.specs.Lines.{line_state}
use Rattle.jv_session.proofs.RunLaws.{Reached, steps_at}
use Rattle.jv_session.proofs.SeenLaws.{seen_yard}
use Rattle.jv_session.proofs.schedule.Schedule.run_to_end.Given as goal

abbrev pub invariant-loop-reply : goal.invariant-loop-reply
invariant-loop-reply g l =
    let seen = seen_yard g.D.Depot.seen g.H.Shelf.seen in
    let first = (goal.Carrier-dyn g l.initial.carrier.now).seen in
    let way = (goal.Carrier-dyn g l.carrier.now).seen in
    Reached l.client l.number
    (line_state (g.C.Clock.seen l.initial.clock)
    (shared (g.K.Keeper.seen l.initial.k) (seen l.initial.yard) (first l.initial.carrier.now.1))
    l.initial.journal.acts l.initial.self)
    (line_state (g.C.Clock.seen l.clock) (shared (g.K.Keeper.seen l.k) (seen l.yard) (way l.carrier.now.1))
    l.journal.acts l.self)

abbrev pub decreases-loop-reply : goal.decreases-loop-reply
decreases-loop-reply g l = steps_at l.self l.client
