-- The request of a segment's number is allowed, and where it leads.
use Rattle.std.proofs.Common.{ap}
use Rattle.jv_model.specs.declared.basics.Who.{Who}
use Rattle.jv_client.specs.promise.Shared.{shared}
use Rattle.jv_client.proofs.flushes.FlushLaws.{number-asked, number-unmade}
use Rattle.jv_client.proofs.client.Client.ask_number.Goals as goal

pub returns-in-Ok : goal.returns-in-Ok
returns-in-Ok g c entry yard carrier =
    let at = c.requires.busy in
    number-asked c.args.now entry c.args.self.now c.request.new.self (shared (g.K.Keeper.seen c.args.k.now) yard carrier)
    (g.K.Keeper.seen c.next_id.new.k) c.who-who.result.sid at.0 at.1 c.request.result c.requires.ready at.2 c.requires.next
    (ap (λ (who : Who). who.sid) c.who-who.ensures) c.in-Ok.id c.in-Ok.ensures.taken c.in-Ok.ensures.positive
    c.request.ensures.asked c.request.ensures.made

pub returns : goal.returns
returns g c entry yard carrier =
    let at = c.requires.busy in
    number-unmade c.args.now entry c.args.self.now c.unmade.new.self (shared (g.K.Keeper.seen c.args.k.now) yard carrier)
    (g.K.Keeper.seen c.next_id.new.k) c.who-who.result.sid at.0 at.1 c.unmade.result c.requires.ready at.2
    c.requires.next (ap (λ (who : Who). who.sid) c.who-who.ensures) c.in-Err.fault c.in-Err.ensures.taken
    c.unmade.ensures
