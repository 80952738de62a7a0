-- A client of the schedule makes a step, and the others stay.
use Rattle.std.proofs.Common.{◌≡◌, List, slice_get, slice_set, get_or, Some, ap, subst, ◌∙◌, arith, ℕ}
use Rattle.std.proofs.lemmas.Option.{slice_get-get_or}
use Rattle.jv_model.specs.declared.act.Act.{Act}
use Rattle.jv_yard.specs.promise.YardValue.{YardValue}
use Rattle.jv_client.specs.ClientValue.{ClientValue}
use Rattle.jv_client.specs.promise.Shared.{shared}
use Rattle.jv_client.specs.Makes.{Steps}
use Rattle.jv_session.specs.Stands.{ScheduleValue}
use Rattle.jv_session.specs.InLine.{HasStepped}
use Rattle.jv_session.proofs.MemberLaws.{member_at, stepped_schedule}
use Rattle.jv_session.proofs.SeenLaws.{seen_yard}
use Rattle.jv_session.proofs.schedule.Schedule.make_step.Goals as goal

-- the clients are members still
pub invariant_of-self : goal.invariant_of-self
invariant_of-self g c =
    let low = c.number.ensures.limit in
    let eight = c.self.invariant.eight in
    let k = c.number.result in
    let clients = c.self.inside.clients in
    let old : ClientValue = get_or clients k c.index-self-number.result in
    let inside = slice_get-get_or clients k c.index-self-number.result (omega (arith, low, eight)) in
    let m = member_at c.self.inside.limits c.self.inside.at c.self.inside.ticks clients k old c.self.invariant inside in
    let seconds = c.seconds-self-inside.ensures.seconds in
    let is = c.in_ok-now.ensures.moment.is in
    let steps = c.step-step.ensures in
    stepped_schedule c.self.inside.limits c.self.inside.at c.self.inside.ticks c.seconds-self-inside.result clients k
    old c.step-step.new.self c.self.invariant (omega (arith, seconds, is)) m steps.makes.id steps.makes.limits steps.makes.ready

pub returns : goal.returns
returns g c =
    let clock = g.C.Clock.seen c.args.clock.now in
    let ticked = g.C.Clock.seen c.next_moment.new.clock in
    let seen = seen_yard g.D.Depot.seen g.H.Shelf.seen in
    let way = (goal.Carrier-dyn g c.args.carrier.now).seen in
    let keeper = g.K.Keeper.seen c.args.k.now in
    let carrier = way c.args.carrier.now.1 in
    let yard = seen c.args.yard.now in
    let held = shared keeper yard carrier in
    let used = shared (g.K.Keeper.seen c.step-step.new.k) (seen c.step-step.new.yard) (way c.step-step.new.carrier) in
    let journal = c.args.journal.now.acts in
    let more = c.step-step.new.journal.acts in
    let s : ScheduleValue = c.args.self.now in
    let now = c.in_ok-now.now in
    let low = c.number.ensures.limit in
    let eight = c.self.invariant.eight in
    let k = c.number.result in
    let old : ClientValue = get_or c.self.inside.clients k c.index-self-number.result in
    let new : ClientValue = c.step-step.new.self in
    let inside = slice_get-get_or c.self.inside.clients k c.index-self-number.result (omega (arith, low, eight)) in
    let m = member_at c.self.inside.limits c.self.inside.at c.self.inside.ticks c.self.inside.clients k old
    c.self.invariant inside in
    let seen_self = c.self.view_is in
    let after : ScheduleValue = record {
      limits = c.self.inside.limits;
      at = c.seconds-self-inside.result;
      ticks = c.self.inside.ticks;
      clients = slice_set c.self.inside.clients k new;
      setting = c.self.inside.setting;
    } in
    let same : after ≡ record s { at = now; clients = slice_set s.clients k new } =
    ap (λ (v : ScheduleValue). record v {
      at = c.seconds-self-inside.result;
      clients = slice_set v.clients k new;
    }) seen_self
    ∙ ap (λ (at : ℕ). record s { at = at; clients = slice_set s.clients k new })
    c.seconds-self-inside.ensures.seconds in
    let steps = subst (λ (y : YardValue). Steps c.args.number now old new (shared keeper y carrier) used journal more
    c.step-step.result) c.at.ensures
    (subst (λ (acts : List Act). Steps c.args.number now old new (shared keeper (seen c.at.new.self) carrier) used acts
    more c.step-step.result) c.in_ok-now.ensures.same c.step-step.ensures) in
    let stepped : HasStepped s after c.args.number k clock ticked held used journal more c.step-step.result = record {
      now = now;
      moment = c.in_ok-now.ensures.moment;
      old = old;
      found = subst (λ (v : ScheduleValue). slice_get v.clients k ≡ Some old) seen_self inside;
      id = m.id;
      new = new;
      steps = steps;
      same = same;
    } in
    record {
      steps = subst (λ n. HasStepped s after c.args.number n clock ticked held used journal more
          c.step-step.result) c.number.ensures.number stepped;
    }
