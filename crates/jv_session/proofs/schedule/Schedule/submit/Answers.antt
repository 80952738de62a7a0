-- An operation is begun at its client, or refused.
use Rattle.std.proofs.Common.{◌≡◌, IsTrue, slice_get, slice_set, get_or, Some, sym, ap, subst, ◌∙◌, arith}
use Rattle.jv_client.specs.promise.Built.{is_built_op}
use Rattle.jv_client.specs.ClientValue.{ClientValue}
use Rattle.jv_session.specs.Stands.{ScheduleValue}
use Rattle.jv_session.specs.InLine.{Submits}
use Rattle.std.proofs.lemmas.Option.{slice_get-get_or}
use Rattle.jv_session.proofs.MemberLaws.{schedule_with, member_at, submitted_member, begins_at, refuses_at}
use Rattle.jv_session.proofs.schedule.Schedule.submit.Goals as goal
use Rattle.jv_session.proofs.schedule.Schedule.submit.Goals.{in-Ok, in-Err}

pub invariant_of-self : goal.invariant_of-self
invariant_of-self c =
    let low = c.number.ensures.limit in
    let eight = c.self.invariant.eight in
    let k = c.number.result in
    let old : ClientValue = get_or c.self.inside.clients k c.index-self-number.result in
    let found = slice_get-get_or c.self.inside.clients k c.index-self-number.result (omega (arith, low, eight)) in
    let m = member_at c.self.inside.limits c.self.inside.at c.self.inside.ticks c.self.inside.clients k old
    c.self.invariant found in
    let seen = c.self.view_is in
    let own : IsTrue (is_built_op c.self.inside.limits c.args.op) = subst
    (λ (v : ScheduleValue). IsTrue (is_built_op v.limits c.args.op)) (sym seen) c.requires.built in
    schedule_with c.self.inside.limits c.self.inside.at c.self.inside.ticks c.self.inside.clients k _ c.self.invariant
    (submitted_member c.self.inside.limits k old c.submit.new.self c.args.op c.submit.result m own
    c.submit.ensures.still c.submit.ensures.ready c.submit.ensures.err)

pub returns : goal.returns
returns c =
    let low = c.number.ensures.limit in
    let eight = c.self.invariant.eight in
    let k = c.number.result in
    let s : ScheduleValue = c.args.self.now in
    let old : ClientValue = get_or c.self.inside.clients k c.index-self-number.result in
    let new : ClientValue = c.submit.new.self in
    let inside = slice_get-get_or c.self.inside.clients k c.index-self-number.result (omega (arith, low, eight)) in
    let m = member_at c.self.inside.limits c.self.inside.at c.self.inside.ticks c.self.inside.clients k old
    c.self.invariant inside in
    let seen = c.self.view_is in
    let found : slice_get s.clients k ≡ Some old = subst (λ (v : ScheduleValue). slice_get v.clients k ≡ Some old)
    seen inside in
    let limits : old.limits ≡ s.limits = m.limits_are ∙ ap (λ (v : ScheduleValue). v.limits) seen in
    let after : ScheduleValue = record {
      limits = c.self.inside.limits;
      at = c.self.inside.at;
      ticks = c.self.inside.ticks;
      clients = slice_set c.self.inside.clients k new;
      setting = c.self.inside.setting;
    } in
    let same : after ≡ record s { clients = slice_set s.clients k new } = ap
    (λ (v : ScheduleValue). record v { clients = slice_set v.clients k new }) seen in
    subst (λ n. Submits s after n c.args.op c.match-submit.result) c.number.ensures.number
    (elim c.match-submit.branch [
      | in-Ok w ↦ subst (Submits s after k c.args.op) (sym w.result-is)
          (begins_at s after k c.args.op old new c.submit.result _ found limits w.in-Ok.is c.submit.ensures.refusal
          c.submit.ensures.begun c.submit.ensures.no_flight c.submit.ensures.busy same)
      | in-Err w ↦ subst (Submits s after k c.args.op) (sym w.result-is)
          (refuses_at s after k c.args.op old new c.submit.result _ found w.in-Err.is c.submit.ensures.refusal
          c.submit.ensures.calm c.submit.ensures.err same)
    ])
