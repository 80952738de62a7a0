-- A crash is the line's one entry, and its client is as before any mount.
use Rattle.std.proofs.Common.{◌≡◌, slice_get, slice_set, get_or, Some, sym, ap, subst, ◌∙◌, arith}
use Rattle.jv_session.specs.Stands.{ScheduleValue}
use Rattle.jv_session.specs.Lines.{line_state}
use Rattle.jv_model.specs.declared.act.ActKind.TheVariants.{Crashed}
use Rattle.jv_client.specs.ClientValue.{ClientValue, crashed}
use Rattle.jv_session.specs.InLine.{Crashes, LineGoes, Notes}
use Rattle.std.proofs.lemmas.Option.{slice_get-get_or}
use Rattle.jv_session.proofs.MemberLaws.{crashed_schedule, member_at}
use Rattle.jv_session.proofs.NoteLaws.{crash_says, stops_noted, crash_breaks}
use Rattle.jv_session.proofs.schedule.Schedule.crash.Goals as goal

-- the clients are members still
pub invariant_of-self : goal.invariant_of-self
invariant_of-self g c =
    let low = c.number-in-Ok.ensures.limit in
    let eight = c.self.invariant.eight in
    let k = c.number-in-Ok.result in
    let clients = c.self.inside.clients in
    let old : ClientValue = get_or clients k c.index-self-number.result in
    let inside = slice_get-get_or clients k c.index-self-number.result (omega (arith, low, eight)) in
    let m = member_at c.self.inside.limits c.self.inside.at c.self.inside.ticks clients k old c.self.invariant inside in
    crashed_schedule c.self.inside.limits c.self.inside.at c.self.inside.ticks clients k old c.crash.new.self
    c.self.invariant m c.crash.ensures

pub returns-in-Ok-clause-goes : goal.returns-in-Ok-clause-goes
returns-in-Ok-clause-goes g c v =
    let clock = g.C.Clock.seen c.args.clock.now in
    let ticked = g.C.Clock.seen c.note.new.clock in
    let journal = c.args.journal.now.acts in
    let more = c.note.new.journal.acts in
    let s : ScheduleValue = c.args.self.now in
    let noted : ScheduleValue = c.note.new.self in
    let low = c.number-in-Ok.ensures.limit in
    let eight = c.self.invariant.eight in
    let k = c.number-in-Ok.result in
    let old : ClientValue = get_or c.self.inside.clients k c.index-self-number.result in
    let inside = slice_get-get_or c.self.inside.clients k c.index-self-number.result (omega (arith, low, eight)) in
    let found : slice_get noted.clients k ≡ Some old = subst (λ (v : ScheduleValue). slice_get v.clients k ≡ Some old)
    c.self.view_is inside in
    let last : ScheduleValue = record {
      limits = c.self.inside.limits;
      at = c.self.inside.at;
      ticks = c.self.inside.ticks;
      clients = slice_set c.self.inside.clients k c.crash.new.self;
      setting = c.self.inside.setting;
    } in
    let same : last ≡ record noted { clients = slice_set noted.clients k (crashed old) } =
    ap (λ (x : ScheduleValue). record x { clients = slice_set x.clients k c.crash.new.self }) c.self.view_is
    ∙ ap (λ (new : ClientValue). record noted { clients = slice_set noted.clients k new }) c.crash.ensures in
    let notes = subst (λ n. Notes s noted c.args.number n Crashed 0 clock ticked journal more c.note.result)
    (c.number.ensures.number ∙ sym c.number-in-Ok.ensures.number) c.note.ensures.notes in
    subst (λ n. LineGoes (Crashes n) c.args.number (line_state clock v journal s)
    (line_state ticked v more last) c.said.result) c.number-in-Ok.ensures.number
    (crash_says v c.args.number clock ticked journal more s k noted last old c.in-Ok.field-0 c.note.result
    c.text.result c.said.result notes c.in-Ok.is found same c.text.ensures c.said.ensures)

pub returns-in-Err-clause-goes : goal.returns-in-Err-clause-goes
returns-in-Err-clause-goes g c v =
    let clock = g.C.Clock.seen c.args.clock.now in
    let journal = c.args.journal.now.acts in
    let s = c.args.self.now in
    stops_noted v c.args.number clock (g.C.Clock.seen c.note.new.clock) journal
    c.note.new.journal.acts s (Crashes c.args.client) c.number.result 0 _
    c.note.new.self c.note.result c.in-Err.stopped c.into_end.result
    (crash_breaks c.args.client (line_state clock v journal s)) c.note.ensures.notes c.in-Err.is
    c.into_end.ensures
