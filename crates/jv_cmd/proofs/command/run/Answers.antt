use Rattle.std.proofs.Common.{◌≡◌, ℕ, List, [], ap, sym, subst, string_bytes, map, Err}
use Rattle.jv_model.specs.declared.act.Act.{Act}
use Rattle.jv_cmd.specs.declared.words.request.WordsFault.{WordsFault}
use Rattle.jv_cmd.specs.promise.Commands.{RunsAsked}
use Rattle.jv_cmd.specs.promise.Saying.{Says}
use Rattle.jv_cmd.specs.Words.{Answers, Refuses}
use Rattle.jv_cmd.specs.promise.Words.{asked}
use Rattle.jv_cmd.specs.promise.Worlds.{WorldValue, block_devices, world_value}
use Rattle.jv_cmd.proofs.asked.AskedLaws.{asked_allowed}
use Rattle.jv_cmd.proofs.runs.CommandLaws.{RunsAsked-ran, RunsAsked-refused, RunsAsked-unread}
use Rattle.jv_cmd.proofs.command.run.Goals as goal

pub run_command-ended-requires-clause-allowed : goal.run_command-ended-requires-clause-allowed
run_command-ended-requires-clause-allowed g c = asked_allowed _ c.in-Ok.command c.in-Ok.ensures.asked

pub returns-in-Ok : goal.returns-in-Ok
returns-in-Ok g c =
    let words = map string_bytes c.args.words.now in
    let w = c.args.world in
    let e = c.run_command-ended.result.1 in
    let blocks = block_devices (g.D.Depot.seen w.depot) (g.H.Shelf.seen w.shelf)
    ((goal.Carrier-dyn g (w.carrier.vtable, w.carrier.value)).seen w.carrier.value) in
    let before : List Act → WorldValue = λ acts. world_value (g.S.Source.seen w.source) (g.O.Sink.seen w.out)
    (g.E.Sink.seen w.err) (g.K.Keeper.seen w.keeper) blocks (g.C.Clock.seen w.clock) acts in
    let after = world_value (g.S.Source.seen e.source) (g.O.Sink.seen e.out) (g.E.Sink.seen e.err)
    (g.K.Keeper.seen e.keeper) (block_devices (g.D.Depot.seen e.depot) (g.H.Shelf.seen e.shelf)
    ((goal.Carrier-dyn g (e.carrier.vtable, e.carrier.value)).seen e.carrier.value))
    (g.C.Clock.seen e.clock) e.journal.acts in
    let err = g.E.Sink.seen c.report.new.err in
    subst (λ acts. RunsAsked words (asked words) (before acts) (record after { err = err }) c.status-status.result)
    c.clear.ensures
    (RunsAsked-ran words (asked words) c.in-Ok.command
    (before c.clear.new.self.acts) after err c.run_command-ended.result.0 c.status-status.result
    c.in-Ok.ensures.asked c.run_command-ended.ensures.runs
    (ap g.E.Sink.seen c.run_command-ended.ensures.err) c.status-status.ensures c.report.ensures)

pub returns-in-Err-Refused : goal.returns-in-Err-Refused
returns-in-Err-Refused g c =
    let words = map string_bytes c.args.words.now in
    let w = c.args.world in
    let blocks = block_devices (g.D.Depot.seen w.depot) (g.H.Shelf.seen w.shelf)
    ((goal.Carrier-dyn g (w.carrier.vtable, w.carrier.value)).seen w.carrier.value) in
    let before : List Act → WorldValue = λ acts. world_value (g.S.Source.seen w.source) (g.O.Sink.seen w.out)
    (g.E.Sink.seen w.err) (g.K.Keeper.seen w.keeper) blocks (g.C.Clock.seen w.clock) acts in
    let err = g.E.Sink.seen c.say.new.err in
    let none = subst (λ (f : WordsFault). Answers (asked words) (Err f)) c.in-Err-Refused.field-0-is
    c.in-Err-Refused.ensures.asked in
    let same : c.as_bytes.result.now ≡ string_bytes c.in-Err-Refused.text =
    rw c.in-Err-Refused.field-0-is at c.as_bytes.ensures.value in
    let refusal = subst (λ (f : WordsFault). Refuses words f) c.in-Err-Refused.field-0-is
    c.in-Err-Refused.ensures.refusal in
    subst (λ acts. RunsAsked words (asked words) (before []) (record (before acts) { err = err }) 2)
    (sym c.clear.ensures)
    (RunsAsked-refused words (asked words) (before []) err (string_bytes c.in-Err-Refused.text) none refusal
    (subst (λ (text : List ℕ). Says (g.E.Sink.seen w.err) err text) same c.say.ensures))

pub returns-in-Err-Memory : goal.returns-in-Err-Memory
returns-in-Err-Memory g c =
    let words = map string_bytes c.args.words.now in
    let w = c.args.world in
    let blocks = block_devices (g.D.Depot.seen w.depot) (g.H.Shelf.seen w.shelf)
    ((goal.Carrier-dyn g (w.carrier.vtable, w.carrier.value)).seen w.carrier.value) in
    let before : List Act → WorldValue = λ acts. world_value (g.S.Source.seen w.source) (g.O.Sink.seen w.out)
    (g.E.Sink.seen w.err) (g.K.Keeper.seen w.keeper) blocks (g.C.Clock.seen w.clock) acts in
    let err = g.E.Sink.seen c.give_up-status.new.err in
    subst (λ acts. RunsAsked words (asked words) (before []) (record (before acts) { err = err }) c.give_up-status.result)
    (sym c.clear.ensures)
    (RunsAsked-unread words (asked words) (before []) err c.give_up-status.result c.give_up-status.ensures.says
    c.give_up-status.ensures.status)
