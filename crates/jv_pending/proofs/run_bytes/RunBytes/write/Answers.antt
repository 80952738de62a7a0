use Rattle.std.proofs.Common.{◌∙◌, List, ℕ, length, drop, length-drop, ap, arith}
use Rattle.jv_pending.specs.Runs.{joined_behind}
use Rattle.jv_pending.proofs.OutcomeLaws.{map_ok}
use Rattle.jv_pending.proofs.RunBytesLaws.{joined_behind_room}
use Rattle.jv_pending.proofs.run_bytes.RunBytes.write.Goals as goal

pub returns-clause-ok : goal.returns-clause-ok
returns-clause-ok c =
    let all = c.self.inside.all.items in
    let room = c.self.inside.first in
    let at = c.args.at in
    let same = ap length c.self.view_is in
    let h = c.requires in
    let i = c.self.invariant in
    map_ok c.extend.result _ _
    (λ e. ap (drop room) e
    ∙ joined_behind_room room at all c.args.bytes.now c.args.more.now (omega (arith, length-drop room all))
    ∙ ap (λ (t : List ℕ). joined_behind at t c.args.bytes.now c.args.more.now) c.self.view_is)
    c.extend.ensures.ok
