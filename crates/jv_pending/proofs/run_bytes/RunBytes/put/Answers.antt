use Rattle.std.proofs.Common.{◌+◌, ◌∙◌, ◌++◌, List, ℕ, length, take, drop, length-drop, ap, arith}
use Rattle.jv_pending.proofs.RunBytesLaws.{put_behind}
use Rattle.jv_pending.proofs.run_bytes.RunBytes.put.Goals as goal

pub returns : goal.returns
returns c =
    let all = c.self.inside.all.items in
    let room = c.self.inside.first in
    let at = c.args.at in
    let bytes = c.args.bytes.now in
    let same = ap length c.self.view_is in
    let h = c.requires in
    let i = c.self.invariant in
    ap (drop room) c.put.ensures.items
    ∙ put_behind room at all bytes (omega (arith, length-drop room all))
    ∙ ap (λ (t : List ℕ). take at t ++ (bytes ++ drop (at + length bytes) t)) c.self.view_is
