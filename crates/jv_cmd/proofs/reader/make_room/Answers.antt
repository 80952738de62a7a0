use Rattle.std.proofs.Common.{◌≡◌, ◌-◌, ◌++◌, List, ℕ, is_ok, if◌then◌else◌, replicate, take, slice_range, vec_len, sym, ap, ◌∙◌, arith}
use Rattle.jv_cmd.specs.declared.reader.TheConstants.{ROOM}
use Rattle.jv_cmd.proofs.streams.BufferLaws.{held_on}
use Rattle.jv_cmd.proofs.reader.make_room.Goals as goal

pub returns-then-start-eq0-clause-same : goal.returns-then-start-eq0-clause-same
returns-then-start-eq0-clause-same c =
    let old = c.args.buffer.now.items in
    let end = c.args.end in
    let more : List ℕ = replicate (ROOM - vec_len c.args.buffer.now) 0 in
    let new : c.resize.new.self.items ≡ take ROOM old ++ more = c.resize.ensures.items
    ∙ ap (λ r. if is_ok r then take ROOM old ++ more else old) c.unwrap.ensures in
    let all : end - 0 ≡ end = omega arith in
    ap (λ n. take n c.resize.new.self.items) all
    ∙ ap (take end) new
    ∙ held_on old more end ROOM (omega (arith, c.requires.within, c.args.buffer.now.ok.0)) (omega (arith, c.requires.within, c.requires.size))
    ∙ ap (λ n. take n old) (sym all)
    ∙ ap (λ n. slice_range old n end) (sym c.if-start-eq0.true)
