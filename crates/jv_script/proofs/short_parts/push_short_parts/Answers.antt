use Rattle.std.proofs.Common.{arith, ◌≡◌, ◌+◌, ◌-◌, ◌++◌, take, replicate, refl, ◌∙◌}
use Rattle.std.proofs.lemmas.List.{take_all}
use Rattle.jv_script.proofs.PartLaws.{leaves_first}
use Rattle.jv_script.proofs.short_parts.push_short_parts.Goals as goal

pub loop-byte-preserved : goal.loop-byte-preserved
loop-byte-preserved c =
    let before = c.loop-byte.bytes.items in
    let after = c.resize.new.self.items in
    let count = c.in-Some.count in
    let part = replicate count c.in-Some.byte in
    let all : take (c.len.result + count) before ≡ before = take_all (c.len.result + count) before (omega (arith, c.len.ensures)) in
    let more : c.len.result + count - c.loop-byte.bytes.len ≡ count = omega (arith, c.len.ensures) in
    let appended : after ≡ before ++ part = c.in_ok-resize.ensures.items ∙ rw (all, more) refl in
    leaves_first c.args.bytes.now.items c.args.text.now before c.loop-byte.rest.now c.in-Some.after.now after part c.loop-byte.invariant c.in-Some.ensures.part appended
