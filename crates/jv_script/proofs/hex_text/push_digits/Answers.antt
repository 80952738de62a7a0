use Rattle.std.proofs.Common.{◌≡◌, List, ℕ, ◌-◌, ◌+◌, ◌*◌, replicate, arith, ◌∙◌, ap, ◌++◌, length, vec_len}
use Rattle.std.proofs.lemmas.List.{take_all, length-replicate}
use Rattle.std.proofs.lemmas.Grind.{common_steps}
use Rattle.jv_script.proofs.HexTextLaws.{pairs_len, tail_written}
use Rattle.jv_script.proofs.hex_text.push_digits.Goals as goal

pub returns : goal.returns
returns c =
    let old = c.args.text.now.items in
    let end = c.in_ok-end.end in
    let sum : end ≡ length old + 2 * length c.args.bytes.now = grind (arith, common_steps, c.args.text.now.ok.0) in
    let more : List ℕ = replicate (end - vec_len c.args.text.now) 0 in
    let written = c.encode_into.ensures in
    let longer : c.resize.new.self.items ≡ old ++ more = c.in_ok-resize.ensures.items ∙ ap (λ (front : List ℕ). front ++ more) (take_all end old (omega arith)) in
    tail_written old more c.deref_mut.result.now c.resize.new.self.items c.encode_into.new.digits c.len-start.result c.resize.new.self.len
    (omega (arith, c.args.text.now.ok.0)) longer c.deref_mut.ensures.value
    (omega (arith, c.args.text.now.ok.0, length-replicate {A = ℕ} (end - vec_len c.args.text.now) 0, ap length written, pairs_len c.args.bytes.now))
    (omega (arith, c.resize.new.self.ok.0))
    ∙ ap (λ (text : List ℕ). old ++ text) written
