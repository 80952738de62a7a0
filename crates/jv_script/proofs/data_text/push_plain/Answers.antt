use Rattle.std.proofs.Common.{arith, List, ℕ, ◌++◌, length, not, ◌==◌, ap, ◌∙◌}
use Rattle.jv_model.specs.promise.script.Printed.{Plain}
use Rattle.jv_script.specs.Printing.{joint}
use Rattle.jv_script.proofs.DataTextLaws.{part_printed}
use Rattle.jv_script.proofs.data_text.push_plain.Goals as goal

pub returns : goal.returns
returns c =
    let front = c.plain_length.ensures in
    let old = c.args.text.now.items ++ c.args.waiting.now.items in
    let new = c.push_joint.new.text.items ++ c.push_joint.new.waiting.items in
    let plain = c.split_at.result.0.now in
    let rest = c.split_at.result.1.now in
    let after = joint (not (length rest == 0)) in
    let closed = rw c.is_empty.ensures at c.in_ok-push_joint.ensures in
    record {
      text = part_printed old new c.args.bytes.now rest (Plain plain)
          (closed ∙ ap (λ (text : List ℕ). text ++ after) c.in_ok-push_bytes.ensures)
          (rw (c.split_at.ensures.front, c.split_at.ensures.back) front.parts);
      fewer = omega (arith, front.some, front.within, c.split_at.ensures.back_len);
    }
