use Rattle.std.proofs.Common.{arith, get_or, ◌++◌}
use Rattle.jv_script.proofs.RepeatLaws.{long_part, long_first}
use Rattle.jv_script.proofs.DataTextLaws.{part_printed}
use Rattle.jv_model.specs.promise.script.Printed.{Repeated}
use Rattle.jv_script.proofs.data_text.push_long.Goals as goal

pub returns : goal.returns
returns c =
    let bytes = c.args.bytes.now in
    let n = c.long_repeat_length-count.result in
    let repeat = c.long_repeat_length-count.ensures in
    let old = c.args.text.now.items ++ c.args.waiting.now.items in
    let new = c.push_repeat.new.text.items ++ c.push_repeat.new.waiting.items in
    record {
      text = part_printed old new bytes c.split_at.result.1.now (Repeated (record { byte = get_or bytes 0 0; count = n }))
          (rw c.is_empty.ensures at c.in_ok-push_repeat.ensures)
          (rw c.split_at.ensures.back (long_part bytes n repeat (long_first bytes n c.requires repeat)));
      fewer = omega (arith, repeat.some, repeat.within, c.split_at.ensures.back_len);
    }
