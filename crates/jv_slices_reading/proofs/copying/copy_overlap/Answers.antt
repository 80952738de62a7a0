use Rattle.std.proofs.Common.{◌+◌, ◌-◌, arith}
use Rattle.jv_slices_reading.proofs.CopyLaws.{copied_one}
use Rattle.jv_slices_reading.proofs.copying.copy_overlap.Goals as goal

pub returns : goal.returns
returns c = λ byte has.
    let o = c.args.overlap in
    copied_one byte c.args.bytes.now c.copy_from_slice.new.self c.args.block.now o (o.start + o.len - o.start) (omega arith) c.requires c.copy_from_slice.ensures.after has
