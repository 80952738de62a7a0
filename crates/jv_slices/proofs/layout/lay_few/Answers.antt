use Rattle.std.proofs.Common.{refl}
use Rattle.jv_model.specs.promise.blocks.Slices.{visible}
use Rattle.jv_slices.proofs.StretchLaws.{layout_none}
use Rattle.jv_slices.proofs.layout.lay_few.Goals as goal

pub returns : goal.returns
returns c =
    let all = visible c.args.records.now in
    c.in_ok-show_records.ensures all c.args.from
    (layout_none all c.args.from c.in_ok-stretches.stretches.items c.in_ok-stretches.ensures.items) c.requires.rising (λ q low high. refl)
