use Rattle.std.proofs.Common.{arith, sym, ◌∙◌, ap}
use Rattle.std.specs.Option.{option_copied}
use Rattle.jv_script.specs.Reading.{parts_after}
use Rattle.jv_script.proofs.PartLaws.{length_with, length_with_none, length_with_off, length_with_more, length_with_over, no_parts, all_parts}
use Rattle.jv_script.proofs.data.are_parts.Goals as goal
use Rattle.jv_model.specs.promise.Lists.{parted}

pub returns-in_default-part_length : goal.returns-in_default-part_length
returns-in_default-part_length c =
    let total = c.loop-rest.total in
    let parts = ap (λ rest. parts_after 43 (option_copied rest)) c.in-Some.is ∙ c.cut.ensures in
    no_parts (parted 43 c.args.text.now) (c.loop-rest.invariant.whole ∙ ap (length_with total) parts
    ∙ length_with_off total c.cut.result.0.now (parts_after 43 (option_copied c.cut.result.1)) (sym c.in_default-part_length.ensures))

pub returns-then-length-total : goal.returns-then-length-total
returns-then-length-total c =
    let total = c.loop-rest.total in
    let parts = ap (λ rest. parts_after 43 (option_copied rest)) c.in-Some.is ∙ c.cut.ensures in
    no_parts (parted 43 c.args.text.now) (c.loop-rest.invariant.whole ∙ ap (length_with total) parts
    ∙ length_with_over total c.in-Some-part_length.length c.cut.result.0.now (parts_after 43 (option_copied c.cut.result.1)) (sym c.in-Some-part_length.ensures) (omega arith))

pub loop-rest-preserved : goal.loop-rest-preserved
loop-rest-preserved c =
    let total = c.loop-rest.total in
    let parts = ap (λ rest. parts_after 43 (option_copied rest)) c.in-Some.is ∙ c.cut.ensures in
    record {
      whole = c.loop-rest.invariant.whole ∙ ap (length_with total) parts
          ∙ length_with_more total c.in-Some-part_length.length c.cut.result.0.now (parts_after 43 (option_copied c.cut.result.1)) (sym c.in-Some-part_length.ensures);
      small = omega arith;
    }

pub returns : goal.returns
returns c =
    let total = c.loop-rest.total in
    all_parts (parted 43 c.args.text.now) total
    (c.loop-rest.invariant.whole ∙ ap (λ rest. length_with total (parts_after 43 (option_copied rest))) c.in_default.is ∙ length_with_none total c.loop-rest.invariant.small)
