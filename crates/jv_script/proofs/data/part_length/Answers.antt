use Rattle.std.proofs.Common.{sym, ◌∙◌, ap, Some, option_map}
use Rattle.jv_model.specs.promise.script.Grammar.{part_length}
use Rattle.jv_script.proofs.PartLaws.{part_of_pairs, part_of_other, length-bytes_of_digits}
use Rattle.jv_script.proofs.data.part_length.Goals as goal

pub returns-then-is_pairs : goal.returns-then-is_pairs
returns-then-is_pairs c =
    sym (ap (λ part. option_map part_length part) (part_of_pairs c.args.part.now (sym c.is_pairs.ensures ∙ c.if-is_pairs.true)) ∙ ap Some (length-bytes_of_digits c.args.part.now))

pub returns-in_err-count : goal.returns-in_err-count
returns-in_err-count c =
    c.from_residual.ensures ∙ ap (λ part. option_map part_length part) (c.in_err-count.ensures ∙ sym (part_of_other c.args.part.now (sym c.is_pairs.ensures ∙ c.if-is_pairs.false)))

pub returns : goal.returns
returns c =
    ap (λ part. option_map part_length part) (c.in_ok-count.ensures ∙ sym (part_of_other c.args.part.now (sym c.is_pairs.ensures ∙ c.if-is_pairs.false)))
