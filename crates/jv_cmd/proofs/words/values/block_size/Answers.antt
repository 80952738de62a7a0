use Rattle.std.proofs.Common.{◌*◌, ◌∙◌, arith, sym}
use Rattle.std.proofs.lemmas.Grind.{common_steps}
use Rattle.jv_cmd.specs.promise.Values.{block_size_of}
use Rattle.jv_cmd.proofs.asked.ValuesLaws.{block_is_small, no_block}
use Rattle.jv_cmd.proofs.words.values.block_size.Goals as goal

pub returns-in_err-bytes : goal.returns-in_err-bytes
unfolding block_size_of
returns-in_err-bytes c = grind (arith, common_steps, no_block (c.in_ok-number.field-0 * c.unit.result))

pub overflow_cast-result : goal.overflow_cast-result
overflow_cast-result c = omega (arith, block_is_small c.in_ok-bytes.bytes (sym c.is_block_size.ensures ∙ c.if-not-is_block_size.false))
