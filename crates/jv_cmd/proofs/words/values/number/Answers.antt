use Rattle.std.proofs.Common.{◌+◌, ◌∙◌, arith, sym}
use Rattle.std.proofs.lemmas.Grind.{pow_more}
use Rattle.jv_cmd.proofs.asked.ValuesLaws.{digit_at, power_few}
use Rattle.jv_cmd.proofs.words.values.number.Goals as goal

pub overflow_mul-number : goal.overflow_mul-number
overflow_mul-number c = omega (arith, pow_more 10 c.loop-digit.digit-index, power_few (c.loop-digit.digit-index + 1) (omega arith))

pub overflow_add-number : goal.overflow_add-number
overflow_add-number c =
    let digit = digit_at c.args.text.now c.loop-digit.digit-index (sym c.is_numeral.ensures ∙ c.if-not-is_numeral.false) (omega arith) in
    omega (arith, digit, pow_more 10 c.loop-digit.digit-index, power_few (c.loop-digit.digit-index + 1) (omega arith))
