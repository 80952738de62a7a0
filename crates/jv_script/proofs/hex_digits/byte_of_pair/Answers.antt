use Rattle.std.proofs.Common.{arith, ◌<◌, get_or}
use Rattle.std.proofs.lemmas.Bool.Decides.{nat_tests}
use Rattle.jv_script.specs.declared.hex_digits.TheConstants.{VALUES}
use Rattle.jv_script.proofs.HexValueLaws.{pair_read, pair_refused}
use Rattle.jv_script.proofs.hex_digits.byte_of_pair.Goals as goal

pub returns-then-high-low : goal.returns-then-high-low
returns-then-high-low c =
    let high : get_or VALUES c.args.high 0 < 16 = grind (arith, nat_tests) in
    let low : get_or VALUES c.args.low 0 < 16 = grind (arith, nat_tests) in
    pair_read c.args.high c.args.low (omega arith) (omega arith) high low

pub returns-else-high-low : goal.returns-else-high-low
returns-else-high-low c = pair_refused c.args.high c.args.low (omega arith) (omega arith) (λ high low. grind (arith, nat_tests, high, low))
