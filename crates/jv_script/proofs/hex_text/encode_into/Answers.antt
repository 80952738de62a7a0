use Rattle.std.proofs.Common.{arith}
use Rattle.jv_script.proofs.HexTextLaws.{digits_from_places, one_pair_more}
use Rattle.jv_script.proofs.hex_text.encode_into.Goals as goal

pub loop-i-preserved : goal.loop-i-preserved
loop-i-preserved c = rw (c.computed_digit.ensures, c.computed_digit-in-loop-i.ensures)
    (one_pair_more c.args.bytes.now c.loop-i.digits c.loop-i.i (omega arith) c.loop-i.invariant)

pub returns : goal.returns
returns c =
    digits_from_places c.args.bytes.now c.loop-i.digits (omega arith) (λ k below. c.loop-i.invariant k (omega arith))
