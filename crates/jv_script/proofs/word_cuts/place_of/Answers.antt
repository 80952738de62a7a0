use Rattle.std.proofs.Common.{arith, Some, None}
use Rattle.memchr.specs.Find.{is_byte}
use Rattle.jv_script.proofs.CutLaws.{first_far}
use Rattle.jv_script.proofs.word_cuts.place_of.Goals as goal

pub returns-in_err-far : goal.returns-in_err-far
returns-in_err-far c = rw c.from_residual.ensures (first_far (is_byte c.args.byte) c.min-near.result c.args.text.now None (omega arith) (λ k low below. c.loop-i.invariant k (omega arith)) c.in_err-far.ensures)

pub returns : goal.returns
returns c = first_far (is_byte c.args.byte) c.min-near.result c.args.text.now (Some c.in_ok-far.far) (omega arith) (λ k low below. c.loop-i.invariant k (omega arith)) c.in_ok-far.ensures
