use Rattle.std.proofs.Common.{arith}
use Rattle.jv_script.proofs.RepeatLaws.{first_repeat}
use Rattle.jv_script.proofs.repeats.repeat_length.Goals as goal

pub returns-then-byte-first : goal.returns-then-byte-first
returns-then-byte-first c = first_repeat c.args.bytes.now c.loop-i.i (omega arith) (omega arith) c.loop-i.invariant (λ _. c.if-byte-first.true)

pub returns : goal.returns
returns c = first_repeat c.args.bytes.now _ (omega arith) (omega arith) (λ k below. c.loop-i.invariant k (omega arith)) (λ past. absurd (omega arith))
