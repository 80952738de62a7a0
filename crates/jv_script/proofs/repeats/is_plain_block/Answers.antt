use Rattle.std.proofs.Common.{rules, arith, ◌≡◌, List, ℕ, false, drop, sym, ap, ◌∙◌}
use Rattle.jv_script.specs.Printing.{begins_long}
use Rattle.jv_script.proofs.RepeatLaws.{no_long_in_front}
use Rattle.jv_script.proofs.repeats.is_plain_block.Goals as goal

pub returns-clause-plain : goal.returns-clause-plain
returns-clause-plain c = λ plain.
    let off : c.may_have_long_repeat.result ≡ false = search rules in
    no_long_in_front c.args.bytes.now 64 (omega arith) (λ k below. ap (λ (seen : List ℕ). begins_long (drop k seen)) (sym c.split_at.ensures.front) ∙ c.may_have_long_repeat.ensures off k (omega (arith, c.split_at.ensures.front_len)))
