use Rattle.std.proofs.Common.{arith, ◌≡◌, List, ℕ, length, drop, true, sym, ap, ◌∙◌}
use Rattle.jv_script.specs.Printing.{begins_long}
use Rattle.jv_script.proofs.RepeatLaws.{plain_part, not_first, none_after}
use Rattle.jv_script.proofs.repeats.plain_length.Goals as goal

pub returns-then-begins_long_repeat : goal.returns-then-begins_long_repeat
returns-then-begins_long_repeat c =
    let bytes = c.args.bytes.now in
    let end = c.loop-end.end in
    let long : begins_long (drop end bytes) ≡ true = ap begins_long (sym c.split_at.ensures.back) ∙ sym c.begins_long_repeat.ensures ∙ c.if-begins_long_repeat.true in
    let some = not_first bytes end c.requires.plain long in
    record { some = some; within = c.loop-end.invariant.within; parts = plain_part end bytes some c.loop-end.invariant.within c.loop-end.invariant.plain (λ more. long) }

pub loop-end-preserved : goal.loop-end-preserved
loop-end-preserved c =
    let after = c.plain_step-end.ensures in
    record {
      within = omega (arith, after.within, c.split_at.ensures.back_len);
      plain = none_after c.loop-end.end c.plain_step-end.result c.args.bytes.now c.loop-end.invariant.plain
          (λ k below. ap (λ (after : List ℕ). begins_long (drop k after)) (sym c.split_at.ensures.back) ∙ after.plain k below);
    }

pub returns : goal.returns
returns c =
    let bytes = c.args.bytes.now in
    record {
      some = c.requires.some;
      within = omega arith;
      parts = plain_part (length bytes) bytes c.requires.some (omega arith) (λ k below. c.loop-end.invariant.plain k (omega arith)) (λ more. absurd (omega arith));
    }
