use Rattle.std.proofs.Common.{arith, sym, ◌∙◌}
use Rattle.std.proofs.lemmas.Grind.{common_steps}
use Rattle.jv_model.proofs.TestLaws.{none_if}
use Rattle.jv_script.proofs.EscapeLaws.{target_is_spelled}
use Rattle.jv_script.proofs.escapes.target.Goals as goal

pub returns-then-not-is_target : goal.returns-then-not-is_target
returns-then-not-is_target c = none_if _ (sym c.is_target.ensures ∙ c.if-not-is_target.true)

pub unescaped-requires : goal.unescaped-requires
unescaped-requires c = (target_is_spelled c.args.text.now (sym c.is_target.ensures ∙ c.if-not-is_target.false)).0

pub returns : goal.returns
returns c =
    let spelled = target_is_spelled c.args.text.now (sym c.is_target.ensures ∙ c.if-not-is_target.false) in
    rw spelled.1 (grind (arith, common_steps, spelled.0))
