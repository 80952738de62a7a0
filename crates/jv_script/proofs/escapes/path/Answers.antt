use Rattle.std.proofs.Common.{arith, sym, ◌∙◌}
use Rattle.std.proofs.lemmas.Grind.{common_steps}
use Rattle.jv_model.proofs.TestLaws.{none_if}
use Rattle.jv_script.proofs.EscapeLaws.{path_is_spelled}
use Rattle.jv_script.proofs.escapes.path.Goals as goal

pub returns-then-not-is_path : goal.returns-then-not-is_path
returns-then-not-is_path c = none_if _ (sym c.is_path.ensures ∙ c.if-not-is_path.true)

pub unescaped-requires : goal.unescaped-requires
unescaped-requires c = (path_is_spelled c.args.text.now (sym c.is_path.ensures ∙ c.if-not-is_path.false)).0

pub returns : goal.returns
returns c =
    let spelled = path_is_spelled c.args.text.now (sym c.is_path.ensures ∙ c.if-not-is_path.false) in
    rw spelled.1 (grind (arith, common_steps, spelled.0))
