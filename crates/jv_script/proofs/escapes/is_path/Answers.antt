use Rattle.std.proofs.Common.{sym, ◌∙◌}
use Rattle.jv_script.proofs.EscapeLaws.{path_of_some, path_of_none}
use Rattle.jv_script.proofs.escapes.is_path.Goals as goal

pub returns-in-Some : goal.returns-in-Some
returns-in-Some c = path_of_some c.args.text.now c.in-Some.byte (sym c.in-Some.is ∙ c.first_byte.ensures)

pub returns-in-None : goal.returns-in-None
returns-in-None c = path_of_none c.args.text.now (sym c.in-None.is ∙ c.first_byte.ensures)
