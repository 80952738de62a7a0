use Rattle.std.proofs.Common.{◌∙◌, ap, is_some}
use Rattle.jv_script.proofs.EscapeLaws.{target_by_first}
use Rattle.jv_script.proofs.escapes.is_target.Goals as goal

pub returns : goal.returns
returns c = c.is_some.ensures ∙ ap (λ v. is_some v) c.first_byte.ensures ∙ target_by_first c.args.text.now
