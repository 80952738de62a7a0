use Rattle.std.proofs.Common.{◌∙◌}
use Rattle.jv_rows.proofs.grammars.BoundLaws.{text_test}
use Rattle.jv_rows.proofs.allowed.is_text.Goals as goal

pub returns : goal.returns
returns c = c.is_ok.ensures.value ∙ text_test c.args.bytes.now _ _ c.from_utf8.result c.from_utf8.ensures.cases
