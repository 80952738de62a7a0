use Rattle.std.proofs.Common.{refl, sym, ◌∙◌}
use Rattle.jv_cmd.specs.promise.Run.{LineUnbuilt}
use Rattle.jv_cmd.proofs.lines.read_built.Goals as goal

pub returns-else-is_built : goal.returns-else-is_built
returns-else-is_built c = (refl, LineUnbuilt c.in-Ok.line c.in-Ok.ensures.read (sym c.is_built.ensures ∙ c.if-is_built.false))
