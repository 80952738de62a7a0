use Rattle.std.proofs.Common.{sym, ◌∙◌}
use Rattle.jv_model.specs.promise.script.Grammar.{bytes_of_parts}
use Rattle.jv_model.proofs.TestLaws.{none_if}
use Rattle.jv_model.specs.promise.Lists.{parted}
use Rattle.jv_script.proofs.data.out_of_memory.Goals as goal

pub returns-then-are_parts : goal.returns-then-are_parts
returns-then-are_parts c = sym c.are_parts.ensures ∙ c.if-are_parts.true

pub returns-else-are_parts : goal.returns-else-are_parts
returns-else-are_parts c = none_if (bytes_of_parts (parted 43 c.args.text.now)) (sym c.are_parts.ensures ∙ c.if-are_parts.false)
