use Rattle.std.proofs.Common.{sym, ◌∙◌}
use Rattle.jv_script.proofs.PartLaws.{part_of_with_x, part_of_without_x}
use Rattle.jv_script.proofs.data.push_part.Goals as goal

pub returns-then-has_x : goal.returns-then-has_x
returns-then-has_x c = rw (part_of_with_x c.args.part.now (sym c.has_x.ensures ∙ c.if-has_x.true)) c.push_repeated.ensures

pub returns-then-part-lt-MANY_DIGITS : goal.returns-then-part-lt-MANY_DIGITS
returns-then-part-lt-MANY_DIGITS c = rw (part_of_without_x c.args.part.now (sym c.has_x.ensures ∙ c.if-has_x.false)) c.push_few_pairs.ensures

pub returns : goal.returns
returns c = rw (part_of_without_x c.args.part.now (sym c.has_x.ensures ∙ c.if-has_x.false)) c.push_pairs.ensures
