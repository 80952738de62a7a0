use Rattle.std.proofs.Common.{[], refl, ap, ◌∙◌, option_map}
use Rattle.jv_model.specs.declared.tables.TheConstants.{TABLE_OF_SUSTAINED}
use Rattle.jv_model.specs.declared.row.Row.TheVariants.{OfSustained}
use Rattle.jv_model.specs.promise.rows.RowGrammar.{row_of}
use Rattle.jv_rows.specs.Tables.{sustained_row}
use Rattle.jv_rows.proofs.grammars.ExactRowLaws.{sustained_exact}
use Rattle.jv_rows.proofs.grammar.UnitSpelled.spell.Goals as goal

pub returns : goal.returns
returns c = ap (row_of TABLE_OF_SUSTAINED) c.new.ensures ∙ sustained_row [] ∙ ap (option_map (λ _. OfSustained)) (sustained_exact.again tt tt refl)
