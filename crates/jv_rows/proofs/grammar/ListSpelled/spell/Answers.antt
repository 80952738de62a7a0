use Rattle.jv_model.specs.declared.row.Row.TheVariants.{OfList}
use Rattle.jv_rows.specs.Tables.{list_row}
use Rattle.jv_rows.proofs.grammars.ExactListLaws.{list_exact}
use Rattle.jv_rows.proofs.grammars.SpelledLaws.{spelled_row}
use Rattle.jv_rows.proofs.grammar.ListSpelled.spell.Goals as goal

pub returns : goal.returns
returns c = spelled_row list_exact OfList 4 list_row c.args.self.now c.has_list_widths.ensures c.requires c.spell_list.result c.spell_list.ensures
