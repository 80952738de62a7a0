use Rattle.jv_model.specs.declared.row.Row.TheVariants.{OfDead}
use Rattle.jv_rows.specs.Tables.{dead_row}
use Rattle.jv_rows.proofs.grammars.ExactRowLaws.{dead_exact}
use Rattle.jv_rows.proofs.grammars.SpelledLaws.{spelled_row}
use Rattle.jv_rows.proofs.grammar.DeadSpelled.spell.Goals as goal

pub returns : goal.returns
returns c = spelled_row dead_exact OfDead 9 dead_row c.args.self.now c.has_dead_widths.ensures c.requires c.spell_dead.result c.spell_dead.ensures
