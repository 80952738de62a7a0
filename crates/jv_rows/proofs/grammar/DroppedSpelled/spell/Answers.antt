use Rattle.jv_model.specs.declared.row.Row.TheVariants.{OfDropped}
use Rattle.jv_rows.specs.Tables.{dropped_row}
use Rattle.jv_rows.proofs.grammars.ExactRowLaws.{dropped_exact}
use Rattle.jv_rows.proofs.grammars.SpelledLaws.{spelled_row}
use Rattle.jv_rows.proofs.grammar.DroppedSpelled.spell.Goals as goal

pub returns : goal.returns
returns c = spelled_row dropped_exact OfDropped 8 dropped_row c.args.self.now c.has_dropped_widths.ensures c.requires c.spell_dropped.result c.spell_dropped.ensures
