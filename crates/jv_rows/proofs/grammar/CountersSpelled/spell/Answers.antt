use Rattle.jv_model.specs.declared.row.Row.TheVariants.{OfCounters}
use Rattle.jv_rows.specs.Tables.{counters_row}
use Rattle.jv_rows.proofs.grammars.ExactRowLaws.{counters_exact}
use Rattle.jv_rows.proofs.grammars.SpelledLaws.{spelled_row}
use Rattle.jv_rows.proofs.grammar.CountersSpelled.spell.Goals as goal

pub returns : goal.returns
returns c = spelled_row counters_exact OfCounters 1 counters_row c.args.self.now c.has_counters_widths.ensures c.requires c.spell_counters.result c.spell_counters.ensures
