use Rattle.jv_model.specs.declared.row.Row.TheVariants.{OfEdge}
use Rattle.jv_rows.specs.Tables.{edge_row}
use Rattle.jv_rows.proofs.grammars.ExactRowLaws.{edge_exact}
use Rattle.jv_rows.proofs.grammars.SpelledLaws.{spelled_row}
use Rattle.jv_rows.proofs.grammar.EdgeSpelled.spell.Goals as goal

pub returns : goal.returns
returns c = spelled_row edge_exact OfEdge 3 edge_row c.args.self.now c.has_edge_widths.ensures c.requires c.spell_edge.result c.spell_edge.ensures
