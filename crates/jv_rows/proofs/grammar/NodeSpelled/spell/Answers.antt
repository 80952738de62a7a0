use Rattle.jv_model.specs.declared.row.Row.TheVariants.{OfNode}
use Rattle.jv_rows.specs.Tables.{node_row}
use Rattle.jv_rows.proofs.grammars.ExactRowLaws.{node_exact}
use Rattle.jv_rows.proofs.grammars.SpelledLaws.{spelled_row}
use Rattle.jv_rows.proofs.grammar.NodeSpelled.spell.Goals as goal

pub returns : goal.returns
returns c = spelled_row node_exact OfNode 2 node_row c.args.self.now c.has_node_widths.ensures c.requires c.spell_node.result c.spell_node.ensures
