use Rattle.std.proofs.Common.{arith}
use Rattle.jv_rows.proofs.grammars.ExactRowLaws.{node_exact}
use Rattle.jv_rows.proofs.grammars.SoundLaws.{sound}
use Rattle.jv_rows.proofs.grammar.NodeGrammar.parse.Goals as goal

pub returns-clause-sound : goal.returns-clause-sound
returns-clause-sound c = sound node_exact c.args.bytes.now c.parse_node.result (λ i. omega (arith, c.type_inv.bytes i)) c.parse_node.ensures
