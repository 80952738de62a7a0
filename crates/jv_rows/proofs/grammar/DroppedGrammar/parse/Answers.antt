use Rattle.std.proofs.Common.{arith}
use Rattle.jv_rows.proofs.grammars.ExactRowLaws.{dropped_exact}
use Rattle.jv_rows.proofs.grammars.SoundLaws.{sound}
use Rattle.jv_rows.proofs.grammar.DroppedGrammar.parse.Goals as goal

pub returns-clause-sound : goal.returns-clause-sound
returns-clause-sound c = sound dropped_exact c.args.bytes.now c.parse_dropped.result (λ i. omega (arith, c.type_inv.bytes i)) c.parse_dropped.ensures
