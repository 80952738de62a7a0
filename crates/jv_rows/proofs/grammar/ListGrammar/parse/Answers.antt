use Rattle.std.proofs.Common.{arith}
use Rattle.jv_rows.proofs.grammars.ExactListLaws.{list_exact}
use Rattle.jv_rows.proofs.grammars.SoundLaws.{sound}
use Rattle.jv_rows.proofs.grammar.ListGrammar.parse.Goals as goal

pub returns-clause-sound : goal.returns-clause-sound
returns-clause-sound c = sound list_exact c.args.bytes.now c.parse_list.result (λ i. omega (arith, c.type_inv.bytes i)) c.parse_list.ensures
