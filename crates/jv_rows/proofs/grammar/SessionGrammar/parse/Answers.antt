use Rattle.std.proofs.Common.{arith}
use Rattle.jv_rows.proofs.grammars.ExactRowLaws.{session_exact}
use Rattle.jv_rows.proofs.grammars.SoundLaws.{sound}
use Rattle.jv_rows.proofs.grammar.SessionGrammar.parse.Goals as goal

pub returns-clause-sound : goal.returns-clause-sound
returns-clause-sound c = sound session_exact c.args.bytes.now c.parse_session.result (λ i. omega (arith, c.type_inv.bytes i)) c.parse_session.ensures
