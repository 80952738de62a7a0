use Rattle.jv_model.specs.declared.row.Row.TheVariants.{OfSession}
use Rattle.jv_rows.specs.Tables.{session_row}
use Rattle.jv_rows.proofs.grammars.ExactRowLaws.{session_exact}
use Rattle.jv_rows.proofs.grammars.SpelledLaws.{spelled_row}
use Rattle.jv_rows.proofs.grammar.SessionSpelled.spell.Goals as goal

pub returns : goal.returns
returns c = spelled_row session_exact OfSession 6 session_row c.args.self.now c.has_session_widths.ensures c.requires c.spell_session.result c.spell_session.ensures
