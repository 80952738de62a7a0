use Rattle.std.proofs.Common.{arith}
use Rattle.jv_rows.proofs.grammars.AnyRowLaws.{row_sound}
use Rattle.jv_rows.proofs.scanning.parse_row.Goals as goal

pub returns-clause-sound : goal.returns-clause-sound
returns-clause-sound c = row_sound c.args.tab c.args.bytes.now c.row_in.result (λ i. omega (arith, c.type_inv.bytes i)) c.row_in.ensures
