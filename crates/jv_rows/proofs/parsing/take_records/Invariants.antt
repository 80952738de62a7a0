use Rattle.std.proofs.Common.{◌≡◌, ◌-◌}
use Rattle.jv_model.specs.promise.rows.RowGrammar.{records_at}
use Rattle.jv_rows.proofs.grammars.RecordLaws.{with_front}
use Rattle.jv_rows.proofs.parsing.take_records.Given as goal

abbrev pub invariant-loop : goal.invariant-loop
invariant-loop l = with_front l.records.items (records_at (l.count - l.counter) l.rest) ≡ records_at l.count l.bytes
