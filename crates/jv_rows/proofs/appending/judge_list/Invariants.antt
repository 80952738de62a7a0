use Rattle.std.proofs.Common.{◌≡◌, ◌-◌}
use Rattle.jv_model.specs.promise.rows.RowGrammar.{records_at}
use Rattle.jv_rows.proofs.counts.AppendingLaws.{is_well}
use Rattle.jv_rows.proofs.appending.judge_list.Given as goal

abbrev pub invariant-loop : goal.invariant-loop
invariant-loop l = is_well (records_at (l.count - l.counter) l.rest) ≡ is_well (records_at l.count l.bytes)
