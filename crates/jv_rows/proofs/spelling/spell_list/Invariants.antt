use Rattle.std.proofs.Common.{◌≡◌, take}
use Rattle.std.specs.List.{flat_map}
use Rattle.jv_model.specs.promise.rows.RowGrammar.{record_bytes}
use Rattle.jv_rows.proofs.spelling.spell_list.Given as goal

abbrev pub invariant-loop-record : goal.invariant-loop-record
invariant-loop-record l = l.out.items ≡ flat_map record_bytes (take l.record-index l.record-items)
