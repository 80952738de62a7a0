use Rattle.std.proofs.Common.{◌≡◌, ℕ, take}
use Rattle.std.specs.Ordering.{nat_cmp}
use Rattle.std.specs.BTreeMap.{get}
use Rattle.jv_rows.specs.Counts.{stored_count}
use Rattle.jv_rows.proofs.adjusting.count_records.Given as goal

abbrev pub invariant-loop-record : goal.invariant-loop-record
invariant-loop-record l = (id : ℕ) → get nat_cmp l.counts id ≡ stored_count (take l.record-index l.records) id
