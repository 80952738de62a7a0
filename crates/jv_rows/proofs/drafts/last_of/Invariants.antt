use Rattle.std.proofs.Common.{◌≡◌, ◌≤◌, length, take}
use Rattle.jv_rows.specs.Drafts.{last_change}
use Rattle.jv_rows.proofs.drafts.last_of.Given as goal

abbrev pub invariant-loop-rest : goal.invariant-loop-rest
invariant-loop-rest l = record {
  within : l.rest ≤ length l.changes;
  last : last_change l.key (take l.rest l.changes) ≡ last_change l.key l.changes;
}

abbrev pub decreases-loop-rest : goal.decreases-loop-rest
decreases-loop-rest l = l.rest
