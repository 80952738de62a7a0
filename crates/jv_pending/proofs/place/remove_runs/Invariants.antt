use Rattle.std.proofs.Common.{◌≡◌, length}
use Rattle.jv_pending.specs.Runs.{place_of, Rise, runs_before, runs_from}
use Rattle.jv_pending.proofs.place.remove_runs.Given as goal

abbrev pub invariant-loop-start : goal.invariant-loop-start
invariant-loop-start l = record {
  rise : Rise 0 l.runs.entries;
  before : runs_before (place_of l.first) l.runs.entries ≡ runs_before (place_of l.first) l.initial.runs.entries;
  after : runs_from (place_of l.end) l.runs.entries ≡ runs_from (place_of l.end) l.initial.runs.entries;
}

abbrev pub decreases-loop-start : goal.decreases-loop-start
decreases-loop-start l = length l.runs.entries
