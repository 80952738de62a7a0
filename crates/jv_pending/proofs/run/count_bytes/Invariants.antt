use Rattle.std.proofs.Common.{◌≡◌, ◌+◌, length}
use Rattle.jv_pending.specs.Runs.{place_of, pending_bytes, runs_within}
use Rattle.jv_pending.proofs.run.count_bytes.Given as goal

abbrev pub invariant-loop-bytes : goal.invariant-loop-bytes
invariant-loop-bytes l = l.count + length (pending_bytes l.bytes-iterator) ≡ length (pending_bytes (runs_within (place_of l.fn.first) (place_of l.fn.end) l.runs.entries))
