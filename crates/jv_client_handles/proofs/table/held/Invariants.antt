-- The inodes so far, with those of the handles that are left, are all.
use Rattle.std.proofs.Common.{◌≡◌, ◌++◌, drop}
use Rattle.jv_client_handles.specs.Handles.{held_here}
use Rattle.jv_client_handles.proofs.table.held.Given as goal

abbrev pub invariant-loop-open : goal.invariant-loop-open
invariant-loop-open l = l.inodes.items ++ held_here (drop l.open-index l.handles) ≡ held_here l.handles
