use Rattle.std.proofs.Common.{◌≡◌, ◌++◌, map, take, drop}
use Rattle.jv_client_handles.specs.Handles.{unseen}
use Rattle.jv_client_handles.proofs.table.forget_views.Given as goal

abbrev pub invariant-loop-open : goal.invariant-loop-open
invariant-loop-open l =
    l.handles ≡ map (unseen l.inode) (take l.open-index l.initial.handles) ++ drop l.open-index l.initial.handles
