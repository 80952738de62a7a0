-- None of the handles so far is on the inode but the one itself.
use Rattle.std.proofs.Common.{◌≡◌, drop}
use Rattle.jv_client_handles.proofs.OpenLaws.{is_on_other}
use Rattle.jv_client_handles.proofs.table.is_open_elsewhere.Given as goal

abbrev pub invariant-loop-index : goal.invariant-loop-index
invariant-loop-index l =
    is_on_other l.place l.inode l.index (drop l.index l.handles) ≡ is_on_other l.place l.inode 0 l.handles
