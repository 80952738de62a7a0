use Rattle.std.proofs.Common.{◌≤◌, length}
use Rattle.jv_files.proofs.folder.Folder.list.Given as goal

abbrev pub invariant-loop : goal.invariant-loop
invariant-loop l = length l.found ≤ l.counter
