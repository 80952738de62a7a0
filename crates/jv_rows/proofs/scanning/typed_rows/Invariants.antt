use Rattle.std.proofs.Common.{length}
use Rattle.jv_rows.proofs.scans.ScanLaws.{IsReadSoFar}
use Rattle.jv_rows.proofs.scanning.typed_rows.Given as goal

abbrev pub invariant-loop-key : goal.invariant-loop-key
invariant-loop-key l = IsReadSoFar l.fn.rows (length l.yielded) l.list
