use Rattle.std.proofs.Common.{take}
use Rattle.jv_rows.specs.RoundTrips.{ListWidths}
use Rattle.jv_rows.proofs.widths.has_list_widths.Given as goal

abbrev pub invariant-loop-record : goal.invariant-loop-record
invariant-loop-record l = ListWidths (take l.record-index l.record-items)
