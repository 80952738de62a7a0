use Rattle.std.proofs.Common.{◌≡◌, false, ◌-◌}
use Rattle.jv_script.specs.Printing.{HasNoLongBefore}
use Rattle.jv_script.proofs.repeats.may_have_long_repeat.Given as goal

abbrev pub invariant-loop-i : goal.invariant-loop-i
invariant-loop-i l = l.found ≡ false → HasNoLongBefore (l.i - 3) l.bytes
