use Rattle.std.proofs.Common.{◌≡◌, ◌++◌, length}
use Rattle.jv_model.specs.promise.script.Printed.{data_text}
use Rattle.jv_script.specs.Printing.{rest_text}
use Rattle.jv_script.proofs.data_text.push_data.Given as goal

-- what is printed, what waits and the bytes to come are the whole
abbrev pub invariant-loop-rest : goal.invariant-loop-rest
invariant-loop-rest l = (l.text.items ++ l.waiting.items) ++ rest_text l.rest ≡ l.fn.text.items ++ data_text l.bytes

abbrev pub decreases-loop-rest : goal.decreases-loop-rest
decreases-loop-rest l = length l.rest
