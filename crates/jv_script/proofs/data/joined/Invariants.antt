use Rattle.std.proofs.Common.{◌≡◌, length}
use Rattle.std.specs.Option.{option_copied}
use Rattle.jv_model.specs.promise.script.Grammar.{bytes_of_parts}
use Rattle.jv_model.specs.promise.Lists.{parted}
use Rattle.jv_script.specs.Reading.{parts_after, bytes_after}
use Rattle.jv_script.proofs.data.joined.Given as goal

-- what is there and the parts that are left are the whole
abbrev pub invariant-loop-rest : goal.invariant-loop-rest
invariant-loop-rest l = bytes_of_parts (parted 43 l.text) ≡ bytes_after l.bytes.items (parts_after 43 (option_copied l.rest))

abbrev pub decreases-loop-rest : goal.decreases-loop-rest
decreases-loop-rest l = length (parts_after 43 (option_copied l.rest))
