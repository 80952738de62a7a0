use Rattle.std.proofs.Common.{◌≡◌, ◌++◌, take}
use Rattle.std.specs.List.{flat_map}
use Rattle.jv_model.specs.promise.script.Printed.{hex_pair}
use Rattle.jv_script.proofs.data_text.push_pairs.Given as goal

-- the bytes so far are printed
abbrev pub invariant-loop-byte : goal.invariant-loop-byte
invariant-loop-byte l =
    l.text.items ++ l.waiting.items ≡ (l.initial.text.items ++ l.initial.waiting.items) ++ flat_map hex_pair (take l.byte-index l.bytes)
