use Rattle.std.proofs.Common.{◌≡◌, ◌<◌, ◌^◌, take}
use Rattle.jv_model.specs.promise.script.Spelling.{value_of}
use Rattle.jv_script.proofs.fields.number.Given as goal

abbrev pub invariant-loop-digit : goal.invariant-loop-digit
invariant-loop-digit l = record { value : l.number ≡ value_of 10 (take l.digit-index l.digits); small : l.number < 2 ^ 64 }
