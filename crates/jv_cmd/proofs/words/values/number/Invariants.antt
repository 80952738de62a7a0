use Rattle.std.proofs.Common.{◌≡◌, ◌<◌, ◌^◌, take}
use Rattle.jv_model.specs.promise.script.Spelling.{value_of}
use Rattle.jv_cmd.proofs.words.values.number.Given as goal

abbrev pub invariant-loop-digit : goal.invariant-loop-digit
invariant-loop-digit l = record { value : l.number ≡ value_of 10 (take l.digit-index l.text); small : l.number < 10 ^ l.digit-index }
