use Rattle.std.proofs.Common.{◌≡◌, ◌++◌, take}
use Rattle.jv_model.specs.promise.script.ReplyText.{name_text}
use Rattle.jv_script.proofs.names.push_name.Given as goal

abbrev pub invariant-loop-byte : goal.invariant-loop-byte
invariant-loop-byte l = l.text.items ≡ l.fn.text.items ++ name_text (take l.byte-index l.name)
