use Rattle.std.proofs.Common.{◌≡◌, ◌++◌, take}
use Rattle.jv_model.specs.promise.script.ReplyText.{path_text}
use Rattle.jv_script.proofs.names.push_path.Given as goal

abbrev pub invariant-loop-byte : goal.invariant-loop-byte
invariant-loop-byte l = l.text.items ≡ l.fn.text.items ++ path_text (take l.byte-index l.path)
