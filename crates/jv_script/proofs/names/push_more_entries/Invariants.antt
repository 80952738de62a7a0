use Rattle.std.proofs.Common.{◌≡◌, ◌++◌, ◌∷◌, take}
use Rattle.std.specs.List.{flat_map}
use Rattle.jv_model.specs.promise.script.ReplyText.{entry_text}
use Rattle.jv_script.proofs.names.push_more_entries.Given as goal

abbrev pub invariant-loop-entry : goal.invariant-loop-entry
invariant-loop-entry l = l.text.items ≡ l.fn.text.items ++ flat_map (λ entry. 32 ∷ entry_text entry) (take l.entry-index l.entries)
