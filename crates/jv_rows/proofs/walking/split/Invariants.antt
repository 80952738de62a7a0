use Rattle.std.proofs.Common.{◌≡◌, ◌++◌, drop}
use Rattle.jv_model.specs.promise.tree.Walk.{names_of}
use Rattle.jv_rows.proofs.grammars.NamesLaws.{names_from}
use Rattle.jv_rows.proofs.walking.split.Given as goal

abbrev pub invariant-loop-byte : goal.invariant-loop-byte
invariant-loop-byte l = l.names ++ names_from l.name (drop l.byte-index l.path) ≡ names_of l.path
