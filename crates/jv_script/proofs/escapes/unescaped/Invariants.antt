use Rattle.std.proofs.Common.{◌≡◌, ◌++◌, length, true, Some}
use Rattle.std.specs.Option.{option_copied}
use Rattle.std.specs.List.{list_all, flat_map}
use Rattle.jv_model.specs.promise.script.Grammar.{is_escape, escape_bytes, unescaped}
use Rattle.jv_script.specs.Reading.{parts_after}
use Rattle.jv_script.proofs.escapes.unescaped.Given as goal

-- what is there and the escapes that are left are the whole
abbrev pub invariant-loop-rest : goal.invariant-loop-rest
invariant-loop-rest l = record {
  sound : list_all is_escape (parts_after 37 (option_copied l.rest)) ≡ true;
  whole : unescaped l.text ≡ Some (l.bytes.items ++ flat_map escape_bytes (parts_after 37 (option_copied l.rest)));
}

abbrev pub decreases-loop-rest : goal.decreases-loop-rest
decreases-loop-rest l = length (parts_after 37 (option_copied l.rest))
