use Rattle.std.proofs.Common.{◌≡◌, ◌++◌, length}
use Rattle.jv_model.specs.promise.script.Spelling.{bytes_of_digits}
use Rattle.jv_script.proofs.PartLaws.{all_paired}
use Rattle.jv_script.proofs.data.push_few_pairs.Given as goal

-- what is there and what is left are the whole
abbrev pub invariant-loop-rest : goal.invariant-loop-rest
invariant-loop-rest l = record {
  whole : l.initial.bytes.items ++ bytes_of_digits l.digits ≡ l.bytes.items ++ bytes_of_digits l.rest;
  paired : all_paired l.digits ≡ all_paired l.rest;
}

abbrev pub decreases-loop-rest : goal.decreases-loop-rest
decreases-loop-rest l = length l.rest
