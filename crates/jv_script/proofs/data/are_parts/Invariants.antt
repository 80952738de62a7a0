use Rattle.std.proofs.Common.{◌≡◌, ◌≤◌, length}
use Rattle.std.specs.Option.{option_copied}
use Rattle.jv_model.specs.declared.limits.TheConstants.{MAX_DATA}
use Rattle.jv_model.specs.promise.Lists.{parted}
use Rattle.jv_script.specs.Reading.{parts_after}
use Rattle.jv_script.proofs.PartLaws.{length_with}
use Rattle.jv_script.proofs.data.are_parts.Given as goal

-- what is counted and the parts that are left are the whole
abbrev pub invariant-loop-rest : goal.invariant-loop-rest
invariant-loop-rest l = record {
  whole : length_with 0 (parted 43 l.text) ≡ length_with l.total (parts_after 43 (option_copied l.rest));
  small : l.total ≤ MAX_DATA;
}

abbrev pub decreases-loop-rest : goal.decreases-loop-rest
decreases-loop-rest l = length (parts_after 43 (option_copied l.rest))
