use Rattle.std.proofs.Common.{◌≡◌, length}
use Rattle.std.specs.Option.{option_copied}
use Rattle.std.specs.List.{list_all}
use Rattle.jv_model.specs.promise.script.Grammar.{is_escape}
use Rattle.jv_script.specs.Reading.{parts_after}
use Rattle.jv_script.proofs.escapes.all_escapes.Given as goal

-- all depends on those that are left
abbrev pub invariant-loop-rest : goal.invariant-loop-rest
invariant-loop-rest l = list_all is_escape (parts_after 37 (option_copied l.fn.escapes)) ≡ list_all is_escape (parts_after 37 (option_copied l.rest))

abbrev pub decreases-loop-rest : goal.decreases-loop-rest
decreases-loop-rest l = length (parts_after 37 (option_copied l.rest))
