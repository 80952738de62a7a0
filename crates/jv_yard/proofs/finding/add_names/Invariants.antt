use Rattle.jv_yard.specs.Pages.{AddsNames}
use Rattle.jv_yard.proofs.finding.add_names.Given as goal

abbrev pub invariant-loop-name : goal.invariant-loop-name
invariant-loop-name l = AddsNames l.setting l.yielded l.initial.found l.found
