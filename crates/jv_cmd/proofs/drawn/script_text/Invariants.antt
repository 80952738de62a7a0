use Rattle.std.proofs.Common.{◌≡◌, ◌≤◌, ◌-◌, take}
use Rattle.std.specs.List.{flat_map}
use Rattle.jv_script_drawn.specs.declared.accesses.TheConstants.{LINES}
use Rattle.jv_script_drawn.specs.promise.Script.{script}
use Rattle.jv_cmd.specs.promise.Generating.{line_text}
use Rattle.jv_cmd.proofs.drawn.script_text.Given as goal

-- the lines returned so far are there as text
abbrev pub invariant-lines : goal.invariant-lines
invariant-lines l = record {
  seed : l.drawn.seed ≡ l.seed;
  within : l.drawn.given ≤ LINES;
  text_is : l.text.items ≡ flat_map line_text (take l.drawn.given (script l.seed));
}

abbrev pub decreases-lines : goal.decreases-lines
decreases-lines l = LINES - l.drawn.given
