use Rattle.std.proofs.Common.{◌≡◌, ◌≤◌, ◌-◌}
use Rattle.jv_script_drawn.specs.declared.accesses.TheConstants.{LINES}
use Rattle.jv_script_drawn.specs.promise.Script.{script}
use Rattle.jv_script_drawn.specs.promise.Summary.{totals_of}
use Rattle.jv_cmd.specs.promise.Generating.{replies_said}
use Rattle.jv_cmd.specs.promise.Texts.{texts_of}
use Rattle.jv_cmd.proofs.drawn_scripts.DrawnLaws.{totals_from}
use Rattle.jv_cmd.proofs.drawn.totals.Given as goal

-- the answers left add to the totals what is missing
abbrev pub invariant-lines : goal.invariant-lines
invariant-lines l = record {
  seed : l.drawn.seed ≡ l.seed;
  within : l.drawn.given ≤ LINES;
  counts : totals_of (replies_said (script l.seed) (texts_of l.said)) ≡ totals_from l.totals l.seed l.drawn.given l.rest;
}

abbrev pub decreases-lines : goal.decreases-lines
decreases-lines l = LINES - l.drawn.given
