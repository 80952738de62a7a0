use Rattle.std.proofs.Common.{arith}
use Rattle.jv_cmd.proofs.lines.run_lines.Goals as goal

pub lines-preserved : goal.lines-preserved
lines-preserved g c = record {
  few = (let more = c.in-Ok.ensures.more in omega (arith, more));
  goes = λ before going. c.in-Ok.ensures.runs before (c.lines.invariant.goes before going);
  yard = c.in-Ok.ensures.yard;
}

pub returns-in-Err-clause-runs : goal.returns-in-Err-clause-runs
returns-in-Err-clause-runs g c = λ before going. c.in-Err.ensures.runs before (c.lines.invariant.goes before going)
