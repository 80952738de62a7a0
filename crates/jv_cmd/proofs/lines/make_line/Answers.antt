use Rattle.std.proofs.Common.{ap}
use Rattle.jv_cmd.proofs.runs.StageLaws.{LineRuns-stage}
use Rattle.jv_cmd.proofs.lines.make_line.Goals as goal

pub returns-clause-runs : goal.returns-clause-runs
returns-clause-runs g c =
    LineRuns-stage c.args.line c.args.number c.line.result _ _ _ _ _ _ _ _ _ _ _ _ _
    (ap (λ lent. (goal.Carrier-dyn g lent).seen lent.1) c.deref_box_mut-1.ensures.value.1) c.line.ensures.runs
