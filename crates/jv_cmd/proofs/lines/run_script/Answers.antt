use Rattle.jv_cmd.proofs.runs.LinesDoneLaws.{Going-first}
use Rattle.jv_cmd.proofs.runs.ReachedLaws.{EndsScript-none}
use Rattle.jv_cmd.proofs.runs.StageLaws.{First-fits, First-setting, given_some}
use Rattle.jv_cmd.proofs.lines.run_script.Goals as goal

pub returns-in_default-clause-runs : goal.returns-in_default-clause-runs
returns-in_default-clause-runs g c = EndsScript-none _ c.args.setting c.requires.empty
    (First-setting _ c.args.setting c.requires.yard)

pub returns-in_default-clause-yard : goal.returns-in_default-clause-yard
returns-in_default-clause-yard g c = given_some _ _ c.requires.yard

pub run_lines-requires : goal.run_lines-requires
run_lines-requires g c = record { yard = First-fits _ c.args.setting _ _ c.new-schedule.ensures c.requires.yard }

pub returns-clause-runs : goal.returns-clause-runs
returns-clause-runs g c = c.run_lines.ensures.runs _ (Going-first _ c.args.setting _ _ c.requires.empty
    (First-setting _ c.args.setting c.requires.yard) c.in-Ok.ensures c.new-schedule.ensures)

pub returns-clause-yard : goal.returns-clause-yard
returns-clause-yard g c = given_some _ _ c.run_lines.ensures.yard
