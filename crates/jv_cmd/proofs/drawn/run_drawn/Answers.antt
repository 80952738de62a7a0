use Rattle.std.proofs.Common.{Some, ap, ◌∙◌, refl}
use Rattle.jv_cmd.proofs.runs.ScriptEndLaws.{EndsScript-kept, EndsScript-textless}
use Rattle.jv_cmd.proofs.runs.StageLaws.{First-setting, given_some}
use Rattle.jv_cmd.proofs.drawn.run_drawn.Goals as goal

pub returns-in_default-clause-runs : goal.returns-in_default-clause-runs
returns-in_default-clause-runs g c = EndsScript-textless c.args.seed _ c.args.setting c.requires.empty
    (First-setting _ c.args.setting c.requires.yard)

pub returns-in_default-clause-yard : goal.returns-in_default-clause-yard
returns-in_default-clause-yard g c = given_some _ _ c.requires.yard

pub returns-clause-runs : goal.returns-clause-runs
returns-clause-runs g c =
    EndsScript-kept c.args.seed _ _ (Some c.new-script.result) c.new-answers.result
    (Some c.run_script-ran.new.stage.source) c.run_script-ran.new.stage.out c.run_script-ran.result
    c.print_summary-ended.result refl (ap Some (c.new-script.ensures ∙ c.in-Ok.ensures))
    (c.new-answers.ensures ∙ ap Some c.new-none.ensures) c.run_script-ran.ensures.runs c.print_summary-ended.ensures
