use Rattle.jv_cmd.proofs.runs.CommandLaws.{RunsAttached-ran}
use Rattle.jv_cmd.proofs.command.run_attached.Goals as goal

pub returns-in-Ok-clause-runs : goal.returns-in-Ok-clause-runs
returns-in-Ok-clause-runs g c =
    RunsAttached-ran c.args.options.now c.args.setting _ _ _ _ _ _ c.run_staged-ended.result.0 c.in-Ok.ensures.started
    c.limits_of.ensures c.new.ensures c.run_staged-ended.ensures.runs c.into_world.ensures.world
