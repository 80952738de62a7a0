use Rattle.jv_cmd.proofs.runs.CommandLaws.{RunsCommand-format, RunsCommand-session}
use Rattle.jv_cmd.proofs.command.run_command.Goals as goal

pub returns-in-Format-clause-runs : goal.returns-in-Format-clause-runs
returns-in-Format-clause-runs g c =
    RunsCommand-format c.args.command _ _ _ _ _ c.in-Format.is c.run_format-ended.ensures.formats
    c.run_format-ended.ensures.faults c.run_format-ended.ensures.keeper

pub returns-in-Session-clause-runs : goal.returns-in-Session-clause-runs
returns-in-Session-clause-runs g c =
    RunsCommand-session c.args.command _ _ _ _ _ c.in-Session.is c.run_session.ensures.runs c.run_session.ensures.faults
