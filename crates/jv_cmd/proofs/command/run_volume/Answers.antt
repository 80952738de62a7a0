use Rattle.std.proofs.Common.{refl}
use Rattle.jv_cmd.specs.Commands.{Attached, Stopped}
use Rattle.jv_cmd.proofs.command.run_volume.Goals as goal

pub returns-in-Ok-clause-runs : goal.returns-in-Ok-clause-runs
returns-in-Ok-clause-runs g c = Attached _ c.in-Ok.ensures c.run_attached.ensures.runs

pub returns-in-Err-clause-runs : goal.returns-in-Err-clause-runs
returns-in-Err-clause-runs g c = Stopped c.in-Err.ensures
    (record { source = refl; out = refl; clock = refl; journal = refl }) refl
