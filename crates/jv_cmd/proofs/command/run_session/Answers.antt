use Rattle.std.proofs.Common.{refl}
use Rattle.jv_cmd.specs.promise.Commands.{NotOpened}
use Rattle.jv_session.proofs.UsesLaws.{no_failures}
use Rattle.jv_cmd.proofs.runs.CommandLaws.{CountsFaults-volume, RunsSession-volume}
use Rattle.jv_cmd.proofs.command.run_session.Goals as goal
use Rattle.jv_client_shared.proofs.SettingLaws.{allowed_length}

pub run_volume-requires-clause-block : goal.run_volume-requires-clause-block
run_volume-requires-clause-block g c = allowed_length c.in-Ok.setting c.in-Ok.ensures.allowed

pub returns-in-Ok-clause-runs : goal.returns-in-Ok-clause-runs
returns-in-Ok-clause-runs g c =
    RunsSession-volume c.args.place.now c.args.options.now _ _ (g.K.Keeper.seen c.open_volume.new.keeper)
    c.in-Ok.setting c.run_volume.result.0 c.in-Ok.ensures.ok c.in-Ok.ensures.rows c.in-Ok.ensures.keeper
    c.run_volume.ensures.runs

pub returns-in-Ok-clause-faults : goal.returns-in-Ok-clause-faults
returns-in-Ok-clause-faults g c =
    CountsFaults-volume c.args.place.now c.args.options.now _ _ (g.K.Keeper.seen c.open_volume.new.keeper)
    c.in-Ok.setting c.run_volume.result.0 c.in-Ok.ensures.ok c.in-Ok.ensures.rows c.in-Ok.ensures.keeper
    c.run_volume.ensures.runs

pub returns-in-Err-clause-runs : goal.returns-in-Err-clause-runs
returns-in-Err-clause-runs g c = record {
  answers = no_failures;
  found = g.K.Keeper.seen c.open_volume.new.keeper;
  attached = c.in-Err.ensures.rows;
  ends = NotOpened c.in-Err.ensures.refused (record {
    none = λ device. refl;
    lines = record { source = refl; out = refl; clock = refl; journal = refl };
    keeper = refl;
  }) refl;
  keeper = c.in-Err.ensures.keeper;
}
