-- What only inner contracts cite: of `promise/Faults`.
use Rattle.std.specs.Prelude.{Bool, true, false, Result, Ok, Err}
use Rattle.jv_cmd.specs.declared.ended.Ended.{Ended}
use Rattle.jv_cmd.specs.declared.ended.Ended.TheVariants.{Succeeded, KeeperFailed}
use Rattle.jv_cmd.specs.promise.Stages.{StageValue}
use Rattle.jv_cmd.specs.promise.Faults.{Counts}

abbrev pub keeper_failed : Ended → Bool
keeper_failed KeeperFailed = true
keeper_failed _ = false

abbrev pub on_stage : StageValue → Counts
on_stage stage =
    record { source = stage.source.faults; out = stage.out.faults; clock = stage.clock.faults }

-- how a part of a command ended, where it goes on after success
abbrev pub ended_by : {T : Type 0} → Result T Ended → Ended
ended_by (Ok value) = Succeeded
ended_by (Err ended) = ended
