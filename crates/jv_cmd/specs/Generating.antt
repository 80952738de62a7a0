-- What only inner contracts cite: of `promise/Generating`.
use Rattle.std.specs.Prelude.{ℕ, Option}
use Rattle.jv_model.specs.declared.fault.Device.{Device}
use Rattle.jv_outside.specs.promise.Causes.{RoseTimes}
use Rattle.jv_client.specs.Makes.{faults_of}
use Rattle.jv_session.specs.promise.Lines.{StaysPut}
use Rattle.jv_cmd.specs.declared.ended.Ended.{Ended}
use Rattle.jv_cmd.specs.promise.Faults.{CountsFaults}
use Rattle.jv_cmd.specs.Faults.{on_stage}
use Rattle.jv_cmd.specs.promise.Stages.{StageValue}
use Rattle.jv_cmd.specs.promise.Generating.{RunsScript}

-- the run of a script ended; `answers` is how often each device failed and an operation was
-- answered so
pub record EndsScript (seed : Option ℕ) (before after : StageValue) (ended : Ended) : Type 0 where
  pub answers : Device → ℕ
  pub runs : RunsScript seed answers before after ended
  pub faults : CountsFaults ended (on_stage before) (on_stage after)
  pub stays : StaysPut before.devices after.devices
  pub counts : (device : Device)
      → RoseTimes (answers device) (faults_of device before.devices)
      (faults_of device after.devices)
