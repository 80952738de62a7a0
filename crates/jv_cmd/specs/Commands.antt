-- What only inner contracts cite: of `promise/Commands`.
use Rattle.std.specs.Prelude.{◌≡◌, ℕ, List}
use Rattle.jv_model.specs.declared.fault.Device.{Device}
use Rattle.jv_model.specs.declared.fault.Device.TheVariants.{Keeper}
use Rattle.jv_model.specs.declared.setting.Setting.{Setting}
use Rattle.jv_outside.specs.promise.Holding.{IsAttached}
use Rattle.jv_outside.specs.promise.Store.{Store, held}
use Rattle.jv_yard.specs.promise.Starting.{IsStarted}
use Rattle.jv_yard.specs.promise.YardValue.{YardValue}
use Rattle.jv_cmd.specs.declared.ended.Ended.{Ended}
use Rattle.jv_cmd.specs.declared.words.request.SessionOptions.{SessionOptions}
use Rattle.jv_cmd.specs.promise.Attaching.{AreAttached, CannotAttach, CannotStart}
use Rattle.jv_cmd.specs.promise.Bounds.{limits_of}
use Rattle.jv_cmd.specs.promise.Faults.{UsesKeeper}
use Rattle.jv_cmd.specs.Generating.{EndsScript}
use Rattle.jv_cmd.specs.promise.Stages.{StageValue, staged, world_of}
use Rattle.jv_cmd.specs.promise.Worlds.{BlockDevices, WorldValue}
use Rattle.jv_cmd.specs.promise.Commands.{LeavesLines, SessionEnds}

-- A session over the volume of a setting, for which depot, carrier and shelf are opened: the
-- shelf's blocks couldn't be read, and no line was run; or the lines ran.
pub data RunsAttached (options : SessionOptions) (setting : Setting) (before after : WorldValue)
    (ended : Ended) : Type 0 where
  Unstarted : CannotStart before.blocks after.blocks ended → LeavesLines before after
      → after.keeper ≡ before.keeper
      → RunsAttached options setting before after ended
  Ran : (yard : YardValue) (left : StageValue)
      → IsStarted setting before.blocks.depot before.blocks.shelf yard
      → EndsScript options.generate (staged (limits_of options setting.block) yard before) left
      ended
      → after ≡ world_of before.err left
      → RunsAttached options setting before after ended

-- the same before they are, where the keeper is opened: one of them isn't opened, or all are
pub data RunsVolume (options : SessionOptions) (setting : Setting) (before after : WorldValue)
    (ended : Ended) : Type 0 where
  Stopped : CannotAttach setting.bucket options.cache_dir before.blocks after.blocks ended
      → LeavesLines before after
      → after.keeper ≡ before.keeper → RunsVolume options setting before after ended
  Attached : (attached : BlockDevices)
      → AreAttached setting.bucket options.cache_dir before.blocks attached
      → RunsAttached options setting (record before { blocks = attached }) after ended
      → RunsVolume options setting before after ended

-- a session at a place: what the keeper was found to be there, how it ended, and what it did with
-- the keeper
pub record RunsSession (place : List ℕ) (options : SessionOptions) (before after : WorldValue)
    (ended : Ended) : Type 0 where
  pub answers : Device → ℕ
  pub found : Store
  pub attached : IsAttached place (held before.keeper) (held found)
  pub ends : SessionEnds options answers (record before { keeper = found }) after ended
  pub keeper : UsesKeeper ended (answers Keeper) place before.keeper after.keeper
