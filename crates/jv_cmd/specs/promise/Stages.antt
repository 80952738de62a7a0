-- What is seen of what the lines of a script use.
use Rattle.std.specs.Prelude.{List}
use Rattle.jv_model.specs.declared.act.Act.{Act}
use Rattle.jv_model.specs.declared.basics.Limits.{Limits}
use Rattle.jv_outside.specs.promise.Stream.{Stream}
use Rattle.jv_outside.specs.promise.Ticks.{Ticks}
use Rattle.jv_yard.specs.promise.YardValue.{YardValue}
use Rattle.jv_client_shared.specs.promise.Shared.{Shared}
use Rattle.jv_client.specs.promise.Shared.{shared}
use Rattle.jv_cmd.specs.promise.Worlds.{WorldValue, block_devices, world_value}

-- the session's limits, the streams, the keeper and the carrier with the yard, the clock, and the
-- journal
pub record StageValue : Type 0 where
  pub limits : Limits
  pub source : Stream
  pub out : Stream
  pub devices : Shared
  pub clock : Ticks
  pub journal : List Act

abbrev pub stage_value : Limits → Stream → Stream → Shared → Ticks → List Act → StageValue
stage_value limits source out devices clock journal = record {
  limits = limits;
  source = source;
  out = out;
  devices = devices;
  clock = clock;
  journal = journal;
}

-- a world whose depot and shelf are in this yard
abbrev pub staged : Limits → YardValue → WorldValue → StageValue
staged limits yard world =
    stage_value limits world.source world.out (shared world.keeper yard world.blocks.carrier)
    world.clock world.journal

-- the world with this standard error, where depot and shelf are out of the yard again
abbrev pub world_of : Stream → StageValue → WorldValue
world_of err stage = world_value stage.source stage.out err stage.devices.keeper
    (block_devices stage.devices.yard.depot stage.devices.yard.shelf stage.devices.carrier)
    stage.clock stage.journal
