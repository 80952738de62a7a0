-- What is seen of a command's devices and its journal.
use Rattle.std.specs.Prelude.{List, []}
use Rattle.jv_model.specs.declared.act.Act.{Act}
use Rattle.jv_outside.specs.promise.Blocks.{StagedMap}
use Rattle.jv_outside.specs.promise.Carriage.{Carriage}
use Rattle.jv_outside.specs.promise.Holding.{Holding}
use Rattle.jv_outside.specs.promise.Objects.{ObjectMap}
use Rattle.jv_outside.specs.promise.Store.{Store}
use Rattle.jv_outside.specs.promise.Stream.{Stream}
use Rattle.jv_outside.specs.promise.Ticks.{Ticks}

-- the devices for the blocks of files: the object store, the local disk, and what sends blocks to
-- the store
pub record BlockDevices : Type 0 where
  pub depot : Holding ObjectMap
  pub shelf : Holding StagedMap
  pub carrier : Carriage

abbrev pub block_devices : Holding ObjectMap → Holding StagedMap → Carriage → BlockDevices
block_devices depot shelf carrier = record { depot = depot; shelf = shelf; carrier = carrier }

pub record WorldValue : Type 0 where
  pub source : Stream
  pub out : Stream
  pub err : Stream
  pub keeper : Store
  pub blocks : BlockDevices
  pub clock : Ticks
  pub journal : List Act

abbrev pub world_value : Stream → Stream → Stream → Store → BlockDevices → Ticks → List Act
    → WorldValue
world_value source out err keeper blocks clock journal = record {
  source = source;
  out = out;
  err = err;
  keeper = keeper;
  blocks = blocks;
  clock = clock;
  journal = journal;
}

-- with an emptied journal
abbrev pub emptied : WorldValue → WorldValue
emptied world = record world { journal = [] }
