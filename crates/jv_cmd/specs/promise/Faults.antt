-- Which device's count of faults rose, by how a command ended.
use Rattle.std.specs.Prelude.{◌≡◌, ℕ, suc, Bool, true, false, List, Option, Some}
use Rattle.jv_outside.specs.promise.Causes.{RoseIf, RoseTimes}
use Rattle.jv_outside.specs.promise.Store.{Store}
use Rattle.jv_cmd.specs.declared.ended.Ended.{Ended}
use Rattle.jv_cmd.specs.declared.ended.Ended.TheVariants.{SourceFailed, OutFailed, ClockFailed, KeeperFailed, OutOfMemory}
use Rattle.jv_cmd.specs.promise.Worlds.{WorldValue}

abbrev pub source_failed : Ended → Bool
source_failed SourceFailed = true
source_failed _ = false

abbrev pub out_failed : Ended → Bool
out_failed OutFailed = true
out_failed _ = false

abbrev pub clock_failed : Ended → Bool
clock_failed ClockFailed = true
clock_failed _ = false

-- the counts of faults of the streams and of the clock
pub record Counts : Type 0 where
  pub source : ℕ
  pub out : ℕ
  pub clock : ℕ

abbrev pub in_world : WorldValue → Counts
in_world world =
    record { source = world.source.faults; out = world.out.faults; clock = world.clock.faults }

-- the one that ended the command rose, and no other
pub record CountsFaults (ended : Ended) (before after : Counts) : Type 0 where
  pub source : RoseIf (source_failed ended) before.source after.source
  pub out : RoseIf (out_failed ended) before.out after.out
  pub clock : RoseIf (clock_failed ended) before.clock after.clock

-- the keeper was opened at a place, or it failed or memory ran out before
pub data MayOpen (place : List ℕ) (before after : Option (List ℕ)) : Type 0 where
  Unopened : after ≡ before → MayOpen place before after
  OpenedThere : after ≡ Some place → MayOpen place before after

abbrev pub IsOpened : Ended → List ℕ → Option (List ℕ) → Option (List ℕ) → Type 0
IsOpened KeeperFailed place before after = MayOpen place before after
IsOpened OutOfMemory place before after = MayOpen place before after
IsOpened _ place before after = after ≡ Some place

-- how often the keeper failed: at operations that were answered so, and once more where it ended
-- the command
abbrev pub failures_of : Ended → ℕ → ℕ
failures_of KeeperFailed answers = suc answers
failures_of _ answers = answers

-- where the keeper is opened after a command at a place, and its count of faults, where `answers`
-- operations were answered that it failed
pub record UsesKeeper (ended : Ended) (answers : ℕ) (place : List ℕ)
    (before after : Store) : Type 0 where
  pub opened : IsOpened ended place before.opened after.opened
  pub faults : RoseTimes (failures_of ended answers) before.faults after.faults
