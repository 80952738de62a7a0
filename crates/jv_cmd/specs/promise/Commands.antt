-- What the top call does, by the words that it was given.
use Rattle.std.specs.Prelude.{◌≡◌, ◌≢◌, ℕ, Bool, true, false, List, Option, None, Some, is_some}
use Rattle.clap.specs.Words.{Text}
use Rattle.jv_model.specs.declared.fault.Device.{Device}
use Rattle.jv_model.specs.declared.fault.Device.TheVariants.{Keeper}
use Rattle.jv_model.specs.declared.setting.Setting.{Setting}
use Rattle.jv_outside.specs.promise.Holding.{IsAttached}
use Rattle.jv_outside.specs.promise.Store.{Store, held}
use Rattle.jv_yard.specs.promise.Starting.{IsStarted}
use Rattle.jv_yard.specs.promise.YardValue.{YardValue}
use Rattle.jv_client.specs.promise.Shared.{shared}
use Rattle.jv_session.specs.promise.Lines.{StaysPut}
use Rattle.jv_cmd.specs.declared.command.TheConstants.{WORDS_REFUSED}
use Rattle.jv_cmd.specs.declared.ended.Ended.{Ended}
use Rattle.jv_cmd.specs.declared.ended.Ended.TheVariants.{OutOfMemory}
use Rattle.jv_cmd.specs.declared.words.request.Command.{Command}
use Rattle.jv_cmd.specs.declared.words.request.Command.TheVariants.{Format, Session}
use Rattle.jv_cmd.specs.declared.words.request.SessionOptions.{SessionOptions}
use Rattle.jv_cmd.specs.promise.Attaching.{AreAttached, CannotAttach, CannotStart, UsesBlocks}
use Rattle.jv_cmd.specs.promise.Bounds.{limits_of}
use Rattle.jv_cmd.specs.promise.Ends.{status_of, message_of}
use Rattle.jv_cmd.specs.promise.Faults.{CountsFaults, UsesKeeper, in_world}
use Rattle.jv_cmd.specs.promise.Formatting.{Formats}
use Rattle.jv_cmd.specs.promise.Opening.{CannotOpen, IsKnown}
use Rattle.jv_cmd.specs.promise.Generating.{RunsScript}
use Rattle.jv_cmd.specs.promise.Saying.{Says}
use Rattle.jv_cmd.specs.promise.Stages.{StageValue, staged, world_of}
use Rattle.jv_cmd.specs.promise.Words.{asked, IsRefusalText}
use Rattle.jv_cmd.specs.promise.Worlds.{BlockDevices, WorldValue, emptied}

-- neither the source nor out nor the clock nor the journal was used
pub record LeavesLines (before after : WorldValue) : Type 0 where
  pub source : after.source ≡ before.source
  pub out : after.out ≡ before.out
  pub clock : after.clock ≡ before.clock
  pub journal : after.journal ≡ before.journal

-- no line was run, and the keeper is as it was
pub record RunsNone (answers : Device → ℕ) (before after : WorldValue) : Type 0 where
  pub none : (device : Device) → answers device ≡ 0
  pub lines : LeavesLines before after
  pub keeper : after.keeper ≡ before.keeper

-- A session with these options, once the keeper was opened: there is no volume to run on, and no
-- device for blocks is opened; or one of them isn't opened for the volume of that setting; or the
-- shelf's blocks couldn't be read; or the script runs on that volume, with depot and shelf in a
-- yard, which are back where they were in the end; blocks were put, all other objects are as they
-- were, and so is the shelf (`StaysPut`). `answers` is how often each device failed and an operation
-- was answered so.
pub data SessionEnds (options : SessionOptions) (answers : Device → ℕ) (before after : WorldValue)
    (ended : Ended) : Type 0 where
  NotOpened : CannotOpen before.keeper.rows ended → RunsNone answers before after
      → after.blocks ≡ before.blocks
      → SessionEnds options answers before after ended
  NotAttached : (setting : Setting) → IsKnown before.keeper.rows setting
      → RunsNone answers before after
      → CannotAttach setting.bucket options.cache_dir before.blocks after.blocks ended
      → SessionEnds options answers before after ended
  NotStarted : (setting : Setting) (attached : BlockDevices) → IsKnown before.keeper.rows setting
      → RunsNone answers before after
      → AreAttached setting.bucket options.cache_dir before.blocks attached
      → CannotStart attached after.blocks ended
      → SessionEnds options answers before after ended
  Opened : (setting : Setting) (attached : BlockDevices) (yard : YardValue) (left : StageValue)
      → IsKnown before.keeper.rows setting
      → AreAttached setting.bucket options.cache_dir before.blocks attached
      → IsStarted setting attached.depot attached.shelf yard
      → RunsScript options.generate answers
      (staged (limits_of options setting.block) yard
      (record before { blocks = attached }))
      left ended
      → StaysPut (shared before.keeper yard attached.carrier) left.devices
      → UsesBlocks answers attached after.blocks
      → after ≡ world_of before.err left → SessionEnds options answers before after ended

-- what a command does once the keeper was opened
abbrev pub Does : Command → (Device → ℕ) → WorldValue → WorldValue → Ended → Type 0
Does (Format place setting) answers before after ended =
    Formats setting before after ended × ((device : Device) → answers device ≡ 0)
Does (Session place options) answers before after ended =
    SessionEnds options answers before after ended

abbrev pub place_of_command : Command → List ℕ
place_of_command (Format place setting) = place
place_of_command (Session place options) = place

-- the command runs a script that is drawn
abbrev pub is_drawn : Command → Bool
is_drawn (Format place setting) = false
is_drawn (Session place options) = is_some options.generate

-- the shelf has the blocks that it had, or, where a session opened it, they are no longer known
abbrev pub ShelfStays : Command → WorldValue → WorldValue → Type 0
ShelfStays (Format place setting) before after = after.blocks.shelf ≡ before.blocks.shelf
ShelfStays (Session place options) before after =
    IsAttached options.cache_dir before.blocks.shelf after.blocks.shelf

-- A command: what it found once the keeper was opened at its place, what it did with that, which
-- device failed, and where the keeper is opened. By `direct` it changes no block on the shelf.
pub record RunsCommand (command : Command) (before after : WorldValue)
    (ended : Ended) : Type 0 where
  pub answers : Device → ℕ
  pub found : Store
  pub attached : IsAttached (place_of_command command) (held before.keeper) (held found)
  pub does : Does command answers (record before { keeper = found }) after ended
  pub faults : CountsFaults ended (in_world before) (in_world after)
  pub keeper : UsesKeeper ended (answers Keeper) (place_of_command command) before.keeper
      after.keeper
  pub direct : ShelfStays command before after

-- how the command ended: what it did apart from standard error, its status, and its text there; no
-- line of a drawn script ends it
pub record EndsCommand (command : Command) (before after : WorldValue) (status : ℕ) : Type 0 where
  pub ended : Ended
  pub runs : RunsCommand command before (record after { err = before.err }) ended
  pub result : status ≡ status_of ended
  pub drawn : is_drawn command ≡ true → status ≢ 3
  pub says : Says before.err after.err (message_of ended)

-- the words are refused, or there is no memory to read them
pub data RefusesWords (words : List Text) (before after : WorldValue) (status : ℕ) : Type 0 where
  Refused : (text : List ℕ) → IsRefusalText words text → status ≡ WORDS_REFUSED
      → Says before.err after.err text → RefusesWords words before after status
  NoMemory : status ≡ status_of OutOfMemory → Says before.err after.err (message_of OutOfMemory)
      → RefusesWords words before after status

-- and only standard error is used
pub record EndsUnread (words : List Text) (before after : WorldValue) (status : ℕ) : Type 0 where
  pub refuses : RefusesWords words before after status
  pub others : after ≡ record before { err = after.err }

-- by the command that the words are, if they are one
abbrev pub RunsAsked : List Text → Option Command → WorldValue → WorldValue → ℕ → Type 0
RunsAsked words None before after status = EndsUnread words before after status
RunsAsked words (Some command) before after status = EndsCommand command before after status

abbrev pub Runs : List Text → WorldValue → WorldValue → ℕ → Type 0
Runs words before after status = RunsAsked words (asked words) (emptied before) after status
