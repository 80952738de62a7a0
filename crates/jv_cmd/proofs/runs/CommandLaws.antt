-- The outcome of the top call, by the function that ran the command.
use Rattle.std.proofs.Common.{◌≡◌, ◌≢◌, ℕ, false, true, List, [], Option, None, Some, is_some, refl, ap, sym, subst, ◌∙◌, arith}
use Rattle.std.proofs.lemmas.Bool.{false≢true}
use Rattle.clap.specs.Words.{Text}
use Rattle.jv_model.specs.declared.basics.Limits.{Limits}
use Rattle.jv_model.specs.declared.fault.Device.{Device}
use Rattle.jv_model.specs.declared.fault.Device.TheVariants.{Keeper, Depot, Shelf, Carrier}
use Rattle.jv_model.specs.declared.fault.Down.{Down}
use Rattle.jv_model.specs.declared.fault.Down.TheVariants.{Failed, Memory}
use Rattle.jv_model.specs.declared.setting.Setting.{Setting}
use Rattle.jv_model.specs.promise.rows.RowKeys.{RowMap}
use Rattle.jv_outside.specs.promise.Blocks.{StagedMap}
use Rattle.jv_outside.specs.promise.Causes.{RoseIf, RoseTimes}
use Rattle.jv_outside.specs.promise.Holding.{AsBefore, Holding, IsAttached, Unknown}
use Rattle.jv_outside.specs.promise.Objects.{ObjectMap}
use Rattle.jv_outside.specs.promise.Store.{Store, held}
use Rattle.jv_outside.specs.promise.Stream.{Stream}
use Rattle.jv_outside.specs.promise.Ticks.{Ticks}
use Rattle.jv_yard.specs.declared.faults.YardFault.{YardFault}
use Rattle.jv_yard.specs.declared.faults.YardFault.TheVariants as yard
use Rattle.jv_yard.specs.promise.Starting.{IsStarted, ShelfRefuses}
use Rattle.jv_yard.specs.promise.YardValue.{YardValue}
use Rattle.jv_client.specs.Makes.{faults_of}
use Rattle.jv_client.specs.promise.Shared.{shared}
use Rattle.jv_session.specs.promise.Lines.{StaysPut}
use Rattle.jv_session.proofs.UsesLaws.{no_failures}
use Rattle.jv_cmd.specs.declared.ended.Ended.{Ended}
use Rattle.jv_cmd.specs.declared.ended.Ended.TheVariants.{Succeeded, LineNotRun, NoVolume, VolumeExists, NewerVersion, MalformedSetting, BadRow, SourceFailed, OutFailed, ClockFailed, KeeperFailed, DepotFailed, CarrierFailed, ShelfFailed, OutOfMemory}
use Rattle.jv_cmd.specs.declared.words.request.Command.{Command}
use Rattle.jv_cmd.specs.declared.words.request.Command.TheVariants.{Format, Session}
use Rattle.jv_cmd.specs.declared.words.request.SessionOptions.{SessionOptions}
use Rattle.jv_cmd.specs.promise.Attaching.{AreAttached, CannotAttach, CannotStart, NoDepot, NoCarrier, NoShelf, UsesBlocks, ended_at, ended_by_yard}
use Rattle.jv_cmd.specs.promise.Bounds.{limits_of}
use Rattle.jv_cmd.specs.Commands.{Attached, RunsAttached, RunsSession, RunsVolume, Stopped, Ran, Unstarted}
use Rattle.jv_cmd.specs.promise.Commands.{Does, SessionEnds, is_drawn, RunsCommand, RunsNone, LeavesLines, NotOpened, NotAttached, NotStarted, Opened, Refused, NoMemory, RunsAsked}
use Rattle.jv_cmd.specs.promise.Ends.{status_of, message_of}
use Rattle.jv_cmd.specs.promise.Faults.{CountsFaults, UsesKeeper, Unopened, OpenedThere, in_world, source_failed, out_failed, clock_failed}
use Rattle.jv_cmd.specs.Formatting.{FormatsAt}
use Rattle.jv_cmd.specs.Generating.{EndsScript}
use Rattle.jv_cmd.specs.promise.Generating.{PrintsSummary, RunsScript, SumsUp, script_text, with_streams}
use Rattle.jv_cmd.specs.promise.Opening.{CannotOpen, IsKnown}
use Rattle.jv_cmd.specs.promise.Run.{RunsLines}
use Rattle.jv_cmd.specs.promise.Saying.{Says}
use Rattle.jv_cmd.specs.promise.Stages.{StageValue, stage_value, staged, world_of}
use Rattle.jv_cmd.specs.Stages.{yard_at}
use Rattle.jv_cmd.specs.promise.Words.{IsRefusalText}
use Rattle.jv_cmd.specs.promise.Worlds.{BlockDevices, WorldValue}

-- the shelf has the blocks that it had, or they are no longer known

shelf_of : (before after : BlockDevices) → after ≡ before → after.shelf.content ≡ before.shelf.content
shelf_of before after same = ap (λ (blocks : BlockDevices). blocks.shelf.content) same

shelf_unattached : (bucket folder : List ℕ) (before after : BlockDevices) (ended : Ended)
    → CannotAttach bucket folder before after ended → after.shelf.content ≡ before.shelf.content
shelf_unattached bucket folder before after ended (NoDepot down is depot carrier same) =
    ap (λ (shelf : Holding StagedMap). shelf.content) same
shelf_unattached bucket folder before after ended (NoCarrier down is depot carrier same) =
    ap (λ (shelf : Holding StagedMap). shelf.content) same
shelf_unattached bucket folder before after ended (NoShelf down is depot carrier shelf) = shelf.content_is

shelf_refused : (before after : Holding StagedMap) (fault : YardFault) → ShelfRefuses before after fault
    → (after.content ≡ before.content) × (after.opened ≡ before.opened)
shelf_refused before after yard.Depot refuses = absurd refuses
shelf_refused before after yard.Shelf refuses = (refuses.content_is, refuses.opened_at)
shelf_refused before after yard.Memory same =
    (ap (λ (shelf : Holding StagedMap). shelf.content) same, ap (λ (shelf : Holding StagedMap). shelf.opened) same)

-- what is done after a device was opened leaves content and place
pub attached-after : {M : Type 0} (place : List ℕ) (before opened after : Holding M) → IsAttached place before opened
    → after.content ≡ opened.content → after.opened ≡ opened.opened → IsAttached place before after
attached-after place before opened after (AsBefore same) content at = AsBefore (content ∙ same)
attached-after place before opened after (Unknown elsewhere none here) content at =
    Unknown elsewhere (content ∙ none) (at ∙ here)

shelf_session : (options : SessionOptions) (answers : Device → ℕ) (before after : WorldValue) (ended : Ended)
    → SessionEnds options answers before after ended
    → IsAttached options.cache_dir before.blocks.shelf after.blocks.shelf
shelf_session options answers before after ended (NotOpened cannot none same) =
    AsBefore (shelf_of before.blocks after.blocks same)
shelf_session options answers before after ended (NotAttached setting known none cannot) =
    AsBefore (shelf_unattached setting.bucket options.cache_dir before.blocks after.blocks ended cannot)
shelf_session options answers before after ended (NotStarted setting attached known none are cannot) =
    let same = shelf_refused attached.shelf after.blocks.shelf cannot.fault cannot.shelf in
    attached-after options.cache_dir before.blocks.shelf attached.shelf after.blocks.shelf are.shelf.content same.0 same.1
shelf_session options answers before after ended (Opened setting attached yard left known are started runs stays uses is) =
    attached-after options.cache_dir before.blocks.shelf attached.shelf after.blocks.shelf are.shelf.content uses.direct uses.shelf_at

pub RunsCommand-session : (command : Command) (place : List ℕ) (options : SessionOptions) (before after : WorldValue)
    (ended : Ended) → command ≡ Session place options → RunsSession place options before after ended
    → CountsFaults ended (in_world before) (in_world after) → RunsCommand command before after ended
RunsCommand-session command place options before after ended is runs faults =
    subst (λ (c : Command). RunsCommand c before after ended) (sym is)
    (record {
      answers = runs.answers;
      found = runs.found;
      attached = runs.attached;
      does = runs.ends;
      faults = faults;
      keeper = runs.keeper;
      direct = shelf_session options runs.answers (record before { keeper = runs.found }) after ended runs.ends;
    })

pub RunsCommand-format : (command : Command) (place : List ℕ) (setting : Setting) (before after : WorldValue)
    (ended : Ended) → command ≡ Format place setting → FormatsAt place setting before after ended
    → CountsFaults ended (in_world before) (in_world after) → UsesKeeper ended 0 place before.keeper after.keeper
    → RunsCommand command before after ended
RunsCommand-format command place setting before after ended is formats faults keeper =
    subst (λ (c : Command). RunsCommand c before after ended) (sym is)
    (record {
      answers = no_failures;
      found = formats.found;
      attached = formats.attached;
      does = (formats.formats, λ device. refl);
      faults = faults;
      keeper = keeper;
      direct = ap (λ (blocks : BlockDevices). blocks.shelf) formats.formats.blocks;
    })

-- they were none
pub RunsAsked-refused : (words : List Text) (asked : Option Command) (before : WorldValue) (err : Stream)
    (text : List ℕ) → asked ≡ None → IsRefusalText words text → Says before.err err text
    → RunsAsked words asked before (record before { err = err }) 2
RunsAsked-refused words asked before err text none refusal says =
    subst (λ o. RunsAsked words o before (record before { err = err }) 2) (sym none)
    (record { refuses = Refused text refusal refl says; others = refl })

-- no line was run, and nothing else was used either
none_run : (before : WorldValue) → RunsNone no_failures before before
none_run before = record {
  none = λ device. refl;
  lines = record { source = refl; out = refl; clock = refl; journal = refl };
  keeper = refl;
}

-- there was no memory to read them
unread : (words : List Text) (asked : Option Command) (before : WorldValue) (err : Stream)
    → Says before.err err (message_of OutOfMemory)
    → RunsAsked words asked before (record before { err = err }) (status_of OutOfMemory)
unread words None before err says = record { refuses = NoMemory refl says; others = refl }
unread words (Some (Format place setting)) before err says = record {
  ended = OutOfMemory;
  runs = record {
    answers = no_failures;
    found = before.keeper;
    attached = AsBefore refl;
    does = (record { ends = (tt, refl, refl); opened = refl; source = refl; blocks = refl; journal = refl }, λ device. refl);
    faults = record { source = refl; out = refl; clock = refl };
    keeper = record { opened = Unopened refl; faults = refl };
    direct = refl;
  };
  result = refl;
  drawn = λ drawn same. absurd (omega (arith, same));
  says = says;
}
unread words (Some (Session place options)) before err says = record {
  ended = OutOfMemory;
  runs = record {
    answers = no_failures;
    found = before.keeper;
    attached = AsBefore refl;
    does = NotOpened tt (none_run before) refl;
    faults = record { source = refl; out = refl; clock = refl };
    keeper = record { opened = Unopened refl; faults = refl };
    direct = AsBefore refl;
  };
  result = refl;
  drawn = λ drawn same. absurd (omega (arith, same));
  says = says;
}

pub RunsAsked-unread : (words : List Text) (asked : Option Command) (before : WorldValue) (err : Stream) (status : ℕ)
    → Says before.err err (message_of OutOfMemory) → status ≡ status_of OutOfMemory
    → RunsAsked words asked before (record before { err = err }) status
RunsAsked-unread words asked before err status says result = subst
    (λ n. RunsAsked words asked before (record before { err = err }) n) (sym result)
    (unread words asked before err says)

-- the keeper was opened before the lines, and stays so
module _ (before after : StageValue) (place : List ℕ) (old : Store) (answers : Device → ℕ) (opened : before.devices.keeper.opened ≡ Some place)
    (calm : before.devices.keeper.faults ≡ old.faults) (stays : StaysPut before.devices after.devices)
    (counts : (device : Device) → RoseTimes (answers device) (faults_of device before.devices) (faults_of device after.devices)) where
  rose : RoseTimes (answers Keeper) old.faults after.devices.keeper.faults
  rose = subst (λ count. RoseTimes (answers Keeper) count after.devices.keeper.faults) calm (counts Keeper)

  place_after : after.devices.keeper.opened ≡ Some place
  place_after = stays.keeper_at ∙ opened

  keeper_lines : (ended : Ended) → RunsLines answers before after ended
      → UsesKeeper ended (answers Keeper) place old after.devices.keeper
  keeper_lines Succeeded runs = record { opened = place_after; faults = rose }
  keeper_lines (LineNotRun number) runs = record { opened = place_after; faults = rose }
  keeper_lines NoVolume runs = absurd runs.cause
  keeper_lines VolumeExists runs = absurd runs.cause
  keeper_lines (NewerVersion version) runs = absurd runs.cause
  keeper_lines MalformedSetting runs = absurd runs.cause
  keeper_lines (BadRow key bytes) runs = record { opened = place_after; faults = rose }
  keeper_lines SourceFailed runs = record { opened = place_after; faults = rose }
  keeper_lines OutFailed runs = record { opened = place_after; faults = rose }
  keeper_lines ClockFailed runs = record { opened = place_after; faults = rose }
  keeper_lines KeeperFailed runs = absurd runs.cause
  keeper_lines DepotFailed runs = absurd runs.cause
  keeper_lines CarrierFailed runs = absurd runs.cause
  keeper_lines ShelfFailed runs = absurd runs.cause
  keeper_lines OutOfMemory runs = record { opened = OpenedThere place_after; faults = rose }

  -- a script that was drawn
  keeper_succeeded : (seed : ℕ) (said : Option (List ℕ)) (ended : Ended) → SumsUp seed said before.out after.out ended
      → UsesKeeper ended (answers Keeper) place old after.devices.keeper
  keeper_succeeded seed said Succeeded sums = record { opened = place_after; faults = rose }
  keeper_succeeded seed said (LineNotRun number) sums = absurd sums
  keeper_succeeded seed said NoVolume sums = absurd sums
  keeper_succeeded seed said VolumeExists sums = absurd sums
  keeper_succeeded seed said (NewerVersion version) sums = absurd sums
  keeper_succeeded seed said MalformedSetting sums = absurd sums
  keeper_succeeded seed said (BadRow key bytes) sums = absurd sums
  keeper_succeeded seed said SourceFailed sums = absurd sums
  keeper_succeeded seed said OutFailed sums = record { opened = place_after; faults = rose }
  keeper_succeeded seed said ClockFailed sums = absurd sums
  keeper_succeeded seed said KeeperFailed sums = absurd sums
  keeper_succeeded seed said DepotFailed sums = absurd sums
  keeper_succeeded seed said CarrierFailed sums = absurd sums
  keeper_succeeded seed said ShelfFailed sums = absurd sums
  keeper_succeeded seed said OutOfMemory sums = record { opened = OpenedThere place_after; faults = rose }

  same_keeper : (ran ended : Ended) → ended ≡ ran → UsesKeeper ran (answers Keeper) place old after.devices.keeper
      → UsesKeeper ended (answers Keeper) place old after.devices.keeper
  same_keeper ran ended is uses = subst (λ (e : Ended). UsesKeeper e (answers Keeper) place old after.devices.keeper) (sym is) uses

  keeper_drawn : (seed : ℕ) (left said : Option (List ℕ)) (ran ended : Ended)
      → RunsLines answers (with_streams (Some (script_text seed)) (Some []) before) (with_streams left said after) ran
      → PrintsSummary seed said before.out after.out ran ended → UsesKeeper ended (answers Keeper) place old after.devices.keeper
  keeper_drawn seed left said Succeeded ended runs prints = keeper_succeeded seed said ended prints
  keeper_drawn seed left said (LineNotRun number) ended runs prints = same_keeper (LineNotRun number) ended prints.0 (record { opened = place_after; faults = rose })
  keeper_drawn seed left said NoVolume ended runs prints = absurd runs.cause
  keeper_drawn seed left said VolumeExists ended runs prints = absurd runs.cause
  keeper_drawn seed left said (NewerVersion version) ended runs prints = absurd runs.cause
  keeper_drawn seed left said MalformedSetting ended runs prints = absurd runs.cause
  keeper_drawn seed left said (BadRow key bytes) ended runs prints = same_keeper (BadRow key bytes) ended prints.0 (record { opened = place_after; faults = rose })
  keeper_drawn seed left said SourceFailed ended runs prints = same_keeper SourceFailed ended prints.0 (record { opened = place_after; faults = rose })
  keeper_drawn seed left said OutFailed ended runs prints = same_keeper OutFailed ended prints.0 (record { opened = place_after; faults = rose })
  keeper_drawn seed left said ClockFailed ended runs prints = same_keeper ClockFailed ended prints.0 (record { opened = place_after; faults = rose })
  keeper_drawn seed left said KeeperFailed ended runs prints = absurd runs.cause
  keeper_drawn seed left said DepotFailed ended runs prints = absurd runs.cause
  keeper_drawn seed left said CarrierFailed ended runs prints = absurd runs.cause
  keeper_drawn seed left said ShelfFailed ended runs prints = absurd runs.cause
  keeper_drawn seed left said OutOfMemory ended runs prints =
      same_keeper OutOfMemory ended prints.0 (record { opened = OpenedThere place_after; faults = rose })

  pub UsesKeeper-script : (seed : Option ℕ) (ended : Ended) → RunsScript seed answers before after ended
      → UsesKeeper ended (answers Keeper) place old after.devices.keeper
  UsesKeeper-script None ended runs = keeper_lines ended runs
  UsesKeeper-script (Some seed) ended runs = keeper_drawn seed runs.left runs.said runs.ran ended runs.runs runs.prints

-- no device that lines use has failed
calm_lines : (ended : Ended) → source_failed ended ≡ false → out_failed ended ≡ false → clock_failed ended ≡ false
    → (before after : WorldValue) → LeavesLines before after → CountsFaults ended (in_world before) (in_world after)
calm_lines ended a b c before after l = record {
  source = subst (λ failed. RoseIf failed before.source.faults after.source.faults) (sym a)
      (ap (λ (stream : Stream). stream.faults) l.source);
  out = subst (λ failed. RoseIf failed before.out.faults after.out.faults) (sym b)
      (ap (λ (stream : Stream). stream.faults) l.out);
  clock = subst (λ failed. RoseIf failed before.clock.faults after.clock.faults) (sym c)
      (ap (λ (ticks : Ticks). ticks.faults) l.clock);
}

-- how a session ends at a device for blocks, which is opened after the keeper
record IsLate (ended : Ended) : Type 0 where
  calm : (before after : WorldValue) → LeavesLines before after → CountsFaults ended (in_world before) (in_world after)
  keeper : (place : List ℕ) (before after : Store) → UsesKeeper Succeeded 0 place before after
      → UsesKeeper ended 0 place before after
  no_line : status_of ended ≢ 3

late_memory : IsLate OutOfMemory
late_memory = record {
  calm = calm_lines OutOfMemory refl refl refl;
  keeper = λ place before after k. record { opened = OpenedThere k.opened; faults = k.faults };
  no_line = λ same. absurd (omega (arith, same));
}

late_at : (failed : Ended) → IsLate failed → (down : Down) (ended : Ended) → ended ≡ ended_at failed down
    → IsLate ended
late_at failed late Failed ended is = subst IsLate (sym is) late
late_at failed late Memory ended is = subst IsLate (sym is) late_memory

late_depot : IsLate DepotFailed
late_depot = record {
  calm = calm_lines DepotFailed refl refl refl;
  keeper = λ place before after k. record { opened = k.opened; faults = k.faults };
  no_line = λ same. absurd (omega (arith, same));
}

late_carrier : IsLate CarrierFailed
late_carrier = record {
  calm = calm_lines CarrierFailed refl refl refl;
  keeper = λ place before after k. record { opened = k.opened; faults = k.faults };
  no_line = λ same. absurd (omega (arith, same));
}

late_shelf : IsLate ShelfFailed
late_shelf = record {
  calm = calm_lines ShelfFailed refl refl refl;
  keeper = λ place before after k. record { opened = k.opened; faults = k.faults };
  no_line = λ same. absurd (omega (arith, same));
}

late_ended : (bucket folder : List ℕ) (before after : BlockDevices) (ended : Ended)
    → CannotAttach bucket folder before after ended → IsLate ended
late_ended bucket folder before after ended (NoDepot down is depot carrier shelf) =
    late_at DepotFailed late_depot down ended is
late_ended bucket folder before after ended (NoCarrier down is depot carrier shelf) =
    late_at CarrierFailed late_carrier down ended is
late_ended bucket folder before after ended (NoShelf down is depot carrier shelf) =
    late_at ShelfFailed late_shelf down ended is

late_fault : (fault : YardFault) → IsLate (ended_by_yard fault)
late_fault yard.Depot = late_depot
late_fault yard.Shelf = late_shelf
late_fault yard.Memory = late_memory

late_started : (before after : BlockDevices) (ended : Ended) → CannotStart before after ended → IsLate ended
late_started before after ended cannot = subst IsLate (sym cannot.ended_is) (late_fault cannot.fault)

-- no line of a drawn script ends the command

not_opened : (rows : Option RowMap) (ended : Ended) → CannotOpen rows ended → status_of ended ≢ 3
not_opened rows (LineNotRun number) cannot = absurd cannot
not_opened rows ended cannot = λ same. absurd (omega (arith, same))

drawn_lines : (seed : Option ℕ) (answers : Device → ℕ) (before after : StageValue) (ended : Ended)
    → RunsScript seed answers before after ended → is_some seed ≡ true → before.limits.writeback ≡ false
    → status_of ended ≢ 3
drawn_lines None answers before after ended runs drawn direct = absurd (false≢true drawn)
drawn_lines (Some seed) answers before after ended runs drawn direct = runs.none_off direct

drawn_session : (options : SessionOptions) (answers : Device → ℕ) (before after : WorldValue) (ended : Ended)
    → SessionEnds options answers before after ended → is_some options.generate ≡ true → status_of ended ≢ 3
drawn_session options answers before after ended (NotOpened cannot none same) drawn =
    not_opened before.keeper.rows ended cannot
drawn_session options answers before after ended (NotAttached setting known none cannot) drawn =
    (late_ended setting.bucket options.cache_dir before.blocks after.blocks ended cannot).no_line
drawn_session options answers before after ended (NotStarted setting attached known none are cannot) drawn =
    (late_started attached after.blocks ended cannot).no_line
drawn_session options answers before after ended (Opened setting attached yard left known are started runs stays uses is) drawn =
    let world = record before { blocks = attached } in
    drawn_lines options.generate answers (staged (limits_of options setting.block) yard world) left ended runs drawn refl

drawn_command : (command : Command) (answers : Device → ℕ) (before after : WorldValue) (ended : Ended)
    → Does command answers before after ended → is_drawn command ≡ true → status_of ended ≢ 3
drawn_command (Format place setting) answers before after ended does drawn = absurd (false≢true drawn)
drawn_command (Session place options) answers before after ended does drawn =
    drawn_session options answers before after ended does drawn

-- lines that ran over a stage whose yard was just started
pub RunsAttached-ran : (options : SessionOptions) (setting : Setting) (before after : WorldValue) (limits : Limits) (given : Option YardValue)
    (yard : YardValue) (left : StageValue) (ended : Ended) → IsStarted setting before.blocks.depot before.blocks.shelf yard
    → limits ≡ limits_of options setting.block → given ≡ Some yard
    → EndsScript options.generate
    (stage_value limits before.source before.out (shared before.keeper (yard_at given) before.blocks.carrier) before.clock before.journal)
    left ended → after ≡ world_of before.err left → RunsAttached options setting before after ended
RunsAttached-ran options setting before after limits given yard left ended started bounds is ends world =
    Ran yard left started
    (subst (λ (l : Limits). EndsScript options.generate (staged l yard before) left ended) bounds
    (subst (λ (y : YardValue). EndsScript options.generate (staged limits y before) left ended) (ap yard_at is) ends)) world

-- what the lines did with the devices for blocks, which were in the yard
UsesBlocks-lines : (seed : Option ℕ) (setting : Setting) (limits : Limits) (before : WorldValue) (yard : YardValue) (left : StageValue)
    (ended : Ended) → IsStarted setting before.blocks.depot before.blocks.shelf yard
    → (e : EndsScript seed (staged limits yard before) left ended)
    → UsesBlocks e.answers before.blocks (world_of before.err left).blocks
UsesBlocks-lines seed setting limits before yard left ended started e = record {
  depot_at = e.stays.depot_at ∙ ap (λ (d : Holding ObjectMap). d.opened) started.depot_same;
  shelf_at = e.stays.shelf_at ∙ ap (λ (h : Holding StagedMap). h.opened) started.shelf_same;
  carrier_at = e.stays.carrier_at;
  direct = e.stays.direct ∙ ap (λ (h : Holding StagedMap). h.content) started.shelf_same;
  depot = subst (λ (d : Holding ObjectMap). RoseTimes (e.answers Depot) d.faults left.devices.yard.depot.faults) started.depot_same (e.counts Depot);
  shelf = subst (λ (h : Holding StagedMap). RoseTimes (e.answers Shelf) h.faults left.devices.yard.shelf.faults) started.shelf_same (e.counts Shelf);
  carrier = e.counts Carrier;
}

-- the words were a command
pub RunsAsked-ran : (words : List Text) (asked : Option Command) (command : Command) (before after : WorldValue)
    (err : Stream) (ended : Ended) (status : ℕ) → asked ≡ Some command → RunsCommand command before after ended
    → after.err ≡ before.err → status ≡ status_of ended → Says after.err err (message_of ended)
    → RunsAsked words asked before (record after { err = err }) status
RunsAsked-ran words asked command before after err ended status is runs same result says =
    subst (λ o. RunsAsked words o before (record after { err = err }) status) (sym is) (record {
      ended = ended;
      runs = subst (λ e. RunsCommand command before (record after { err = e }) ended) same runs;
      result = result;
      drawn = λ drawn same. drawn_command command runs.answers (record before { keeper = runs.found }) after ended runs.does drawn
          (sym result ∙ same);
      says = subst (λ e. Says e err (message_of ended)) same says;
    })

-- a session after the keeper was opened and the setting read
module _ (place : List ℕ) (options : SessionOptions) (before after : WorldValue) (opened : Store) (setting : Setting) (ended : Ended)
    (known : IsKnown opened.rows setting) (rows : IsAttached place (held before.keeper) (held opened))
    (keeper : UsesKeeper Succeeded 0 place before.keeper opened) where
  none_ran : LeavesLines (record before { keeper = opened }) after → after.keeper ≡ opened
      → RunsNone no_failures (record before { keeper = opened }) after
  none_ran leaves same = record {
    none = λ device. refl;
    lines = record { source = leaves.source; out = leaves.out; clock = leaves.clock; journal = leaves.journal };
    keeper = same;
  }

  keeper_late : IsLate ended → after.keeper ≡ opened → UsesKeeper ended 0 place before.keeper after.keeper
  keeper_late late same =
      subst (λ store. UsesKeeper ended 0 place before.keeper store) (sym same) (late.keeper place before.keeper opened keeper)

  session_attached : (attached : BlockDevices) → AreAttached setting.bucket options.cache_dir before.blocks attached
      → RunsAttached options setting (record before { keeper = opened; blocks = attached }) after ended
      → RunsSession place options before after ended
  session_attached attached are (Unstarted cannot leaves same) = record {
    answers = no_failures;
    found = opened;
    attached = rows;
    ends = NotStarted setting attached known (none_ran
        (record { source = leaves.source; out = leaves.out; clock = leaves.clock; journal = leaves.journal }) same) are cannot;
    keeper = keeper_late (late_started attached after.blocks ended cannot) same;
  }
  session_attached attached are (Ran yard left started e is) =
      let world = record before { keeper = opened; blocks = attached } in
      let limits = limits_of options setting.block in
      record {
        answers = e.answers;
        found = opened;
        attached = rows;
        ends = Opened setting attached yard left known are started e.runs e.stays
            (subst (λ (w : WorldValue). UsesBlocks e.answers attached w.blocks) (sym is)
            (UsesBlocks-lines options.generate setting limits world yard left ended started e)) is;
        keeper = subst (λ (w : WorldValue). UsesKeeper ended (e.answers Keeper) place before.keeper w.keeper) (sym is)
            (UsesKeeper-script (staged limits yard world) left place before.keeper e.answers keeper.opened keeper.faults e.stays e.counts
            options.generate ended e.runs);
      }

  pub RunsSession-volume : RunsVolume options setting (record before { keeper = opened }) after ended
      → RunsSession place options before after ended
  RunsSession-volume (Stopped cannot leaves same) = record {
    answers = no_failures;
    found = opened;
    attached = rows;
    ends = NotAttached setting known (none_ran leaves same) cannot;
    keeper = keeper_late (late_ended setting.bucket options.cache_dir before.blocks after.blocks ended cannot) same;
  }
  RunsSession-volume (Attached attached are ran) = session_attached attached are ran

  faults_attached : (attached : BlockDevices)
      → RunsAttached options setting (record before { keeper = opened; blocks = attached }) after ended
      → CountsFaults ended (in_world before) (in_world after)
  faults_attached attached (Unstarted cannot leaves same) =
      (late_started attached after.blocks ended cannot).calm before after
      (record { source = leaves.source; out = leaves.out; clock = leaves.clock; journal = leaves.journal })
  faults_attached attached (Ran yard left started e is) =
      subst (λ (w : WorldValue). CountsFaults ended (in_world before) (in_world w)) (sym is)
      (record { source = e.faults.source; out = e.faults.out; clock = e.faults.clock })

  pub CountsFaults-volume : RunsVolume options setting (record before { keeper = opened }) after ended
      → CountsFaults ended (in_world before) (in_world after)
  CountsFaults-volume (Stopped cannot leaves same) =
      (late_ended setting.bucket options.cache_dir before.blocks after.blocks ended cannot).calm before after
      (record { source = leaves.source; out = leaves.out; clock = leaves.clock; journal = leaves.journal })
  CountsFaults-volume (Attached attached are ran) = faults_attached attached ran
