-- How a run gets from line to line.
use Rattle.std.specs.Prelude.{◌≡◌, ℕ, ◌+◌, ◌≤◌, List, [], ◌∷◌, ◌++◌, map, length, All, Option, None, Some, IfSome, IsSomeAnd, Result, Ok, Err}
use Rattle.jv_model.specs.declared.act.Act.{Act}
use Rattle.jv_model.specs.declared.basics.Limits.{Limits}
use Rattle.jv_model.specs.declared.fault.Device.{Device}
use Rattle.jv_model.specs.declared.op.Line.{Line}
use Rattle.jv_model.specs.declared.row.RowKey.{RowKey}
use Rattle.jv_model.specs.promise.script.Grammar.{line_of}
use Rattle.jv_model.specs.promise.journal.Legal.{AllAllowed}
use Rattle.jv_model.specs.promise.journal.Past.{Past, Setup, at_start, begun_to, past, reached}
use Rattle.jv_outside.specs.promise.Causes.{Rose, RoseTimes}
use Rattle.jv_outside.specs.promise.Stream.{Gains, HasAll, IsCut}
use Rattle.jv_outside.specs.promise.Ticks.{Passes}
use Rattle.jv_client_shared.specs.promise.Shared.{Shared}
use Rattle.jv_client.specs.Makes.{faults_of}
use Rattle.jv_session.specs.promise.Direct.{BlocksStay}
use Rattle.jv_session.specs.promise.Lines.{AreFailures, StaysPut}
use Rattle.jv_session.specs.Lines.{BreaksAt, CutsLine, FromThere, LineState, LineUses, line_state}
use Rattle.jv_session.specs.Stands.{ScheduleValue, Stands}
use Rattle.jv_cmd.specs.declared.ended.Ended.{Ended}
use Rattle.jv_cmd.specs.declared.ended.Ended.TheVariants.{LineNotRun, BadRow, OutFailed, ClockFailed, OutOfMemory}
use Rattle.jv_model.specs.declared.limits.TheConstants.{MAX_LINE, MAX_LINES}
use Rattle.jv_cmd.specs.promise.Texts.{texts_of}
use Rattle.jv_cmd.specs.promise.Stages.{StageValue}
use Rattle.jv_cmd.specs.promise.Run.{Beginning, IsKnownClock, IsBuilt, StartsWhole, session_run, IsTextNotRun}
use Rattle.jv_cmd.specs.Generating.{EndsScript}

-- a past after `done` lines of a run, with these lines to come: the schedule stands there, and this
-- was printed
pub record IsAt (p : Past) (run : Setup) (more : List Line) (done asks entries : ℕ)
    (printed : List ℕ) (s : ScheduleValue) (v : Shared) : Type 0 where
  pub line : p.line ≡ done
  pub stands : Stands p s v
  pub same_run : p.run ≡ run
  pub rest : p.rest ≡ more
  pub count : p.state.count ≡ entries
  pub asked : p.asked ≡ asks
  pub text : p.printed ++ p.said ≡ printed

-- the journal of a run so far is allowed and reaches such a past
pub record Reaches (run : Setup) (more : List Line) (done asked : ℕ) (text : List ℕ)
    (journal : List Act) (s : ScheduleValue) (v : Shared) : Type 0 where
  pub allowed : AllAllowed (at_start run) journal
  pub at : IsAt (begun_to done (reached run journal)) run more done asked (length journal) text s v

-- the lines of the entries are between two numbers
abbrev pub AreBetween : ℕ → ℕ → List Act → Type 0
AreBetween low high [] = Unit {0}
AreBetween low high (act ∷ acts) = (low ≤ act.line) × (act.line ≤ high) × AreBetween low high acts

-- The outcome of these lines, whatever lines are to come, where the run began on a whole volume,
-- and how often the clock was asked.
pub record DoneOn (start : Beginning) (before now : StageValue) (lines : List Line) (done asked : ℕ)
    (text : List ℕ) (s : ScheduleValue) : Type 0 where
  pub own : AreBetween 0 done now.journal
  pub direct : BlocksStay before.devices now.devices
  pub reaches : (known : Option (ℕ → ℕ)) (more : List Line) (status : ℕ)
      → IsKnownClock known before.clock now.clock
      → Reaches (session_run start known (lines ++ more) status) more done asked text now.journal s
      now.devices

-- What was done with devices, whatever they hold: the clock was asked `asked` times, and each
-- device failed as often as `failed` says, and an operation was answered so each time.
pub record HasUsed (before now : StageValue) (asked : ℕ) (failed : Device → ℕ) : Type 0 where
  pub passes : Passes before.clock.answers now.clock.answers asked
  pub stays : StaysPut before.devices now.devices
  pub counts : (device : Device)
      → RoseTimes (failed device) (faults_of device before.devices) (faults_of device now.devices)
  pub counted : AreFailures now.journal failed

-- `done` lines were run, and this is their text
pub record Done (left : Option (List ℕ)) (before now : StageValue) (done : ℕ) (text : List ℕ)
    (s : ScheduleValue) : Type 0 where
  pub texts : List (List ℕ)
  pub lines : List Line
  pub asked : ℕ
  pub failed : Device → ℕ
  pub count : length lines ≡ done
  pub each : map line_of texts ≡ map Some lines
  pub few : done ≤ MAX_LINES
  pub short : All (λ line. length line ≤ MAX_LINE) texts
  pub built : All (IsBuilt before.limits) lines
  pub first : IfSome before.source.content
      (λ all. IsSomeAnd left (λ rest. texts_of all ≡ texts ++ texts_of rest))
  pub uses : HasUsed before now asked failed
  pub limits : s.limits ≡ before.limits
  pub whole : (start : Beginning) → StartsWhole before start
      → DoneOn start before now lines done asked text s

-- source, out and clock haven't failed
pub record AreCalm (before now : StageValue) : Type 0 where
  pub source : now.source.faults ≡ before.source.faults
  pub out : now.out.faults ≡ before.out.faults
  pub clock : now.clock.faults ≡ before.clock.faults

-- `done` lines were run and printed
pub record Going (left : Option (List ℕ)) (before now : StageValue) (done : ℕ)
    (s : ScheduleValue) : Type 0 where
  pub text : List ℕ
  pub lines_done : Done left before now done text s
  pub gains : Gains before.out.content now.out.content text
  pub calm : AreCalm before now

-- one line more was run, or the run ended
abbrev pub NextLine : Option (List ℕ) → StageValue → StageValue → ℕ → ScheduleValue
    → Result (Unit {0}) Ended → Type 0
NextLine left before now done s (Ok unit) = Going left before now (done + 1) s
NextLine left before now done s (Err ended) = EndsScript None before now ended

-- a line's entries after a journal: they are allowed, and the line is done and prints the text
pub record Goes (p : Past) (more : List Line) (number asks : ℕ) (before after : List Act)
    (text : List ℕ) (s : ScheduleValue) (v : Shared) : Type 0 where
  pub acts : List Act
  pub grows : after ≡ before ++ acts
  pub allowed : AllAllowed p acts
  pub at : IsAt (begun_to number (past p acts)) p.run more number (p.asked + asks) (length after)
      (p.printed ++ p.said ++ text) s v

-- what a line uses of the world
abbrev pub used : StageValue → ScheduleValue → LineState
used world s = line_state world.clock world.devices world.journal s

-- a line was run and prints this, from wherever the schedule stood
pub record Advances (line : Line) (number : ℕ) (before after : StageValue) (s s' : ScheduleValue)
    (printed : List ℕ) : Type 0 where
  pub asks : ℕ
  pub failed : Device → ℕ
  pub uses : LineUses (used before s) (used after s') asks failed
  pub goes : FromThere line number (used before s) (used after s')
      (λ p more. Goes p more number asks before.journal after.journal printed s' after.devices)
  pub direct : FromThere line number (used before s) (used after s')
      (λ p more. BlocksStay before.devices after.devices)

-- the text is a line that may be run
pub record ReadsBuilt (text : List ℕ) (limits : Limits) (line : Line) : Type 0 where
  pub read : line_of text ≡ Some line
  pub built : IsBuilt limits line

-- a text was read
abbrev pub TextReads : ℕ → List ℕ → Limits → Result Line Ended → Type 0
TextReads number text limits (Ok line) = ReadsBuilt text limits line
TextReads number text limits (Err (LineNotRun at)) = (at ≡ number) × IsTextNotRun text limits
TextReads number text limits (Err OutOfMemory) = Unit {0}
TextReads number text limits (Err _) = ⊥

-- nothing has changed that lines use
pub record IsStill (before after : StageValue) : Type 0 where
  pub out : after.out ≡ before.out
  pub devices : after.devices ≡ before.devices
  pub clock : after.clock ≡ before.clock
  pub journal : after.journal ≡ before.journal

-- a line was run and printed
pub record PrintsLine (line : Line) (number : ℕ) (before after : StageValue)
    (s s' : ScheduleValue) : Type 0 where
  pub printed : List ℕ
  pub runs : Advances line number before after s s' printed
  pub writes : HasAll before.out after.out printed
  pub clock : after.clock.faults ≡ before.clock.faults

-- a line was run, and out failed after a proper prefix of what it prints
pub record PrintsCut (line : Line) (number : ℕ) (before after : StageValue)
    (s s' : ScheduleValue) : Type 0 where
  pub printed : List ℕ
  pub runs : Advances line number before after s s' printed
  pub cut : IsCut before.out after.out printed
  pub clock : after.clock.faults ≡ before.clock.faults

-- a line was cut off, and prints nothing
pub record StopsIn (line : Line) (number : ℕ) (before after : StageValue)
    (s s' : ScheduleValue) : Type 0 where
  pub cut : CutsLine line number (used before s) (used after s')
  pub out : after.out ≡ before.out

-- a line stopped at a row that is Bad, and prints nothing
pub record StopsBad (line : Line) (number : ℕ) (before after : StageValue) (s s' : ScheduleValue)
    (key : RowKey) (bytes : List ℕ) : Type 0 where
  pub breaks : BreaksAt line number (used before s) (used after s') key bytes
  pub out : after.out ≡ before.out

-- memory ran out for a text: before its line was run, or on it
pub data LacksMemory (number : ℕ) (text : List ℕ) (before after : StageValue)
    (s s' : ScheduleValue) : Type 0 where
  BeforeLine : IsStill before after → LacksMemory number text before after s s'
  OnLine : (line : Line) → ReadsBuilt text s.limits line → StopsIn line number before after s s'
      → after.clock.faults ≡ before.clock.faults → LacksMemory number text before after s s'

-- by how the call for a line ended
abbrev pub LineEnds : Line → ℕ → StageValue → StageValue → ScheduleValue → ScheduleValue
    → Result (Unit {0}) Ended → Type 0
LineEnds line number before after s s' (Ok unit) = PrintsLine line number before after s s'
LineEnds line number before after s s' (Err OutFailed) = PrintsCut line number before after s s'
LineEnds line number before after s s' (Err ClockFailed) =
    StopsIn line number before after s s' × Rose before.clock.faults after.clock.faults
LineEnds line number before after s s' (Err (BadRow key bytes)) =
    StopsBad line number before after s s' key bytes
LineEnds line number before after s s' (Err OutOfMemory) = StopsIn line number before after s s' ×
    (after.clock.faults ≡ before.clock.faults)
LineEnds line number before after s s' (Err _) = ⊥

-- by how the call for a text ended
abbrev pub TextEnds : ℕ → List ℕ → StageValue → StageValue → ScheduleValue → ScheduleValue
    → Result (Unit {0}) Ended → Type 0
TextEnds number text before after s s' (Ok unit) =
    (line : Line) × ReadsBuilt text s.limits line × PrintsLine line number before after s s'
TextEnds number text before after s s' (Err OutFailed) =
    (line : Line) × ReadsBuilt text s.limits line × PrintsCut line number before after s s'
TextEnds number text before after s s' (Err (LineNotRun at)) =
    (at ≡ number) × IsTextNotRun text s.limits × IsStill before after
TextEnds number text before after s s' (Err ClockFailed) =
    (line : Line) × ReadsBuilt text s.limits line × StopsIn line number before after s s'
    × Rose before.clock.faults after.clock.faults
TextEnds number text before after s s' (Err (BadRow key bytes)) =
    (line : Line) × ReadsBuilt text s.limits line × StopsBad line number before after s s' key bytes
TextEnds number text before after s s' (Err OutOfMemory) = LacksMemory number text before after s s'
TextEnds number text before after s s' (Err _) = ⊥
