-- What only inner contracts cite: of `promise/Lines`.
use Rattle.std.specs.Prelude.{◌≡◌, ℕ, ◌+◌, true, ◌||◌, List, ◌∷◌, ◌++◌, length, IfSome, Option, Some}
use Rattle.jv_model.specs.declared.act.Act.{Act}
use Rattle.jv_model.specs.declared.fault.Device.{Device}
use Rattle.jv_model.specs.declared.op.Line.{Line}
use Rattle.jv_model.specs.promise.journal.Past.{Past, begun_to, past, is_over}
use Rattle.jv_model.specs.promise.journal.Legal.{AllAllowed, may_stop}
use Rattle.jv_model.specs.declared.row.RowKey.{RowKey}
use Rattle.jv_outside.specs.promise.Causes.{Rose, RoseTimes}
use Rattle.jv_outside.specs.promise.Ticks.{Ticks, Passes}
use Rattle.jv_rows.specs.promise.Transactions.{IsBad}
use Rattle.jv_volume.specs.promise.TypedRows.{typed}
use Rattle.jv_yard.specs.promise.YardValue.{YardValue}
use Rattle.jv_client_shared.specs.promise.Shared.{Shared}
use Rattle.jv_client.specs.Makes.{faults_of}
use Rattle.jv_session.specs.declared.line_end.LineEnd.{LineEnd}
use Rattle.jv_session.specs.declared.line_end.LineEnd.TheVariants.{Said, Quiet, ClockFailed, Broken, Memory}
use Rattle.jv_session.specs.promise.Direct.{BlocksStay}
use Rattle.jv_session.specs.Stands.{ScheduleValue, Stands, InLine, IsYardOf, ClockFor}
use Rattle.jv_session.specs.promise.Lines.{AreFailures, StaysPut}

-- what the call for a line uses: the clock, the keeper and the carrier with the yard, the journal
-- and the schedule
pub record LineState : Type 0 where
  pub clock : Ticks
  pub devices : Shared
  pub journal : List Act
  pub schedule : ScheduleValue

abbrev pub line_state : Ticks → Shared → List Act → ScheduleValue → LineState
line_state clock devices journal schedule =
    record { clock = clock; devices = devices; journal = journal; schedule = schedule }

-- what was appended to a journal answers of each device as often as `failed` says that it failed
pub record AnswersSo (before after : List Act) (failed : Device → ℕ) : Type 0 where
  pub acts : List Act
  pub grows : after ≡ before ++ acts
  pub failures : AreFailures acts failed

-- the entries of one line, which has this number, were appended and are allowed, and the clock was
-- asked `asks` times
pub record Appends (p : Past) (more : List Line) (number asks : ℕ) (before after : List Act)
    (acts : List Act) (q : Past) : Type 0 where
  pub grows : after ≡ before ++ acts
  pub allowed : AllAllowed p acts
  pub reaches : begun_to number (past p acts) ≡ q
  pub line : q.line ≡ number
  pub same_run : q.run ≡ p.run
  pub rest : q.rest ≡ more
  pub count : q.state.count ≡ length after
  pub asked : q.asked ≡ p.asked + asks
  pub printed : q.printed ≡ p.printed ++ p.said

-- the line is done and prints this
pub record Ran (p : Past) (more : List Line) (number asks : ℕ) (before after : LineState)
    (text : List ℕ) : Type 0 where
  pub acts : List Act
  pub end : Past
  pub appends : Appends p more number asks before.journal after.journal acts end
  pub stands : Stands end after.schedule after.devices
  pub direct : BlocksStay before.devices after.devices
  pub said : end.said ≡ text

-- the run stopped on the line, before a step or after its last one, and the schedule stands where
-- it is then
pub record Cut (p : Past) (more : List Line) (number asks : ℕ)
    (before after : LineState) : Type 0 where
  pub acts : List Act
  pub end : Past
  pub appends : Appends p more number asks before.journal after.journal acts end
  pub stands : InLine end after.schedule after.devices
  pub direct : BlocksStay before.devices after.devices
  pub stops : (is_over end || may_stop end) ≡ true

-- From wherever the schedule stands, when the clock still shows what the run's clock shows: the
-- outcome of the line.
abbrev pub FromThere : Line → ℕ → LineState → LineState → (Past → List Line → Type 0) → Type 0
FromThere line number before after Comes = (p : Past) (more : List Line)
    → Stands p before.schedule before.devices → p.line + 1 ≡ number → p.rest ≡ line ∷ more
    → p.state.count ≡ length before.journal
    → ClockFor p.run.clock p.asked before.clock.answers after.clock.answers → Comes p more

-- What a line does to clock and devices, whatever these hold: how often the clock was asked, and
-- how often each device failed, which as many of its entries answer. The schedule has the same
-- limits, and may go on with the yard.
pub record LineUses (before after : LineState) (asks : ℕ) (failed : Device → ℕ) : Type 0 where
  pub passes : Passes before.clock.answers after.clock.answers asks
  pub stays : StaysPut before.devices after.devices
  pub counts : (device : Device)
      → RoseTimes (failed device) (faults_of device before.devices) (faults_of device after.devices)
  pub answers : AnswersSo before.journal after.journal failed
  pub yard : IsYardOf before.schedule before.devices.yard
      → IsYardOf after.schedule after.devices.yard
  pub limits : after.schedule.limits ≡ before.schedule.limits

-- the line was run
pub record SaysLine (line : Line) (number : ℕ) (before after : LineState)
    (text : List ℕ) : Type 0 where
  pub asks : ℕ
  pub failed : Device → ℕ
  pub uses : LineUses before after asks failed
  pub calm : after.clock.faults ≡ before.clock.faults
  pub runs : FromThere line number before after (λ p more. Ran p more number asks before after text)

-- the line was cut off
pub record CutsLine (line : Line) (number : ℕ) (before after : LineState) : Type 0 where
  pub asks : ℕ
  pub failed : Device → ℕ
  pub uses : LineUses before after asks failed
  pub stops : FromThere line number before after (λ p more. Cut p more number asks before after)

-- The line stopped at a row that is Bad, which none is where the schedule stands for a past.
pub record BreaksAt (line : Line) (number : ℕ) (before after : LineState) (key : RowKey)
    (bytes : List ℕ) : Type 0 where
  pub asks : ℕ
  pub failed : Device → ℕ
  pub uses : LineUses before after asks failed
  pub calm : after.clock.faults ≡ before.clock.faults
  pub bad : IfSome after.devices.keeper.rows (λ known. IsBad (typed known) key bytes)
  pub never : FromThere line number before after (λ p more. ⊥)

-- nothing has changed, and the clock wasn't asked
pub record LeavesAll (before after : LineState) : Type 0 where
  pub clock : after.clock ≡ before.clock
  pub devices : after.devices ≡ before.devices
  pub journal : after.journal ≡ before.journal
  pub schedule : after.schedule ≡ before.schedule

-- by how the call ended
abbrev pub LineRuns : Line → ℕ → LineState → LineState → LineEnd → Type 0
LineRuns line number before after (Said text) = SaysLine line number before after text
LineRuns line number before after Quiet = LeavesAll before after
LineRuns line number before after ClockFailed =
    CutsLine line number before after × Rose before.clock.faults after.clock.faults
LineRuns line number before after (Broken key bytes) = BreaksAt line number before after key bytes
LineRuns line number before after Memory =
    CutsLine line number before after × (after.clock.faults ≡ before.clock.faults)

-- a door has its yard before a call and after it, which the call took out
pub record AtDoor (before after : Option YardValue)
    (Does : YardValue → YardValue → Type 0) : Type 0 where
  pub taken : YardValue
  pub taken_is : before ≡ Some taken
  pub left : YardValue
  pub left_is : after ≡ Some left
  pub does : Does taken left
