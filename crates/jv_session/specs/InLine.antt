-- A line in progress: what a call makes of it, wherever the line stands.
use Rattle.std.specs.Prelude.{◌≡◌, ℕ, ◌+◌, ◌≤◌, min, max, true, ◌||◌, IsSome, IfSome, List, [], ◌∷◌, ◌++◌, length, slice_get, slice_set, None, Some, Result, Ok, Err}
use Rattle.jv_model.specs.declared.limits.TheConstants.{LAST_MOMENT, CLIENTS}
use Rattle.jv_model.specs.declared.act.Act.{Act}
use Rattle.jv_model.specs.declared.act.ActKind.{ActKind}
use Rattle.jv_model.specs.declared.act.Told.TheVariants.{Refused as ToldRefused}
use Rattle.jv_model.specs.declared.fault.Device.{Device}
use Rattle.jv_model.specs.declared.fault.Fault.{Fault}
use Rattle.jv_model.specs.declared.op.Op.{Op}
use Rattle.jv_model.specs.declared.op.Step.{Step}
use Rattle.std.specs.declared.alloc.AllocError.{AllocError}
use Rattle.jv_model.specs.promise.client.ModelClient.{ModelClient}
use Rattle.jv_model.specs.promise.client.Submission.{submission, submitted}
use Rattle.jv_model.specs.promise.journal.Past.{Past, ToAnswer, OneStep, Refusal, CrashEntry, TickEntry, is_over}
use Rattle.jv_model.specs.promise.journal.Legal.{may_stop}
use Rattle.jv_model.specs.journal.Stepping.{entry_of}
use Rattle.jv_model_laws.specs.OnLines.{Leads, SameLine}
use Rattle.jv_outside.specs.promise.Causes.{Rose}
use Rattle.jv_outside.specs.promise.Ticks.{Ticks}
use Rattle.jv_outside.specs.Ticks.{HasAnswered}
use Rattle.jv_client.specs.ClientValue.{ClientValue}
use Rattle.jv_model.specs.declared.row.RowKey.{RowKey}
use Rattle.jv_rows.specs.promise.Transactions.{IsBad}
use Rattle.jv_volume.specs.promise.TypedRows.{typed}
use Rattle.jv_client_shared.specs.promise.Shared.{Known, Shared}
use Rattle.jv_client.specs.Held.{IsClient, in_flight}
use Rattle.jv_client.specs.Makes.{IsCalm, Steps}
use Rattle.jv_session.specs.declared.line_end.LineEnd.{LineEnd}
use Rattle.jv_session.specs.declared.line_end.LineEnd.TheVariants.{Said, Quiet, ClockFailed, Broken, Memory}
use Rattle.jv_session.specs.declared.line_end.Stopped.{Stopped}
use Rattle.jv_session.specs.declared.line_end.Stopped.TheVariants as stopped
use Rattle.jv_session.specs.Stands.{ScheduleValue, InLine, ClockFor}
use Rattle.jv_session.specs.promise.Direct.{BlocksStay}
use Rattle.jv_session.specs.Lines.{LineState, LineUses}

-- entries of the line were appended; they are allowed, and lead there
pub record Goes (q : Past) (asks : ℕ) (before after acts : List Act) (r : Past) : Type 0 where
  pub grows : after ≡ before ++ acts
  pub leads : Leads q acts r
  pub same : SameLine q r
  pub count : r.state.count ≡ length after
  pub asked : r.asked ≡ q.asked + asks

-- the line is done and prints this
pub record Finish (q : Past) (asks : ℕ) (before after : LineState) (text : List ℕ) : Type 0 where
  pub acts : List Act
  pub end : Past
  pub goes : Goes q asks before.journal after.journal acts end
  pub in_line : InLine end after.schedule after.devices
  pub direct : BlocksStay before.devices after.devices
  pub over : is_over end ≡ true
  pub said : end.said ≡ text

-- the run stopped on the line, and the schedule stands where it is then
pub record Break (q : Past) (asks : ℕ) (before after : LineState) : Type 0 where
  pub acts : List Act
  pub end : Past
  pub goes : Goes q asks before.journal after.journal acts end
  pub in_line : InLine end after.schedule after.devices
  pub direct : BlocksStay before.devices after.devices
  pub stops : (is_over end || may_stop end) ≡ true

abbrev pub end_of : Stopped → LineEnd
end_of stopped.Clock = ClockFailed
end_of stopped.Memory = Memory

-- from each past where the line may stand, when the clock still shows what the run's clock shows
abbrev pub FromLine : (Past → Type 0) → ℕ → LineState → LineState → (Past → Type 0) → Type 0
FromLine Where number before after Comes = (q : Past) → Where q
    → InLine q before.schedule before.devices → q.line ≡ number
    → q.state.count ≡ length before.journal
    → ClockFor q.run.clock q.asked before.clock.answers after.clock.answers → Comes q

pub record Finishes (Where : Past → Type 0) (number : ℕ) (before after : LineState)
    (text : List ℕ) : Type 0 where
  pub asks : ℕ
  pub failed : Device → ℕ
  pub uses : LineUses before after asks failed
  pub calm : after.clock.faults ≡ before.clock.faults
  pub goes : FromLine Where number before after (λ q. Finish q asks before after text)

pub record Breaks (Where : Past → Type 0) (number : ℕ) (before after : LineState) : Type 0 where
  pub asks : ℕ
  pub failed : Device → ℕ
  pub uses : LineUses before after asks failed
  pub goes : FromLine Where number before after (λ q. Break q asks before after)

-- the line stopped at a row that is Bad, as none is where a past is stood for
pub record FindsBad (Where : Past → Type 0) (number : ℕ) (before after : LineState) (key : RowKey)
    (bytes : List ℕ) : Type 0 where
  pub asks : ℕ
  pub failed : Device → ℕ
  pub uses : LineUses before after asks failed
  pub calm : after.clock.faults ≡ before.clock.faults
  pub bad : IfSome after.devices.keeper.rows (λ known. IsBad (typed known) key bytes)
  pub never : FromLine Where number before after (λ q. ⊥)

-- by how the call ended
abbrev pub LineGoes : (Past → Type 0) → ℕ → LineState → LineState → LineEnd → Type 0
LineGoes Where number before after (Said text) = Finishes Where number before after text
LineGoes Where number before after Quiet = ⊥
LineGoes Where number before after ClockFailed =
    Breaks Where number before after × Rose before.clock.faults after.clock.faults
LineGoes Where number before after (Broken key bytes) = FindsBad Where number before after key bytes
LineGoes Where number before after Memory =
    Breaks Where number before after × (after.clock.faults ≡ before.clock.faults)

-- where the line may stand

abbrev pub RunsToEnd : ℕ → Past → Type 0
RunsToEnd client q = q.due ≡ ToAnswer client

abbrev pub StepsOnce : ℕ → Past → Type 0
StepsOnce client q = q.due ≡ OneStep client

abbrev pub Crashes : ℕ → Past → Type 0
Crashes client q = q.due ≡ CrashEntry client

abbrev pub Passing : ℕ → Past → Type 0
Passing by q = q.due ≡ TickEntry by

pub record IsRefused (client : ℕ) (fault : Fault) (q : Past) : Type 0 where
  pub due : q.due ≡ Refusal client fault
  pub op : Op
  pub refused : submission (q.state.clients client) op ≡ Some fault

-- the moment of a step by the clock's answer, with the seconds that lines let pass and `by` more
pub record IsMomentOf (s : ScheduleValue) (by now : ℕ) (before after : Ticks) : Type 0 where
  pub answer : ℕ
  pub answered : HasAnswered before after answer
  pub is : now ≡ min LAST_MOMENT (max s.at (answer + (s.ticks + by)))

-- the call stopped before a step, with nothing changed
abbrev pub StopsBefore : Ticks → Ticks → Stopped → Type 0
StopsBefore before after stopped.Clock =
    (after.answers ≡ before.answers) × Rose before.faults after.faults
StopsBefore before after stopped.Memory = after ≡ before

abbrev pub Moments : ScheduleValue → ℕ → Ticks → Ticks → Result ℕ Stopped → Type 0
Moments s by before after (Ok now) = IsMomentOf s by now before after
Moments s by before after (Err stopped) = StopsBefore before after stopped

-- the one entry of a line was appended
pub record HasNoted (s s' : ScheduleValue) (number client : ℕ) (kind : ActKind) (by now : ℕ)
    (before after : Ticks) (journal more : List Act) : Type 0 where
  pub moment : IsMomentOf s by now before after
  pub later : s.at ≤ now
  pub eight : length s.clients ≡ CLIENTS
  pub appends : more ≡ journal ++ entry_of number now client kind ∷ []
  pub same : s' ≡ record s { at = now }

pub record LeavesSchedule (s s' : ScheduleValue) (before after : Ticks) (journal more : List Act)
    (stopped : Stopped) : Type 0 where
  pub stops : StopsBefore before after stopped
  pub acts : more ≡ journal
  pub same : s' ≡ s

abbrev pub Notes : ScheduleValue → ScheduleValue → ℕ → ℕ → ActKind → ℕ → Ticks → Ticks → List Act
    → List Act → Result ℕ Stopped → Type 0
Notes s s' number client kind by before after journal more (Ok now) =
    HasNoted s s' number client kind by now before after journal more
Notes s s' number client kind by before after journal more (Err stopped) =
    LeavesSchedule s s' before after journal more stopped

-- what clients share once the yard knows of a moment
abbrev pub at_moment : ℕ → Shared → Shared
at_moment now v = record v { yard = record v.yard { last = now } }

-- A client of the schedule made a step at a moment that the yard got first.
pub record HasStepped (s s' : ScheduleValue) (number client : ℕ) (before after : Ticks)
    (v used : Shared) (journal more : List Act) (step : Step) : Type 0
  where
    pub now : ℕ
    pub moment : IsMomentOf s 0 now before after
    pub old : ClientValue
    pub found : slice_get s.clients client ≡ Some old
    pub id : old.id ≡ client
    pub new : ClientValue
    pub steps : Steps number now old new (at_moment now v) used journal more step
    pub same : s' ≡ record s { at = now; clients = slice_set s.clients client new }

abbrev pub MakesStep : ScheduleValue → ScheduleValue → ℕ → ℕ → Ticks → Ticks → Shared → Shared
    → List Act → List Act → Result Step Stopped → Type 0
MakesStep s s' number client before after v used journal more (Ok step) =
    HasStepped s s' number client before after v used journal more step
MakesStep s s' number client before after v used journal more (Err stopped) =
    LeavesSchedule s s' before after journal more stopped × (used ≡ v)

-- an operation was begun, or refused
pub record HasBegun (s s' : ScheduleValue) (client : ℕ) (o : Op) : Type 0 where
  pub old : ClientValue
  pub found : slice_get s.clients client ≡ Some old
  pub new : ClientValue
  pub is_new : (g : Known) (v : Shared) (m : ModelClient) (count : ℕ) → IsClient g v m count old
      → (submission m o ≡ None) × IsClient g v (submitted s.limits o m) count new
  pub no_flight : in_flight new ≡ 0
  pub same : s' ≡ record s { clients = slice_set s.clients client new }
  pub busy : IsSome new.doing

pub record HasRefused (s s' : ScheduleValue) (client : ℕ) (o : Op) (fault : Fault) : Type 0 where
  pub old : ClientValue
  pub found : slice_get s.clients client ≡ Some old
  pub refused : (g : Known) (v : Shared) (m : ModelClient) (count : ℕ) → IsClient g v m count old
      → submission m o ≡ Some fault
  pub calm : IsCalm (ToldRefused fault)
  pub same : s' ≡ s

abbrev pub Submits : ScheduleValue → ScheduleValue → ℕ → Op → Result (Unit {0}) Fault → Type 0
Submits s s' client o (Ok unit) = HasBegun s s' client o
Submits s s' client o (Err fault) = HasRefused s s' client o fault

-- a line says its text, where there was memory for that
abbrev pub LineSays : Result (List ℕ) AllocError → LineEnd → Type 0
LineSays (Ok text) end = end ≡ Said text
LineSays (Err error) end = end ≡ Memory
