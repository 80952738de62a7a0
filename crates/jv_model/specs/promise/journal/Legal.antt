-- When a journal is legal for one POSIX tree: every entry may stand where it stands, and every line
-- has its entries.
use Rattle.std.specs.Prelude.{◌≡◌, ℕ, ◌+◌, ◌≤◌, min, max, Bool, true, false, ◌&&◌, ◌||◌, not, nat_le, nat_lt, ◌==◌, IsTrue, MatchBool, MatchOption, List, [], ◌∷◌, length}
use Rattle.std.specs.List.{list_any}
use Rattle.jv_model.specs.declared.limits.TheConstants.{LAST_MOMENT}
use Rattle.jv_model.specs.declared.act.TheConstants.{NO_CLIENT}
use Rattle.jv_model.specs.declared.act.Act.{Act}
use Rattle.jv_model.specs.declared.act.ActKind.{ActKind}
use Rattle.jv_model.specs.declared.act.ActKind.TheVariants.{Settled, Quiet, Crashed, Ticked, Answered}
use Rattle.jv_model.specs.declared.act.Told.{Told}
use Rattle.jv_model.specs.declared.act.Told.TheVariants.{Fine, Refused as ToldRefused}
use Rattle.jv_model.specs.declared.fault.Fault.{Fault}
use Rattle.jv_model.specs.declared.fault.Fault.TheVariants.{NoMemory}
use Rattle.jv_model.specs.promise.journal.State.{State}
use Rattle.jv_model.specs.promise.journal.Steps.{IsEntry, is_failure, owes_none, is_owed_by}
use Rattle.jv_model.specs.promise.journal.Past.{Setup, Past, Due, NoMore, Refusal, MayLack, ToAnswer, OneStep, StepMade, CrashEntry, TickEntry, DrainEntries, at_start, begun_to, advance, at_end, asks_clock, begins_in, is_workers, is_busy, ends_in_step, is_over}

-- the moment of the clock's next answer, with the seconds that lines let pass
abbrev pub clock_moment : Past → ℕ → (ℕ → ℕ) → ℕ
clock_moment p ticks answers = min LAST_MOMENT (max p.at (answers p.asked + ticks))

abbrev pub tick_of : ActKind → ℕ
tick_of (Ticked by) = by
tick_of _ = 0

-- the moment of an entry that asks the clock, where lines have let `ticks` seconds pass
abbrev pub IsNow : Past → ℕ → ℕ → Type 0
IsNow p ticks now =
    MatchOption p.run.clock ((p.at ≤ now) × (now ≤ LAST_MOMENT))
    (λ answers. now ≡ clock_moment p ticks answers)

-- The clock is asked before each step, and its answer counts with the ticks so far, the line's own
-- too. A moment is the larger of the last one and that, and at most the last moment there is. An
-- answer has its step's moment. Entries of uploading threads don't ask.
abbrev pub IsMoment : Past → Act → Type 0
IsMoment p act = MatchBool (is_workers p) ((p.at ≤ act.at) × (act.at ≤ LAST_MOMENT))
    (MatchBool (asks_clock p act)
    (IsNow p (p.ticks + tick_of act.kind) act.at) (act.at ≡ p.at))

-- the one entry of a refused submission, for which memory may run out too, but not where an
-- operation goes on
pub data IsRefusal (busy : Bool) (fault : Fault) (kind : ActKind) : Type 0 where
  Refuses : kind ≡ Answered (ToldRefused fault) → IsRefusal busy fault kind
  LacksMemory : busy ≡ false → kind ≡ Answered (ToldRefused NoMemory) → IsRefusal busy fault kind

abbrev is_owed : State → ℕ → Bool
is_owed s commit = list_any (λ o. o.commit == commit) s.owed

-- a publish: the last staged block of a commit, or another
abbrev pub IsPublish : State → ActKind → Type 0
IsPublish s (Settled commit) = IsTrue (is_owed s commit)
IsPublish s Quiet = Unit {0}
IsPublish s _ = ⊥

-- a publish of a block that the client staged
abbrev pub IsPublishOf : State → ℕ → ActKind → Type 0
IsPublishOf s client (Settled commit) = IsTrue (is_owed_by s client commit)
IsPublishOf s client Quiet = Unit {0}
IsPublishOf s client _ = ⊥

-- an entry of a `drain`: a publish of a block of the client, or its end, when no commit of the
-- client is owed
pub data Drains (s : State) (client : ℕ) (kind : ActKind) : Type 0 where
  Sends : IsPublishOf s client kind → Drains s client kind
  Ends : IsTrue (owes_none s client) → kind ≡ Answered (Fine 0 0 0 0) → Drains s client kind
  Fails : (told : Told) → IsTrue (is_failure told) → kind ≡ Answered told → Drains s client kind

-- whether the last entry so far is an uploading thread's
abbrev pub is_behind_worker : Past → Bool
is_behind_worker p = p.run.by_worker p.state.count

-- An entry of an operation of the present line's client. An answer that ends a step stands right
-- behind the step's request.
pub record OfClient (p : Past) (act : Act) (client : ℕ) (begins : Bool) : Type 0 where
  pub own : act.client ≡ client
  pub behind : IsTrue (not (is_behind_worker p) || begins)
  pub may : IsEntry p.run.start (p.run.uploads == 0) p.state client act.at act.kind begins

-- an entry of the present line
abbrev pub OfLine : Past → Act → Due → Type 0
OfLine p act NoMore = ⊥
OfLine p act (Refusal client fault) =
    (act.client ≡ client) × IsRefusal (is_busy p client) fault act.kind
OfLine p act (MayLack client) = (act.client ≡ client) × (act.kind ≡ Answered (ToldRefused NoMemory))
OfLine p act (ToAnswer client) = OfClient p act client (begins_in (p.state.clients client) act.kind)
OfLine p act (OneStep client) = OfClient p act client true
OfLine p act (StepMade client) = OfClient p act client false
OfLine p act (CrashEntry client) = (act.client ≡ client) × (act.kind ≡ Crashed)
OfLine p act (TickEntry by) = (act.client ≡ NO_CLIENT) × (act.kind ≡ Ticked by)
OfLine p act (DrainEntries client) = (act.client ≡ NO_CLIENT) × Drains p.state client act.kind

-- a run stops before a step: not between a step and its answer
abbrev pub may_stop : Past → Bool
may_stop p = elim p.due [
  | NoMore ↦ true
  | Refusal client fault ↦ true
  | MayLack client ↦ true
  | ToAnswer client ↦ not (ends_in_step (p.state.clients client))
  | OneStep client ↦ true
  | StepMade client ↦ not (ends_in_step (p.state.clients client))
  | CrashEntry client ↦ true
  | TickEntry by ↦ true
  | DrainEntries client ↦ true
]

-- an entry of an uploading thread, of which there are some, on a line of the script, between two
-- steps
abbrev pub OfWorker : Past → Act → Type 0
OfWorker p act = IsTrue (nat_lt 0 p.run.uploads) × (act.client ≡ NO_CLIENT)
    × IsPublish p.state act.kind × IsTrue (nat_le p.line (length p.run.script)) × IsTrue (may_stop p)

-- an entry may stand, its line being the present one
pub record Allowed (p : Past) (act : Act) : Type 0 where
  pub line : p.line ≡ act.line
  pub complete : IsTrue p.complete
  pub moment : IsMoment p act
  pub stands : MatchBool (is_workers p) (OfWorker p act) (OfLine p act p.due)

abbrev pub AllAllowed : Past → List Act → Type 0
AllAllowed p [] = Unit {0}
AllAllowed p (act ∷ acts) = Allowed (begun_to act.line p) act × AllAllowed (advance p act) acts

-- with these statuses the line at which the run ended may lack entries
abbrev pub may_be_cut : ℕ → Bool
may_be_cut status = nat_le 4 status && nat_le status 6

-- every line has all its entries, but for one that was cut off
abbrev pub ends_well : Setup → Past → Bool
ends_well run p = p.complete && (is_over p || may_be_cut run.status && may_stop p)

-- a journal that one POSIX tree allows, from its start on, for the lines of the script
pub record Legal (run : Setup) (journal : List Act) : Type 0 where
  pub allowed : AllAllowed (at_start run) journal
  pub ends : IsTrue (ends_well run (at_end run journal))
