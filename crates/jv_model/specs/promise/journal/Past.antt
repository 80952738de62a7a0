-- A run so far: its lines, what the present one may still have, what is printed, and the clock,
-- beside the state that its entries have reached. A journal is folded over its entries; before an
-- entry the lines up to its own are begun.
use Rattle.std.specs.Prelude.{ℕ, zero, suc, ◌+◌, ◌-◌, Bool, true, false, ◌&&◌, not, if◌then◌else◌, List, [], ◌∷◌, ◌++◌, length, is_some, Option, None, Some, codes, decimal, unwrap_or}
use Rattle.jv_model.specs.declared.basics.Limits.{Limits}
use Rattle.jv_model.specs.declared.act.Act.{Act}
use Rattle.jv_model.specs.declared.act.ActKind.{ActKind}
use Rattle.jv_model.specs.declared.act.ActKind.TheVariants.{Crashed, Ticked, Answered}
use Rattle.jv_model.specs.declared.act.Told.{Told}
use Rattle.jv_model.specs.declared.act.Told.TheVariants.{Fine, Looks, Refused as ToldRefused}
use Rattle.jv_model.specs.declared.fault.Fault.{Fault}
use Rattle.jv_model.specs.declared.op.Op.{Op}
use Rattle.jv_model.specs.declared.op.Line.{Line}
use Rattle.jv_model.specs.declared.op.Line.TheVariants.{Empty, Do, Begin, Step, Run, Crash, Drain, Tick}
use Rattle.jv_model.specs.declared.op.Reply.{Reply}
use Rattle.jv_model.specs.declared.op.Reply.TheVariants as reply
use Rattle.jv_model.specs.declared.slice.BlockId.{BlockId}
use Rattle.jv_model.specs.declared.profile.Answer.{Answer}
use Rattle.jv_model.specs.declared.profile.Answer.TheVariants as answer
use Rattle.jv_model.specs.declared.profile.Does.{Does}
use Rattle.jv_model.specs.declared.profile.Does.TheVariants.{Answers, Mounts, Transacts, Releases, Reads, Truncates, Copies, Compacts, Cleans as DoesClean, Collects, Uploads}
use Rattle.jv_model.specs.promise.client.ModelClient.{ModelClient, Doing, Stage, Replying}
use Rattle.jv_model.specs.promise.client.Submission.{submission, submitted}
use Rattle.jv_model.specs.promise.client.Profile.{handle_of}
use Rattle.jv_model.specs.promise.journal.State.{State, state_at_start, set_client, effect}
use Rattle.jv_model.specs.promise.journal.Reading.{reading}
use Rattle.jv_model.specs.promise.journal.Steps.{Start, asked_of, file_in_use, begins_step, must_answer}
use Rattle.jv_model.specs.promise.script.ReplyText.{printed_line, with_feed}

-- what a run begins with, and what it ends with
pub record Setup : Type 0 where
  pub start : Start
  pub script : List Line
  pub limits : Limits
  pub uploads : ℕ  -- how many uploading threads may run
  pub clock : Option (ℕ → ℕ)  -- the clock's answers by number from 0, where they are known
  pub by_worker : ℕ → Bool  -- whether the entry of a number was made by an uploading thread
  pub status : ℕ

-- what the present line may still have
pub data Due : Type 0 where
  NoMore : Due
  Refusal : (client : ℕ) → Fault → Due  -- the refusal of a submission
  MayLack : (client : ℕ) → Due  -- an operation was begun, and memory may have run out for that
  ToAnswer : (client : ℕ) → Due  -- the entries of the client's operation, up to its answer
  OneStep : (client : ℕ) → Due  -- one step of it
  StepMade : (client : ℕ) → Due  -- the step's request was made; its answer may come
  CrashEntry : (client : ℕ) → Due
  TickEntry : (by : ℕ) → Due
  DrainEntries : (client : ℕ) → Due

pub record Past : Type 0 where
  pub run : Setup
  pub rest : List Line  -- the lines not begun
  pub line : ℕ  -- how many lines are begun; the last of them is the present one
  pub due : Due
  pub complete : Bool  -- every line before the present one has all its entries
  pub said : List ℕ  -- what the present line prints, if it ends here
  pub printed : List ℕ  -- what the lines before it printed
  pub at : ℕ  -- the last moment
  pub ticks : ℕ  -- seconds that lines let pass
  pub asked : ℕ  -- how often the clock was asked
  pub state : State

abbrev pub at_start : Setup → Past
at_start run = record {
  run = run;
  rest = run.script;
  line = 0;
  due = NoMore;
  complete = true;
  said = [];
  printed = [];
  at = 0;
  ticks = 0;
  asked = 0;
  state = state_at_start run.start.tree;
}

-- lines

abbrev ends_now : Option Doing → Bool
ends_now None = false
ends_now (Some d) = must_answer d

-- the answer of the client's operation has to come in this step
abbrev pub ends_in_step : ModelClient → Bool
ends_in_step c = ends_now c.doing

-- whether a line may end here: an operation that goes on may be left after a step, or before it
-- began
abbrev pub is_over : Past → Bool
is_over p = elim p.due [
  | NoMore ↦ true
  | Refusal client fault ↦ false
  | MayLack client ↦ true
  | ToAnswer client ↦ false
  | OneStep client ↦ false
  | StepMade client ↦ not (ends_in_step (p.state.clients client))
  | CrashEntry client ↦ false
  | TickEntry by ↦ false
  | DrainEntries client ↦ false
]

-- an operation submitted by a line: refused, or in progress
abbrev pub begun_by_due : Due → Past → ℕ → Op → Option Fault → Past
begun_by_due due p client o (Some fault) = record p { due = Refusal client fault; said = [] }
begun_by_due due p client o None =
    record p {
      due = due;
      state = set_client p.state client (submitted p.run.limits o (p.state.clients client));
    }

abbrev pub is_busy : Past → ℕ → Bool
is_busy p client = is_some (p.state.clients client).doing

abbrev pub idle_text : List ℕ
idle_text = with_feed (codes "idle")

abbrev pub or_idle : Past → ℕ → Due → Past
or_idle p client due =
    (if is_busy p client then record p { due = due }
    else record p { due = NoMore; said = idle_text })

abbrev pub begun : Past → Line → Past
begun p Empty = record p { due = NoMore }
begun p (Do client o) =
    begun_by_due (ToAnswer client) p client o (submission (p.state.clients client) o)
begun p (Begin client o) =
    begun_by_due (MayLack client) (record p { said = with_feed (codes "begun") }) client o
    (submission (p.state.clients client) o)
begun p (Step client) = or_idle p client (OneStep client)
begun p (Run client) = or_idle p client (ToAnswer client)
begun p (Crash client) = record p { due = CrashEntry client }
begun p (Drain client) = record p { due = DrainEntries client }
begun p (Tick by) = record p { due = TickEntry by }

-- the line that was begun is over, and these are left: its text is printed, and whether it was
-- complete is kept
abbrev pub after_line : Past → List Line → Past
after_line p rest = record p {
  rest = rest;
  line = p.line + 1;
  complete = p.complete && is_over p;
  said = [];
  printed = p.printed ++ p.said;
}

-- past the last line there is none, and no entry may stand
abbrev pub begin_from : List Line → Past → Past
begin_from [] p = record (after_line p []) { due = NoMore }
begin_from (line ∷ rest) p = begun (after_line p rest) line

-- the next line begun
unfoldable pub begin_next : Past → Past
begin_next p = begin_from p.rest p

-- a number of further lines begun, the newest last
abbrev pub begun_by : ℕ → Past → Past
begun_by zero p = p
begun_by (suc n) p = begin_next (begun_by n p)

-- the lines up to this number begun
unfoldable pub begun_to : ℕ → Past → Past
begun_to line p = begun_by (line - p.line) p

-- answers

-- what a read returns that cites these looks
abbrev pub read_in : ModelClient → Doing → ℕ → ℕ → List ℕ
read_in c d first second = elim (file_in_use c d) [
  | None ↦ []
  | Some file ↦ unwrap_or (reading c.views (handle_of d.op) file (asked_of d.does) first second) []
]

abbrev uploaded_of : ℕ → ℕ → ℕ → ℕ → Option BlockId
uploaded_of id index size zero = None
uploaded_of id index size (suc n) = Some (record { id = id; index = index; size = size })

abbrev answer_reply : Answer → ℕ → ℕ → ℕ → ℕ → Reply
answer_reply answer.Done hits misses cached pending = reply.Done
answer_reply (answer.Count bytes) hits misses cached pending = reply.Count bytes
answer_reply answer.NoData hits misses cached pending = reply.Data []
answer_reply answer.CacheStats hits misses cached pending =
    reply.CacheStats hits misses cached pending

-- the reply of an operation that is done, from the numbers of its answer
abbrev pub fine_reply : Does → ℕ → ℕ → ℕ → ℕ → Reply
fine_reply (Answers told) a b c d = answer_reply told a b c d
fine_reply (Mounts writeback) a b c d = reply.SessionMade a
fine_reply Transacts a b c d = reply.Done
fine_reply Releases a b c d = reply.Done
fine_reply (Reads offset len) a b c d = reply.Done
fine_reply Truncates a b c d = reply.Done
fine_reply Copies a b c d = reply.Count a
fine_reply (Compacts inode) a b c d = reply.Compaction a b
fine_reply DoesClean a b c d = reply.Cleanup a b c d
fine_reply (Collects delete) a b c d = reply.Leaked a b
fine_reply Uploads a b c d = reply.Uploaded (uploaded_of a b c d)

abbrev pub told_reply : ModelClient → Doing → Told → Reply
told_reply c doing (Fine a b e f) = fine_reply doing.does a b e f
told_reply c doing (Looks first second len) = reply.Data (read_in c doing first second)
told_reply c doing (ToldRefused fault) = reply.Refused fault

abbrev pub decided_reply : Stage → Option Reply
decided_reply (Replying r) = Some r
decided_reply _ = None

-- the reply that an answer stands for: the one that is decided, or the one of the answer's numbers
abbrev pub reply_of : ModelClient → Doing → Told → Reply
reply_of c doing told =
    elim (decided_reply doing.stage) [ None ↦ told_reply c doing told | Some settled ↦ settled ]

abbrev pub refusal_reply : Told → Reply
refusal_reply (ToldRefused fault) = reply.Refused fault
refusal_reply (Fine a b c d) = reply.Done
refusal_reply (Looks first second len) = reply.Done

abbrev client_reply : ModelClient → Told → Reply
client_reply c told = elim c.doing [ None ↦ refusal_reply told | Some d ↦ reply_of c d told ]

-- the reply of an answer on a line
abbrev pub line_reply : Past → Told → Reply
line_reply p told = elim p.due [
  | Refusal other fault ↦ refusal_reply told
  | NoMore ↦ refusal_reply told
  | MayLack other ↦ refusal_reply told
  | ToAnswer other ↦ client_reply (p.state.clients other) told
  | OneStep other ↦ client_reply (p.state.clients other) told
  | StepMade other ↦ client_reply (p.state.clients other) told
  | CrashEntry other ↦ refusal_reply told
  | TickEntry by ↦ refusal_reply told
  | DrainEntries other ↦ refusal_reply told
]

-- entries

abbrev line_answered : Past → Reply → Past
line_answered p r = record p { due = NoMore; said = printed_line p.state.tree.setting r }

abbrev pub more_text : List ℕ
more_text = with_feed (codes "more")

-- what a request leaves due
abbrev pub requested : Due → Due
requested NoMore = NoMore
requested (Refusal client fault) = Refusal client fault
requested (MayLack client) = MayLack client
requested (ToAnswer client) = ToAnswer client
requested (OneStep client) = StepMade client
requested (StepMade client) = StepMade client
requested (CrashEntry client) = CrashEntry client
requested (TickEntry by) = TickEntry by
requested (DrainEntries client) = DrainEntries client

abbrev pub says_more : Due → List ℕ → List ℕ
says_more (OneStep client) said = more_text
says_more _ said = said

-- what an entry of the present line makes of the line: the state is still the one before it
abbrev pub lined : Past → Act → ActKind → Past
lined p act (Answered told) = line_answered p (line_reply p told)
lined p act Crashed = record p { due = NoMore; said = with_feed (codes "crashed") }
lined p act (Ticked by) =
    record p {
      due = NoMore;
      said = with_feed (codes "now " ++ decimal act.at);
      ticks = p.ticks + by;
    }
lined p act _ = record p { due = requested p.due; said = says_more p.due p.said }

abbrev begins_for : Option Doing → ActKind → Bool
begins_for None kind = true
begins_for (Some d) kind = begins_step d kind

-- whether an entry begins a step of the client
abbrev pub begins_in : ModelClient → ActKind → Bool
begins_in c kind = begins_for c.doing kind

-- whether an entry asks the clock: each that begins a step, and that of a line alone
abbrev pub asks_clock : Past → Act → Bool
asks_clock p act = elim p.due [
  | NoMore ↦ true
  | Refusal client fault ↦ true
  | MayLack client ↦ true
  | ToAnswer client ↦ begins_in (p.state.clients client) act.kind
  | OneStep client ↦ true
  | StepMade client ↦ false
  | CrashEntry client ↦ true
  | TickEntry by ↦ true
  | DrainEntries client ↦ true
]

abbrev pub is_workers : Past → Bool
is_workers p = p.run.by_worker (p.state.count + 1)

-- an entry of an uploading thread belongs to no line
abbrev pub of_line : Past → Act → Past
of_line p act =
    (if is_workers p then p
    else record (lined p act act.kind) {
      asked = (if asks_clock p act then p.asked + 1
          else p.asked);
    })

-- where it leads with one more entry, whose line is begun
unfoldable pub after : Past → Act → Past
after p act = record (of_line p act) { at = act.at; state = effect p.state act }

unfoldable pub advance : Past → Act → Past
advance p act = after (begun_to act.line p) act

-- where it leads with more entries
abbrev pub past : Past → List Act → Past
past p [] = p
past p (act ∷ acts) = past (advance p act) acts

abbrev pub reached : Setup → List Act → Past
reached run journal = past (at_start run) journal

-- the end of the run: all lines of its script begun
abbrev pub at_end : Setup → List Act → Past
at_end run journal = begun_to (length run.script) (reached run journal)

-- what the lines of a run print, in order
abbrev pub text_of : Setup → List Act → List ℕ
text_of run journal = (at_end run journal).printed ++ (at_end run journal).said
