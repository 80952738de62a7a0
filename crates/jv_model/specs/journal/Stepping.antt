-- One step of a client's operation, which makes at most one transaction or one request: its
-- entries, and whether it ends the operation.
use Rattle.std.specs.Prelude.{◌≡◌, ℕ, Bool, true, false, List, [], ◌∷◌, Option, None, Some}
use Rattle.jv_model.specs.declared.act.Act.{Act}
use Rattle.jv_model.specs.declared.act.ActKind.{ActKind}
use Rattle.jv_model.specs.declared.act.ActKind.TheVariants.{Answered}
use Rattle.jv_model.specs.declared.act.Told.{Told}
use Rattle.jv_model.specs.declared.op.Reply.{Reply}
use Rattle.jv_model.specs.declared.op.Step.{Step}
use Rattle.jv_model.specs.declared.op.Step.TheVariants.{More, Done}
use Rattle.jv_model.specs.promise.client.ModelClient.{ModelClient}
use Rattle.jv_model.specs.promise.journal.State.{State, effect}
use Rattle.jv_model.specs.promise.journal.Steps.{Start, IsEntry}
use Rattle.jv_model.specs.promise.journal.Past.{ends_in_step, reply_of}

-- an entry of a client, on any line
abbrev pub entry_of : ℕ → ℕ → ℕ → ActKind → Act
entry_of line now client kind = record { line = line; at = now; client = client; kind = kind }

-- the state after an entry of a client, which knows no line
abbrev pub stepped : State → ℕ → ℕ → ActKind → State
stepped s client now kind = effect s (entry_of 0 now client kind)

-- the state after the entries of a step
abbrev pub stepped_by : State → ℕ → ℕ → List ActKind → State
stepped_by s client now [] = s
stepped_by s client now (kind ∷ kinds) = stepped_by (stepped s client now kind) client now kinds

abbrev pub is_answer : ActKind → Bool
is_answer (Answered told) = true
is_answer _ = false

-- what the client's answer prints
abbrev pub answer_of : ModelClient → Told → Option Reply
answer_of c told = elim c.doing [ None ↦ None | Some d ↦ Some (reply_of c d told) ]

-- A step is a request after which the operation goes on; or an answer that needs no request; or a
-- request and its answer.
pub data AllowsStep (start : Start) (alone : Bool) (s : State) (client now : ℕ)
    (kinds : List ActKind) (step : Step) : Type 0 where
  GoesOn : (kind : ActKind) → kinds ≡ kind ∷ [] → step ≡ More
      → IsEntry start alone s client now kind true → is_answer kind ≡ false
      → ends_in_step ((stepped s client now kind).clients client) ≡ false
      → AllowsStep start alone s client now kinds step
  AnswersAlone : (told : Told) → (reply : Reply) → kinds ≡ Answered told ∷ [] → step ≡ Done reply
      → IsEntry start alone s client now (Answered told) true
      → answer_of (s.clients client) told ≡ Some reply
      → AllowsStep start alone s client now kinds step
  AnswersAfter : (kind : ActKind) → (told : Told) → (reply : Reply)
      → kinds ≡ kind ∷ Answered told ∷ [] → step ≡ Done reply
      → IsEntry start alone s client now kind true → is_answer kind ≡ false
      → IsEntry start alone (stepped s client now kind) client now (Answered told) false
      → answer_of ((stepped s client now kind).clients client) told ≡ Some reply
      → AllowsStep start alone s client now kinds step
