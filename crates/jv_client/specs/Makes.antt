-- What only inner contracts cite: of `promise/Makes`.
use Rattle.std.specs.Prelude.{◌≡◌, ℕ, ◌+◌, ◌<◌, Bool, true, false, List, [], ◌∷◌, ◌++◌, map, length, IsSome, IsTrue, IfSome, None}
use Rattle.std.specs.Option.{option_map}
use Rattle.jv_model.specs.declared.act.Act.{Act}
use Rattle.jv_model.specs.declared.act.ActKind.{ActKind}
use Rattle.jv_model.specs.declared.act.ActKind.TheVariants.{Answered}
use Rattle.jv_model.specs.declared.act.Told.{Told}
use Rattle.jv_model.specs.declared.fault.Device.{Device}
use Rattle.jv_model.specs.declared.fault.Device.TheVariants.{Keeper, Depot, Shelf, Carrier}
use Rattle.jv_model.specs.declared.op.Step.{Step}
use Rattle.jv_model.specs.declared.op.Step.TheVariants.{More, Done, Broken}
use Rattle.jv_model.specs.promise.tree.Tree.{Tree}
use Rattle.jv_model.specs.promise.client.ModelClient.{ModelClient}
use Rattle.jv_model.specs.promise.journal.State.{State}
use Rattle.jv_model.specs.journal.Stepping.{entry_of, is_answer}
use Rattle.jv_outside.specs.promise.Causes.{RoseIf}
use Rattle.jv_rows.specs.promise.Transactions.{IsBad}
use Rattle.jv_volume.specs.promise.TypedRows.{typed}
use Rattle.jv_client_shared.specs.promise.Shared.{HasStore, Known, Shared}
use Rattle.jv_client_requests.specs.Request.{Request}
use Rattle.jv_client.specs.declared.doing.Progress.{Progress}
use Rattle.jv_client.specs.declared.made.Made.{Made}
use Rattle.jv_client.specs.declared.made.Made.TheVariants as made
use Rattle.jv_client.specs.CacheUse.{CacheUse}
use Rattle.jv_client.specs.ClientValue.{ClientValue}
use Rattle.jv_client.specs.promise.Direct.{KeepsShelf}
use Rattle.jv_client.specs.promise.Failures.{is_failure_of}
use Rattle.jv_client.specs.Failures.{says_failure}
use Rattle.jv_client.specs.Held.{IsClient, Holds, in_flight}
use Rattle.jv_client.specs.Reading.{put_at}
use Rattle.jv_client.specs.Stats.{AnswersStats}
use Rattle.jv_client.specs.UnderWay.{IsReady, steps_left}
use Rattle.jv_client.specs.YardUse.{YardUse}

-- the entries of a step
abbrev pub kinds_of : Made → List ActKind
kinds_of (made.Request kind) = kind ∷ []
kinds_of (made.Answer told reply) = Answered told ∷ []
kinds_of (made.Both kind told reply) = kind ∷ Answered told ∷ []
kinds_of (made.Broken key bytes) = []

abbrev pub step_of : Made → Step
step_of (made.Request kind) = More
step_of (made.Answer told reply) = Done reply
step_of (made.Both kind told reply) = Done reply
step_of (made.Broken key bytes) = Broken key bytes

abbrev pub entries_of : ℕ → ℕ → ℕ → List ActKind → List Act
entries_of line now client kinds = map (entry_of line now client) kinds

-- an answer says of no device that it failed
abbrev pub IsCalm : Told → Type 0
IsCalm told = (device : Device) → is_failure_of device told ≡ false

-- That a device failed is answered without a request alone: the answer after one is calm, and the
-- request's entry is none.
abbrev pub FailsAlone : Made → Type 0
FailsAlone (made.Request kind) = is_answer kind ≡ false
FailsAlone (made.Answer told reply) = Unit {0}
FailsAlone (made.Both kind told reply) = (is_answer kind ≡ false) × IsCalm told
FailsAlone (made.Broken key bytes) = Unit {0}

-- no request was made
abbrev pub asks_nothing : Made → Bool
asks_nothing (made.Request kind) = false
asks_nothing (made.Answer told reply) = true
asks_nothing (made.Both kind told reply) = false
asks_nothing (made.Broken key bytes) = true

-- where the rows are known, the one that a step stopped at is Bad
abbrev pub SaysBad : Shared → Step → Type 0
SaysBad v More = Unit {0}
SaysBad v (Done reply) = Unit {0}
SaysBad v (Broken key bytes) = IfSome v.keeper.rows (λ known. IsBad (typed known) key bytes)

-- how often a device failed
abbrev pub faults_of : Device → Shared → ℕ
faults_of Keeper v = v.keeper.faults
faults_of Depot v = v.yard.depot.faults
faults_of Shelf v = v.yard.shelf.faults
faults_of Carrier v = v.carrier.faults

-- What a step does to devices: each is open where it was, and failed where the step answers so, and
-- not otherwise. Without a request they hold what they held, and by `direct` the shelf always does.
pub record UsesDevices (made : Made) (before after : Shared) : Type 0 where
  pub keeper_at : after.keeper.opened ≡ before.keeper.opened
  pub carrier_at : after.carrier.opened ≡ before.carrier.opened
  pub depot_at : after.yard.depot.opened ≡ before.yard.depot.opened
  pub shelf_at : after.yard.shelf.opened ≡ before.yard.shelf.opened
  pub setting : after.yard.setting ≡ before.yard.setting
  pub last : after.yard.last ≡ before.yard.last
  pub counts : (device : Device)
      → RoseIf (says_failure device made) (faults_of device before) (faults_of device after)
  pub rows : IsTrue (asks_nothing made) → after.keeper.rows ≡ before.keeper.rows
  pub objects : IsTrue (asks_nothing made) → after.yard.depot.content ≡ before.yard.depot.content
  pub direct : KeepsShelf before after
  pub bad : SaysBad before (step_of made)

-- The model allows the step (`Request`), and client and devices stand for what it leads to.
pub record StepsTo (s : State) (g : Known) (before : Shared) (h : ClientValue) (now : ℕ)
    (kinds : List ActKind) (step : Step)
    (after : ClientValue) (v : Shared) : Type 0 where
  pub learned : Known
  pub tree : Tree
  pub model : ModelClient
  pub copied : ℕ
  pub request : Request s g learned before v h.id now (in_flight h)
      (in_flight after) kinds step tree model copied
  pub is_client : IsClient learned v model (s.count + length kinds) after
  pub holds : Holds tree model

-- A step that stopped leaves the client as it was, but that its read may have begun, for which it
-- may have a cache.
pub record Stops (before after : ClientValue) : Type 0 where
  pub progress : Progress
  pub after_is : after ≡ record before {
    cache = after.cache;
    doing = option_map (put_at progress) before.doing;
  }

-- after a step that isn't the last one the operation goes on, and fewer are left
abbrev pub Falls : Step → ClientValue → ClientValue → Type 0
Falls More before after = (steps_left after < steps_left before) × IsSome after.doing
Falls (Done reply) before after = after.doing ≡ None
Falls (Broken key bytes) before after = Stops before after

-- A step was made at this moment; its first entry has this number. From every state of the model
-- that client and devices stand for, it leads to one that they stand for then. That rows and blocks
-- are known and whole is part of standing for one.
pub record Makes (now entry : ℕ) (h after : ClientValue) (before used : Shared)
    (done : Made) : Type 0 where
  pub id : after.id ≡ h.id
  pub limits : after.limits ≡ h.limits
  pub ready : IsReady after
  pub devices : UsesDevices done before used
  pub yard : YardUse now h done before.yard used.yard
  pub cache : CacheUse h after done before.yard used.yard
  pub alone : FailsAlone done
  pub falls : Falls (step_of done) h after
  pub leads : (s : State) (g : Known) → s.count + 1 ≡ entry → HasStore s.tree g before
      → Holds s.tree (s.clients h.id)
      → IsClient g before (s.clients h.id) s.count h
      → StepsTo s g before h now (kinds_of done) (step_of done) after used

-- A step was made, and its entries are appended to a journal.
pub record Steps (line now : ℕ) (h after : ClientValue) (before used : Shared)
    (journal more : List Act) (step : Step) : Type 0 where
  pub made : Made
  pub makes : Makes now (length journal + 1) h after before used made
  pub stats : AnswersStats h made
  pub step_is : step ≡ step_of made
  pub appends : more ≡ journal ++ entries_of line now h.id (kinds_of made)
