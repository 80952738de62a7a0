-- When a schedule stands where a journal's past does.
use Rattle.std.specs.Prelude.{◌≡◌, ◌≢◌, ℕ, ◌+◌, ◌≤◌, ◌<◌, min, Bool, true, false, IsSome, IfSome, is_some, List, [], ◌∷◌, length, slice_get, Option, None, Some}
use Rattle.jv_model.specs.declared.limits.TheConstants.{LAST_MOMENT, CLIENTS}
use Rattle.jv_model.specs.declared.basics.Limits.{Limits}
use Rattle.jv_model.specs.declared.setting.Setting.{Setting}
use Rattle.jv_model.specs.promise.journal.State.{State}
use Rattle.jv_model.specs.promise.journal.Steps.{Start}
use Rattle.jv_model.specs.promise.journal.Past.{Past, is_over}
use Rattle.jv_model_laws.specs.OnLines.{IsAlone}
use Rattle.jv_yard.specs.promise.YardValue.{YardValue}
use Rattle.jv_client_shared.specs.Lengths.{IsLength}
use Rattle.jv_client_shared.specs.promise.Shared.{HasStore, Known, Shared}
use Rattle.jv_client_shared.specs.Shared.{rows_in}
use Rattle.jv_client_requests.specs.Request.{IsWithin}
use Rattle.jv_client.specs.ClientValue.{ClientValue, fresh_client}
use Rattle.jv_client.specs.Held.{IsClient, Holds, in_flight}
use Rattle.jv_client.specs.UnderWay.{IsReady}

-- what contracts see of a schedule
pub record ScheduleValue : Type 0 where
  pub limits : Limits
  pub at : ℕ
  pub ticks : ℕ
  pub clients : List ClientValue
  pub setting : Setting

-- before its first line
abbrev pub fresh_schedule : Setting → Limits → ScheduleValue
fresh_schedule setting limits = record {
  limits = limits;
  at = 0;
  ticks = 0;
  clients = fresh_client 0 limits ∷ fresh_client 1 limits ∷ fresh_client 2 limits
      ∷ fresh_client 3 limits ∷ fresh_client 4 limits ∷ fresh_client 5 limits
      ∷ fresh_client 6 limits ∷ fresh_client 7 limits ∷ [];
  setting = setting;
}

-- a client of a schedule has its place's number and the schedule's limits, and is ready
pub record IsMember (limits : Limits) (k : ℕ) (c : ClientValue) : Type 0 where
  pub id : c.id ≡ k
  pub limits_are : c.limits ≡ limits
  pub ready : IsReady c

-- what each schedule holds to: eight clients, and moments that there are
pub record IsSchedule (limits : Limits) (at ticks : ℕ) (clients : List ClientValue) : Type 0 where
  pub last : at ≤ LAST_MOMENT
  pub passed : ticks ≤ LAST_MOMENT
  pub eight : length clients ≡ CLIENTS
  pub members : (k : ℕ) → IfSome (slice_get clients k) (IsMember limits k)

-- A schedule may go on with this yard: its blocks have a length that there is, and it knows of no
-- moment after the schedule's.
pub record IsYardOf (s : ScheduleValue) (yard : YardValue) : Type 0 where
  pub block : IsLength yard.setting.block
  pub last : yard.last ≤ s.at

-- the client of the model is the one of its number, and what it holds may be held
pub record IsClientAt (g : Known) (q : State) (v : Shared) (k : ℕ) (c : ClientValue) : Type 0 where
  pub is_client : IsClient g v (q.clients k) q.count c
  pub holds : Holds q.tree (q.clients k)

-- slices in flight of two clients have two numbers
abbrev pub AreApart : List ClientValue → Type 0
AreApart clients = (j k : ℕ) (c other : ClientValue) → j ≢ k → slice_get clients j ≡ Some c
    → slice_get clients k ≡ Some other
    → 0 < in_flight c → in_flight c ≢ in_flight other

-- The tree is that of the keeper's rows with the bytes of their blocks; numbers of slices and
-- records are within what the run began with and its entries; and each client of the model is the
-- one of its number.
pub record IsState (start : Start) (g : Known) (q : State) (clients : List ClientValue)
    (v : Shared) : Type 0 where
  pub has_store : HasStore q.tree g v
  pub within : IsWithin start q (rows_in v)
  pub clients_are : (k : ℕ) → IfSome (slice_get clients k) (IsClientAt g q v k)
  pub apart : AreApart clients

-- the schedule stands where the past is, whose present line is begun; no uploading thread makes an
-- entry
pub record InLine (q : Past) (s : ScheduleValue) (v : Shared) : Type 0 where
  pub complete : q.complete ≡ true
  pub at : q.at ≡ s.at
  pub last : q.at ≤ LAST_MOMENT
  pub ticks : min LAST_MOMENT q.ticks ≡ s.ticks
  pub alone : IsAlone q
  pub limits : q.run.limits ≡ s.limits
  pub setting : q.state.tree.setting ≡ s.setting
  pub known : Known
  pub state : IsState q.run.start known q.state s.clients v

-- between two lines: the present one has no entry to come
pub record Stands (q : Past) (s : ScheduleValue) (v : Shared) : Type 0 where
  pub in_line : InLine q s v
  pub over : is_over q ≡ true

-- whether an operation of the client at a place is in progress
abbrev pub busy_in : Option ClientValue → Bool
busy_in None = false
busy_in (Some c) = is_some c.doing

abbrev pub client_is_busy : ScheduleValue → ℕ → Bool
client_is_busy s client = busy_in (slice_get s.clients client)

-- the clock still shows what the run's clock shows from the next answer on
abbrev pub ClockFor : Option (ℕ → ℕ) → ℕ → Option (ℕ → ℕ) → Option (ℕ → ℕ) → Type 0
ClockFor None asked before after = Unit {0}
ClockFor (Some answers) asked before after =
    IsSome after × IfSome before (λ rest. (n : ℕ) → rest n ≡ answers (n + asked))
