-- A flush puts the next block of a segment's slice.
use Rattle.std.proofs.Common.{◌≡◌, ℕ, ◌+◌, ◌≤◌, ◌<◌, true, ◌==◌, [], ◌∷◌, length, None, Some, refl, arith}
use Rattle.std.specs.Prelude.{if◌then◌else◌, Ok, Err}
use Rattle.jv_model.specs.declared.limits.TheConstants.{WINDOW}
use Rattle.jv_model.specs.declared.act.ActKind.TheVariants.{Quiet, Answered}
use Rattle.jv_model.specs.declared.act.Told.TheVariants.{Refused as ToldRefused}
use Rattle.jv_model.specs.declared.op.Reply.TheVariants.{Refused}
use Rattle.jv_model.specs.declared.op.Step.TheVariants.{More, Done}
use Rattle.jv_model.specs.promise.blocks.Slices.{block_count}
use Rattle.jv_model.specs.promise.client.Pending.{Segment}
use Rattle.jv_model.specs.promise.client.Submission.{next_segment}
use Rattle.jv_model.specs.promise.client.ModelClient.{ModelClient, Doing, Stage, Working}
use Rattle.jv_model.specs.promise.journal.State.{State}
use Rattle.jv_model.specs.promise.journal.Steps.{is_failure}
use Rattle.jv_outside.specs.promise.Carriage.{Carriage}
use Rattle.jv_volume_bytes.specs.Flights.{Flight, flight_block, flight_bytes}
use Rattle.jv_yard.specs.promise.YardValue.{YardValue}
use Rattle.jv_client_shared.specs.Flying.{Flies}
use Rattle.jv_client_shared.specs.promise.Shared.{HasStore, Known, Shared}
use Rattle.jv_client_shared.specs.Shared.{with_block}
use Rattle.jv_client_puts.specs.declared.putting.PutFault.{PutFault}
use Rattle.jv_client_puts.specs.declared.putting.PutFault.TheVariants.{Carrier, Depot, Memory}
use Rattle.jv_client_puts.specs.Putting.{PutsFlight, fault_of}
use Rattle.jv_client_puts.proofs.PutStepLaws.{put-step_leads, unput-same}
use Rattle.jv_model_steps.specs.IsStep.{at_stage}
use Rattle.jv_model_steps.proofs.FlushStepLaws.{put-step}
use Rattle.jv_model_steps.proofs.RefusalStepLaws.{goes-working}
use Rattle.jv_client_requests.specs.Request.{Request}
use Rattle.jv_client_requests.proofs.RequestLaws.{drops-same, request-of}
use Rattle.jv_client_requests.proofs.FlightLaws.{apart-own, flight-over}
use Rattle.jv_client_requests.proofs.StillLaws.{failure-request, stays-same}

-- a block that isn't put is answered as a failure
pub put-fails : (fault : PutFault) → is_failure (ToldRefused (fault_of fault)) ≡ true
put-fails Carrier = refl
put-fails Depot = refl
put-fails Memory = refl

module _ (s : State) (g : Known) (v : Shared) (store : HasStore s.tree g v) (client now : ℕ) (d : Doing)
    (busy : (s.clients client).doing ≡ Some d) (quiets started : ℕ) (at : d.stage ≡ Working quiets started)
    (f : Flight) (yard : YardValue) (carrier : Carriage) where
  abbrev c : ModelClient
  c = s.clients client

  abbrev then_shared : Shared
  then_shared = record v { yard = yard; carrier = carrier }

  -- The block was put: the operation goes on, and the moment of the first block is kept. How the slice flies then is
  -- said by put-step_flies.
  module _ (segment : Segment) (next : next_segment d.flush (s.clients client).pending ≡ Some segment)
      (asked : 0 < quiets) (flies : Flies g v f)
      (short : length f.bytes ≤ WINDOW)
      (more : f.put < block_count (length f.bytes) v.yard.setting.block)
      (puts : PutsFlight client now f v.yard yard v.carrier carrier (Ok tt)) where
    abbrev learned : Known
    learned = with_block (flight_block v.yard.setting.block f f.put) (flight_bytes v.yard.setting.block f f.put) g

    abbrev stage : Stage
    stage = Working (quiets + 1) (if quiets == 1 then now else started)

    pub put-request : Request s g
        (with_block (flight_block v.yard.setting.block f f.put) (flight_bytes v.yard.setting.block f f.put) g)
        v (record v { yard = yard; carrier = carrier }) client now f.id f.id (Quiet ∷ []) More s.tree
        (at_stage (Working (quiets + 1) (if quiets == 1 then now else started)) d (s.clients client)) s.copied
    put-request =
        request-of s g learned v then_shared client now (Quiet ∷ []) More s.tree (at_stage stage d c) s.copied
        f.id f.id f.id
        (λ start alone within. put-step start alone s client now d busy segment next quiets started at asked)
        (put-step_leads v f client now yard carrier s.tree g store flies short more puts)
        (record { numbers = omega arith; records = omega arith })
        (apart-own g v f.id) (stays-same s.tree) (drops-same v then_shared refl)

  -- The block wasn't put: the operation ends, and all is as before, the slice's flight too, by unput-flies.
  pub put-failed : (fault : PutFault) → PutsFlight client now f v.yard yard v.carrier carrier (Err fault)
      → Request s g g v (record v { yard = yard; carrier = carrier }) client now f.id 0
      (Answered (ToldRefused (fault_of fault)) ∷ []) (Done (Refused (fault_of fault))) s.tree
      (record (s.clients client) { doing = None }) s.copied
  put-failed fault puts =
      flight-over g v f.id s g then_shared client now f.id (Answered (ToldRefused (fault_of fault)) ∷ [])
      (Done (Refused (fault_of fault))) s.tree (record c { doing = None }) s.copied
      (failure-request s g v then_shared store (unput-same v f client now yard carrier fault puts) client now f.id d
      busy (goes-working d quiets started at) (fault_of fault) (put-fails fault))
