-- A reading whose request failed: the operation is over, and the client is as it was, but for blocks that were looked up or
-- kept.
use Rattle.std.proofs.Common.{◌≡◌, ℕ, ◌+◌, true, [], ◌∷◌, Option, None, Some, refl, ap, subst, arith}
use Rattle.jv_model.specs.declared.act.ActKind.TheVariants.{Answered}
use Rattle.jv_model.specs.declared.act.Told.TheVariants.{Refused as ToldRefused}
use Rattle.jv_model.specs.declared.fault.Fault.{Fault}
use Rattle.jv_model.specs.declared.op.Reply.TheVariants.{Refused}
use Rattle.jv_model.specs.declared.op.Step.TheVariants.{Done}
use Rattle.jv_model.specs.promise.client.ModelClient.{ModelClient}
use Rattle.jv_model.specs.promise.journal.State.{State}
use Rattle.jv_model.specs.promise.journal.Steps.{is_failure}
use Rattle.jv_model.specs.promise.client.OpForms.{is_read}
use Rattle.jv_cache.specs.Cached.{Cached}
use Rattle.jv_client_reads.specs.declared.need.Need.{Need}
use Rattle.jv_client_reads.specs.Calls.{IsCacheOf}
use Rattle.jv_client_reads.specs.Fetching.{Fetching}
use Rattle.jv_client_shared.specs.Keeping.{HoldsSame}
use Rattle.jv_client_shared.specs.promise.Shared.{HasStore, Known, Shared}
use Rattle.jv_client_shared.proofs.SameLaws.{same-stays}
use Rattle.jv_client_requests.specs.Request.{Request}
use Rattle.jv_client_requests.proofs.LookLaws.{goes-look}
use Rattle.jv_client_requests.proofs.StillLaws.{failure-request}
use Rattle.jv_client.specs.declared.doing.Doing.{Doing}
use Rattle.jv_client.specs.declared.made.Made.TheVariants as made
use Rattle.jv_client.specs.ClientValue.{ClientValue}
use Rattle.jv_client.specs.Held.{Holds, IsClient, IsHeld, in_flight}
use Rattle.jv_client.specs.Makes.{Makes, StepsTo, UsesDevices}
use Rattle.jv_client.specs.CacheUse.{CacheUse, MovesInRead}
use Rattle.jv_client.specs.YardUse.{YardUse}
use Rattle.jv_client.proofs.held.CacheUseLaws.{cache-read, failure-stays}
use Rattle.jv_client.proofs.held.HeldLaws.{doing_of, holds-doing}
use Rattle.jv_client.proofs.held.OthersStepLaws.{cache-goes, ended-client, held-goes}
use Rattle.jv_client.proofs.reads.ReaderLaws.{IsAsking, busy_in, flushed-asking, may_read, none_flying}
use Rattle.jv_client.proofs.reads.ReadingGoesOnLaws.{over}

-- the same client with another cache
pub held-cache : (g : Known) (v : Shared) (m : ModelClient) (count : ℕ) (h : ClientValue) (cache : Option Cached)
    (doing : Option Doing) → IsHeld g v m count h → IsHeld g v m count (record h { cache = cache; doing = doing })
held-cache g v m count h cache doing held = record {
  session = held.session;
  removed = held.removed;
  handles = held.handles;
  views = held.views;
  pending = held.pending;
  direct = held.direct;
}

module _ (now entry block : ℕ) (h : ClientValue) (d : Doing) (offset len : ℕ) (cache : Cached) (fetch : Fetching)
    (next : Need) (asks : IsAsking block h d offset len cache fetch next) (before used : Shared)
    (same : HoldsSame before used) (fault : Fault) (later : Cached)
    (cached : (s : State) (g : Known) → HasStore s.tree g before → IsClient g before (s.clients h.id) s.count h
    → IsCacheOf g.sizes before.yard.setting.block g.blocks later) where
  module _ (fails : is_failure (ToldRefused fault) ≡ true) (s : State) (g : Known) (has : HasStore s.tree g before)
      (holds : Holds s.tree (s.clients h.id)) (client : IsClient g before (s.clients h.id) s.count h) where
    abbrev m : ModelClient
    m = s.clients h.id

    failed-leads : StepsTo s g before h now (Answered (ToldRefused fault) ∷ []) (Done (Refused fault))
        (over h.handles later h) used
    failed-leads = record {
      learned = g;
      tree = s.tree;
      model = record m { doing = None };
      copied = s.copied;
      request = subst
          (λ n. Request s g g before used h.id now (in_flight h) n (Answered (ToldRefused fault) ∷ [])
          (Done (Refused fault)) s.tree (record m { doing = None }) s.copied)
          (none_flying h d asks.busy asks.at asks.none)
          (failure-request s g before used has same h.id now (in_flight h) (doing_of d)
          (busy_in h d asks.busy asks.at asks.none offset len asks.reads g before m s.count client)
          (goes-look (may_read h d asks.busy asks.at asks.none offset len asks.reads g before m s.count client)) fault
          fails);
      is_client = ended-client g used (s.count + 1) m (record h { cache = Some later; doing = h.doing })
          (held-goes s.tree g before has 0 g used (same-stays 0 g before used same) m s.count (s.count + 1)
          (record h { cache = Some later; doing = h.doing }) (omega arith)
          (held-cache g before m s.count h (Some later) h.doing client.held))
          (cache-goes s.tree g before has 0 g used (same-stays 0 g before used same) (Some later)
          (cached s g has client));
      holds = holds-doing s.tree m None holds;
    }

  abbrev FailedLeads : Type 0
  FailedLeads = (s : State) (g : Known) → s.count + 1 ≡ entry → HasStore s.tree g before
      → Holds s.tree (s.clients h.id) → IsClient g before (s.clients h.id) s.count h
      → StepsTo s g before h now (Answered (ToldRefused fault) ∷ []) (Done (Refused fault))
      (over h.handles later h) used

  -- whatever the cause
  pub failed-by : UsesDevices (made.Answer (ToldRefused fault) (Refused fault)) before used
      → YardUse now h (made.Answer (ToldRefused fault) (Refused fault)) before.yard used.yard
      → CacheUse h (over h.handles later h) (made.Answer (ToldRefused fault) (Refused fault)) before.yard used.yard
      → FailedLeads
      → Makes now entry h (over h.handles later h) before used (made.Answer (ToldRefused fault) (Refused fault))
  failed-by uses yard moved leads = record {
    id = refl;
    limits = refl;
    ready = record { buffer = asks.buffer; doing = tt };
    devices = uses;
    yard = yard;
    cache = moved;
    alone = tt;
    falls = refl;
    leads = leads;
  }

  -- a device failed, or memory ran out
  pub failed : is_failure (ToldRefused fault) ≡ true
      → UsesDevices (made.Answer (ToldRefused fault) (Refused fault)) before used
      → YardUse now h (made.Answer (ToldRefused fault) (Refused fault)) before.yard used.yard
      → MovesInRead h d (made.Answer (ToldRefused fault) (Refused fault)) before.yard used.yard
      (over h.handles later h) (Some later)
      → Makes now entry h (over h.handles later h) before used (made.Answer (ToldRefused fault) (Refused fault))
  failed fails uses yard moves =
      failed-by uses yard
      (cache-read h d asks.busy (over h.handles later h) (made.Answer (ToldRefused fault) (Refused fault)) before.yard
      used.yard (ap is_read asks.reads.op_is) (flushed-asking asks) (failure-stays fault fails) moves tt)
      (λ s g number has holds client. failed-leads fails s g has holds client)
