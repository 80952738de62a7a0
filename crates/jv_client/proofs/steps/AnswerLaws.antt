-- An operation ends with an answer: what that leaves of the client, what it does to devices, and the answer that memory ran out or a
-- device failed.
use Rattle.std.proofs.Common.{◌≡◌, ℕ, ◌+◌, ◌≤◌, true, false, List, Option, None, Some, refl, sym, ap, subst, arith}
use Rattle.std.specs.Prelude.{IfSome}
use Rattle.jv_model.specs.declared.limits.TheConstants.{MAX_DATA}
use Rattle.jv_model.specs.declared.basics.Limits.{Limits}
use Rattle.jv_model.specs.declared.act.ActKind.{ActKind}
use Rattle.jv_model.specs.declared.act.Told.{Told}
use Rattle.jv_model.specs.declared.act.Told.TheVariants.{Fine, Looks, Refused as ToldRefused}
use Rattle.jv_model.specs.declared.fault.Device.{Device}
use Rattle.jv_model.specs.declared.fault.Fault.{Fault}
use Rattle.jv_model.specs.declared.fault.Fault.TheVariants.{NoMemory, Stale}
use Rattle.jv_model.specs.declared.fault.Gone.TheVariants.{Session, Node}
use Rattle.jv_model.specs.declared.op.Op.{Op}
use Rattle.jv_model.specs.declared.op.Op.TheVariants as op
use Rattle.jv_model.specs.declared.op.Reply.{Reply}
use Rattle.jv_model.specs.declared.op.Reply.TheVariants.{Refused as RefusedReply}
use Rattle.jv_model.specs.declared.op.Step.{Step}
use Rattle.jv_model.specs.declared.op.Step.TheVariants.{Done}
use Rattle.jv_model.specs.promise.tree.Tree.{Tree}
use Rattle.jv_model.specs.promise.client.ModelClient.{ModelClient}
use Rattle.jv_model.specs.promise.journal.State.{State}
use Rattle.jv_model.specs.promise.journal.Steps.{is_failure, must_answer}
use Rattle.jv_outside.specs.promise.Causes.{RoseIf}
use Rattle.jv_yard.specs.promise.YardValue.{YardValue}
use Rattle.jv_client_shared.specs.Keeping.{HoldsSame}
use Rattle.jv_client_shared.specs.promise.Shared.{HasStore, Known, Shared}
use Rattle.jv_client_shared.proofs.SameLaws.{same-none, same-stays}
use Rattle.jv_model_steps.proofs.RefusalStepLaws.{goes-reading, goes-working}
use Rattle.jv_client_requests.specs.Request.{Request}
use Rattle.jv_client_requests.proofs.StillLaws.{failure-request}
use Rattle.jv_client.specs.declared.doing.Doing.{Doing}
use Rattle.jv_client.specs.declared.doing.Progress.{Progress}
use Rattle.jv_client.specs.declared.doing.Progress.TheVariants.{Reading, Working}
use Rattle.jv_client.specs.declared.made.Made.{Made}
use Rattle.jv_client.specs.declared.made.Made.TheVariants as made
use Rattle.jv_client.specs.CacheUse.{CacheUse}
use Rattle.jv_client.specs.ClientValue.{ClientValue}
use Rattle.jv_client.specs.Ending.{ended, finished_here, refused_here, told_here}
use Rattle.jv_client.specs.Held.{Holds, IsClient, flight_in, in_flight, number_of, stage_of}
use Rattle.jv_client.specs.Makes.{FailsAlone, Falls, Makes, StepsTo, SaysBad, UsesDevices, faults_of, kinds_of, step_of}
use Rattle.jv_client.specs.Failures.{says_failure}
use Rattle.jv_client.specs.Transacting.{Fails}
use Rattle.jv_client.specs.UnderWay.{IsReady, IsUnderWay}
use Rattle.jv_client.specs.YardUse.{PutsNone, YardUse}
use Rattle.jv_client.proofs.held.CacheUseLaws.{Alone, RestsBy, cache-stays, failure-stays}
use Rattle.jv_client.proofs.held.HeldLaws.{client-doing, doing_of, holds-doing}
use Rattle.jv_client.proofs.held.OthersStepLaws.{client-ended}

-- ---- a client whose operation ended

-- it is itself, and does nothing
pub record Rests (h after : ClientValue) : Type 0 where
  pub id : after.id ≡ h.id
  pub limits : after.limits ≡ h.limits
  pub idle : after.doing ≡ None

finished-rests : (o : Op) (h : ClientValue) → Rests h (finished_here o h)
finished-rests op.Umount h = record { id = refl; limits = refl; idle = refl }
finished-rests (op.Close handle) h = record { id = refl; limits = refl; idle = refl }
finished-rests _ h = record { id = refl; limits = refl; idle = refl }

pub refused-rests : (fault : Fault) (h : ClientValue) → Rests h (refused_here fault h)
refused-rests (Stale (Session sid)) h = record { id = refl; limits = refl; idle = refl }
refused-rests (Stale (Node inode)) h = record { id = refl; limits = refl; idle = refl }
refused-rests _ h = record { id = refl; limits = refl; idle = refl }

pub told-rests : (o : Op) (told : Told) (h : ClientValue) → Rests h (told_here o told h)
told-rests o (Fine a b c d) h = finished-rests o h
told-rests o (Looks first second len) h = finished-rests o h
told-rests o (ToldRefused fault) h = refused-rests fault h

pub ended-rests : (h : ClientValue) → Rests h (ended h)
ended-rests h = record { id = refl; limits = refl; idle = refl }

pub rests-ready : (h after : ClientValue) → Rests h after → IsReady h → IsReady after
rests-ready h after rests ready = record {
  buffer = subst (λ (l : Limits). MAX_DATA ≤ l.buffer) (sym rests.limits) ready.buffer;
  doing = subst (λ (o : Option Doing). IfSome o (IsUnderWay after)) (sym rests.idle) tt;
}

-- it has no slice in flight
pub rests-flight : (h after : ClientValue) → Rests h after → in_flight after ≡ 0
rests-flight h after rests = ap (λ (o : Option Doing). number_of (flight_in after.pending o)) rests.idle

-- ---- the model's client, whose operation can always be refused for a failure

pub not_ending : (d : Doing) → must_answer (doing_of d) ≡ false
not_ending d = by_progress d.progress refl
  where
    by_progress : (p : Progress) → d.progress ≡ p → must_answer (doing_of d) ≡ false
    by_progress (Working quiets started id) e = goes-working (doing_of d) quiets started (ap stage_of e)
    by_progress (Reading fetch need) e = goes-reading (doing_of d) 0 (ap stage_of e)

-- ---- a request

module _ (s : State) (g learned : Known) (before v : Shared) (client now mine after : ℕ) (kinds : List ActKind)
    (step : Step) (t : Tree) (c : ModelClient) (copied : ℕ) where
  -- the client has no slice in flight after it
  pub request-lands : Request s g learned before v client now mine after kinds step t c copied
      → Request s g learned before v client now mine 0 kinds step t c copied
  request-lands r = record {
    own = r.own;
    allows = r.allows;
    within = r.within;
    leaves = r.leaves;
    leads = r.leads;
    apart = record {
      own_apart = r.apart.own_apart;
      new_apart = λ f flies other none. (let some = flies.ever.some in absurd (omega (arith, some, none)));
    };
    stays = r.stays;
    drops = r.drops;
  }

-- ---- devices

-- a step that used none: they are as they were
pub uses-none : (done : Made) (v : Shared) → ((device : Device) → says_failure device done ≡ false)
    → SaysBad v (step_of done) → UsesDevices done v v
uses-none done v calm bad = record {
  keeper_at = refl;
  carrier_at = refl;
  depot_at = refl;
  shelf_at = refl;
  setting = refl;
  last = refl;
  counts = λ device.
      subst (λ b. RoseIf b (faults_of device v) (faults_of device v)) (sym (calm device)) refl;
  rows = λ none. refl;
  objects = λ none. refl;
  direct = refl;
  bad = bad;
}

-- nor did it put a block
pub same-yard : (now : ℕ) (h : ClientValue) (done : Made) (yard : YardValue) → YardUse now h done yard yard
same-yard now h done yard = record { staged = refl; puts = PutsNone refl refl }

-- ---- an operation ends, whatever it is answered

module _ (now entry : ℕ) (h after : ClientValue) (before used : Shared) (done : Made) (reply : Reply) where
  pub makes-ended : step_of done ≡ Done reply → IsReady h → Rests h after → UsesDevices done before used
      → YardUse now h done before.yard used.yard → CacheUse h after done before.yard used.yard → FailsAlone done
      → ((s : State) (g : Known) → s.count + 1 ≡ entry → HasStore s.tree g before → Holds s.tree (s.clients h.id)
      → IsClient g before (s.clients h.id) s.count h
      → StepsTo s g before h now (kinds_of done) (step_of done) after used)
      → Makes now entry h after before used done
  makes-ended is ready rests devices yard cache alone leads = record {
    id = rests.id;
    limits = rests.limits;
    ready = rests-ready h after rests ready;
    devices = devices;
    yard = yard;
    cache = cache;
    alone = alone;
    falls = subst (λ (step : Step). Falls step h after) (sym is) rests.idle;
    leads = leads;
  }

-- a step under other names
pub makes-as : (now entry : ℕ) (h after end : ClientValue) (v used other : Shared) (done is : Made) → after ≡ end
    → used ≡ other → done ≡ is → Makes now entry h end v other is → Makes now entry h after v used done
makes-as now entry h after end v used other done is same_end same_used same_made makes =
    subst (λ (x : Made). Makes now entry h after v used x) (sym same_made)
    (subst (λ (x : Shared). Makes now entry h after v x is) (sym same_used)
    (subst (λ (x : ClientValue). Makes now entry h x v other is) (sym same_end) makes))

-- ---- a device failed, or memory ran out: its outcome is the operation's end

module _ (now entry : ℕ) (h : ClientValue) (d : Doing) (before used : Shared) (fault : Fault) where
  abbrev failed : Made
  failed = made.Answer (ToldRefused fault) (RefusedReply fault)

  fails-leads : h.doing ≡ Some d → is_failure (ToldRefused fault) ≡ true → HoldsSame before used
      → (s : State) (g : Known) → HasStore s.tree g before → Holds s.tree (s.clients h.id)
      → IsClient g before (s.clients h.id) s.count h
      → StepsTo s g before h now (kinds_of failed) (step_of failed) (ended h) used
  fails-leads busy fail same s g store holds is =
      let c = s.clients h.id in
      let mine = in_flight h in
      let ends = Done (RefusedReply fault) in
      let left : ModelClient = record c { doing = None } in
      record {
        learned = g;
        tree = s.tree;
        model = left;
        copied = s.copied;
        request = request-lands s g g before used h.id now mine mine (kinds_of failed) ends s.tree left s.copied
            (failure-request s g before used store same h.id now mine (doing_of d)
            (client-doing g before c s.count h d busy is) (not_ending d) fault fail);
        is_client = client-ended s.tree g before store 0 g used (same-stays 0 g before used same) c s.count (s.count + 1) h
            (omega arith) is;
        holds = holds-doing s.tree c None holds;
      }

  pub fails-makes : (after : ClientValue) (done : Made) → h.doing ≡ Some d → IsReady h
      → RestsBy before.yard.setting.block h d failed → is_failure (ToldRefused fault) ≡ true
      → Fails fault h after done → HoldsSame before used
      → UsesDevices done before used → YardUse now h done before.yard used.yard
      → Makes now entry h after before used done
  fails-makes after done busy ready by fail fails same devices yard =
      makes-as now entry h after (ended h) before used used done failed fails.after_is refl fails.made_is
      (makes-ended now entry h (ended h) before used failed (RefusedReply fault) refl ready (ended-rests h)
      (subst (λ (x : Made). UsesDevices x before used) fails.made_is devices)
      (subst (λ (x : Made). YardUse now h x before.yard used.yard) fails.made_is yard)
      (cache-stays h d busy (ended h) failed before.yard used.yard by (failure-stays fault fail) refl tt) tt
      (λ s g count store holds is. fails-leads busy fail same s g store holds is))

-- memory ran out, and no device was used
pub no_memory-makes : (now entry : ℕ) (h after : ClientValue) (d : Doing) (v : Shared) (done : Made) → h.doing ≡ Some d
    → IsReady h → Fails NoMemory h after done → Makes now entry h after v v done
no_memory-makes now entry h after d v done busy ready fails =
    fails-makes now entry h d v v NoMemory after done busy ready (Alone tt) refl fails (same-none v)
    (subst (λ (x : Made). UsesDevices x v v) (sym fails.made_is)
    (uses-none (made.Answer (ToldRefused NoMemory) (RefusedReply NoMemory)) v (λ device. refl) tt))
    (same-yard now h done v.yard)
