-- Where a transaction wasn't made, the operation ends with its refusal, or out of memory, or with the keeper's failure; or the run
-- stops at a row that is Bad, which is none where rows are known and whole.
use Rattle.std.proofs.Common.{◌≡◌, ℕ, ◌+◌, Bool, true, false, IsTrue, [], ◌∷◌, Option, Some, Err}
use Rattle.std.proofs.Common.{refl, sym, ap, subst, ◌∙◌, arith}
use Rattle.std.specs.Prelude.{List}
use Rattle.std.specs.Option.{option_map}
use Rattle.jv_model.specs.declared.act.ActKind.{ActKind}
use Rattle.jv_model.specs.declared.act.ActKind.TheVariants.{Answered}
use Rattle.jv_model.specs.declared.act.Told.TheVariants.{Refused as ToldRefused}
use Rattle.jv_model.specs.declared.fault.Device.{Device}
use Rattle.jv_model.specs.declared.fault.Device.TheVariants.{Keeper, Depot, Shelf, Carrier}
use Rattle.jv_model.specs.declared.fault.Busy.TheVariants.{Lists}
use Rattle.jv_model.specs.declared.fault.Fault.{Fault}
use Rattle.jv_model.specs.declared.fault.Fault.TheVariants.{Contended, DeviceFailed, NoMemory}
use Rattle.jv_model.specs.declared.fault.RowFault.TheVariants.{Bad, Failed, Memory}
use Rattle.jv_model.specs.declared.fault.TxFault.{TxFault}
use Rattle.jv_model.specs.declared.fault.TxFault.TheVariants.{Refused, Moved, Rows as OfRows}
use Rattle.jv_model.specs.declared.op.Reply.TheVariants.{Refused as RefusedReply}
use Rattle.jv_model.specs.declared.op.Step.TheVariants.{Done}
use Rattle.jv_model.specs.promise.journal.State.{State, after_told}
use Rattle.jv_model.specs.journal.Stepping.{is_answer}
use Rattle.jv_model.specs.promise.journal.Steps.{is_failure}
use Rattle.jv_outside.specs.promise.Causes.{RoseIf}
use Rattle.jv_outside.specs.promise.Store.{Store}
use Rattle.jv_data.specs.Records.{TakesNumber}
use Rattle.jv_client_shared.specs.promise.Shared.{HasStore, Known, Shared}
use Rattle.jv_client_shared.proofs.SameLaws.{same-rows}
use Rattle.jv_client_requests.specs.Request.{Request}
use Rattle.jv_client.specs.declared.doing.Doing.{Doing}
use Rattle.jv_client.specs.declared.made.Made.{Made}
use Rattle.jv_client.specs.declared.made.Made.TheVariants as made
use Rattle.jv_client.specs.ClientValue.{ClientValue}
use Rattle.jv_client.specs.Held.{IsClient, Holds, in_flight}
use Rattle.jv_client.specs.Ending.{refused_here}
use Rattle.jv_client.specs.Reading.{put_at}
use Rattle.jv_client.specs.UnderWay.{IsReady}
use Rattle.jv_client.specs.YardUse.{YardUse}
use Rattle.jv_client.specs.Makes.{IsCalm, Makes, Stops, SaysBad, UsesDevices, asks_nothing, faults_of, step_of}
use Rattle.jv_client.specs.promise.Failures.{is_failure_of}
use Rattle.jv_client.specs.Failures.{says_failure}
use Rattle.jv_client.specs.Transacting.{EndsUnmade, Fails, NotMade, Refuses, refusal_of}
use Rattle.jv_client.proofs.held.EndingLaws.{holds-told}
use Rattle.jv_client.proofs.held.OthersStepLaws.{client-told}
use Rattle.jv_client.specs.CacheUse.{is_miss, is_of_blocks}
use Rattle.jv_client.proofs.held.CacheUseLaws.{RestsAlways, cache-ended, cache-stays}
use Rattle.jv_client.proofs.steps.AnswerLaws.{fails-makes, makes-as, makes-ended, refused-rests, rests-flight, same-yard}

-- ---- devices: nothing was asked but of the keeper

-- no other device is said to have failed
abbrev pub OnlyKeeper : Made → Type 0
OnlyKeeper done = (says_failure Depot done ≡ false) × (says_failure Shelf done ≡ false)
    × (says_failure Carrier done ≡ false)

module _ (before : Shared) (keeper : Store) (done : Made) where
  abbrev used : Shared
  used = record before { keeper = keeper }

  calm : (b : Bool) (faults : ℕ) → b ≡ false → RoseIf b faults faults
  calm b faults none = subst (λ b. RoseIf b faults faults) (sym none) refl

  -- A step that calls the keeper alone: it is open where it was, and failed where the step answers so.
  pub uses-keeper : keeper.opened ≡ before.keeper.opened
      → RoseIf (says_failure Keeper done) before.keeper.faults keeper.faults → OnlyKeeper done
      → (IsTrue (asks_nothing done) → keeper.rows ≡ before.keeper.rows) → SaysBad before (step_of done)
      → UsesDevices done before (record before { keeper = keeper })
  uses-keeper opened faults only rows bad = record {
    keeper_at = opened;
    carrier_at = refl;
    depot_at = refl;
    shelf_at = refl;
    setting = refl;
    last = refl;
    counts = by_device;
    rows = rows;
    objects = λ asks. refl;
    direct = refl;
    bad = bad;
  }
    where
      by_device : (device : Device) → RoseIf (says_failure device done) (faults_of device before)
          (faults_of device used)
      by_device Keeper = faults
      by_device Depot = calm (says_failure Depot done) before.yard.depot.faults only.0
      by_device Shelf = calm (says_failure Shelf done) before.yard.shelf.faults only.1
      by_device Carrier = calm (says_failure Carrier done) before.carrier.faults only.2

-- ---- which transactions weren't made

-- the number of a slice
pub not_taken : (sid : ℕ) (before after : Store) (fault : TxFault) → TakesNumber sid before after (Err fault)
    → NotMade fault before after
not_taken sid before after fault h =
    record { rows_are = h.undone; opened_at = h.opened_at; counts = h.counts; bad = h.bad }

-- ---- what the model makes of it

-- an operation is refused with no device that failed
pub calm-refusal : (fault : Fault) → IsCalm (ToldRefused (refusal_of fault))
calm-refusal (DeviceFailed failed) device = refl
calm-refusal _ device = refl

-- and with what its transaction was refused with, where that is no failure
pub same-refusal : (fault : Fault) → is_failure (ToldRefused fault) ≡ false → refusal_of fault ≡ fault
same-refusal (DeviceFailed failed) e = absurd (cc e)
same-refusal _ e = refl

-- the model refuses a request of this kind likewise, and that is no failure of a device
pub record RefusedAs (now : ℕ) (h : ClientValue) (d : Doing) (before used : Shared) (kind : ActKind) (fault : Fault)
    (s : State) (g : Known) : Type 0 where
  pub request : Request s g g before used h.id now (in_flight h) 0 (kind ∷ Answered (ToldRefused fault) ∷ [])
      (Done (RefusedReply fault)) s.tree (after_told d.op (ToldRefused fault) (s.clients h.id)) s.copied
  pub calm : is_failure (ToldRefused fault) ≡ false

-- What is left to show of the model where a transaction wasn't made: it is refused likewise; no list has moved, and no
-- row is Bad.
abbrev pub UnmadeLeads : (now : ℕ) → ClientValue → Doing → (before left : Shared) → ActKind → TxFault → State → Known
    → Type 0
UnmadeLeads now h d before left kind (Refused fault) s g = RefusedAs now h d before left kind fault s g
UnmadeLeads now h d before left kind (Moved list) s g = ⊥
UnmadeLeads now h d before left kind (OfRows (Bad at bytes)) s g = ⊥
UnmadeLeads now h d before left kind (OfRows Failed) s g = Unit {0}
UnmadeLeads now h d before left kind (OfRows Memory) s g = Unit {0}

-- over any state that client and devices stand for
abbrev pub InState : (entry : ℕ) → ClientValue → Shared → (State → Known → Type 0) → Type 0
InState entry h before P = (s : State) (g : Known) → s.count + 1 ≡ entry → HasStore s.tree g before
    → Holds s.tree (s.clients h.id) → IsClient g before (s.clients h.id) s.count h → P s g

-- ---- the steps

module _ (now entry : ℕ) (h : ClientValue) (d : Doing) (before used : Shared) (busy : h.doing ≡ Some d)
    (ready : IsReady h) (rests : RestsAlways before.yard.setting.block h d) where
  -- A request that is refused.
  pub refuses : (kind : ActKind) (fault : Fault) → is_answer kind ≡ false → is_miss kind ≡ false
      → IsCalm (ToldRefused fault)
      → UsesDevices (made.Both kind (ToldRefused fault) (RefusedReply fault)) before used
      → YardUse now h (made.Both kind (ToldRefused fault) (RefusedReply fault)) before.yard used.yard
      → InState entry h before (RefusedAs now h d before used kind fault)
      → Makes now entry h (refused_here fault h) before used (made.Both kind (ToldRefused fault) (RefusedReply fault))
  refuses kind fault asks found calm uses yard leads =
      let ends = refused-rests fault h in
      makes-ended now entry h (refused_here fault h) before used
      (made.Both kind (ToldRefused fault) (RefusedReply fault)) (RefusedReply fault) refl ready ends uses yard
      (cache-ended h d busy (refused_here fault h) (made.Both kind (ToldRefused fault) (RefusedReply fault)) before.yard
      used.yard h (ToldRefused fault) (rests (made.Both kind (ToldRefused fault) (RefusedReply fault)) found) refl refl
      refl tt)
      (asks, calm)
      (λ s g count store holds is.
      let m = s.clients h.id in
      let after = after_told d.op (ToldRefused fault) m in
      let kinds : List ActKind = kind ∷ Answered (ToldRefused fault) ∷ [] in
      let refused = leads s g count store holds is in
      record {
        learned = g;
        tree = s.tree;
        model = after;
        copied = s.copied;
        request = subst (λ (n : ℕ). Request s g g before used h.id now (in_flight h) n kinds
            (Done (RefusedReply fault)) s.tree after s.copied)
            (sym (rests-flight h (refused_here fault h) ends)) refused.request;
        is_client = client-told s.tree g before store refused.request.own g used refused.request.leads.kept m
            s.count (s.count + 2) h (omega arith) is d.op (ToldRefused fault) refl;
        holds = holds-told d.op (ToldRefused fault) s.tree m refl holds;
      })

-- a client that stopped as it was
stops-as : (h : ClientValue) (d : Doing) → h.doing ≡ Some d → Stops h h
stops-as h d busy = record {
  progress = d.progress;
  after_is = ap (λ (o : Option Doing). record h { doing = o })
      (busy ∙ ap (option_map (put_at d.progress)) (sym busy));
}

-- A transaction that wasn't made, by how the step ends.
module _ (now entry : ℕ) (h after : ClientValue) (d : Doing) (before : Shared) (keeper : Store)
    (busy : h.doing ≡ Some d) (ready : IsReady h) (rests : RestsAlways before.yard.setting.block h d) where
  abbrev then_shared : Shared
  then_shared = record before { keeper = keeper }

  abbrev IsMade : Made → Type 0
  IsMade done = Makes now entry h after before (record before { keeper = keeper }) done

  failed : (fault : Fault) (done : Made) → is_failure (ToldRefused fault) ≡ true
      → is_of_blocks (ToldRefused fault) ≡ false
      → RoseIf (is_failure_of Keeper (ToldRefused fault)) before.keeper.faults keeper.faults
      → (is_failure_of Depot (ToldRefused fault) ≡ false) × (is_failure_of Shelf (ToldRefused fault) ≡ false)
      × (is_failure_of Carrier (ToldRefused fault) ≡ false)
      → keeper.rows ≡ before.keeper.rows → keeper.opened ≡ before.keeper.opened → Fails fault h after done
      → IsMade done
  failed fault done fail other cause only rows opened ends =
      fails-makes now entry h d before then_shared fault after done busy ready
      (rests (made.Answer (ToldRefused fault) (RefusedReply fault)) other) fail ends
      (same-rows before keeper before.carrier rows)
      (subst (λ (x : Made). UsesDevices x before then_shared) (sym ends.made_is)
      (uses-keeper before keeper (made.Answer (ToldRefused fault) (RefusedReply fault)) opened cause only (λ asks. rows)
      tt))
      (same-yard now h done before.yard)

  -- a refusal of the transaction is one of the operation
  refused-as : (kind : ActKind) (fault : Fault) (s : State) (g : Known)
      → RefusedAs now h d before then_shared kind fault s g
      → RefusedAs now h d before then_shared kind (refusal_of fault) s g
  refused-as kind fault s g refused = subst (λ (x : Fault). RefusedAs now h d before then_shared kind x s g)
      (sym (same-refusal fault refused.calm)) refused

  refused : (kind : ActKind) (fault : Fault) (done : Made) → is_answer kind ≡ false → is_miss kind ≡ false
      → IsCalm (ToldRefused fault) → keeper.rows ≡ before.keeper.rows
      → keeper.opened ≡ before.keeper.opened → keeper.faults ≡ before.keeper.faults → Refuses kind fault h after done
      → InState entry h before (RefusedAs now h d before then_shared kind fault)
      → IsMade done
  refused kind fault done asks found calm rows opened faults ends leads =
      makes-as now entry h after (refused_here fault h) before then_shared then_shared done
      (made.Both kind (ToldRefused fault) (RefusedReply fault)) ends.after_is refl ends.made_is
      (refuses now entry h d before then_shared busy ready rests kind fault asks found calm
      (uses-keeper before keeper (made.Both kind (ToldRefused fault) (RefusedReply fault)) opened faults
      (refl, refl, refl) (λ asks. rows) tt)
      (same-yard now h (made.Both kind (ToldRefused fault) (RefusedReply fault)) before.yard) leads)

  pub unmade : (kind : ActKind) (fault : TxFault) (done : Made) → is_answer kind ≡ false → is_miss kind ≡ false
      → NotMade fault before.keeper keeper
      → EndsUnmade kind fault h after done
      → InState entry h before (UnmadeLeads now h d before (record before { keeper = keeper }) kind fault)
      → Makes now entry h after before (record before { keeper = keeper }) done
  unmade kind (Refused fault) done asks found none ends leads =
      refused kind (refusal_of fault) done asks found (calm-refusal fault) none.rows_are none.opened_at none.counts ends
      (λ s g number store holds is. refused-as kind fault s g (leads s g number store holds is))
  unmade kind (Moved list) done asks found none ends leads =
      refused kind (Contended (Lists ends.0 ends.0)) done asks found (λ device. refl) none.rows_are none.opened_at none.counts ends.1
      (λ s g number store holds is. absurd (leads s g number store holds is))
  unmade kind (OfRows (Bad at bytes)) done asks found none ends leads =
      makes-as now entry h after h before then_shared then_shared done (made.Broken at bytes) ends.0 refl ends.1
      (record {
        id = refl;
        limits = refl;
        ready = ready;
        devices = uses-keeper before keeper (made.Broken at bytes) none.opened_at none.counts (refl, refl, refl)
            (λ asks. none.rows_are) none.bad;
        yard = same-yard now h (made.Broken at bytes) before.yard;
        cache = cache-stays h d busy h (made.Broken at bytes) before.yard before.yard
            (rests (made.Broken at bytes) refl) refl refl tt;
        alone = tt;
        falls = stops-as h d busy;
        leads = λ s g number store holds is. absurd (leads s g number store holds is);
      })
  unmade kind (OfRows Failed) done asks found none ends leads =
      failed (DeviceFailed Keeper) done refl refl none.counts (refl, refl, refl) none.rows_are none.opened_at ends
  unmade kind (OfRows Memory) done asks found none ends leads =
      failed NoMemory done refl refl none.counts (refl, refl, refl) none.rows_are none.opened_at ends
