-- The requests of a flush before its commit, for the number of a segment's slice and for each of its blocks, and what refuses
-- them.
use Rattle.std.proofs.Common.{◌≡◌, ℕ, ◌+◌, ◌-◌, ◌*◌, ◌≤◌, ◌<◌, ◌||◌, IsTrue, [], ◌∷◌, length, Option}
use Rattle.std.proofs.Common.{None, Some, Ok, Err, refl, sym, ap, subst, ◌∙◌, arith}
use Rattle.std.specs.Prelude.{IfSome, IsSome, IsTrue, List, is_some, unwrap_or}
use Rattle.std.specs.Option.{option_map}
use Rattle.jv_model.specs.declared.act.ActKind.TheVariants.{Answered, Quiet}
use Rattle.jv_model.specs.declared.act.Told.TheVariants.{Refused as ToldRefused}
use Rattle.jv_model.specs.declared.fault.RowFault.TheVariants.{Bad, Failed, Memory}
use Rattle.jv_model.specs.declared.fault.TxFault.{TxFault}
use Rattle.jv_model.specs.declared.fault.TxFault.TheVariants.{Refused, Moved, Rows as OfRows}
use Rattle.jv_model.specs.declared.op.Reply.TheVariants.{Refused as RefusedReply}
use Rattle.jv_model.specs.declared.op.Step.TheVariants.{Done, More}
use Rattle.jv_model.specs.promise.blocks.Slices.{block_count}
use Rattle.jv_model.specs.promise.client.Pending.{Segment}
use Rattle.jv_model.specs.promise.client.Submission.{next_segment}
use Rattle.jv_model.specs.promise.client.ModelClient.{ModelClient, Working as InModel, session_of}
use Rattle.jv_model.specs.promise.journal.State.{State, after_told}
use Rattle.jv_outside.specs.promise.Store.{Store}
use Rattle.jv_volume_bytes.specs.Flights.{Flight}
use Rattle.jv_data.specs.Records.{TakesNumber}
use Rattle.jv_client_shared.specs.Direct.{HasPut}
use Rattle.jv_client_shared.specs.Flying.{Flies}
use Rattle.jv_client_shared.specs.promise.Shared.{HasStore, Known, Shared, depot_in}
use Rattle.jv_client_shared.specs.Shared.{with_size}
use Rattle.jv_model_steps.specs.IsStep.{at_stage}
use Rattle.jv_client_requests.specs.Request.{Request}
use Rattle.jv_client_requests.proofs.NumberLaws.{number-calm, number-never_bad, number-never_moved, number-refused, number-taken}
use Rattle.jv_client_requests.proofs.NumberLaws.{number-taken_flies}
use Rattle.jv_client.specs.declared.doing.Doing.{Doing}
use Rattle.jv_client.specs.declared.doing.Progress.{Progress}
use Rattle.jv_client.specs.declared.doing.Progress.TheVariants.{Working}
use Rattle.jv_client.specs.declared.made.Made.{Made}
use Rattle.jv_client.specs.declared.made.Made.TheVariants.{Request as AsksFor}
use Rattle.jv_client.specs.ClientValue.{ClientValue, session_here}
use Rattle.jv_client.specs.Flushing.{bytes_of}
use Rattle.jv_client.specs.Held.{IsClient, IsOnWay, flight_by, flush_of_code}
use Rattle.jv_client.specs.CacheUse.{is_put_due}
use Rattle.jv_client.specs.Held.{flight_of, in_flight, number_of, segment_left, stage_of}
use Rattle.jv_client.specs.UnderWay.{IsReady, IsWorking, has_segment, asks_more, left, left_of, moved_to, progress_of, reading_steps}
use Rattle.jv_client.specs.UnderWay.{covered, steps_in}
use Rattle.jv_client.specs.Makes.{Makes, UsesDevices}
use Rattle.jv_client.specs.YardUse.{YardUse}
use Rattle.jv_client.specs.Transacting.{EndsUnmade}
use Rattle.jv_client_handles.proofs.TableLaws.{the_some}
use Rattle.jv_client.proofs.held.HeldLaws.{client-doing, doing_of, holds-doing}
use Rattle.jv_client.proofs.held.OthersStepLaws.{client-asks}
use Rattle.jv_client.proofs.steps.RequestMadeLaws.{goes-on, in_progress}
use Rattle.jv_client.proofs.begun.ToCommitLaws.{flight-flying, flight-is, left-is}
use Rattle.jv_client.proofs.begun.CoveredLaws.{segment-short}
use Rattle.jv_client.proofs.held.CacheUseLaws.{rests-flushing}
use Rattle.jv_client.proofs.steps.RefusedTransactionLaws.{UnmadeLeads, InState, not_taken, unmade, uses-keeper}
use Rattle.jv_client.proofs.steps.AnswerLaws.{makes-as, same-yard}
use Rattle.jv_client.proofs.begun.FormLaws.{segment-mounted, under_way}
use Rattle.jv_client.proofs.held.HeldLaws.{mounted-model}

-- ---- a further request of the segment that is committed next

-- the model makes the request likewise, and its slice is in flight
pub record Asked (now : ℕ) (h : ClientValue) (d : Doing) (before used : Shared) (bytes : List ℕ)
    (quiets moment number : ℕ) (s : State) (g : Known) : Type 0 where
  pub learned : Known
  pub request : Request s g learned before used h.id now (in_flight h) number (Quiet ∷ []) More s.tree
      (at_stage (InModel (quiets + 1) moment) (doing_of d) (s.clients h.id)) s.copied
  pub flies : Flies learned used (record { id = number; bytes = bytes; put = quiets })
  pub put : quiets ≤ block_count (length bytes) used.yard.setting.block
  pub there : HasPut used.yard.setting.block (depot_in used) (record { id = number; bytes = bytes; put = quiets })

module _ (now entry : ℕ) (h : ClientValue) (d : Doing) (before used : Shared) (segment : Segment)
    (quiets started id moment number : ℕ) (busy : h.doing ≡ Some d) (ready : IsReady h)
    (next : left h ≡ Some segment) (at : d.progress ≡ Working quiets started id) (few : quiets ≤ segment.len)
    (some : 0 < number) where
  abbrev stage : Progress
  stage = Working (quiets + 1) moment number

  abbrev asking : Doing
  asking = moved_to stage d

  abbrev after : ClientValue
  after = record h { doing = Some asking }

  abbrev flight : Flight
  flight = record { id = number; bytes = bytes_of segment h.pending; put = quiets }

  next_is : segment_left d.flush h.pending ≡ Some segment
  next_is = left-is h d busy (Some segment) next

  there : IsTrue (has_segment after asking)
  there = ap is_some next_is

  flying : flight_by h.pending d.flush stage ≡ Some flight
  flying = flight-flying h.pending d.flush (quiets + 1) quiets moment number segment (omega arith) next_is

  fewer : steps_in h.pending asking < steps_in h.pending d
  fewer =
      let was : steps_in h.pending d ≡ 3 * length (covered d.flush h.pending) + reading_steps d.does - quiets =
      ap (λ (p : Progress). steps_in h.pending (record d { progress = p })) at in
      let short = segment-short d.flush segment h.pending next_is in
      let low = short.0 in
      let some_left = short.1 in
      omega (arith, was, few, low, some_left)

  works : IsWorking after asking (quiets + 1) number
  works = record {
    few = subst (λ (o : Option Segment). IfSome o (λ (segment : Segment). quiets + 1 ≤ 1 + segment.len)) (sym next_is)
        (omega (arith, few));
    segment = λ asked. there;
    numbered = λ asked. some;
  }

  -- The operation goes on.
  pub asks : UsesDevices (AsksFor Quiet) before used → YardUse now h (AsksFor Quiet) before.yard used.yard
      → InState entry h before (Asked now h d before used (bytes_of segment h.pending) quiets moment number)
      → Makes now entry h (record h { doing = Some (moved_to (Working (quiets + 1) moment number) d) }) before used
      (AsksFor Quiet)
  asks uses yard leads =
      goes-on now entry h after d stage Quiet before used busy ready (ap is_some next) refl refl
      (record {
        session = refl;
        limits = refl;
        pending = omega arith;
        handles = λ handle file opened. (file, opened, refl);
      })
      refl works (ap (λ b. b || asks_more after asking) there) fewer uses yard refl refl
      (λ s g count store holds is.
      let m = s.clients h.id in
      let model : ModelClient = at_stage (InModel (quiets + 1) moment) (doing_of d) m in
      let asked = leads s g count store holds is in
      record {
        learned = asked.learned;
        tree = s.tree;
        model = model;
        copied = s.copied;
        request = subst (λ (n : ℕ). Request s g asked.learned before used h.id now (in_flight h) n (Quiet ∷ []) More
            s.tree model s.copied) (sym (ap number_of flying)) asked.request;
        is_client = client-asks s.tree g before store asked.request.own asked.learned used asked.request.leads.kept m
            s.count (s.count + 1) h (omega arith) is d stage
            (subst (IsOnWay asked.learned used) (sym flying) (asked.flies, asked.put))
            (subst (λ (o : Option Flight). IfSome o (HasPut used.yard.setting.block (depot_in used))) (sym flying) asked.there)
            tt;
        holds = holds-doing s.tree m model.doing holds;
      })

-- ---- the number of the segment's slice

module _ (now entry : ℕ) (h : ClientValue) (d : Doing) (before : Shared) (keeper : Store) (segment : Segment)
    (sid started id : ℕ) (busy : h.doing ≡ Some d) (ready : IsReady h) (next : left h ≡ Some segment)
    (at : d.progress ≡ Working 0 started id) (own : sid ≡ session_here h) where
  abbrev numbered : Shared
  numbered = record before { keeper = keeper }

  abbrev bytes : List ℕ
  bytes = bytes_of segment h.pending

  none_flies : flight_of h ≡ None
  none_flies = flight-is h d busy (Working 0 started id) at

  none_yet : in_flight h ≡ 0
  none_yet = ap number_of none_flies

  module _ (s : State) (g : Known) (store : HasStore s.tree g before)
      (is : IsClient g before (s.clients h.id) s.count h) where
    busy_in : (s.clients h.id).doing ≡ Some (doing_of d)
    busy_in = client-doing g before (s.clients h.id) s.count h d busy is

    next_in : next_segment (flush_of_code d.flush) (s.clients h.id).pending ≡ Some segment
    next_in =
        ap (next_segment (flush_of_code d.flush)) is.held.pending ∙ left-is h d busy (Some segment) next

    mounted_in : IsTrue (is_some (s.clients h.id).session)
    mounted_in = mounted-model h (s.clients h.id) is.held.session
        (segment-mounted h d (under_way h d busy ready).form (ap is_some (sym (ap (left_of h.pending) busy) ∙ next)))

    own_in : sid ≡ session_of (s.clients h.id)
    own_in = own ∙ sym (ap (λ (o : Option ℕ). unwrap_or o 0) is.held.session)

    takes_in : (given : ℕ) → TakesNumber sid before.keeper keeper (Ok given)
        → Asked now h d before numbered bytes 0 0 given s g
    takes_in given takes = record {
      learned = with_size given (length bytes) g;
      request = subst (λ (n : ℕ). Request s g (with_size given (length bytes) g) before numbered h.id now n given
          (Quiet ∷ []) More s.tree (at_stage (InModel 1 0) (doing_of d) (s.clients h.id)) s.copied) (sym none_yet)
          (number-taken s g before store h.id now (doing_of d) busy_in segment next_in started (ap stage_of at) keeper sid
          mounted_in own_in given takes bytes);
      flies = number-taken_flies s g before store h.id now (doing_of d) busy_in segment next_in started (ap stage_of at)
          keeper sid mounted_in own_in given takes bytes;
      put = omega arith;
      there = λ index none. absurd (omega (arith, none));
    }

    refused_in : (fault : TxFault) → TakesNumber sid before.keeper keeper (Err fault)
        → UnmadeLeads now h d before numbered Quiet fault s g
    refused_in (Refused fault) takes = record {
      request = subst (λ (n : ℕ). Request s g g before numbered h.id now n 0 (Quiet ∷ Answered (ToldRefused fault) ∷ [])
          (Done (RefusedReply fault)) s.tree (after_told d.op (ToldRefused fault) (s.clients h.id)) s.copied)
          (sym none_yet)
          (number-refused s g before store h.id now (doing_of d) busy_in segment next_in started (ap stage_of at) keeper
          sid mounted_in own_in fault takes);
      calm = number-calm s g before store h.id now (doing_of d) busy_in segment next_in started (ap stage_of at) keeper
          sid mounted_in own_in fault takes;
    }
    refused_in (Moved list) takes =
        number-never_moved s g before store h.id now (doing_of d) busy_in segment next_in started (ap stage_of at) keeper
        sid mounted_in own_in list takes
    refused_in (OfRows (Bad row bad)) takes =
        number-never_bad s g before store h.id now (doing_of d) busy_in segment next_in started (ap stage_of at) keeper
        sid mounted_in own_in row bad takes
    refused_in (OfRows Failed) takes = tt
    refused_in (OfRows Memory) takes = tt

  asks_number : (given : ℕ) → TakesNumber sid before.keeper keeper (Ok given) → 0 < given
      → Makes now entry h (record h { doing = Some (moved_to (Working 1 0 given) d) }) before numbered (AsksFor Quiet)
  asks_number given takes low =
      asks now entry h d before numbered segment 0 started id 0 given busy ready next at (omega arith) low
      (uses-keeper before keeper (AsksFor Quiet) takes.opened_at takes.counts (refl, refl, refl) (λ asks. absurd (cc asks))
      tt)
      (same-yard now h (AsksFor Quiet) before.yard)
      (λ s g count store holds is. takes_in s g store is given takes)

  refuses_number : (after : ClientValue) (fault : TxFault) (done : Made)
      → TakesNumber sid before.keeper keeper (Err fault) → EndsUnmade Quiet fault h after done
      → Makes now entry h after before numbered done
  refuses_number after fault done takes ends =
      unmade now entry h after d before keeper busy ready
      (rests-flushing before.yard.setting.block h d (ap is_some next)
      (ap (is_put_due before.yard.setting.block) none_flies)) Quiet fault done refl refl
      (not_taken sid before.keeper keeper fault takes) ends
      (λ s g count store holds is. refused_in s g store is fault takes)

-- The request for it, by the outcome of the transaction.
module _ (now entry : ℕ) (h after : ClientValue) (before : Shared) (keeper : Store) (sid started id : ℕ) (done : Made)
    (ready : IsReady h) (at : progress_of h.doing ≡ Some (Working 0 started id)) (next : IsSome (left h))
    (own : sid ≡ session_here h) where
  pub number-asked : (given : ℕ) → TakesNumber sid before.keeper keeper (Ok given) → 0 < given
      → after ≡ record h { doing = option_map (moved_to (Working 1 0 given)) h.doing } → done ≡ AsksFor Quiet
      → Makes now entry h after before (record before { keeper = keeper }) done
  number-asked given takes low after_is done_is =
      let d = in_progress h.doing (Working 0 started id) at in
      let segment = the_some (left h) next in
      makes-as now entry h after (record h { doing = Some (moved_to (Working 1 0 given) d.0) }) before
      (record before { keeper = keeper }) (record before { keeper = keeper }) done (AsksFor Quiet)
      (after_is
      ∙ ap (λ (o : Option Doing). record h { doing = option_map (moved_to (Working 1 0 given)) o }) d.1) refl done_is
      (asks_number now entry h d.0 before keeper segment.0 sid started id d.1 ready segment.1 d.2 own given takes low)

  pub number-unmade : (fault : TxFault) → TakesNumber sid before.keeper keeper (Err fault)
      → EndsUnmade Quiet fault h after done
      → Makes now entry h after before (record before { keeper = keeper }) done
  number-unmade fault takes ends =
      let d = in_progress h.doing (Working 0 started id) at in
      let segment = the_some (left h) next in
      refuses_number now entry h d.0 before keeper segment.0 sid started id d.1 ready segment.1 d.2 own after fault done
      takes ends
