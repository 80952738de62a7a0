-- The request of a flush for one block of its segment's slice: the block is put, and the slice goes on being in flight; or the
-- carrier or the depot fails, and the operation ends.
use Rattle.std.proofs.Common.{◌≡◌, ℕ, suc, ◌+◌, ◌-◌, ◌^◌, ◌≤◌, ◌<◌, ◌==◌, List, [], ◌∷◌, ◌++◌, length, Option}
use Rattle.std.proofs.Common.{false, Some, Result, Ok, Err, refl, sym, ap, subst, ◌∙◌, arith}
use Rattle.std.specs.Prelude.{IfSome, if◌then◌else◌, is_some}
use Rattle.std.specs.Option.{option_map}
use Rattle.std.proofs.lemmas.Bool.{lt-ltb}
use Rattle.std.proofs.lemmas.Nat.{mul-le}
use Rattle.jv_model.specs.declared.limits.TheConstants.{WINDOW}
use Rattle.jv_model.specs.declared.act.ActKind.TheVariants.{Quiet}
use Rattle.jv_model.specs.declared.act.Told.TheVariants.{Refused as ToldRefused}
use Rattle.jv_model.specs.declared.fault.Device.{Device}
use Rattle.jv_model.specs.declared.fault.Device.TheVariants as device
use Rattle.jv_model.specs.declared.op.Reply.TheVariants.{Refused as RefusedReply}
use Rattle.jv_model.specs.declared.op.Step.TheVariants.{More}
use Rattle.jv_model.specs.promise.blocks.BlockNames.{IsBlock}
use Rattle.jv_model.specs.promise.blocks.Slices.{block_count}
use Rattle.jv_model.specs.promise.client.Pending.{Segment}
use Rattle.jv_model.specs.promise.client.Submission.{next_segment}
use Rattle.jv_model.specs.promise.client.ModelClient.{Working as InModel}
use Rattle.jv_model.specs.promise.journal.State.{State}
use Rattle.jv_outside.specs.promise.Carriage.{Carriage}
use Rattle.jv_outside.specs.promise.Causes.{RoseIf}
use Rattle.jv_slices.proofs.BlockLaws.{block_begins}
use Rattle.jv_volume_bytes.specs.Flights.{Flight, flight_block, flight_bytes}
use Rattle.jv_yard.specs.declared.note.What.TheVariants.{Put}
use Rattle.jv_yard.specs.BlockCalls.{note_of}
use Rattle.jv_yard.specs.promise.YardValue.{YardValue}
use Rattle.jv_client_shared.specs.Direct.{HasPut}
use Rattle.jv_client_shared.specs.Flying.{Flies}
use Rattle.jv_client_shared.specs.Lengths.{IsLength}
use Rattle.jv_client_shared.proofs.FlyingLaws.{slice_block-is}
use Rattle.jv_client_shared.specs.promise.Shared.{HasStore, Known, Shared, depot_in}
use Rattle.jv_client_shared.specs.Shared.{with_block}
use Rattle.jv_model_steps.specs.IsStep.{at_stage}
use Rattle.jv_client_puts.specs.declared.putting.PutFault.{PutFault}
use Rattle.jv_client_puts.specs.declared.putting.PutFault.TheVariants.{Carrier, Depot, Memory}
use Rattle.jv_client_puts.specs.Putting.{PutsFlight, fault_of}
use Rattle.jv_client_puts.proofs.PutStepLaws.{put-step_flies, put-step_has, unput-same}
use Rattle.jv_client_puts.proofs.UsedLaws.{PutUses, put-uses, put_fails}
use Rattle.jv_client_requests.specs.Request.{Request}
use Rattle.jv_client_requests.proofs.PutLaws.{put-fails, put-request}
use Rattle.jv_client.specs.declared.doing.Doing.{Doing}
use Rattle.jv_client.specs.declared.doing.Progress.TheVariants.{Working}
use Rattle.jv_client.specs.declared.made.Made.{Made}
use Rattle.jv_client.specs.declared.made.Made.TheVariants.{Answer, Request as AsksFor}
use Rattle.jv_client.specs.ClientValue.{ClientValue}
use Rattle.jv_client.specs.Flushing.{bytes_of}
use Rattle.jv_client.specs.Held.{IsClient, IsOnWay, flight_of, flush_of_code, number_of, stage_of}
use Rattle.jv_client.specs.UnderWay.{IsAt, IsReady, left, moved_to, progress_of}
use Rattle.jv_client.specs.Failures.{says_failure}
use Rattle.jv_client.specs.Makes.{Makes, UsesDevices, faults_of}
use Rattle.jv_client.specs.Transacting.{Fails}
use Rattle.jv_client.specs.YardUse.{PutsNext, PutsNone, YardUse}
use Rattle.jv_client.proofs.held.HeldLaws.{client-doing, doing_of}
use Rattle.jv_client.proofs.steps.RequestMadeLaws.{in_progress}
use Rattle.jv_client.proofs.begun.FormLaws.{under_way}
use Rattle.jv_client.proofs.begun.ToCommitLaws.{flight-flying, flight-is, left-is}
use Rattle.jv_client.proofs.steps.AnswerLaws.{fails-makes, makes-as}
use Rattle.jv_client.specs.CacheUse.{InFlight, is_put_due}
use Rattle.jv_client.proofs.held.CacheUseLaws.{Flushing}
use Rattle.jv_client.proofs.flushes.FlushLaws.{Asked, asks}

-- ---- what is done to devices

-- the answer where a block wasn't put
abbrev pub not_put : PutFault → Made
not_put fault = Answer (ToldRefused (fault_of fault)) (RefusedReply (fault_of fault))

told-carrier : (d : Device) → says_failure d (not_put Carrier) ≡ put_fails d (Err Carrier)
told-carrier device.Keeper = refl
told-carrier device.Depot = refl
told-carrier device.Shelf = refl
told-carrier device.Carrier = refl

told-depot : (d : Device) → says_failure d (not_put Depot) ≡ put_fails d (Err Depot)
told-depot device.Keeper = refl
told-depot device.Depot = refl
told-depot device.Shelf = refl
told-depot device.Carrier = refl

told-memory : (d : Device) → says_failure d (not_put Memory) ≡ put_fails d (Err Memory)
told-memory device.Keeper = refl
told-memory device.Depot = refl
told-memory device.Shelf = refl
told-memory device.Carrier = refl

-- the device that failed is answered
told-unput : (fault : PutFault) (d : Device) → says_failure d (not_put fault) ≡ put_fails d (Err fault)
told-unput Carrier = told-carrier
told-unput Depot = told-depot
told-unput Memory = told-memory

-- and that isn't the keeper
put-spares_rows : (fault : PutFault) → says_failure device.Keeper (not_put fault) ≡ false
put-spares_rows Carrier = refl
put-spares_rows Depot = refl
put-spares_rows Memory = refl

told-put : (d : Device) → says_failure d (AsksFor Quiet) ≡ put_fails d (Ok tt)
told-put device.Keeper = refl
told-put device.Depot = refl
told-put device.Shelf = refl
told-put device.Carrier = refl

module _ (before : Shared) (yard : YardValue) (carrier : Carriage) (result : Result (Unit {0}) PutFault)
    (uses : PutUses before.yard yard before.carrier carrier result) (done : Made)
    (told : (d : Device) → says_failure d done ≡ put_fails d result) where
  abbrev used : Shared
  used = record before { yard = yard; carrier = carrier }

  -- each device counts a fault where the put failed because of it
  put-counts : (d : Device) → RoseIf (says_failure d done) (faults_of d before) (faults_of d used)
  put-counts device.Keeper =
      subst (λ b. RoseIf b before.keeper.faults before.keeper.faults) (sym (told device.Keeper)) refl
  put-counts device.Depot =
      subst (λ b. RoseIf b before.yard.depot.faults yard.depot.faults) (sym (told device.Depot)) uses.depot
  put-counts device.Shelf =
      subst (λ b. RoseIf b before.yard.shelf.faults yard.shelf.faults) (sym (told device.Shelf))
      (ap (λ shelf. shelf.faults) uses.shelf)
  put-counts device.Carrier =
      subst (λ b. RoseIf b before.carrier.faults carrier.faults) (sym (told device.Carrier)) uses.carrier

-- a block that wasn't put is in neither log nor depot
unput-yard : (now : ℕ) (h : ClientValue) (done : Made) (client : ℕ) (f : Flight) (before after : YardValue)
    (was is : Carriage) (fault : PutFault) → PutsFlight client now f before after was is (Err fault)
    → YardUse now h done before after
unput-yard now h done client f before after was is Carrier puts = record {
  staged = ap (λ (y : YardValue). y.staged) puts.0;
  puts = PutsNone (ap (λ (y : YardValue). y.log) puts.0) (ap (λ (y : YardValue). y.depot.content) puts.0);
}
unput-yard now h done client f before after was is Depot puts = record {
  staged = ap (λ (y : YardValue). y.staged) puts.0.1;
  puts = PutsNone (ap (λ (y : YardValue). y.log) puts.0.1) puts.0.0.content_is;
}
unput-yard now h done client f before after was is Memory puts = record {
  staged = ap (λ (y : YardValue). y.staged) puts.0;
  puts = PutsNone (ap (λ (y : YardValue). y.log) puts.0) (ap (λ (y : YardValue). y.depot.content) puts.0);
}

-- ---- the request

-- a slice of which a request was made has its number
numbered : (h : ClientValue) (d : Doing) (quiets started id : ℕ) → h.doing ≡ Some d → IsReady h
    → d.progress ≡ Working quiets started id → 0 < quiets → 0 < id
numbered h d quiets started id busy ready at asked =
    (subst (IsAt h d) at (under_way h d busy ready).at).numbered asked

pub put-numbered : (h : ClientValue) (quiets started id : ℕ) → IsReady h
    → progress_of h.doing ≡ Some (Working quiets started id) → 0 < quiets → 0 < id
put-numbered h quiets started id ready at asked =
    let d = in_progress h.doing (Working quiets started id) at in
    numbered h d.0 quiets started id d.1 ready d.2 asked

module _ (now entry : ℕ) (h : ClientValue) (d : Doing) (before : Shared) (yard : YardValue) (carrier : Carriage)
    (segment : Segment) (quiets put started id : ℕ) (busy : h.doing ≡ Some d) (ready : IsReady h)
    (next : left h ≡ Some segment) (at : d.progress ≡ Working quiets started id) (some : quiets ≡ suc put) where
  abbrev bytes : List ℕ
  bytes = bytes_of segment h.pending

  abbrev flight : Flight
  flight = record { id = id; bytes = bytes; put = put }

  abbrev then_shared : Shared
  then_shared = record before { yard = yard; carrier = carrier }

  abbrev first_moment : ℕ
  first_moment = if quiets == 1 then now else started

  flying : flight_of h ≡ Some flight
  flying =
      flight-is h d busy (Working quiets started id) at
      ∙ flight-flying h.pending d.flush quiets put started id segment some (left-is h d busy (Some segment) next)

  id_some : 0 < id
  id_some = numbered h d quiets started id busy ready at (omega (arith, some))

  -- it lacks a block
  lacks_one : length bytes ≡ segment.len → quiets ≤ block_count segment.len before.yard.setting.block
      → put < block_count (length bytes) before.yard.setting.block
  lacks_one long there =
      subst (λ n. put < block_count n before.yard.setting.block) (sym long) (omega (arith, there, some))

  module _ (long : length bytes ≡ segment.len) (short : segment.len ≤ WINDOW) (low : id < 2 ^ 64)
      (block : IsLength before.yard.setting.block) (there : quiets ≤ block_count segment.len before.yard.setting.block)
      (puts : PutsFlight h.id now flight before.yard yard before.carrier carrier (Ok tt)) where
    abbrev uses : PutUses before.yard yard before.carrier carrier (Ok tt)
    uses = put-uses h.id now flight before.yard yard before.carrier carrier (Ok tt) puts

    uses_devices : UsesDevices (AsksFor Quiet) before then_shared
    uses_devices = record {
      keeper_at = refl;
      carrier_at = uses.carrier_at;
      depot_at = uses.depot_at;
      shelf_at = ap (λ shelf. shelf.opened) uses.shelf;
      setting = uses.setting;
      last = uses.last;
      counts = put-counts before yard carrier (Ok tt) uses (AsksFor Quiet) told-put;
      rows = λ asks. refl;
      objects = λ asks. absurd (cc asks);
      direct = ap (λ shelf. shelf.content) uses.shelf;
      bad = tt;
    }

    more : put < block_count (length bytes) before.yard.setting.block
    more = lacks_one long there

    small : length bytes ≤ WINDOW
    small = omega (arith, long, short)

    is_block : IsBlock before.yard.setting.block (flight_block before.yard.setting.block flight put)
    is_block = slice_block-is before.yard.setting.block id (length bytes) put block id_some low small more

    -- the yard notes the block, since its name is one of the volume's blocks
    noted : yard.log
        ≡ before.yard.log ++ note_of h.id Put (flight_block before.yard.setting.block flight put) ∷ []
    noted = puts.0.put.noted (flight_block before.yard.setting.block flight put) (record {
      is_block = is_block;
      spelled = puts.0.stands.named;
    })

    -- the block is that of the flight, with this moment
    puts_next : YardUse now h (AsksFor Quiet) before.yard yard
    puts_next = record { staged = uses.staged; puts = PutsNext flight flying refl is_block puts.0 noted }

    -- a slice has no more blocks than bytes
    few : quiets ≤ segment.len
    few =
        let least = block.least in
        let begins =
        block_begins segment.len before.yard.setting.block put (omega (arith, least)) (omega (arith, there, some)) in
        let rises = mul-le put 1 put before.yard.setting.block (omega arith) (omega (arith, least)) in
        omega (arith, begins, rises, some)

    put_in : (s : State) (g : Known) → HasStore s.tree g before → IsClient g before (s.clients h.id) s.count h
        → Asked now h d before then_shared bytes quiets first_moment id s g
    put_in s g store is =
        let f : Flies g before flight = (subst (IsOnWay g before) flying is.flight).0 in
        let learned = with_block (flight_block before.yard.setting.block flight put)
        (flight_bytes before.yard.setting.block flight put) g in
        let next_is : next_segment (flush_of_code d.flush) (s.clients h.id).pending ≡ Some segment =
        ap (next_segment (flush_of_code d.flush)) is.held.pending ∙ left-is h d busy (Some segment) next in
        let count : put + 1 ≡ quiets = omega (arith, some) in
        record {
          learned = learned;
          request = subst (λ (n : ℕ). Request s g learned before then_shared h.id now n id (Quiet ∷ []) More s.tree
              (at_stage (InModel (quiets + 1) first_moment) (doing_of d) (s.clients h.id)) s.copied)
              (sym (ap number_of flying))
              (put-request s g before store h.id now (doing_of d)
              (client-doing g before (s.clients h.id) s.count h d busy is) quiets started (ap stage_of at) flight yard
              carrier segment next_is (omega (arith, some)) f small more puts);
          flies = subst (λ n. Flies learned then_shared (record { id = id; bytes = bytes; put = n })) count
              (put-step_flies before flight h.id now yard carrier s.tree g store f small more puts);
          put = (let most : quiets ≤ block_count (length bytes) before.yard.setting.block = omega (arith, more, some) in
              subst (λ x. quiets ≤ block_count (length bytes) x) (sym (ap (λ setting. setting.block) uses.setting)) most);
          there = subst (λ n. HasPut yard.setting.block (depot_in then_shared) (record { id = id; bytes = bytes; put = n })) count
              (put-step_has before flight h.id now yard carrier s.tree g store f small more puts
              (subst (λ (o : Option Flight). IfSome o (HasPut before.yard.setting.block (depot_in before))) flying is.put));
        }

    -- The block was put, and the operation goes on.
    puts_block : Makes now entry h
        (record h { doing = Some (moved_to (Working (quiets + 1) (if quiets == 1 then now else started) id) d) }) before
        (record before { yard = yard; carrier = carrier }) (AsksFor Quiet)
    puts_block =
        asks now entry h d before then_shared segment quiets started id first_moment id busy ready next at few id_some
        uses_devices puts_next (λ s g count store holds is. put_in s g store is)

  -- It wasn't, and the operation ends.
  fails_block : length bytes ≡ segment.len → quiets ≤ block_count segment.len before.yard.setting.block
      → (after : ClientValue) (done : Made) (fault : PutFault)
      → PutsFlight h.id now flight before.yard yard before.carrier carrier (Err fault) → Fails (fault_of fault) h after done
      → Makes now entry h after before (record before { yard = yard; carrier = carrier }) done
  fails_block long there after done fault puts ends =
      let due = ap (is_put_due before.yard.setting.block) flying
      ∙ lt-ltb put (block_count (length bytes) before.yard.setting.block) (lacks_one long there) in
      let uses = put-uses h.id now flight before.yard yard before.carrier carrier (Err fault) puts in
      let same = unput-same before flight h.id now yard carrier fault puts in
      fails-makes now entry h d before then_shared (fault_of fault) after done busy ready
      (Flushing (ap is_some next) (λ fails. InFlight due refl)
      (λ fails. absurd (cc (sym (put-spares_rows fault) ∙ fails))))
      (put-fails fault) ends same
      (subst (λ (x : Made). UsesDevices x before then_shared) (sym ends.made_is) (record {
        keeper_at = refl;
        carrier_at = uses.carrier_at;
        depot_at = uses.depot_at;
        shelf_at = ap (λ shelf. shelf.opened) uses.shelf;
        setting = uses.setting;
        last = uses.last;
        counts = put-counts before yard carrier (Err fault) uses (not_put fault) (told-unput fault);
        rows = λ asks. refl;
        objects = λ asks. same.objects;
        direct = ap (λ shelf. shelf.content) uses.shelf;
        bad = tt;
      }))
      (unput-yard now h done h.id flight before.yard yard before.carrier carrier fault puts)

-- The same, as the code has it.
module _ (now entry : ℕ) (h after : ClientValue) (before : Shared) (yard : YardValue) (carrier : Carriage)
    (segment : Segment) (quiets started id : ℕ) (done : Made) (ready : IsReady h)
    (at : progress_of h.doing ≡ Some (Working quiets started id)) (asked : 0 < quiets)
    (next : left h ≡ Some segment) where
  one_less : quiets ≡ suc (quiets - 1)
  one_less = omega (arith, asked)

  module _ (client : ℕ) (own : client ≡ h.id) (bytes : List ℕ) (bytes_are : bytes ≡ bytes_of segment h.pending) where
    abbrev put_flight : Flight
    put_flight = record { id = id; bytes = bytes; put = quiets - 1 }

    puts_same : (result : Result (Unit {0}) PutFault)
        → PutsFlight client now put_flight before.yard yard before.carrier carrier result
        → PutsFlight h.id now (record { id = id; bytes = bytes_of segment h.pending; put = quiets - 1 }) before.yard yard
        before.carrier carrier result
    puts_same result puts =
        subst (λ (bytes : List ℕ). PutsFlight h.id now (record { id = id; bytes = bytes; put = quiets - 1 }) before.yard
        yard before.carrier carrier result) bytes_are
        (subst (λ (client : ℕ). PutsFlight client now put_flight before.yard yard before.carrier carrier result) own puts)

    pub block-put : length bytes ≡ segment.len → segment.len ≤ WINDOW → id < 2 ^ 64
        → IsLength before.yard.setting.block → quiets ≤ block_count segment.len before.yard.setting.block
        → PutsFlight client now (record { id = id; bytes = bytes; put = quiets - 1 }) before.yard yard before.carrier
        carrier (Ok tt)
        → (moment : ℕ) → moment ≡ (if quiets == 1 then now else started)
        → after ≡ record h { doing = option_map (moved_to (Working (quiets + 1) moment id)) h.doing }
        → done ≡ AsksFor Quiet
        → Makes now entry h after before (record before { yard = yard; carrier = carrier }) done
    block-put long short low block there puts moment moment_is after_is done_is =
        let d = in_progress h.doing (Working quiets started id) at in
        let first : ℕ = if quiets == 1 then now else started in
        let moved : ℕ → Option Doing → ClientValue =
        λ moment o. record h { doing = option_map (moved_to (Working (quiets + 1) moment id)) o } in
        makes-as now entry h after (moved first (Some d.0)) before (record before { yard = yard; carrier = carrier })
        (record before { yard = yard; carrier = carrier }) done (AsksFor Quiet)
        (after_is ∙ ap (λ moment. moved moment h.doing) moment_is ∙ ap (moved first) d.1)
        refl done_is
        (puts_block now entry h d.0 before yard carrier segment quiets (quiets - 1) started id d.1 ready next d.2 one_less
        (ap length (sym bytes_are) ∙ long) short low block there (puts_same (Ok tt) puts))

    pub block-unput : length bytes ≡ segment.len → quiets ≤ block_count segment.len before.yard.setting.block
        → (fault : PutFault)
        → PutsFlight client now (record { id = id; bytes = bytes; put = quiets - 1 }) before.yard yard before.carrier
        carrier (Err fault)
        → Fails (fault_of fault) h after done
        → Makes now entry h after before (record before { yard = yard; carrier = carrier }) done
    block-unput long there fault puts ends =
        let d = in_progress h.doing (Working quiets started id) at in
        fails_block now entry h d.0 before yard carrier segment quiets (quiets - 1) started id d.1 ready next d.2
        one_less (ap length (sym bytes_are) ∙ long) there after done fault (puts_same (Err fault) puts) ends
