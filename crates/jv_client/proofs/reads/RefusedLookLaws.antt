-- A look that reached no view: it is refused since the session or the file is gone, the keeper failed, memory ran out, or
-- a row is Bad.
use Rattle.std.proofs.Common.{◌≡◌, ℕ, ◌+◌, true, false, [], ◌∷◌, Option, Some, Err, refl, sym, ap, subst}
use Rattle.std.proofs.Common.{◌∙◌, arith}
use Rattle.std.specs.Prelude.{IsTrue, is_some, unwrap_or}
use Rattle.std.specs.Option.{option_map}
use Rattle.jv_model.specs.declared.act.ActKind.TheVariants.{Answered, Quiet}
use Rattle.jv_model.specs.declared.act.Told.TheVariants.{Refused as ToldRefused}
use Rattle.jv_model.specs.declared.fault.Busy.TheVariants.{Lists}
use Rattle.jv_model.specs.declared.fault.Device.{Device}
use Rattle.jv_model.specs.declared.fault.Device.TheVariants.{Keeper, Depot, Shelf, Carrier}
use Rattle.jv_model.specs.declared.fault.Fault.{Fault}
use Rattle.jv_model.specs.declared.fault.Fault.TheVariants.{Contended, DeviceFailed, NoMemory}
use Rattle.jv_model.specs.declared.fault.RowFault.TheVariants.{Bad, Failed, Memory}
use Rattle.jv_model.specs.declared.fault.TxFault.{TxFault}
use Rattle.jv_model.specs.declared.fault.TxFault.TheVariants.{Refused as RefusedBy, Moved, Rows as OfRows}
use Rattle.jv_model.specs.declared.op.Reply.TheVariants.{Refused}
use Rattle.jv_model.specs.declared.op.Step.TheVariants.{Done}
use Rattle.jv_model.specs.promise.client.ModelClient.{ModelClient, Doing as ModelDoing, inode_at, inode_in, session_of}
use Rattle.jv_model.specs.promise.client.Profile.{handle_of}
use Rattle.jv_model.specs.promise.journal.Reading.{asked_parts}
use Rattle.jv_model.specs.promise.tree.Tree.{Tree}
use Rattle.jv_model.specs.promise.journal.State.{State, after_told}
use Rattle.jv_model.specs.promise.journal.Steps.{window_to_look}
use Rattle.jv_model.specs.tree.FileBytes.{length_seen}
use Rattle.jv_model.specs.promise.client.OpForms.{is_read}
use Rattle.jv_outside.specs.promise.Causes.{RoseIf}
use Rattle.jv_outside.specs.promise.Store.{Store}
use Rattle.jv_volume.specs.Holding.{IsHoldable}
use Rattle.jv_cache.specs.Cached.{Cached}
use Rattle.jv_data.specs.Records.{LooksAt}
use Rattle.jv_client_shared.specs.Keeping.{KeepsShared}
use Rattle.jv_client_shared.specs.promise.Shared.{HasStore, Known, Shared}
use Rattle.jv_client_shared.proofs.SameLaws.{same-rows, same-stays}
use Rattle.jv_client_handles.specs.declared.handle.Handle.{Handle}
use Rattle.jv_client_reads.specs.declared.need.Need.TheVariants.{Look as NeedsLook}
use Rattle.jv_client_reads.specs.Calls.{IsCacheOf}
use Rattle.jv_client_reads.specs.Fetching.{Fetching}
use Rattle.jv_client_reads.proofs.SameLaws.{fetches_show}
use Rattle.jv_model_steps.proofs.LookStepLaws.{window-needed}
use Rattle.jv_client_requests.specs.Request.{Request}
use Rattle.jv_client_requests.proofs.LookLaws.{SeesNone, NoSession, NoFile, look-never_bad, look-never_moved, look-refused}
use Rattle.jv_client_requests.proofs.LookLaws.{sees_none}
use Rattle.jv_client_requests.proofs.StillLaws.{found-in}
use Rattle.jv_client.specs.declared.doing.Doing.{Doing}
use Rattle.jv_client.specs.declared.doing.Progress.TheVariants.{Reading}
use Rattle.jv_client.specs.declared.made.Made.{Made}
use Rattle.jv_client.specs.declared.made.Made.TheVariants as made
use Rattle.jv_client.specs.ClientValue.{ClientValue, session_here}
use Rattle.jv_client.specs.Ending.{refused_here}
use Rattle.jv_client.specs.Held.{Holds, IsClient, in_flight}
use Rattle.jv_client.specs.promise.Failures.{is_same_device}
use Rattle.jv_client.specs.Makes.{Makes, StepsTo, UsesDevices, faults_of}
use Rattle.jv_client.specs.Transacting.{EndsUnmade, refusal_of}
use Rattle.jv_client.specs.CacheUse.{LooksInVain, MovesInRead, fails_block, goes_well}
use Rattle.jv_client.specs.Reading.{NeedsNext, put_at}
use Rattle.jv_client.specs.UnderWay.{IsReady}
use Rattle.jv_client.proofs.held.CacheUseLaws.{cache-read, cache-refused}
use Rattle.jv_client.proofs.steps.AnswerLaws.{refused-rests, rests-flight, rests-ready, same-yard}
use Rattle.jv_client.proofs.held.EndingLaws.{holds-told}
use Rattle.jv_client.proofs.held.HeldLaws.{doing_of}
use Rattle.jv_client.proofs.held.OthersStepLaws.{cache-goes, held-goes, told-client}
use Rattle.jv_client.proofs.writes.WrittenLaws.{names-held}
use Rattle.jv_client.proofs.reads.ReaderLaws.{IsAsking, IsRead, asking, cached-known, file_by, flushed-asking, is_read_in}
use Rattle.jv_client.proofs.reads.ReaderLaws.{none_flying}
use Rattle.jv_client.proofs.reads.ReadingGoesOnLaws.{over}
use Rattle.jv_client.proofs.reads.ReadFailedLaws.{failed, held-cache}
use Rattle.jv_client.proofs.reads.LookLaws.{uses-look}
use Rattle.jv_client.proofs.steps.RefusedTransactionLaws.{calm-refusal}
use Rattle.jv_client.proofs.begun.FormLaws.{reading-mounted}
use Rattle.jv_client.proofs.held.HeldLaws.{mounted-model}

-- the keeper failed
uses-failed : (before : Shared) (keeper : Store) → keeper.rows ≡ before.keeper.rows
    → keeper.opened ≡ before.keeper.opened → RoseIf true before.keeper.faults keeper.faults
    → UsesDevices (made.Answer (ToldRefused (DeviceFailed Keeper)) (Refused (DeviceFailed Keeper))) before
    (record before { keeper = keeper })
uses-failed before keeper rows opened rose = record {
  keeper_at = opened;
  carrier_at = refl;
  depot_at = refl;
  shelf_at = refl;
  setting = refl;
  last = refl;
  counts = by_device;
  rows = λ asks. rows;
  objects = λ asks. refl;
  direct = refl;
  bad = tt;
}
  where
    by_device : (device : Device) → RoseIf (is_same_device device Keeper) (faults_of device before)
        (faults_of device (record before { keeper = keeper }))
    by_device Keeper = rose
    by_device Depot = refl
    by_device Shelf = refl
    by_device Carrier = refl

-- the operation is refused since a session or a file is gone, as the look was
seen-same : (sid inode : ℕ) (fault : Fault) (t : Tree) → SeesNone sid inode t fault → refusal_of fault ≡ fault
seen-same sid inode fault t (NoSession gone is) = subst (λ f. refusal_of f ≡ f) (sym is) refl
seen-same sid inode fault t (NoFile session none is) = subst (λ f. refusal_of f ≡ f) (sym is) refl

module _ (now entry block : ℕ) (h : ClientValue) (d : Doing) (offset len : ℕ) (cache : Cached) (fetch : Fetching)
    (window : ℕ) (asks : IsAsking block h d offset len cache fetch (NeedsLook window)) (before : Shared)
    (length_is : before.yard.setting.block ≡ block) (keeper : Store) where
  abbrev handle : ℕ
  handle = handle_of d.op

  abbrev file : Handle
  file = asks.reads.file

  abbrev used : Shared
  used = record before { keeper = keeper }

  abbrev c : ClientValue
  c = asking h cache d fetch (NeedsLook window)

  -- the cache is as it was before the look
  pub looked-before : (done : Made) (after : ClientValue) → goes_well done ≡ false → fails_block done ≡ false
      → MovesInRead h d done before.yard before.yard after (Some cache)
  looked-before done after ends fine =
      LooksInVain fetch window cache (flushed-asking asks) ends fine
      (subst (λ n. NeedsNext n h d fetch (NeedsLook window) cache) (sym length_is) asks.needs) refl

  -- memory ran out, before the look or after it
  pub look-out : (later : Cached)
      → MovesInRead h d (made.Answer (ToldRefused NoMemory) (Refused NoMemory)) before.yard before.yard
      (over h.handles later h) (Some later)
      → ((s : State) (g : Known) → HasStore s.tree g before → IsClient g before (s.clients h.id) s.count h
      → IsCacheOf g.sizes before.yard.setting.block g.blocks later)
      → keeper.rows ≡ before.keeper.rows → keeper.opened ≡ before.keeper.opened → keeper.faults ≡ before.keeper.faults
      → Makes now entry h (over h.handles later h) before used (made.Answer (ToldRefused NoMemory) (Refused NoMemory))
  look-out later moves cached rows opened faults =
      failed now entry block h d offset len cache fetch (NeedsLook window) asks before used
      (same-rows before keeper before.carrier rows) NoMemory later cached refl
      (uses-look (made.Answer (ToldRefused NoMemory) (Refused NoMemory)) before keeper (λ device. refl) rows opened faults
      tt)
      (same-yard now h (made.Answer (ToldRefused NoMemory) (Refused NoMemory)) before.yard)
      moves

  -- ---- it was refused

  module _ (fault : Fault)
      (looks : LooksAt (session_here h) file.inode window before.keeper keeper (Err (RefusedBy fault)))
      (mounted : IsTrue (is_some h.session)) (s : State) (g : Known) (has : HasStore s.tree g before) (holds : Holds s.tree (s.clients h.id))
      (client : IsClient g before (s.clients h.id) s.count h) where
    abbrev m : ModelClient
    m = s.clients h.id

    abbrev md : ModelDoing
    md = doing_of d

    here : IsRead g before m s.count d offset len file fetch
    here = is_read_in asks g before m s.count length_is client

    in_rows : LooksAt (session_of m) file.inode window before.keeper keeper (Err (RefusedBy fault))
    in_rows =
        subst (λ (o : Option ℕ). LooksAt (unwrap_or o 0) file.inode window before.keeper keeper (Err (RefusedBy fault)))
        (sym client.held.session) looks

    to_look : window_to_look m md (file_by file) ≡ Some window
    to_look =
        window-needed m md 0 offset len asks.does here.may (file_by file)
        ∙ sym (fetches_show.same_look g before m.views s.count handle (file_by file) file (asked_parts offset len)
        here.named)
        ∙ fetches_show.look g.blocks file.views (asked_parts offset len) fetch window asks.wants here.fetching

    holdable : IsHoldable s.tree file.inode
    holdable =
        let inode : inode_at m handle ≡ file.inode = ap inode_in here.in_use in
        subst (IsHoldable s.tree) inode
        (holds.opened (inode_at m handle)
        (names-held g before m s.count h handle file client.held asks.reads.opened))

    why : SeesNone (session_of m) file.inode s.tree fault
    why = sees_none (session_of m) file.inode s.tree fault
        (found-in s.tree g before has keeper (Err (RefusedBy fault)) (length_seen (session_of m) file.inode) in_rows.looks)

    stays : KeepsShared 0 g g before used
    stays = same-stays 0 g before used (same-rows before keeper before.carrier looks.looks.rows_are)

    none_flies : in_flight (refused_here fault c) ≡ 0
    none_flies = rests-flight c (refused_here fault c) (refused-rests fault c)

    refused-leads : StepsTo s g before h now (Quiet ∷ Answered (ToldRefused fault) ∷ []) (Done (Refused fault))
        (refused_here fault c) used
    refused-leads = record {
      learned = g;
      tree = s.tree;
      model = after_told d.op (ToldRefused fault) m;
      copied = s.copied;
      request = subst
          (λ n. Request s g g before used h.id now (in_flight h) n (Quiet ∷ Answered (ToldRefused fault) ∷ [])
          (Done (Refused fault)) s.tree (after_told d.op (ToldRefused fault) m) s.copied)
          (none_flying h d asks.busy asks.at asks.none ∙ sym none_flies)
          (look-refused s h.id now md here.busy offset len asks.does 0 here.may (file_by file) here.in_use
          window to_look g before has keeper (in_flight h) holdable
          (mounted-model h m client.held.session mounted) fault in_rows);
      is_client = told-client g used (s.count + 2) d.op (ToldRefused fault) m c refl
          (held-goes s.tree g before has 0 g used stays m s.count (s.count + 2) c (omega arith)
          (held-cache g before m s.count h c.cache c.doing client.held))
          (cache-goes s.tree g before has 0 g used stays (Some cache) (cached-known asks before length_is s g has client));
      holds = holds-told d.op (ToldRefused fault) s.tree m refl holds;
    }

    refused-so : StepsTo s g before h now (Quiet ∷ Answered (ToldRefused (refusal_of fault)) ∷ [])
        (Done (Refused (refusal_of fault))) (refused_here (refusal_of fault) c) used
    refused-so = subst (λ f. StepsTo s g before h now (Quiet ∷ Answered (ToldRefused f) ∷ []) (Done (Refused f))
        (refused_here f c) used) (sym (seen-same (session_of m) file.inode fault s.tree why)) refused-leads

  -- ---- all ways that it ends

  pub look-unmade : (fault : TxFault) (after : ClientValue) (done : Made) → IsReady c
      → LooksAt (session_here h) file.inode window before.keeper keeper (Err fault)
      → EndsUnmade Quiet fault c after done → Makes now entry h after before used done
  look-unmade (RefusedBy fault) after done ready looks ends =
      let why = refusal_of fault in
      let rests = refused-rests why c in
      let mounted = reading-mounted c (put_at (Reading fetch (NeedsLook window)) d) offset len asks.does ready.doing.form in
      subst (λ x. Makes now entry h after before used x) (sym ends.made_is)
      (subst (λ x. Makes now entry h x before used (made.Both Quiet (ToldRefused why) (Refused why)))
      (sym ends.after_is)
      (record {
        id = rests.id;
        limits = rests.limits;
        ready = rests-ready c (refused_here why c) rests ready;
        devices = uses-look (made.Both Quiet (ToldRefused why) (Refused why)) before keeper (λ device. refl)
            looks.looks.rows_are looks.looks.opened_at looks.looks.counts tt;
        yard = same-yard now h (made.Both Quiet (ToldRefused why) (Refused why)) before.yard;
        cache = cache-refused h d asks.busy (refused_here why c) (made.Both Quiet (ToldRefused why) (Refused why))
            before.yard before.yard (ap is_read asks.reads.op_is) c why refl refl refl
            (looked-before (made.Both Quiet (ToldRefused why) (Refused why)) (refused_here why c) refl refl) refl tt;
        alone = (refl, calm-refusal fault);
        falls = rests.idle;
        leads = λ s g number has holds client. refused-so fault looks mounted s g has holds client;
      }))
  look-unmade (Moved list) after done ready looks ends =
      let fault : Fault = Contended (Lists ends.0 ends.0) in
      subst (λ x. Makes now entry h after before used x) (sym ends.1.made_is)
      (subst (λ x. Makes now entry h x before used (made.Both Quiet (ToldRefused fault) (Refused fault)))
      (sym ends.1.after_is)
      (record {
        id = refl;
        limits = refl;
        ready = record { buffer = asks.buffer; doing = tt };
        devices = uses-look (made.Both Quiet (ToldRefused fault) (Refused fault)) before keeper (λ device. refl)
            looks.looks.rows_are looks.looks.opened_at looks.looks.counts tt;
        yard = same-yard now h (made.Both Quiet (ToldRefused fault) (Refused fault)) before.yard;
        cache = cache-read h d asks.busy (refused_here fault c) (made.Both Quiet (ToldRefused fault) (Refused fault))
            before.yard before.yard (ap is_read asks.reads.op_is) (flushed-asking asks) refl
            (looked-before (made.Both Quiet (ToldRefused fault) (Refused fault)) (refused_here fault c) refl refl) tt;
        alone = (refl, λ device. refl);
        falls = refl;
        leads = λ s g number has holds client.
            absurd (look-never_moved s.tree g before has (session_here h) file.inode window keeper list looks);
      }))
  look-unmade (OfRows (Bad at bytes)) after done ready looks ends =
      subst (λ x. Makes now entry h after before used x) (sym ends.1)
      (subst (λ x. Makes now entry h x before used (made.Broken at bytes)) (sym ends.0)
      (record {
        id = refl;
        limits = refl;
        ready = ready;
        devices = uses-look (made.Broken at bytes) before keeper (λ device. refl) looks.looks.rows_are
            looks.looks.opened_at looks.looks.counts looks.looks.bad;
        yard = same-yard now h (made.Broken at bytes) before.yard;
        cache = cache-read h d asks.busy c (made.Broken at bytes) before.yard before.yard (ap is_read asks.reads.op_is)
            (flushed-asking asks) refl (looked-before (made.Broken at bytes) c refl refl) tt;
        alone = tt;
        falls = record {
          progress = Reading fetch (NeedsLook window);
          after_is = ap (λ (o : Option Doing). record h {
            cache = Some cache;
            doing = option_map (put_at (Reading fetch (NeedsLook window))) o;
          }) (sym asks.busy);
        };
        leads = λ s g number has holds client.
            absurd (look-never_bad s.tree g before has (session_here h) file.inode window keeper at bytes looks);
      }))
  look-unmade (OfRows Failed) after done ready looks ends =
      subst (λ x. Makes now entry h after before used x) (sym ends.made_is)
      (subst (λ x. Makes now entry h x before used
      (made.Answer (ToldRefused (DeviceFailed Keeper)) (Refused (DeviceFailed Keeper)))) (sym ends.after_is)
      (failed now entry block h d offset len cache fetch (NeedsLook window) asks before used
      (same-rows before keeper before.carrier looks.looks.rows_are) (DeviceFailed Keeper) cache (cached-known asks before length_is) refl
      (uses-failed before keeper looks.looks.rows_are looks.looks.opened_at looks.looks.counts)
      (same-yard now h (made.Answer (ToldRefused (DeviceFailed Keeper)) (Refused (DeviceFailed Keeper))) before.yard)
      (looked-before (made.Answer (ToldRefused (DeviceFailed Keeper)) (Refused (DeviceFailed Keeper)))
      (over h.handles cache h) refl refl)))
  look-unmade (OfRows Memory) after done ready looks ends =
      subst (λ x. Makes now entry h after before used x) (sym ends.made_is)
      (subst (λ x. Makes now entry h x before used (made.Answer (ToldRefused NoMemory) (Refused NoMemory)))
      (sym ends.after_is)
      (look-out cache (looked-before (made.Answer (ToldRefused NoMemory) (Refused NoMemory)) (over h.handles cache h) refl
      refl) (cached-known asks before length_is)
      looks.looks.rows_are looks.looks.opened_at looks.looks.counts))
