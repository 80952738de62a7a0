-- A reading gets a block: it goes on with its bytes, it is answered, or the block didn't come.
use Rattle.std.proofs.Common.{◌≡◌, ◌≢◌, ℕ, ◌+◌, ◌≤◌, false, true, List, [], ◌∷◌, length, Option, None, Some, Ok, Err, refl}
use Rattle.std.proofs.Common.{sym, ap}
use Rattle.std.proofs.Common.{subst, ◌∙◌, arith}
use Rattle.jv_model.specs.declared.limits.TheConstants.{LAST_CLIENT}
use Rattle.jv_model.specs.declared.act.ActKind.TheVariants.{Answered, Quiet}
use Rattle.jv_model.specs.declared.act.Told.TheVariants.{Refused as ToldRefused}
use Rattle.jv_model.specs.declared.fault.Device.{Device}
use Rattle.jv_model.specs.declared.fault.Device.TheVariants.{Keeper as TheKeeper, Depot as TheDepot}
use Rattle.jv_model.specs.declared.fault.Device.TheVariants.{Shelf as TheShelf, Carrier as TheCarrier}
use Rattle.jv_model.specs.declared.fault.Fault.{Fault}
use Rattle.jv_model.specs.declared.fault.Fault.TheVariants.{NoMemory, TryAgain}
use Rattle.jv_model.specs.declared.op.Reply.TheVariants.{Data, Refused as RefusedReply}
use Rattle.jv_model.specs.declared.op.Step.TheVariants.{More, Done}
use Rattle.jv_model.specs.declared.setting.Setting.{Setting}
use Rattle.jv_model.specs.declared.slice.BlockId.{BlockId}
use Rattle.jv_model.specs.promise.blocks.Slices.{block_at}
use Rattle.jv_model.specs.promise.client.ModelClient.{ModelClient, OpenFile, Doing as ModelDoing, Reading as ModelReading}
use Rattle.jv_model.specs.promise.client.Profile.{handle_of}
use Rattle.jv_model.specs.promise.journal.Reading.{Asked, asked_parts, fresh_view}
use Rattle.jv_model.specs.promise.journal.State.{State, after_told, sees_first}
use Rattle.jv_model.specs.promise.journal.Steps.{file_in_use}
use Rattle.jv_model.specs.promise.blocks.BlockNames.{name_in}
use Rattle.jv_model.specs.promise.client.OpForms.{is_read}
use Rattle.jv_model.specs.client.OpForms.{is_umount}
use Rattle.jv_outside.specs.promise.Causes.{RoseIf}
use Rattle.jv_cache.specs.Cached.{Cached}
use Rattle.jv_volume_bytes.specs.promise.Blocks.{Blocks, known_by}
use Rattle.jv_yard.specs.declared.faults.YardFault.{YardFault}
use Rattle.jv_yard.specs.declared.faults.YardFault.TheVariants.{Depot, Shelf, Memory}
use Rattle.jv_yard.specs.BlockCalls.{GetsBlock}
use Rattle.jv_yard.specs.Refusals.{Refuses}
use Rattle.jv_yard.specs.promise.YardValue.{YardValue}
use Rattle.jv_client_shared.specs.Direct.{HasNamed}
use Rattle.jv_client_shared.specs.Keeping.{KeepsShared}
use Rattle.jv_client_shared.specs.promise.Shared.{HasStore, Known, Shared, depot_in}
use Rattle.jv_client_shared.proofs.SameLaws.{same-gets, same-stays}
use Rattle.jv_client_handles.specs.declared.handle.Handle.{Handle}
use Rattle.jv_client_handles.specs.Held.{IsHandle, IsSeen, SamePlace}
use Rattle.jv_client_handles.specs.Views.{view_at}
use Rattle.jv_client_handles.proofs.TableLaws.{some-same, there_in}
use Rattle.jv_client_handles.proofs.HandleLaws.{handle-stays}
use Rattle.jv_slices_reading.specs.Parts.{IsNamed}
use Rattle.jv_client_reads.specs.declared.need.Need.{Need}
use Rattle.jv_client_reads.specs.declared.need.Need.TheVariants.{Block as NeedsBlock, Nothing}
use Rattle.jv_client_reads.specs.Ahead.{blocks_ahead}
use Rattle.jv_client_reads.specs.Calls.{Asks, HasCached, IsCacheOf, Keeps, Wants, first_seen}
use Rattle.jv_client_reads.specs.Fetching.{Fetching}
use Rattle.jv_client_reads.specs.Going.{IsFetching}
use Rattle.jv_client_reads.specs.Laws.{IsOfView}
use Rattle.jv_client_reads.specs.Shows.{IsReadBy}
use Rattle.jv_client_reads.proofs.CacheLaws.{LooksUp, cache_of-keeps, cache_of-looks}
use Rattle.jv_client_reads.proofs.SameLaws.{fetches_show}
use Rattle.jv_model_steps.specs.IsStep.{at_stage}
use Rattle.jv_model_steps.proofs.LookStepLaws.{sees_first-is}
use Rattle.jv_client_requests.specs.Request.{Request}
use Rattle.jv_client_requests.proofs.GetLaws.{GotBlock, MayGet, get-answered, get-request, got-block, fails-yard}
use Rattle.jv_client.specs.declared.doing.Doing.{Doing}
use Rattle.jv_client.specs.declared.made.Made.{Made}
use Rattle.jv_client.specs.declared.made.Made.TheVariants as made
use Rattle.jv_client.specs.declared.reading.Ahead.{Ahead}
use Rattle.jv_client.specs.declared.reading.Ahead.TheVariants.{Needs, Read}
use Rattle.jv_client.specs.declared.reading.Found.{Found}
use Rattle.jv_client.specs.ClientValue.{ClientValue}
use Rattle.jv_yard.specs.Refusals.{yard_fault}
use Rattle.jv_client.specs.Getting.{Fills, IsMissed, IsUnread, NotThere, Unread, missed}
use Rattle.jv_client.specs.Held.{Holds, IsClient, IsHeld, in_flight}
use Rattle.jv_client.specs.Failures.{says_failure}
use Rattle.jv_client.specs.Makes.{Makes, StepsTo, SaysBad, UsesDevices, faults_of, step_of}
use Rattle.jv_client.specs.CacheUse.{GotNone, HasAhead, KeepsOne, MovesInRead, WantsBlock, goes_well, is_quiet, may_have_made}
use Rattle.jv_client.specs.CacheUse.{need_then}
use Rattle.jv_client.specs.Reading.{GoesAhead, LooksOn, NeedsNext, read_of, told_read, views_here, views_of}
use Rattle.jv_client.specs.UnderWay.{LacksNeed}
use Rattle.jv_client.proofs.held.CacheUseLaws.{cache-read}
use Rattle.jv_client.specs.YardUse.{PutsNone, YardUse}
use Rattle.jv_client.proofs.steps.AnswerLaws.{same-yard, uses-none}
use Rattle.jv_client.proofs.held.EndingLaws.{holds-told}
use Rattle.jv_client.proofs.held.DirectLaws.{has-open, has-view}
use Rattle.jv_client.proofs.held.HeldLaws.{doing_of}
use Rattle.jv_client.proofs.held.OthersStepLaws.{cache-goes, held-goes}
use Rattle.jv_client.proofs.reads.LookedUpLaws.{looks-on}
use Rattle.jv_client.proofs.reads.ReadingLaws.{lacks-later}
use Rattle.jv_client.proofs.reads.ReaderLaws.{IsAsking, IsRead, cached-known, file_by, flushed-asking, is_read_in, may_get}
use Rattle.jv_client.proofs.reads.ReaderLaws.{none_flying}
use Rattle.jv_client.proofs.reads.ReadingGoesOnLaws.{client-on, client-over, falls-on, going_on, none-kept, over, reading-is}
use Rattle.jv_client.proofs.reads.ReadingGoesOnLaws.{ready-on}
use Rattle.jv_client.proofs.reads.ReadFailedLaws.{failed}

-- ---- devices

-- a block was read, and nothing else was asked
uses-got : (done : Made) (before : Shared) (yard : YardValue) → ((device : Device) → says_failure device done ≡ false)
    → yard ≡ before.yard → SaysBad before (step_of done) → UsesDevices done before (record before { yard = yard })
uses-got done before yard fine same bad =
    subst (λ (yard : YardValue). UsesDevices done before (record before { yard = yard })) (sym same)
    (uses-none done before fine bad)

yard-got : (now : ℕ) (h : ClientValue) (done : Made) (before after : YardValue) → after ≡ before
    → YardUse now h done before after
yard-got now h done before after same =
    subst (λ (yard : YardValue). YardUse now h done before yard) (sym same) (same-yard now h done before)

-- the answer that a device of the yard failed, or that memory ran out
abbrev unread_as : YardFault → Made
unread_as why = made.Answer (ToldRefused (yard_fault why)) (RefusedReply (yard_fault why))

-- it did
uses-unread : (why : YardFault) (before : Shared) (yard : YardValue) → Refuses before.yard yard why
    → UsesDevices (unread_as why) before (record before { yard = yard })
uses-unread Depot before yard refused =
    let same = refused.1 in
    record {
      keeper_at = refl;
      carrier_at = refl;
      depot_at = refused.0.opened_at;
      shelf_at = ap (λ (y : YardValue). y.shelf.opened) same;
      setting = ap (λ (y : YardValue). y.setting) same;
      last = ap (λ (y : YardValue). y.last) same;
      counts = by_device;
      rows = λ asks. refl;
      objects = λ asks. refused.0.content_is;
      direct = ap (λ (y : YardValue). y.shelf.content) same;
      bad = tt;
    }
  where
    by_device : (device : Device) → RoseIf (says_failure device (unread_as Depot)) (faults_of device before)
        (faults_of device (record before { yard = yard }))
    by_device TheKeeper = refl
    by_device TheDepot = refused.0.cause
    by_device TheShelf = ap (λ (y : YardValue). y.shelf.faults) refused.1
    by_device TheCarrier = refl
uses-unread Shelf before yard refused =
    let same = refused.1 in
    record {
      keeper_at = refl;
      carrier_at = refl;
      depot_at = ap (λ (y : YardValue). y.depot.opened) same;
      shelf_at = refused.0.opened_at;
      setting = ap (λ (y : YardValue). y.setting) same;
      last = ap (λ (y : YardValue). y.last) same;
      counts = by_device;
      rows = λ asks. refl;
      objects = λ asks. ap (λ (y : YardValue). y.depot.content) same;
      direct = refused.0.content_is;
      bad = tt;
    }
  where
    by_device : (device : Device) → RoseIf (says_failure device (unread_as Shelf)) (faults_of device before)
        (faults_of device (record before { yard = yard }))
    by_device TheKeeper = refl
    by_device TheDepot = ap (λ (y : YardValue). y.depot.faults) refused.1
    by_device TheShelf = refused.0.cause
    by_device TheCarrier = refl
uses-unread Memory before yard refused = uses-got (unread_as Memory) before yard (λ device. refl) refused tt

yard-unread : (now : ℕ) (h : ClientValue) (done : Made) (why : YardFault) (before after : YardValue)
    → Refuses before after why → YardUse now h done before after
yard-unread now h done Depot before after refused = record {
  staged = ap (λ (y : YardValue). y.staged) refused.1;
  puts = PutsNone (ap (λ (y : YardValue). y.log) refused.1) refused.0.content_is;
}
yard-unread now h done Shelf before after refused = record {
  staged = ap (λ (y : YardValue). y.staged) refused.1;
  puts = PutsNone (ap (λ (y : YardValue). y.log) refused.1) (ap (λ (y : YardValue). y.depot.content) refused.1);
}
yard-unread now h done Memory before after refused = yard-got now h done before after refused

-- ---- the model asks for the block

-- whether the model's reading has a view of its first window
sees_same : (g : Known) (v : Shared) (m : ModelClient) (md : ModelDoing) (count : ℕ) (file : OpenFile) (handle : Handle)
    → file_in_use m md ≡ Some file → IsHandle g v m.views count (handle_of md.op) file handle → (parts : List Asked)
    → first_seen handle.views parts → sees_first m md parts ≡ true
sees_same g v m md count file handle opened named [] first = absurd first
sees_same g v m md count file handle opened named (asked ∷ others) first =
    sees_first-is m md file opened asked others
    ∙ some-same (IsSeen g v asked.window) (fresh_view m.views (handle_of md.op) file asked.window)
    (view_at handle.views asked.window) (named.seen asked.window)
    ∙ first

module _ (now entry block : ℕ) (h : ClientValue) (d : Doing) (offset len : ℕ) (cache : Cached) (fetch : Fetching)
    (b : BlockId) (asks : IsAsking block h d offset len cache fetch (NeedsBlock b)) (before : Shared)
    (length_is : before.yard.setting.block ≡ block) (low : h.id ≤ LAST_CLIENT) (yard : YardValue) where
  abbrev handle : ℕ
  handle = handle_of d.op

  abbrev file : Handle
  file = asks.reads.file

  abbrev name : List ℕ
  name = name_in before.yard.setting b

  abbrev used : Shared
  used = record before { yard = yard }

  module _ (s : State) (g : Known) (has : HasStore s.tree g before)
      (client : IsClient g before (s.clients h.id) s.count h) where
    abbrev m : ModelClient
    m = s.clients h.id

    abbrev md : ModelDoing
    md = doing_of d

    here : IsRead g before m s.count d offset len file fetch
    here = is_read_in asks g before m s.count length_is client

    -- a view of the handle names the block
    of_view : IsOfView file.views fetch.block (asked_parts offset len) b
    of_view = fetches_show.block g.blocks file.views (asked_parts offset len) fetch b asks.wants here.fetching

    may : MayGet offset len m md 0
    may = may_get h d asks.busy asks.at asks.none offset len asks.reads g before m s.count client
        (sees_same g before m md s.count (file_by file) file here.in_use here.named (asked_parts offset len)
        of_view.first)

    sized : b ≡ block_at b.id (g.sizes b.id) fetch.block b.index
    sized = fetches_show.block_sized g.sizes file.views fetch.block (asked_parts offset len) b
        (fetches_show.sized g before m.views s.count handle (file_by file) file here.named) of_view

    -- the depot has what the view names
    names_there : HasNamed before.yard.setting.block (depot_in before) of_view.view.list
    names_there =
        has-view before.yard.setting.block (depot_in before) file of_view.window of_view.view of_view.seen
        (has-open before.yard.setting.block (depot_in before) h.handles handle file asks.reads.opened client.held.direct.seen)

    -- it is there, with the bytes that are known
    pub got : (value : Option (List ℕ)) → GetsBlock h.id name before.yard yard (Ok value) → GotBlock g b value
    got value gets =
        let seen : SamePlace (IsSeen g before of_view.window)
        (fresh_view m.views handle (file_by file) of_view.window) (view_at file.views of_view.window) =
        here.named.seen of_view.window in
        let there = there_in (IsSeen g before of_view.window)
        (fresh_view m.views handle (file_by file) of_view.window) (view_at file.views of_view.window) of_view.view
        of_view.seen seen in
        let of : IsNamed of_view.view.list before.yard.setting.block b =
        subst (λ n. IsNamed of_view.view.list n b) here.block of_view.named in
        got-block s g before has h.id yard of_view.window of_view.view.length of_view.view.list there.0.content
        there.2.shows names_there b of.r of.there of.some of.below of.is low value gets

    known : (bytes : List ℕ) → GetsBlock h.id name before.yard yard (Ok (Some bytes)) → g.blocks b ≡ Some bytes
    known bytes gets = let is = got (Some bytes) gets in is.known ∙ sym is.is

    pub cached-kept : (bytes : List ℕ) (kept : Cached) → GetsBlock h.id name before.yard yard (Ok (Some bytes))
        → Keeps b bytes cache kept → IsCacheOf g.sizes before.yard.setting.block g.blocks kept
    cached-kept bytes kept gets keeps =
        cache_of-keeps g.sizes before.yard.setting.block g.blocks b bytes cache kept keeps (known bytes gets)
        (subst (λ n. b ≡ block_at b.id (g.sizes b.id) n b.index) here.block sized)
        (cached-known asks before length_is s g has client)

  -- the block is needed next
  wanted : WantsBlock before.yard.setting.block h d fetch b cache
  wanted = record {
    flushed = flushed-asking asks;
    next = subst (λ n. NeedsNext n h d fetch (NeedsBlock b) cache) (sym length_is) asks.needs;
    needed = asks.wants;
    lacks = asks.lacks;
  }

  -- ---- it came

  module _ (bytes : List ℕ) (gets : GetsBlock h.id name before.yard yard (Ok (Some bytes))) (filled : Fetching)
      (kept : Cached) (fills : Fills b bytes fetch filled cache kept) (later : Cached) (to : Option Ahead)
      (looks : LooksOn file.views filled to kept later)
    where
      looks_up : LooksUp kept later
      looks_up = looks-on file.views filled to kept later looks

      pub cached-then : (s : State) (g : Known) → HasStore s.tree g before
          → IsClient g before (s.clients h.id) s.count h
          → IsCacheOf g.sizes before.yard.setting.block g.blocks later
      cached-then s g has client =
          cache_of-looks g.sizes before.yard.setting.block g.blocks kept later looks_up
          (cached-kept s g has client bytes kept gets fills.cache_is)

      module _ (s : State) (g : Known) (has : HasStore s.tree g before) (holds : Holds s.tree (s.clients h.id))
          (client : IsClient g before (s.clients h.id) s.count h) where
        abbrev mine : ModelClient
        mine = s.clients h.id

        stays : KeepsShared 0 g g before used
        stays = same-stays 0 g before used (same-gets before yard h.id name (Ok (Some bytes)) gets)

        held-on : IsHeld g used mine (s.count + 1) h
        held-on = held-goes s.tree g before has 0 g used stays mine s.count (s.count + 1) h (omega arith) client.held

        named-on : IsHandle g used mine.views (s.count + 1) handle (file_by file) file
        named-on = handle-stays s.tree g before has 0 g used stays mine.views s.count (s.count + 1) (omega arith) handle
            (file_by file) file (here s g has client).named

        cached-on : IsCacheOf g.sizes used.yard.setting.block g.blocks kept
        cached-on = cache-goes s.tree g before has 0 g used stays (Some kept)
            (cached-kept s g has client bytes kept gets fills.cache_is)

        fetching-on : IsFetching g.blocks file.views (asked_parts offset len) filled
        fetching-on = fills.reads g.blocks file.views (asked_parts offset len) (known s g has client bytes gets)
            (here s g has client).fetching

        block-on : filled.block ≡ used.yard.setting.block
        block-on = fills.block ∙ (here s g has client).block ∙ sym (ap (λ (x : Setting). x.block) stays.setting)

        idle : in_flight h ≡ 0
        idle = none_flying h d asks.busy asks.at asks.none

        leads-on : (f : Fetching) (need : Need) → GoesAhead file.views kept filled f
            → StepsTo s g before h now (Quiet ∷ []) More (going_on h.handles later f need d h) used
        leads-on f need goes = record {
          learned = g;
          tree = s.tree;
          model = at_stage (ModelReading 0) (doing_of d) mine;
          copied = s.copied;
          request = subst
              (λ n. Request s g g before used h.id now (in_flight h) n (Quiet ∷ []) More s.tree
              (at_stage (ModelReading 0) (doing_of d) mine) s.copied) idle
              (get-request s g before has h.id yard now (doing_of d) (here s g has client).busy offset len asks.does 0
              (may s g has client) (in_flight h) name (Some bytes) gets);
          is_client = client-on block h d offset len cache fetch (NeedsBlock b) asks h.handles file asks.reads.opened refl
              g used mine (s.count + 1) held-on named-on kept cached-on later looks_up filled block-on fetching-on f need
              goes;
          holds = record { opened = holds.opened; pending = holds.pending };
        }

        leads-over : (found : Found)
            → ((blocks : Blocks) (all : List Asked) → HasCached blocks file.views filled.block kept
            → IsFetching blocks file.views all filled
            → IsReadBy (known_by filled.block blocks) file.views all (read_of found))
            → StepsTo s g before h now (Quiet ∷ Answered (told_read found) ∷ []) (Done (Data found.bytes))
            (over h.handles later h) used
        leads-over found read = record {
          learned = g;
          tree = s.tree;
          model = after_told d.op (told_read found) mine;
          copied = s.copied;
          request = subst
              (λ n. Request s g g before used h.id now (in_flight h) n (Quiet ∷ Answered (told_read found) ∷ [])
              (Done (Data found.bytes)) s.tree (after_told d.op (told_read found) mine) s.copied) idle
              (get-answered s g before has h.id yard now (doing_of d) (here s g has client).busy offset len asks.does 0
              (may s g has client) (in_flight h) name (Some bytes) gets (file_by file) (here s g has client).in_use
              found.first found.second found.bytes
              (reading-is block h d offset len cache fetch (NeedsBlock b) asks h.handles file asks.reads.opened refl g used
              mine (s.count + 1) held-on named-on kept cached-on later looks_up filled block-on fetching-on found read));
          is_client = client-over block h d offset len cache fetch (NeedsBlock b) asks h.handles file asks.reads.opened
              refl g used mine (s.count + 1) held-on named-on kept cached-on later looks_up (s.count + 2) (omega arith)
              found;
          holds = holds-told d.op (told_read found) s.tree mine
              (none-kept d.op handle offset len asks.reads.op_is found.first found.second (length found.bytes)) holds;
        }

      -- what is ahead, by the views of the handle
      seen-ahead : (f : Fetching) → blocks_ahead (views_here h.handles d.op) f ≡ blocks_ahead file.views f
      seen-ahead f = ap (λ (o : Option Handle). blocks_ahead (views_of o) f) asks.reads.opened

      -- where it came
      looks-by : (goal : Option Ahead) → to ≡ goal → LooksOn file.views filled goal kept later
      looks-by goal is = subst (λ o. LooksOn file.views filled o kept later) is looks

      -- the cache kept the block that was needed, and the next ones were looked up
      moves-kept : (done : Made) (after : ClientValue) → may_have_made is_quiet done ≡ true → (rest : List BlockId)
          → Asks (blocks_ahead file.views filled) rest (need_then after) kept later
          → (goes_well done ≡ true → HasAhead d after (views_here h.handles d.op) rest)
          → MovesInRead h d done before.yard yard after (Some later)
      moves-kept done after may_have rest asked leaves =
          KeepsOne fetch b bytes (blocks_ahead file.views filled) rest cache kept later wanted may_have
          (seen-ahead fetch ∙ fills.ahead file.views) gets fills.cache_is asked leaves refl

      -- it goes on
      pub get-on : (f : Fetching) (need : Need) → to ≡ Some (Needs f need) → GoesAhead file.views kept filled f
          → Wants file.views f need → need ≢ Nothing → LacksNeed need kept
          → Makes now entry h (going_on h.handles later f need d h) before used (made.Request Quiet)
      get-on f need to_is goes wants more lacks =
          let can = goes.can (fills.can file.views asks.can) in
          let few = goes.few in
          let less = fills.falls in
          record {
            id = refl;
            limits = refl;
            ready = ready-on block h d offset len cache fetch (NeedsBlock b) asks h.handles file asks.reads.opened refl
                later f need can wants more (lacks-later need kept later looks_up lacks);
            devices = uses-got (made.Request Quiet) before yard (λ device. refl) gets.0 tt;
            yard = yard-got now h (made.Request Quiet) before.yard yard gets.0;
            cache = cache-read h d asks.busy (going_on h.handles later f need d h) (made.Request Quiet) before.yard yard
                (ap is_read asks.reads.op_is) (flushed-asking asks) refl
                (moves-kept (made.Request Quiet) (going_on h.handles later f need d h) refl (blocks_ahead file.views f)
                (looks-by (Some (Needs f need)) to_is) (λ well. record { seen = refl; are = sym (seen-ahead f) })) tt;
            alone = refl;
            falls = (
              falls-on block h d offset len cache fetch (NeedsBlock b) asks h.handles file asks.reads.opened refl
                  later f need can wants more (omega (arith, few, less)),
              refl,
            );
            leads = λ s g number has holds client. leads-on s g has holds client f need goes;
          }

      -- or it is answered
      pub get-over : (found : Found) → to ≡ Some (Read found)
          → ((blocks : Blocks) (all : List Asked) → HasCached blocks file.views filled.block kept
          → IsFetching blocks file.views all filled
          → IsReadBy (known_by filled.block blocks) file.views all (read_of found))
          → Makes now entry h (over h.handles later h) before used (made.Both Quiet (told_read found) (Data found.bytes))
      get-over found to_is read = record {
        id = refl;
        limits = refl;
        ready = record { buffer = asks.buffer; doing = tt };
        devices = uses-got (made.Both Quiet (told_read found) (Data found.bytes)) before yard (λ device. refl) gets.0 tt;
        yard = yard-got now h (made.Both Quiet (told_read found) (Data found.bytes)) before.yard yard gets.0;
        cache = cache-read h d asks.busy (over h.handles later h) (made.Both Quiet (told_read found) (Data found.bytes))
            before.yard yard (ap is_read asks.reads.op_is) (flushed-asking asks) (ap is_umount asks.reads.op_is)
            (moves-kept (made.Both Quiet (told_read found) (Data found.bytes)) (over h.handles later h) refl []
            (looks-by (Some (Read found)) to_is) (λ well. record { seen = refl; are = refl })) tt;
        alone = (refl, λ device. refl);
        falls = refl;
        leads = λ s g number has holds client. leads-over s g has holds client found read;
      }

      -- or memory ran out
      pub get-out : to ≡ None → Makes now entry h (over h.handles later h) before used
          (made.Answer (ToldRefused NoMemory) (RefusedReply NoMemory))
      get-out to_is = failed now entry block h d offset len cache fetch (NeedsBlock b) asks before used
          (same-gets before yard h.id name (Ok (Some bytes)) gets) NoMemory later cached-then refl
          (uses-got (made.Answer (ToldRefused NoMemory) (RefusedReply NoMemory)) before yard (λ device. refl) gets.0 tt)
          (yard-got now h (made.Answer (ToldRefused NoMemory) (RefusedReply NoMemory)) before.yard yard gets.0)
          (let some = looks-by None to_is in
          moves-kept (made.Answer (ToldRefused NoMemory) (RefusedReply NoMemory)) (over h.handles later h) refl some.0 some.1
          (λ well. absurd (cc well)))

  -- ---- it didn't come

  pub get-unread : (fault : Fault) → IsUnread h.id b before.yard yard fault
      → Makes now entry h (over h.handles cache h) before used (made.Answer (ToldRefused fault) (RefusedReply fault))
  get-unread fault unread =
      subst (λ fault. Makes now entry h (over h.handles cache h) before used
      (made.Answer (ToldRefused fault) (RefusedReply fault))) (sym unread.is)
      (failed now entry block h d offset len cache fetch (NeedsBlock b) asks before used
      (same-gets before yard h.id name (Err unread.why) unread.gets) (yard_fault unread.why) cache (cached-known asks before length_is)
      (fails-yard unread.why) (uses-unread unread.why before yard unread.gets)
      (yard-unread now h (unread_as unread.why) unread.why before.yard yard unread.gets)
      (GotNone fetch b cache wanted
      (Unread (yard_fault unread.why) (record { why = unread.why; gets = unread.gets; is = refl }) refl) refl))

  abbrev miss_of : Made
  miss_of = made.Both (missed h d fetch) (ToldRefused (TryAgain 0)) (RefusedReply (TryAgain 0))

  -- it isn't there, which no volume has whose blocks are all there
  pub get-missed : IsMissed h.id b before.yard yard → Makes now entry h (over h.handles cache h) before used miss_of
  get-missed none = record {
    id = refl;
    limits = refl;
    ready = record { buffer = asks.buffer; doing = tt };
    devices = uses-got miss_of before yard (λ device. refl) none.gets.0 tt;
    yard = yard-got now h miss_of before.yard yard none.gets.0;
    cache = cache-read h d asks.busy (over h.handles cache h) miss_of before.yard yard (ap is_read asks.reads.op_is)
        (flushed-asking asks) refl (GotNone fetch b cache wanted (NotThere none refl) refl) tt;
    alone = (refl, λ device. refl);
    falls = refl;
    leads = λ s g number has holds client.
        let is = got s g has client none.value none.gets in
        absurd (none.none is.bytes is.is is.long);
  }
