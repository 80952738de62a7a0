-- A reading looks at a window: it goes on with the view, or it is answered.
use Rattle.std.proofs.Common.{◌≡◌, ◌≢◌, ℕ, ◌+◌, ◌≤◌, ◌<◌, false, true, List, [], ◌∷◌, length, Option, None, Some, Ok, refl}
use Rattle.std.proofs.Common.{sym, ap}
use Rattle.std.proofs.Common.{subst, ◌∙◌, arith}
use Rattle.std.specs.Prelude.{is_some, unwrap_or}
use Rattle.std.specs.List.{AllByRecursion}
use Rattle.jv_model.specs.declared.act.ActKind.TheVariants.{Answered, Look}
use Rattle.jv_model.specs.declared.fault.Device.{Device}
use Rattle.jv_model.specs.declared.fault.Device.TheVariants.{Keeper, Depot, Shelf, Carrier}
use Rattle.jv_model.specs.declared.op.Reply.TheVariants.{Data}
use Rattle.jv_model.specs.declared.op.Step.TheVariants.{More, Done}
use Rattle.jv_model.specs.declared.slice.BlockId.{BlockId}
use Rattle.jv_model.specs.promise.client.ModelClient.{ModelClient, Doing as ModelDoing, View as ModelView}
use Rattle.jv_model.specs.promise.client.ModelClient.{Reading as ModelReading, file_of, session_of, with_file}
use Rattle.jv_model.specs.promise.client.Profile.{handle_of}
use Rattle.jv_model.specs.promise.journal.Reading.{Asked, asked_parts}
use Rattle.jv_model.specs.promise.journal.State.{State, after_told, view_now}
use Rattle.jv_model.specs.promise.journal.Steps.{window_to_look}
use Rattle.jv_model.specs.promise.client.OpForms.{is_read}
use Rattle.jv_model.specs.client.OpForms.{is_umount}
use Rattle.jv_outside.specs.promise.Causes.{RoseIf}
use Rattle.jv_outside.specs.promise.Store.{Store}
use Rattle.jv_cache.specs.Cached.{Cached}
use Rattle.jv_volume_bytes.specs.promise.Blocks.{Blocks, known_by}
use Rattle.jv_data.specs.declared.looking.View.{View as Looked}
use Rattle.jv_data.specs.Records.{LooksAt}
use Rattle.jv_client_shared.specs.Direct.{HasNamed}
use Rattle.jv_client_shared.specs.Keeping.{HoldsSame, KeepsShared}
use Rattle.jv_client_shared.specs.Seen.{IsView}
use Rattle.jv_client_shared.specs.promise.Shared.{HasStore, Known, Shared, depot_in}
use Rattle.jv_client_shared.proofs.SameLaws.{same-stays}
use Rattle.jv_client_handles.specs.declared.handle.Handle.{Handle}
use Rattle.jv_client_handles.specs.declared.views.View.{View}
use Rattle.jv_client_handles.specs.Handles.{seen_by}
use Rattle.jv_client_handles.specs.Held.{IsHandle}
use Rattle.jv_client_handles.specs.Views.{SeenViews, view_at, with_view}
use Rattle.jv_client_handles.proofs.TableLaws.{file_of-with_file}
use Rattle.jv_client_handles.proofs.HandleLaws.{handle-looked, handle-stays, handles-looked}
use Rattle.jv_client_handles.proofs.SeenLaws.{view_at-own, views-later}
use Rattle.jv_client_reads.specs.declared.need.Need.{Need}
use Rattle.jv_client_reads.specs.declared.need.Need.TheVariants.{Look as NeedsLook, Nothing}
use Rattle.jv_client_reads.specs.Ahead.{blocks_ahead}
use Rattle.jv_client_reads.specs.Calls.{Asks, HasCached, IsCacheOf, Wants, first_seen, first_unseen}
use Rattle.jv_client_reads.specs.Fetching.{Fetching, fetch_left}
use Rattle.jv_client_reads.specs.Going.{CanFetch, IsFetching}
use Rattle.jv_client_reads.specs.Shows.{IsReadBy}
use Rattle.jv_client_reads.proofs.FetchLaws.{fetches_go_on}
use Rattle.jv_client_reads.proofs.SameLaws.{fetches_show}
use Rattle.jv_model_steps.specs.IsStep.{at_stage}
use Rattle.jv_model_steps.proofs.LookStepLaws.{window-needed}
use Rattle.jv_client_requests.specs.Request.{Request}
use Rattle.jv_client_requests.proofs.LookLaws.{look-answered, look-named, look-request, look-shows, looked-content, looked-still}
use Rattle.jv_client.specs.declared.doing.Doing.{Doing}
use Rattle.jv_client.specs.declared.made.Made.{Made}
use Rattle.jv_client.specs.declared.made.Made.TheVariants as made
use Rattle.jv_client.specs.declared.reading.Found.{Found}
use Rattle.jv_client.specs.ClientValue.{ClientValue, session_here}
use Rattle.jv_client.specs.Held.{Holds, IsClient, IsHeld, in_flight}
use Rattle.jv_client.specs.Failures.{says_failure}
use Rattle.jv_client.specs.Makes.{Makes, StepsTo, SaysBad, UsesDevices, faults_of, step_of}
use Rattle.jv_client.specs.CacheUse.{HasAhead, LooksThen, MovesInRead, goes_well, is_look, may_have_made, need_then}
use Rattle.jv_client.specs.Reading.{GoesAhead, NeedsNext, read_of, told_read, views_of}
use Rattle.jv_client.specs.UnderWay.{LacksNeed}
use Rattle.jv_client.proofs.held.CacheUseLaws.{cache-read}
use Rattle.jv_client.proofs.reads.ReadingLaws.{lacks-later}
use Rattle.jv_client_reads.proofs.CacheLaws.{LooksUp, for_looks}
use Rattle.jv_client.proofs.steps.AnswerLaws.{same-yard}
use Rattle.jv_client.proofs.held.DirectLaws.{direct-looked}
use Rattle.jv_client.proofs.held.EndingLaws.{holds-told}
use Rattle.jv_client.proofs.held.HeldLaws.{doing_of}
use Rattle.jv_client.proofs.held.OthersStepLaws.{held-goes}
use Rattle.jv_client.proofs.reads.ReaderLaws.{IsAsking, IsRead, file_by, flushed-asking, is_read_in, none_flying}
use Rattle.jv_client.proofs.reads.ReadingGoesOnLaws.{client-on, client-over, falls-on, going_on, none-kept, over, reading-is}
use Rattle.jv_client.proofs.reads.ReadingGoesOnLaws.{ready-on}

-- ---- devices

-- the keeper was read, and nothing was asked of others
pub uses-look : (done : Made) (before : Shared) (keeper : Store) → ((device : Device) → says_failure device done ≡ false)
    → keeper.rows ≡ before.keeper.rows → keeper.opened ≡ before.keeper.opened → keeper.faults ≡ before.keeper.faults
    → SaysBad before (step_of done) → UsesDevices done before (record before { keeper = keeper })
uses-look done before keeper fine rows opened faults bad = record {
  keeper_at = opened;
  carrier_at = refl;
  depot_at = refl;
  shelf_at = refl;
  setting = refl;
  last = refl;
  counts = λ device. subst (λ b. RoseIf b (faults_of device before) (faults_of device (record before { keeper = keeper })))
      (sym (fine device)) (by_device device);
  rows = λ asks. rows;
  objects = λ asks. refl;
  direct = refl;
  bad = bad;
}
  where
    by_device : (device : Device) → faults_of device (record before { keeper = keeper }) ≡ faults_of device before
    by_device Keeper = faults
    by_device Depot = refl
    by_device Shelf = refl
    by_device Carrier = refl

-- ---- a window is seen

-- the view that the handle is given
abbrev pub view_of : ℕ → Looked → View
view_of entry view = record { entry = entry; length = view.length; list = view.list }

-- the handle with it, and the table
abbrev pub seen_handle : ℕ → View → Handle → Handle
seen_handle window view file = record file { views = with_view window view file.views }

abbrev pub seen_handles : ℕ → ℕ → View → List (Option Handle) → List (Option Handle)
seen_handles handle window view handles = with_file handle (seen_by window view (file_of handles handle)) handles

pub seen_opened : (handle window : ℕ) (view : View) (handles : List (Option Handle)) (file : Handle)
    → file_of handles handle ≡ Some file
    → file_of (seen_handles handle window view handles) handle ≡ Some (seen_handle window view file)
seen_opened handle window view handles file opened =
    ap (λ o. file_of (with_file handle (seen_by window view o) handles) handle) opened
    ∙ file_of-with_file handles handle file (Some (seen_handle window view file)) opened

-- the window that is looked at wasn't seen
pub not_seen : (views : SeenViews) (parts : List Asked) (window : ℕ) → first_unseen views parts window
    → view_at views window ≡ None
not_seen views [] window h = absurd h
not_seen views (asked ∷ others) window h = h.1

-- and is seen then
then_seen : (views : SeenViews) (parts : List Asked) (window : ℕ) (view : View) → first_unseen views parts window
    → first_seen (with_view window view views) parts
then_seen views [] window view h = absurd h
then_seen views (asked ∷ others) window view h =
    ap is_some (ap (view_at (with_view window view views)) h.0 ∙ view_at-own window view views)

-- ---- a look that went well

module _ (now entry block : ℕ) (h : ClientValue) (d : Doing) (offset len : ℕ) (cache : Cached) (fetch : Fetching)
    (window : ℕ) (asks : IsAsking block h d offset len cache fetch (NeedsLook window)) (before : Shared)
    (length_is : before.yard.setting.block ≡ block) (keeper : Store) (looked : Looked)
    (looks : LooksAt (session_here h) asks.reads.file.inode window before.keeper keeper (Ok looked)) where
  abbrev handle : ℕ
  handle = handle_of d.op

  abbrev file : Handle
  file = asks.reads.file

  abbrev view : View
  view = view_of entry looked

  abbrev handles : List (Option Handle)
  handles = seen_handles handle window view h.handles

  abbrev seen : Handle
  seen = seen_handle window view file

  abbrev used : Shared
  used = record before { keeper = keeper }

  opened : file_of handles handle ≡ Some seen
  opened = seen_opened handle window view h.handles file asks.reads.opened

  unseen : view_at file.views window ≡ None
  unseen = not_seen file.views fetch.parts window asks.wants.1

  pub can-seen : CanFetch seen.views fetch
  can-seen = fetches_go_on.can_seen file.views fetch window view unseen asks.can

  -- it makes fewer requests than before
  fewer-seen : (f : Fetching) (goes : GoesAhead seen.views cache fetch f) → fetch_left f < fetch_left fetch
  fewer-seen f goes = goes.fewer asks.wants.0 (then_seen file.views fetch.parts window view asks.wants.1)

  module _ (s : State) (g : Known) (number : s.count + 1 ≡ entry) (has : HasStore s.tree g before)
      (holds : Holds s.tree (s.clients h.id)) (client : IsClient g before (s.clients h.id) s.count h) where
    abbrev m : ModelClient
    m = s.clients h.id

    abbrev md : ModelDoing
    md = doing_of d

    abbrev taken : ModelView
    taken = view_now s handle file.inode window

    here : IsRead g before m s.count d offset len file fetch
    here = is_read_in asks g before m s.count length_is client

    in_rows : LooksAt (session_of m) file.inode window before.keeper keeper (Ok looked)
    in_rows = subst (λ (o : Option ℕ). LooksAt (unwrap_or o 0) file.inode window before.keeper keeper (Ok looked))
        (sym client.held.session) looks

    -- the model looks at the same window
    to_look : window_to_look m md (file_by file) ≡ Some window
    to_look =
        window-needed m md 0 offset len asks.does here.may (file_by file)
        ∙ sym (fetches_show.same_look g before m.views s.count handle (file_by file) file (asked_parts offset len)
        here.named)
        ∙ fetches_show.look g.blocks file.views (asked_parts offset len) fetch window asks.wants here.fetching

    still : HoldsSame before used
    still = looked-still s h.id now md here.busy offset len asks.does 0 here.may (file_by file) here.in_use
        window to_look g before has keeper 0 (Ok looked) in_rows

    stays : KeepsShared 0 g g before used
    stays = same-stays 0 g before used still

    shown : IsView g used window looked.length looked.list taken.content
    shown =
        subst (IsView g used window looked.length looked.list)
        (sym (looked-content s h.id now md here.busy offset len asks.does 0 here.may (file_by file) here.in_use
        window to_look g before has keeper 0 looked in_rows))
        (look-shows s h.id now md here.busy offset len asks.does 0 here.may (file_by file) here.in_use
        window to_look g before has keeper 0 looked in_rows)

    names_there : HasNamed used.yard.setting.block (depot_in used) looked.list
    names_there = look-named s h.id now md here.busy offset len asks.does 0 here.may (file_by file) here.in_use
        window to_look g before has keeper 0 looked in_rows

    -- ---- the client in memory stands for the model's then

    views_old : AllByRecursion (λ (view : ModelView). view.entry ≤ s.count + 1) (taken ∷ m.views)
    views_old = (omega arith, views-later s.count (s.count + 1) m.views (omega arith) client.held.views)

    held : IsHeld g used (record m { views = taken ∷ m.views }) (s.count + 1) (record h { handles = handles })
    held =
        let goes = held-goes s.tree g before has 0 g used stays m s.count s.count h (omega arith) client.held in
        record {
          session = goes.session;
          removed = goes.removed;
          handles = handles-looked g used m.views s.count taken view number (sym number) shown m.handles h.handles
              (file_by file) here.in_use refl goes.handles;
          views = views_old;
          pending = goes.pending;
          direct = direct-looked used.yard.setting.block (depot_in used) m.writeback h.handles goes.direct handle window view
              names_there;
        }

    named_then : IsHandle g used (taken ∷ m.views) (s.count + 1) handle (file_by file) seen
    named_then =
        handle-looked g used m.views s.count taken view number (sym number) shown handle (file_by file) file refl refl
        (handle-stays s.tree g before has 0 g used stays m.views s.count s.count (omega arith) handle (file_by file) file
        here.named)

    cached : IsCacheOf g.sizes used.yard.setting.block g.blocks cache
    cached = (asks.goes g before m s.count length_is client).2

    fetching_then : IsFetching g.blocks seen.views (asked_parts offset len) fetch
    fetching_then =
        fetches_go_on.seen g.blocks file.views (asked_parts offset len) fetch window view unseen here.fetching

    holds_then : Holds s.tree (record m { views = taken ∷ m.views })
    holds_then = record { opened = holds.opened; pending = holds.pending }

    idle : in_flight h ≡ 0
    idle = none_flying h d asks.busy asks.at asks.none

    module _ (later : Cached) (looks_up : LooksUp cache later) where
      leads-on : (f : Fetching) (need : Need) → GoesAhead seen.views cache fetch f
          → StepsTo s g before h now (Look file.inode window ∷ []) More (going_on handles later f need d h) used
      leads-on f need goes = record {
        learned = g;
        tree = s.tree;
        model = at_stage (ModelReading 0) md (record m { views = taken ∷ m.views });
        copied = s.copied;
        request = subst
            (λ n. Request s g g before used h.id now (in_flight h) n (Look file.inode window ∷ []) More s.tree
            (at_stage (ModelReading 0) md (record m { views = taken ∷ m.views })) s.copied) idle
            (look-request s h.id now md here.busy offset len asks.does 0 here.may (file_by file) here.in_use
            window to_look g before has keeper (in_flight h) looked in_rows);
        is_client = client-on block h d offset len cache fetch (NeedsLook window) asks handles seen opened refl g used
            (record m { views = taken ∷ m.views }) (s.count + 1) held named_then cache cached later looks_up fetch
            here.block fetching_then f need goes;
        holds = record { opened = holds.opened; pending = holds.pending };
      }

      leads-over : (found : Found)
          → ((blocks : Blocks) (all : List Asked) → HasCached blocks seen.views fetch.block cache
          → IsFetching blocks seen.views all fetch
          → IsReadBy (known_by fetch.block blocks) seen.views all (read_of found))
          → StepsTo s g before h now (Look file.inode window ∷ Answered (told_read found) ∷ []) (Done (Data found.bytes))
          (over handles later h) used
      leads-over found read = record {
        learned = g;
        tree = s.tree;
        model = after_told d.op (told_read found) (record m { views = taken ∷ m.views });
        copied = s.copied;
        request = subst
            (λ n. Request s g g before used h.id now (in_flight h) n
            (Look file.inode window ∷ Answered (told_read found) ∷ []) (Done (Data found.bytes)) s.tree
            (after_told d.op (told_read found) (record m { views = taken ∷ m.views })) s.copied) idle
            (look-answered s h.id now md here.busy offset len asks.does 0 here.may (file_by file) here.in_use
            window to_look g before has keeper (in_flight h) looked in_rows found.first found.second found.bytes
            (reading-is block h d offset len cache fetch (NeedsLook window) asks handles seen opened refl g used
            (record m { views = taken ∷ m.views }) (s.count + 1) held named_then cache cached later looks_up fetch
            here.block fetching_then found read));
        is_client = client-over block h d offset len cache fetch (NeedsLook window) asks handles seen opened refl g used
            (record m { views = taken ∷ m.views }) (s.count + 1) held named_then cache cached later looks_up
            (s.count + 2) (omega arith) found;
        holds = holds-told d.op (told_read found) s.tree (record m { views = taken ∷ m.views })
            (none-kept d.op handle offset len asks.reads.op_is found.first found.second (length found.bytes)) holds_then;
      }

  -- blocks were looked up by the view, and no other thing was done with the cache
  pub looked-on : (done : Made) (after : ClientValue) → may_have_made is_look done ≡ true → (rest : List BlockId) (later : Cached)
      → Asks (blocks_ahead seen.views fetch) rest (need_then after) cache later
      → (goes_well done ≡ true → HasAhead d after seen.views rest)
      → MovesInRead h d done before.yard before.yard after (Some later)
  looked-on done after may_have rest later looks leaves =
      LooksThen fetch window view rest seen.views cache later (flushed-asking asks) may_have
      (subst (λ n. NeedsNext n h d fetch (NeedsLook window) cache) (sym length_is) asks.needs)
      (ap (λ (o : Option Handle). with_view window view (views_of o)) (sym asks.reads.opened)) looks leaves refl

  -- it goes on
  pub look-on : (later : Cached) (f : Fetching) (need : Need)
      → Asks (blocks_ahead seen.views fetch) (blocks_ahead seen.views f) need cache later → GoesAhead seen.views cache fetch f → Wants seen.views f need → need ≢ Nothing → LacksNeed need cache
      → Makes now entry h (going_on handles later f need d h) before used (made.Request (Look file.inode window))
  look-on later f need asked goes wants more lacks = let looks_up = for_looks need cache later asked.looks in record {
    id = refl;
    limits = refl;
    ready = ready-on block h d offset len cache fetch (NeedsLook window) asks handles seen opened refl later f need
        (goes.can can-seen) wants more (lacks-later need cache later looks_up lacks);
    devices = uses-look (made.Request (Look file.inode window)) before keeper (λ device. refl) looks.looks.rows_are
        looks.looks.opened_at looks.looks.counts tt;
    yard = same-yard now h (made.Request (Look file.inode window)) before.yard;
    cache = cache-read h d asks.busy (going_on handles later f need d h) (made.Request (Look file.inode window))
        before.yard before.yard (ap is_read asks.reads.op_is) (flushed-asking asks) refl
        (looked-on (made.Request (Look file.inode window)) (going_on handles later f need d h) refl
        (blocks_ahead seen.views f) later asked (λ goes. record { seen = ap views_of opened; are = refl })) tt;
    alone = refl;
    falls = (
      falls-on block h d offset len cache fetch (NeedsLook window) asks handles seen opened refl later f need
          (goes.can can-seen) wants more (fewer-seen f goes),
      refl,
    );
    leads = λ s g number has holds client. leads-on s g number has holds client later looks_up f need goes;
  }

  -- or it is answered
  pub look-over : (later : Cached) → Asks (blocks_ahead seen.views fetch) [] Nothing cache later → (found : Found)
      → ((blocks : Blocks) (all : List Asked) → HasCached blocks seen.views fetch.block cache
      → IsFetching blocks seen.views all fetch → IsReadBy (known_by fetch.block blocks) seen.views all (read_of found))
      → Makes now entry h (over handles later h) before used
      (made.Both (Look file.inode window) (told_read found) (Data found.bytes))
  look-over later asked found read = let looks_up = for_looks Nothing cache later asked.looks in record {
    id = refl;
    limits = refl;
    ready = record { buffer = asks.buffer; doing = tt };
    devices = uses-look (made.Both (Look file.inode window) (told_read found) (Data found.bytes)) before keeper
        (λ device. refl) looks.looks.rows_are looks.looks.opened_at looks.looks.counts tt;
    yard = same-yard now h (made.Both (Look file.inode window) (told_read found) (Data found.bytes)) before.yard;
    cache = cache-read h d asks.busy (over handles later h)
        (made.Both (Look file.inode window) (told_read found) (Data found.bytes)) before.yard before.yard
        (ap is_read asks.reads.op_is) (flushed-asking asks) (ap is_umount asks.reads.op_is)
        (looked-on (made.Both (Look file.inode window) (told_read found) (Data found.bytes)) (over handles later h) refl []
        later asked (λ goes. record { seen = ap views_of opened; are = refl })) tt;
    alone = (refl, λ device. refl);
    falls = refl;
    leads = λ s g number has holds client. leads-over s g number has holds client later looks_up found read;
  }
