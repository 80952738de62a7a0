-- The functions that look at a window and get a block, by what their calls promise.
use Rattle.std.proofs.Common.{◌≡◌, ℕ, ◌≤◌, true, false, List, Option, None, Some, Result, Ok, Err, refl, sym, ap}
use Rattle.std.proofs.Common.{subst, ◌∙◌}
use Rattle.std.specs.Prelude.{IfSome, IsSome, IsSomeAnd, IsTrue, OnErr, OnOk, is_err, is_some}
use Rattle.std.specs.Option.{option_map}
use Rattle.jv_model.specs.declared.limits.TheConstants.{LAST_CLIENT}
use Rattle.jv_model.specs.declared.act.ActKind.TheVariants.{Look, Quiet}
use Rattle.jv_model.specs.declared.act.Told.TheVariants.{Refused as ToldRefused}
use Rattle.jv_model.specs.declared.fault.Fault.{Fault}
use Rattle.jv_model.specs.declared.fault.Fault.TheVariants.{NoMemory}
use Rattle.jv_model.specs.declared.fault.TxFault.{TxFault}
use Rattle.jv_model.specs.declared.op.Reply.TheVariants.{Refused}
use Rattle.jv_model.specs.declared.slice.BlockId.{BlockId}
use Rattle.jv_model.specs.promise.client.ModelClient.{file_of, with_file}
use Rattle.jv_model.specs.promise.client.Profile.{handle_of}
use Rattle.jv_model.specs.promise.blocks.BlockNames.{name_in}
use Rattle.jv_outside.specs.promise.Store.{Store}
use Rattle.jv_cache.specs.Cached.{Cached}
use Rattle.jv_data.specs.declared.looking.View.{View as Looked}
use Rattle.jv_data.specs.Records.{LooksAt}
use Rattle.jv_client_handles.specs.declared.handle.Handle.{Handle}
use Rattle.jv_client_handles.specs.declared.views.View.{View}
use Rattle.jv_client_handles.proofs.TableLaws.{the_some}
use Rattle.jv_client_handles.specs.Handles.{inode_here, inode_of_handle, seen_by, unseen_by}
use Rattle.jv_client_shared.specs.promise.Shared.{Shared}
use Rattle.jv_yard.specs.BlockCalls.{GetsBlock}
use Rattle.jv_yard.specs.promise.YardValue.{YardValue}
use Rattle.jv_client_reads.specs.declared.need.Need.{Need}
use Rattle.jv_client_reads.specs.declared.need.Need.TheVariants.{Block as NeedsBlock, Look as NeedsLook}
use Rattle.jv_client_reads.specs.Calls.{Wants}
use Rattle.jv_client_reads.specs.Fetching.{Fetching}
use Rattle.jv_client_reads.specs.Going.{CanFetch}
use Rattle.jv_client.specs.declared.doing.Doing.{Doing}
use Rattle.jv_client.specs.declared.doing.Progress.{Progress}
use Rattle.jv_client.specs.declared.doing.Progress.TheVariants.{Reading, Working}
use Rattle.jv_client.specs.declared.made.Made.{Made}
use Rattle.jv_client.specs.declared.made.Made.TheVariants as made
use Rattle.jv_client.specs.declared.reading.Ahead.{Ahead}
use Rattle.jv_client.specs.ClientValue.{ClientValue, session_here}
use Rattle.jv_client.specs.Ending.{ended}
use Rattle.jv_client.specs.Getting.{Fills, HasFilled, IsMissed, IsMissedBy, IsUnread, ReadsBlock}
use Rattle.jv_client.specs.Makes.{Makes}
use Rattle.jv_client.specs.Reading.{ClientComesTo, GoesOnAfter, IsAhead, OnlyLooksUp, fetch_at, fetch_in, need_at}
use Rattle.jv_client.specs.Reading.{need_in}
use Rattle.jv_client.specs.Reading.{put_at}
use Rattle.jv_client.specs.Transacting.{EndsUnmade, Fails}
use Rattle.jv_client.specs.UnderWay.{IsAt, IsReady, IsUnderWay, left, names_open}
use Rattle.jv_client.proofs.steps.AnswerLaws.{makes-as}
use Rattle.jv_client.proofs.reads.ReaderLaws.{Asking, asking, cached-known, is_asking}
use Rattle.jv_client.proofs.reads.ReadingGoesOnLaws.{over}
use Rattle.jv_client.proofs.reads.LookLaws.{seen_handles, seen_opened, view_of}
use Rattle.jv_client.proofs.reads.RefusedLookLaws.{look-out, look-unmade, looked-before}
use Rattle.jv_client.proofs.reads.BlockReadLaws.{get-missed, get-unread}
use Rattle.jv_client.proofs.reads.ReadCallLaws.{get-came, get-lost, look-came, look-lost, taken_out}

-- the client with another table of handles, whose reading was taken out
abbrev pub put_back : List (Option Handle) → ClientValue → ClientValue
put_back handles c = record c { handles = handles; doing = option_map (put_at (Working 0 0 0)) c.doing }

-- the reading that was taken out
fetch_is : (h : ClientValue) (cache : Cached) (d : Doing) (fetch fetch' : Fetching) (next : Need) (o : Option Doing)
    → o ≡ (asking h cache d fetch next).doing → fetch_in o ≡ Some fetch' → fetch' ≡ fetch
fetch_is h cache d fetch fetch' next o is taken =
    let both : Some fetch ≡ Some fetch' = sym (ap fetch_in is) ∙ taken in
    cc

module _ (block : ℕ) (h c : ClientValue) (next : Need) (a : IsAhead block h c) (ready_before : IsReady h)
    (ready : IsReady c) (flushed : left c ≡ None) (need : need_in c.doing ≡ Some next) where
  abbrev before_request : Asking block h c next
  before_request = is_asking block h c next a ready_before ready flushed need

  -- what it names
  pub handle-is : (handle : ℕ) → IfSome c.doing (λ d. handle ≡ handle_of d.op) → handle ≡ handle_of before_request.d.op
  handle-is handle names = subst (λ o. IfSome o (λ d. handle ≡ handle_of d.op))
      (ap (λ (x : ClientValue). x.doing) before_request.is) names

  pub inode-is : (handle inode : ℕ) → IfSome c.doing (λ d. handle ≡ handle_of d.op) → inode ≡ inode_here c.handles handle
      → inode ≡ before_request.asks.reads.file.inode
  inode-is handle inode names is =
      is ∙ ap (λ n. inode_here c.handles n) (handle-is handle names)
      ∙ ap (λ (x : ClientValue). inode_here x.handles (handle_of before_request.d.op)) before_request.is
      ∙ ap inode_of_handle before_request.asks.reads.opened

  pub took-fetch : (fetch : Fetching) → fetch_in c.doing ≡ Some fetch → fetch ≡ before_request.fetch
  took-fetch fetch taken = fetch_is h before_request.cache before_request.d before_request.fetch fetch next c.doing
      (ap (λ (x : ClientValue). x.doing) before_request.is) taken

-- ---- a look

module _ (now entry : ℕ) (h c : ClientValue) (window : ℕ) (before : Shared)
    (a : IsAhead before.yard.setting.block h c) (ready_before : IsReady h) (ready : IsReady c) (flushed : left c ≡ None)
    (need : need_in c.doing ≡ Some (NeedsLook window)) (keeper : Store) (handle inode : ℕ)
    (names : IfSome c.doing (λ d. handle ≡ handle_of d.op)) (inode_of : inode ≡ inode_here c.handles handle) where
  abbrev block : ℕ
  block = before.yard.setting.block

  abbrev asked : Asking block h c (NeedsLook window)
  asked = is_asking block h c (NeedsLook window) a ready_before ready flushed need

  abbrev used : Shared
  used = record before { keeper = keeper }

  of_handle : handle ≡ handle_of asked.d.op
  of_handle = handle-is block h c (NeedsLook window) a ready_before ready flushed need handle names

  of_inode : inode ≡ asked.asks.reads.file.inode
  of_inode = inode-is block h c (NeedsLook window) a ready_before ready flushed need handle inode names inode_of

  here : (result : Result Looked TxFault) → LooksAt (session_here c) inode window before.keeper keeper result
      → LooksAt (session_here h) asked.asks.reads.file.inode window before.keeper keeper result
  here result looks =
      subst (λ n. LooksAt (session_here h) n window before.keeper keeper result) of_inode
      (subst (λ n. LooksAt n inode window before.keeper keeper result)
      (ap (λ (x : ClientValue). session_here x) asked.is) looks)

  -- refused, or not made
  pub looks-unmade : (fault : TxFault) (after : ClientValue) (done : Made)
      → LooksAt (session_here c) inode window before.keeper keeper (Err fault) → EndsUnmade Quiet fault c after done
      → Makes now entry h after before used done
  looks-unmade fault after done looks ends =
      look-unmade now entry block h asked.d asked.offset asked.len asked.cache asked.fetch window asked.asks before refl
      keeper fault after done (subst IsReady asked.is ready) (here (Err fault) looks)
      (subst (λ (x : ClientValue). EndsUnmade Quiet fault x after done) asked.is ends)

  module _ (looked : Looked) (looks : LooksAt (session_here c) inode window before.keeper keeper (Ok looked)) where
    -- no memory for the view
    pub looks-full : (then after : ClientValue) (done : Made) → then ≡ c → Fails NoMemory then after done
        → Makes now entry h after before used done
    looks-full then after done same fails =
        makes-as now entry h after (over h.handles asked.cache h) before used used done _
        (fails.after_is ∙ ap ended (same ∙ asked.is)) refl fails.made_is
        (look-out now entry block h asked.d asked.offset asked.len asked.cache asked.fetch window asked.asks before refl
        keeper asked.cache
        (looked-before now entry block h asked.d asked.offset asked.len asked.cache asked.fetch window asked.asks before
        refl keeper (made.Answer (ToldRefused NoMemory) (Refused NoMemory)) (over h.handles asked.cache h) refl refl)
        (cached-known asked.asks before refl)
        looks.looks.rows_are looks.looks.opened_at looks.looks.counts)

    module _ (mid then : ClientValue)
        (mid_is : mid
        ≡ put_back (with_file handle (seen_by window (view_of entry looked) (file_of c.handles handle)) c.handles) c)
      where
        same_mid : mid ≡ taken_out (seen_handles (handle_of asked.d.op) window (view_of entry looked) h.handles) asked.cache
            asked.d h
        same_mid =
            mid_is
            ∙ ap (λ n. put_back (with_file n (seen_by window (view_of entry looked) (file_of c.handles n)) c.handles) c)
            of_handle
            ∙ ap (λ (x : ClientValue). put_back (with_file (handle_of asked.d.op)
            (seen_by window (view_of entry looked) (file_of x.handles (handle_of asked.d.op))) x.handles) x) asked.is

        -- the reading goes ahead
        pub looks-came : (fetch : Fetching) (ahead : Ahead) (after : ClientValue) (done : Made)
            → fetch_in c.doing ≡ Some fetch → OnlyLooksUp fetch (Some ahead) mid then → ClientComesTo fetch mid ahead
            → GoesOnAfter (Look inode window) ahead then after done → Makes now entry h after before used done
        looks-came fetch ahead after done taken only comes goes =
            let of_fetch = took-fetch block h c (NeedsLook window) a ready_before ready flushed need fetch taken in
            look-came now entry block h asked.d asked.offset asked.len asked.cache asked.fetch window asked.asks before refl
            keeper looked (here (Ok looked) looks) ahead then after done
            (subst (λ (x : ClientValue). OnlyLooksUp asked.fetch (Some ahead) x then) same_mid
            (subst (λ (f : Fetching). OnlyLooksUp f (Some ahead) mid then) of_fetch only))
            (subst (λ (x : ClientValue). ClientComesTo asked.fetch x ahead) same_mid
            (subst (λ (f : Fetching). ClientComesTo f mid ahead) of_fetch comes))
            (subst (λ n. GoesOnAfter (Look n window) ahead then after done) of_inode goes)

        -- or memory ran out
        pub looks-lost : (fetch : Fetching) (back after : ClientValue) (done : Made) → fetch_in c.doing ≡ Some fetch
            → OnlyLooksUp fetch None mid then
            → back
            ≡ record then { handles = with_file handle (unseen_by window (file_of then.handles handle)) then.handles }
            → Fails NoMemory back after done → Makes now entry h after before used done
        looks-lost fetch back after done taken only dropped fails =
            look-lost now entry block h asked.d asked.offset asked.len asked.cache asked.fetch window asked.asks before refl
            keeper looked (here (Ok looked) looks) then after done
            (subst (λ (x : ClientValue). OnlyLooksUp asked.fetch None x then) same_mid
            (subst (λ (f : Fetching). OnlyLooksUp f None mid then)
            (took-fetch block h c (NeedsLook window) a ready_before ready flushed need fetch taken) only))
            (fails.after_is ∙ ap ended (dropped
            ∙ ap (λ n. record then { handles = with_file n (unseen_by window (file_of then.handles n)) then.handles })
            of_handle))
            fails.made_is

-- ---- a block

module _ (now entry : ℕ) (h c : ClientValue) (b : BlockId) (before : Shared)
    (a : IsAhead before.yard.setting.block h c) (ready_before : IsReady h) (ready : IsReady c) (flushed : left c ≡ None)
    (need : need_in c.doing ≡ Some (NeedsBlock b)) (v : ClientValue) (same_v : v ≡ c) (low : v.id ≤ LAST_CLIENT)
    (yard : YardValue) where
  abbrev length_of : ℕ
  length_of = before.yard.setting.block

  abbrev wanted : Asking length_of h c (NeedsBlock b)
  wanted = is_asking length_of h c (NeedsBlock b) a ready_before ready flushed need

  abbrev yard_used : Shared
  yard_used = record before { yard = yard }

  same_id : v.id ≡ h.id
  same_id = ap (λ (x : ClientValue). x.id) (same_v ∙ wanted.is)

  id_low : h.id ≤ LAST_CLIENT
  id_low = subst (λ n. n ≤ LAST_CLIENT) same_id low

  -- it didn't come
  pub gets-none : (fault : Fault) (after : ClientValue) (done : Made)
      → ReadsBlock v.id b before.yard yard (Err fault) → Fails fault c after done
      → Makes now entry h after before yard_used done
  gets-none fault after done unread fails =
      makes-as now entry h after (over h.handles wanted.cache h) before yard_used yard_used done _
      (fails.after_is ∙ ap ended wanted.is) refl fails.made_is
      (get-unread now entry length_of h wanted.d wanted.offset wanted.len wanted.cache wanted.fetch b wanted.asks before
      refl id_low yard fault (subst (λ n. IsUnread n b before.yard yard fault) same_id unread))

  -- it isn't there
  pub gets-missed : (found : Option (List ℕ)) (after : ClientValue) (done : Made) → found ≡ None
      → ReadsBlock v.id b before.yard yard (Ok found)
      → IfSome c.doing (λ d. IsMissedBy c d (fetch_at d.progress) after done)
      → Makes now entry h after before yard_used done
  gets-missed found after done none gets ends =
      let missed = subst (λ found. ReadsBlock v.id b before.yard yard (Ok found)) none gets in
      let refuses =
      subst (λ (x : ClientValue). IfSome x.doing (λ d. IsMissedBy x d (fetch_at d.progress) after done))
      wanted.is ends in
      makes-as now entry h after (over h.handles wanted.cache h) before yard_used yard_used done _ refuses.after_is refl
      refuses.made_is
      (get-missed now entry length_of h wanted.d wanted.offset wanted.len wanted.cache wanted.fetch b wanted.asks before
      refl id_low yard (subst (λ n. IsMissed n b before.yard yard) same_id missed))

  module _ (bytes : List ℕ) (found : Option (List ℕ)) (found_is : found ≡ Some bytes)
      (gets : ReadsBlock v.id b before.yard yard (Ok found)) (fetch filled : Fetching)
      (taken : fetch_in v.doing ≡ Some fetch) (cache : Option Cached)
      (fills : HasFilled b bytes fetch filled v.cache cache) (doing : Option Doing)
      (left_is : doing ≡ option_map (put_at (Working 0 0 0)) v.doing) (then : ClientValue) where
    abbrev mid : ClientValue
    mid = record v { cache = cache; doing = doing }

    same_cache : fills.cache ≡ wanted.cache
    same_cache =
        let both : Some fills.cache ≡ Some wanted.cache =
        sym fills.was_is ∙ ap (λ (x : ClientValue). x.cache) (same_v ∙ wanted.is) in
        cc

    now_mid : mid ≡ taken_out h.handles fills.kept wanted.d h
    now_mid =
        ap (λ o. record v { cache = cache; doing = o }) left_is
        ∙ ap (λ (o : Option Cached). record v { cache = o; doing = option_map (put_at (Working 0 0 0)) v.doing })
        fills.kept_is
        ∙ ap (λ (x : ClientValue). record x {
          cache = Some fills.kept;
          doing = option_map (put_at (Working 0 0 0)) x.doing;
        }) (same_v ∙ wanted.is)

    in_name : GetsBlock h.id (name_in before.yard.setting b) before.yard yard (Ok (Some bytes))
    in_name =
        let came = subst (λ found. ReadsBlock v.id b before.yard yard (Ok found)) found_is gets in
        subst (λ n. GetsBlock n (name_in before.yard.setting b) before.yard yard (Ok (Some bytes))) same_id came.0

    in_place : Fills b bytes wanted.fetch filled wanted.cache fills.kept
    in_place =
        subst (λ (f : Fetching). Fills b bytes f filled wanted.cache fills.kept)
        (took-fetch length_of h c (NeedsBlock b) a ready_before ready flushed need fetch
        (ap (λ (x : ClientValue). fetch_in x.doing) (sym same_v) ∙ taken))
        (subst (λ (cache : Cached). Fills b bytes fetch filled cache fills.kept) same_cache fills.fills)

    -- the reading goes ahead
    pub gets-came : (ahead : Ahead) (after : ClientValue) (done : Made)
        → OnlyLooksUp filled (Some ahead) (record v { cache = cache; doing = doing }) then → ClientComesTo filled mid ahead
        → GoesOnAfter Quiet ahead then after done → Makes now entry h after before yard_used done
    gets-came ahead after done only comes goes =
        get-came now entry length_of h wanted.d wanted.offset wanted.len wanted.cache wanted.fetch b wanted.asks before
        refl id_low yard bytes in_name filled fills.kept in_place ahead then after done
        (subst (λ (x : ClientValue). OnlyLooksUp filled (Some ahead) x then) now_mid only)
        (subst (λ (x : ClientValue). ClientComesTo filled x ahead) now_mid comes) goes

    -- or memory ran out
    pub gets-lost : (after : ClientValue) (done : Made)
        → OnlyLooksUp filled None (record v { cache = cache; doing = doing }) then → Fails NoMemory then after done
        → Makes now entry h after before yard_used done
    gets-lost after done only fails =
        get-lost now entry length_of h wanted.d wanted.offset wanted.len wanted.cache wanted.fetch b wanted.asks before
        refl id_low yard bytes in_name filled fills.kept in_place then after done
        (subst (λ (x : ClientValue). OnlyLooksUp filled None x then) now_mid only) fails.after_is fails.made_is

-- ---- the client in between

-- a result that is no error
pub if_ok : {X E : Type 0} (P : Type 0) (r : Result X E) → is_err r ≡ false → OnOk r P → P
if_ok P (Ok x) none h = h
if_ok P (Err e) none h = absurd (cc none)

pub if_err : {X E : Type 0} (P : Type 0) (r : Result X E) → is_err r ≡ true → OnErr r P → P
if_err P (Ok x) some h = absurd (cc some)
if_err P (Err e) some h = h

-- an operation that needs something has its handle open
pub open_here : (c : ClientValue) (next : Need) → IsReady c → need_in c.doing ≡ Some next → (d : Doing) → c.doing ≡ Some d
    → IsTrue (is_some (file_of c.handles (handle_of d.op)))
open_here c next ready need d busy = by_progress d.progress at (ap need_in (sym busy) ∙ need)
  where
    at : IsAt c d d.progress
    at = (subst (λ o. IfSome o (IsUnderWay c)) busy ready.doing).at

    by_handle : (o : Option Handle) (P : Handle → Type 0) → IsSomeAnd o P → IsTrue (is_some o)
    by_handle None P h = absurd h
    by_handle (Some handle) P h = refl

    by_progress : (p : Progress) → IsAt c d p → need_at p ≡ Some next
        → IsTrue (is_some (file_of c.handles (handle_of d.op)))
    by_progress (Working quiets started id) here none = absurd (cc none)
    by_progress (Reading fetch need) here is =
        by_handle (file_of c.handles (handle_of d.op))
        (λ (handle : Handle). CanFetch handle.views fetch × Wants handle.views fetch need) here.goes_on

-- and so has the client whose reading was taken out
pub open_then : (c v : ClientValue) (next : Need) → IsReady c → need_in c.doing ≡ Some next → v ≡ c
    → (doing : Option Doing) → doing ≡ option_map (put_at (Working 0 0 0)) v.doing → (cache : Option Cached)
    → IfSome doing (names_open (record v { cache = cache; doing = doing }))
open_then c v next ready need same doing taken cache =
    subst (λ o. IfSome o (names_open (record v { cache = cache; doing = o }))) (sym taken) (by_doing v.doing refl)
  where
    by_doing : (o : Option Doing) → v.doing ≡ o
        → IfSome (option_map (put_at (Working 0 0 0)) o)
        (names_open (record v { cache = cache; doing = option_map (put_at (Working 0 0 0)) v.doing }))
    by_doing None e = tt
    by_doing (Some d) e =
        subst (λ (handles : List (Option Handle)). IsTrue (is_some (file_of handles (handle_of d.op))))
        (ap (λ (x : ClientValue). x.handles) (sym same))
        (open_here c next ready need d (ap (λ (x : ClientValue). x.doing) (sym same) ∙ e))

-- a handle that is given a view stays open
pub open_seen : (handles : List (Option Handle)) (handle window : ℕ) (view : View)
    → IsTrue (is_some (file_of handles handle))
    → IsTrue (is_some (file_of (with_file handle (seen_by window view (file_of handles handle)) handles) handle))
open_seen handles handle window view some =
    let there = the_some (file_of handles handle) some in
    ap is_some (seen_opened handle window view handles there.0 there.1)

-- under the names that the code has
pub mid_looked : (c v : ClientValue) (handle window : ℕ) (view : View) (old new stored : List (Option Handle))
    (doing : Option Doing) → v ≡ c → old ≡ v.handles → stored ≡ new
    → new ≡ with_file handle (seen_by window view (file_of old handle)) old
    → doing ≡ option_map (put_at (Working 0 0 0)) v.doing
    → record v { handles = stored; doing = doing }
    ≡ put_back (with_file handle (seen_by window view (file_of c.handles handle)) c.handles) c
mid_looked c v handle window view old new stored doing same same_old same_new set taken =
    ap (λ (hs : List (Option Handle)). record v { handles = hs; doing = doing })
    (same_new ∙ set ∙ ap (λ hs. with_file handle (seen_by window view (file_of hs handle)) hs) same_old)
    ∙ ap (λ o. record v {
      handles = with_file handle (seen_by window view (file_of v.handles handle)) v.handles;
      doing = o;
    }) taken
    ∙ ap (λ (v : ClientValue). put_back (with_file handle (seen_by window view (file_of v.handles handle)) v.handles) v)
    same

-- so the handle of a reading that has looked is open
pub open_looked : (c v : ClientValue) (next : Need) → IsReady c → need_in c.doing ≡ Some next → v ≡ c
    → (doing : Option Doing) → doing ≡ option_map (put_at (Working 0 0 0)) v.doing → (handle window : ℕ) (view : View)
    → IfSome c.doing (λ d. handle ≡ handle_of d.op) → (old new stored : List (Option Handle)) → old ≡ v.handles
    → stored ≡ new → new ≡ with_file handle (seen_by window view (file_of old handle)) old
    → IfSome doing (names_open (record v { handles = stored; doing = doing }))
open_looked c v next ready need same doing taken handle window view names old new stored same_old same_new set =
    subst (λ (x : ClientValue). IfSome x.doing (names_open x))
    (sym (mid_looked c v handle window view old new stored doing same same_old same_new set taken))
    (by_doing c.doing refl names)
  where
    by_doing : (o : Option Doing) → c.doing ≡ o → IfSome o (λ d. handle ≡ handle_of d.op)
        → IfSome (option_map (put_at (Working 0 0 0)) o)
        (names_open (put_back (seen_handles handle window view c.handles) c))
    by_doing None e named = tt
    by_doing (Some d) e named =
        subst (λ n. IsTrue (is_some (file_of (seen_handles handle window view c.handles) n))) named
        (open_seen c.handles handle window view
        (subst (λ n. IsTrue (is_some (file_of c.handles n))) (sym named) (open_here c next ready need d e)))

-- and after it was gone ahead with
pub open_after : (c v : ClientValue) (next : Need) → IsReady c → need_in c.doing ≡ Some next → v ≡ c
    → (doing : Option Doing) → doing ≡ option_map (put_at (Working 0 0 0)) v.doing → (handle window : ℕ) (view : View)
    → IfSome c.doing (λ d. handle ≡ handle_of d.op) → (old new stored : List (Option Handle)) → old ≡ v.handles
    → stored ≡ new → new ≡ with_file handle (seen_by window view (file_of old handle)) old
    → (fetch : Fetching) (to : Option Ahead) (then : ClientValue)
    → OnlyLooksUp fetch to (record v { handles = stored; doing = doing }) then
    → (now : List (Option Handle)) → now ≡ then.handles → IsSome (file_of now handle)
open_after c v next ready need same doing taken handle window view names old new stored same_old same_new set fetch to then
    only now is = by_doing c.doing refl names
  where
    handles : now ≡ seen_handles handle window view c.handles
    handles = is ∙ ap (λ (x : ClientValue). x.handles) only.after_is
        ∙ ap (λ (x : ClientValue). x.handles)
        (mid_looked c v handle window view old new stored doing same same_old same_new set taken)

    by_doing : (o : Option Doing) → c.doing ≡ o → IfSome o (λ d. handle ≡ handle_of d.op) → IsSome (file_of now handle)
    by_doing None e named =
        let none : need_in None ≡ Some next = sym (ap need_in e) ∙ need in
        absurd (cc none)
    by_doing (Some d) e named =
        subst (λ (hs : List (Option Handle)). IsSome (file_of hs handle)) (sym handles)
        (open_seen c.handles handle window view
        (subst (λ n. IsTrue (is_some (file_of c.handles n))) (sym named) (open_here c next ready need d e)))

-- a view that is dropped again
pub back_as : (v then : ClientValue) (handle window : ℕ) (old new stored : List (Option Handle)) → v ≡ then
    → old ≡ v.handles → stored ≡ new → new ≡ with_file handle (unseen_by window (file_of old handle)) old
    → record v { handles = stored }
    ≡ record then { handles = with_file handle (unseen_by window (file_of then.handles handle)) then.handles }
back_as v then handle window old new stored same same_old same_new dropped =
    ap (λ (hs : List (Option Handle)). record v { handles = hs })
    (same_new ∙ dropped ∙ ap (λ hs. with_file handle (unseen_by window (file_of hs handle)) hs) same_old)
    ∙ ap (λ (x : ClientValue). record x {
      handles = with_file handle (unseen_by window (file_of x.handles handle)) x.handles;
    }) same
