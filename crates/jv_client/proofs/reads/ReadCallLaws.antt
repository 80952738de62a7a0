-- What the calls of a reading that asks for something leave of the client is what the step promises.
use Rattle.std.proofs.Common.{◌≡◌, ℕ, ◌≤◌, List, Option, None, Some, Ok, refl, ap, subst, ◌∙◌}
use Rattle.std.specs.Option.{option_map}
use Rattle.jv_model.specs.declared.limits.TheConstants.{LAST_CLIENT}
use Rattle.jv_model.specs.declared.act.ActKind.TheVariants.{Look, Quiet}
use Rattle.jv_model.specs.declared.act.Told.TheVariants.{Refused as ToldRefused}
use Rattle.jv_model.specs.declared.fault.Fault.TheVariants.{NoMemory}
use Rattle.jv_model.specs.declared.op.Reply.TheVariants.{Refused}
use Rattle.jv_model.specs.declared.slice.BlockId.{BlockId}
use Rattle.jv_model.specs.promise.client.ModelClient.{file_of, with_file}
use Rattle.jv_model.specs.promise.client.Profile.{handle_of}
use Rattle.jv_model.specs.promise.blocks.BlockNames.{name_in}
use Rattle.jv_outside.specs.promise.Store.{Store}
use Rattle.jv_cache.specs.Cached.{Cached}
use Rattle.jv_data.specs.declared.looking.View.{View as Looked}
use Rattle.jv_data.specs.Records.{LooksAt}
use Rattle.jv_client_handles.specs.declared.handle.Handle.{Handle}
use Rattle.jv_client_handles.specs.Handles.{unseen_by}
use Rattle.jv_client_handles.proofs.UnseenLaws.{unseen_by-seen_by}
use Rattle.jv_client_shared.specs.promise.Shared.{Shared}
use Rattle.jv_yard.specs.BlockCalls.{GetsBlock}
use Rattle.jv_yard.specs.promise.YardValue.{YardValue}
use Rattle.jv_client_reads.specs.declared.need.Need.TheVariants.{Block as NeedsBlock, Look as NeedsLook, Nothing}
use Rattle.jv_client_reads.specs.Fetching.{Fetching}
use Rattle.jv_client.specs.declared.doing.Doing.{Doing}
use Rattle.jv_client.specs.declared.doing.Progress.TheVariants.{Reading, Working}
use Rattle.jv_client.specs.declared.made.Made.{Made}
use Rattle.jv_client.specs.declared.made.Made.TheVariants as made
use Rattle.jv_client.specs.declared.reading.Ahead.{Ahead}
use Rattle.jv_client.specs.declared.reading.Ahead.TheVariants.{Needs, Read}
use Rattle.jv_client.specs.ClientValue.{ClientValue, session_here}
use Rattle.jv_client.specs.Ending.{ended}
use Rattle.jv_client.specs.Getting.{Fills}
use Rattle.jv_client.specs.Makes.{Makes}
use Rattle.jv_client.specs.Reading.{ClientComesTo, GoesOnAfter, LooksOn, OnlyLooksUp, put_at, views_of}
use Rattle.jv_client.specs.UnderWay.{moved_to}
use Rattle.jv_client.proofs.steps.AnswerLaws.{makes-as}
use Rattle.jv_client.proofs.reads.ReaderLaws.{IsAsking, cached-known}
use Rattle.jv_client.proofs.reads.ReadingGoesOnLaws.{going_on, over}
use Rattle.jv_client.proofs.reads.LookLaws.{look-on, look-over, looked-on, not_seen, seen_handle, seen_handles, seen_opened}
use Rattle.jv_client.proofs.reads.LookLaws.{view_of}
use Rattle.jv_client.proofs.reads.RefusedLookLaws.{look-out}
use Rattle.jv_client.proofs.reads.BlockReadLaws.{get-on, get-out, get-over}
use Rattle.jv_client_reads.proofs.CacheLaws.{cache_of-looks, for_looks}

-- the client whose reading was taken out, with these handles and this cache
abbrev pub taken_out : List (Option Handle) → Cached → Doing → ClientValue → ClientValue
taken_out handles cache d h = record h {
  handles = handles;
  cache = Some cache;
  doing = Some (put_at (Working 0 0 0) d);
}

-- ---- what was looked up

-- of that client
record LookedUp (fetch : Fetching) (to : Option Ahead) (handles : List (Option Handle)) (file : Handle) (cache : Cached)
    (d : Doing) (h after : ClientValue) : Type 0 where
  later : Cached
  looks : LooksOn file.views fetch to cache later
  after_is : after ≡ taken_out handles later d h

looked_up : (fetch : Fetching) (to : Option Ahead) (handles : List (Option Handle)) (file : Handle) (cache : Cached)
    (d : Doing) (h after : ClientValue) → file_of handles (handle_of d.op) ≡ Some file
    → OnlyLooksUp fetch to (taken_out handles cache d h) after → LookedUp fetch to handles file cache d h after
looked_up fetch to handles file cache d h after opened only =
    let same : only.cache ≡ cache = (let was : Some cache ≡ Some only.cache = only.was in cc) in
    let by_views : LooksOn file.views fetch to only.cache only.later =
    subst (λ (o : Option Handle). LooksOn (views_of o) fetch to only.cache only.later) opened only.looks in
    record {
      later = only.later;
      looks = subst (λ (cache : Cached). LooksOn file.views fetch to cache only.later) same by_views;
      after_is = only.after_is;
    }

-- ---- a look

module _ (now entry block : ℕ) (h : ClientValue) (d : Doing) (offset len : ℕ) (cache : Cached) (fetch : Fetching)
    (window : ℕ) (asks : IsAsking block h d offset len cache fetch (NeedsLook window)) (before : Shared)
    (length_is : before.yard.setting.block ≡ block) (keeper : Store) (looked : Looked)
    (looks : LooksAt (session_here h) asks.reads.file.inode window before.keeper keeper (Ok looked)) where
  abbrev file : Handle
  file = asks.reads.file

  abbrev handles : List (Option Handle)
  handles = seen_handles (handle_of d.op) window (view_of entry looked) h.handles

  abbrev seen : Handle
  seen = seen_handle window (view_of entry looked) file

  abbrev used : Shared
  used = record before { keeper = keeper }

  opened : file_of handles (handle_of d.op) ≡ Some seen
  opened = seen_opened (handle_of d.op) window (view_of entry looked) h.handles file asks.reads.opened

  -- the reading goes ahead
  pub look-came : (ahead : Ahead) (then after : ClientValue) (done : Made)
      → OnlyLooksUp fetch (Some ahead) (taken_out handles cache d h) then
      → ClientComesTo fetch (taken_out handles cache d h) ahead
      → GoesOnAfter (Look file.inode window) ahead then after done → Makes now entry h after before used done
  look-came (Needs f need) then after done only comes goes =
      let up = looked_up fetch (Some (Needs f need)) handles seen cache d h then opened only in
      let to = comes (put_at (Working 0 0 0) d) seen cache refl opened refl in
      let is : after ≡ going_on handles up.later f need d h =
      goes.0 ∙ ap (λ (x : ClientValue). record x { doing = option_map (moved_to (Reading f need)) x.doing }) up.after_is in
      makes-as now entry h after (going_on handles up.later f need d h) before used used done
      (made.Request (Look file.inode window)) is refl goes.1
      (look-on now entry block h d offset len cache fetch window asks before length_is keeper looked looks up.later
      f need up.looks to.0 to.1 to.2 to.3)
  look-came (Read found) then after done only comes goes =
      let up = looked_up fetch (Some (Read found)) handles seen cache d h then opened only in
      let to = comes (put_at (Working 0 0 0) d) seen cache refl opened refl in
      let is : after ≡ over handles up.later h = goes.after_is ∙ ap ended up.after_is in
      makes-as now entry h after (over handles up.later h) before used used done _ is refl goes.made_is
      (look-over now entry block h d offset len cache fetch window asks before length_is keeper looked looks up.later
      up.looks found to)

  -- or memory ran out then, and the view is dropped again
  pub look-lost : (then after : ClientValue) (done : Made) → OnlyLooksUp fetch None (taken_out handles cache d h) then
      → after ≡ ended (record then {
        handles = with_file (handle_of d.op) (unseen_by window (file_of then.handles (handle_of d.op))) then.handles;
      })
      → done ≡ made.Answer (ToldRefused NoMemory) (Refused NoMemory)
      → Makes now entry h after before used done
  look-lost then after done only after_is made_is =
      let up = looked_up fetch None handles seen cache d h then opened only in
      let some = up.looks in
      let back : with_file (handle_of d.op) (unseen_by window (file_of handles (handle_of d.op))) handles ≡ h.handles =
      unseen_by-seen_by window (view_of entry looked) h.handles (handle_of d.op) file asks.reads.opened
      (not_seen file.views fetch.parts window asks.wants.1) handles refl in
      let is : after ≡ over h.handles up.later h =
      after_is
      ∙ ap (λ (x : ClientValue). ended (record x {
        handles = with_file (handle_of d.op) (unseen_by window (file_of x.handles (handle_of d.op))) x.handles;
      })) up.after_is
      ∙ ap (λ (handles : List (Option Handle)). over handles up.later h) back in
      makes-as now entry h after (over h.handles up.later h) before used used done
      (made.Answer (ToldRefused NoMemory) (Refused NoMemory)) is refl made_is
      (look-out now entry block h d offset len cache fetch window asks before length_is keeper up.later
      (looked-on now entry block h d offset len cache fetch window asks before length_is keeper looked looks
      (made.Answer (ToldRefused NoMemory) (Refused NoMemory)) (over h.handles up.later h) refl some.0 up.later some.1
      (λ goes. absurd (cc goes)))
      (λ s g has client. cache_of-looks g.sizes before.yard.setting.block g.blocks cache up.later
      (for_looks Nothing cache up.later some.1.looks)
      (cached-known asks before length_is s g has client))
      looks.looks.rows_are looks.looks.opened_at looks.looks.counts)

-- ---- a block

module _ (now entry block : ℕ) (h : ClientValue) (d : Doing) (offset len : ℕ) (cache : Cached) (fetch : Fetching)
    (b : BlockId) (asks : IsAsking block h d offset len cache fetch (NeedsBlock b)) (before : Shared)
    (length_is : before.yard.setting.block ≡ block) (low : h.id ≤ LAST_CLIENT) (yard : YardValue) (bytes : List ℕ)
    (gets : GetsBlock h.id (name_in before.yard.setting b) before.yard yard (Ok (Some bytes))) (filled : Fetching)
    (kept : Cached) (fills : Fills b bytes fetch filled cache kept) where
  abbrev now_used : Shared
  now_used = record before { yard = yard }

  pub get-came : (ahead : Ahead) (then after : ClientValue) (done : Made)
      → OnlyLooksUp filled (Some ahead) (taken_out h.handles kept d h) then
      → ClientComesTo filled (taken_out h.handles kept d h) ahead
      → GoesOnAfter Quiet ahead then after done → Makes now entry h after before now_used done
  get-came (Needs f need) then after done only comes goes =
      let up = looked_up filled (Some (Needs f need)) h.handles asks.reads.file kept d h then asks.reads.opened only in
      let to = comes (put_at (Working 0 0 0) d) asks.reads.file kept refl asks.reads.opened refl in
      let is : after ≡ going_on h.handles up.later f need d h =
      goes.0 ∙ ap (λ (x : ClientValue). record x { doing = option_map (moved_to (Reading f need)) x.doing }) up.after_is in
      makes-as now entry h after (going_on h.handles up.later f need d h) before now_used now_used done (made.Request Quiet) is refl
      goes.1
      (get-on now entry block h d offset len cache fetch b asks before length_is low yard bytes gets filled kept fills
      up.later (Some (Needs f need)) up.looks f need refl to.0 to.1 to.2 to.3)
  get-came (Read found) then after done only comes goes =
      let up = looked_up filled (Some (Read found)) h.handles asks.reads.file kept d h then asks.reads.opened only in
      let to = comes (put_at (Working 0 0 0) d) asks.reads.file kept refl asks.reads.opened refl in
      let is : after ≡ over h.handles up.later h = goes.after_is ∙ ap ended up.after_is in
      makes-as now entry h after (over h.handles up.later h) before now_used now_used done _ is refl goes.made_is
      (get-over now entry block h d offset len cache fetch b asks before length_is low yard bytes gets filled kept fills
      up.later (Some (Read found)) up.looks found refl to)

  -- or memory ran out then
  pub get-lost : (then after : ClientValue) (done : Made) → OnlyLooksUp filled None (taken_out h.handles kept d h) then
      → after ≡ ended then → done ≡ made.Answer (ToldRefused NoMemory) (Refused NoMemory)
      → Makes now entry h after before now_used done
  get-lost then after done only after_is made_is =
      let up = looked_up filled None h.handles asks.reads.file kept d h then asks.reads.opened only in
      makes-as now entry h after (over h.handles up.later h) before now_used now_used done
      (made.Answer (ToldRefused NoMemory) (Refused NoMemory)) (after_is ∙ ap ended up.after_is) refl made_is
      (get-out now entry block h d offset len cache fetch b asks before length_is low yard bytes gets filled kept fills
      up.later None up.looks refl)
