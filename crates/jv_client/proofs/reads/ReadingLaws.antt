-- Readings: how one begins, goes ahead without a request, and what it returns.
use Rattle.std.proofs.Common.{◌≡◌, ℕ, zero, ◌+◌, ◌-◌, ◌*◌, ◌/◌, ◌≤◌, ◌<◌, true, false, List, [], length}
use Rattle.std.proofs.Common.{suc, Option, None, Some, refl, sym, ap, subst, ◌∙◌, arith}
use Rattle.std.specs.Prelude.{is_some, not, IfSome, IsSomeAnd, IsTrue}
use Rattle.std.specs.Option.{option_map}
use Rattle.jv_model.specs.declared.limits.TheConstants.{FILE_END, WINDOW}
use Rattle.jv_model.specs.declared.op.Op.TheVariants as op
use Rattle.jv_model.specs.declared.profile.Does.{Does}
use Rattle.jv_model.specs.declared.profile.Does.TheVariants as does
use Rattle.jv_model.specs.declared.slice.BlockId.{BlockId}
use Rattle.jv_model.specs.promise.client.ModelClient.{ModelClient, OpenFile, file_of}
use Rattle.jv_model.specs.promise.client.Profile.{handle_of}
use Rattle.jv_model.specs.promise.client.Submission.{is_flushed}
use Rattle.jv_model.specs.promise.journal.Reading.{Asked, asked_parts, reading}
use Rattle.jv_model.specs.promise.journal.Steps.{asked_of}
use Rattle.jv_cache.specs.Cached.{Cached}
use Rattle.jv_volume_bytes.specs.promise.Blocks.{Blocks, known_by}
use Rattle.jv_volume_bytes.specs.promise.Bytes.{KnownBytes}
use Rattle.jv_client_shared.specs.promise.Shared.{Known, Shared}
use Rattle.jv_client_handles.specs.declared.handle.Handle.{Handle}
use Rattle.jv_client_handles.specs.Held.{IsHandle}
use Rattle.jv_client_handles.specs.Views.{SeenViews, view_at}
use Rattle.jv_client_handles.proofs.HandleLaws.{handles-there}
use Rattle.jv_client_reads.specs.declared.need.Need.{Need}
use Rattle.jv_client_reads.specs.declared.need.Need.TheVariants.{Block as NeedsBlock, Look as NeedsLook, Nothing}
use Rattle.jv_client_reads.specs.Fetching.{Fetching, begins, fetched_of}
use Rattle.jv_client_reads.specs.Going.{CanFetch, IsFetching}
use Rattle.jv_client_reads.specs.Ahead.{blocks_ahead}
use Rattle.jv_client_reads.specs.Calls.{AreSizedBy, Asks, AsksSome, HasCached, IsCacheOf, Wants, cache_key}
use Rattle.jv_client_reads.specs.Calls.{first_seen}
use Rattle.jv_client_reads.specs.Shows.{IsReadBy, One, Two}
use Rattle.jv_client_reads.proofs.CacheLaws.{LooksUp, cache_of-empty, cache_of-has, cache_of-looks, looks_keep}
use Rattle.jv_client_reads.proofs.FetchLaws.{by_parts, fetches_go_on}
use Rattle.jv_client_reads.proofs.SameLaws.{fetches_show}
use Rattle.jv_client.specs.declared.doing.Doing.{Doing}
use Rattle.jv_client.specs.declared.doing.Flush.TheVariants as flush
use Rattle.jv_client.specs.declared.doing.Progress.{Progress}
use Rattle.jv_client.specs.declared.doing.Progress.TheVariants.{Working, Reading}
use Rattle.jv_client.specs.declared.reading.Ahead.{Ahead}
use Rattle.jv_client.specs.declared.reading.Ahead.TheVariants as ahead
use Rattle.jv_client.specs.declared.reading.Found.{Found}
use Rattle.jv_client.specs.ClientValue.{ClientValue}
use Rattle.jv_client.specs.Held.{GoesOn, IsClient, IsHeld, flush_of_code, segment_left}
use Rattle.jv_client.specs.UnderWay.{FlushesFor, Closes, Syncs, Describes, ReadsNothing, Reads, Truncates as CutsOff}
use Rattle.jv_client.specs.UnderWay.{IsForm, Mounts, Transacts, Leaves, Writes, Flushes, Copies, SaysStats}
use Rattle.jv_client.specs.UnderWay.{IsAt, IsReading, IsReady, IsUnderWay, LacksNeed, does_of, has_segment, left}
use Rattle.jv_client.specs.UnderWay.{covered, left_of, reading_steps, steps_in, steps_left, steps_of}
use Rattle.jv_client.specs.Reading.{Already, Begins, ClientComesTo, ComesTo, FromStart, GoesAhead, IsAhead, IsCachedAs}
use Rattle.jv_client.specs.Reading.{IsMade, LookedUp, LooksOn, OnlyLooksUp, ReadsAtOnce, Untouched, cache_in, need_at, need_in}
use Rattle.jv_client.specs.Reading.{new_cache, put_at, read_of, start_ahead, views_in}
use Rattle.jv_client.proofs.begun.FormLaws.{that_does, under_way}
use Rattle.jv_client.proofs.reads.LookedUpLaws.{looks-on, views-in}

-- ---- an operation that reads

-- what its form says
pub record ReadsFile (h : ClientValue) (d : Doing) (offset len : ℕ) : Type 0 where
  pub handle : ℕ
  pub file : Handle
  pub op_is : d.op ≡ op.Read handle offset len
  pub first : d.flush ≡ flush.File file.inode
  pub opened : file_of h.handles handle ≡ Some file
  pub session : IsTrue (is_some h.session)
  pub some : 0 < len
  pub long : len ≤ WINDOW
  pub low : offset < FILE_END

module _ (h : ClientValue) (d : Doing) (offset len : ℕ) (is : d.does ≡ does.Reads offset len) where
  reads-for : (handle : ℕ) (file : Handle) → FlushesFor d handle → d.flush ≡ flush.File file.inode
      → file_of h.handles handle ≡ Some file → IsTrue (is_some h.session) → ReadsFile h d offset len
  reads-for handle file (Closes o e) first opened session = absurd (let f = sym e ∙ is in cc)
  reads-for handle file (Syncs o e) first opened session = absurd (let f = sym e ∙ is in cc)
  reads-for handle file (Describes o e) first opened session = absurd (let f = sym e ∙ is in cc)
  reads-for handle file (ReadsNothing from n o e) first opened session = absurd (let f = sym e ∙ is in cc)
  reads-for handle file (Reads from n o e some long low) first opened session =
      let same : does.Reads from n ≡ does.Reads offset len = sym e ∙ is in
      let start : from ≡ offset = cc same in
      let size : n ≡ len = cc same in
      record {
        handle = handle;
        file = file;
        op_is = o ∙ ap (λ from. op.Read handle from n) start ∙ ap (op.Read handle offset) size;
        first = first;
        opened = opened;
        session = session;
        some = omega (arith, some, size);
        long = omega (arith, long, size);
        low = omega (arith, low, start);
      }
  reads-for handle file (CutsOff n o e) first opened session = absurd (let f = sym e ∙ is in cc)

  pub reads-file : IsForm h d → ReadsFile h d offset len
  reads-file (Mounts o e first) = absurd (let f = sym e ∙ is in cc)
  reads-file (Transacts o spelled e first session) = absurd (let f = sym e ∙ is in cc)
  reads-file (Leaves o e first session) = absurd (let f = sym e ∙ is in cc)
  reads-file (Writes handle from bytes file o e opened short room session) = absurd (let f = sym e ∙ is in cc)
  reads-file (Flushes handle file for first opened session) = reads-for handle file for first opened session
  reads-file (Copies source from target to n file other o e first opened second session) =
      absurd (let f = sym e ∙ is in cc)
  reads-file (SaysStats o e first session) = absurd (let f = sym e ∙ is in cc)

-- an operation that reads is in progress, by a handle that is open
pub record ReadsHere (h : ClientValue) (offset len : ℕ) : Type 0 where
  pub d : Doing
  pub busy : h.doing ≡ Some d
  pub does_is : d.does ≡ does.Reads offset len
  pub file : ReadsFile h d offset len
  pub opened : file_of h.handles (handle_of d.op) ≡ Some file.file

pub reads-here : (h : ClientValue) (offset len : ℕ) → does_of h.doing ≡ Some (does.Reads offset len) → IsReady h
    → ReadsHere h offset len
reads-here h offset len reads ready =
    let that = that_does h.doing (does.Reads offset len) reads in
    let d : Doing = that.0 in
    let file = reads-file h d offset len that.2 (under_way h d that.1 ready).form in
    record {
      d = d;
      busy = that.1;
      does_is = that.2;
      file = file;
      opened = ap (λ o. file_of h.handles (handle_of o)) file.op_is ∙ file.opened;
    }

-- what it flushes is committed

pub flushed-here : (h : ClientValue) (d : Doing) → h.doing ≡ Some d → left h ≡ None
    → segment_left d.flush h.pending ≡ None
flushed-here h d busy none = ap (left_of h.pending) (sym busy) ∙ none

pub flushed-model : (g : Known) (v : Shared) (m : ModelClient) (count : ℕ) (h : ClientValue) (d : Doing)
    → IsHeld g v m count h → h.doing ≡ Some d → left h ≡ None
    → is_flushed (flush_of_code d.flush) m.pending ≡ true
flushed-model g v m count h d held busy none =
    ap (is_flushed (flush_of_code d.flush)) held.pending ∙ ap (λ o. not (is_some o)) (flushed-here h d busy none)

-- and it made no request yet
pub record NotBegun (d : Doing) : Type 0 where
  pub started : ℕ
  pub id : ℕ
  pub progress : d.progress ≡ Working 0 started id

pub not-begun : (h : ClientValue) (d : Doing) → IsUnderWay h d → segment_left d.flush h.pending ≡ None
    → need_at d.progress ≡ None → NotBegun d
not-begun h d under none first = by_progress d.progress refl under.at first
  where
    by_progress : (p : Progress) → d.progress ≡ p → IsAt h d p → need_at p ≡ None → NotBegun d
    by_progress (Working zero started id) e at first = record { started = started; id = id; progress = e }
    by_progress (Working (suc quiets) started id) e at first =
        let some : 0 < suc quiets = omega arith in
        let segment : has_segment h d ≡ true = at.segment some in
        let never : has_segment h d ≡ false = ap is_some none in
        absurd (cc (sym segment ∙ never))
    by_progress (Reading fetch next) e at first = absurd (cc first)

-- ---- what the handle's views show, in the model

module _ (g : Known) (v : Shared) (m : ModelClient) (count : ℕ) (h : ClientValue) (held : IsHeld g v m count h)
    (number : ℕ) (file : Handle) (opened : file_of h.handles number ≡ Some file) where
  pub there : (model : OpenFile) × (file_of m.handles number ≡ Some model)
      × IsHandle g v m.views count number model file
  there = handles-there g v m.views count m.handles h.handles held.handles number file opened

  pub sized-here : AreSizedBy g.sizes file.views
  sized-here = fetches_show.sized g v m.views count number there.0 file there.2

  pub reads-as : (offset len : ℕ) (read : ℕ × ℕ × List ℕ) → 0 < len → offset < FILE_END → len ≤ WINDOW
      → IsReadBy (known_by v.yard.setting.block g.blocks) file.views (asked_parts offset len) read
      → reading m.views number there.0 (asked_parts offset len) read.0 read.1 ≡ Some read.2
  reads-as offset len read some low long by =
      fetches_show.same g v m.views count number offset len there.0 file read some low long there.2 by

-- the first window was seen
pub seen_first : (known_bytes : KnownBytes) (views : SeenViews) (parts : List Asked) (read : ℕ × ℕ × List ℕ)
    → IsReadBy known_bytes views parts read → first_seen views parts
seen_first known_bytes views parts read (One asked others view is seen ends e) =
    subst (first_seen views) (sym is) (ap is_some seen)
seen_first known_bytes views parts read (Two asked other view next is seen full after e) =
    subst (first_seen views) (sym is) (ap is_some seen)

pub seen_window : (views : SeenViews) (offset len : ℕ) → 0 < len → offset < FILE_END
    → first_seen views (asked_parts offset len) → is_some (view_at views (offset / WINDOW)) ≡ true
seen_window views offset len some low =
    by_parts offset len some low (λ parts. first_seen views parts → is_some (view_at views (offset / WINDOW)) ≡ true)
    (λ single seen. seen) (λ double seen. seen)

-- ---- a reading that has begun before

module _ (h : ClientValue) where
  reading_in : (o : Option Doing) (next : Need) → need_in o ≡ Some next
      → (d : Doing) × (fetch : Fetching) × (o ≡ Some d) × (d.progress ≡ Reading fetch next)
  reading_in None next e = absurd (cc e)
  reading_in (Some d) next e = by_progress d.progress refl e
    where
      by_progress : (p : Progress) → d.progress ≡ p → need_at p ≡ Some next
          → (d' : Doing) × (fetch : Fetching) × (Some d ≡ Some d') × (d'.progress ≡ Reading fetch next)
      by_progress (Working quiets started id) is e = absurd (cc e)
      by_progress (Reading fetch other) is e = (d, fetch, refl, is ∙ ap (Reading fetch) (cc e))

  pub ahead-already : (block : ℕ) (next : Need) → IsReady h → need_in h.doing ≡ Some next → IsAhead block h h
  ahead-already block next ready needs =
      let at = reading_in h.doing next needs in
      let d : Doing = at.0 in
      let fetch : Fetching = at.1 in
      let is : d ≡ put_at (Reading fetch next) d = ap (λ p. put_at p d) at.3 in
      let reads : IsReading h d fetch next = subst (IsAt h d) at.3 (under_way h d at.2 ready).at in
      record {
        d = d;
        fetch = fetch;
        next = next;
        busy = at.2;
        needs = λ cache there. Already at.3 there;
        is = ap (λ o. record h { doing = o }) (at.2 ∙ ap Some is);
        reads = reads.read;
        fewer = omega arith;
        goes = λ g v m count block_is client. (
          subst (λ (p : Progress). GoesOn g v h (put_at p d) p) at.3
              (subst (λ (o : Option Doing). IfSome o (λ (d : Doing). GoesOn g v h d d.progress)) at.2 client.reading),
          client.cache,
        );
      }

-- ---- a block that is needed isn't in the cache

-- when it is asked for
pub asks-lacks : (due rest : List BlockId) (next : Need) (before after : Cached) → Asks due rest next before after
    → LacksNeed next before
asks-lacks due rest (NeedsLook window) before after asks = tt
asks-lacks due rest (NeedsBlock b) before after asks = asks.looks.last.1
asks-lacks due rest Nothing before after asks = tt

-- where nothing is needed, each block that was ahead was looked up and is there
pub asks-all : (due rest : List BlockId) (next : Need) (before after : Cached) → next ≡ Nothing → rest ≡ []
    → Asks due rest next before after → Asks due [] Nothing before after
asks-all due rest next before after none all asks =
    subst (λ (rest : List BlockId). Asks due rest Nothing before after) all
    (subst (λ n. Asks due rest n before after) none asks)

-- and after look-ups
pub lacks-later : (next : Need) (before after : Cached) → LooksUp before after → LacksNeed next before
    → LacksNeed next after
lacks-later (NeedsLook window) before after looks lacks = tt
lacks-later (NeedsBlock b) before after looks lacks =
    λ bytes found. lacks bytes (sym (looks_keep before after looks (cache_key b)) ∙ found)
lacks-later Nothing before after looks lacks = tt

-- ---- a reading begins

-- a cache that is there, or a new one
pub record HasCache (h : ClientValue) (cache : Cached) : Type 0 where
  pub is : cache ≡ cache_in h.limits.entries h.cache
  pub knows : (sizes : ℕ → ℕ) (block : ℕ) (blocks : Blocks) → IfSome h.cache (IsCacheOf sizes block blocks)
      → IsCacheOf sizes block blocks cache

module _ (offset len block : ℕ) (h : ClientValue) (d : Doing) (busy : h.doing ≡ Some d)
    (is : d.does ≡ does.Reads offset len) (ready : IsReady h) (none : left h ≡ None) (first : need_in h.doing ≡ None)
    (on : ReadsFile h d offset len) where
  abbrev start : Fetching
  start = begins block (asked_parts offset len)

  opened : file_of h.handles (handle_of d.op) ≡ Some on.file
  opened = ap (λ o. file_of h.handles (handle_of o)) on.op_is ∙ on.opened

  not_begun : NotBegun d
  not_begun = not-begun h d (under_way h d busy ready) (flushed-here h d busy none) (ap need_in (sym busy) ∙ first)

  -- the steps that are left before it
  most : steps_left h ≡ 3 * length (covered d.flush h.pending) + (len + 2) - 0
  most =
      ap (steps_of h.pending) busy
      ∙ ap (λ (p : Progress). steps_in h.pending (record d { progress = p })) not_begun.progress
      ∙ ap (λ (x : Does). 3 * length (covered d.flush h.pending) + reading_steps x - 0) is

  module _ (cache later : Cached) (has : HasCache h cache) (looks : LooksUp cache later) where
    abbrev went : ClientValue
    went = record h { cache = Some later }

    later-knows : (sizes : ℕ → ℕ) (block : ℕ) (blocks : Blocks) → IfSome h.cache (IsCacheOf sizes block blocks)
        → IsCacheOf sizes block blocks later
    later-knows sizes block blocks known =
        cache_of-looks sizes block blocks cache later looks (has.knows sizes block blocks known)

    -- what it has ahead
    abbrev due : List BlockId
    due = blocks_ahead on.file.views start

    same-ahead : start_ahead offset len block h ≡ due
    same-ahead = ap (λ (views : SeenViews). blocks_ahead views start) (views-in h d on.file busy opened)

    pub begins-cached : (rest : List BlockId) → Asks due rest Nothing cache later → IsCachedAs offset len block h went
    begins-cached rest asks = record {
      cache = Some later;
      rest = rest;
      after_is = refl;
      ahead = LookedUp rest later
          (subst (λ (bs : List BlockId). Asks bs rest Nothing (cache_in h.limits.entries h.cache) later) (sym same-ahead)
          (subst (λ (cache : Cached). Asks due rest Nothing cache later) has.is asks)) refl;
      knows = later-knows;
    }

    -- it is under way by the views of its handle
    reads-on : (sizes : ℕ → ℕ) (blocks : Blocks) → AreSizedBy sizes on.file.views
        → IfSome h.cache (IsCacheOf sizes block blocks) → HasCached blocks on.file.views block cache
    reads-on sizes blocks sized known =
        cache_of-has sizes block blocks on.file.views cache sized (has.knows sizes block blocks known)

    begins-well : (blocks : Blocks) → IsFetching blocks on.file.views (asked_parts offset len) start
    begins-well blocks = fetches_go_on.begin blocks on.file.views block offset len on.some on.low

    -- and needs something
    module _ (fetch : Fetching) (next : Need) (comes : ComesTo on.file.views cache start (ahead.Needs fetch next))
        (for : Asks due (blocks_ahead on.file.views fetch) next cache later) where
      abbrev put : Doing
      put = put_at (Reading fetch next) d

      abbrev began : ClientValue
      began = record went { doing = Some put }

      goes : GoesAhead on.file.views cache start fetch
      goes = comes.0

      began-goes : (g : Known) (v : Shared) (m : ModelClient) (count : ℕ) → v.yard.setting.block ≡ block
          → IsClient g v m count h
          → GoesOn g v began put (Reading fetch next) × IfSome began.cache (IsCacheOf g.sizes v.yard.setting.block g.blocks)
      began-goes g v m count same client =
          let sized = sized-here g v m count h client.held (handle_of d.op) on.file opened in
          let known = subst (λ block. IfSome h.cache (IsCacheOf g.sizes block g.blocks)) same client.cache in
          let fetching : IsFetching g.blocks on.file.views (asked_parts offset len) fetch =
          goes.reads g.blocks (asked_parts offset len) (reads-on g.sizes g.blocks sized known) (begins-well g.blocks) in
          let asked : IsFetching g.blocks on.file.views (asked_of d.does) fetch =
          subst (λ (x : Does). IsFetching g.blocks on.file.views (asked_of x) fetch) (sym is) fetching in (
            subst (λ (o : Option Handle). IsSomeAnd o (λ (handle : Handle). (fetch.block ≡ v.yard.setting.block)
                × IsFetching g.blocks handle.views (asked_of d.does) fetch)) (sym opened) (goes.block ∙ sym same, asked),
            later-knows g.sizes v.yard.setting.block g.blocks client.cache,
          )

      pub begins-ahead : IsAhead block h began
      begins-ahead = record {
        d = d;
        fetch = fetch;
        next = next;
        busy = busy;
        needs = λ other there.
            let same : Some later ≡ Some other = there in
            let one : later ≡ other = cc same in
            FromStart offset len on.file (ap need_in (sym busy) ∙ first) is opened
            (subst (λ (cache : Cached). GoesAhead on.file.views cache start fetch) has.is goes) comes.1
            (subst (Asks due (blocks_ahead on.file.views fetch) next (cache_in h.limits.entries h.cache)) one
            (subst (λ (cache : Cached). Asks due (blocks_ahead on.file.views fetch) next cache later) has.is for));
        is = refl;
        reads = (offset, len, is);
        fewer = (let few = goes.few in let weight = fetches_go_on.weight block offset len on.some on.low in
            omega (arith, few, weight, most));
        goes = began-goes;
      }

      began-reads : IsReading began put fetch next
      began-reads = record {
        read = (offset, len, is);
        flushed = ap is_some (flushed-here h d busy none);
        goes_on = subst (λ (o : Option Handle). IsSomeAnd o (λ (handle : Handle). CanFetch handle.views fetch
            × Wants handle.views fetch next)) (sym opened) (goes.can tt, comes.1);
        more = comes.2;
        cache = refl;
        lacks = lacks-later next cache later looks comes.3;
      }

      pub begins-ready : IsReady began
      begins-ready = record {
        buffer = ready.buffer;
        doing = record {
          form = Flushes on.handle on.file (Reads offset len on.op_is is on.some on.long on.low) on.first on.opened
              on.session;
          at = began-reads;
          asks = λ moved. refl;
        };
      }

    -- or it has read all
    pub begins-read : (found : Found) → ComesTo on.file.views cache start (ahead.Read found)
        → Asks due [] Nothing cache later → ReadsAtOnce offset len block h went found
    unfolding begins-cached
    begins-read found comes asks = record {
      same = begins-cached [] asks;
      all = refl;
      read = λ d' file sizes blocks busy' opened' sized known.
          let same : d ≡ d' = (let both : Some d ≡ Some d' = sym busy ∙ busy' in cc both) in
          let named : Some on.file ≡ Some file = sym opened ∙ ap (λ (d : Doing). file_of h.handles (handle_of d.op)) same
          ∙ opened' in
          let file_is : on.file ≡ file = cc named in
          subst (λ (file : Handle). IsReadBy (known_by block blocks) file.views (asked_parts offset len) (read_of found))
          file_is
          (comes blocks (asked_parts offset len)
          (reads-on sizes blocks (subst (λ (file : Handle). AreSizedBy sizes file.views) (sym file_is) sized) known)
          (begins-well blocks));
    }

-- ---- it has read all

pub reads-all : (views : SeenViews) (cache : Cached) (fetch next : Fetching) (need : Need) (found : Found)
    → next.block ≡ fetch.block → need ≡ Nothing → Wants views next need
    → ((blocks : Blocks) (all : List Asked) → HasCached blocks views fetch.block cache
    → IsFetching blocks views all fetch → IsFetching blocks views all next)
    → read_of found ≡ fetched_of next → ComesTo views cache fetch (ahead.Read found)
reads-all views cache fetch next need found block none wants reads is = λ blocks all cached fetching.
    let over : Wants views next Nothing = subst (Wants views next) none wants in
    let by : IsReadBy (known_by next.block blocks) views all (fetched_of next) =
    fetches_show.done blocks views all next over.1 (reads blocks all cached fetching) in
    subst (λ n. IsReadBy (known_by n blocks) views all (read_of found)) block
    (subst (IsReadBy (known_by next.block blocks) views all) (sym is) by)

-- ---- with the cache that is there, or a new one

made_cache : (entries : ℕ) (before after : Option Cached) (cache : Cached) → IsMade entries before after
    → after ≡ Some cache → (sizes : ℕ → ℕ) (block : ℕ) (blocks : Blocks) → IfSome before (IsCacheOf sizes block blocks)
    → IsCacheOf sizes block blocks cache
made_cache entries (Some old) after cache made is sizes block blocks known =
    let both : Some old ≡ Some cache = sym made ∙ is in
    let same : old ≡ cache = cc both in
    subst (IsCacheOf sizes block blocks) same known
made_cache entries None after cache made is sizes block blocks known =
    let both : Some (new_cache entries) ≡ Some cache = sym made ∙ is in
    let same : new_cache entries ≡ cache = cc both in
    cache_of-empty sizes block blocks cache (ap (λ (cache : Cached). cache.blocks) (sym same))

made_in : (entries : ℕ) (before after : Option Cached) (cache : Cached) → IsMade entries before after
    → after ≡ Some cache → cache ≡ cache_in entries before
made_in entries (Some old) after cache made is =
    let both : Some old ≡ Some cache = sym made ∙ is in
    let same : old ≡ cache = cc both in
    sym same
made_in entries None after cache made is =
    let both : Some (new_cache entries) ≡ Some cache = sym made ∙ is in
    let same : new_cache entries ≡ cache = cc both in
    sym same

module _ (entries : ℕ) (h middle after : ClientValue) (made : Option Cached) (entries_are : entries ≡ h.limits.entries)
    (is_made : IsMade entries h.cache made)
    (middle_is : middle ≡ record h { cache = made }) (fetch : Fetching) (to : Option Ahead)
    (looks : OnlyLooksUp fetch to middle after) where
  was : made ≡ Some looks.cache
  was = sym (ap (λ (h : ClientValue). h.cache) middle_is) ∙ looks.was

  has_cache : HasCache h looks.cache
  has_cache = record {
    is = made_in entries h.cache made looks.cache is_made was
        ∙ ap (λ n. cache_in n h.cache) entries_are;
    knows = made_cache entries h.cache made looks.cache is_made was;
  }

  after_went : after ≡ record h { cache = Some looks.later }
  after_went = looks.after_is ∙ ap (λ (h : ClientValue). record h { cache = Some looks.later }) middle_is

  looks-up : LooksUp looks.cache looks.later
  looks-up = looks-on (views_in middle) fetch to looks.cache looks.later looks.looks

  -- the same views
  looks-here : LooksOn (views_in h) fetch to looks.cache looks.later
  looks-here = subst (λ (c : ClientValue). LooksOn (views_in c) fetch to looks.cache looks.later) middle_is looks.looks

  -- it failed
  pub ahead-cached : (offset len block : ℕ) → fetch ≡ begins block (asked_parts offset len) → to ≡ None
      → IsCachedAs offset len block h after
  ahead-cached offset len block starts none =
      let some : AsksSome (start_ahead offset len block h) looks.cache looks.later =
      subst (λ (f : Fetching). AsksSome (blocks_ahead (views_in h) f) looks.cache looks.later) starts
      (subst (λ o. LooksOn (views_in h) fetch o looks.cache looks.later) none looks-here) in
      record {
        cache = Some looks.later;
        rest = some.0;
        after_is = after_went;
        ahead = LookedUp some.0 looks.later
            (subst (λ (cache : Cached). Asks (start_ahead offset len block h) some.0 Nothing cache looks.later) has_cache.is
            some.1) refl;
        knows = λ sizes block blocks known.
            cache_of-looks sizes block blocks looks.cache looks.later looks-up
            (has_cache.knows sizes block blocks known);
      }

  module _ (offset len block : ℕ) (does : does_of h.doing ≡ Some (does.Reads offset len)) (ready : IsReady h)
      (none : left h ≡ None) (first : need_in h.doing ≡ None) where
    abbrev here : ReadsHere h offset len
    here = reads-here h offset len does ready

    comes-here : (fetch : Fetching) (outcome ahead : Ahead) → fetch ≡ begins block (asked_parts offset len)
        → outcome ≡ ahead → ClientComesTo fetch middle outcome
        → ComesTo here.file.file.views looks.cache (begins block (asked_parts offset len)) ahead
    comes-here fetch outcome ahead of_fetch of_ahead comes =
        subst (ComesTo here.file.file.views looks.cache (begins block (asked_parts offset len))) of_ahead
        (subst (λ (fetch : Fetching). ComesTo here.file.file.views looks.cache fetch outcome) of_fetch (comes here.d here.file.file looks.cache (ap (λ (h : ClientValue). h.doing) middle_is ∙ here.busy)
        (ap (λ (h : ClientValue). file_of h.handles (handle_of here.d.op)) middle_is ∙ here.opened) looks.was))

    -- what was looked up on the way
    looks-by : (goal : Ahead) → fetch ≡ begins block (asked_parts offset len) → to ≡ Some goal
        → LooksOn here.file.file.views (begins block (asked_parts offset len)) (Some goal) looks.cache looks.later
    looks-by goal starts is =
        subst (λ (views : SeenViews). LooksOn views (begins block (asked_parts offset len)) (Some goal) looks.cache looks.later)
        (views-in h here.d here.file.file here.busy here.opened)
        (subst (λ (f : Fetching). LooksOn (views_in h) f (Some goal) looks.cache looks.later) starts
        (subst (λ o. LooksOn (views_in h) fetch o looks.cache looks.later) is looks-here))

    pub begins-none : (outcome : Ahead) (f : Fetching) (next : Need) → to ≡ Some outcome
        → fetch ≡ begins block (asked_parts offset len) → outcome ≡ ahead.Needs f next
        → ClientComesTo fetch middle outcome → (doing : Option Doing) (end : ClientValue)
        → doing ≡ option_map (put_at (Reading f next)) after.doing → end ≡ record after { doing = doing }
        → Begins offset len block h end None
    begins-none outcome f next to_is of_start of_ahead comes doing end doing_is put_is =
        let d = here.d in
        let comes' = comes-here fetch outcome (ahead.Needs f next) of_start of_ahead comes in
        let for = looks-by (ahead.Needs f next) of_start (to_is ∙ ap Some of_ahead) in
        let end_is : end ≡ record after { doing = option_map (put_at (Reading f next)) after.doing } =
        put_is ∙ ap (λ (o : Option Doing). record after { doing = o }) doing_is in
        let began : ClientValue = record h { cache = Some looks.later; doing = Some (put_at (Reading f next) d) } in
        let is : end ≡ began =
        end_is
        ∙ ap (λ (h : ClientValue). record h { doing = option_map (put_at (Reading f next)) h.doing }) after_went
        ∙ ap (λ (o : Option Doing). record h {
          cache = Some looks.later;
          doing = option_map (put_at (Reading f next)) o;
        }) here.busy in
        subst (λ (c : ClientValue). IsAhead block h c × IsReady c) (sym is) (
          begins-ahead offset len block h d here.busy here.does_is ready none first here.file looks.cache looks.later has_cache
              looks-up f next comes' for,
          begins-ready offset len block h d here.busy here.does_is ready none first here.file looks.cache looks.later has_cache
              looks-up f next comes' for,
        )

    pub begins-some : (outcome : Ahead) (found : Found) → to ≡ Some outcome
        → fetch ≡ begins block (asked_parts offset len) → outcome ≡ ahead.Read found
        → ClientComesTo fetch middle outcome → Begins offset len block h after (Some found)
    begins-some outcome found to_is of_start of_ahead comes =
        subst (λ (c : ClientValue). ReadsAtOnce offset len block h c found) (sym after_went)
        (begins-read offset len block h here.d here.busy here.does_is ready none first here.file looks.cache looks.later
        has_cache looks-up found (comes-here fetch outcome (ahead.Read found) of_start of_ahead comes)
        (looks-by (ahead.Read found) of_start (to_is ∙ ap Some of_ahead)))

-- a client that only kept its cache
pub same-cached : (offset len block : ℕ) (h : ClientValue) → IsCachedAs offset len block h h
same-cached offset len block h = record {
  cache = h.cache;
  rest = start_ahead offset len block h;
  after_is = refl;
  ahead = Untouched refl;
  knows = λ sizes block blocks known. known;
}
