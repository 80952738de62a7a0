-- A reading within a step: how far it goes without a request, and what it leaves of the client.
use Rattle.std.specs.Prelude.{◌≡◌, ◌≢◌, ℕ, ◌≤◌, ◌<◌, List, [], length, Option, None, Some, IfSome, Result, Ok, Err}
use Rattle.std.specs.Prelude.{unwrap_or}
use Rattle.std.specs.Option.{option_map}
use Rattle.jv_model.specs.declared.act.ActKind.{ActKind}
use Rattle.jv_model.specs.declared.act.Told.{Told}
use Rattle.jv_model.specs.declared.act.Told.TheVariants.{Looks}
use Rattle.jv_model.specs.declared.op.Op.{Op}
use Rattle.jv_model.specs.declared.op.Reply.TheVariants.{Data}
use Rattle.jv_model.specs.declared.profile.Does.TheVariants as does
use Rattle.jv_model.specs.promise.client.ModelClient.{ModelClient, file_of}
use Rattle.jv_model.specs.promise.client.Profile.{handle_of}
use Rattle.jv_model.specs.declared.slice.BlockId.{BlockId}
use Rattle.jv_model.specs.promise.journal.Reading.{Asked, asked_parts}
use Rattle.jv_model.specs.promise.journal.Steps.{asked_of}
use Rattle.jv_cache.specs.Cached.{Cached}
use Rattle.jv_volume_bytes.specs.promise.Blocks.{Blocks, known_by}
use Rattle.jv_client_shared.specs.promise.Shared.{Known, Shared}
use Rattle.jv_client_handles.specs.declared.handle.Handle.{Handle}
use Rattle.jv_client_handles.specs.Views.{SeenViews, no_views}
use Rattle.jv_client_reads.specs.declared.need.Need.{Need}
use Rattle.jv_client_reads.specs.declared.need.Need.TheVariants.{Nothing}
use Rattle.jv_client_reads.specs.Fetching.{Fetching, begins, fetch_left}
use Rattle.jv_client_reads.specs.Going.{CanFetch, IsFetching}
use Rattle.jv_client_reads.specs.Ahead.{blocks_ahead}
use Rattle.jv_client_reads.specs.Calls.{AreSizedBy, Asks, AsksSome, HasCached, IsCacheOf, Wants, first_seen}
use Rattle.jv_client_reads.specs.Shows.{IsReadBy}
use Rattle.jv_client.specs.declared.doing.Doing.{Doing}
use Rattle.jv_client.specs.declared.doing.Progress.{Progress}
use Rattle.jv_client.specs.declared.doing.Progress.TheVariants.{Working, Reading}
use Rattle.jv_client.specs.declared.made.Made.{Made}
use Rattle.jv_client.specs.declared.made.Made.TheVariants as made
use Rattle.jv_client.specs.declared.reading.Ahead.{Ahead}
use Rattle.jv_client.specs.declared.reading.Ahead.TheVariants as ahead
use Rattle.jv_client.specs.declared.reading.Found.{Found}
use Rattle.jv_client.specs.ClientValue.{ClientValue}
use Rattle.jv_client.specs.Ending.{ended}
use Rattle.jv_client.specs.Held.{GoesOn, IsClient}
use Rattle.jv_client.specs.UnderWay.{IsReady, LacksNeed, moved_to, steps_left}

-- ---- the operation in progress

-- what a reading that has begun needs next
abbrev pub need_at : Progress → Option Need
need_at (Working quiets started id) = None
need_at (Reading fetch next) = Some next

abbrev pub need_in : Option Doing → Option Need
need_in None = None
need_in (Some d) = need_at d.progress

-- and how far it is
abbrev pub fetch_at : Progress → Option Fetching
fetch_at (Working quiets started id) = None
fetch_at (Reading fetch next) = Some fetch

abbrev pub fetch_in : Option Doing → Option Fetching
fetch_in None = None
fetch_in (Some d) = fetch_at d.progress

-- an operation at another point, for which it made no request
abbrev pub put_at : Progress → Doing → Doing
put_at progress d = record d { progress = progress }

-- ---- what is ahead of it

-- what a handle saw
abbrev pub views_of : Option Handle → SeenViews
views_of None = no_views
views_of (Some handle) = handle.views

-- and the handle that an operation reads by
abbrev pub views_here : List (Option Handle) → Op → SeenViews
views_here handles o = views_of (file_of handles (handle_of o))

-- and that of the operation in progress
abbrev pub views_in : ClientValue → SeenViews
views_in h = elim h.doing [ None ↦ no_views | Some d ↦ views_here h.handles d.op ]

-- where a reading is before a step: where it was, or at its start
abbrev pub fetch_from : ℕ → Doing → Fetching
fetch_from block d = unwrap_or (fetch_at d.progress) (begins block (asked_of d.does))

-- the blocks that it has ahead then, by what its handle saw
abbrev pub ahead_from : ℕ → ClientValue → Doing → List BlockId
ahead_from block h d = blocks_ahead (views_here h.handles d.op) (fetch_from block d)

-- and after a step, none where it was answered
abbrev pub ahead_in : SeenViews → Option Fetching → List BlockId
ahead_in views None = []
ahead_in views (Some fetch) = blocks_ahead views fetch

-- ---- ahead without a request

-- A reading goes ahead by these views and by the blocks of a cache.
pub record GoesAhead (views : SeenViews) (cache : Cached) (before after : Fetching) : Type 0 where
  pub block : after.block ≡ before.block
  pub can : CanFetch views before → CanFetch views after
  pub few : fetch_left after ≤ fetch_left before
  pub fewer : before.begun ≡ None → first_seen views before.parts
      → fetch_left after < fetch_left before
  pub reads : (blocks : Blocks) (all : List Asked) → HasCached blocks views before.block cache
      → IsFetching blocks views all before → IsFetching blocks views all after

abbrev pub read_of : Found → ℕ × ℕ × List ℕ
read_of found = (found.first, found.second, found.bytes)

-- It needs something, which isn't in the cache, or it has read what the views show.
abbrev pub ComesTo : SeenViews → Cached → Fetching → Ahead → Type 0
ComesTo views cache before (ahead.Needs after next) =
    GoesAhead views cache before after × Wants views after next × (next ≢ Nothing)
    × LacksNeed next cache
ComesTo views cache before (ahead.Read found) =
    (blocks : Blocks) (all : List Asked) → HasCached blocks views before.block cache
    → IsFetching blocks views all before
    → IsReadBy (known_by before.block blocks) views all (read_of found)

-- what it needs then, nothing where it has read all, and the blocks that it has ahead
abbrev pub next_of : Ahead → Need
next_of (ahead.Needs fetch next) = next
next_of (ahead.Read found) = Nothing

abbrev pub rest_of : SeenViews → Ahead → List BlockId
rest_of views (ahead.Needs fetch next) = blocks_ahead views fetch
rest_of views (ahead.Read found) = []

-- where it came, if it didn't fail
abbrev pub came : {E : Type 0} → Result Ahead E → Option Ahead
came (Ok ahead) = Some ahead
came (Err e) = None

-- Going ahead from here by these views, a reading looked up the blocks that it hasn't ahead any
-- more, and then the one that it needs; or it failed, and looked up some.
abbrev pub LooksOn : SeenViews → Fetching → Option Ahead → Cached → Cached → Type 0
LooksOn views fetch None before after = AsksSome (blocks_ahead views fetch) before after
LooksOn views fetch (Some ahead) before after =
    Asks (blocks_ahead views fetch) (rest_of views ahead) (next_of ahead) before after

-- of a client, whose operation reads by its handle: these were looked up, and nothing else changed
pub record OnlyLooksUp (fetch : Fetching) (to : Option Ahead) (h after : ClientValue) : Type 0 where
  pub cache : Cached
  pub later : Cached
  pub was : h.cache ≡ Some cache
  pub looks : LooksOn (views_in h) fetch to cache later
  pub after_is : after ≡ record h { cache = Some later }

abbrev pub ClientComesTo : Fetching → ClientValue → Ahead → Type 0
ClientComesTo fetch h ahead = (d : Doing) (file : Handle) (cache : Cached) → h.doing ≡ Some d
    → file_of h.handles (handle_of d.op) ≡ Some file → h.cache ≡ Some cache
    → ComesTo file.views cache fetch ahead

-- ---- a reading begins

-- an empty cache of this many entries
abbrev pub new_cache : ℕ → Cached
new_cache entries = record { blocks = []; entries = entries; hits = 0; misses = 0 }

-- a cache that is there, or a new one
abbrev pub IsMade : ℕ → Option Cached → Option Cached → Type 0
IsMade entries (Some cache) after = after ≡ Some cache
IsMade entries None after = after ≡ Some (new_cache entries)

abbrev pub cache_in : ℕ → Option Cached → Cached
cache_in entries None = new_cache entries
cache_in entries (Some cache) = cache

-- Of the blocks that were due those were found in it that aren't left, if anything was done.
pub data LooksAhead (due : List BlockId) (entries : ℕ) (was is : Option Cached) : List BlockId
    → Type 0 where
  Untouched : is ≡ was → LooksAhead due entries was is due
  LookedUp : (rest : List BlockId) (later : Cached)
      → Asks due rest Nothing (cache_in entries was) later
      → is ≡ Some later → LooksAhead due entries was is rest

-- the blocks that a reading of this range has ahead before anything is read
abbrev pub start_ahead : (offset len block : ℕ) → ClientValue → List BlockId
start_ahead offset len block h = blocks_ahead (views_in h) (begins block (asked_parts offset len))

-- A client whose reading of this range began, with another cache, in which nothing stands that
-- isn't known.
pub record IsCachedAs (offset len block : ℕ) (h after : ClientValue) : Type 0 where
  pub cache : Option Cached
  pub rest : List BlockId
  pub after_is : after ≡ record h { cache = cache }
  pub ahead : LooksAhead (start_ahead offset len block h) h.limits.entries h.cache cache rest
  pub knows : (sizes : ℕ → ℕ) (block : ℕ) (blocks : Blocks)
      → IfSome h.cache (IsCacheOf sizes block blocks)
      → IfSome cache (IsCacheOf sizes block blocks)

-- What a reading needs before its request, and the cache then: what it needed when the step began,
-- with the cache as it was; or it begins in this step, goes ahead from its start by the views of
-- its handle and by the cache before it, and looks up what it reaches.
pub data NeedsNext (block : ℕ) (h : ClientValue) (d : Doing) (fetch : Fetching) (next : Need)
    (cache : Cached) : Type 0 where
  Already : d.progress ≡ Reading fetch next → h.cache ≡ Some cache
      → NeedsNext block h d fetch next cache
  FromStart : (offset len : ℕ) (file : Handle) → need_at d.progress ≡ None
      → d.does ≡ does.Reads offset len
      → file_of h.handles (handle_of d.op) ≡ Some file
      → GoesAhead file.views (cache_in h.limits.entries h.cache)
      (begins block (asked_parts offset len)) fetch
      → Wants file.views fetch next
      → Asks (blocks_ahead file.views (begins block (asked_parts offset len)))
      (blocks_ahead file.views fetch) next (cache_in h.limits.entries h.cache) cache
      → NeedsNext block h d fetch next cache

-- The client before a request of its reading, which was so when the step began, or has just begun.
pub record IsAhead (block : ℕ) (h c : ClientValue) : Type 0 where
  pub d : Doing
  pub fetch : Fetching
  pub next : Need
  pub busy : h.doing ≡ Some d
  pub needs : (cache : Cached) → c.cache ≡ Some cache → NeedsNext block h d fetch next cache
  pub is : c ≡ record h { cache = c.cache; doing = Some (put_at (Reading fetch next) d) }
  pub reads : (offset len : ℕ) × (d.does ≡ does.Reads offset len)
  pub fewer : steps_left c ≤ steps_left h
  pub goes : (g : Known) (v : Shared) (m : ModelClient) (count : ℕ)
      → v.yard.setting.block ≡ block → IsClient g v m count h
      → GoesOn g v c (put_at (Reading fetch next) d) (Reading fetch next)
      × IfSome c.cache (IsCacheOf g.sizes v.yard.setting.block g.blocks)

-- all was read at once, by the views of the operation's handle and the blocks of the cache
pub record ReadsAtOnce (offset len block : ℕ) (h after : ClientValue) (found : Found) : Type 0 where
  pub same : IsCachedAs offset len block h after
  pub all : same.rest ≡ []
  pub read : (d : Doing) (file : Handle) (sizes : ℕ → ℕ) (blocks : Blocks) → h.doing ≡ Some d
      → file_of h.handles (handle_of d.op) ≡ Some file → AreSizedBy sizes file.views
      → IfSome h.cache (IsCacheOf sizes block blocks)
      → IsReadBy (known_by block blocks) file.views (asked_parts offset len) (read_of found)

-- it needs something, or it was read at once
abbrev pub Begins : (offset len block : ℕ) (h after : ClientValue) → Option Found → Type 0
Begins offset len block h after None = IsAhead block h after × IsReady after
Begins offset len block h after (Some found) = ReadsAtOnce offset len block h after found

-- ---- a reading is answered, or goes on

abbrev pub told_read : Found → Told
told_read found = Looks found.first found.second (length found.bytes)

-- the answer with what was read, after a request of this kind if there was one
abbrev pub shown : Option ActKind → Found → Made
shown None found = made.Answer (told_read found) (Data found.bytes)
shown (Some kind) found = made.Both kind (told_read found) (Data found.bytes)

pub record Shows (kind : Option ActKind) (found : Found) (h after : ClientValue)
    (done : Made) : Type 0 where
  pub after_is : after ≡ ended h
  pub made_is : done ≡ shown kind found

-- after a request of this kind
abbrev pub GoesOnAfter : ActKind → Ahead → ClientValue → ClientValue → Made → Type 0
GoesOnAfter kind (ahead.Needs fetch next) h after done =
    (after ≡ record h { doing = option_map (moved_to (Reading fetch next)) h.doing })
    × (done ≡ made.Request kind)
GoesOnAfter kind (ahead.Read found) h after done = Shows (Some kind) found h after done
