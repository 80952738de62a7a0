-- What a reading keeps, and what the functions within do.
use Rattle.std.specs.Prelude.{◌≡◌, ℕ, ◌+◌, ◌-◌, ◌<◌, ◌≤◌, Bool, List, [], ◌∷◌, ◌++◌, drop, length}
use Rattle.std.specs.Prelude.{slice_get, Option, None, Some, IfSome, IsSomeAnd}
use Rattle.std.specs.List.{AllByRecursion}
use Rattle.jv_model.specs.declared.limits.TheConstants.{WINDOW}
use Rattle.jv_model.specs.declared.slice.BlockId.{BlockId}
use Rattle.jv_model.specs.promise.journal.Reading.{Asked, bytes_from, window_start}
use Rattle.jv_cache.specs.Cached.{Cached, found_in, noted_in}
use Rattle.jv_volume_bytes.specs.promise.Blocks.{Blocks}
use Rattle.jv_volume_bytes.specs.promise.Bytes.{KnownBytes}
use Rattle.jv_client_handles.specs.declared.views.View.{View}
use Rattle.jv_client_handles.specs.Views.{SeenViews, view_at}
use Rattle.jv_slices_reading.specs.Parts.{FillsIn, IsPartOf, Part, ReadsAs, window_byte}
use Rattle.jv_slices_reading.specs.Laws.{ReadsBlocks}
use Rattle.jv_client_reads.specs.declared.begun.Begun.{Begun}
use Rattle.jv_client_reads.specs.declared.begun.Read.{Read}
use Rattle.jv_client_reads.specs.declared.begun.Start.{Start}
use Rattle.jv_client_reads.specs.declared.begun.Start.TheVariants.{Over as StartOver, Look as StartLook}
use Rattle.jv_client_reads.specs.declared.begun.Start.TheVariants.{Begun as StartBegun}
use Rattle.jv_client_reads.specs.declared.need.Need.{Need}
use Rattle.jv_client_reads.specs.declared.need.Need.TheVariants.{Block}
use Rattle.jv_client_reads.specs.declared.spans.Span.{Span}
use Rattle.jv_client_reads.specs.declared.spans.Spans.{Spans}
use Rattle.jv_client_reads.specs.declared.spans.Spans.TheVariants.{Over, Last, Two}
use Rattle.jv_client_reads.specs.declared.fetch.Fetch.TheInside.{Inside}
use Rattle.jv_client_reads.specs.Fetching.{Fetching, fetch_left}
use Rattle.jv_client_reads.specs.Going.{CanFetch, IsBegunBy, IsFetching}
use Rattle.jv_client_reads.specs.Ahead.{blocks_ahead, part_blocks, parts_after}
use Rattle.jv_client_reads.specs.Calls.{CachedOf, FindsAll, HasCached, IsMissing, LooksLast, Wants, cache_key}
use Rattle.jv_client_reads.specs.Calls.{first_seen}
use Rattle.jv_client_reads.specs.Calls.{first_unseen}

-- ---- what is kept

abbrev pub asked_of : Span → Asked
asked_of span = record { window = span.window; from = span.from; to = span.to }

abbrev pub parts_of : Spans → List Asked
parts_of Over = []
parts_of (Last span) = asked_of span ∷ []
parts_of (Two span other) = asked_of span ∷ asked_of other ∷ []

abbrev pub reads_of : Option Read → Option Read → List Read
reads_of None second = []
reads_of (Some first) None = first ∷ []
reads_of (Some first) (Some second) = first ∷ second ∷ []

abbrev pub fetching_of : Inside → Fetching
fetching_of f = let course = f.course.value in record {
  block = f.block;
  parts = parts_of course.parts;
  begun = course.begun;
  read = reads_of course.first course.second;
}

-- a part lies in its window
pub record IsWithin (asked : Asked) : Type 0 where
  pub low : window_start asked.window ≤ asked.from
  pub some : asked.from < asked.to
  pub high : asked.to ≤ window_start asked.window + WINDOW

-- at most two parts, each in its window; what has begun is one of those that are left, and the
-- second is read after the first
pub record IsSound (f : Inside) : Type 0 where
  pub wide : 0 < f.block
  pub in_order : f.course.value.first ≡ None → f.course.value.second ≡ None
  pub within : AllByRecursion IsWithin (parts_of f.course.value.parts)
  pub few : length (reads_of f.course.value.first f.course.value.second)
      + length (parts_of f.course.value.parts) ≤ 2
  pub some : IfSome f.course.value.begun (λ begun. 1 ≤ length (parts_of f.course.value.parts))

-- ---- a part begins

-- a part begins by the view of its window
pub record BeginsBy (views : SeenViews) (block : ℕ) (asked : Asked) (begun : Begun) : Type 0 where
  pub view : View
  pub seen : view_at views asked.window ≡ Some view
  pub by : IsBegunBy block asked view begun
  pub few : length begun.part.left ≤ asked.to - asked.from
  pub left : begun.part.left ≡ part_blocks block view asked
  pub reads : (blocks : Blocks) → ReadsBlocks blocks begun.part

abbrev pub FirstBegins : SeenViews → ℕ → List Asked → Begun → Type 0
FirstBegins views block [] begun = ⊥
FirstBegins views block (asked ∷ others) begun = BeginsBy views block asked begun

abbrev pub Starts : SeenViews → ℕ → List Asked → Start → Type 0
Starts views block parts StartOver = parts ≡ []
Starts views block parts (StartLook window) = first_unseen views parts window
Starts views block parts (StartBegun begun) = FirstBegins views block parts begun

-- and so a reading, unless it has begun before or is done
pub data BeginsPart (views : SeenViews) (before after : Fetching) : Option ℕ → Type 0 where
  HadBegun : (begun : Begun) → before.begun ≡ Some begun → after ≡ before
      → BeginsPart views before after None
  BeginsNow : (begun : Begun) → before.begun ≡ None
      → FirstBegins views before.block before.parts begun
      → after ≡ record before { begun = Some begun } → BeginsPart views before after None
  IsOver : before.begun ≡ None → before.parts ≡ [] → after ≡ before
      → BeginsPart views before after None
  LooksFirst : (window : ℕ) → before.begun ≡ None → first_unseen views before.parts window
      → after ≡ before
      → BeginsPart views before after (Some window)

-- ---- blocks are filled in

-- a part with some of its blocks filled in
pub record IsFurther (before after : Part) : Type 0 where
  pub part : IsPartOf before.list before.from before.to before.block after
  pub count : ℕ
  pub left : after.left ≡ drop count before.left

-- the block that is next is filled in
pub record FillsOne (bytes : List ℕ) (before after : Part) : Type 0 where
  pub part : IsPartOf before.list before.from before.to before.block after
  pub left : after.left ≡ drop 1 before.left
  pub reads : FillsIn bytes before after

-- and it is what the cache has
pub record HasFilled (cache : Cached) (b : BlockId) (before after : Part) : Type 0 where
  pub bytes : List ℕ
  pub found : found_in cache (cache_key b) ≡ Some bytes
  pub long : length bytes ≡ b.size
  pub fills : FillsOne bytes before after

-- blocks that the cache has are filled in, each looked up once and in their order
pub record Fills (cache later : Cached) (before after : Part) : Type 0 where
  pub further : IsFurther before after
  pub finds : FindsAll cache later
  pub each : finds.blocks ++ after.left ≡ before.left
  pub reads : (blocks : Blocks) → CachedOf blocks before.list before.block cache
      → ReadsBlocks blocks before
      → ReadsBlocks blocks after

-- up to one that it doesn't have, which was looked up too
pub record Misses (cache later : Cached) (before after : Part) (b : BlockId) : Type 0 where
  pub middle : Cached
  pub fills : Fills cache middle before after
  pub next : slice_get after.left 0 ≡ Some b
  pub noted : later ≡ noted_in middle (cache_key b)
  pub missing : IsMissing cache b

-- or to the end
abbrev pub FillsUp : Cached → Cached → Part → Part → Option BlockId → Type 0
FillsUp cache later before after None = Fills cache later before after × (after.left ≡ [])
FillsUp cache later before after (Some b) = Misses cache later before after b

-- ---- a reading goes on

-- with a part as far as its blocks are there
abbrev pub waiting : Begun → Part → Fetching → Fetching
waiting begun part f = record f { begun = Some (record begun { part = part }) }

-- with a part that was read
abbrev pub ended : ℕ → Bool → List ℕ → Fetching → Fetching
ended entry is_full bytes f =
    record f {
      begun = None;
      parts = parts_after is_full f.parts;
      read = f.read ++ record { entry = entry; bytes = bytes } ∷ [];
    }

-- bytes that are as many as the block that is needed has
abbrev pub FitsNext : List ℕ → Option Begun → Type 0
FitsNext bytes None = ⊥
FitsNext bytes (Some begun) = IsSomeAnd (slice_get begun.part.left 0) (λ b. length bytes ≡ b.size)

-- the block that is needed is filled in
pub record FillsBegun (bytes : List ℕ) (before after : Fetching) : Type 0 where
  pub begun : Begun
  pub part : Part
  pub was : before.begun ≡ Some begun
  pub fills : FillsOne bytes begun.part part
  pub is : after ≡ waiting begun part before

-- a part's blocks are filled in as far as the cache has them: it waits for one, or was read
pub data GoesOn (begun : Begun) (cache later : Cached) (before after : Fetching) : Option Need
    → Type 0 where
  Waits : (part : Part) (b : BlockId) → Misses cache later begun.part part b
      → after ≡ waiting begun part before → GoesOn begun cache later before after (Some (Block b))
  Ended : (part : Part) → Fills cache later begun.part part → part.left ≡ [] → (bytes : List ℕ)
      → ((known_bytes : KnownBytes) → ReadsAs known_bytes part
      → bytes ≡ bytes_from (window_byte known_bytes part.list) part.from (part.to - part.from))
      → after ≡ ended begun.entry begun.is_full bytes before
      → GoesOn begun cache later before after None

-- where one has begun; and nothing happens where none has
abbrev pub GoesOnAny : Cached → Cached → Fetching → Fetching → Option Begun → Option Need → Type 0
GoesOnAny cache later before after None result =
    (result ≡ None) × (after ≡ before) × (later ≡ cache)
GoesOnAny cache later before after (Some begun) result =
    GoesOn begun cache later (record before { begun = None }) after result

-- what the cache has of the part that has begun is filled in
pub record FillsFrom (cache later : Cached) (before after : Fetching)
    (result : Option BlockId) : Type 0 where
  pub begun : Begun
  pub part : Part
  pub was : before.begun ≡ Some begun
  pub fills : FillsUp cache later begun.part part result
  pub is : after ≡ waiting begun part before

-- a part that was read is kept
pub record EndsPart (before after : Fetching) : Type 0 where
  pub begun : Begun
  pub bytes : List ℕ
  pub was : before.begun ≡ Some begun
  pub are : (known_bytes : KnownBytes) → ReadsAs known_bytes begun.part
      → bytes ≡ bytes_from (window_byte known_bytes begun.part.list) begun.part.from
      (begun.part.to - begun.part.from)
  pub is : after ≡ ended begun.entry begun.is_full bytes before

-- a reading goes on by views and cache
pub record Goes (views : SeenViews) (cache later : Cached) (before after : Fetching) : Type 0 where
  pub block : after.block ≡ before.block
  pub can : CanFetch views before → CanFetch views after
  pub falls : fetch_left after ≤ fetch_left before
  pub begins : before.begun ≡ None → first_seen views before.parts
      → fetch_left after < fetch_left before
  pub finds : FindsAll cache later
  pub are : finds.blocks ++ blocks_ahead views after ≡ blocks_ahead views before
  pub reads : (blocks : Blocks) (all : List Asked) → HasCached blocks views before.block cache
      → IsFetching blocks views all before
      → IsFetching blocks views all after

-- a block that is needed was looked up last, and isn't there
abbrev pub Ends : Cached → Cached → Cached → Option Need → Type 0
Ends cache middle later None = later ≡ middle
Ends cache middle later (Some need) = LooksLast need cache middle later

pub record GoesTo (views : SeenViews) (cache later : Cached) (before after : Fetching)
    (result : Option Need) : Type 0
  where
    pub middle : Cached
    pub goes : Goes views cache middle before after
    pub ends : Ends cache middle later result

-- it stops where something is needed, or where it is done with one part more
abbrev pub Stops : SeenViews → Fetching → Fetching → Option Need → Type 0
Stops views before after None =
    (after.begun ≡ None) × (length after.parts ≤ length before.parts - 1)
Stops views before after (Some need) = Wants views after need
