-- What a reader may rely on between the calls of a reading.
use Rattle.std.specs.Prelude.{◌≡◌, ℕ, ◌+◌, ◌<◌, ◌≤◌, List, [], None, Some}
use Rattle.std.specs.Option.{option_map}
use Rattle.jv_model.specs.declared.limits.TheConstants.{FILE_END, WINDOW}
use Rattle.jv_model.specs.declared.slice.BlockId.{BlockId}
use Rattle.jv_model.specs.promise.blocks.Slices.{block_at}
use Rattle.jv_model.specs.promise.client.ModelClient.{OpenFile, View as ModelView}
use Rattle.jv_model.specs.promise.journal.Reading.{Asked, asked_parts, part_to_look, reading}
use Rattle.jv_cache.specs.declared.key.BlockKey.{BlockKey}
use Rattle.jv_cache.specs.Cached.{Cached, found_in}
use Rattle.jv_volume_bytes.specs.promise.Blocks.{Blocks, Grows, known_by}
use Rattle.jv_client_shared.specs.promise.Shared.{Known, Shared}
use Rattle.jv_client_handles.specs.declared.handle.Handle.{Handle}
use Rattle.jv_client_handles.specs.declared.views.View.{View}
use Rattle.jv_client_handles.specs.Held.{IsHandle}
use Rattle.jv_client_handles.specs.Views.{SeenViews, view_at, with_view}
use Rattle.jv_slices_reading.specs.Parts.{IsNamed}
use Rattle.jv_client_reads.specs.declared.need.Need.{Need}
use Rattle.jv_client_reads.specs.declared.need.Need.TheVariants.{Look}
use Rattle.jv_client_reads.specs.Fetching.{Fetching, begins, block_needed, fetch_left, fetched_of}
use Rattle.jv_client_reads.specs.Going.{CanFetch, IsFetching}
use Rattle.jv_client_reads.specs.Calls.{AreSizedBy, HasCached, IsCacheOf, IsOnly, Keeps, LooksFor, Wants, first_seen}
use Rattle.jv_client_reads.specs.Shows.{IsReadBy, window_needed}

-- A reading begins well, with this many requests at most, and stays so where blocks come and where
-- a window is seen. A cache keeps what it has while blocks are looked up, and while one is kept
-- that is the only one of its name.
pub record FetchesGoOn : Type 0 where
  pub begin : (blocks : Blocks) (views : SeenViews) (block offset len : ℕ) → 0 < len
      → offset < FILE_END
      → IsFetching blocks views (asked_parts offset len) (begins block (asked_parts offset len))
  pub come : (blocks later : Blocks) (views : SeenViews) (all : List Asked) (f : Fetching)
      → Grows blocks later
      → IsFetching blocks views all f → IsFetching later views all f
  pub seen : (blocks : Blocks) (views : SeenViews) (all : List Asked) (f : Fetching) (window : ℕ)
      (view : View)
      → view_at views window ≡ None → IsFetching blocks views all f
      → IsFetching blocks (with_view window view views) all f
  pub can_seen : (views : SeenViews) (f : Fetching) (window : ℕ) (view : View)
      → view_at views window ≡ None → CanFetch views f → CanFetch (with_view window view views) f
  pub found : (need : Need) (before after : Cached) → LooksFor need before after → (key : BlockKey)
      → found_in after key ≡ found_in before key
  pub looked : (blocks : Blocks) (views : SeenViews) (block : ℕ) (need : Need)
      (before after : Cached) → LooksFor need before after
      → HasCached blocks views block before → HasCached blocks views block after
  pub kept : (blocks : Blocks) (views : SeenViews) (block : ℕ) (b : BlockId) (bytes : List ℕ)
      (before after : Cached)
      → Keeps b bytes before after → blocks b ≡ Some bytes → IsOnly views block b
      → HasCached blocks views block before → HasCached blocks views block after
  pub cached : (sizes : ℕ → ℕ) (block : ℕ) (blocks : Blocks) (views : SeenViews) (cache : Cached)
      → AreSizedBy sizes views → IsCacheOf sizes block blocks cache
      → HasCached blocks views block cache
  pub only : (sizes : ℕ → ℕ) (views : SeenViews) (block : ℕ) (b : BlockId) → AreSizedBy sizes views
      → b ≡ block_at b.id (sizes b.id) block b.index → IsOnly views block b
  pub weight : (block offset len : ℕ) → 0 < len → offset < FILE_END
      → fetch_left (begins block (asked_parts offset len)) ≤ len + 2

-- a block of a record that a view has; and the first window was seen
pub record IsOfView (views : SeenViews) (block : ℕ) (all : List Asked) (b : BlockId) : Type 0 where
  pub window : ℕ
  pub view : View
  pub seen : view_at views window ≡ Some view
  pub named : IsNamed view.list block b
  pub first : first_seen views all

-- what is needed is what the views lack, and at the end the parts are read by them
pub record FetchesShow : Type 0 where
  pub done : (blocks : Blocks) (views : SeenViews) (all : List Asked) (f : Fetching) → f.parts ≡ []
      → IsFetching blocks views all f → IsReadBy (known_by f.block blocks) views all (fetched_of f)
  pub look : (blocks : Blocks) (views : SeenViews) (all : List Asked) (f : Fetching) (window : ℕ)
      → Wants views f (Look window) → IsFetching blocks views all f
      → window_needed views all ≡ Some window
  pub block : (blocks : Blocks) (views : SeenViews) (all : List Asked) (f : Fetching) (b : BlockId)
      → block_needed f ≡ Some b → IsFetching blocks views all f → IsOfView views f.block all b
  pub same : (g : Known) (v : Shared) (views : List ModelView) (count number offset len : ℕ)
      (file : OpenFile)
      (handle : Handle) (read : ℕ × ℕ × List ℕ)
      → 0 < len → offset < FILE_END → len ≤ WINDOW → IsHandle g v views count number file handle
      → IsReadBy (known_by v.yard.setting.block g.blocks) handle.views (asked_parts offset len) read
      → reading views number file (asked_parts offset len) read.0 read.1 ≡ Some read.2
  pub sized : (g : Known) (v : Shared) (views : List ModelView) (count number : ℕ) (file : OpenFile)
      (handle : Handle)
      → IsHandle g v views count number file handle → AreSizedBy g.sizes handle.views
  pub block_sized : (sizes : ℕ → ℕ) (views : SeenViews) (block : ℕ) (all : List Asked) (b : BlockId)
      → AreSizedBy sizes views → IsOfView views block all b
      → b ≡ block_at b.id (sizes b.id) block b.index
  pub same_look : (g : Known) (v : Shared) (views : List ModelView) (count number : ℕ)
      (file : OpenFile)
      (handle : Handle) (all : List Asked)
      → IsHandle g v views count number file handle
      → window_needed handle.views all
      ≡ option_map (λ (asked : Asked). asked.window) (part_to_look views number file all)
