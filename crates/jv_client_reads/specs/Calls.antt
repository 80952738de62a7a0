-- What the calls of a reading do.
use Rattle.std.specs.Prelude.{◌≡◌, ◌≢◌, ℕ, All, IsSomeAnd, List, [], ◌∷◌, ◌++◌, fold, length, is_some}
use Rattle.std.specs.Prelude.{true, Option, None, Some, Result, Ok, Err}
use Rattle.std.specs.List.{AllByRecursion}
use Rattle.jv_model.specs.declared.slice.BlockId.{BlockId}
use Rattle.jv_model.specs.declared.slice.Rec.{Rec}
use Rattle.jv_model.specs.promise.blocks.Slices.{block_at}
use Rattle.jv_model.specs.promise.journal.Reading.{Asked}
use Rattle.jv_cache.specs.declared.key.BlockKey.{BlockKey}
use Rattle.jv_cache.specs.Cached.{Cached, found_in, kept_in, noted_in}
use Rattle.jv_volume_bytes.specs.promise.Blocks.{Blocks}
use Rattle.jv_client_handles.specs.declared.views.View.{View}
use Rattle.jv_client_handles.specs.Views.{SeenViews, view_at}
use Rattle.jv_slices_reading.specs.Parts.{IsNamed}
use Rattle.jv_client_reads.specs.declared.need.Need.{Need}
use Rattle.jv_client_reads.specs.declared.need.Need.TheVariants.{Look, Block, Nothing}
use Rattle.jv_client_reads.specs.Fetching.{Fetching, block_needed}

-- the window of the next part wasn't seen
abbrev pub first_unseen : SeenViews → List Asked → ℕ → Type 0
first_unseen views [] window = ⊥
first_unseen views (asked ∷ others) window = (asked.window ≡ window) × (view_at views window ≡ None)

-- it was
abbrev pub first_seen : SeenViews → List Asked → Type 0
first_seen views [] = ⊥
first_seen views (asked ∷ others) = is_some (view_at views asked.window) ≡ true

-- what is needed next: a look at the window of the next part; a block; or nothing where all is read
abbrev pub Wants : SeenViews → Fetching → Need → Type 0
Wants views f (Look window) = (f.begun ≡ None) × first_unseen views f.parts window
Wants views f (Block b) = block_needed f ≡ Some b
Wants views f Nothing = (f.begun ≡ None) × (f.parts ≡ [])

abbrev pub cache_key : BlockId → BlockKey
cache_key b = record { id = b.id; index = b.index }

-- the cache has a block, with its length
abbrev pub HasBlock : Cached → BlockId → Type 0
HasBlock cache b = IsSomeAnd (found_in cache (cache_key b)) (λ bytes. length bytes ≡ b.size)

-- blocks that the cache has were looked up one after the other, each a hit
pub record FindsAll (before after : Cached) : Type 0 where
  pub blocks : List BlockId
  pub found : All (HasBlock before) blocks
  pub is : after ≡ fold (λ cache b. noted_in cache (cache_key b)) before blocks

-- there are no bytes, or as many as another block has
abbrev pub LacksBlock : ℕ → Option (List ℕ) → Type 0
LacksBlock size found = (bytes : List ℕ) → found ≡ Some bytes → length bytes ≢ size

-- a cache doesn't have a block: bytes of another length under its name are another block's
abbrev pub IsMissing : Cached → BlockId → Type 0
IsMissing cache b = LacksBlock b.size (found_in cache (cache_key b))

-- then the block that is needed, if it is one, was looked up, which isn't there
abbrev pub LooksLast : Need → Cached → Cached → Cached → Type 0
LooksLast (Look window) before middle after = after ≡ middle
LooksLast (Block b) before middle after =
    (after ≡ noted_in middle (cache_key b)) × IsMissing before b
LooksLast Nothing before middle after = after ≡ middle

-- the look-ups before a need
pub record LooksFor (need : Need) (before after : Cached) : Type 0 where
  pub middle : Cached
  pub finds : FindsAll before middle
  pub last : LooksLast need before middle after

-- The look-ups of a reading that goes on to a need. Of the blocks that it had ahead, those were
-- found that it hasn't ahead any more, in their order; and then the block that is needed was looked
-- up.
pub record Asks (ahead left : List BlockId) (need : Need) (before after : Cached) : Type 0 where
  pub looks : LooksFor need before after
  pub are : looks.finds.blocks ++ left ≡ ahead

-- those of a reading that failed on the way: the first of its blocks were found, as far as it came
abbrev pub AsksSome : List BlockId → Cached → Cached → Type 0
AsksSome ahead before after = (left : List BlockId) × Asks ahead left Nothing before after

-- A block that came is kept, or it is lost. That memory is out is the only cause of that, and no
-- clause foresees where it is.
pub data Keeps (b : BlockId) (bytes : List ℕ) (before after : Cached) : Type 0 where
  Kept : after ≡ kept_in before (cache_key b) bytes → Keeps b bytes before after
  Lost : after ≡ before → Keeps b bytes before after

-- which of both it is, by the result of the call: the error is out of memory
abbrev pub KeepsBy : {V E : Type 0} → Result V E → BlockId → List ℕ → Cached → Cached → Type 0
KeepsBy (Ok done) b bytes before after = after ≡ kept_in before (cache_key b) bytes
KeepsBy (Err out) b bytes before after = after ≡ before

-- what the cache has under the name of a block of these records is that block
pub record CachedOf (blocks : Blocks) (list : List Rec) (block : ℕ) (cache : Cached) : Type 0 where
  pub has : (b : BlockId) → IsNamed list block b → (bytes : List ℕ)
      → found_in cache (cache_key b) ≡ Some bytes
      → blocks b ≡ Some bytes

-- and so of the records of each view
pub record HasCached (blocks : Blocks) (views : SeenViews) (block : ℕ)
    (cache : Cached) : Type 0 where
  pub has : (window : ℕ) (view : View) → view_at views window ≡ Some view
      → CachedOf blocks view.list block cache

-- no other block that views name has this one's slice and index
pub record IsOnly (views : SeenViews) (block : ℕ) (b : BlockId) : Type 0 where
  pub only : (window : ℕ) (view : View) → view_at views window ≡ Some view → (other : BlockId)
      → IsNamed view.list block other → cache_key other ≡ cache_key b → other ≡ b

-- the records of views have sizes that their slices determine
pub record AreSizedBy (sizes : ℕ → ℕ) (views : SeenViews) : Type 0 where
  pub sized : (window : ℕ) (view : View) → view_at views window ≡ Some view
      → AllByRecursion (λ r. r.id ≢ 0 → r.size ≡ sizes r.id) view.list

-- all that the cache has are blocks of slices with these sizes, each under its own name
pub record IsCacheOf (sizes : ℕ → ℕ) (block : ℕ) (blocks : Blocks) (cache : Cached) : Type 0 where
  pub has : (key : BlockKey) (bytes : List ℕ) → found_in cache key ≡ Some bytes
      → blocks (block_at key.id (sizes key.id) block key.index) ≡ Some bytes
