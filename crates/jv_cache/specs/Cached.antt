-- What contracts see of a cache of blocks.
use Rattle.std.specs.Prelude.{◌≡◌, ℕ, ◌+◌, ◌-◌, ◌^◌, ◌<◌, ◌≤◌, ◌==◌, min, length, slice_get, is_some, if◌then◌else◌, List, [], Option, None, Some}
use Rattle.std.specs.Map.{lookup}
use Rattle.jv_model.specs.promise.Counts.{counted}
use Rattle.lru.specs.LruCache.{LruCache, lru_cache, promoted, put_entries}
use Rattle.jv_cache.specs.declared.key.BlockKey.{BlockKey}
use Rattle.jv_cache.specs.Keys.{same_key}

-- the blocks, the most recently used first, how many there may be, and how many finds were hits and
-- misses
pub record Cached : Type 0 where
  pub blocks : List (BlockKey × List ℕ)
  pub entries : ℕ
  pub hits : ℕ
  pub misses : ℕ

abbrev pub cached : Option (LruCache BlockKey (List ℕ)) → ℕ → ℕ → Cached
cached None hits misses = record { blocks = []; entries = 0; hits = hits; misses = misses }
cached (Some c) hits misses =
    record { blocks = c.entries; entries = c.cap; hits = hits; misses = misses }

-- the room of a cache that is there, where none is there 1
abbrev pub room_in : Option (LruCache BlockKey (List ℕ)) → ℕ
room_in None = 1
room_in (Some c) = c.cap

abbrev pub blocks_in : Option (LruCache BlockKey (List ℕ)) → List (BlockKey × List ℕ)
blocks_in None = []
blocks_in (Some c) = c.entries

-- a cache that is there has room for a block, and no more blocks than it has room for
pub record IsBounded (cache : Option (LruCache BlockKey (List ℕ))) : Type 0 where
  pub some : 0 < room_in cache
  pub within : length (blocks_in cache) ≤ room_in cache

-- the bytes of a block, where it is kept
abbrev pub found_in : Cached → BlockKey → Option (List ℕ)
found_in cache key = lookup (same_key key) cache.blocks

-- a block that is there goes first
abbrev pub promoted_in : Cached → BlockKey → Cached
promoted_in cache key = record cache { blocks = promoted (same_key key) cache.blocks }

-- a find that is a hit puts the block first and counts; another one counts
abbrev pub noted_in : Cached → BlockKey → Cached
noted_in cache key = (if is_some (found_in cache key)
    then record (promoted_in cache key) { hits = counted cache.hits }
    else record cache { misses = counted cache.misses })

-- a block goes first, and the least recently used one goes where there is no room for it; a cache
-- for no block keeps none
abbrev pub kept_in : Cached → BlockKey → List ℕ → Cached
kept_in cache key bytes = (if cache.entries == 0 then cache
    else record cache {
      blocks = put_entries same_key
          (lru_cache cache.blocks cache.entries) key bytes;
    })

-- the block stands first, with these bytes, and is found
pub record IsFirst (cache : Cached) (key : BlockKey) (bytes : List ℕ) : Type 0 where
  pub first : slice_get cache.blocks 0 ≡ Some (key, bytes)
  pub found : found_in cache key ≡ Some bytes
