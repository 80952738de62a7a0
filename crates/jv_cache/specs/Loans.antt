-- What a cache ends as, once a reference to a block's bytes has ended.
use Rattle.std.specs.Prelude.{◌≡◌, ⊤}
use Rattle.std.specs.Borrow.{Fml, MutBor, follows_so}
use mathlib.Core.Option.{none}
use Rattle.jv_cache.specs.declared.key.BlockKey.{BlockKey}
use Rattle.jv_cache.specs.Cached.{Cached, noted_in}
use Rattle.jv_cache.specs.contracts.cache.BlockCache.{the_row}

abbrev pub EndsNoted : MutBor Cached → BlockKey → Fml
EndsNoted cache key =
    follows_so the_row the_row cache.ghost_name none (λ _ _. ⊤) (λ n. n ≡ noted_in cache.now key)
