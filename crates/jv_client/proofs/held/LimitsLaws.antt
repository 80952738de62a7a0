-- A client's cache has as many entries as its limits say, whatever is looked up in it.
use Rattle.std.proofs.Common.{◌≡◌, ℕ, Bool, true, false, cond, List, [], ◌∷◌, Option, Some, refl, ap, subst, ◌∙◌}
use Rattle.std.specs.Prelude.{fold, is_some}
use Rattle.jv_model.specs.declared.basics.Limits.{Limits}
use Rattle.jv_model.specs.declared.slice.BlockId.{BlockId}
use Rattle.jv_cache.specs.declared.key.BlockKey.{BlockKey}
use Rattle.jv_cache.specs.Cached.{Cached, found_in, noted_in}
use Rattle.jv_pending.specs.Held.{PendingValue}
use Rattle.jv_client_handles.specs.Views.{SeenViews}
use Rattle.jv_client_reads.specs.Calls.{cache_key}
use Rattle.jv_client_reads.specs.Fetching.{Fetching}
use Rattle.jv_client.specs.declared.reading.Ahead.{Ahead}
use Rattle.jv_client.specs.Reading.{LooksOn}
use Rattle.jv_client.proofs.reads.LookedUpLaws.{looks-on}
use Rattle.jv_client.specs.ClientValue.{HasLimits}

either : (b : Bool) (x y : Cached) (n : ℕ) → x.entries ≡ n → y.entries ≡ n → (cond b x y).entries ≡ n
either true x y n first second = first
either false x y n first second = second

noted : (cache : Cached) (key : BlockKey) → (noted_in cache key).entries ≡ cache.entries
noted cache key = either (is_some (found_in cache key)) _ _ cache.entries refl refl

all-noted : (cache : Cached) (blocks : List BlockId)
    → (fold (λ cache b. noted_in cache (cache_key b)) cache blocks).entries ≡ cache.entries
all-noted cache [] = refl
all-noted cache (b ∷ blocks) = all-noted (noted_in cache (cache_key b)) blocks ∙ noted cache (cache_key b)

pub limits-looked : (views : SeenViews) (fetch : Fetching) (to : Option Ahead) (limits : Limits) (pending : PendingValue) (was : Option Cached)
    (cache later : Cached)
    → was ≡ Some cache → LooksOn views fetch to cache later → HasLimits limits pending was
    → HasLimits limits pending (Some later)
limits-looked views fetch to limits pending was cache later is on has =
    let looks = looks-on views fetch to cache later on in
    let there : HasLimits limits pending (Some cache) = subst (HasLimits limits pending) is has in
    record {
      buffer = has.buffer;
      entries = ap (λ (cache : Cached). cache.entries) looks.is ∙ all-noted cache looks.blocks ∙ there.entries;
    }
