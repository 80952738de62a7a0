-- Laws of caches of blocks.
use Rattle.std.proofs.Common.{◌≡◌, ℕ, ◌-◌, ◌<◌, Bool, true, false, cond, List, ◌∷◌, take, Option, None, Some, refl, sym, ap, subst, ◌∙◌, arith, ⊎_elim, eqb-true}
use Rattle.std.specs.Prelude.{◌⊎◌, ◌&&◌, ◌==◌, slice_get, is_some, IsSome}
use Rattle.std.specs.Cmp.{nat_eq_equiv}
use Rattle.std.specs.Map.{lookup, lookup_entry, remove_entry}
use Rattle.std.specs.Option.{option_map_or}
use Rattle.std.proofs.lemmas.Bool.{and_parts}
use Rattle.jv_model.specs.promise.Counts.{counted}
use Rattle.lru.specs.LruCache.{LruCache, lru_cache, promoted, put_entries}
use Rattle.jv_cache.specs.declared.key.BlockKey.{BlockKey}
use Rattle.jv_cache.specs.Keys.{same_key}
use Rattle.jv_cache.specs.Cached.{Cached, found_in, promoted_in, noted_in, cached, IsBounded, IsFirst}
use Rattle.jv_cache.proofs.PairLaws.{entry_found, promoted_none, lookup-promoted, length-promoted, length-put}

-- a block that isn't there goes nowhere
pub missed : (cache : Cached) (key : BlockKey) → is_some (found_in cache key) ≡ false → promoted_in cache key ≡ cache
missed cache key h = ap (λ (bs : List (BlockKey × List ℕ)). let c : Cached = record cache { blocks = bs } in c) (promoted_none (same_key key) cache.blocks h)

-- a find doesn't change what is found
pub found-noted : (cache : Cached) (key : BlockKey) → found_in (noted_in cache key) key ≡ found_in cache key
found-noted cache key = go (is_some (found_in cache key))
  where
    go : (hit : Bool) → found_in (cond hit (record (promoted_in cache key) { hits = counted cache.hits }) (record cache { misses = counted cache.misses })) key ≡ found_in cache key
    go true = lookup-promoted (same_key key) cache.blocks
    go false = refl

-- keys that tie are equal
pub equal_if_same : (a b : BlockKey) → same_key a b ≡ true → b ≡ a
equal_if_same a b h =
    let parts = and_parts (a.id == b.id) (a.index == b.index) h in
    let id = eqb-true a.id b.id parts.0 in
    let index = eqb-true a.index b.index parts.1 in
    λ i. record { id = sym id i; index = sym index i }

pub same_self : (a : BlockKey) → same_key a a ≡ true
same_self a = ap (λ x. x && (a.index == a.index)) (nat_eq_equiv.refl a.id) ∙ ap (λ x. true && x) (nat_eq_equiv.refl a.index)

-- a block that stands first is found
pub first_found : (cache : Cached) (key : BlockKey) (bytes : List ℕ) (rest : List (BlockKey × List ℕ)) → cache.blocks ≡ (key, bytes) ∷ rest → IsFirst cache key bytes
first_found cache key bytes rest e = record {
  first = ap (λ (bs : List (BlockKey × List ℕ)). slice_get bs 0) e;
  found = ap (lookup (same_key key)) e ∙ ap (λ b. cond b (Some bytes) (lookup (same_key key) rest)) (same_self key);
}

-- what is put stands first
pub put_is_first : (cache : Cached) (key : BlockKey) (bytes : List ℕ) → let c : Cached = record cache { blocks = put_entries same_key (lru_cache cache.blocks cache.entries) key bytes } in IsFirst c key bytes
put_is_first cache key bytes = go (lookup_entry (same_key key) cache.blocks) refl
  where
    go : (o : Option (BlockKey × List ℕ)) → lookup_entry (same_key key) cache.blocks ≡ o → let c : Cached = record cache { blocks = option_map_or (λ e. (e.0, bytes) ∷ remove_entry (same_key key) cache.blocks) o ((key, bytes) ∷ take (cache.entries - 1) cache.blocks) } in IsFirst c key bytes
    go None h = first_found _ key bytes (take (cache.entries - 1) cache.blocks) refl
    go (Some e) h =
        let found = entry_found (same_key key) cache.blocks e h in
        first_found _ key bytes (remove_entry (same_key key) cache.blocks) (ap (λ (k : BlockKey). (k, bytes) ∷ remove_entry (same_key key) cache.blocks) (equal_if_same key e.0 found.0))

-- a cache with what is put has as much room as before, and no more blocks than that
pub put_bounded : (held : Option (LruCache BlockKey (List ℕ))) (c c' : LruCache BlockKey (List ℕ)) (key : BlockKey) (bytes : List ℕ) → held ≡ Some c → c' ≡ lru_cache (put_entries same_key c key bytes) c.cap → IsBounded held → IsBounded (Some c')
put_bounded held c c' key bytes e f bounded =
    let before : IsBounded (Some c) = subst (λ (o : Option (LruCache BlockKey (List ℕ))). IsBounded o) e bounded in
    subst (λ (x : LruCache BlockKey (List ℕ)). IsBounded (Some x)) (sym f) (record { some = before.some; within = length-put same_key c key bytes before.some before.within })

pub held_bounded : (held held' : Option (LruCache BlockKey (List ℕ))) → held' ≡ held → IsBounded held → IsBounded held'
held_bounded held held' e bounded = subst (λ (o : Option (LruCache BlockKey (List ℕ))). IsBounded o) (sym e) bounded

pub promoted_bounded : (held held' : Option (LruCache BlockKey (List ℕ))) (c c' : LruCache BlockKey (List ℕ)) (key : BlockKey) → held ≡ Some c → held' ≡ Some c' → c' ≡ lru_cache (promoted (same_key key) c.entries) c.cap → IsBounded held → IsBounded held'
promoted_bounded held held' c c' key e e' f bounded =
    let before : IsBounded (Some c) = subst (λ (o : Option (LruCache BlockKey (List ℕ))). IsBounded o) e bounded in
    subst (λ (o : Option (LruCache BlockKey (List ℕ))). IsBounded o) (sym (e' ∙ ap (λ (x : LruCache BlockKey (List ℕ)). Some x) f))
    (record { some = before.some; within = omega (arith, before.within, length-promoted (same_key key) c.entries) })

-- what is put into a cache that is there stands first
pub put_stands_first : (c c' : LruCache BlockKey (List ℕ)) (hits misses : ℕ) (key : BlockKey) (bytes : List ℕ) → c' ≡ lru_cache (put_entries same_key c key bytes) c.cap → IsFirst (cached (Some c') hits misses) key bytes
put_stands_first c c' hits misses key bytes f =
    subst (λ (x : LruCache BlockKey (List ℕ)). IsFirst (cached (Some x) hits misses) key bytes) (sym f) (put_is_first (cached (Some c) hits misses) key bytes)

-- what a cache for some blocks keeps without memory is there
pub is_there : (cache : Cached) (held : Option (LruCache BlockKey (List ℕ))) (c : LruCache BlockKey (List ℕ)) (hits misses : ℕ) (key : BlockKey) → cache ≡ cached held hits misses → held ≡ Some c → IsBounded held → (cache.entries ≡ 0) ⊎ IsSome (found_in cache key) → IsSome (lookup (same_key key) c.entries)
is_there cache held c hits misses key e f bounded h =
    let before : IsBounded (Some c) = subst (λ (o : Option (LruCache BlockKey (List ℕ))). IsBounded o) f bounded in
    let same : cache ≡ cached (Some c) hits misses = e ∙ ap (λ (o : Option (LruCache BlockKey (List ℕ))). cached o hits misses) f in
    ⊎_elim (λ (none : cache.entries ≡ 0). absurd (omega (arith, none, ap (λ (x : Cached). x.entries) same, before.some)))
    (λ (there : IsSome (found_in cache key)). subst (λ (x : Cached). IsSome (found_in x key)) same there) h
