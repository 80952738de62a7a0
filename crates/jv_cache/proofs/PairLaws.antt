-- Laws of pairs that a cache holds.
use Rattle.std.proofs.Common.{◌≡◌, suc, ◌-◌, ◌<◌, ◌≤◌, Bool, true, false, cond, List, [], ◌∷◌, length, take, Option, None, Some, refl, sym, ap, subst, arith, length-take}
use Rattle.std.specs.Prelude.{is_some}
use Rattle.std.specs.Option.{option_map_or}
use Rattle.std.specs.Map.{lookup, lookup_entry, remove_entry}
use Rattle.lru.specs.LruCache.{LruCache, promoted, put_entries}

-- the pair that is found passes, and is that of the look-up
pub entry_found : {K V : Type 0} (test : K → Bool) (es : List (K × V)) (e : K × V) → lookup_entry test es ≡ Some e → (test e.0 ≡ true) × (lookup test es ≡ Some e.1)
entry_found {K} {V} test [] e h = let never : ⊥ = cc in absurd never
entry_found {K} {V} test (x ∷ es) e h = go (test x.0) refl h (λ h. entry_found test es e h)
  where
    go : (b : Bool) → test x.0 ≡ b → cond b (Some x) (lookup_entry test es) ≡ Some e → (lookup_entry test es ≡ Some e → (test e.0 ≡ true) × (lookup test es ≡ Some e.1)) → (test e.0 ≡ true) × (cond b (Some x.1) (lookup test es) ≡ Some e.1)
    go true f h later = let same : x ≡ e = cc in (subst (λ (p : K × V). test p.0 ≡ true) same f, ap (λ (p : K × V). Some p.1) same)
    go false f h later = later h

-- no pair is found where the look-up returns nothing
pub no_entry : {K V : Type 0} (test : K → Bool) (es : List (K × V)) → is_some (lookup test es) ≡ false → lookup_entry test es ≡ None
no_entry {K} {V} test [] h = refl
no_entry {K} {V} test (x ∷ es) h = go (test x.0) h (λ h. no_entry test es h)
  where
    go : (b : Bool) → is_some (cond b (Some x.1) (lookup test es)) ≡ false → (is_some (lookup test es) ≡ false → lookup_entry test es ≡ None) → cond b (Some x) (lookup_entry test es) ≡ None
    go true h later = let never : ⊥ = cc in absurd never
    go false h later = later h

-- a promotion of what isn't there changes nothing
pub promoted_none : {K V : Type 0} (test : K → Bool) (es : List (K × V)) → is_some (lookup test es) ≡ false → promoted test es ≡ es
promoted_none {K} {V} test es h = ap (λ (o : Option (K × V)). option_map_or (λ e. e ∷ remove_entry test es) o es) (no_entry test es h)

-- and no promotion changes what is found
pub lookup-promoted : {K V : Type 0} (test : K → Bool) (es : List (K × V)) → lookup test (promoted test es) ≡ lookup test es
lookup-promoted {K} {V} test es = go (lookup_entry test es) refl
  where
    go : (o : Option (K × V)) → lookup_entry test es ≡ o → lookup test (option_map_or (λ e. e ∷ remove_entry test es) o es) ≡ lookup test es
    go None h = refl
    go (Some e) h = let found = entry_found test es e h in rw found.0 (sym found.1)

-- what is found and removed is one pair
pub length-removed : {K V : Type 0} (test : K → Bool) (es : List (K × V)) (e : K × V) → lookup_entry test es ≡ Some e → suc (length (remove_entry test es)) ≡ length es
length-removed {K} {V} test [] e h = let never : ⊥ = cc in absurd never
length-removed {K} {V} test (x ∷ es) e h = go (test x.0) h (λ h. length-removed test es e h)
  where
    go : (b : Bool) → cond b (Some x) (lookup_entry test es) ≡ Some e → (lookup_entry test es ≡ Some e → suc (length (remove_entry test es)) ≡ length es) → suc (length (cond b es (x ∷ remove_entry test es))) ≡ suc (length es)
    go true h later = refl
    go false h later = ap suc (later h)

-- a promotion keeps the number of pairs
pub length-promoted : {K V : Type 0} (test : K → Bool) (es : List (K × V)) → length (promoted test es) ≡ length es
length-promoted {K} {V} test es = go (lookup_entry test es) refl
  where
    go : (o : Option (K × V)) → lookup_entry test es ≡ o → length (option_map_or (λ e. e ∷ remove_entry test es) o es) ≡ length es
    go None h = refl
    go (Some e) h = length-removed test es e h

-- and what is put passes no room that was kept before
pub length-put : {K V : Type 0} (eq : K → K → Bool) (cache : LruCache K V) (key : K) (value : V) → 0 < cache.cap → length cache.entries ≤ cache.cap → length (put_entries eq cache key value) ≤ cache.cap
length-put {K} {V} eq cache key value some within = go (lookup_entry (eq key) cache.entries) refl
  where
    go : (o : Option (K × V)) → lookup_entry (eq key) cache.entries ≡ o → length (option_map_or (λ e. (e.0, value) ∷ remove_entry (eq key) cache.entries) o ((key, value) ∷ take (cache.cap - 1) cache.entries)) ≤ cache.cap
    go None h = omega (arith, length-take (cache.cap - 1) cache.entries)
    go (Some e) h = omega (arith, length-removed (eq key) cache.entries e h)
