-- Laws of a cache in which blocks are looked up and kept.
use Rattle.std.proofs.Common.{◌≡◌, ℕ, zero, suc, ◌+◌, ◌-◌, ◌⊎◌, inl, inr, Bool, true, false, cond, List, [], ◌∷◌}
use Rattle.std.proofs.Common.{◌++◌, length, take, Option, None, Some, refl, sym, ap, subst, ◌∙◌, arith}
use Rattle.std.specs.Prelude.{◌≢◌, ◌==◌, IsSomeAnd, OnErr, Result, Ok, Err, fold, is_some}
use Rattle.std.specs.List.{AllByRecursion}
use Rattle.std.specs.Map.{lookup, lookup_entry, remove_entry}
use Rattle.std.specs.Option.{option_map_or}
use Rattle.std.proofs.lemmas.List.Sums.{fold-append}
use Rattle.std.proofs.lemmas.List.Elements.{All-append, All-cons, All-contains, All-from_recursion, All-nil, All-weaker}
use Rattle.jv_model.specs.promise.Counts.{counted}
use Rattle.jv_model.specs.declared.slice.BlockId.{BlockId}
use Rattle.jv_model.specs.declared.slice.Rec.{Rec}
use Rattle.jv_model.specs.promise.blocks.Slices.{block_at}
use Rattle.lru.specs.LruCache.{lru_cache, promoted, put_entries}
use Rattle.jv_cache.specs.declared.key.BlockKey.{BlockKey}
use Rattle.jv_cache.specs.Keys.{same_key}
use Rattle.jv_cache.specs.Cached.{Cached, found_in, kept_in, noted_in, promoted_in}
use Rattle.jv_cache.proofs.CachedLaws.{equal_if_same}
use Rattle.jv_cache.proofs.PairLaws.{entry_found}
use Rattle.jv_volume_bytes.specs.promise.Blocks.{Blocks, Grows}
use Rattle.jv_client_handles.specs.declared.views.View.{View}
use Rattle.jv_client_handles.specs.Views.{SeenViews, view_at}
use Rattle.jv_slices_reading.specs.Parts.{IsNamed}
use Rattle.jv_client_reads.specs.declared.need.Need.{Need}
use Rattle.jv_client_reads.specs.declared.need.Need.TheVariants.{Look, Block, Nothing}
use Rattle.jv_client_reads.specs.Calls.{AreSizedBy, CachedOf, FindsAll, HasBlock, HasCached, IsCacheOf, IsMissing, IsOnly, Keeps}
use Rattle.jv_client_reads.specs.Calls.{Kept, LooksFor, LooksLast, Lost, cache_key}

-- ---- what is found under a key

abbrev Pairs : Type 0
Pairs = List (BlockKey × List ℕ)

removed_other : (q k : BlockKey) (es : Pairs) → same_key q k ≡ false
    → lookup (same_key q) (remove_entry (same_key k) es) ≡ lookup (same_key q) es
removed_other q k [] other = refl
removed_other q k (x ∷ es) other = go (same_key k x.0) refl (removed_other q k es other)
  where
    go : (b : Bool) → same_key k x.0 ≡ b → lookup (same_key q) (remove_entry (same_key k) es) ≡ lookup (same_key q) es
        → lookup (same_key q) (cond b es (x ∷ remove_entry (same_key k) es))
        ≡ cond (same_key q x.0) (Some x.1) (lookup (same_key q) es)
    go true same later =
        let off : same_key q x.0 ≡ false = ap (same_key q) (equal_if_same k x.0 same) ∙ other in
        ap (λ b. cond b (Some x.1) (lookup (same_key q) es)) (sym off)
    go false same later = ap (λ o. cond (same_key q x.0) (Some x.1) o) later

-- a pair that is found stands first, and the others after it
put_first : (q k : BlockKey) (es : Pairs) (e : BlockKey × List ℕ) → lookup_entry (same_key k) es ≡ Some e → (b : Bool)
    → same_key q e.0 ≡ b
    → cond b (Some e.1) (lookup (same_key q) (remove_entry (same_key k) es)) ≡ lookup (same_key q) es
put_first q k es e h true same =
    let found = entry_found (same_key k) es e h in
    let key : k ≡ q = sym (equal_if_same k e.0 found.0) ∙ equal_if_same q e.0 same in
    sym found.1 ∙ ap (λ (x : BlockKey). lookup (same_key x) es) key
put_first q k es e h false other =
    let found = entry_found (same_key k) es e h in
    removed_other q k es (sym (ap (same_key q) (equal_if_same k e.0 found.0)) ∙ other)

found-promoted : (q k : BlockKey) (es : Pairs) → lookup (same_key q) (promoted (same_key k) es) ≡ lookup (same_key q) es
found-promoted q k es = go (lookup_entry (same_key k) es) refl
  where
    go : (o : Option (BlockKey × List ℕ)) → lookup_entry (same_key k) es ≡ o
        → lookup (same_key q) (option_map_or (λ e. e ∷ remove_entry (same_key k) es) o es) ≡ lookup (same_key q) es
    go None h = refl
    go (Some e) h = put_first q k es e h (same_key q e.0) refl

-- ---- look-ups

-- a look-up changes nothing that is found
pub found-noted : (cache : Cached) (key q : BlockKey) → found_in (noted_in cache key) q ≡ found_in cache q
found-noted cache key q = go (is_some (found_in cache key))
  where
    go : (hit : Bool) → found_in
        (cond hit (record (promoted_in cache key) { hits = counted cache.hits })
        (record cache { misses = counted cache.misses })) q ≡ found_in cache q
    go true = found-promoted q key cache.blocks
    go false = refl

abbrev note : Cached → BlockId → Cached
note cache b = noted_in cache (cache_key b)

-- any blocks were looked up one after the other
pub record LooksUp (before after : Cached) : Type 0 where
  pub blocks : List BlockId
  pub is : after ≡ fold note before blocks

found-all : (cache : Cached) (bs : List BlockId) (q : BlockKey) → found_in (fold note cache bs) q ≡ found_in cache q
found-all cache [] q = refl
found-all cache (b ∷ bs) q = found-all (note cache b) bs q ∙ found-noted cache (cache_key b) q

pub looks_keep : (before after : Cached) → LooksUp before after → (q : BlockKey) → found_in after q ≡ found_in before q
looks_keep before after looks q = ap (λ (cache : Cached). found_in cache q) looks.is ∙ found-all before looks.blocks q

abbrev pub looks_one : (before after : Cached) (b : BlockId) → after ≡ noted_in before (cache_key b) → LooksUp before after
looks_one before after b e = record { blocks = b ∷ []; is = e }

abbrev pub looks_then : (before middle after : Cached) → LooksUp before middle → LooksUp middle after
    → LooksUp before after
looks_then before middle after first second = record {
  blocks = first.blocks ++ second.blocks;
  is = second.is ∙ ap (λ (cache : Cached). fold note cache second.blocks) first.is
      ∙ sym (fold-append note before first.blocks second.blocks);
}

-- ---- blocks that are there were looked up

abbrev pub finds_looks : (before after : Cached) → FindsAll before after → LooksUp before after
finds_looks before after finds = record { blocks = finds.blocks; is = finds.is }

abbrev pub finds_none : (cache : Cached) → FindsAll cache cache
finds_none cache = record { blocks = []; found = All-nil (HasBlock cache); is = refl }

pub has-earlier : (before middle : Cached) → LooksUp before middle → (b : BlockId) → HasBlock middle b → HasBlock before b
has-earlier before middle looks b has =
    subst (λ o. IsSomeAnd o (λ bytes. length bytes ≡ b.size)) (looks_keep before middle looks (cache_key b)) has

abbrev pub finds_then : (before middle after : Cached) → FindsAll before middle → FindsAll middle after
    → FindsAll before after
finds_then before middle after first second =
    let looks = finds_looks before middle first in
    record {
      blocks = first.blocks ++ second.blocks;
      found = All-append (HasBlock before) first.blocks second.blocks first.found
          (All-weaker (HasBlock middle) (HasBlock before) (has-earlier before middle looks) second.blocks second.found);
      is = (looks_then before middle after looks (finds_looks middle after second)).is;
    }

abbrev pub finds_one : (before after : Cached) (b : BlockId) → HasBlock before b → after ≡ noted_in before (cache_key b)
    → FindsAll before after
finds_one before after b has e = record { blocks = b ∷ []; found = All-cons (HasBlock before) b [] has (All-nil (HasBlock before)); is = e }

-- ---- with what is needed next

pub for_looks : (need : Need) (before after : Cached) → LooksFor need before after → LooksUp before after
for_looks (Look window) before after looks =
    subst (LooksUp before) (sym looks.last) (finds_looks before looks.middle looks.finds)
for_looks (Block b) before after looks =
    looks_then before looks.middle after (finds_looks before looks.middle looks.finds)
    (looks_one looks.middle after b looks.last.0)
for_looks Nothing before after looks =
    subst (LooksUp before) (sym looks.last) (finds_looks before looks.middle looks.finds)

-- a block that wasn't there after look-ups wasn't there before them
pub missing_before : (before after : Cached) (b : BlockId) → LooksUp before after → IsMissing after b
    → IsMissing before b
missing_before before after b looks missing =
    λ bytes found. missing bytes (looks_keep before after looks (cache_key b) ∙ found)

-- blocks that are there were looked up first
pub last_after : (need : Need) (before start middle after : Cached) → FindsAll before start
    → LooksLast need start middle after → LooksLast need before middle after
last_after (Look window) before start middle after finds last = last
last_after (Block b) before start middle after finds last =
    (last.0, missing_before before start b (finds_looks before start finds) last.1)
last_after Nothing before start middle after finds last = last

pub for_after : (need : Need) (before start after : Cached) → FindsAll before start → LooksFor need start after
    → LooksFor need before after
for_after need before start after finds looks = record {
  middle = looks.middle;
  finds = finds_then before start looks.middle finds looks.finds;
  last = last_after need before start looks.middle after finds looks.last;
}

pub cached_looks : (blocks : Blocks) (list : List Rec) (block : ℕ) (before after : Cached) → LooksUp before after
    → CachedOf blocks list block before → CachedOf blocks list block after
cached_looks blocks list block before after looks h = record {
  has = λ b named bytes found. h.has b named bytes (sym (looks_keep before after looks (cache_key b)) ∙ found);
}

-- look-ups leave what the cache has
pub has_looks : (blocks : Blocks) (views : SeenViews) (block : ℕ) (before after : Cached) → LooksUp before after
    → HasCached blocks views block before → HasCached blocks views block after
has_looks blocks views block before after looks h = record {
  has = λ window view seen. cached_looks blocks view.list block before after looks (h.has window view seen);
}

-- ---- a block is kept

taken : (test : BlockKey → Bool) (n : ℕ) (es : Pairs) (y : List ℕ) → lookup test (take n es) ≡ Some y
    → lookup test es ≡ Some y
taken test zero es y h = let never : ⊥ = cc in absurd never
taken test (suc n) [] y h = h
taken test (suc n) (x ∷ es) y h = go (test x.0) h (taken test n es y)
  where
    go : (b : Bool) → cond b (Some x.1) (lookup test (take n es)) ≡ Some y
        → (lookup test (take n es) ≡ Some y → lookup test es ≡ Some y)
        → cond b (Some x.1) (lookup test es) ≡ Some y
    go true h later = h
    go false h later = later h

-- what is found after a block was put: the block under its own key, or what was there
abbrev IsPutOr : BlockKey → BlockKey → List ℕ → List ℕ → Pairs → Type 0
IsPutOr q k bytes y es = ((q ≡ k) × (y ≡ bytes)) ⊎ (lookup (same_key q) es ≡ Some y)

put_new : (q k : BlockKey) (bytes y : List ℕ) (n : ℕ) (es : Pairs) (b : Bool) → same_key q k ≡ b
    → cond b (Some bytes) (lookup (same_key q) (take n es)) ≡ Some y → IsPutOr q k bytes y es
put_new q k bytes y n es true same h = inl (sym (equal_if_same q k same), cc)
put_new q k bytes y n es false same h = inr (taken (same_key q) n es y h)

put_old : (q k : BlockKey) (bytes y : List ℕ) (es : Pairs) (e : BlockKey × List ℕ)
    → lookup_entry (same_key k) es ≡ Some e → (b : Bool)
    → same_key q e.0 ≡ b → cond b (Some bytes) (lookup (same_key q) (remove_entry (same_key k) es)) ≡ Some y
    → IsPutOr q k bytes y es
put_old q k bytes y es e is true same h =
    let found = entry_found (same_key k) es e is in
    inl (sym (equal_if_same q e.0 same) ∙ equal_if_same k e.0 found.0, cc)
put_old q k bytes y es e is false same h = inr (sym (put_first q k es e is false same) ∙ h)

found-put : (q k : BlockKey) (bytes y : List ℕ) (cap : ℕ) (es : Pairs)
    → lookup (same_key q) (put_entries same_key (lru_cache es cap) k bytes) ≡ Some y
    → IsPutOr q k bytes y es
found-put q k bytes y cap es = go (lookup_entry (same_key k) es) refl
  where
    go : (o : Option (BlockKey × List ℕ)) → lookup_entry (same_key k) es ≡ o
        → lookup (same_key q)
        (option_map_or (λ e. (e.0, bytes) ∷ remove_entry (same_key k) es) o ((k, bytes) ∷ take (cap - 1) es))
        ≡ Some y → IsPutOr q k bytes y es
    go None is h = put_new q k bytes y (cap - 1) es (same_key q k) refl h
    go (Some e) is h = put_old q k bytes y es e is (same_key q e.0) refl h

found-kept : (cache : Cached) (q k : BlockKey) (bytes y : List ℕ) → found_in (kept_in cache k bytes) q ≡ Some y
    → IsPutOr q k bytes y cache.blocks
found-kept cache q k bytes y = go (cache.entries == 0)
  where
    go : (b : Bool) → found_in
        (cond b cache (record cache { blocks = put_entries same_key (lru_cache cache.blocks cache.entries) k bytes })) q
        ≡ Some y
        → IsPutOr q k bytes y cache.blocks
    go true h = inr h
    go false h = found-put q k bytes y cache.entries cache.blocks h

-- a block that is kept is found under its own name, where no other that views name has that
pub has_keeps : (blocks : Blocks) (views : SeenViews) (block : ℕ) (b : BlockId) (bytes : List ℕ) (before after : Cached)
    → Keeps b bytes before after → blocks b ≡ Some bytes → IsOnly views block b
    → HasCached blocks views block before → HasCached blocks views block after
has_keeps blocks views block b bytes before after (Lost same) own alone h =
    subst (λ (cache : Cached). HasCached blocks views block cache) (sym same) h
has_keeps blocks views block b bytes before after (Kept is) own alone h = record {
  has = λ window view seen. record {
    has = λ other named found_bytes found.
        by_key window view seen other named found_bytes
        (found-kept before (cache_key other) (cache_key b) bytes found_bytes
        (sym (ap (λ (cache : Cached). found_in cache (cache_key other)) is) ∙ found));
  };
}
  where
    by_key : (window : ℕ) (view : View) → view_at views window ≡ Some view → (other : BlockId)
        → IsNamed view.list block other → (y : List ℕ)
        → IsPutOr (cache_key other) (cache_key b) bytes y before.blocks → blocks other ≡ Some y
    by_key window view seen other named y (inl (key, same)) = ap blocks (alone.only window view seen other named key)
        ∙ own ∙ ap Some (sym same)
    by_key window view seen other named y (inr found) = (h.has window view seen).has other named y found

-- ---- which blocks are the only ones of their names

abbrev HasSize : (ℕ → ℕ) → Rec → Type 0
HasSize sizes r = r.id ≢ 0 → r.size ≡ sizes r.id

-- then so have the blocks that they name
pub named_sized : (sizes : ℕ → ℕ) (block : ℕ) (list : List Rec) (b : BlockId) → AllByRecursion (HasSize sizes) list
    → IsNamed list block b
    → b ≡ block_at b.id (sizes b.id) block b.index
named_sized sizes block list b sized named =
    let r = named.r in
    let size : r.size ≡ sizes r.id =
    All-contains (HasSize sizes) list r (All-from_recursion (HasSize sizes) list sized) named.there
    (λ none. absurd (omega (arith, none, named.some))) in
    let id : r.id ≡ b.id = sym (ap (λ (x : BlockId). x.id) named.is) in
    named.is ∙ ap (λ n. block_at r.id n block b.index) size ∙ ap (λ n. block_at n (sizes n) block b.index) id

-- a block that has its slice's size is the only one of its name
pub only_sized : (sizes : ℕ → ℕ) (views : SeenViews) (block : ℕ) (b : BlockId) → AreSizedBy sizes views
    → b ≡ block_at b.id (sizes b.id) block b.index → IsOnly views block b
only_sized sizes views block b sized is = record {
  only = λ window view seen other named key.
      named_sized sizes block view.list other (sized.sized window view seen) named
      ∙ ap (λ (k : BlockKey). block_at k.id (sizes k.id) block k.index) key ∙ sym is;
}

-- ---- a cache of blocks of slices whose sizes are known, whatever views name

module _ (sizes : ℕ → ℕ) (block : ℕ) (blocks : Blocks) where
  -- an empty one, and one in which blocks are looked up
  pub cache_of-empty : (cache : Cached) → cache.blocks ≡ [] → IsCacheOf sizes block blocks cache
  cache_of-empty cache none = record {
    has = λ key bytes found.
        let is : None ≡ Some bytes = sym (ap (lookup (same_key key)) none) ∙ found in
        let never : ⊥ = cc in absurd never;
  }

  pub cache_of-looks : (before after : Cached) → LooksUp before after → IsCacheOf sizes block blocks before
      → IsCacheOf sizes block blocks after
  cache_of-looks before after looks h =
      record { has = λ key bytes found. h.has key bytes (sym (looks_keep before after looks key) ∙ found) }

  -- one in which a block with its slice's size is kept
  pub cache_of-keeps : (b : BlockId) (bytes : List ℕ) (before after : Cached) → Keeps b bytes before after
      → blocks b ≡ Some bytes → b ≡ block_at b.id (sizes b.id) block b.index → IsCacheOf sizes block blocks before
      → IsCacheOf sizes block blocks after
  cache_of-keeps b bytes before after (Lost same) own sized h =
      subst (λ (cache : Cached). IsCacheOf sizes block blocks cache) (sym same) h
  cache_of-keeps b bytes before after (Kept is) own sized h = record {
    has = λ key y found.
        by_key key y (found-kept before key (cache_key b) bytes y (sym (ap (λ (cache : Cached). found_in cache key) is)
        ∙ found));
  }
    where
      by_key : (key : BlockKey) (y : List ℕ) → IsPutOr key (cache_key b) bytes y before.blocks
          → blocks (block_at key.id (sizes key.id) block key.index) ≡ Some y
      by_key key y (inl (same, e)) =
          ap (λ (k : BlockKey). blocks (block_at k.id (sizes k.id) block k.index)) same ∙ ap blocks (sym sized) ∙ own
          ∙ ap Some (sym e)
      by_key key y (inr found) = h.has key y found

  -- it stays one where blocks come, and where other slices get their sizes
  pub cache_of-later : (sizes' : ℕ → ℕ) (later : Blocks) (cache : Cached) → Grows blocks later
      → ((b : BlockId) (bytes : List ℕ) → blocks b ≡ Some bytes → sizes' b.id ≡ sizes b.id)
      → IsCacheOf sizes block blocks cache → IsCacheOf sizes' block later cache
  cache_of-later sizes' later cache grows same h = record {
    has = λ key bytes found.
        let b : BlockId = block_at key.id (sizes key.id) block key.index in
        let there : blocks b ≡ Some bytes = h.has key bytes found in
        ap (λ n. later (block_at key.id n block key.index)) (same b bytes there) ∙ grows b bytes there;
  }

  -- and has the blocks that views name, if their records have these sizes
  pub cache_of-has : (views : SeenViews) (cache : Cached) → AreSizedBy sizes views → IsCacheOf sizes block blocks cache
      → HasCached blocks views block cache
  cache_of-has views cache sized h = record {
    has = λ window view seen. record {
      has = λ b named bytes found.
          ap blocks (named_sized sizes block view.list b (sized.sized window view seen) named)
          ∙ h.has (cache_key b) bytes found;
    };
  }
