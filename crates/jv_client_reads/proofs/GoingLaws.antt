-- Laws of a reading that goes on: it begins with a part, fills in its blocks, and ends with it.
use Rattle.std.proofs.Common.{◌≡◌, ℕ, ◌+◌, ◌-◌, ◌<◌, ◌≤◌, Bool, true, false, List, [], ◌∷◌, ◌++◌, length, drop, Option}
use Rattle.std.proofs.Common.{None, Some, inl, inr, refl, sym, ap, subst, ◌∙◌, arith, length-drop}
use Rattle.std.specs.Prelude.{◌⊎◌, All, IfSome, IsSomeAnd, is_some, nat_le, slice_get, if◌then◌else◌}
use Rattle.std.proofs.lemmas.Bool.{le-leb, lt-leb}
use Rattle.std.proofs.lemmas.List.{append_assoc, drop-drop}
use Rattle.std.proofs.lemmas.List.Elements.{All-drop}
use Rattle.jv_model.specs.declared.slice.BlockId.{BlockId}
use Rattle.jv_model.specs.declared.slice.Rec.{Rec}
use Rattle.jv_model.specs.promise.journal.Reading.{Asked, bytes_from, window_start}
use Rattle.jv_cache.specs.Cached.{Cached, found_in, noted_in}
use Rattle.jv_volume_bytes.specs.promise.Blocks.{Blocks, known_by}
use Rattle.jv_volume_bytes.specs.promise.Bytes.{KnownBytes}
use Rattle.jv_client_handles.specs.declared.views.View.{View}
use Rattle.jv_client_handles.specs.Views.{SeenViews, view_at}
use Rattle.jv_slices_reading.specs.Parts.{IsNamed, Part, ReadsAs, window_byte}
use Rattle.jv_slices_reading.specs.Laws.{ReadsBlocks}
use Rattle.jv_slices_reading.proofs.PartLaws.{reads_go_on}
use Rattle.jv_client_reads.specs.declared.begun.Begun.{Begun}
use Rattle.jv_client_reads.specs.declared.begun.Read.{Read}
use Rattle.jv_client_reads.specs.declared.need.Need.{Need}
use Rattle.jv_client_reads.specs.declared.need.Need.TheVariants.{Look, Block, Nothing}
use Rattle.jv_client_reads.specs.Ahead.{ahead_of, blocks_ahead, part_blocks, parts_after, parts_blocks}
use Rattle.jv_client_reads.specs.Fetching.{Fetching, block_needed, fetch_left, next_of, weight}
use Rattle.jv_client_reads.specs.Shows.{shown_len}
use Rattle.jv_client_reads.specs.Going.{CanFetch, HasBegun, HasRead, IsBegunBy, IsFetching, IsShown}
use Rattle.jv_client_reads.specs.Calls.{Asks, CachedOf, HasBlock, HasCached, IsMissing, cache_key}
use Rattle.jv_client_reads.specs.Calls.{first_seen, first_unseen}
use Rattle.jv_client_reads.specs.Inside.{BeginsBy, BeginsPart, HadBegun, BeginsNow, IsOver, LooksFirst, Ends, EndsPart, Fills, FillsBegun}
use Rattle.jv_client_reads.specs.Inside.{FillsFrom, FillsOne, FirstBegins, Goes, GoesOn, GoesOnAny, GoesTo, HasFilled}
use Rattle.jv_client_reads.specs.Inside.{IsFurther, Misses, Stops, Waits, Ended, ended, waiting}
use Rattle.jv_client_reads.proofs.CacheLaws.{finds_looks, finds_none, finds_one, finds_then, has_looks}
use Rattle.jv_client_reads.proofs.CacheLaws.{last_after, looks_keep, missing_before}
use Rattle.std.proofs.lemmas.Option.{same_Some}

-- ---- blocks of a part

further_none : (part : Part) → IsFurther part part
further_none part = record {
  part = record { list_is = refl; from_is = refl; to_is = refl; block_is = refl };
  count = 0;
  left = refl;
}

further_then : (before middle after : Part) → IsFurther before middle → IsFurther middle after → IsFurther before after
further_then before middle after first second = record {
  part = record {
    list_is = second.part.list_is ∙ first.part.list_is;
    from_is = second.part.from_is ∙ first.part.from_is;
    to_is = second.part.to_is ∙ first.part.to_is;
    block_is = second.part.block_is ∙ first.part.block_is;
  };
  count = first.count + second.count;
  left = second.left ∙ ap (drop second.count) first.left ∙ drop-drop second.count first.count before.left;
}

further_one : (bytes : List ℕ) (before after : Part) → FillsOne bytes before after → IsFurther before after
further_one bytes before after fills = record { part = fills.part; count = 1; left = fills.left }

-- nothing is filled in yet
pub fills_none : (cache : Cached) (part : Part) → Fills cache cache part part
fills_none cache part =
    record {
      further = further_none part;
      finds = finds_none cache;
      each = refl;
      reads = λ blocks cached reads. reads;
    }

next_less : (bs : List BlockId) (b : BlockId) → slice_get bs 0 ≡ Some b → length (drop 1 bs) + 1 ≡ length bs
next_less [] b h = let never : ⊥ = cc in absurd never
next_less (x ∷ bs) b h = omega arith

next_is : (bs : List BlockId) (b : BlockId) → slice_get bs 0 ≡ Some b → b ∷ drop 1 bs ≡ bs
next_is [] b h = let never : ⊥ = cc in absurd never
next_is (x ∷ bs) b h = ap (λ (first : BlockId). first ∷ bs) (sym (same_Some x b h))

further_fewer : (before after : Part) → IsFurther before after → length after.left ≤ length before.left
further_fewer before after further =
    omega (arith, ap (length {A = BlockId}) further.left, length-drop further.count before.left)

module _ (cache middle later : Cached) (before now : Part) (b : BlockId) (so_far : Fills cache middle before now)
    (noted : later ≡ noted_in middle (cache_key b)) (next : slice_get now.left 0 ≡ Some b) where
  -- the cache has the block that is filled in
  has_filled : (after : Part) → HasFilled middle b now after → HasBlock middle b
  has_filled after filled =
      subst (λ o. IsSomeAnd o (λ bytes. length bytes ≡ b.size)) (sym filled.found) filled.long

  -- one block more is filled in
  pub fills_more : (after : Part) → IsNamed now.list now.block b → HasFilled middle b now after
      → Fills cache later before after
  fills_more after named filled = record {
    further = further_then before now after so_far.further (further_one filled.bytes now after filled.fills);
    finds = finds_then cache middle later so_far.finds (finds_one middle later b (has_filled after filled) noted);
    each =
        append_assoc so_far.finds.blocks (b ∷ []) after.left
        ∙ ap (λ (left : List BlockId). so_far.finds.blocks ++ (b ∷ left)) filled.fills.left
        ∙ ap (λ (left : List BlockId). so_far.finds.blocks ++ left) (next_is now.left b next)
        ∙ so_far.each;
    reads = λ blocks cached reads.
        let found : found_in cache (cache_key b) ≡ Some filled.bytes =
        sym (looks_keep cache middle (finds_looks cache middle so_far.finds) (cache_key b)) ∙ filled.found in
        let by_list : IsNamed before.list now.block b =
        subst (λ (l : List Rec). IsNamed l now.block b) so_far.further.part.list_is named in
        let named' : IsNamed before.list before.block b =
        subst (λ (n : ℕ). IsNamed before.list n b) so_far.further.part.block_is by_list in
        reads_go_on.filled blocks b filled.bytes now after (cached.has b named' filled.bytes found) next
        filled.fills.part.block_is filled.fills.reads
        (so_far.reads blocks cached reads);
  }

  -- one isn't there
  pub misses : (after : Part) → after ≡ now → IsMissing middle b → Misses cache later before after b
  misses after same missing = subst (λ (p : Part). Misses cache later before p b) (sym same) (record {
    middle = middle;
    fills = so_far;
    next = next;
    noted = noted;
    missing = missing_before cache middle b (finds_looks cache middle so_far.finds) missing;
  })

-- ---- steps of a reading

pub goes_then : (views : SeenViews) (c d e : Cached) (f g h : Fetching) → Goes views c d f g → Goes views d e g h
    → Goes views c e f h
goes_then views c d e f g h first second = record {
  block = second.block ∙ first.block;
  can = λ can. second.can (first.can can);
  falls = omega (arith, first.falls, second.falls);
  begins = λ none seen. omega (arith, first.begins none seen, second.falls);
  finds = finds_then c d e first.finds second.finds;
  are = append_assoc first.finds.blocks second.finds.blocks (blocks_ahead views h)
      ∙ ap (λ (left : List BlockId). first.finds.blocks ++ left) second.are ∙ first.are;
  reads = λ blocks all has is.
      let has' : HasCached blocks views g.block d =
      subst (λ (n : ℕ). HasCached blocks views n d) (sym first.block)
      (has_looks blocks views f.block c d (finds_looks c d first.finds) has) in
      second.reads blocks all has' (first.reads blocks all has is);
}

-- nothing is done where no part can begin
goes_nowhere : (views : SeenViews) (cache : Cached) (f : Fetching) → (f.begun ≡ None → first_seen views f.parts → ⊥)
    → Goes views cache cache f f
goes_nowhere views cache f stuck = record {
  block = refl;
  can = λ can. can;
  falls = omega arith;
  begins = λ none seen. absurd (stuck none seen);
  finds = finds_none cache;
  are = refl;
  reads = λ blocks all has is. is;
}

unseen_seen : (views : SeenViews) (parts : List Asked) (window : ℕ) → first_unseen views parts window
    → first_seen views parts → ⊥
unseen_seen views [] window h seen = h
unseen_seen views (asked ∷ others) window (same, none) seen =
    let gone : is_some (view_at views asked.window) ≡ false = ap (λ (n : ℕ). is_some (view_at views n)) same
    ∙ ap (is_some {T = View}) none in
    let never : true ≡ false = sym seen ∙ gone in cc

over_seen : (views : SeenViews) (parts : List Asked) → parts ≡ [] → first_seen views parts → ⊥
over_seen views parts over seen = subst (first_seen views) over seen

-- a reading whose blocks have a length, and which has read something
abbrev state : ℕ → List Read → Option Begun → List Asked → Fetching
state block read begun parts = record { block = block; parts = parts; begun = begun; read = read }

after_less : (full : Bool) (parts : List Asked) → weight (parts_after full parts) ≤ weight (drop 1 parts)
after_less true parts = omega arith
after_less false parts = omega arith

module _ (views : SeenViews) (block : ℕ) where
  -- what is left of a part is of the same records
  further_by : (asked : Asked) (view : View) (begun : Begun) (part : Part) → IsBegunBy block asked view begun
      → IsFurther begun.part part
      → IsBegunBy block asked view (record begun { part = part })
  further_by asked view begun part by further = record {
    entry = by.entry;
    full = by.full;
    part = record {
      list_is = further.part.list_is ∙ by.part.list_is;
      from_is = further.part.from_is ∙ by.part.from_is;
      to_is = further.part.to_is ∙ by.part.to_is;
      block_is = further.part.block_is ∙ by.part.block_is;
    };
    named = subst (λ (bs : List BlockId). All (IsNamed view.list block) bs) (sym further.left)
        (All-drop (IsNamed view.list block) further.count begun.part.left by.named);
  }

  further_can : (parts : List Asked) (begun : Begun) (part : Part) → IsFurther begun.part part
      → HasBegun views block (Some begun) parts
      → HasBegun views block (Some (record begun { part = part })) parts
  further_can [] begun part further h = h
  further_can (asked ∷ others) begun part further (view, seen, by) =
      (view, seen, further_by asked view begun part by further)

  cached_begun : (blocks : Blocks) (cache : Cached) (parts : List Asked) (begun : Begun)
      → HasBegun views block (Some begun) parts
      → HasCached blocks views block cache → CachedOf blocks begun.part.list begun.part.block cache
  cached_begun blocks cache [] begun h has = absurd h
  cached_begun blocks cache (asked ∷ others) begun (view, seen, by) has =
      let by_list : CachedOf blocks begun.part.list block cache =
      subst (λ (l : List Rec). CachedOf blocks l block cache) (sym by.part.list_is) (has.has asked.window view seen) in
      subst (λ (n : ℕ). CachedOf blocks begun.part.list n cache) (sym by.part.block_is) by_list

  -- a part that begins has its own blocks ahead
  begins_ahead : (asked : Asked) (others : List Asked) (begun : Begun) → BeginsBy views block asked begun
      → ahead_of views block (Some begun) (asked ∷ others) ≡ ahead_of views block None (asked ∷ others)
  begins_ahead asked others begun h =
      let rest : Bool → List BlockId = λ full. parts_blocks views block (parts_after full (asked ∷ others)) in
      ap (λ (left : List BlockId). left ++ rest begun.is_full) h.left
      ∙ ap (λ full. part_blocks block h.view asked ++ rest full) h.by.full
      ∙ ap (λ (more : List BlockId). part_blocks block h.view asked ++ more) (by_full (nat_le asked.to h.view.length))
      ∙ ap (λ (o : Option View). elim o [
        | None ↦ []
        | Some view ↦ part_blocks block view asked
            ++ (if nat_le asked.to view.length then parts_blocks views block others else [])
      ]) (sym h.seen)
    where
      by_full : (full : Bool) → parts_blocks views block (parts_after full (asked ∷ others))
          ≡ (if full then parts_blocks views block others else [])
      by_full true = refl
      by_full false = refl

module _ (views : SeenViews) (cache : Cached) (block : ℕ) (read : List Read) where
  -- a part begins
  begins_goes : (parts : List Asked) (begun : Begun) → FirstBegins views block parts begun
      → Goes views cache cache (state block read None parts) (state block read (Some begun) parts)
  begins_goes [] begun h = absurd h
  begins_goes (asked ∷ others) begun h = record {
    block = refl;
    can = λ can. (h.view, h.seen, h.by);
    falls = omega (arith, h.few);
    begins = λ none seen. omega (arith, h.few);
    finds = finds_none cache;
    are = begins_ahead views block asked others begun h;
    reads = λ blocks all has is. record {
      some = is.some;
      few = is.few;
      read = is.read;
      begun = (h.view, h.seen, h.by);
      fills = h.reads blocks;
    };
  }

  -- its blocks are filled in
  fills_goes : (later : Cached) (parts : List Asked) (begun : Begun) (part : Part) → Fills cache later begun.part part
      → Goes views cache later (state block read (Some begun) parts)
      (state block read (Some (record begun { part = part })) parts)
  fills_goes later parts begun part fills = record {
    block = refl;
    can = further_can views block parts begun part fills.further;
    falls =
        let left = ap (length {A = BlockId}) fills.further.left in
        omega (arith, left, length-drop fills.further.count begun.part.left);
    begins = λ none seen. (let never : ⊥ = cc in absurd never);
    finds = fills.finds;
    are =
        let rest = parts_blocks views block (parts_after begun.is_full parts) in
        sym (append_assoc fills.finds.blocks part.left rest) ∙ ap (λ (left : List BlockId). left ++ rest) fills.each;
    reads = λ blocks all has is. record {
      some = is.some;
      few = is.few;
      read = is.read;
      begun = further_can views block parts begun part fills.further is.begun;
      fills = fills.reads blocks (cached_begun views block blocks cache parts begun is.begun has) is.fills;
    };
  }

-- ---- a part was read

-- the bytes of a part
abbrev AreOf : List ℕ → Part → Type 0
AreOf bytes part = (known_bytes : KnownBytes) → ReadsAs known_bytes part
    → bytes ≡ bytes_from (window_byte known_bytes part.list) part.from (part.to - part.from)

module _ (blocks : Blocks) (views : SeenViews) (block : ℕ) (parts : List Asked) (begun : Begun) (bytes : List ℕ)
    (has : HasBegun views block (Some begun) parts) (reads : ReadsBlocks blocks begun.part)
    (are : AreOf bytes begun.part) where
  abbrev own : Read
  own = record { entry = begun.entry; bytes = bytes }

  abbrev rest : List Asked
  rest = parts_after begun.is_full parts

  shown_by : (asked : Asked) (view : View) → view_at views asked.window ≡ Some view → IsBegunBy block asked view begun
      → IsShown blocks views block asked view own
  shown_by asked view seen by = record {
    seen = seen;
    entry = by.entry;
    bytes = λ later grows.
        let known_bytes = known_by begun.part.block later in
        let from : ℕ = asked.from - window_start asked.window in
        let len : begun.part.to - begun.part.from ≡ shown_len view asked =
        ap (λ n. n - begun.part.from) by.part.to_is ∙ ap (λ n. from + shown_len view asked - n) by.part.from_is
        ∙ omega arith in
        are known_bytes (reads later grows)
        ∙ ap (λ (l : List Rec). bytes_from (window_byte known_bytes l) begun.part.from (begun.part.to - begun.part.from))
        by.part.list_is
        ∙ ap (λ n. bytes_from (window_byte known_bytes view.list) n (begun.part.to - begun.part.from)) by.part.from_is
        ∙ ap (λ n. bytes_from (window_byte known_bytes view.list) from n) len
        ∙ ap (λ n. bytes_from (window_byte (known_by n later) view.list) from (shown_len view asked)) by.part.block_is;
  }

  read_first : (ps : List Asked) → HasBegun views block (Some begun) ps
      → HasRead blocks views block ps (own ∷ []) (parts_after begun.is_full ps)
  read_first [] h = h
  read_first (asked ∷ others) (view, seen, by) = (
    view,
    shown_by asked view seen by,
    (λ full. ap (λ b. parts_after b (asked ∷ others)) (by.full ∙ le-leb asked.to view.length full)),
    (λ short. (refl, ap (λ b. parts_after b (asked ∷ others)) (by.full ∙ lt-leb asked.to view.length short))),
  )

  -- one part more is read
  pub read_more : (all : List Asked) (read : List Read) → HasRead blocks views block all read parts
      → HasRead blocks views block all (read ++ own ∷ []) rest
  read_more all [] same =
      subst (λ (ps : List Asked). HasRead blocks views block ps (own ∷ []) rest) same (read_first parts has)
  read_more [] (r ∷ rs) h = h
  read_more (asked ∷ others) (r ∷ rs) (view, shown, full, short) = (
    view,
    shown,
    (λ low. read_more others rs (full low)),
    (λ low. absurd (subst (λ (ps : List Asked). HasBegun views block (Some begun) ps) ((short low).1) has)),
  )

fewer_after : (full : Bool) (parts : List Asked) → length (parts_after full parts) ≤ length parts - 1
fewer_after true [] = omega arith
fewer_after true (asked ∷ others) = omega arith
fewer_after false parts = omega arith

module _ (views : SeenViews) (cache : Cached) (block : ℕ) (read : List Read) where
  ends_goes : (parts : List Asked) (begun : Begun) (bytes : List ℕ) → begun.part.left ≡ [] → AreOf bytes begun.part
      → Goes views cache cache (state block read (Some begun) parts)
      (ended begun.entry begun.is_full bytes (state block read (Some begun) parts))
  ends_goes parts begun bytes none are = record {
    block = refl;
    can = λ can. tt;
    falls = omega (arith, after_less begun.is_full parts);
    begins = λ none seen. (let never : ⊥ = cc in absurd never);
    finds = finds_none cache;
    are = sym (ap (λ (left : List BlockId). left ++ parts_blocks views block (parts_after begun.is_full parts)) none);
    reads = λ blocks all has is. record {
      some = is.some;
      few = is.few;
      read = read_more blocks views block parts begun bytes is.begun is.fills are all read is.read;
      begun = tt;
      fills = tt;
    };
  }

-- ---- a reading goes on with a part

abbrev with_begun : Fetching → Begun → Fetching
with_begun f begun = record f { begun = Some begun }

-- it waits for a block, or is done with the part
went_on : (views : SeenViews) (cache later : Cached) (f after : Fetching) (begun : Begun) (result : Option Need)
    → GoesOn begun cache later (record f { begun = None }) after result
    → GoesTo views cache later (with_begun f begun) after result
went_on views cache later f after begun result (Waits part b missed is) = record {
  middle = missed.middle;
  goes = subst (λ (g : Fetching). Goes views cache missed.middle (with_begun f begun) g) (sym is)
      (fills_goes views cache f.block f.read missed.middle f.parts begun part missed.fills);
  ends = (missed.noted, missed.missing);
}
went_on views cache later f after begun result (Ended part fills none bytes are is) =
    let begun' : Begun = record begun { part = part } in
    record {
      middle = later;
      goes = subst (λ (g : Fetching). Goes views cache later (with_begun f begun) g) (sym is)
          (goes_then views cache later later (with_begun f begun) (with_begun f begun')
          (ended begun.entry begun.is_full bytes (with_begun f begun'))
          (fills_goes views cache f.block f.read later f.parts begun part fills)
          (ends_goes views later f.block f.read f.parts begun' bytes none are));
      ends = refl;
    }

-- one step after another
pub goes_to_then : (views : SeenViews) (c d e : Cached) (f g h : Fetching) (result : Option Need) → Goes views c d f g
    → GoesTo views d e g h result → GoesTo views c e f h result
goes_to_then views c d e f g h result first second = record {
  middle = second.middle;
  goes = goes_then views c d second.middle f g h first second.goes;
  ends = ends_before result second.ends;
}
  where
    ends_before : (r : Option Need) → Ends d second.middle e r → Ends c second.middle e r
    ends_before None h = h
    ends_before (Some need) h = last_after need c d second.middle e first.finds h

-- from where it had begun, or begins now
pub goes_on : (views : SeenViews) (cache later : Cached) (f after : Fetching) (begun : Begun) (result : Option Need)
    → (f.begun ≡ Some begun) ⊎ ((f.begun ≡ None) × FirstBegins views f.block f.parts begun)
    → GoesOn begun cache later (record f { begun = None }) after result → GoesTo views cache later f after result
goes_on views cache later f after begun result (inl was) on =
    let same : with_begun f begun ≡ f =
    ap (λ (o : Option Begun). let g : Fetching = record f { begun = o } in g) (sym was) in
    subst (λ (g : Fetching). GoesTo views cache later g after result) same
    (went_on views cache later f after begun result on)
goes_on views cache later f after begun result (inr (none, first)) on =
    let same : record f { begun = None } ≡ f =
    ap (λ (o : Option Begun). let g : Fetching = record f { begun = o } in g) (sym none) in
    let begins = subst (λ (g : Fetching). Goes views cache cache g (with_begun f begun)) same
    (begins_goes views cache f.block f.read f.parts begun first) in
    goes_to_then views cache cache later f (with_begun f begun) after result begins
    (went_on views cache later f after begun result on)

-- what it waits for it needs, and with a part that was read it has one less
stops_on : (views : SeenViews) (cache later : Cached) (f after : Fetching) (begun : Begun) (result : Option Need)
    → GoesOn begun cache later (record f { begun = None }) after result → Stops views f after result
stops_on views cache later f after begun result (Waits part b missed is) = ap block_needed is ∙ missed.next
stops_on views cache later f after begun result (Ended part fills none bytes are is) =
    let fewer : length (parts_after begun.is_full f.parts) ≤ length f.parts - 1 = fewer_after begun.is_full f.parts in (
      ap (λ (g : Fetching). g.begun) is,
      subst (λ (g : Fetching). length g.parts ≤ length f.parts - 1) (sym is) fewer,
    )

-- where it was done with a part it goes on
pub goes_twice : (views : SeenViews) (c d e : Cached) (f g h : Fetching) (result : Option Need)
    → GoesTo views c d f g None → GoesTo views d e g h result → GoesTo views c e f h result
goes_twice views c d e f g h result first second =
    goes_to_then views c d e f g h result
    (subst (λ (cache : Cached). Goes views c cache f g) (sym first.ends) first.goes) second

module _ (views : SeenViews) (cache later : Cached) (f after : Fetching) where
  pub asks_to : (need : Need) → GoesTo views cache later f after (Some need)
      → Asks (blocks_ahead views f) (blocks_ahead views after) need cache later
  asks_to need to = record {
    looks = record { middle = to.middle; finds = to.goes.finds; last = to.ends };
    are = to.goes.are;
  }

  pub asks_nothing : GoesTo views cache later f after None
      → Asks (blocks_ahead views f) (blocks_ahead views after) Nothing cache later
  asks_nothing to = record {
    looks = record { middle = to.middle; finds = to.goes.finds; last = to.ends };
    are = to.goes.are;
  }

-- nothing was looked up
pub asks_none : (ahead : List BlockId) (cache : Cached) → Asks ahead ahead Nothing cache cache
asks_none ahead cache = record {
  looks = record { middle = cache; finds = finds_none cache; last = refl };
  are = refl;
}

-- after two parts nothing is left
pub nothing_left : (first second third : List Asked) → length first ≤ 2 → length second ≤ length first - 1
    → length third ≤ length second - 1 → third ≡ []
nothing_left first second [] few less lesser = refl
nothing_left first second (asked ∷ others) few less lesser = absurd (omega (arith, few, less, lesser))

-- it can't begin
module _ (views : SeenViews) (cache : Cached) (f : Fetching) where
  goes_over : f.parts ≡ [] → GoesTo views cache cache f f None
  goes_over over = record {
    middle = cache;
    goes = goes_nowhere views cache f (λ e. over_seen views f.parts over);
    ends = refl;
  }

  goes_look : (window : ℕ) → first_unseen views f.parts window
      → GoesTo views cache cache f f (Some (Look window))
  goes_look window unseen = record {
    middle = cache;
    goes = goes_nowhere views cache f (λ e. unseen_seen views f.parts window unseen);
    ends = refl;
  }

-- the window of its first part is looked at
pub goes_first : (views : SeenViews) (cache : Cached) (f after : Fetching) (window : ℕ)
    → BeginsPart views f after (Some window) → GoesTo views cache cache f after (Some (Look window))
goes_first views cache f after window (LooksFirst first none unseen is) =
    subst (λ (g : Fetching). GoesTo views cache cache f g (Some (Look window))) (sym is)
    (goes_look views cache f window unseen)

-- ---- where it had begun or begins now, it goes on; where it is over, nothing is done

module _ (views : SeenViews) (cache later : Cached) (f middle after : Fetching) (result : Option Need) where
  abbrev OnBy : Fetching → Option Begun → Type 0
  OnBy g o = GoesOnAny cache later g after o result

  pub goes_by_begun : BeginsPart views f middle None → OnBy middle middle.begun → GoesTo views cache later f after result
  goes_by_begun (HadBegun begun was is) on =
      let now : OnBy f f.begun = subst (λ (g : Fetching). OnBy g g.begun) is on in
      goes_on views cache later f after begun result (inl was) (subst (λ (o : Option Begun). OnBy f o) was now)
  goes_by_begun (BeginsNow begun none first is) on =
      let now : OnBy (with_begun f begun) (Some begun) = subst (λ (g : Fetching). OnBy g g.begun) is on in
      goes_on views cache later f after begun result (inr (none, first)) now
  goes_by_begun (IsOver none over is) on =
      let now : OnBy f None = subst (λ (o : Option Begun). OnBy f o) none (subst (λ (g : Fetching). OnBy g g.begun) is on)
      in
      subst (λ (o : Option Need). GoesTo views cache later f after o) (sym now.0)
      (subst (λ (g : Fetching). GoesTo views cache later f g None) (sym now.1)
      (subst (λ (c : Cached). GoesTo views cache c f f None) (sym now.2) (goes_over views cache f over)))

  pub stops_by_begun : BeginsPart views f middle None → OnBy middle middle.begun → Stops views f after result
  stops_by_begun (HadBegun begun was is) on =
      let now : OnBy f f.begun = subst (λ (g : Fetching). OnBy g g.begun) is on in
      stops_on views cache later f after begun result (subst (λ (o : Option Begun). OnBy f o) was now)
  stops_by_begun (BeginsNow begun none first is) on =
      let now : OnBy (with_begun f begun) (Some begun) = subst (λ (g : Fetching). OnBy g g.begun) is on in
      stops_on views cache later f after begun result now
  stops_by_begun (IsOver none over is) on =
      let now : OnBy f None = subst (λ (o : Option Begun). OnBy f o) none (subst (λ (g : Fetching). OnBy g g.begun) is on)
      in
      subst (λ (o : Option Need). Stops views f after o) (sym now.0)
      (subst (λ (g : Fetching). Stops views f g None) (sym now.1)
      (none, subst (λ (parts : List Asked). length parts ≤ length parts - 1) (sym over) (omega arith)))

-- ---- a block that came is filled in

module _ (bytes : List ℕ) (before after : Fetching) (fills : FillsBegun bytes before after) where
  pub fill_can : (views : SeenViews) → CanFetch views before → CanFetch views after
  fill_can views can =
      let at = subst (λ (o : Option Begun). HasBegun views before.block o before.parts) fills.was can in
      subst (λ (g : Fetching). CanFetch views g) (sym fills.is)
      (further_can views before.block before.parts fills.begun fills.part
      (further_one bytes fills.begun.part fills.part fills.fills) at)

  module _ (b : BlockId) (needed : block_needed before ≡ Some b) where
    next_begun : slice_get fills.begun.part.left 0 ≡ Some b
    next_begun = sym (ap next_of fills.was) ∙ needed

    pub fill_falls : fetch_left after < fetch_left before
    fill_falls =
        let less = next_less fills.begun.part.left b next_begun in
        let left = ap (length {A = BlockId}) fills.fills.left in
        let now : fetch_left after ≡ length fills.part.left + weight (drop 1 before.parts) = ap fetch_left fills.is in
        let was : fetch_left before ≡ length fills.begun.part.left + weight (drop 1 before.parts) =
        ap (λ (o : Option Begun). let g : Fetching = record before { begun = o } in fetch_left g) fills.was in
        omega (arith, less, left, now, was)

    pub fill_ahead : (views : SeenViews) → blocks_ahead views before ≡ b ∷ blocks_ahead views after
    fill_ahead views =
        let rest = parts_blocks views before.block (parts_after fills.begun.is_full before.parts) in
        let left = ap (λ (left : List BlockId). b ∷ left) fills.fills.left ∙ next_is fills.begun.part.left b next_begun in
        ap (λ (o : Option Begun). ahead_of views before.block o before.parts) fills.was
        ∙ ap (λ (left : List BlockId). left ++ rest) (sym left)
        ∙ ap (λ (g : Fetching). b ∷ blocks_ahead views g) (sym fills.is)

    pub fill_reads : (blocks : Blocks) (views : SeenViews) (all : List Asked) → blocks b ≡ Some bytes
        → IsFetching blocks views all before → IsFetching blocks views all after
    fill_reads blocks views all own is =
        let reads : ReadsBlocks blocks fills.begun.part =
        subst (λ (o : Option Begun). IfSome o (λ begun. ReadsBlocks blocks begun.part)) fills.was is.fills in
        let can : HasBegun views before.block (Some fills.begun) before.parts =
        subst (λ (o : Option Begun). HasBegun views before.block o before.parts) fills.was is.begun in
        subst (λ (g : Fetching). IsFetching blocks views all g) (sym fills.is) (record {
          some = is.some;
          few = is.few;
          read = is.read;
          begun = further_can views before.block before.parts fills.begun fills.part
              (further_one bytes fills.begun.part fills.part fills.fills) can;
          fills = reads_go_on.filled blocks b bytes fills.begun.part fills.part own next_begun fills.fills.part.block_is
              fills.fills.reads reads;
        })

-- ---- a part that has begun goes on as far as the cache has its blocks

module _ (cache later : Cached) (before middle : Fetching) where
  abbrev AnyBy : Fetching → Option Begun → Option Need → Type 0
  AnyBy after o result = GoesOnAny cache later before after o result

  pub waits_on : (b : BlockId) → FillsFrom cache later before middle (Some b)
      → GoesOnAny cache later before middle before.begun (Some (Block b))
  waits_on b from = subst (λ (o : Option Begun). AnyBy middle o (Some (Block b))) (sym from.was)
      (Waits from.part b from.fills from.is)

  pub ends_on : (after : Fetching) → FillsFrom cache later before middle None → EndsPart middle after
      → GoesOnAny cache later before after before.begun None
  ends_on after from ends =
      let now : EndsPart (waiting from.begun from.part before) after =
      subst (λ (g : Fetching). EndsPart g after) from.is ends in
      subst (λ (o : Option Begun). AnyBy after o None) (sym from.was) (ended_on after from now)
    where
      ended_on : (after : Fetching) (from : FillsFrom cache later before middle None)
          → EndsPart (waiting from.begun from.part before) after
          → GoesOn from.begun cache later (record before { begun = None }) after None
      ended_on after from now =
          let same = same_Some (record from.begun { part = from.part }) now.begun now.was in
          Ended from.part from.fills.0 from.fills.1 now.bytes
          (subst (λ (begun : Begun). (known_bytes : KnownBytes) → ReadsAs known_bytes begun.part
          → now.bytes ≡ bytes_from (window_byte known_bytes begun.part.list) begun.part.from (begun.part.to - begun.part.from))
          (sym same) now.are)
          (subst (λ (begun : Begun). after ≡ ended begun.entry begun.is_full now.bytes before) (sym same) now.is)

  pub is_filled : FillsFrom cache later before middle None → IsSomeAnd middle.begun (λ begun. begun.part.left ≡ [])
  is_filled from = subst (λ (g : Fetching). IsSomeAnd g.begun (λ begun. begun.part.left ≡ [])) (sym from.is) from.fills.1
