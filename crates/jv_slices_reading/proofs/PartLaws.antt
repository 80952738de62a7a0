-- Laws of a part that is read.
use Rattle.std.proofs.Common.{◌≡◌, ℕ, zero, suc, ◌+◌, ◌-◌, ◌/◌, ◌<◌, ◌≤◌, ◌⊎◌, inl, inr, true, false, List, [], ◌∷◌, length, map, drop, get_or, slice_get, slice_index, Option, Some, unwrap_or, ◌%◌, refl, sym, ap, ◌∙◌, subst, ⊎_elim, arith}
use Rattle.std.specs.Prelude.{All, Contains, IfSome, IsSomeAnd}
use Rattle.std.specs.List.{flat_map, list_any, range_with_len}
use Rattle.std.proofs.lemmas.Bool.{cases_Bool, cases_lt, false≢true}
use Rattle.std.proofs.lemmas.List.{drop_all, drop_more}
use Rattle.std.proofs.lemmas.List.Concat.{flat_map-cons}
use Rattle.std.proofs.lemmas.List.Elements.{All-append, All-cons, All-contains, All-contains_itself, All-head, All-tail}
use Rattle.std.proofs.lemmas.Map.Views.{Contains-from_any, list_any-from_Contains}
use Rattle.jv_model.specs.declared.slice.BlockId.{BlockId}
use Rattle.jv_model.specs.declared.slice.Piece.{Piece}
use Rattle.jv_model.specs.declared.slice.Rec.{Rec}
use Rattle.jv_model.specs.declared.slice.Spot.{Spot}
use Rattle.jv_model.specs.declared.slice.Spot.TheVariants.{Zero, Slice}
use Rattle.jv_model.specs.blocks.Slices.{IsPlan, IsAsStored, IsPart, LiesIn, blocks_of_piece, blocks_under, is_same_block, needed_blocks, place_after}
use Rattle.jv_model.specs.promise.blocks.Slices.{block_at, block_count, stored_place}
use Rattle.jv_model.specs.promise.journal.Reading.{bytes_from}
use Rattle.jv_slices.specs.Shown.{IsOfRecord, NamesRecord}
use Rattle.jv_slices.proofs.BlockLaws.{index_below, div_rises}
use Rattle.jv_slices.proofs.NeedLaws.{equal_if_same, same_self, same_block_laws, needs_are_those, needs_have_each_byte}
use Rattle.jv_volume_bytes.specs.promise.Blocks.{Blocks, known_by}
use Rattle.jv_volume_bytes.specs.promise.Bytes.{KnownBytes, spot_byte}
use Rattle.jv_slices_reading.specs.declared.copying.Overlap.{Overlap}
use Rattle.jv_slices_reading.specs.Copies.{Fits, HasBytes, IsCopied}
use Rattle.jv_slices_reading.specs.Overlaps.{HasOverlaps, IsByteOf, IsListed, IsOverlap, Overlaps, reaches}
use Rattle.jv_slices_reading.specs.Parts.{IsNamed, IsOfNone, IsKnownOf, ReadsAs, window_byte}
use Rattle.jv_slices_reading.specs.Laws.{ReadsGoOn}
use Rattle.jv_slices_reading.proofs.CopyLaws.{same_bytes_from}

-- where no block is left, each byte is of none
pub of_no_block : (block : ℕ) (s : Spot) → IsOfNone block [] s
of_no_block block Zero = tt
of_no_block block (Slice id size at) = λ there. absurd (omega (arith, there.1))

pub read_out : (known_bytes : KnownBytes) (list : List Rec) (from to block : ℕ) (bytes : List ℕ) → length bytes ≡ to - from
    → ReadsAs known_bytes (record { list = list; from = from; to = to; block = block; left = []; bytes = bytes })
    → bytes ≡ bytes_from (window_byte known_bytes list) from (to - from)
read_out known_bytes list from to block bytes long reads =
    same_bytes_from (window_byte known_bytes list) bytes from (to - from) long (λ k below. reads k below (of_no_block block (stored_place list (from + k))))

-- a byte of none of the later blocks is of none of them all, or of the first
pub of_first : (block : ℕ) (b : BlockId) (rest : List BlockId) (overlaps : Overlaps) (n : ℕ) (s : Spot) → IsOfNone block rest s → IsListed block overlaps n s
    → IsOfNone block (b ∷ rest) s ⊎ (list_any (reaches n) (overlaps b) ≡ true)
of_first block b rest overlaps n Zero none listed = inl tt
of_first block b rest overlaps n (Slice id size at) none listed =
    let q : BlockId = block_at id size block (at / block) in
    ⊎_elim (λ (same : is_same_block q b ≡ true). inr (let P : BlockId → Type 0 = λ x. list_any (reaches n) (overlaps x) ≡ true in subst P (equal_if_same q b same) listed))
    (λ (other : is_same_block q b ≡ false). inl (λ there. later q other there.0 there.1 there.2 none))
    (cases_Bool (is_same_block q b))
  where
    later : (q : BlockId) → is_same_block q b ≡ false → (k : ℕ) → k < length (b ∷ rest) → get_or (b ∷ rest) k q ≡ q → (Contains rest q → ⊥) → ⊥
    later q other zero below e lacks = false≢true (sym other ∙ ap (is_same_block q) e ∙ same_self q)
    later q other (suc k) below e lacks = lacks (k, omega (arith, below), e)

module _ (known_bytes : KnownBytes) (block : ℕ) (bytes : List ℕ) (b : BlockId) (is_known : IsKnownOf known_bytes block bytes b) where
  known_byte : (place : ℕ) (s : Spot) → IsByteOf block b place s → slice_index bytes place ≡ spot_byte known_bytes s
  known_byte place Zero is = absurd is
  known_byte place (Slice id size at) is = ap (slice_index bytes) (sym is.1) ∙ is_known id size at is.2 is.0

  -- the bytes that a block fills in are those that are known of their positions
  pub has_bytes : (places : ℕ → Spot) (len : ℕ) (overlaps : List Overlap) → All (IsOverlap block places len b) overlaps → All (HasBytes (λ n. spot_byte known_bytes (places n)) bytes) overlaps
  has_bytes places len overlaps all = λ i d below k inside.
      let o : Overlap = get_or overlaps i d in
      known_byte (o.place + k) (places (o.start + k)) ((all i d below).shows k inside)

pub overlaps_fit : (block : ℕ) (places : ℕ → Spot) (b : BlockId) (part_len block_len : ℕ) (overlaps : List Overlap) → block_len ≡ b.size → All (IsOverlap block places part_len b) overlaps → All (Fits block_len part_len) overlaps
overlaps_fit block places b part_len block_len overlaps long all = λ i d below.
    record { in_block = omega (arith, long, (all i d below).in_block); in_part = (all i d below).in_part }

-- a block is filled in
pub filled_in : (known_bytes : KnownBytes) (block : ℕ) (places : ℕ → Spot) (len : ℕ) (overlaps : Overlaps) (b : BlockId) (rest : List BlockId) (bytes before after : List ℕ) → HasOverlaps block places len len overlaps
    → ((byte : ℕ → ℕ) → All (HasBytes byte bytes) (overlaps b) → IsCopied byte (overlaps b) before after) → length before ≡ len → IsKnownOf known_bytes block bytes b
    → ((n : ℕ) → n < len → IsOfNone block (b ∷ rest) (places n) → slice_index before n ≡ spot_byte known_bytes (places n))
    → (n : ℕ) → n < len → IsOfNone block rest (places n) → slice_index after n ≡ spot_byte known_bytes (places n)
filled_in known_bytes block places len overlaps b rest bytes before after has copied long is_known reads n below none =
    let byte : ℕ → ℕ = λ n. spot_byte known_bytes (places n) in
    let copies : IsCopied byte (overlaps b) before after = copied byte (has_bytes known_bytes block bytes b is_known places len (overlaps b) (has.each b)) in
    let inside : n < length before = omega (arith, below, long) in
    ⊎_elim (λ (old : IsOfNone block (b ∷ rest) (places n)). copies.kept n inside (reads n below old))
    (λ (new : list_any (reaches n) (overlaps b) ≡ true). copies.copied n inside new)
    (of_first block b rest overlaps n (places n) none (has.all n below))

-- the block that is next
pub next_below : (needed : List BlockId) (filled : ℕ) (P : BlockId → Type 0) → IsSomeAnd (slice_get (drop filled needed) 0) P → filled < length needed
next_below needed filled P h =
    ⊎_elim (λ (below : filled < length needed). below)
    (λ (past : length needed ≤ filled). absurd (let Q : List BlockId → Type 0 = λ bs. IsSomeAnd (slice_get bs 0) P in subst Q (drop_all filled needed past) h))
    (cases_lt filled (length needed))

pub next_is : (needed : List BlockId) (filled : ℕ) (b : BlockId) → b ≡ get_or needed filled b → filled < length needed → drop filled needed ≡ b ∷ drop (filled + 1) needed
next_is needed filled b is below = drop_more needed filled b below ∙ ap (λ (x : BlockId). x ∷ drop (filled + 1) needed) (sym is)

pub next_has : (needed : List BlockId) (filled : ℕ) (b : BlockId) (P : BlockId → Type 0) → b ≡ get_or needed filled b → IsSomeAnd (slice_get (drop filled needed) 0) P → P b
next_has needed filled b P is h = let Q : List BlockId → Type 0 = λ bs. IsSomeAnd (slice_get bs 0) P in subst Q (next_is needed filled b is (next_below needed filled P h)) h

pub fill_reads : (known_bytes : KnownBytes) (list : List Rec) (from to block : ℕ) (needed : List BlockId) (filled : ℕ) (b : BlockId) (bytes before after : List ℕ) (overlaps : Overlaps)
    → b ≡ get_or needed filled b → filled < length needed → HasOverlaps block (λ n. stored_place list (from + n)) (to - from) (to - from) overlaps
    → ((byte : ℕ → ℕ) → All (HasBytes byte bytes) (overlaps b) → IsCopied byte (overlaps b) before after) → length before ≡ to - from
    → IfSome (slice_get (drop filled needed) 0) (IsKnownOf known_bytes block bytes)
    → ReadsAs known_bytes (record { list = list; from = from; to = to; block = block; left = drop filled needed; bytes = before })
    → ReadsAs known_bytes (record { list = list; from = from; to = to; block = block; left = drop (filled + 1) needed; bytes = after })
fill_reads known_bytes list from to block needed filled b bytes before after overlaps is below has copied long is_known reads =
    let first : drop filled needed ≡ b ∷ drop (filled + 1) needed = next_is needed filled b is below in
    let Q : List BlockId → Type 0 = λ bs. IfSome (slice_get bs 0) (IsKnownOf known_bytes block bytes) in
    let R : List BlockId → Type 0 = λ bs. ReadsAs known_bytes (record { list = list; from = from; to = to; block = block; left = bs; bytes = before }) in
    filled_in known_bytes block (λ n. stored_place list (from + n)) (to - from) overlaps b (drop (filled + 1) needed) bytes before after has copied long (subst Q first is_known) (subst R first reads)

-- the piece of a position
pub record IsAt (list : List Rec) (pieces : List Piece) (position : ℕ) : Type 0 where
  pub k : ℕ
  pub piece : Piece
  pub distance : ℕ
  pub is : slice_get pieces k ≡ Some piece
  pub inside : distance < piece.len
  pub place : piece.from + distance ≡ position
  pub says : IsAsStored list piece

pub plan_at : (list : List Rec) (from to : ℕ) (pieces : List Piece) (position : ℕ) → IsPlan list from to pieces → All (IsAsStored list) pieces → from ≤ position → position < to → IsAt list pieces position
plan_at list from to [] position plan stored low high = absurd (omega (arith, plan, low, high))
plan_at list from to (piece ∷ pieces) position plan stored low high =
    ⊎_elim (λ (here : position < from + piece.len). record {
      k = 0;
      piece = piece;
      distance = position - from;
      is = refl;
      inside = omega (arith, low, here);
      place = omega (arith, low, plan.0);
      says = All-head (IsAsStored list) piece pieces stored;
    })
    (λ (later : from + piece.len ≤ position). after (plan_at list (from + piece.len) to pieces position plan.2 (All-tail (IsAsStored list) piece pieces stored) later high))
    (cases_lt position (from + piece.len))
  where
    after : IsAt list pieces position → IsAt list (piece ∷ pieces) position
    after h = record { k = suc h.k; piece = h.piece; distance = h.distance; is = h.is; inside = h.inside; place = h.place; says = h.says }

-- a byte of a piece that is of no needed block is 0
none_is_zero : (known_bytes : KnownBytes) (block : ℕ) (pieces : List Piece) (k : ℕ) (piece : Piece) (distance : ℕ) (s t : Spot) → 0 < block → slice_get pieces k ≡ Some piece → piece.spot ≡ s → distance < piece.len
    → place_after s distance ≡ t → IsOfNone block (needed_blocks block pieces) t → spot_byte known_bytes t ≡ 0
none_is_zero known_bytes block pieces k piece distance Zero t some is spot inside place none = ap (spot_byte known_bytes) (sym place)
none_is_zero known_bytes block pieces k piece distance (Slice id size at) t some is spot inside place none =
    let P : Spot → Type 0 = λ x. IsOfNone block (needed_blocks block pieces) x in
    let lacks : IsOfNone block (needed_blocks block pieces) (Slice id size (at + distance)) = subst P (sym place) none in
    absurd (lacks (needs_have_each_byte block pieces k piece id size at distance some is spot inside))

pub nothing_needed : (known_bytes : KnownBytes) (block : ℕ) (list : List Rec) (from to : ℕ) (pieces : List Piece) (position : ℕ) → 0 < block → IsPlan list from to pieces → All (IsAsStored list) pieces
    → from ≤ position → position < to → IsOfNone block (needed_blocks block pieces) (stored_place list position) → spot_byte known_bytes (stored_place list position) ≡ 0
nothing_needed known_bytes block list from to pieces position some plan stored low high none =
    let h = plan_at list from to pieces position plan stored low high in
    none_is_zero known_bytes block pieces h.k h.piece h.distance h.piece.spot (stored_place list position) some h.is refl h.inside
    (h.says h.distance h.inside ∙ ap (stored_place list) h.place) none

-- before any block is filled in
pub reads_none : (known_bytes : KnownBytes) (block : ℕ) (list : List Rec) (from to : ℕ) (pieces : List Piece) (needed : List BlockId) (zeros : List ℕ) → 0 < block → IsPlan list from to pieces → All (IsAsStored list) pieces
    → needed ≡ needed_blocks block pieces → ((n : ℕ) → n < to - from → slice_index zeros n ≡ 0)
    → ReadsAs known_bytes (record { list = list; from = from; to = to; block = block; left = needed; bytes = zeros })
reads_none known_bytes block list from to pieces needed zeros some plan stored is each = λ n below none.
    let P : List BlockId → Type 0 = λ bs. IsOfNone block bs (stored_place list (from + n)) in
    each n below ∙ sym (nothing_needed known_bytes block list from to pieces (from + n) some plan stored (omega arith) (omega (arith, below)) (subst P is none))

-- what each block of each piece has, each needed block has
pub needed_All : (P : BlockId → Type 0) (block : ℕ) (pieces : List Piece) → All P (flat_map (blocks_of_piece block) pieces) → All P (needed_blocks block pieces)
needed_All P block pieces all = λ k d below.
    let needed = needed_blocks block pieces in
    let b : BlockId = get_or needed k d in
    let found : list_any (is_same_block b) needed ≡ true = list_any-from_Contains same_block_laws b needed (All-contains_itself needed k d below) in
    All-contains P (flat_map (blocks_of_piece block) pieces) b all
    (Contains-from_any equal_if_same b (flat_map (blocks_of_piece block) pieces) (sym (needs_are_those block pieces b) ∙ found))

range_All : (P : BlockId → Type 0) (id size block start n : ℕ) → ((index : ℕ) → start ≤ index → index < start + n → P (block_at id size block index)) → All P (map (block_at id size block) (range_with_len start n))
range_All P id size block start zero h = λ k d below. absurd (omega (arith, below))
range_All P id size block start (suc n) h =
    All-cons P (block_at id size block start) (map (block_at id size block) (range_with_len (start + 1) n)) (h start (omega arith) (omega arith))
    (range_All P id size block (start + 1) n (λ index low high. h index (omega (arith, low)) (omega (arith, high))))

-- the blocks of a piece are of the record that it shows
piece_named : (list : List Rec) (block len : ℕ) (s : Spot) → 0 < block → 1 ≤ len → LiesIn len s → NamesRecord list s → All (IsNamed list block) (blocks_under block len s)
piece_named list block len Zero some filled lies names = λ k d below. absurd (omega (arith, below))
piece_named list block len (Slice id size at) some filled lies names =
    let r : Rec = names.1.0 in
    let same_id : r.id ≡ id = names.1.2 in
    let same_size : r.size ≡ size = names.1.3 in
    let rises : at / block ≤ (at + len - 1) / block = div_rises at (at + len - 1) block some (omega (arith, filled)) in
    range_All (IsNamed list block) id size block (at / block) ((at + len - 1) / block + 1 - at / block) (λ index low high.
    let below : index < block_count size block = index_below size block (at + len - 1) index some (omega (arith, lies, filled)) (omega (arith, rises, low, high)) in
    record {
      r = r;
      there = names.1.1;
      some = omega (arith, names.0, same_id);
      below = subst (λ (n : ℕ). index < block_count n block) (sym same_size) below;
      is = ap (λ (n : ℕ). block_at n size block index) (sym same_id) ∙ ap (λ (n : ℕ). block_at r.id n block index) (sym same_size);
    })

pub pieces_named : (list : List Rec) (block : ℕ) (pieces : List Piece) → 0 < block → All IsPart pieces → All (IsOfRecord list) pieces → All (IsNamed list block) (flat_map (blocks_of_piece block) pieces)
pieces_named list block [] some parts names = λ k d below. absurd (omega (arith, below))
pieces_named list block (p ∷ ps) some parts names =
    let P : BlockId → Type 0 = λ b. IsNamed list block b in
    let part : IsPart p = All-head IsPart p ps parts in
    subst (λ (bs : List BlockId). All P bs) (sym (flat_map-cons (blocks_of_piece block) p ps))
    (All-append P (blocks_of_piece block p) (flat_map (blocks_of_piece block) ps)
    (piece_named list block p.len p.spot some part.some part.inside (All-head (IsOfRecord list) p ps names))
    (pieces_named list block ps some (All-tail IsPart p ps parts) (All-tail (IsOfRecord list) p ps names)))

-- what is known of a block that is there
pub known_there : (block : ℕ) (blocks : Blocks) (b : BlockId) (bytes : List ℕ) → blocks b ≡ Some bytes → IsKnownOf (known_by block blocks) block bytes b
known_there block blocks b bytes there id size at inside is =
    sym (ap (λ (q : BlockId). slice_index (unwrap_or (blocks q) []) (at % block)) is ∙ ap (λ (o : Option (List ℕ)). slice_index (unwrap_or o []) (at % block)) there)

pub reads_go_on : ReadsGoOn
reads_go_on = record {
  come = λ blocks later part grows reads last more. reads last (λ b bytes there. more b bytes (grows b bytes there));
  filled = λ blocks b bytes before after there first same fills reads later grows.
      let P : Option BlockId → Type 0 = λ o. IfSome o (IsKnownOf (known_by before.block later) before.block bytes) in
      let next : IfSome (slice_get before.left 0) (IsKnownOf (known_by before.block later) before.block bytes) =
      subst P (sym first) (known_there before.block later b bytes (grows b bytes there)) in
      subst (λ (n : ℕ). ReadsAs (known_by n later) after) (sym same) (fills (known_by before.block later) next (reads later grows));
}
