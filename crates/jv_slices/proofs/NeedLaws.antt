-- Laws of the blocks that pieces need.
use Rattle.std.proofs.Common.{◌≡◌, ℕ, zero, suc, ◌+◌, ◌-◌, ◌/◌, ◌<◌, ◌≤◌, Bool, true, false, List, [], ◌∷◌, length, map, slice_get, Some, refl, sym, ap, ◌∙◌, subst, arith, ⊎_elim, fold, length-append}
use Rattle.std.specs.Prelude.{◌&&◌, ◌||◌, ◌==◌, All}
use Rattle.std.specs.List.{list_any, flat_map, range_with_len, IsDistinct}
use Rattle.std.specs.Cmp.{IsEquivalence, nat_eq_equiv}
use Rattle.std.proofs.lemmas.Bool.{cases_Bool, cases_lt, and_parts, eqb-true, or_right}
use Rattle.std.proofs.lemmas.Map.Keys.{IsDistinct-push}
use Rattle.std.proofs.lemmas.Map.Steps.{list_any_congr}
use Rattle.std.proofs.lemmas.Map.Views.{Contains-from_any}
use Rattle.std.proofs.lemmas.List.Concat.{flat_map-cons}
use Rattle.std.proofs.lemmas.List.Elements.{All-head, All-tail, All-push, All-append}
use Rattle.std.proofs.lemmas.List.FromFn.{length-map-range_with_len}
use Rattle.std.proofs.lemmas.List.Folds.{list_any-append}
use Rattle.jv_model.specs.declared.limits.TheConstants.{MIN_BLOCK, MAX_BLOCKS}
use Rattle.jv_model.specs.declared.slice.BlockId.{BlockId}
use Rattle.jv_model.specs.declared.slice.Piece.{Piece}
use Rattle.jv_model.specs.declared.slice.Rec.{Rec}
use Rattle.jv_model.specs.declared.slice.Spot.{Spot}
use Rattle.jv_model.specs.declared.slice.Spot.TheVariants.{Zero, Slice}
use Rattle.jv_model.specs.blocks.Slices.{IsPlan, IsPart, LiesIn, is_same_block, with_block, blocks_under, blocks_of_piece, needed_blocks}
use Rattle.jv_model.specs.promise.blocks.Slices.{block_at}
use Rattle.jv_slices.proofs.ListingLaws.{same_flips, with_new, with_listed}
use Rattle.jv_slices.proofs.NameEndLaws.{same_block}
use Rattle.jv_slices.proofs.BlockLaws.{div_rises, div_few, index_low}
use Rattle.jv_slices.specs.Laws.{NeedsAreOnce, NeedsAreThose, NeedsAreFew, NeedsHaveEachByte, FitsWindow, IndexesAreLow}

pub equal_if_same : (a b : BlockId) → is_same_block a b ≡ true → a ≡ b
equal_if_same a b h =
    let outer = and_parts ((a.id == b.id) && (a.index == b.index)) (a.size == b.size) h in
    let inner = and_parts (a.id == b.id) (a.index == b.index) outer.0 in
    same_block a.id a.index a.size b (eqb-true a.id b.id inner.0) (eqb-true a.index b.index inner.1) (eqb-true a.size b.size outer.1)

pub same_self : (a : BlockId) → is_same_block a a ≡ true
same_self a = ap (λ x. x && (a.index == a.index) && (a.size == a.size)) (nat_eq_equiv.refl a.id)
    ∙ ap (λ x. true && x && (a.size == a.size)) (nat_eq_equiv.refl a.index) ∙ ap (λ x. true && true && x) (nat_eq_equiv.refl a.size)

pub same_block_laws : IsEquivalence is_same_block
same_block_laws = record {
  refl = same_self;
  symm = same_flips;
  congr = λ x y z h. ap (λ (b : BlockId). is_same_block b z) (equal_if_same x y h);
}

pub with_block_once : (keys : List BlockId) (b : BlockId) → IsDistinct is_same_block keys → IsDistinct is_same_block (with_block keys b)
with_block_once keys b h =
    ⊎_elim (λ (there : list_any (is_same_block b) keys ≡ true). subst (λ (bs : List BlockId). IsDistinct is_same_block bs) (sym (with_listed keys b there)) h)
    (λ (fresh : list_any (is_same_block b) keys ≡ false). subst (λ (bs : List BlockId). IsDistinct is_same_block bs) (sym (with_new keys b fresh)) (IsDistinct-push same_block_laws keys b h fresh))
    (cases_Bool (list_any (is_same_block b) keys))

pub listed_once : (keys bs : List BlockId) → IsDistinct is_same_block keys → IsDistinct is_same_block (fold with_block keys bs)
listed_once keys [] h = h
listed_once keys (b ∷ bs) h = listed_once (with_block keys b) bs (with_block_once keys b h)

pub needs_are_once : NeedsAreOnce
unfolding needed_blocks IsDistinct
needs_are_once block pieces = listed_once [] (flat_map (blocks_of_piece block) pieces) tt

-- what is listed after one block more
pub with_block_has : (keys : List BlockId) (b q : BlockId) → list_any (is_same_block q) (with_block keys b) ≡ (list_any (is_same_block q) keys || is_same_block q b)
with_block_has keys b q =
    ⊎_elim (λ (there : list_any (is_same_block b) keys ≡ true). ap (list_any (is_same_block q)) (with_listed keys b there) ∙ absorbs (is_same_block q b) refl there)
    (λ (fresh : list_any (is_same_block b) keys ≡ false). ap (list_any (is_same_block q)) (with_new keys b fresh) ∙ list_any-append (is_same_block q) keys (b ∷ []) ∙ ends (list_any (is_same_block q) keys) (is_same_block q b))
    (cases_Bool (list_any (is_same_block b) keys))
  where
    ends : (x y : Bool) → (x || (y || false)) ≡ (x || y)
    ends true y = refl
    ends false true = refl
    ends false false = refl

    flip : (x : Bool) → x ≡ (x || false)
    flip true = refl
    flip false = refl

    known : (x : Bool) → x ≡ true → x ≡ (x || true)
    known true e = refl
    known false e = e

    absorbs : (same : Bool) → is_same_block q b ≡ same → list_any (is_same_block b) keys ≡ true → list_any (is_same_block q) keys ≡ (list_any (is_same_block q) keys || same)
    absorbs true e there = known (list_any (is_same_block q) keys) (list_any_congr same_block_laws q b keys e ∙ there)
    absorbs false e there = flip (list_any (is_same_block q) keys)

pub listed_has : (keys bs : List BlockId) (q : BlockId) → list_any (is_same_block q) (fold with_block keys bs) ≡ (list_any (is_same_block q) keys || list_any (is_same_block q) bs)
listed_has keys [] q = flip (list_any (is_same_block q) keys)
  where
    flip : (x : Bool) → x ≡ (x || false)
    flip true = refl
    flip false = refl
listed_has keys (b ∷ bs) q =
    listed_has (with_block keys b) bs q ∙ ap (λ x. x || list_any (is_same_block q) bs) (with_block_has keys b q)
    ∙ assoc (list_any (is_same_block q) keys) (is_same_block q b) (list_any (is_same_block q) bs)
  where
    assoc : (x y z : Bool) → (x || y || z) ≡ (x || (y || z))
    assoc true y z = refl
    assoc false y z = refl

pub needs_are_those : NeedsAreThose
unfolding needed_blocks
needs_are_those block pieces q = listed_has [] (flat_map (blocks_of_piece block) pieces) q

-- one block more is at most one more in the list
with_block_few : (keys : List BlockId) (b : BlockId) → length (with_block keys b) ≤ length keys + 1
with_block_few keys b =
    ⊎_elim (λ (there : list_any (is_same_block b) keys ≡ true). omega (arith, ap (length {A = BlockId}) (with_listed keys b there)))
    (λ (fresh : list_any (is_same_block b) keys ≡ false). omega (arith, ap (length {A = BlockId}) (with_new keys b fresh), length-append keys (b ∷ [])))
    (cases_Bool (list_any (is_same_block b) keys))

listed_few : (keys bs : List BlockId) → length (fold with_block keys bs) ≤ length keys + length bs
listed_few keys [] = omega arith
listed_few keys (b ∷ bs) = omega (arith, listed_few (with_block keys b) bs, with_block_few keys b)

-- a piece needs at most as many blocks as it has positions
piece_few : (block len : ℕ) (spot : Spot) → 0 < block → 0 < len → length (blocks_under block len spot) ≤ len
piece_few block len Zero wide some = omega arith
piece_few block len (Slice id size at) wide some =
    let last : at + len - 1 ≡ at + (len - 1) = omega arith in
    let same : (at + len - 1) / block ≡ (at + (len - 1)) / block = ap (λ x. x / block) last in
    omega (arith, same, div_few at (len - 1) block wide, length-map-range_with_len (block_at id size block) (at / block) ((at + len - 1) / block + 1 - at / block))

plan_few : (block : ℕ) (list : List Rec) (from to : ℕ) (pieces : List Piece) → 0 < block → IsPlan list from to pieces → (from ≤ to) × (length (flat_map (blocks_of_piece block) pieces) ≤ to - from)
plan_few block list from to [] wide h = (omega (arith, h), omega arith)
plan_few block list from to (p ∷ ps) wide (begins, is, rest) =
    let more = plan_few block list (from + p.len) to ps wide rest in
    let first = piece_few block p.len p.spot wide is.some in
    let parts : length (flat_map (blocks_of_piece block) (p ∷ ps)) ≡ length (blocks_of_piece block p) + length (flat_map (blocks_of_piece block) ps) =
    ap (length {A = BlockId}) (flat_map-cons (blocks_of_piece block) p ps) ∙ length-append (blocks_of_piece block p) (flat_map (blocks_of_piece block) ps) in
    (omega (arith, more.0), omega (arith, more.0, more.1, first, parts))

pub needs_are_few : NeedsAreFew
unfolding needed_blocks
needs_are_few block list from to pieces wide plan =
    omega (arith, listed_few [] (flat_map (blocks_of_piece block) pieces), (plan_few block list from to pieces wide plan).1)

-- a block is among those of a range of indexes that has its own
any_in_range : (id size block start n index : ℕ) → start ≤ index → index < start + n → list_any (is_same_block (block_at id size block index)) (map (block_at id size block) (range_with_len start n)) ≡ true
any_in_range id size block start zero index low high = absurd (omega arith)
any_in_range id size block start (suc n) index low high =
    ⊎_elim (λ (later : start < index). or_right (is_same_block (block_at id size block index) (block_at id size block start)) _ (any_in_range id size block (start + 1) n index (omega arith) (omega arith)))
    (λ (here : index ≤ start).
    let same : index ≡ start = omega arith in
    let first : is_same_block (block_at id size block index) (block_at id size block start) ≡ true = ap (λ (i : ℕ). is_same_block (block_at id size block index) (block_at id size block i)) (sym same) ∙ same_self (block_at id size block index) in
    ap (λ b. b || list_any (is_same_block (block_at id size block index)) (map (block_at id size block) (range_with_len (start + 1) n))) first)
    (cases_lt start index)

has_byte : (block : ℕ) (pieces : List Piece) (k : ℕ) (piece : Piece) (b : BlockId) → slice_get pieces k ≡ Some piece → list_any (is_same_block b) (blocks_of_piece block piece) ≡ true → list_any (is_same_block b) (flat_map (blocks_of_piece block) pieces) ≡ true
has_byte block [] k piece b e h = let never : ⊥ = cc in absurd never
has_byte block (p ∷ ps) zero piece b e h =
    let same : p ≡ piece = cc in
    let front : list_any (is_same_block b) (blocks_of_piece block p) ≡ true = subst (λ (q : Piece). list_any (is_same_block b) (blocks_of_piece block q) ≡ true) (sym same) h in
    ap (list_any (is_same_block b)) (flat_map-cons (blocks_of_piece block) p ps) ∙ list_any-append (is_same_block b) (blocks_of_piece block p) (flat_map (blocks_of_piece block) ps)
    ∙ ap (λ x. x || list_any (is_same_block b) (flat_map (blocks_of_piece block) ps)) front
has_byte block (p ∷ ps) (suc k) piece b e h =
    ap (list_any (is_same_block b)) (flat_map-cons (blocks_of_piece block) p ps) ∙ list_any-append (is_same_block b) (blocks_of_piece block p) (flat_map (blocks_of_piece block) ps)
    ∙ or_right (list_any (is_same_block b) (blocks_of_piece block p)) _ (has_byte block ps k piece b e h)

pub needs_have_each_byte : NeedsHaveEachByte
needs_have_each_byte block pieces k piece id size at n wide there spot below =
    let b : BlockId = block_at id size block ((at + n) / block) in
    let low : at / block ≤ (at + n) / block = div_rises at (at + n) block wide (omega arith) in
    let high : (at + n) / block ≤ (at + piece.len - 1) / block = div_rises (at + n) (at + piece.len - 1) block wide (omega arith) in
    let in_range : list_any (is_same_block b) (blocks_under block piece.len (Slice id size at)) ≡ true =
    any_in_range id size block (at / block) ((at + piece.len - 1) / block + 1 - at / block) ((at + n) / block) low (omega (arith, low, high)) in
    let in_piece : list_any (is_same_block b) (blocks_of_piece block piece) ≡ true = ap (λ (s : Spot). list_any (is_same_block b) (blocks_under block piece.len s)) spot ∙ in_range in
    Contains-from_any equal_if_same b (needed_blocks block pieces) (needs_are_those block pieces b ∙ has_byte block pieces k piece b there in_piece)

-- what each block of each piece has, each needed block has
listed_All : (P : BlockId → Type 0) (keys bs : List BlockId) → All P keys → All P bs → All P (fold with_block keys bs)
listed_All P keys [] h k = h
listed_All P keys (b ∷ bs) h k =
    let first : P b = All-head P b bs k in
    let one : All P (with_block keys b) =
    ⊎_elim (λ (there : list_any (is_same_block b) keys ≡ true). subst (λ (xs : List BlockId). All P xs) (sym (with_listed keys b there)) h)
    (λ (fresh : list_any (is_same_block b) keys ≡ false). subst (λ (xs : List BlockId). All P xs) (sym (with_new keys b fresh)) (All-push P keys b h first))
    (cases_Bool (list_any (is_same_block b) keys)) in
    listed_All P (with_block keys b) bs one (All-tail P b bs k)

range_low : (id size block start n : ℕ) → ((index : ℕ) → start ≤ index → index < start + n → index < MAX_BLOCKS) → All (λ (b : BlockId). b.index < MAX_BLOCKS) (map (block_at id size block) (range_with_len start n))
range_low id size block start zero h = λ k d below. absurd (omega arith)
range_low id size block start (suc n) h =
    let P : BlockId → Type 0 = λ b. b.index < MAX_BLOCKS in
    All-append P (block_at id size block start ∷ []) (map (block_at id size block) (range_with_len (start + 1) n))
    (All-push P [] (block_at id size block start) (λ k d below. absurd (omega arith)) (h start (omega arith) (omega arith))) (range_low id size block (start + 1) n (λ index low high. h index (omega arith) (omega arith)))

piece_low : (block len : ℕ) (spot : Spot) → MIN_BLOCK ≤ block → 1 ≤ len → LiesIn len spot → FitsWindow spot → All (λ (b : BlockId). b.index < MAX_BLOCKS) (blocks_under block len spot)
piece_low block len Zero wide some lies fits = λ k d below. absurd (omega arith)
piece_low block len (Slice id size at) wide some lies fits =
    let rises : at / block ≤ (at + len - 1) / block = div_rises at (at + len - 1) block (omega arith) (omega arith) in
    range_low id size block (at / block) ((at + len - 1) / block + 1 - at / block)
    (λ index low high. index_low (at + len - 1) index block wide (omega (arith, lies, fits)) (omega (arith, rises, low, high)))

pieces_low : (block : ℕ) (pieces : List Piece) → MIN_BLOCK ≤ block → All IsPart pieces → All (λ (p : Piece). FitsWindow p.spot) pieces → All (λ (b : BlockId). b.index < MAX_BLOCKS) (flat_map (blocks_of_piece block) pieces)
pieces_low block [] wide parts fits = λ k d below. absurd (omega arith)
pieces_low block (p ∷ ps) wide parts fits =
    let P : BlockId → Type 0 = λ b. b.index < MAX_BLOCKS in
    let part : IsPart p = All-head IsPart p ps parts in
    let fit : FitsWindow p.spot = All-head (λ (q : Piece). FitsWindow q.spot) p ps fits in
    subst (λ (bs : List BlockId). All P bs) (sym (flat_map-cons (blocks_of_piece block) p ps))
    (All-append P (blocks_of_piece block p) (flat_map (blocks_of_piece block) ps) (piece_low block p.len p.spot wide part.some part.inside fit)
    (pieces_low block ps wide (All-tail IsPart p ps parts) (All-tail (λ (q : Piece). FitsWindow q.spot) p ps fits)))

pub indexes_are_low : IndexesAreLow
unfolding needed_blocks
indexes_are_low block pieces wide parts fits =
    listed_All (λ (b : BlockId). b.index < MAX_BLOCKS) [] (flat_map (blocks_of_piece block) pieces) (λ k d below. absurd (omega arith)) (pieces_low block pieces wide parts fits)
