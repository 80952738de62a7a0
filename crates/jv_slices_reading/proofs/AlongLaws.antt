-- What a plan needs is the blocks of its positions, each where it comes first.
use Rattle.std.proofs.Common.{◌≡◌, ℕ, zero, suc, ◌+◌, ◌-◌, ◌/◌, ◌<◌, ◌≤◌, Bool, true, false, List, [], ◌∷◌, ◌++◌, map, fold, refl, sym, ap, ◌∙◌, ⊎_elim, arith}
use Rattle.std.specs.Prelude.{◌||◌, All}
use Rattle.std.specs.List.{flat_map, list_any, range_with_len}
use Rattle.std.proofs.lemmas.Bool.{cases_lt}
use Rattle.std.proofs.lemmas.Grind.{flat_map-append}
use Rattle.std.proofs.lemmas.List.Concat.{flat_map-cons}
use Rattle.std.proofs.lemmas.List.Elements.{All-head, All-tail}
use Rattle.std.proofs.lemmas.List.Sums.{fold-append}
use Rattle.jv_model.specs.declared.slice.BlockId.{BlockId}
use Rattle.jv_model.specs.declared.slice.Piece.{Piece}
use Rattle.jv_model.specs.declared.slice.Rec.{Rec}
use Rattle.jv_model.specs.declared.slice.Spot.{Spot}
use Rattle.jv_model.specs.declared.slice.Spot.TheVariants.{Zero, Slice}
use Rattle.jv_model.specs.blocks.Slices.{IsAsStored, IsPlan, blocks_of_piece, blocks_under, is_same_block}
use Rattle.jv_model.specs.promise.blocks.Slices.{block_at}
use Rattle.jv_model.specs.blocks.Slices.{needed_blocks, place_after, with_block}
use Rattle.jv_model.specs.promise.blocks.Slices.{stored_place}
use Rattle.jv_slices.proofs.BlockLaws.{div_few, div_rises}
use Rattle.jv_slices.proofs.ListingLaws.{with_listed}
use Rattle.jv_slices.proofs.NeedLaws.{same_self, with_block_has}
use Rattle.jv_slices_reading.specs.Parts.{block_of_spot, blocks_along, blocks_between}

-- a block that was added isn't added again
added_once : (keys : List BlockId) (b : BlockId) → with_block (with_block keys b) b ≡ with_block keys b
added_once keys b =
    with_listed (with_block keys b) b
    (with_block_has keys b b ∙ ap (λ x. list_any (is_same_block b) keys || x) (same_self b) ∙ known (list_any (is_same_block b) keys))
  where
    known : (x : Bool) → (x || true) ≡ true
    known true = refl
    known false = refl

-- positions in a row, of which the first are others in a row
range_split : (from n m : ℕ) → range_with_len from (n + m) ≡ range_with_len from n ++ range_with_len (from + n) m
range_split from zero m =
    let none : 0 + m ≡ m = omega arith in
    let at : from ≡ from + 0 = omega arith in
    ap (range_with_len from) none ∙ ap (λ k. range_with_len k m) at
range_split from (suc n) m =
    let more : suc n + m ≡ suc (n + m) = omega arith in
    let at : from + 1 + n ≡ from + suc n = omega arith in
    ap (range_with_len from) more
    ∙ ap (λ (ks : List ℕ). from ∷ ks)
    (range_split (from + 1) n m ∙ ap (λ k. range_with_len (from + 1) n ++ range_with_len k m) at)

module _ (block : ℕ) (wide : 0 < block) (places : ℕ → Spot) where
  abbrev along : ℕ → ℕ → List BlockId
  along from len = blocks_along block places from len

  along_split : (from n m : ℕ) → along from (n + m) ≡ along from n ++ along (from + n) m
  along_split from n m =
      ap (flat_map (λ k. block_of_spot block (places k))) (range_split from n m)
      ∙ flat_map-append (λ k. block_of_spot block (places k)) (range_with_len from n) (range_with_len (from + n) m)

  along_first : (from len : ℕ) → along from (suc len) ≡ block_of_spot block (places from) ++ along (from + 1) len
  along_first from len = flat_map-cons (λ k. block_of_spot block (places k)) from (range_with_len (from + 1) len)

  -- positions that show no slice
  along_zeros : (len from : ℕ) → ((k : ℕ) → k < len → places (from + k) ≡ Zero) → along from len ≡ []
  along_zeros zero from zeros = refl
  along_zeros (suc len) from zeros =
      let at : from ≡ from + 0 = omega arith in
      along_first from len
      ∙ ap (λ s. block_of_spot block s ++ along (from + 1) len) (ap places at ∙ zeros 0 (omega arith))
      ∙ along_zeros len (from + 1)
      (λ k low. (let e : from + 1 + k ≡ from + (k + 1) = omega arith in ap places e ∙ zeros (k + 1) (omega (arith, low))))

  module _ (id size : ℕ) where
    abbrev nth : ℕ → BlockId
    nth index = block_at id size block index

    -- the blocks of one byte, and of one byte more
    under_one : (at : ℕ) (keys : List BlockId)
        → fold with_block keys (blocks_under block 1 (Slice id size at)) ≡ with_block keys (nth (at / block))
    under_one at keys =
        let same : (at + 1 - 1) / block ≡ at / block = (let e : at + 1 - 1 ≡ at = omega arith in ap (λ x. x / block) e) in
        let one : (at + 1 - 1) / block + 1 - at / block ≡ 1 = omega (arith, same) in
        ap (λ n. fold with_block keys (map nth (range_with_len (at / block) n))) one

    under_more : (m at : ℕ) (keys : List BlockId) → fold with_block keys (blocks_under block (suc (suc m)) (Slice id size at))
        ≡ fold with_block (with_block keys (nth (at / block))) (blocks_under block (suc m) (Slice id size (at + 1)))
    under_more m at keys =
        let a : ℕ = at / block in
        let z : ℕ = (at + suc (suc m) - 1) / block in
        let b : ℕ = (at + 1) / block in
        let z' : ℕ = (at + 1 + suc m - 1) / block in
        let same : z ≡ z' = (let e : at + suc (suc m) - 1 ≡ at + 1 + suc m - 1 = omega arith in ap (λ x. x / block) e) in
        let low : a ≤ b = div_rises at (at + 1) block wide (omega arith) in
        let few : b ≤ a + 1 = div_few at 1 block wide in
        let high : b ≤ z' = div_rises (at + 1) (at + 1 + suc m - 1) block wide (omega arith) in
        let keys' : List BlockId = with_block keys (nth a) in
        let count : z + 1 - a ≡ suc (z - a) = omega (arith, same, low, high) in
        ap (λ n. fold with_block keys (map nth (range_with_len a n))) count
        ∙ sym (⊎_elim (λ (next : a < b).
        let e : b ≡ a + 1 = omega (arith, next, few) in
        let n : z' + 1 - b ≡ z - a = omega (arith, e, same) in
        ap (λ n. fold with_block keys' (map nth (range_with_len b n))) n
        ∙ ap (λ i. fold with_block keys' (map nth (range_with_len i (z - a)))) e)
        (λ (still : b ≤ a).
        let e : b ≡ a = omega (arith, still, low) in
        let n : z' + 1 - b ≡ suc (z - a) = omega (arith, e, same, low, high) in
        ap (λ n. fold with_block keys' (map nth (range_with_len b n))) n
        ∙ ap (λ i. fold with_block keys' (map nth (range_with_len i (suc (z - a))))) e
        ∙ ap (λ ks. fold with_block ks (map nth (range_with_len (a + 1) (z - a)))) (added_once keys (nth a)))
        (cases_lt a b))

    -- positions in a row show bytes in a row of a slice
    abbrev ShowsRow : ℕ → ℕ → ℕ → Type 0
    ShowsRow len at from = (k : ℕ) → k < len → places (from + k) ≡ Slice id size (at + k)

    row_first : (len at from : ℕ) (keys : List BlockId) → ShowsRow (suc len) at from
        → fold with_block keys (along from (suc len)) ≡ fold with_block (with_block keys (nth (at / block))) (along (from + 1) len)
    row_first len at from keys is =
        let e : from ≡ from + 0 = omega arith in
        let f : at + 0 ≡ at = omega arith in
        ap (fold with_block keys) (along_first from len
        ∙ ap (λ s. block_of_spot block s ++ along (from + 1) len) (ap places e ∙ is 0 (omega arith) ∙ ap (Slice id size) f))

    row_later : (m at from : ℕ) → ShowsRow (suc (suc m)) at from → ShowsRow (suc m) (at + 1) (from + 1)
    row_later m at from is k low =
        let e : from + 1 + k ≡ from + (k + 1) = omega arith in
        let f : at + (k + 1) ≡ at + 1 + k = omega arith in
        ap places e ∙ is (k + 1) (omega (arith, low)) ∙ ap (Slice id size) f

    along_slice : (len at from : ℕ) (keys : List BlockId) → ShowsRow (suc len) at from
        → fold with_block keys (blocks_under block (suc len) (Slice id size at)) ≡ fold with_block keys (along from (suc len))
    along_slice zero at from keys is = under_one at keys ∙ sym (row_first 0 at from keys is)
    along_slice (suc m) at from keys is =
        under_more m at keys
        ∙ along_slice m (at + 1) (from + 1) (with_block keys (nth (at / block))) (row_later m at from is)
        ∙ sym (row_first (suc m) at from keys is)

  -- the positions of a piece
  along_piece : (s : Spot) (len from : ℕ) (keys : List BlockId) → 0 < len
      → ((k : ℕ) → k < len → place_after s k ≡ places (from + k))
      → fold with_block keys (blocks_under block len s) ≡ fold with_block keys (along from len)
  along_piece Zero len from keys some is =
      sym (ap (fold with_block keys) (along_zeros len from (λ k low. sym (is k low))))
  along_piece (Slice id size at) zero from keys some is = absurd (omega (arith, some))
  along_piece (Slice id size at) (suc len) from keys some is =
      along_slice id size len at from keys (λ k low. sym (is k low))

module _ (block : ℕ) (list : List Rec) (wide : 0 < block) where
  abbrev on_list : ℕ → ℕ → List BlockId
  on_list from len = blocks_along block (stored_place list) from len

  along_plan : (from to : ℕ) (pieces : List Piece) (keys : List BlockId) → IsPlan list from to pieces → All (IsAsStored list) pieces
      → fold with_block keys (flat_map (blocks_of_piece block) pieces) ≡ fold with_block keys (on_list from (to - from))
  along_plan from to [] keys plan stored =
      let none : 0 ≡ to - from = omega (arith, plan) in
      ap (λ n. fold with_block keys (on_list from n)) none
  along_plan from to (p ∷ ps) keys (begins, is, rest) stored =
      let after : List BlockId = flat_map (blocks_of_piece block) ps in
      let len : p.len + (to - (from + p.len)) ≡ to - from = omega (arith, begins, is.within) in
      let one : fold with_block keys (blocks_of_piece block p) ≡ fold with_block keys (on_list from p.len) =
      along_piece block wide (stored_place list) p.spot p.len from keys is.some
      (λ k low. All-head (IsAsStored list) p ps stored k low ∙ ap (λ n. stored_place list (n + k)) begins) in
      ap (fold with_block keys) (flat_map-cons (blocks_of_piece block) p ps)
      ∙ fold-append with_block keys (blocks_of_piece block p) after
      ∙ ap (λ ks. fold with_block ks after) one
      ∙ along_plan (from + p.len) to ps (fold with_block keys (on_list from p.len)) rest (All-tail (IsAsStored list) p ps stored)
      ∙ sym (fold-append with_block keys (on_list from p.len) (on_list (from + p.len) (to - (from + p.len))))
      ∙ ap (fold with_block keys) (sym (along_split block wide (stored_place list) from p.len (to - (from + p.len))))
      ∙ ap (λ n. fold with_block keys (on_list from n)) len

  -- a plan needs the blocks of its positions
  pub plan_needs : (from to : ℕ) (pieces : List Piece) → IsPlan list from to pieces → All (IsAsStored list) pieces
      → needed_blocks block pieces ≡ blocks_between block list from to
  unfolding needed_blocks blocks_between
  plan_needs from to pieces plan stored = along_plan from to pieces [] plan stored
