-- Laws of the overlaps of blocks with a part.
use Rattle.std.proofs.Common.{◌≡◌, ℕ, ◌+◌, ◌-◌, ◌*◌, ◌/◌, ◌%◌, ◌<◌, ◌≤◌, Bool, true, false, cond, List, [], ◌∷◌, ◌++◌, None, Some, refl, sym, ap, ◌∙◌, subst, ⊎_elim, arith}
use Rattle.std.specs.Prelude.{◌||◌, All}
use Rattle.std.specs.List.{list_any}
use Rattle.std.specs.Global.{Vec}
use Rattle.std.specs.BTreeMap.{is_at}
use Rattle.std.specs.Map.{lookup}
use Rattle.std.proofs.lemmas.Nat.{div-add-mod', div-mul-add}
use Rattle.std.proofs.lemmas.Bool.{cases_lt, or_right}
use Rattle.std.proofs.lemmas.Bool.Decides.{nat_tests}
use Rattle.std.proofs.lemmas.List.Elements.{All-cons, All-push}
use Rattle.std.proofs.lemmas.List.Folds.{list_any-append}
use Rattle.jv_model.specs.declared.slice.BlockId.{BlockId}
use Rattle.jv_model.specs.declared.slice.Piece.{Piece}
use Rattle.jv_model.specs.declared.slice.Rec.{Rec}
use Rattle.jv_model.specs.declared.slice.Spot.{Spot}
use Rattle.jv_model.specs.declared.slice.Spot.TheVariants.{Zero, Slice}
use Rattle.jv_model.specs.blocks.Slices.{IsPlan, IsAsStored, is_same_block, place_after}
use Rattle.jv_model.specs.promise.blocks.Slices.{block_at, block_length, stored_place}
use Rattle.jv_slices.proofs.ListingLaws.{same_at}
use Rattle.jv_slices.proofs.NeedLaws.{equal_if_same, same_self}
use Rattle.jv_slices.specs.Listing.{ordered_of, ordered_cmp}
use Rattle.jv_slices.specs.declared.blocks.OrderedBlock.{OrderedBlock}
use Rattle.jv_slices_reading.specs.declared.copying.Overlap.{Overlap}
use Rattle.jv_slices_reading.specs.Overlaps.{BeginsBy, HasOverlaps, IsByteOf, IsListed, IsOverlap, Entries, Overlaps, ShowsPiece, or_none, overlaps_under, reaches, with_overlap}

pub with_own : (t : Overlaps) (b : BlockId) (o : Overlap) → with_overlap t b o b ≡ t b ++ o ∷ []
with_own t b o = rw (same_self b) refl

-- a block's overlaps were taken out, and put back with one more
pub put_back : (before without after : Entries) (block : BlockId) (o : Overlap) (v : Vec Overlap) → v.items ≡ overlaps_under before block ++ o ∷ []
    → ((q : OrderedBlock) → lookup (is_at (ordered_cmp q)) without ≡ cond (is_at (ordered_cmp (ordered_of block)) q) None (lookup (is_at (ordered_cmp q)) before))
    → ((q : OrderedBlock) → lookup (is_at (ordered_cmp q)) after ≡ cond (is_at (ordered_cmp (ordered_of block)) q) (Some v) (lookup (is_at (ordered_cmp q)) without))
    → (b : BlockId) → overlaps_under after b ≡ with_overlap (overlaps_under before) block o b
put_back before without after block o v is taken put b =
    let there : overlaps_under after b ≡ or_none (cond (is_same_block block b) (Some v) (lookup (is_at (ordered_cmp (ordered_of b))) without)) =
    ap or_none (put (ordered_of b)) ∙ ap (λ (x : Bool). or_none (cond x (Some v) (lookup (is_at (ordered_cmp (ordered_of b))) without))) (same_at block b) in
    let gone : lookup (is_at (ordered_cmp (ordered_of b))) without ≡ cond (is_same_block block b) None (lookup (is_at (ordered_cmp (ordered_of b))) before) =
    taken (ordered_of b) ∙ ap (λ (x : Bool). cond x None (lookup (is_at (ordered_cmp (ordered_of b))) before)) (same_at block b) in
    there ∙ go (is_same_block block b) refl gone
  where
    go : (same : Bool) → is_same_block block b ≡ same → lookup (is_at (ordered_cmp (ordered_of b))) without ≡ cond same None (lookup (is_at (ordered_cmp (ordered_of b))) before)
        → or_none (cond same (Some v) (lookup (is_at (ordered_cmp (ordered_of b))) without)) ≡ cond same (overlaps_under before b ++ o ∷ []) (overlaps_under before b)
    go true e gone = is ∙ ap (λ (x : BlockId). overlaps_under before x ++ o ∷ []) (equal_if_same block b e)
    go false e gone = ap or_none gone

-- what was in a list is in a longer one
any_grows : (p : Overlap → Bool) (xs : List Overlap) (o : Overlap) → list_any p xs ≡ true → list_any p (xs ++ o ∷ []) ≡ true
any_grows p xs o h = list_any-append p xs (o ∷ []) ∙ ap (λ x. x || list_any p (o ∷ [])) h

any_last : (p : Overlap → Bool) (xs : List Overlap) (o : Overlap) → p o ≡ true → list_any p (xs ++ o ∷ []) ≡ true
any_last p xs o h = list_any-append p xs (o ∷ []) ∙ ap (λ x. list_any p xs || (x || false)) h ∙ or_right (list_any p xs) true refl

reaches_in : (n : ℕ) (o : Overlap) → o.start ≤ n → n < o.start + o.len → reaches n o ≡ true
reaches_in n o low high = grind (arith, nat_tests)

module _ (block : ℕ) (places : ℕ → Spot) (len : ℕ) where
  pub has_none : (overlaps : Overlaps) → ((b : BlockId) → overlaps b ≡ []) → HasOverlaps block places len 0 overlaps
  has_none overlaps none = record {
    each = λ b. let P : List Overlap → Type 0 = λ os. All (IsOverlap block places len b) os in subst P (sym (none b)) (λ k d below. absurd (omega arith));
    all = λ n below. absurd (omega (arith, below));
  }

  -- positions that show nothing have no overlap
  pub has_zeros : (overlaps : Overlaps) (before after : ℕ) → HasOverlaps block places len before overlaps → ((n : ℕ) → before ≤ n → n < after → places n ≡ Zero) → HasOverlaps block places len after overlaps
  has_zeros overlaps before after h none = record {
    each = h.each;
    all = λ n below.
        ⊎_elim (λ (early : n < before). h.all n early)
        (λ (late : before ≤ n). let P : Spot → Type 0 = λ s. IsListed block overlaps n s in subst P (sym (none n late below)) tt)
        (cases_lt n before);
  }

  module _ (t u : Overlaps) (b : BlockId) (o : Overlap) (more : (q : BlockId) → u q ≡ with_overlap t b o q) where
    own_more : u b ≡ t b ++ o ∷ []
    own_more = more b ∙ with_own t b o

    each_more : ((q : BlockId) → All (IsOverlap block places len q) (t q)) → IsOverlap block places len b o → (q : BlockId) → All (IsOverlap block places len q) (u q)
    each_more h is q = let P : List Overlap → Type 0 = λ os. All (IsOverlap block places len q) os in subst P (sym (more q)) (go (is_same_block b q) refl)
      where
        go : (same : Bool) → is_same_block b q ≡ same → All (IsOverlap block places len q) (cond same (t q ++ o ∷ []) (t q))
        go true e = All-push (IsOverlap block places len q) (t q) o (h q) (let Q : BlockId → Type 0 = λ x. IsOverlap block places len x o in subst Q (equal_if_same b q e) is)
        go false e = h q

    any_more : (n : ℕ) (q : BlockId) → list_any (reaches n) (t q) ≡ true → list_any (reaches n) (u q) ≡ true
    any_more n q h = ap (list_any (reaches n)) (more q) ∙ go (is_same_block b q)
      where
        go : (same : Bool) → list_any (reaches n) (cond same (t q ++ o ∷ []) (t q)) ≡ true
        go true = any_grows (reaches n) (t q) o h
        go false = h

    still_listed : (n : ℕ) (s : Spot) → IsListed block t n s → IsListed block u n s
    still_listed n Zero h = tt
    still_listed n (Slice id size at) h = any_more n (block_at id size block (at / block)) h

    newly_listed : (n place : ℕ) (s : Spot) → o.start ≤ n → n < o.start + o.len → IsByteOf block b place s → IsListed block u n s
    newly_listed n place Zero low high is = tt
    newly_listed n place (Slice id size at) low high is =
        ap (λ (q : BlockId). list_any (reaches n) (u q)) is.0 ∙ ap (list_any (reaches n)) own_more ∙ any_last (reaches n) (t b) o (reaches_in n o low high)

    -- one overlap more, where the others end
    pub has_more : (before after : ℕ) → HasOverlaps block places len before t → IsOverlap block places len b o → o.start ≡ before → o.start + o.len ≡ after → HasOverlaps block places len after u
    has_more before after h is starts ends = record {
      each = each_more h.each is;
      all = λ n below.
          ⊎_elim (λ (early : n < before). still_listed n (places n) (h.all n early))
          (λ (late : before ≤ n).
          let k : ℕ = n - o.start in
          let place : o.start + k ≡ n = omega (arith, starts, late) in
          let P : ℕ → Type 0 = λ m. IsByteOf block b (o.place + k) (places m) in
          newly_listed n (o.place + k) (places n) (omega (arith, starts, late)) (omega (arith, ends, below))
          (subst P place (is.shows k (omega (arith, starts, ends, late, below)))))
          (cases_lt n before);
    }

-- bytes of one block
pub div_in : (a k block : ℕ) → a % block + k < block → ((a + k) / block ≡ a / block) × ((a + k) % block ≡ a % block + k)
div_in a k block inside =
    let whole : a / block * block + (a % block + k) ≡ a + k = omega (arith, div-add-mod' a block) in
    let quotient : (a + k) / block ≡ a / block = ap (λ x. x / block) (sym whole) ∙ div-mul-add (a / block) block (a % block + k) inside in
    let product : (a + k) / block * block ≡ a / block * block = ap (λ x. x * block) quotient in
    (quotient, omega (arith, div-add-mod' (a + k) block, product, whole))

-- an overlap of one block with a piece of its slice
pub slice_overlap : (block : ℕ) (places : ℕ → Spot) (len start : ℕ) (piece : Piece) (id size at done count : ℕ) (b : BlockId) → piece.spot ≡ Slice id size at → at + piece.len ≤ size
    → b ≡ block_at id size block ((at + done) / block) → ShowsPiece places start piece → start + piece.len ≤ len → done + count ≤ piece.len → (at + done) % block + count ≤ block_length size block ((at + done) / block)
    → IsOverlap block places len b (record { start = start + done; place = (at + done) % block; len = count })
slice_overlap block places len start piece id size at done count b spot inside is shows fits part small =
    let o : Overlap = record { start = start + done; place = (at + done) % block; len = count } in
    let P : BlockId → Type 0 = λ q. IsOverlap block places len q o in
    subst P (sym is) (record {
      shows = λ k below.
          let there : start + done + k ≡ start + (done + k) = omega arith in
          let later : at + (done + k) ≡ at + done + k = omega arith in
          let e : places (start + done + k) ≡ Slice id size (at + done + k) =
          ap places there ∙ shows (done + k) (omega (arith, part, below)) ∙ ap (λ (s : Spot). place_after s (done + k)) spot ∙ ap (Slice id size) later in
          let d = div_in (at + done) k block (omega (arith, small, below)) in
          let Q : Spot → Type 0 = λ s. IsByteOf block (block_at id size block ((at + done) / block)) ((at + done) % block + k) s in
          subst Q (sym e) (ap (block_at id size block) d.0, d.1, omega (arith, inside, part, below));
      in_block = small;
      in_part = omega (arith, fits, part);
    })

-- the pieces so far are in the table, and the others come from where these end
pub record IsLaid (list : List Rec) (from to block : ℕ) (rest : List Piece) (overlaps : Overlaps) : Type 0 where
  pub at : ℕ
  pub low : from ≤ at
  pub plan : IsPlan list at to rest
  pub has : HasOverlaps block (λ n. stored_place list (from + n)) (to - from) (at - from) overlaps

pub laid_more : (list : List Rec) (from to block : ℕ) (piece : Piece) (rest : List Piece) (t u : Overlaps) → IsLaid list from to block (piece ∷ rest) t → IsAsStored list piece
    → ((places : ℕ → Spot) (len : ℕ) → ShowsPiece places (piece.from - from) piece → piece.from - from + piece.len ≤ len → HasOverlaps block places len (piece.from - from) t → HasOverlaps block places len (piece.from - from + piece.len) u)
    → IsLaid list from to block rest u
laid_more list from to block piece rest t u laid stored adds =
    let begins : piece.from ≡ laid.at = laid.plan.0 in
    let places : ℕ → Spot = λ n. stored_place list (from + n) in
    let start : ℕ = piece.from - from in
    let ends : piece.from + piece.len ≤ to = laid.plan.1.within in
    let shows : ShowsPiece places start piece = λ k below.
    let place : from + (start + k) ≡ piece.from + k = omega (arith, begins, laid.low) in
    ap (stored_place list) place ∙ sym (stored k below) in
    let before : HasOverlaps block places (to - from) start t = subst (λ (n : ℕ). HasOverlaps block places (to - from) n t) (ap (λ x. x - from) (sym begins)) laid.has in
    let after : HasOverlaps block places (to - from) (start + piece.len) u = adds places (to - from) shows (omega (arith, begins, laid.low, ends)) before in
    let where_to : start + piece.len ≡ laid.at + piece.len - from = omega (arith, begins, laid.low) in
    record {
      at = laid.at + piece.len;
      low = omega (arith, laid.low);
      plan = laid.plan.2;
      has = subst (λ (n : ℕ). HasOverlaps block places (to - from) n u) where_to after;
    }

pub laid_end : (list : List Rec) (from to block : ℕ) (t : Overlaps) → IsLaid list from to block [] t → HasOverlaps block (λ n. stored_place list (from + n)) (to - from) (to - from) t
laid_end list from to block t laid =
    subst (λ (n : ℕ). HasOverlaps block (λ n. stored_place list (from + n)) (to - from) (n - from) t) laid.plan laid.has

-- no piece begins before its plan
pub plan_begins : (list : List Rec) (from to low : ℕ) (pieces : List Piece) → low ≤ from → IsPlan list from to pieces → All (BeginsBy low) pieces
plan_begins list from to low [] h plan = λ k d below. absurd (omega (arith, below))
plan_begins list from to low (piece ∷ pieces) h plan =
    All-cons (BeginsBy low) piece pieces (omega (arith, h, plan.0)) (plan_begins list (from + piece.len) to low pieces (omega (arith, h)) plan.2)
