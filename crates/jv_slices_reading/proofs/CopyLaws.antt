-- Laws of what is copied from a block.
use Rattle.std.proofs.Common.{◌≡◌, ℕ, zero, suc, ◌+◌, ◌-◌, ◌<◌, ◌≤◌, Bool, true, false, List, [], ◌∷◌, ◌++◌, length, take, drop, get_or, slice_index, refl, sym, ap, ◌∙◌, subst, ⊎_elim, ◌⊎◌, inl, inr, arith}
use Rattle.std.specs.Prelude.{◌||◌, nat_le, nat_lt}
use Rattle.std.specs.List.{between, list_any}
use Rattle.std.proofs.lemmas.Bool.{cases_lt, and_parts, leb-true, ltb-true, false≢true}
use Rattle.std.proofs.lemmas.List.{get_or_append_left, get_or-append_right, get_or-take, get_or-drop, length-take-le, length-take, take_more}
use Rattle.std.proofs.lemmas.List.Edits.{get_or-between, length-between}
use Rattle.std.proofs.lemmas.List.Folds.{list_any-append}
use Rattle.jv_model.specs.promise.journal.Reading.{bytes_from}
use Rattle.jv_slices_reading.specs.declared.copying.Overlap.{Overlap}
use Rattle.jv_slices_reading.specs.Overlaps.{reaches}
use Rattle.jv_slices_reading.specs.Copies.{Fits, HasBytes, IsCopied}
use borrow.Rule.Slice.PartMut.{put_mid}

-- a position that an overlap reaches
pub reached : (n : ℕ) (o : Overlap) → reaches n o ≡ true → (o.start ≤ n) × (n < o.start + o.len)
reached n o h =
    let both = and_parts (nat_le o.start n) (nat_lt n (o.start + o.len)) h in
    (leb-true o.start n both.0, ltb-true n (o.start + o.len) both.1)

-- one overlap, or those of two lists
pub any_one : (p : Overlap → Bool) (o : Overlap) → list_any p (o ∷ []) ≡ true → p o ≡ true
any_one p o h = go (p o) h
  where
    go : (x : Bool) → (x || false) ≡ true → x ≡ true
    go true e = refl
    go false e = e

pub any_two : (p : Overlap → Bool) (xs : List Overlap) (o : Overlap) → list_any p (xs ++ o ∷ []) ≡ true → (list_any p xs ≡ true) ⊎ (list_any p (o ∷ []) ≡ true)
any_two p xs o h = go (list_any p xs) refl (sym (list_any-append p xs (o ∷ [])) ∙ h)
  where
    go : (x : Bool) → list_any p xs ≡ x → (x || list_any p (o ∷ [])) ≡ true → (list_any p xs ≡ true) ⊎ (list_any p (o ∷ []) ≡ true)
    go true e f = inl e
    go false e f = inr f

module _ (xs part : List ℕ) (a n : ℕ) (fits : a + n ≤ length xs) (long : length part ≡ n) where
  -- bytes before, in and after a part that was written
  before_part : (k : ℕ) → k < a → get_or (put_mid a n xs part) k 0 ≡ get_or xs k 0
  before_part k h =
      get_or_append_left (take a xs) (part ++ drop n (drop a xs)) 0 k (omega (arith, length-take a xs)) ∙ get_or-take a xs k 0 h

  in_part : (k : ℕ) → a ≤ k → k < a + n → get_or (put_mid a n xs part) k 0 ≡ get_or part (k - a) 0
  in_part k low high =
      get_or-append_right (take a xs) (part ++ drop n (drop a xs)) a k 0 (length-take-le a xs (omega arith)) low
      ∙ get_or_append_left part (drop n (drop a xs)) 0 (k - a) (omega arith)

  after_part : (k : ℕ) → a + n ≤ k → get_or (put_mid a n xs part) k 0 ≡ get_or xs k 0
  after_part k h =
      let place : a + (n + (k - a - n)) ≡ k = omega arith in
      get_or-append_right (take a xs) (part ++ drop n (drop a xs)) a k 0 (length-take-le a xs (omega arith)) (omega arith)
      ∙ get_or-append_right part (drop n (drop a xs)) n (k - a) 0 long (omega arith)
      ∙ get_or-drop n (drop a xs) (k - a - n) 0 ∙ get_or-drop a xs (n + (k - a - n)) 0 ∙ ap (λ i. get_or xs i 0) place

module _ (byte : ℕ → ℕ) (bytes part block : List ℕ) (o : Overlap) (n : ℕ) (is : n ≡ o.len) (fits : Fits (length block) (length bytes) o) (copied : part ≡ between o.place (o.place + o.len) block) (has : HasBytes byte block o) where
  part_long : length part ≡ n
  part_long = ap (length {A = ℕ}) copied ∙ length-between block o.place (o.place + o.len) fits.in_block ∙ omega arith

  own_byte : (k : ℕ) → o.start ≤ k → k < o.start + o.len → slice_index (put_mid o.start n bytes part) k ≡ byte k
  own_byte k low high =
      let inside : o.start + n ≤ length bytes = omega (arith, fits.in_part) in
      let place : o.start + (k - o.start) ≡ k = omega arith in
      in_part bytes part o.start n inside part_long k low (omega arith) ∙ ap (λ (xs : List ℕ). get_or xs (k - o.start) 0) copied
      ∙ get_or-between block o.place (o.place + o.len) (k - o.start) 0 (omega arith)
      ∙ has (k - o.start) (omega arith) ∙ ap byte place

  other_byte : (k : ℕ) → slice_index bytes k ≡ byte k → slice_index (put_mid o.start n bytes part) k ≡ byte k
  other_byte k h =
      let inside : o.start + n ≤ length bytes = omega (arith, fits.in_part) in
      ⊎_elim (λ (before : k < o.start). before_part bytes part o.start n inside part_long k before ∙ h)
      (λ (low : o.start ≤ k). ⊎_elim
      (λ (high : k < o.start + o.len). own_byte k low high)
      (λ (after : o.start + o.len ≤ k). after_part bytes part o.start n inside part_long k (omega arith) ∙ h)
      (cases_lt k (o.start + o.len)))
      (cases_lt k o.start)

  -- one overlap is copied
  pub copied_one : IsCopied byte (o ∷ []) bytes (put_mid o.start n bytes part)
  copied_one = record {
    kept = λ k below h. other_byte k h;
    copied = λ k below h. let in_o = reached k o (any_one (reaches k) o h) in own_byte k in_o.0 in_o.1;
  }

-- and one more
pub copied_push : (byte : ℕ → ℕ) (overlaps : List Overlap) (o : Overlap) (before now after : List ℕ)
    → length now ≡ length before → IsCopied byte overlaps before now → IsCopied byte (o ∷ []) now after → IsCopied byte (overlaps ++ o ∷ []) before after
copied_push byte overlaps o before now after long first more = record {
  kept = λ k below h. more.kept k (omega (arith, below, long)) (first.kept k below h);
  copied = λ k below h.
      let there : k < length now = omega (arith, below, long) in
      ⊎_elim (λ (e : list_any (reaches k) overlaps ≡ true). more.kept k there (first.copied k below e))
      (λ (e : list_any (reaches k) (o ∷ []) ≡ true). more.copied k there e)
      (any_two (reaches k) overlaps o h);
}

pub copied_more : (byte : ℕ → ℕ) (overlaps : List Overlap) (i : ℕ) (d : Overlap) (before now after : List ℕ) → i < length overlaps
    → length now ≡ length before → IsCopied byte (take i overlaps) before now → IsCopied byte (get_or overlaps i d ∷ []) now after → IsCopied byte (take (i + 1) overlaps) before after
copied_more byte overlaps i d before now after inside long first more =
    let o : Overlap = get_or overlaps i d in
    subst (λ (os : List Overlap). IsCopied byte os before after) (sym (take_more overlaps i d inside))
    (copied_push byte (take i overlaps) o before now after long first more)

pub copied_none : (byte : ℕ → ℕ) (bytes : List ℕ) → IsCopied byte [] bytes bytes
copied_none byte bytes = record { kept = λ k below h. h; copied = λ k below h. absurd (false≢true h) }

-- bytes with these at each position
pub same_bytes_from : (byte : ℕ → ℕ) (bytes : List ℕ) (from n : ℕ) → length bytes ≡ n → ((k : ℕ) → k < n → slice_index bytes k ≡ byte (from + k)) → bytes ≡ bytes_from byte from n
same_bytes_from byte [] from zero e h = refl
same_bytes_from byte [] from (suc n) e h = absurd (omega (arith, e))
same_bytes_from byte (b ∷ bytes) from zero e h = absurd (omega (arith, e))
same_bytes_from byte (b ∷ bytes) from (suc n) e h =
    let first : b ≡ byte from = h zero (omega arith) ∙ ap byte (omega arith) in
    let rest = same_bytes_from byte bytes (from + 1) n (omega (arith, e)) (λ k less. h (suc k) (omega (arith, less)) ∙ ap byte (omega arith)) in
    ap (λ x. x ∷ bytes) first ∙ ap (λ xs. byte from ∷ xs) rest
