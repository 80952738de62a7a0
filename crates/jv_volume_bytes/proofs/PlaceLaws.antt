-- Laws of places: what a list shows with one more record, what a file shows then, and what a cut file shows.
use Rattle.std.proofs.Common.{◌≡◌, ◌≢◌, ℕ, ◌+◌, ◌-◌, ◌*◌, ◌/◌, ◌%◌, ◌<◌, ◌≤◌, Bool, true, false, cond, List, [], ◌∷◌, ◌++◌, Some, inl, inr, refl, sym, ap, ◌∙◌, arith}
use Rattle.std.specs.Prelude.{find, nat_le, nat_lt, ◌&&◌}
use Rattle.std.proofs.lemmas.Bool.{and_parts, leb-true, cases_eq, cases_lt, lt-ltb, le-ltb, le-leb, lt-leb, cond-true, cond-false, eq-eqb, ne_eqb}
use Rattle.std.proofs.lemmas.Bool.Decides.{nat_tests}
use Rattle.std.proofs.lemmas.List.{reverse-append}
use Rattle.jv_model.specs.declared.limits.TheConstants.{WINDOW}
use Rattle.jv_model.specs.declared.slice.Rec.{Rec}
use Rattle.jv_model.specs.declared.slice.Spot.{Spot}
use Rattle.jv_model.specs.declared.slice.Spot.TheVariants.{Zero}
use Rattle.jv_model.specs.promise.blocks.Slices.{IsRecord, is_part, covers, visible, place_by, stored_place, shown}
use Rattle.jv_volume.specs.promise.Slices.{place_in}
use Rattle.jv_volume_bytes.specs.Places.{Lists, with_list, put_over, cut_at, zero_record, cut_list}
use Rattle.jv_volume.proofs.stored.FilesLaws.{nothing_shows}

-- a record has a position
pub record_some : (r : Rec) → IsRecord r → 1 ≤ r.len
record_some r is =
    let front = (and_parts (nat_le 1 r.len && nat_le (r.pos + r.len) WINDOW) (is_part r) is).0 in
    leb-true 1 r.len ((and_parts (nat_le 1 r.len) (nat_le (r.pos + r.len) WINDOW) front).0)

-- a record ends in its window
pub record_ends : (r : Rec) → IsRecord r → r.pos + r.len ≤ WINDOW
record_ends r is =
    let front = (and_parts (nat_le 1 r.len && nat_le (r.pos + r.len) WINDOW) (is_part r) is).0 in
    leb-true (r.pos + r.len) WINDOW ((and_parts (nat_le 1 r.len) (nat_le (r.pos + r.len) WINDOW) front).1)

-- and what it shows of a slice lies in the slice
pub record_inside : (r : Rec) → IsRecord r → r.id ≢ 0 → r.off + r.len ≤ r.size
record_inside r is named =
    let part = (and_parts (nat_le 1 r.len && nat_le (r.pos + r.len) WINDOW) (is_part r) is).1 in
    leb-true (r.off + r.len) r.size (sym (cond-false _ _ _ (ne_eqb r.id 0 named)) ∙ part)

-- one more record is seen where it covers
pub visible-push : (l : List Rec) (r : Rec) (p : ℕ) → visible (l ++ r ∷ []) p ≡ cond (covers p r) (Some r) (visible l p)
visible-push l r p = ap (find (covers p)) (reverse-append l (r ∷ []))

-- a list with one more record shows it over its range, and else what it showed
pub stored_place-push : (l : List Rec) (r : Rec) (p : ℕ) → stored_place (l ++ r ∷ []) p ≡ put_over (stored_place l) r.pos r.len (shown r) p
unfolding stored_place
stored_place-push l r p = ap (λ o. place_by o p) (visible-push l r p) ∙ either (covers p r)
  where
    either : (b : Bool) → place_by (cond b (Some r) (visible l p)) p ≡ cond b (shown r (p - r.pos)) (place_by (visible l p) p)
    either true = refl
    either false = refl

-- ---- ranges that are put over others, by numbers and tests

module _ {A : Type 0} where
  -- the same position by window and by file
  pub over-inside : (a b : A) (w base p q pos len : ℕ) → p ≡ base + q
      → cond (nat_le pos q && nat_lt q (pos + len)) a b ≡ cond (nat_le (base + pos) p && nat_lt p (base + pos + len)) a b
  over-inside a b w base p q pos len e = grind (arith, nat_tests)

  -- a position outside of a range
  pub over-outside : (a b : A) (from len p : ℕ) → (from ≤ p → p < from + len → ⊥) → cond (nat_le from p && nat_lt p (from + len)) a b ≡ b
  over-outside a b from len p none = grind (arith, nat_tests)

-- ---- a file with another list in one window

module _ (lists : Lists) (w : ℕ) where
  -- where the other list shows something else over a range, so does the file
  pub place_in-over : (l after : List Rec) (pos len : ℕ) (new : ℕ → Spot) → l ≡ lists w → pos + len ≤ WINDOW
      → ((q : ℕ) → stored_place after q ≡ put_over (stored_place l) pos len new q)
      → (p : ℕ) → place_in (with_list w after lists) p ≡ put_over (place_in lists) (w * WINDOW + pos) len new p
  unfolding place_in
  place_in-over l after pos len new same small shows p = elim (cases_eq (p / WINDOW) w) [
    | inl e ↦ ap (λ list. stored_place list (p % WINDOW)) (cond-true _ _ _ (eq-eqb (p / WINDOW) w e)) ∙ shows (p % WINDOW)
        ∙ inside (omega (arith, e)) (ap (λ list. stored_place list (p % WINDOW)) (same ∙ ap lists (sym e)))
    | inr apart ↦ ap (λ list. stored_place list (p % WINDOW)) (cond-false _ _ _ (ne_eqb (p / WINDOW) w apart))
        ∙ sym (over-outside (new (p - (w * WINDOW + pos))) (place_in lists p) (w * WINDOW + pos) len p
        (λ low high. apart (omega (arith, low, high, small))))
  ]
    where
      inside : p ≡ w * WINDOW + p % WINDOW → stored_place l (p % WINDOW) ≡ place_in lists p
          → put_over (stored_place l) pos len new (p % WINDOW) ≡ put_over (place_in lists) (w * WINDOW + pos) len new p
      inside is old = over-inside (new (p % WINDOW - pos)) (stored_place l (p % WINDOW)) w (w * WINDOW) p (p % WINDOW) pos len is
          ∙ (λ i. cond (nat_le (w * WINDOW + pos) p && nat_lt p (w * WINDOW + pos + len)) (new (distance i)) (old i))
        where
          distance : p % WINDOW - pos ≡ p - (w * WINDOW + pos)
          distance = omega (arith, is)

  -- one more record in a window
  pub place_in-push : (l : List Rec) (r : Rec) → l ≡ lists w → IsRecord r
      → (p : ℕ) → place_in (with_list w (l ++ r ∷ []) lists) p ≡ put_over (place_in lists) (w * WINDOW + r.pos) r.len (shown r) p
  place_in-push l r same is = place_in-over l (l ++ r ∷ []) r.pos r.len (shown r) same (record_ends r is) (stored_place-push l r)

-- lists that are the same window by window show the same
pub place_in-same : (a b : Lists) → ((w : ℕ) → a w ≡ b w) → (p : ℕ) → place_in a p ≡ place_in b p
unfolding place_in
place_in-same a b same p = ap (λ l. stored_place l (p % WINDOW)) (same (p / WINDOW))

-- the place that a position of a window shows
pub place_in-window : (lists : Lists) (w q : ℕ) → q < WINDOW → place_in lists (w * WINDOW + q) ≡ stored_place (lists w) q
unfolding place_in
place_in-window lists w q small = λ i. stored_place (lists (window i)) (within i)
  where
    window : (w * WINDOW + q) / WINDOW ≡ w
    window = omega (arith, small)

    within : (w * WINDOW + q) % WINDOW ≡ q
    within = omega (arith, small)

-- ---- a file that is cut

-- the window of a position, and where the position lies in it
module _ (len w q p : ℕ) (is : p ≡ w * WINDOW + q) (small : q < WINDOW) where
  cut_some : (r : Rec) (rs : List Rec) → stored_place (cut_list len w (r ∷ rs)) q ≡ cond (nat_lt p len) (stored_place (r ∷ rs) q) Zero
  cut_some r rs = elim (cases_lt (w * WINDOW) len) [
    | inr past ↦ ap (λ l. stored_place l q) (cond-true _ _ _ (le-leb len (w * WINDOW) past)) ∙ nothing_shows q
        ∙ sym (cond-false _ _ _ (le-ltb p len (omega (arith, is, past))))
    | inl begun ↦ ap (λ l. stored_place l q) (cond-false _ _ _ (lt-leb len (w * WINDOW) begun)) ∙ elim (cases_lt len (w * WINDOW + WINDOW)) [
      | inr whole ↦ ap (λ l. stored_place l q) (cond-false _ _ _ (le-ltb len (w * WINDOW + WINDOW) whole))
          ∙ sym (cond-true _ _ _ (lt-ltb p len (omega (arith, is, small, whole))))
      | inl inside ↦ ap (λ l. stored_place l q) (cond-true _ _ _ (lt-ltb len (w * WINDOW + WINDOW) inside))
          ∙ stored_place-push (r ∷ rs) (zero_record (len - w * WINDOW)) q ∙ turned (w * WINDOW) (stored_place (r ∷ rs) q) begun is
    ]
  ]
    where
      turned : (base : ℕ) (old : Spot) → base < len → p ≡ base + q
          → cond (nat_le (len - base) q && nat_lt q (len - base + (WINDOW - (len - base)))) Zero old ≡ cond (nat_lt p len) old Zero
      turned base old begun at = grind (arith, nat_tests)

  cut_any : (l : List Rec) → stored_place (cut_list len w l) q ≡ cond (nat_lt p len) (stored_place l q) Zero
  cut_any [] = nothing_shows q ∙ either (nat_lt p len)
    where
      either : (b : Bool) → Zero ≡ cond b (stored_place [] q) Zero
      either true = sym (nothing_shows q)
      either false = refl
  cut_any (r ∷ rs) = cut_some r rs

-- a file with each list cut shows what it showed up to the length, and nothing from there on
pub place_in-cut : (lists : Lists) (len p : ℕ) → place_in (λ w. cut_list len w (lists w)) p ≡ cut_at (place_in lists) len p
unfolding place_in
place_in-cut lists len p = cut_any len (p / WINDOW) (p % WINDOW) p (omega arith) (omega arith) (lists (p / WINDOW))

-- what is cut of a window that ends by the length, and of one that begins at it or past it
pub cut_list-below : (len w : ℕ) (l : List Rec) → w * WINDOW + WINDOW ≤ len → cut_list len w l ≡ l
cut_list-below len w [] whole = refl
cut_list-below len w (r ∷ rs) whole = cond-false _ _ _ (lt-leb len (w * WINDOW) (omega (arith, whole)))
    ∙ cond-false _ _ _ (le-ltb len (w * WINDOW + WINDOW) whole)

pub cut_list-past : (len w : ℕ) (l : List Rec) → len ≤ w * WINDOW → cut_list len w l ≡ []
cut_list-past len w [] past = refl
cut_list-past len w (r ∷ rs) past = cond-true _ _ _ (le-leb len (w * WINDOW) past)
