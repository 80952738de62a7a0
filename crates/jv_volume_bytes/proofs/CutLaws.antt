-- What holds of lists that are cut: their records are records, and they name the same slices where they aren't removed.
use Rattle.std.proofs.Common.{◌≡◌, ◌≢◌, ℕ, ◌+◌, ◌-◌, ◌*◌, ◌<◌, ◌≤◌, cond, inl, inr, List, [], ◌∷◌, ◌++◌, length, refl, sym, ap, subst, ◌∙◌, arith}
use Rattle.std.specs.Prelude.{◌==◌}
use Rattle.std.specs.List.{AllByRecursion}
use Rattle.std.proofs.lemmas.Bool.{and_from, le-leb, cases_lt, cond-true, cond-false, lt-leb, lt-ltb, ne_eqb}
use Rattle.std.proofs.lemmas.List.{length-append}
use Rattle.std.proofs.lemmas.List.Sums.{sum_by_push}
use Rattle.jv_model.specs.declared.limits.TheConstants.{WINDOW}
use Rattle.jv_model.specs.declared.slice.Rec.{Rec}
use Rattle.jv_model.specs.promise.blocks.Slices.{IsRecord}
use Rattle.jv_volume.specs.promise.Slices.{records_naming}
use Rattle.jv_volume_bytes.specs.Places.{zero_record, cut_list}
use Rattle.jv_volume_bytes.proofs.PlaceLaws.{cut_list-below, cut_list-past}

pub zero-is : (pos : ℕ) → pos < WINDOW → IsRecord (zero_record pos)
zero-is pos low = and_from _ _ (and_from _ _ (le-leb 1 (WINDOW - pos) (omega (arith, low))) (le-leb (pos + (WINDOW - pos)) WINDOW (omega (arith, low)))) refl

-- all of a list, and one more
pub all-push : (P : Rec → Type 0) (l : List Rec) (r : Rec) → AllByRecursion P l → P r → AllByRecursion P (l ++ r ∷ [])
all-push P [] r all is = (is, tt)
all-push P (x ∷ l) r (first, rest) is = (first, all-push P l r rest is)

pub all-append : (P : Rec → Type 0) (l rs : List Rec) → AllByRecursion P l → AllByRecursion P rs → AllByRecursion P (l ++ rs)
all-append P [] rs all more = more
all-append P (x ∷ l) rs (first, rest) more = (first, all-append P l rs rest more)

-- a list that a length lies inside of
pub cut_list-inside : (len w : ℕ) (r : Rec) (rs : List Rec) → w * WINDOW < len → len < w * WINDOW + WINDOW
    → cut_list len w (r ∷ rs) ≡ (r ∷ rs) ++ zero_record (len - w * WINDOW) ∷ []
cut_list-inside len w r rs begun inside = cond-false _ _ _ (lt-leb len (w * WINDOW) begun) ∙ cond-true _ _ _ (lt-ltb len (w * WINDOW + WINDOW) inside)

module _ (len w : ℕ) where
  -- what all records have, and the one that is added
  pub cut-all : (P : Rec → Type 0) → (w * WINDOW < len → len < w * WINDOW + WINDOW → P (zero_record (len - w * WINDOW)))
      → (l : List Rec) → AllByRecursion P l → AllByRecursion P (cut_list len w l)
  cut-all P zero [] all = tt
  cut-all P zero (r ∷ rs) all = elim (cases_lt (w * WINDOW) len) [
    | inr past ↦ subst (AllByRecursion P) (sym (cond-true _ _ _ (le-leb len (w * WINDOW) past))) tt
    | inl begun ↦ elim (cases_lt len (w * WINDOW + WINDOW)) [
      | inl inside ↦ subst (AllByRecursion P) (sym (cut_list-inside len w r rs begun inside))
          (all-push P (r ∷ rs) (zero_record (len - w * WINDOW)) all (zero begun inside))
      | inr whole ↦ subst (AllByRecursion P) (sym (cut_list-below len w (r ∷ rs) whole)) all
    ]
  ]

  pub cut-are : (l : List Rec) → AllByRecursion IsRecord l → AllByRecursion IsRecord (cut_list len w l)
  cut-are l all = cut-all IsRecord (λ begun inside. zero-is (len - w * WINDOW) (omega (arith, begun, inside))) l all

  pub cut-name : (P : ℕ → ℕ → Type 0) (l : List Rec) → AllByRecursion (λ r. r.id ≢ 0 → P r.id r.size) l
      → AllByRecursion (λ r. r.id ≢ 0 → P r.id r.size) (cut_list len w l)
  cut-name P l all = cut-all (λ r. r.id ≢ 0 → P r.id r.size) (λ begun inside named. absurd (named refl)) l all

  -- a list that isn't removed names each slice as often as it did
  pub cut-naming : (id : ℕ) → 0 < id → w * WINDOW < len → (l : List Rec) → records_naming id (cut_list len w l) ≡ records_naming id l
  cut-naming id some begun [] = refl
  cut-naming id some begun (r ∷ rs) = elim (cases_lt len (w * WINDOW + WINDOW)) [
    | inl inside ↦ ap (records_naming id) (cut_list-inside len w r rs begun inside)
        ∙ sum_by_push (λ (x : Rec). cond (x.id == id) 1 0) (r ∷ rs) (zero_record (len - w * WINDOW)) ∙ none (records_naming id (r ∷ rs))
    | inr whole ↦ ap (records_naming id) (cut_list-below len w (r ∷ rs) whole)
  ]
    where
      none : (n : ℕ) → n + cond (0 == id) 1 0 ≡ n
      none n = ap (λ b. n + cond b 1 0) (ne_eqb 0 id (λ e. absurd (omega (arith, e, some)))) ∙ omega arith

  -- and has one record more at most
  pub cut-few : (l : List Rec) → length (cut_list len w l) ≤ length l + 1
  cut-few [] = omega arith
  cut-few (r ∷ rs) = elim (cases_lt (w * WINDOW) len) [
    | inr past ↦ (let e : length (cut_list len w (r ∷ rs)) ≡ 0 = ap (λ (l : List Rec). length l) (cut_list-past len w (r ∷ rs) past) in omega (arith, e))
    | inl begun ↦ elim (cases_lt len (w * WINDOW + WINDOW)) [
      | inl inside ↦
          (let e = ap (λ (l : List Rec). length l) (cut_list-inside len w r rs begun inside) ∙ length-append (r ∷ rs) (zero_record (len - w * WINDOW) ∷ []) in
          omega (arith, e))
      | inr whole ↦ (let e = ap (λ (l : List Rec). length l) (cut_list-below len w (r ∷ rs) whole) in omega (arith, e))
    ]
  ]
