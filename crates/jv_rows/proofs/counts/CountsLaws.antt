-- Counting records by slice, as a loop does.
use Rattle.std.proofs.Common.{◌≡◌, ◌≢◌, ℕ, zero, suc, ◌+◌, ◌<◌, ◌≤◌, Bool, true, false, cond, eqb, List, length, get_or, take, Option, Some, None, refl, sym, ap, ◌∙◌, arith, inl, inr}
use Rattle.std.specs.Prelude.{◌||◌, unwrap_or}
use Rattle.std.specs.declared.cmp.Ordering.TheVariants.{Less, Equal, Greater}
use Rattle.std.specs.Ordering.{nat_cmp, is_eq}
use Rattle.std.specs.Cmp.{nat_cmp_is}
use Rattle.std.specs.BTreeMap.{is_at}
use Rattle.std.proofs.lemmas.Bool.{cases_lt, cases_eq, eq-eqb, ne_eqb}
use Rattle.std.proofs.lemmas.List.{length-take}
use Rattle.std.proofs.lemmas.List.Sums.{count_by-le-length, count_by_more_yes, count_by_more_no}
use Rattle.jv_model.specs.declared.slice.Rec.{Rec}
use Rattle.jv_volume.specs.promise.Slices.{records_naming}
use Rattle.jv_rows.specs.Counts.{stored_count}

-- what a list reads past its end
abbrev pub none : Rec
none = record { pos = 0; id = 0; size = 0; off = 0; len = 0 }

unwrap_le : (b : Bool) (n m : ℕ) → n ≤ m → unwrap_or (cond b None (Some n)) 0 ≤ m
unwrap_le true n m h = omega arith
unwrap_le false n m h = h

-- no more records than there are
pub stored_le : (rs : List Rec) (i id : ℕ) → unwrap_or (stored_count (take i rs) id) 0 ≤ i
stored_le rs i id = unwrap_le (eqb id 0 || eqb (records_naming id (take i rs)) 0) (records_naming id (take i rs)) i
    (omega (arith, count_by-le-length (λ (r : Rec). eqb r.id id) (take i rs), length-take i rs))

-- whether an order of numbers finds a key at another number: where they are equal
pub at_key : (k q : ℕ) → is_at (nat_cmp k) q ≡ eqb k q
at_key k q =
    elim (cases_lt k q) [
      | inl lt ↦ ap is_eq (sym (nat_cmp_is k q Less lt)) ∙ sym (ne_eqb k q (λ e. omega arith))
      | inr le ↦ elim (cases_lt q k) [
        | inl gt ↦ ap is_eq (sym (nat_cmp_is k q Greater gt)) ∙ sym (ne_eqb k q (λ e. omega arith))
        | inr ge ↦ let same : k ≡ q = omega arith in ap is_eq (sym (nat_cmp_is k q Equal same)) ∙ sym (eq-eqb k q same)
      ]
    ]

-- a number as it is stored for a slice
abbrev stored : ℕ → ℕ → Option ℕ
stored id n = cond (eqb id 0 || eqb n 0) None (Some n)

stored_some : (id n : ℕ) → id ≢ 0 → stored id (n + 1) ≡ Some (n + 1)
stored_some id n h = rw (ne_eqb id 0 h, ne_eqb (n + 1) 0 (λ e. omega arith)) refl

stored_none : (id n : ℕ) → id ≡ 0 → stored id n ≡ None
stored_none id n h = rw (eq-eqb id 0 h) refl

unwrap_stored : (id n : ℕ) → id ≢ 0 → unwrap_or (stored id n) 0 ≡ n
unwrap_stored id zero h = rw (ne_eqb id 0 h) refl
unwrap_stored id (suc n) h = rw (ne_eqb id 0 h, ne_eqb (suc n) 0 (λ e. omega arith)) refl

-- what a list of records names, with one record more
count_yes : (rs : List Rec) (i q : ℕ) → i < length rs → (get_or rs i none).id ≡ q → records_naming q (take (i + 1) rs) ≡ records_naming q (take i rs) + 1
count_yes rs i q lt e = count_by_more_yes (λ (r : Rec). eqb r.id q) rs i none lt (eq-eqb _ q e)

count_no : (rs : List Rec) (i q : ℕ) → i < length rs → (get_or rs i none).id ≢ q → records_naming q (take (i + 1) rs) ≡ records_naming q (take i rs)
count_no rs i q lt e = count_by_more_no (λ (r : Rec). eqb r.id q) rs i none lt (ne_eqb _ q e)

-- a record of no slice leaves the numbers
pub stored_same : (rs : List Rec) (i : ℕ) → i < length rs → (get_or rs i none).id ≡ 0 → (q : ℕ) → stored_count (take i rs) q ≡ stored_count (take (i + 1) rs) q
stored_same rs i lt zero_id q =
    elim (cases_eq q 0) [
      | inl e ↦ stored_none q _ e ∙ sym (stored_none q _ e)
      | inr ne ↦ ap (stored q) (sym (count_no rs i q lt (λ e. ne (sym e ∙ zero_id))))
    ]

-- a record of a slice raises its number by one
pub stored_more : (rs : List Rec) (i : ℕ) → i < length rs → (get_or rs i none).id ≢ 0 → (n : ℕ) → n ≡ unwrap_or (stored_count (take i rs) (get_or rs i none).id) 0
    → (q : ℕ) → cond (is_at (nat_cmp (get_or rs i none).id) q) (Some (n + 1)) (stored_count (take i rs) q) ≡ stored_count (take (i + 1) rs) q
stored_more rs i lt some_id n is q =
    let id = (get_or rs i none).id in
    let before = records_naming id (take i rs) in
    let count : n ≡ before = is ∙ unwrap_stored id before some_id in
    elim (cases_eq id q) [
      | inl e ↦ ap (λ (b : Bool). cond b (Some (n + 1)) (stored_count (take i rs) q)) (at_key id q ∙ eq-eqb id q e)
          ∙ ap (λ (m : ℕ). Some (m + 1)) count
          ∙ sym (stored_some id before some_id)
          ∙ ap (stored id) (sym (count_yes rs i id lt refl))
          ∙ ap (stored_count (take (i + 1) rs)) e
      | inr ne ↦ ap (λ (b : Bool). cond b (Some (n + 1)) (stored_count (take i rs) q)) (at_key id q ∙ ne_eqb id q ne)
          ∙ ap (stored q) (sym (count_no rs i q lt ne))
    ]
