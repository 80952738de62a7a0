-- What totals are of a list of answers: sums that saturate.
use Rattle.std.proofs.Common.{◌≡◌, ℕ, ◌-◌, ◌^◌, ◌≤◌, Bool, true, false, not, cond, if◌then◌else◌, List, [], ◌∷◌, length, fold, sum, sum_by, refl, ap, ◌∙◌, arith, lit≤, zero-add}
use Rattle.std.proofs.lemmas.List.Sums.{sum_by-cons}
use Rattle.jv_model.specs.declared.op.Reply.{Reply}
use Rattle.jv_model.specs.promise.journal.State.{is_refused}
use Rattle.jv_model.specs.promise.Counts.{counted, saturated}
use Rattle.jv_script_drawn.specs.promise.Summary.{TotalsValue, no_totals, added, read_bytes, with_reply}
use Rattle.jv_script_drawn.specs.Laws.{TotalsAreSums}

-- a total to which each answer adds an amount
summed : (total : TotalsValue → ℕ) (amount : Reply → ℕ)
    → ((t : TotalsValue) (r : Reply) → total t ≤ 2 ^ 64 - 1 → total (with_reply t r) ≡ added (total t) (amount r))
    → (rs : List Reply) (t : TotalsValue) → total t ≤ 2 ^ 64 - 1 → total (fold with_reply t rs) ≡ added (total t) (sum_by amount rs)
summed total amount step [] t h = omega arith
summed total amount step (r ∷ rs) t h =
    let e = step t r h in
    let small : total (with_reply t r) ≤ 2 ^ 64 - 1 = omega (arith, e) in
    let rest = summed total amount step rs (with_reply t r) small in
    omega (arith, e, rest, sum_by-cons amount r rs)

where_ok : (b : Bool) (n : ℕ) → n ≤ 2 ^ 64 - 1 → (if b then n else counted n) ≡ added n (cond (not b) 1 0)
where_ok true n h = omega arith
where_ok false n h = refl

where_err : (b : Bool) (n : ℕ) → n ≤ 2 ^ 64 - 1 → (if b then counted n else n) ≡ added n (cond b 1 0)
where_err true n h = refl
where_err false n h = omega arith

length_as_sum : (rs : List Reply) → sum_by (λ _. 1) rs ≡ length rs
length_as_sum [] = refl
length_as_sum (r ∷ rs) = omega (arith, length_as_sum rs, sum_by-cons (λ _. 1) r rs)

from_none : (amount : Reply → ℕ) (rs : List Reply) → added 0 (sum_by amount rs) ≡ saturated (sum_by amount rs)
from_none amount rs = ap saturated (zero-add (sum_by amount rs))

pub totals_are_sums : TotalsAreSums
totals_are_sums rs = record {
  lines = summed (λ t. t.lines) (λ _. 1) (λ t r h. refl) rs no_totals (lit≤ tt) ∙ from_none (λ _. 1) rs ∙ ap saturated (length_as_sum rs);
  ok = summed (λ t. t.ok) (λ r. cond (not (is_refused r)) 1 0) (λ t r h. where_ok (is_refused r) t.ok h) rs no_totals (lit≤ tt)
      ∙ from_none (λ r. cond (not (is_refused r)) 1 0) rs;
  err = summed (λ t. t.err) (λ r. cond (is_refused r) 1 0) (λ t r h. where_err (is_refused r) t.err h) rs no_totals (lit≤ tt)
      ∙ from_none (λ r. cond (is_refused r) 1 0) rs;
  bytes = summed (λ t. t.bytes) (λ r. length (read_bytes r)) (λ t r h. refl) rs no_totals (lit≤ tt)
      ∙ from_none (λ r. length (read_bytes r)) rs;
  values = summed (λ t. t.values) (λ r. sum (read_bytes r)) (λ t r h. refl) rs no_totals (lit≤ tt)
      ∙ from_none (λ r. sum (read_bytes r)) rs;
}
