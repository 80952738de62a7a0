-- Lists of any items: what stands where once more was appended, and what holds of the items that pass a test.
use Rattle.std.proofs.Common.{◌≡◌, ℕ, zero, suc, ◌+◌, ◌<◌, Bool, true, false, cond, List, [], ◌∷◌, ◌++◌, length, Some, refl, ap, arith}
use Rattle.std.specs.Prelude.{slice_get}
use Rattle.std.specs.List.{AllByRecursion, filter}
use Rattle.jv_model.specs.promise.Lists.{last_item}

-- ---- behind what was appended

module _ {A : Type 0} where
  pub get_front : (xs ys : List A) (i : ℕ) → i < length xs → slice_get (xs ++ ys) i ≡ slice_get xs i
  get_front [] ys i low = absurd (omega (arith, low))
  get_front (x ∷ xs) ys zero low = refl
  get_front (x ∷ xs) ys (suc i) low = get_front xs ys i (omega (arith, low))

  pub get_behind : (xs ys : List A) (i j : ℕ) → i ≡ length xs + j → slice_get (xs ++ ys) i ≡ slice_get ys j
  get_behind [] ys i j is = let e : i ≡ j = omega (arith, is) in ap (slice_get ys) e
  get_behind (x ∷ xs) ys zero j is = absurd (omega (arith, is))
  get_behind (x ∷ xs) ys (suc i) j is = get_behind xs ys i j (omega (arith, is))

  pub get_end : (xs : List A) (x : A) → slice_get (xs ++ x ∷ []) (length xs) ≡ Some x
  get_end [] x = refl
  get_end (y ∷ ys) x = get_end ys x

  pub last_end : (xs : List A) (x : A) → last_item (xs ++ x ∷ []) ≡ Some x
  last_end [] x = refl
  last_end (y ∷ []) x = refl
  last_end (y ∷ z ∷ xs) x = last_end (z ∷ xs) x

-- ---- of the items that pass a test

module _ {A : Type 0} (P : A → Type 0) where
  all_kept : (b : Bool) (x : A) (xs : List A) → P x → AllByRecursion P xs → AllByRecursion P (cond b (x ∷ xs) xs)
  all_kept true x xs p all = (p, all)
  all_kept false x xs p all = all

  pub all_filter : (test : A → Bool) (xs : List A) → AllByRecursion P xs → AllByRecursion P (filter test xs)
  all_filter test [] all = tt
  all_filter test (x ∷ xs) all = all_kept (test x) x (filter test xs) all.0 (all_filter test xs all.1)
