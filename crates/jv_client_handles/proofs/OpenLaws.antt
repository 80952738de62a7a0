-- Whether a file is open by another handle than one, place by place.
use Rattle.std.proofs.Common.{◌≡◌, ℕ, zero, suc, ◌+◌, ◌-◌, ◌≤◌, ◌<◌, Bool, true, false, ◌&&◌, ◌||◌, not, List, [], ◌∷◌}
use Rattle.std.proofs.Common.{◌++◌, length, drop, get_or, slice_set, Option, None, Some, refl, sym, ap, ◌∙◌, arith}
use Rattle.std.proofs.Common.{add-one, drop-cons}
use Rattle.std.specs.Prelude.{◌==◌, nat_le, if◌then◌else◌}
use Rattle.std.proofs.lemmas.List.{drop_all, get_or_default}
use Rattle.std.proofs.lemmas.Bool.{eq-eqb, ne_eqb, leb-false}
use Rattle.jv_model.specs.promise.client.ModelClient.{with_file}
use Rattle.jv_model.specs.promise.Lists.{is_among}
use Rattle.jv_client_handles.specs.declared.handle.Handle.{Handle}
use Rattle.jv_client_handles.specs.Handles.{held_here}

abbrev pub is_on : ℕ → Option Handle → Bool
is_on inode slot = is_among inode (held_here (slot ∷ []))

-- from a place on, whose number is given
abbrev pub is_on_other : ℕ → ℕ → ℕ → List (Option Handle) → Bool
is_on_other place inode n [] = false
is_on_other place inode n (x ∷ xs) = (not (n == place) && is_on inode x) || is_on_other place inode (n + 1) xs

-- one place more
on_other-next : (place inode n : ℕ) (xs : List (Option Handle)) → n < length xs
    → is_on_other place inode n (drop n xs)
    ≡ ((not (n == place) && is_on inode (get_or xs n None)) || is_on_other place inode (n + 1) (drop (n + 1) xs))
on_other-next place inode n xs inside =
    ap (is_on_other place inode n) (drop-cons xs n None inside)
    ∙ ap (λ k. (not (n == place) && is_on inode (get_or xs n None)) || is_on_other place inode (n + 1) (drop k xs))
    (sym (add-one n))

among-cons : (inode : ℕ) (x : Option Handle) (xs : List (Option Handle))
    → (is_on inode x || is_among inode (held_here xs)) ≡ is_among inode (held_here (x ∷ xs))
among-cons inode None xs = refl
among-cons inode (Some handle) xs = ap (λ b. b || is_among inode (held_here xs)) (or_none (handle.inode == inode))
  where
    or_none : (b : Bool) → (b || false) ≡ b
    or_none true = refl
    or_none false = refl

-- behind that place
after_it : (place inode n : ℕ) (xs : List (Option Handle)) → place < n
    → is_on_other place inode n xs ≡ is_among inode (held_here xs)
after_it place inode n [] behind = refl
after_it place inode n (x ∷ xs) behind =
    ap (λ b. (not b && is_on inode x) || is_on_other place inode (n + 1) xs)
    (ne_eqb n place (λ e. omega (arith, e, behind)))
    ∙ ap (λ b. is_on inode x || b) (after_it place inode (n + 1) xs (omega (arith, behind))) ∙ among-cons inode x xs

-- up to it
up_to_it : (place inode n k : ℕ) (xs : List (Option Handle)) → place ≡ n + k
    → is_on_other place inode n xs ≡ is_among inode (held_here (slice_set xs k None))
up_to_it place inode n k [] e = refl
up_to_it place inode n zero (x ∷ xs) e =
    ap (λ b. (not b && is_on inode x) || is_on_other place inode (n + 1) xs) (eq-eqb n place (omega (arith, e)))
    ∙ after_it place inode (n + 1) xs (omega (arith, e))
up_to_it place inode n (suc k) (x ∷ xs) e =
    ap (λ b. (not b && is_on inode x) || is_on_other place inode (n + 1) xs)
    (ne_eqb n place (λ same. omega (arith, e, same)))
    ∙ ap (λ b. is_on inode x || b) (up_to_it place inode (n + 1) k xs (omega (arith, e)))
    ∙ among-cons inode x (slice_set xs k None)

-- a handle that the table doesn't have
set_past : (k : ℕ) (xs : List (Option Handle)) → length xs ≤ k → slice_set xs k None ≡ xs
set_past k [] past = refl
set_past zero (x ∷ xs) past = absurd (omega (arith, past))
set_past (suc k) (x ∷ xs) past = ap (λ ys. x ∷ ys) (set_past k xs (omega (arith, past)))

held-longer : (xs : List (Option Handle)) → held_here (xs ++ None ∷ []) ≡ held_here xs
held-longer [] = refl
held-longer (None ∷ xs) = held-longer xs
held-longer (Some handle ∷ xs) = ap (λ inodes. handle.inode ∷ inodes) (held-longer xs)

held-without : (handle : ℕ) (xs : List (Option Handle))
    → held_here (with_file handle None xs) ≡ held_here (slice_set xs (handle - 1) None)
held-without handle xs = by_place (nat_le handle (length xs)) refl
  where
    by_place : (b : Bool) → nat_le handle (length xs) ≡ b
        → held_here (if b then slice_set xs (handle - 1) None else xs ++ None ∷ [])
        ≡ held_here (slice_set xs (handle - 1) None)
    by_place true e = refl
    by_place false e =
        held-longer xs ∙ ap held_here (sym (set_past (handle - 1) xs
        (let past = leb-false handle (length xs) e in omega (arith, past))))

on_other-same : (handle inode : ℕ) (xs : List (Option Handle))
    → is_on_other (handle - 1) inode 0 xs ≡ is_among inode (held_here (with_file handle None xs))
on_other-same handle inode xs =
    up_to_it (handle - 1) inode 0 (handle - 1) xs (omega arith) ∙ ap (is_among inode) (sym (held-without handle xs))

-- What stands at a place, which is looked at after those before it: none of them is on the inode but the handle's own.
module _ (handle inode place n : ℕ) (xs : List (Option Handle)) where
  abbrev pub NoneSoFar : Type 0
  NoneSoFar = is_on_other place inode n (drop n xs) ≡ is_on_other place inode 0 xs

  pub none_other : place ≡ handle - 1 → length xs ≤ n → NoneSoFar
      → false ≡ is_among inode (held_here (with_file handle None xs))
  none_other e past none =
      ap (is_on_other place inode n) (sym (drop_all n xs past)) ∙ none ∙ ap (λ p. is_on_other p inode 0 xs) e
      ∙ on_other-same handle inode xs

  module _ (slot : Option Handle) (stands : slot ≡ get_or xs n slot) (inside : n < length xs) where
    abbrev here : Bool
    here = not (n == place) && is_on inode slot

    one_more : is_on_other place inode n (drop n xs) ≡ (here || is_on_other place inode (n + 1) (drop (n + 1) xs))
    one_more =
        on_other-next place inode n xs inside
        ∙ ap (λ x. (not (n == place) && is_on inode x) || is_on_other place inode (n + 1) (drop (n + 1) xs))
        (get_or_default xs n None slot inside ∙ sym stands)

    pub found_other : place ≡ handle - 1 → here ≡ true → NoneSoFar
        → true ≡ is_among inode (held_here (with_file handle None xs))
    found_other e found none =
        ap (λ b. b || is_on_other place inode (n + 1) (drop (n + 1) xs)) (sym found) ∙ sym one_more ∙ none
        ∙ ap (λ p. is_on_other p inode 0 xs) e ∙ on_other-same handle inode xs

    pub none_here : here ≡ false → NoneSoFar → is_on_other place inode (n + 1) (drop (n + 1) xs)
        ≡ is_on_other place inode 0 xs
    none_here off none =
        ap (λ b. b || is_on_other place inode (n + 1) (drop (n + 1) xs)) (sym off) ∙ sym one_more ∙ none
