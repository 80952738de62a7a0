-- The name of an entry of the trash is one that an entry may have.
use Rattle.std.proofs.Common.{◌≡◌, ℕ, zero, suc, ◌+◌, ◌/◌, ◌%◌, ◌≤◌, Bool, true, false, cond, not, ◌&&◌, ◌||◌, ◌==◌, List, [], ◌∷◌, ◌++◌, take, length, refl, ap, ◌∙◌, arith, ne_eqb, le-leb}
use Rattle.std.specs.Prelude.{IsTrue, nat_lt, nat_le, decimal}
use Rattle.std.specs.List.{list_all}
use Rattle.std.specs.Fmt.{digits, digits_onto, digit_glyph}
use Rattle.std.proofs.lemmas.Bool.{and_from, and_parts, cond_both}
use Rattle.std.proofs.lemmas.List.{length-append}
use Rattle.std.proofs.lemmas.List.Folds.{list_all-append}
use Rattle.jv_model.specs.declared.limits.TheConstants.{MAX_NAME}
use Rattle.jv_model.specs.promise.tree.Trash.{trash_name}
use Rattle.jv_model.specs.promise.tree.Tree.{EntryKey}
use Rattle.jv_volume.specs.promise.TypedRows.{is_entry_name}

-- a byte that a name may have
abbrev may_stand : ℕ → Bool
may_stand b = not (b == 47 || b == 0)

above : (b : ℕ) → 48 ≤ b → may_stand b ≡ true
above b high = ap not (ap (λ x. x || (b == 0)) (ne_eqb b 47 (λ e. absurd (omega (arith, high, e)))) ∙ ne_eqb b 0
    (λ e. absurd (omega (arith, high, e))))

glyph_stands : (d : ℕ) (low : Bool) → may_stand (cond low (48 + d) (87 + d)) ≡ true
glyph_stands d true = above (48 + d) (omega arith)
glyph_stands d false = above (87 + d) (omega arith)

digits_stand : (k n : ℕ) (acc : List ℕ) → list_all may_stand acc ≡ true
    → list_all may_stand (digits_onto k 10 false n acc) ≡ true
digits_stand zero n acc h = h
digits_stand (suc k) n acc h =
    let one : list_all may_stand (digit_glyph false (n % 10) ∷ acc) ≡ true =
    and_from _ _ (glyph_stands (n % 10) (nat_lt (n % 10) 10)) h in
    cond_both (n / 10 == 0) _ _ (λ (l : List ℕ). list_all may_stand l ≡ true) (λ e. one)
    (λ e. digits_stand k (n / 10) (digit_glyph false (n % 10) ∷ acc) one)

decimal_stands : (n : ℕ) → list_all may_stand (decimal n) ≡ true
unfolding digits
decimal_stands n = digits_stand 64 n [] refl

taken_stand : (n : ℕ) (l : List ℕ) → list_all may_stand l ≡ true → list_all may_stand (take n l) ≡ true
taken_stand zero l h = refl
taken_stand (suc n) [] h = refl
taken_stand (suc n) (x ∷ xs) h = (let parts = and_parts (may_stand x) _ h in
    and_from (may_stand x) _ parts.0 (taken_stand n xs parts.1))

long_enough : (n : ℕ) (l : List ℕ) → 1 ≤ length l → 1 ≤ length (take (suc n) l)
long_enough n [] h = h
long_enough n (x ∷ xs) h = omega arith

taken_short : (n : ℕ) (l : List ℕ) → length (take n l) ≤ n
taken_short zero l = omega arith
taken_short (suc n) [] = omega arith
taken_short (suc n) (x ∷ xs) = (let rest = taken_short n xs in omega (arith, rest))

both_stand : (xs ys : List ℕ) → list_all may_stand xs ≡ true → list_all may_stand ys ≡ true
    → list_all may_stand (xs ++ ys) ≡ true
both_stand xs ys h k = list_all-append may_stand xs ys ∙ and_from _ _ h k

pub trash_name-entry : (place : EntryKey) (inode : ℕ) → IsTrue (is_entry_name place.name)
    → IsTrue (is_entry_name (trash_name place inode))
unfolding trash_name
trash_name-entry place inode is =
    let own = (and_parts (nat_le 1 (length place.name) && nat_le (length place.name) MAX_NAME)
    (list_all may_stand place.name) is).1 in
    let all = decimal place.dir ++ 45 ∷ decimal inode ++ 45 ∷ place.name in
    let some : 1 ≤ length all = (let count = length-append (decimal place.dir ++ 45 ∷ decimal inode)
    (45 ∷ place.name) in omega (arith, count)) in
    let stands : list_all may_stand all ≡ true = both_stand (decimal place.dir ++ 45 ∷ decimal inode) (45 ∷ place.name)
    (both_stand (decimal place.dir) (45 ∷ decimal inode) (decimal_stands place.dir) (decimal_stands inode)) own in
    and_from _ _ (and_from _ _ (le-leb 1 (length (take MAX_NAME all)) (long_enough 254 all some))
    (le-leb (length (take MAX_NAME all)) MAX_NAME (taken_short MAX_NAME all)))
    (taken_stand MAX_NAME all stands)
