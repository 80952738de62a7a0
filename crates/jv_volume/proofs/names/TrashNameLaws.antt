-- The name of an entry in the trash says which inode it is of.
use Rattle.std.proofs.Common.{◌≡◌, ◌≢◌, ℕ, zero, suc, ◌+◌, ◌^◌, ◌/◌, ◌%◌, ◌==◌, ◌≤◌, ◌<◌, Bool, true, false, cond, inl, inr, List, [], ◌∷◌, ◌++◌, length, take, drop, get_or, refl, sym, ap, ◌∙◌, append_assoc, arith}
use Rattle.std.specs.Prelude.{IsTrue, nat_lt, decimal}
use Rattle.std.specs.Fmt.{digits, digit_glyph, digits_onto}
use Rattle.std.proofs.lemmas.Fmt.{length-decimal-le, decimal_injective}
use Rattle.std.proofs.lemmas.Bool.{cases_lt, cases_eq, cond_both, lt-ltb, leb-true, and_parts}
use Rattle.jv_model.specs.declared.limits.TheConstants.{MAX_NAME, TRASH_ROOT}
use Rattle.jv_model.specs.declared.lifetimes.TheConstants.{FIRST_HOUR}
use Rattle.jv_model.specs.promise.tree.Tree.{EntryKey}
use Rattle.jv_model.specs.promise.tree.Trash.{trash_name}
use Rattle.jv_volume.specs.promise.Shape.{Shape, WholeShape, is_there, is_hour}

-- a text without a dash
abbrev DashFree : List ℕ → Type 0
DashFree [] = Unit {0}
DashFree (c ∷ cs) = (c ≢ 45) × DashFree cs

glyph_free_at : (d : ℕ) (low : Bool) → cond low (48 + d) (87 + d) ≢ 45
glyph_free_at d true e = omega arith
glyph_free_at d false e = omega arith

digits_free : (k n : ℕ) (acc : List ℕ) → DashFree acc → DashFree (digits_onto k 10 false n acc)
digits_free zero n acc h = h
digits_free (suc k) n acc h =
    let one : DashFree (digit_glyph false (n % 10) ∷ acc) = (glyph_free_at (n % 10) (nat_lt (n % 10) 10), h) in
    cond_both (n / 10 == 0) _ _ DashFree (λ e. one) (λ e. digits_free k (n / 10) (digit_glyph false (n % 10) ∷ acc) one)

decimal_free : (n : ℕ) → DashFree (decimal n)
unfolding digits
decimal_free n = digits_free 64 n [] tt

-- texts whose fronts up to a dash stand within what is left of them
record SameFront (k : ℕ) (a b x y : List ℕ) : Type 0 where
  same : a ≡ b
  left : ℕ
  count : k ≡ length a + suc left
  rest : take left x ≡ take left y

same_front : (k : ℕ) (a b x y : List ℕ) → DashFree a → DashFree b → length a < k → take k (a ++ 45 ∷ x) ≡ take k (b ++ 45 ∷ y) → SameFront k a b x y
same_front zero a b x y free free' within e = absurd (omega arith)
same_front (suc k) [] [] x y free free' within e = record { same = refl; left = k; count = omega arith; rest = ap (drop 1) e }
same_front (suc k) [] (d ∷ b) x y free free' within e = absurd (free'.0 (sym (ap (λ l. get_or l 0 0) e)))
same_front (suc k) (c ∷ a) [] x y free free' within e = absurd (free.0 (ap (λ l. get_or l 0 0) e))
same_front (suc k) (c ∷ a) (d ∷ b) x y free free' within e =
    let rest = same_front k a b x y free.1 free'.1 (omega arith) (ap (drop 1) e) in
    let head : c ≡ d = ap (λ l. get_or l 0 0) e in
    record { same = (λ i. head i ∷ rest.same i); left = rest.left; count = omega (arith, rest.count); rest = rest.rest }

short_decimal : (n : ℕ) → n < 2 ^ 64 → length (decimal n) ≤ 20
short_decimal n low = length-decimal-le 20 n (omega arith) (omega arith) low

dashed : (a b c : List ℕ) → a ++ 45 ∷ b ++ 45 ∷ c ≡ a ++ (45 ∷ (b ++ (45 ∷ c)))
dashed a b c = append_assoc a (45 ∷ b) (45 ∷ c)

trash_name-is : (place : EntryKey) (inode : ℕ) → trash_name place inode ≡ take MAX_NAME (decimal place.dir ++ (45 ∷ (decimal inode ++ (45 ∷ place.name))))
unfolding trash_name
trash_name-is place inode = ap (take MAX_NAME) (dashed (decimal place.dir) (decimal inode) place.name)

-- names of inodes of the trash, of which the directory of one is a number of 64 bits
pub trash_name_inode : (place other : EntryKey) (inode j : ℕ) → place.dir < 2 ^ 64 → inode < 2 ^ 64 → j < 2 ^ 64
    → trash_name place inode ≡ trash_name other j → inode ≡ j
trash_name_inode place other inode j low low' low'' e =
    let few = short_decimal place.dir low in
    let first : SameFront MAX_NAME (decimal place.dir) (decimal other.dir) (decimal inode ++ 45 ∷ place.name) (decimal j ++ 45 ∷ other.name) =
    same_front MAX_NAME _ _ _ _ (decimal_free place.dir) (decimal_free other.dir) (omega (arith, few)) (sym (trash_name-is place inode) ∙ e
    ∙ trash_name-is other j) in
    let second = same_front first.left (decimal inode) (decimal j) place.name other.name (decimal_free inode) (decimal_free j)
    (omega (arith, few, first.count, short_decimal inode low')) first.rest in
    decimal_injective inode j low' low'' second.same

-- inodes that are there are numbers of 64 bits
pub inode_low : (s : Shape) (inode : ℕ) → WholeShape s → IsTrue (is_there (s.form inode)) → inode < 2 ^ 64
inode_low s inode whole there = elim (cases_lt inode TRASH_ROOT) [
  | inl less ↦ omega (arith, whole.below inode there (lt-ltb inode TRASH_ROOT less), whole.inodes_end)
  | inr more ↦ elim (cases_eq inode TRASH_ROOT) [
    | inl e ↦ omega arith
    | inr apart ↦
        let hour : IsTrue (is_hour inode) = (whole.hours inode there (lt-ltb TRASH_ROOT inode (omega arith))).0 in
        let last : inode ≤ FIRST_HOUR = leb-true inode FIRST_HOUR (and_parts (nat_lt TRASH_ROOT inode) _ hour).1 in
        omega (arith, last)
  ]
]
