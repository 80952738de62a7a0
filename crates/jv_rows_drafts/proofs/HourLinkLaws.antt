-- The trash has few entries, each the directory of another hour, so that one more can be counted.
use Rattle.std.proofs.Common.{◌≡◌, ◌≢◌, ℕ, zero, suc, ◌+◌, ◌-◌, ◌<◌, ◌≤◌, Bool, true, Option, None, Some, inl, inr, refl, sym, ap, subst, ◌∙◌, arith}
use Rattle.std.specs.Prelude.{◌==◌, ◌&&◌, if◌then◌else◌, nat_lt, nat_le}
use Rattle.std.proofs.lemmas.Bool.{cases_eq, cond-false, ne_eqb, leb-true, and_parts}
use Rattle.jv_model.specs.declared.limits.TheConstants.{TRASH_ROOT}
use Rattle.jv_model.specs.declared.lifetimes.TheConstants.{FIRST_HOUR}
use Rattle.jv_model.specs.promise.FiniteMap.{Map, get, remove, sum_over}
use Rattle.jv_model.specs.promise.tree.Tree.{Tree, EntryKey, entry_key, link_count, name_count}
use Rattle.jv_model.specs.promise.tree.Trash.{hour_of, hour_place}
use Rattle.jv_model.proofs.TestLaws.{at_most_one}
use Rattle.jv_volume.specs.promise.Shape.{NamesHour, shape_of}
use Rattle.jv_volume.proofs.sums.LinkLaws.{within_of, dirs_of, link_count-shape}
use Rattle.jv_volume.proofs.maps.MapLaws.{sum-gone, sum-nothing, remove-absent}
use Rattle.jv_volume.proofs.shapes.ShapeMapLaws.{get-removed, get-remove_apart, same_or_apart}

-- an entry adds nothing to a sum, or is that of an hour below a bound
data AddsFew (n : ℕ) (at : EntryKey) (adds : ℕ) : Type 0 where
  AddsNone : adds ≡ 0 → AddsFew n at adds
  AddsOne : adds ≤ 1 → (hour : ℕ) → hour < n → at ≡ hour_place hour → AddsFew n at adds

module _ (f : EntryKey → ℕ → ℕ) where
  abbrev Few : ℕ → Map entry_key ℕ → Type 0
  Few n m = (at : EntryKey) (inode : ℕ) → get m at ≡ Some inode → AddsFew n at (f at inode)

  none_left : (at : EntryKey) (adds : ℕ) → AddsFew 0 at adds → adds ≡ 0
  none_left at adds (AddsNone is) = is
  none_left at adds (AddsOne one hour less is) = absurd (omega arith)

  fewer : (n : ℕ) (at : EntryKey) (adds : ℕ) → at ≢ hour_place n → AddsFew (suc n) at adds → AddsFew n at adds
  fewer n at adds apart (AddsNone is) = AddsNone is
  fewer n at adds apart (AddsOne one hour less is) =
      AddsOne one hour (below hour less (λ same. apart (is ∙ ap hour_place same))) is
    where
      below : (h : ℕ) → h < suc n → h ≢ n → h < n
      below h small other = omega arith

  one_at_most : (n : ℕ) (at : EntryKey) (adds : ℕ) → AddsFew n at adds → adds ≤ 1
  one_at_most n at adds (AddsNone is) = omega arith
  one_at_most n at adds (AddsOne one hour less is) = one

  few_removed : (n : ℕ) (m : Map entry_key ℕ) → Few (suc n) m → Few n (remove m (hour_place n))
  few_removed n m few at inode there = elim (same_or_apart entry_key at (hour_place n)) [
    | inl same ↦ absurd (gone (sym there ∙ ap (get (remove m (hour_place n))) same ∙ get-removed entry_key m
        (hour_place n)))
    | inr apart ↦ fewer n at (f at inode) apart
        (few at inode (sym (get-remove_apart entry_key m (hour_place n) at apart) ∙ there))
  ]
    where
      gone : ◌≡◌ {A = Option ℕ} (Some inode) None → ⊥
      gone e = cc

  -- as many as the bound says
  sum-few : (n : ℕ) (m : Map entry_key ℕ) → Few n m → sum_over f m ≤ n
  sum-few zero m few = omega (
    arith,
    sum-nothing entry_key f m
        (λ at inode there. none_left at (f at inode) (few at inode there)),
  )
  sum-few (suc n) m few = by_place (sum-few n (remove m (hour_place n)) (few_removed n m few))
      (get m (hour_place n)) refl
    where
      by_place : sum_over f (remove m (hour_place n)) ≤ n → (o : Option ℕ) → get m (hour_place n) ≡ o
          → sum_over f m ≤ suc n
      by_place rest None none = omega (arith, rest, ap (sum_over f) (remove-absent entry_key m (hour_place n) none))
      by_place rest (Some inode) there =
          omega (
            arith,
            rest,
            sum-gone entry_key f m (hour_place n) inode there,
            one_at_most (suc n) (hour_place n) (f (hour_place n) inode)
                (few (hour_place n) inode there),
          )

-- the hours of directories
abbrev hours_end : ℕ
hours_end = 38177489

hour_small : (at : EntryKey) (inode : ℕ) → NamesHour at inode → hour_of inode < hours_end
hour_small at inode n = elim (cases_eq inode FIRST_HOUR) [
  | inl same ↦ subst (λ i. hour_of i < hours_end) (sym same) (omega arith)
  | inr apart ↦
      let high : inode ≤ FIRST_HOUR =
      leb-true inode FIRST_HOUR (and_parts (nat_lt TRASH_ROOT inode) (nat_le inode FIRST_HOUR) n.hour).1 in
      let is : hour_of inode ≡ inode - TRASH_ROOT = cond-false _ _ _ (ne_eqb inode FIRST_HOUR apart) in
      omega (arith, high, is)
]

adds_few : (dirs : ℕ → Bool) (at : EntryKey) (inode : ℕ) → (at.dir ≡ TRASH_ROOT → NamesHour at inode)
    → AddsFew hours_end at (within_of dirs TRASH_ROOT at inode)
adds_few dirs at inode hours = elim (cases_eq at.dir TRASH_ROOT) [
  | inl same ↦
      let n = hours same in
      AddsOne (at_most_one (at.dir == TRASH_ROOT && dirs inode)) (hour_of inode) (hour_small at inode n)
      (λ i. record { dir = same i; name = n.name i })
  | inr apart ↦ AddsNone (ap (λ b. if b && dirs inode then 1 else 0) (ne_eqb at.dir TRASH_ROOT apart))
]

-- the trash has links to spare
pub trash_links : (t : Tree) → ((at : EntryKey) (inode : ℕ) → get t.entries at ≡ Some inode → at.dir ≡ TRASH_ROOT
    → NamesHour at inode)
    → dirs_of (shape_of t) TRASH_ROOT ≡ true → link_count t TRASH_ROOT ≤ 38177491
trash_links t hours trash =
    let dirs = dirs_of (shape_of t) in
    let few = sum-few (within_of dirs TRASH_ROOT) hours_end t.entries
    (λ at inode there. adds_few dirs at inode (hours at inode there)) in
    let counted = link_count-shape t TRASH_ROOT
    ∙ ap (λ b. if b then 2 + sum_over (within_of dirs TRASH_ROOT) t.entries else name_count t.entries TRASH_ROOT) trash in
    omega (arith, few, counted)
