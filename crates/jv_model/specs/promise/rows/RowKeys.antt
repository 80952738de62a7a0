-- The keys of rows in their order, and rows as a finite map.
use Rattle.std.specs.Prelude.{◌≡◌, ℕ, List, Bool}
use Rattle.std.proofs.Common.{refl, sym, subst, T}
use Rattle.std.specs.declared.cmp.Ordering.{Ordering}
use Rattle.std.specs.declared.cmp.Ordering.TheVariants.{Less, Equal, Greater}
use Rattle.std.specs.Ordering.{nat_cmp, ordering_then, is_eq, eq_by_cmp}
use Rattle.std.specs.Cmp.{IsTotalOrder, nat_cmp_total, on_total, then_total}
use Rattle.std.specs.Cmp.Lexicographic.{slice_cmp, nat_list_cmp_total}
use Rattle.std.specs.FinMap.{nat_cmp-IsAntisymmetric, slice_cmp-IsAntisymmetric}
use Rattle.jv_model.specs.declared.row.RowKey.{RowKey}
use Rattle.jv_model.specs.promise.FiniteMap.{KeyOrder, Map}

-- keys go by table, then by number, then by bytes as words in a dictionary
abbrev pub row_cmp : RowKey → RowKey → Ordering
row_cmp x y =
    ordering_then (nat_cmp x.tab y.tab) (ordering_then (nat_cmp x.a y.a)
    (slice_cmp nat_cmp x.b y.b))

pub row_cmp_total : IsTotalOrder row_cmp
row_cmp_total =
    then_total (on_total (λ (k : RowKey). k.tab) nat_cmp_total)
    (then_total (on_total (λ (k : RowKey). k.a) nat_cmp_total)
    (on_total (λ (k : RowKey). k.b) nat_list_cmp_total))

-- both parts tie where one after the other does
pub both_tie : (o p : Ordering) → ordering_then o p ≡ Equal → (o ≡ Equal) × (p ≡ Equal)
both_tie Less p h = absurd (subst (λ r. T (is_eq r)) (sym h) tt)
both_tie Equal p h = (refl, h)
both_tie Greater p h = absurd (subst (λ r. T (is_eq r)) (sym h) tt)

-- only equal keys tie
pub row_cmp_same : (x y : RowKey) → row_cmp x y ≡ Equal → x ≡ y
row_cmp_same x y h =
    let first = both_tie _ _ h in
    let second = both_tie _ _ first.1 in
    let tab = nat_cmp-IsAntisymmetric x.tab y.tab first.0 in
    let a = nat_cmp-IsAntisymmetric x.a y.a second.0 in
    let b = slice_cmp-IsAntisymmetric nat_cmp-IsAntisymmetric x.b y.b second.1 in
    λ i. record { tab = tab i; a = a i; b = b i }

-- whether two keys are one
abbrev pub is_key_of : RowKey → RowKey → Bool
is_key_of x y = eq_by_cmp row_cmp x y

abbrev pub row_key : KeyOrder RowKey
row_key = record { cmp = row_cmp; total = row_cmp_total; same = row_cmp_same }

-- rows: the bytes at each key
abbrev pub RowMap : Type 0
RowMap = Map row_key (List ℕ)
