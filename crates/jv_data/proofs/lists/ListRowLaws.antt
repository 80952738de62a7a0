-- What a change of a row does to lists and to how often slices are named: the row of a list, and any other.
use Rattle.std.proofs.Common.{◌≡◌, ◌≢◌, ℕ, ◌+◌, ◌<◌, ◌^◌, Bool, true, false, inl, inr, List, [], length, Option, refl, sym, ap, subst, ◌∙◌, arith, lt-ltb, eq-eqb, ne_eqb}
use Rattle.std.proofs.lemmas.Bool.{cases_eq, cond-true, cond-false}
use Rattle.std.proofs.lemmas.Nat.{from_be_bytes-to_be_bytes_4}
use Rattle.std.specs.Int.{w32, from_be_bytes}
use Rattle.std.specs.Prelude.{◌==◌, nat_lt, if◌then◌else◌}
use Rattle.std.specs.List.{AllByRecursion}
use Rattle.jv_model.specs.declared.tables.TheConstants.{TABLE_OF_LISTS}
use Rattle.jv_model.specs.declared.row.RowKey.{RowKey}
use Rattle.jv_model.specs.declared.slice.Rec.{Rec}
use Rattle.jv_model.specs.promise.FiniteMap.{get}
use Rattle.jv_model.specs.FiniteMap.{alter}
use Rattle.jv_model.specs.promise.rows.RowFields.{word}
use Rattle.jv_model.specs.promise.rows.RowKeys.{row_key}
use Rattle.jv_model.specs.promise.rows.RowPlaces.{list_key}
use Rattle.jv_volume.specs.promise.TypedRows.{Cell, Rows}
use Rattle.jv_volume.specs.promise.Views.{row_in, records_in, lists_of}
use Rattle.jv_volume.specs.promise.Slices.{listed, records_naming, named_by, ListsHave}
use Rattle.jv_volume.proofs.maps.MapLaws.{get-alter-here, get-alter-apart}
use Rattle.jv_volume.proofs.shapes.ShapeMapLaws.{same_or_apart}
use Rattle.jv_volume_bytes.specs.Places.{with_list}
use Rattle.jv_volume_bytes.specs.promise.Counts.{record_count}
use Rattle.jv_volume.proofs.sums.ListSumLaws.{not_list, sum-list}

-- a row of another table
pub get-other : (rows : Rows) (key : RowKey) (cell : Option Cell) (k : RowKey) → (k.tab == key.tab) ≡ false → get (alter rows key cell) k ≡ get rows k
get-other rows key cell k other = get-alter-apart row_key rows key cell k
    (λ same. let both : true ≡ false = sym (eq-eqb k.tab key.tab (ap (λ (x : RowKey). x.tab) same)) ∙ other in absurd (cc))

-- ---- numbers over all lists

-- another table's row changes neither
pub named_by-other : (rows : Rows) (key : RowKey) (cell : Option Cell) → (key.tab == TABLE_OF_LISTS) ≡ false → (id : ℕ)
    → named_by (alter rows key cell) id ≡ named_by rows id
unfolding named_by
named_by-other rows key cell other id =
    let all = sum-list (records_naming id) refl rows key cell in
    let was = ap (records_naming id) (not_list key (get rows key) other) in
    let is = ap (records_naming id) (not_list key cell other) in
    omega (arith, all, was, is)

pub record_count-other : (rows : Rows) (key : RowKey) (cell : Option Cell) → (key.tab == TABLE_OF_LISTS) ≡ false
    → record_count (alter rows key cell) ≡ record_count rows
unfolding record_count
record_count-other rows key cell other =
    let all = sum-list length refl rows key cell in
    let was = ap (λ (l : List Rec). length l) (not_list key (get rows key) other) in
    let is = ap (λ (l : List Rec). length l) (not_list key cell other) in
    omega (arith, all, was, is)

pub lists_of-other : (rows : Rows) (key : RowKey) (cell : Option Cell) → (key.tab == TABLE_OF_LISTS) ≡ false → (inode window : ℕ)
    → lists_of (alter rows key cell) inode window ≡ lists_of rows inode window
unfolding lists_of
lists_of-other rows key cell other inode window =
    ap (λ c. if nat_lt window (2 ^ 32) then records_in (row_in c) else []) (get-alter-apart row_key rows key cell (list_key inode window) apart)
  where
    apart : list_key inode window ≢ key
    apart same = (let is : true ≡ false = ap (λ (k : RowKey). k.tab == TABLE_OF_LISTS) same ∙ other in absurd (cc))

pub listed-other : (P : Rec → Type 0) (rows : Rows) (key : RowKey) (cell : Option Cell) → (key.tab == TABLE_OF_LISTS) ≡ false
    → ListsHave P rows → ListsHave P (alter rows key cell)
listed-other P rows key cell other all k = elim (same_or_apart row_key k key) [
  | inl same ↦ subst (AllByRecursion P) (sym (ap (λ (x : RowKey). listed x (get (alter rows key cell) k)) same ∙ not_list key (get (alter rows key cell) k) other)) tt
  | inr apart ↦ subst (AllByRecursion P) (sym (ap (listed k) (get-alter-apart row_key rows key cell k apart))) (all k)
]

-- ---- the row of a list

-- what each record of each list has, those of a window have
pub lists-have : (P : Rec → Type 0) (rows : Rows) (inode window : ℕ) → ListsHave P rows → AllByRecursion P (lists_of rows inode window)
unfolding lists_of
lists-have P rows inode window all = either (nat_lt window (2 ^ 32))
  where
    either : (b : Bool) → AllByRecursion P (if b then records_in (row_in (get rows (list_key inode window))) else [])
    either true = all (list_key inode window)
    either false = tt

same_window : (a b : ℕ) → a < 2 ^ 32 → b < 2 ^ 32 → word a ≡ word b → a ≡ b
same_window a b low high e = sym (from_be_bytes-to_be_bytes_4 a low) ∙ ap (from_be_bytes w32) e ∙ from_be_bytes-to_be_bytes_4 b high

module _ (rows : Rows) (inode window : ℕ) (low : window < 2 ^ 32) (cell : Option Cell) where
  abbrev key : RowKey
  key = list_key inode window

  abbrev after : Rows
  after = alter rows key cell

  abbrev new : List Rec
  new = records_in (row_in cell)

  pub list_is : lists_of rows inode window ≡ records_in (row_in (get rows key))
  unfolding lists_of
  list_is = cond-true _ _ _ (lt-ltb window (2 ^ 32) low)

  pub named_by-list : (id : ℕ) → named_by after id + records_naming id (lists_of rows inode window) ≡ named_by rows id + records_naming id new
  unfolding named_by
  named_by-list id =
      let all = sum-list (records_naming id) refl rows key cell in
      let was = ap (records_naming id) list_is in
      omega (arith, all, was)

  pub record_count-list : record_count after + length (lists_of rows inode window) ≡ record_count rows + length new
  unfolding record_count
  record_count-list =
      let all = sum-list length refl rows key cell in
      let was = ap (λ (l : List Rec). length l) list_is in
      omega (arith, all, was)

  pub listed-list : (P : Rec → Type 0) → ListsHave P rows → AllByRecursion P new → ListsHave P after
  listed-list P all here k = elim (same_or_apart row_key k key) [
    | inl same ↦ subst (λ (x : RowKey). AllByRecursion P (listed x (get after x))) (sym same)
        (subst (λ c. AllByRecursion P (records_in (row_in c))) (sym (get-alter-here row_key rows key cell)) here)
    | inr apart ↦ subst (AllByRecursion P) (sym (ap (listed k) (get-alter-apart row_key rows key cell k apart))) (all k)
  ]

  pub lists_of-list : (u : ℕ) → lists_of after inode u ≡ with_list window new (lists_of rows inode) u
  unfolding lists_of
  lists_of-list u = elim (cases_eq u window) [
    | inl same ↦ ap (λ c. if nat_lt u (2 ^ 32) then records_in (row_in c) else []) (ap (λ n. get after (list_key inode n)) same ∙ get-alter-here row_key rows key cell)
        ∙ cond-true _ _ _ (lt-ltb u (2 ^ 32) (subst (λ n. n < 2 ^ 32) (sym same) low))
        ∙ sym (cond-true _ _ _ (eq-eqb u window same))
    | inr apart ↦ by_range (nat_lt u (2 ^ 32)) refl apart ∙ sym (cond-false _ _ _ (ne_eqb u window apart))
  ]
    where
      by_range : (b : Bool) → nat_lt u (2 ^ 32) ≡ b → u ≢ window
          → (if nat_lt u (2 ^ 32) then records_in (row_in (get after (list_key inode u))) else [])
          ≡ (if nat_lt u (2 ^ 32) then records_in (row_in (get rows (list_key inode u))) else [])
      by_range true e apart = ap (λ c. if nat_lt u (2 ^ 32) then records_in (row_in c) else []) (get-alter-apart row_key rows key cell (list_key inode u)
          (λ same. apart (same_window u window (let lt : nat_lt u (2 ^ 32) ≡ true = e in grind (arith, lt)) low (ap (λ (k : RowKey). k.b) same))))
      by_range false e apart = cond-false _ _ _ e ∙ sym (cond-false _ _ _ e)

  pub lists_of-beside : (other u : ℕ) → other ≢ inode → lists_of after other u ≡ lists_of rows other u
  unfolding lists_of
  lists_of-beside other u apart = ap (λ c. if nat_lt u (2 ^ 32) then records_in (row_in c) else []) (get-alter-apart row_key rows key cell (list_key other u)
      (λ same. apart (ap (λ (k : RowKey). k.a) same)))
