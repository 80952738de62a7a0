-- Numbers over all lists, of a function that has nothing for no records: what changes them, and what leaves them as they are.
use Rattle.std.proofs.Common.{◌≡◌, ℕ, ◌+◌, ◌≤◌, Bool, true, false, cond, List, [], Option, None, Some, refl, sym, ap, ◌∙◌, arith}
use Rattle.std.specs.Prelude.{◌==◌, if◌then◌else◌}
use Rattle.jv_model.specs.declared.tables.TheConstants.{TABLE_OF_LISTS}
use Rattle.jv_model.specs.declared.row.RowKey.{RowKey}
use Rattle.jv_model.specs.declared.slice.Rec.{Rec}
use Rattle.jv_model.specs.promise.FiniteMap.{get, retain_keys, sum_over}
use Rattle.jv_model.specs.FiniteMap.{alter}
use Rattle.jv_model.specs.promise.rows.RowKeys.{row_key}
use Rattle.jv_model.proofs.FiniteMapLaws.{share, get-retain_keys, same_maps}
use Rattle.jv_volume.specs.promise.TypedRows.{Cell, Rows}
use Rattle.jv_volume.specs.promise.Views.{row_in, records_in}
use Rattle.jv_volume.specs.promise.Slices.{listed, named_by, records_naming}
use Rattle.jv_volume.proofs.maps.MapLaws.{sum-alter, sum-retain_keys}

abbrev pub is_list_key : RowKey → Bool
is_list_key key = key.tab == TABLE_OF_LISTS

abbrev pub over_lists : (List Rec → ℕ) → RowKey → Cell → ℕ
over_lists f key cell = f (listed key (Some cell))

abbrev pub sum_of : (List Rec → ℕ) → Rows → ℕ
sum_of f rows = sum_over (over_lists f) rows

-- a row of another table has no records
pub not_list : (key : RowKey) (cell : Option Cell) → is_list_key key ≡ false → listed key cell ≡ []
not_list key cell other = ap (λ b. if b then records_in (row_in cell) else []) other

-- nor has what isn't there
pub none_listed : (key : RowKey) → listed key None ≡ []
none_listed key = by_table (is_list_key key)
  where
    by_table : (b : Bool) → (let l : List Rec = (if b then [] else []) in l) ≡ []
    by_table true = refl
    by_table false = refl

module _ (f : List Rec → ℕ) (nothing : f [] ≡ 0) where
  share_is : (key : RowKey) (cell : Option Cell) → share (over_lists f) key cell ≡ f (listed key cell)
  share_is key None = sym (ap f (none_listed key) ∙ nothing)
  share_is key (Some cell) = refl

  -- with another row at one key
  pub sum-list : (rows : Rows) (key : RowKey) (cell : Option Cell)
      → sum_of f (alter rows key cell) + f (listed key (get rows key)) ≡ sum_of f rows + f (listed key cell)
  sum-list rows key cell =
      let all = sum-alter row_key (over_lists f) rows key cell in
      let was = share_is key (get rows key) in
      let is = share_is key cell in
      omega (arith, all, was, is)

  -- a list's number is at most that of all
  pub share-sum : (rows : Rows) (key : RowKey) → f (listed key (get rows key)) ≤ sum_of f rows
  share-sum rows key =
      let all = sum-list rows key None in
      let none = ap f (none_listed key) ∙ nothing in
      omega (arith, all, none)

-- ---- rows with the same lists

module _ (rows after : Rows) (same : (key : RowKey) → is_list_key key ≡ true → get after key ≡ get rows key) where
  pub listed-lists : (key : RowKey) → listed key (get after key) ≡ listed key (get rows key)
  listed-lists key = by_table (is_list_key key) refl
    where
      by_table : (b : Bool) → is_list_key key ≡ b → (if b then records_in (row_in (get after key)) else [])
          ≡ (if b then records_in (row_in (get rows key)) else [])
      by_table true e = ap (λ c. records_in (row_in c)) (same key e)
      by_table false e = refl

  kept_lists : retain_keys is_list_key after ≡ retain_keys is_list_key rows
  kept_lists = same_maps (retain_keys is_list_key after) (retain_keys is_list_key rows) (λ key.
      get-retain_keys after is_list_key key ∙ by_table key (is_list_key key) refl ∙ sym (get-retain_keys rows is_list_key key))
    where
      by_table : (key : RowKey) (b : Bool) → is_list_key key ≡ b → cond b (get after key) None ≡ cond b (get rows key) None
      by_table key true e = same key e
      by_table key false e = refl

  pub sum-lists : (f : List Rec → ℕ) → f [] ≡ 0 → sum_of f after ≡ sum_of f rows
  sum-lists f none =
      sym (sum-retain_keys row_key (over_lists f) is_list_key nothing after) ∙ ap (sum_of f) kept_lists
      ∙ sum-retain_keys row_key (over_lists f) is_list_key nothing rows
    where
      nothing : (key : RowKey) (cell : Cell) → is_list_key key ≡ false → f (listed key (Some cell)) ≡ 0
      nothing key cell other = ap f (not_list key (Some cell) other) ∙ none

  pub named-lists : (id : ℕ) → named_by after id ≡ named_by rows id
  unfolding named_by
  named-lists id = sum-lists (records_naming id) refl
