-- A table's rows as a map of their own: what it answers at a key, and what a put or a delete does to it.
use Rattle.std.proofs.Common.{◌≡◌, Bool, true, false, cond, T, List, [], ◌∷◌, Option, None, Some, option_and_then, refl, sym, ap, subst, ◌∙◌, true≢false}
use Rattle.std.proofs.lemmas.Option.{same_Some}
use Rattle.std.specs.Ordering.{eq_by_cmp}
use Rattle.std.specs.FinMap.Entries.{find, below_all, is_sorted}
use Rattle.jv_model.specs.declared.row.RowKey.{RowKey}
use Rattle.jv_model.specs.declared.row.Row.{Row}
use Rattle.jv_model.specs.promise.FiniteMap.{KeyOrder, get}
use Rattle.jv_model.specs.FiniteMap.{alter}
use Rattle.jv_model.specs.promise.rows.RowKeys.{row_key, row_cmp}
use Rattle.jv_model.proofs.FiniteMapLaws.{get-alter, get-map_of, same_maps, find-below_all}
use Rattle.jv_model.proofs.TestLaws.{first_of_both, second_of_both}
use Rattle.jv_volume.specs.promise.TypedRows.{Cell, Rows}
use Rattle.jv_volume.specs.promise.Views.{row_in, row_at}
use Rattle.jv_volume.specs.promise.TreeOf.{entry_selected, entries_selected, selected}
use Rattle.jv_volume.proofs.maps.MapLaws.{key_ties, get-alter-here, get-alter-apart}
use Rattle.jv_volume.proofs.shapes.ShapeMapLaws.{tied_here, tied_same, tied_apart}

-- A table: which rows are of it, by which keys, and where the row of a key stands, where it can stand.
pub record IsTable {K : Type 0} (key_of : RowKey → Option K) (place : K → Option RowKey) : Type 0 where
  pub there : (q : RowKey) (k : K) → key_of q ≡ Some k → place k ≡ Some q
  pub back : (q : RowKey) (k : K) → place k ≡ Some q → key_of q ≡ Some k

abbrev value_in : {K X : Type 0} → (K → Option Row → Option X) → K → Option Cell → Option X
value_in value_of k cell = option_and_then (λ c. value_of k (row_in (Some c))) cell

module _ {K X : Type 0} (order : KeyOrder K) (key_of : RowKey → Option K) (value_of : K → Option Row → Option X) where
  -- the entries at a key that the first row doesn't have are the others'
  other_entry : (k : K) (q : RowKey) (cell : Cell) (others : List (K × X)) (o : Option K) → key_of q ≡ o → (key_of q ≡ Some k → ⊥)
      → find order.cmp k (entry_selected value_of o cell others) ≡ find order.cmp k others
  other_entry k q cell others None e apart = refl
  other_entry k q cell others (Some j) e apart =
      elim (value_of j (row_in (Some cell))) as (λ x. find order.cmp k (elim x [ None ↦ others | Some x ↦ (j, x) ∷ others ]) ≡ find order.cmp k others) [
        | None ↦ refl
        | Some x ↦ ap (λ b. cond b (Some x) (find order.cmp k others)) (tied_apart order j k (λ same. apart (e ∙ ap (λ i. Some i) (sym same))))
      ]

  -- no row has the key
  nothing_selected : (k : K) → ((q : RowKey) → key_of q ≡ Some k → ⊥) → (es : List (RowKey × Cell))
      → find order.cmp k (entries_selected key_of value_of es) ≡ None
  nothing_selected k none [] = refl
  nothing_selected k none (e ∷ es) = other_entry k e.0 e.1 _ (key_of e.0) refl (none e.0) ∙ nothing_selected k none es

  module _ (k : K) (at : RowKey) (is : key_of at ≡ Some k) (only : (q : RowKey) → key_of q ≡ Some k → at ≡ q) where
    here : (cell : Cell) (others : List (K × X)) → find order.cmp k others ≡ None
        → find order.cmp k (entry_selected value_of (Some k) cell others) ≡ value_of k (row_in (Some cell))
    here cell others none =
        elim (value_of k (row_in (Some cell))) as (λ x. find order.cmp k (elim x [ None ↦ others | Some x ↦ (k, x) ∷ others ]) ≡ x) [
          | None ↦ none
          | Some x ↦ ap (λ b. cond b (Some x) (find order.cmp k others)) (tied_here order k)
        ]

    found_at : (e : RowKey × Cell) (es : List (RowKey × Cell)) (b : Bool) → eq_by_cmp row_cmp at e.0 ≡ b → T (below_all row_cmp e.0 es)
        → find order.cmp k (entries_selected key_of value_of es) ≡ value_in value_of k (find row_cmp at es)
        → find order.cmp k (entries_selected key_of value_of (e ∷ es)) ≡ value_in value_of k (cond b (Some e.1) (find row_cmp at es))
    found_at e es true p below rest =
        let same : at ≡ e.0 = tied_same row_key e.0 at p in
        let none : find row_cmp at es ≡ None = subst (λ q. find row_cmp q es ≡ None) (sym same) (find-below_all row_key e.0 es below) in
        ap (λ o. find order.cmp k (entry_selected value_of o e.1 (entries_selected key_of value_of es))) (subst (λ q. key_of q ≡ Some k) same is)
        ∙ here e.1 (entries_selected key_of value_of es) (rest ∙ ap (value_in value_of k) none)
    found_at e es false p below rest =
        other_entry k e.0 e.1 _ (key_of e.0) refl (λ has. absurd (not_itself (sym (ap (eq_by_cmp row_cmp at) (only e.0 has)) ∙ tied_here row_key at) p)) ∙ rest
      where
        not_itself : eq_by_cmp row_cmp at e.0 ≡ true → eq_by_cmp row_cmp at e.0 ≡ false → ⊥
        not_itself ties not_ties = cc

    found : (es : List (RowKey × Cell)) → T (is_sorted row_cmp es)
        → find order.cmp k (entries_selected key_of value_of es) ≡ value_in value_of k (find row_cmp at es)
    found [] sorted = refl
    found (e ∷ es) sorted =
        found_at e es (eq_by_cmp row_cmp at e.0) refl (first_of_both _ _ sorted) (found es (second_of_both _ _ sorted))

module _ {K X : Type 0} (order : KeyOrder K) (key_of : RowKey → Option K) (value_of : K → Option Row → Option X) where
  -- what the map of a table answers at a key whose row may stand at one place alone
  pub get-selected-at : (rows : Rows) (k : K) (at : RowKey) → key_of at ≡ Some k → ((q : RowKey) → key_of q ≡ Some k → at ≡ q)
      → get (selected {order = order} key_of value_of rows) k ≡ option_and_then (λ cell. value_of k (row_in (Some cell))) (get rows at)
  unfolding selected get
  get-selected-at rows k at is only =
      get-map_of order (entries_selected key_of value_of rows.list) k ∙ found order key_of value_of k at is only rows.list rows.sorted

  -- what it answers at a key that no row can have
  pub get-selected-none : (rows : Rows) (k : K) → ((q : RowKey) → key_of q ≡ Some k → ⊥) → get (selected {order = order} key_of value_of rows) k ≡ None
  unfolding selected
  get-selected-none rows k none =
      get-map_of order (entries_selected key_of value_of rows.list) k ∙ nothing_selected order key_of value_of k none rows.list

-- Changes of a table, at the key of one of its rows, and at another table's.
module _ {K X : Type 0} (order : KeyOrder K) (key_of : RowKey → Option K) (place : K → Option RowKey) (table : IsTable key_of place)
    (value_of : K → Option Row → Option X) (none : (k : K) → value_of k None ≡ None) where
  -- the value of the row at a place, if there is a place
  abbrev pub value_at : Rows → K → Option RowKey → Option X
  value_at rows k None = None
  value_at rows k (Some q) = value_of k (row_at rows q)

  value_of_cell : (k : K) (cell : Option Cell) → option_and_then (λ c. value_of k (row_in (Some c))) cell ≡ value_of k (row_in cell)
  value_of_cell k None = sym (none k)
  value_of_cell k (Some c) = refl

  get-selected_by : (rows : Rows) (k : K) (o : Option RowKey) → place k ≡ o → get (selected {order = order} key_of value_of rows) k ≡ value_at rows k o
  get-selected_by rows k None e = get-selected-none order key_of value_of rows k (λ q is. let there = table.there q k is in absurd (cc))
  get-selected_by rows k (Some at) e =
      get-selected-at order key_of value_of rows k at (table.back at k e) (λ q is. let there = sym e ∙ table.there q k is in same_Some _ _ there)
      ∙ value_of_cell k (get rows at)

  pub get-selected : (rows : Rows) (k : K) → get (selected {order = order} key_of value_of rows) k ≡ value_at rows k (place k)
  get-selected rows k = get-selected_by rows k (place k) refl

  -- the value at another key stays
  kept : (rows : Rows) (q : RowKey) (cell : Option Cell) (k : K) → (key_of q ≡ Some k → ⊥) → (o : Option RowKey) → place k ≡ o
      → value_at (alter rows q cell) k o ≡ value_at rows k o
  kept rows q cell k apart None e = refl
  kept rows q cell k apart (Some r) e =
      ap (λ c. value_of k (row_in c)) (get-alter-apart row_key rows q cell r (λ same. apart (subst (λ x. key_of x ≡ Some k) same (table.back r k e))))

  kept_at : (rows : Rows) (q : RowKey) (cell : Option Cell) (k : K) → (key_of q ≡ Some k → ⊥)
      → get (selected {order = order} key_of value_of (alter rows q cell)) k ≡ get (selected {order = order} key_of value_of rows) k
  kept_at rows q cell k apart = get-selected (alter rows q cell) k ∙ kept rows q cell k apart (place k) refl ∙ sym (get-selected rows k)

  -- a change at a key of another table leaves it
  pub selected-alter-other : (rows : Rows) (q : RowKey) (cell : Option Cell) → key_of q ≡ None
      → selected {order = order} key_of value_of (alter rows q cell) ≡ selected key_of value_of rows
  selected-alter-other rows q cell other =
      same_maps _ _ (λ k. kept_at rows q cell k (λ is. absurd (cc)))

  changed_at : (rows : Rows) (q : RowKey) (cell : Option Cell) (k j : K) → key_of q ≡ Some k → (b : Bool) → eq_by_cmp order.cmp j k ≡ b
      → get (selected {order = order} key_of value_of (alter rows q cell)) j
      ≡ cond b (value_of k (row_in cell)) (get (selected {order = order} key_of value_of rows) j)
  changed_at rows q cell k j is true e =
      let same : j ≡ k = tied_same order k j e in
      subst (λ i. get (selected {order = order} key_of value_of (alter rows q cell)) i ≡ value_of k (row_in cell)) (sym same)
      (get-selected_by (alter rows q cell) k (Some q) (table.there q k is) ∙ ap (λ c. value_of k (row_in c)) (get-alter-here row_key rows q cell))
  changed_at rows q cell k j is false e =
      kept_at rows q cell j (λ has. not_itself (same_Some _ _ (sym has ∙ is)) e)
    where
      not_itself : j ≡ k → eq_by_cmp order.cmp j k ≡ false → ⊥
      not_itself same apart = absurd (true≢false (sym (key_ties order j k same) ∙ apart))

  -- a change at a row's key is one at the row's key in the table
  pub selected-alter : (rows : Rows) (q : RowKey) (cell : Option Cell) (k : K) → key_of q ≡ Some k
      → selected {order = order} key_of value_of (alter rows q cell) ≡ alter (selected key_of value_of rows) k (value_of k (row_in cell))
  selected-alter rows q cell k is =
      same_maps _ _ (λ j. changed_at rows q cell k j is (eq_by_cmp order.cmp j k) refl
      ∙ sym (get-alter (selected {order = order} key_of value_of rows) k (value_of k (row_in cell)) j))
