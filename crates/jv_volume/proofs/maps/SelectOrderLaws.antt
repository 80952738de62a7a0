-- A table's rows as a map of their own have the order of the rows: a scan of the table goes over the map.
use Rattle.std.proofs.Common.{◌≡◌, Bool, true, false, T, ◌&&◌, List, [], ◌∷◌, Option, None, Some, refl, ap, ◌∙◌}
use Rattle.std.proofs.lemmas.Option.{same_Some}
use Rattle.std.specs.declared.cmp.Ordering.{Ordering}
use Rattle.std.specs.declared.cmp.Ordering.TheVariants.{Less}
use Rattle.std.specs.Ordering.{is_lt}
use Rattle.std.specs.FinMap.Entries.{put, below_all, is_sorted}
use Rattle.jv_model.specs.declared.row.RowKey.{RowKey}
use Rattle.jv_model.specs.declared.row.Row.{Row}
use Rattle.jv_model.specs.promise.FiniteMap.{KeyOrder, first_passing, first_where, insert, map_of}
use Rattle.jv_model.specs.promise.rows.RowKeys.{row_cmp}
use Rattle.jv_model.specs.promise.rows.RowPlaces.{edge_key}
use Rattle.jv_model.specs.promise.tree.Tree.{entry_key}
use Rattle.jv_model.proofs.TestLaws.{first_of_both, second_of_both, less_is}
use Rattle.jv_model.proofs.FiniteMapLaws.{put_first}
use Rattle.jv_volume.specs.promise.TypedRows.{Cell, Rows}
use Rattle.jv_volume.specs.promise.Views.{row_in}
use Rattle.jv_volume.specs.promise.TreeOf.{entry_selected, entries_selected, selected, entry_of_key}
use Rattle.jv_volume.proofs.maps.TableLaws.{entry_table}

-- rows of the table have the order of their keys there
abbrev pub Rises : {K : Type 0} → KeyOrder K → (RowKey → Option K) → Type 0
Rises {K} order key_of = (q r : RowKey) (k j : K) → key_of q ≡ Some k → key_of r ≡ Some j → row_cmp q r ≡ Less → order.cmp k j ≡ Less

is_less : (o : Ordering) → o ≡ Less → is_lt o ≡ true
is_less o e = ap is_lt e

both_hold : (a b : Bool) → a ≡ true → T b → T (a && b)
both_hold true b e p = p
both_hold false b e p = absurd (cc)

module _ {K X : Type 0} (order : KeyOrder K) (key_of : RowKey → Option K) (value_of : K → Option Row → Option X) (rises : Rises order key_of) where
  below_entry : (q : RowKey) (k : K) → key_of q ≡ Some k → (r : RowKey) (cell : Cell) (others : List (K × X)) → row_cmp q r ≡ Less
      → T (below_all order.cmp k others)
      → (o : Option K) → key_of r ≡ o → T (below_all order.cmp k (entry_selected value_of o cell others))
  below_entry q k is r cell others less below None e = below
  below_entry q k is r cell others less below (Some j) e =
      elim (value_of j (row_in (Some cell))) as (λ x. T (below_all order.cmp k (elim x [ None ↦ others | Some x ↦ (j, x) ∷ others ]))) [
        | None ↦ below
        | Some x ↦ both_hold (is_lt (order.cmp k j)) (below_all order.cmp k others) (is_less (order.cmp k j) (rises q r k j is e less)) below
      ]

  below_selected : (q : RowKey) (k : K) → key_of q ≡ Some k → (es : List (RowKey × Cell)) → T (below_all row_cmp q es)
      → T (below_all order.cmp k (entries_selected key_of value_of es))
  below_selected q k is [] below = tt
  below_selected q k is (e ∷ es) below =
      below_entry q k is e.0 e.1 (entries_selected key_of value_of es) (less_is (row_cmp q e.0) (first_of_both _ _ below))
      (below_selected q k is es (second_of_both _ _ below)) (key_of e.0) refl

  map_list : List (K × X) → List (K × X)
  map_list es = (map_of {order = order} es).list

  listed_entry : (e : RowKey × Cell) (others : List (K × X)) (o : Option K) → map_list others ≡ others
      → ((k : K) → o ≡ Some k → T (below_all order.cmp k others))
      → map_list (entry_selected value_of o e.1 others) ≡ entry_selected value_of o e.1 others
  unfolding map_list insert
  listed_entry e others None rest below = rest
  listed_entry e others (Some k) rest below =
      elim (value_of k (row_in (Some e.1))) as (λ x. map_list (elim x [ None ↦ others | Some x ↦ (k, x) ∷ others ])
      ≡ elim x [ None ↦ others | Some x ↦ (k, x) ∷ others ]) [
        | None ↦ rest
        | Some x ↦ ap (put order.cmp k x) rest ∙ put_first order k x others (below k refl)
      ]

  listed : (es : List (RowKey × Cell)) → T (is_sorted row_cmp es) → map_list (entries_selected key_of value_of es) ≡ entries_selected key_of value_of es
  unfolding map_list
  listed [] sorted = refl
  listed (e ∷ es) sorted =
      listed_entry e (entries_selected key_of value_of es) (key_of e.0) (listed es (second_of_both _ _ sorted))
      (λ k is. below_selected e.0 k is es (first_of_both _ _ sorted))

  -- the entries of the map are those of the rows, in the order of rows
  pub selected-list : (rows : Rows) → (selected {order = order} key_of value_of rows).list ≡ entries_selected key_of value_of rows.list
  unfolding selected map_list
  selected-list rows = listed rows.list rows.sorted

  -- so the first entry that passes a test is the first row's that does
  pub first_where-selected : (test : K → X → Bool) (rows : Rows)
      → first_where test (selected {order = order} key_of value_of rows) ≡ first_passing test (entries_selected key_of value_of rows.list)
  unfolding first_where
  first_where-selected test rows = ap (first_passing test) (selected-list rows)

-- ---- tables in order

-- edges have the order of their directories, and then of their names
pub entry_rises : Rises entry_key entry_of_key
entry_rises q r k j is also less =
    let as_entry : edge_key k.dir k.name ≡ q = same_Some _ _ (entry_table.there q k is) in
    let other : edge_key j.dir j.name ≡ r = same_Some _ _ (entry_table.there r j also) in
    let both : row_cmp (edge_key k.dir k.name) (edge_key j.dir j.name) ≡ Less = (λ i. row_cmp (as_entry i) (other i)) ∙ less in
    both
