-- What stands at a key of rows that are written out as entries.
use Rattle.std.proofs.Common.{◌≡◌, ◌≢◌, ℕ, Bool, true, false, ◌&&◌, ◌==◌, if◌then◌else◌, inl, inr, List, [], ◌∷◌, None, Some, refl, sym, ap, subst, ◌∙◌}
use Rattle.std.specs.List.{list_all}
use Rattle.std.proofs.lemmas.Option.{none-some}
use Rattle.std.proofs.lemmas.Bool.{and_parts, eqb-false}
use Rattle.jv_model.specs.declared.row.RowKey.{RowKey}
use Rattle.jv_model.specs.promise.FiniteMap.{get, map_of}
use Rattle.jv_model.specs.promise.rows.RowKeys.{row_key}
use Rattle.jv_model.proofs.FiniteMapLaws.{get-empty_map}
use Rattle.jv_volume.specs.promise.TypedRows.{Cell, is_key, is_typed}
use Rattle.jv_volume.specs.promise.Whole.{IsRowAt, is_read_only_if_hour}
use Rattle.jv_volume.proofs.shapes.ShapeMapLaws.{get-insert_apart, was_inserted}

-- the keys of a table among entries
abbrev pub of_table : ℕ → List (RowKey × Cell) → List RowKey
of_table tab [] = []
of_table tab (e ∷ es) = (if e.0.tab == tab then e.0 ∷ of_table tab es else of_table tab es)

-- a key differs from all of these
abbrev pub AllApart : RowKey → List RowKey → Type 0
AllApart key [] = Unit {0}
AllApart key (k ∷ ks) = (key ≢ k) × AllApart key ks

none_by : (tab : ℕ) (key : RowKey) (e : RowKey × Cell) (es : List (RowKey × Cell)) (b : Bool) → (e.0.tab == tab) ≡ b → key.tab ≡ tab
    → (AllApart key (of_table tab es) → get (map_of {order = row_key} es) key ≡ None) → AllApart key (if b then e.0 ∷ of_table tab es else of_table tab es)
    → get (map_of {order = row_key} (e ∷ es)) key ≡ None
none_by tab key e es true t is rest h = get-insert_apart row_key (map_of es) e.0 e.1 key h.0 ∙ rest h.1
none_by tab key e es false t is rest h =
    let apart : key ≢ e.0 = λ same. eqb-false e.0.tab tab t (sym (ap (λ (k : RowKey). k.tab) same) ∙ is) in
    get-insert_apart row_key (map_of es) e.0 e.1 key apart ∙ rest h

-- nothing stands at a key that differs from those of its table
pub none_at : (tab : ℕ) (key : RowKey) (es : List (RowKey × Cell)) → key.tab ≡ tab → AllApart key (of_table tab es)
    → get (map_of {order = row_key} es) key ≡ None
none_at tab key [] is h = get-empty_map row_key key
none_at tab key (e ∷ es) is h = none_by tab key e es (e.0.tab == tab) refl is (none_at tab key es is) h

-- what all entries pass, what stands at a key does
each_passes : (test : RowKey → Cell → Bool) (key : RowKey) (cell : Cell) (es : List (RowKey × Cell)) → list_all (λ e. test e.0 e.1) es ≡ true
    → get (map_of {order = row_key} es) key ≡ Some cell → test key cell ≡ true
each_passes test key cell [] h is = absurd (none-some cell (sym (get-empty_map row_key key) ∙ is))
each_passes test key cell (e ∷ es) h is =
    let both = and_parts (test e.0 e.1) (list_all (λ e. test e.0 e.1) es) h in
    elim (was_inserted row_key (map_of es) e.0 e.1 key cell is) [
      | inl same ↦ subst (λ k. test k cell ≡ true) (sym same.0) (subst (λ x. test e.0 x ≡ true) (sym same.1) both.0)
      | inr rest ↦ each_passes test key cell es both.1 rest.1
    ]

-- a row that may stand at a key
abbrev pub is_row_at : RowKey → Cell → Bool
is_row_at key cell = is_key key && is_typed cell && is_read_only_if_hour key cell

-- where all entries are rows that may stand at their keys, so is what stands at a key
pub rows_at : (es : List (RowKey × Cell)) → list_all (λ e. is_row_at e.0 e.1) es ≡ true → (key : RowKey) (cell : Cell)
    → get (map_of {order = row_key} es) key ≡ Some cell → IsRowAt key cell
rows_at es all key cell is =
    let both = and_parts (is_key key && is_typed cell) (is_read_only_if_hour key cell) (each_passes is_row_at key cell es all is) in
    let row = and_parts (is_key key) (is_typed cell) both.0 in
    record { key_is = row.0; cell_is = row.1; hour = both.1 }
