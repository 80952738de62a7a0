-- Rows that a transaction on a file's bytes may not change stand as before: those of its other tables, and other files' rows and lists.
use Rattle.std.proofs.Common.{◌≡◌, ◌≢◌, ℕ, ◌⊎◌, inl, inr, Bool, true, false, List, Option, Some, refl, sym, ap, subst, ◌∙◌}
use Rattle.std.specs.Prelude.{◌==◌, ◌&&◌, ◌||◌}
use Rattle.std.proofs.lemmas.Bool.{cases_eq, eq-eqb, eqb-true, ne_eqb, or_parts}
use Rattle.std.proofs.lemmas.Option.{same_Some}
use Rattle.jv_model.specs.declared.tables.TheConstants.{TABLE_OF_LISTS, TABLE_OF_COUNTERS, TABLE_OF_SLICES, TABLE_OF_DEAD, TABLE_OF_NODES}
use Rattle.jv_model.specs.declared.row.Counters.{Counters}
use Rattle.jv_model.specs.declared.row.Node.{Node as NodeRow}
use Rattle.jv_model.specs.declared.row.RowKey.{RowKey}
use Rattle.jv_model.specs.promise.FiniteMap.{get}
use Rattle.jv_model.specs.promise.rows.RowKeys.{RowMap}
use Rattle.jv_model.specs.promise.rows.RowPlaces.{counters_key, dropped_key, node_key}
use Rattle.jv_outside.specs.declared.batch.Change.{Change}
use Rattle.jv_outside.specs.promise.Rows.{applied}
use Rattle.jv_rows.specs.Drafts.{drafted}
use Rattle.jv_volume.specs.promise.TypedRows.{Rows, typed}
use Rattle.jv_volume.specs.promise.Views.{row_in, node_in, node_row_at, counters_at}
use Rattle.jv_volume.specs.Whole.{FilesDrop, is_of_slices, left_by}
use Rattle.jv_volume.specs.promise.Whole.{Whole}
use Rattle.jv_volume.proofs.stored.QuietLaws.{drop-beside, drop-none}
use Rattle.jv_data.specs.Changing.{may_change}
use Rattle.jv_data.proofs.files.SizedLaws.{sized_rows, kept-sized}

-- such a row is of no table of slices, or in the list of another file
rest_parts : (inode : ℕ) (key : RowKey) → may_change inode key ≡ false → (is_of_slices key.tab ≡ false) ⊎ ((key.tab ≡ TABLE_OF_LISTS) × (key.a ≢ inode))
rest_parts inode key other = by_tab (key.tab == TABLE_OF_LISTS) refl
  where
    first : ((((key.tab == TABLE_OF_COUNTERS) || (key.tab == TABLE_OF_SLICES)) || (key.tab == TABLE_OF_DEAD)) ≡ false) × ((((key.tab == TABLE_OF_LISTS) || (key.tab == TABLE_OF_NODES)) && (key.a == inode)) ≡ false)
    first = or_parts (((key.tab == TABLE_OF_COUNTERS) || (key.tab == TABLE_OF_SLICES)) || (key.tab == TABLE_OF_DEAD)) (((key.tab == TABLE_OF_LISTS) || (key.tab == TABLE_OF_NODES)) && (key.a == inode)) other

    second : (((key.tab == TABLE_OF_COUNTERS) || (key.tab == TABLE_OF_SLICES)) ≡ false) × ((key.tab == TABLE_OF_DEAD) ≡ false)
    second = or_parts ((key.tab == TABLE_OF_COUNTERS) || (key.tab == TABLE_OF_SLICES)) (key.tab == TABLE_OF_DEAD) first.0

    third : ((key.tab == TABLE_OF_COUNTERS) ≡ false) × ((key.tab == TABLE_OF_SLICES) ≡ false)
    third = or_parts (key.tab == TABLE_OF_COUNTERS) (key.tab == TABLE_OF_SLICES) second.0

    by_tab : (b : Bool) → (key.tab == TABLE_OF_LISTS) ≡ b → (is_of_slices key.tab ≡ false) ⊎ ((key.tab ≡ TABLE_OF_LISTS) × (key.a ≢ inode))
    by_tab false e = inl (λ i. (e i || third.1 i) || second.1 i)
    by_tab true e = inr (
      eqb-true key.tab TABLE_OF_LISTS e,
      λ same.
          let named : (((key.tab == TABLE_OF_LISTS) || (key.tab == TABLE_OF_NODES)) && (key.a == inode)) ≡ true = λ i. (e i || (key.tab == TABLE_OF_NODES)) && eq-eqb key.a inode same i in
          let both : true ≡ false = sym named ∙ first.1 in
          absurd (cc),
    )

module _ (rows : Rows) (inode : ℕ) (was : NodeRow) (c : Counters) (now length : ℕ) (whole : Whole rows)
    (there : node_row_at rows inode ≡ Some was) (file : was.kind ≡ 1) (counters : counters_at rows ≡ Some c) where
  abbrev middle : Rows
  middle = sized_rows rows inode was c now length whole there file counters

  pub rest-sized : (key : RowKey) → may_change inode key ≡ false → get middle key ≡ get rows key
  rest-sized key other = kept-sized rows inode was c now length whole there file counters key not_node not_counters
    where
      not_node : key ≢ node_key inode
      not_node same =
          let here : (inode == inode) ≡ true = eq-eqb inode inode refl in
          let none : (inode == inode) ≡ false = sym (ap (may_change inode) same) ∙ other in
          let both : true ≡ false = sym here ∙ none in
          absurd (cc)

      not_counters : key ≢ counters_key
      not_counters same = (let both : true ≡ false = sym (ap (may_change inode) same) ∙ other in absurd (cc))

  -- and a change of slices and of the file's lists leaves them so
  pub rest-then : (last : Rows) → ((key : RowKey) → is_of_slices key.tab ≡ false → get last key ≡ get middle key)
      → ((key : RowKey) → key.tab ≡ TABLE_OF_LISTS → key.a ≢ inode → get last key ≡ get middle key)
      → (key : RowKey) → may_change inode key ≡ false → get last key ≡ get rows key
  rest-then last rest lists key other = by_parts (rest_parts inode key other) ∙ rest-sized key other
    where
      by_parts : (is_of_slices key.tab ≡ false) ⊎ ((key.tab ≡ TABLE_OF_LISTS) × (key.a ≢ inode)) → get last key ≡ get middle key
      by_parts (inl no_slices) = rest key no_slices
      by_parts (inr list) = lists key list.0 list.1

-- no file goes where only the rows that may change do, and the file's node is there
pub drops-rest : (rows after : Rows) (inode : ℕ) (row : NodeRow) → ((key : RowKey) → may_change inode key ≡ false → get after key ≡ get rows key)
    → node_row_at after inode ≡ Some row
    → FilesDrop rows after
drops-rest rows after inode row rest node i = elim (cases_eq i inode) [
  | inl same ↦ rest (dropped_key i) refl ∙ sym (ap (λ n. left_by (node_row_at rows i) n (get rows (dropped_key i))) (ap (node_row_at after) same ∙ node))
  | inr apart ↦ drop-beside rows rows after (drop-none rows) i (ap (λ c. node_in (row_in c)) (rest (node_key i) (ne_eqb i inode apart))) (rest (dropped_key i) refl)
]

-- what holds of rows with changes holds of the rows that are left
pub of_left : (P : Rows → Type 0) (changes : List Change) (known left : RowMap) (rows : Option RowMap) → rows ≡ Some (applied changes known) → rows ≡ Some left
    → P (drafted changes known) → P (typed left)
unfolding drafted
of_left P changes known left rows stands here p = subst (λ (r : RowMap). P (typed r)) (same_Some (applied changes known) left (sym stands ∙ here)) p
