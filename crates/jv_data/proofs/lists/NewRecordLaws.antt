-- A record of a new slice at the end of a window's list, with the slice's row: what that does to whole rows.
use Rattle.std.proofs.Common.{◌≡◌, ◌≢◌, ℕ, ◌+◌, ◌*◌, ◌<◌, ◌≤◌, ◌^◌, false, cond, inl, inr, List, [], ◌∷◌, ◌++◌, length, Option, None, Some, Ok, refl, sym, ap, subst, ◌∙◌, arith, eq-eqb, ne_eqb, length-append}
use Rattle.std.proofs.lemmas.Bool.{cases_eq, cond-true, cond-false}
use Rattle.std.proofs.lemmas.Bool.Decides.{nat_tests}
use Rattle.std.proofs.lemmas.List.Sums.{sum_by-cons}
use Rattle.std.proofs.lemmas.Option.{same_Some}
use Rattle.std.specs.Prelude.{◌==◌, ◌&&◌, if◌then◌else◌}
use Rattle.std.specs.List.{AllByRecursion}
use Rattle.jv_model.specs.declared.tables.TheConstants.{TABLE_OF_LISTS, TABLE_OF_SLICES}
use Rattle.jv_model.specs.declared.limits.TheConstants.{WINDOW, FULL_COUNT}
use Rattle.jv_model.specs.declared.row.RowKey.{RowKey}
use Rattle.jv_model.specs.declared.row.Node.{Node as NodeRow}
use Rattle.jv_model.specs.declared.row.SliceRow.{SliceRow}
use Rattle.jv_model.specs.declared.row.Row.TheVariants.{OfList, OfSlice}
use Rattle.jv_model.specs.declared.slice.Rec.{Rec}
use Rattle.jv_model.specs.declared.slice.Spot.TheVariants.{Zero}
use Rattle.jv_model.specs.promise.FiniteMap.{get}
use Rattle.jv_model.specs.FiniteMap.{alter}
use Rattle.jv_model.specs.promise.blocks.Slices.{IsRecord, shown}
use Rattle.jv_model.specs.promise.rows.RowKeys.{row_key}
use Rattle.jv_model.specs.promise.rows.RowPlaces.{counters_key, node_key, list_key, slice_key, dropped_key, dead_key}
use Rattle.jv_volume.specs.promise.TypedRows.{Cell, Rows}
use Rattle.jv_volume.specs.promise.Views.{row_in, counters_in, node_in, node_row_at, lists_of, slice_in, slice_row_at, dropped_in, dropped_at, dead_in, dead_at}
use Rattle.jv_volume.specs.promise.TreeOf.{or_no_counters, counters_of_rows}
use Rattle.jv_volume.specs.promise.Slices.{listed, records_naming, named_by, count_in, slice_count, next_slice, place_in, ListsHave, IsUnknown, WholeSlices, HasLists, OfFile, OfDropped, WholeFiles}
use Rattle.jv_volume.proofs.maps.MapLaws.{get-alter-here, get-alter-apart}
use Rattle.jv_volume.proofs.shapes.ShapeMapLaws.{same_or_apart}
use Rattle.jv_volume_bytes.specs.Places.{with_list, put_over}
use Rattle.jv_volume_bytes.specs.promise.Counts.{record_count}
use Rattle.jv_volume_bytes.specs.Counts.{KeepsOthers}
use Rattle.jv_volume_bytes.proofs.BehindLaws.{naming-append}
use Rattle.jv_volume_bytes.proofs.CutLaws.{all-append}
use Rattle.jv_volume_bytes.proofs.WholeLaws.{all-mapped}
use Rattle.jv_volume_bytes.proofs.PlaceLaws.{place_in-push, place_in-same}
use Rattle.jv_volume_bytes.proofs.ByteLaws.{past-put_over}
use Rattle.jv_data.proofs.lists.ListRowLaws.{get-other, named_by-other, record_count-other, lists_of-other, listed-other, named_by-list, record_count-list, lists_of-list, lists_of-beside, listed-list, lists-have}
use Rattle.jv_volume.proofs.sums.ListSumLaws.{share-sum}

-- ---- records that name a slice

one_naming : (id : ℕ) (r : Rec) (l : List Rec) → records_naming id (r ∷ l) ≡ cond (r.id == id) 1 0 + records_naming id l
one_naming id r l = sum_by-cons (λ (r : Rec). cond (r.id == id) 1 0) r l

naming-here : (id : ℕ) (r : Rec) (l : List Rec) → r.id ≡ id → records_naming id (r ∷ l) ≡ 1 + records_naming id l
naming-here id r l same = one_naming id r l ∙ ap (λ b. cond b 1 0 + records_naming id l) (eq-eqb r.id id same)

naming-other : (id : ℕ) (r : Rec) (l : List Rec) → r.id ≢ id → records_naming id (r ∷ l) ≡ records_naming id l
naming-other id r l apart = one_naming id r l ∙ ap (λ b. cond b 1 0 + records_naming id l) (ne_eqb r.id id apart) ∙ omega arith

pub none_naming : (id : ℕ) (l : List Rec) → records_naming id l ≡ 0 → AllByRecursion (λ r. r.id ≢ id) l
none_naming id [] none = tt
none_naming id (r ∷ l) none = elim (cases_eq r.id id) [
  | inl same ↦ (let here = naming-here id r l same in absurd (omega (arith, here, none)))
  | inr apart ↦ (apart, none_naming id l (sym (naming-other id r l apart) ∙ none))
]

pub all_both : (P Q : Rec → Type 0) (l : List Rec) → AllByRecursion P l → AllByRecursion Q l → AllByRecursion (λ r. P r × Q r) l
all_both P Q [] p q = tt
all_both P Q (r ∷ l) p q = ((p.0, q.0), all_both P Q l p.1 q.1)

-- no list has a record that names a slice which no record names
pub unnamed_records : (rows : Rows) (id : ℕ) → named_by rows id ≡ 0 → ListsHave (λ r. r.id ≢ id) rows
unfolding named_by
unnamed_records rows id none key =
    none_naming id (listed key (get rows key)) (let least = share-sum (records_naming id) refl rows key in omega (arith, least, none))

-- the parts of a record
record_parts : (r : Rec) → IsRecord r → r.id ≢ 0 → (1 ≤ r.size)
record_parts r is named = grind (arith, nat_tests)

module _ (rows : Rows) (inode window : ℕ) (low : window < 2 ^ 32) (rec : Rec) (list : List Rec) (list_is : list ≡ lists_of rows inode window)
    (is : IsRecord rec) (some : 0 < rec.id) (small : rec.size ≤ WINDOW) where
  abbrev list_cell : Option Cell
  list_cell = Some (Ok (OfList (list ++ rec ∷ [])))

  abbrev new_slice : SliceRow
  new_slice = record { size = rec.size; count = 1 }

  abbrev slice_cell : Option Cell
  slice_cell = Some (Ok (OfSlice new_slice))

  abbrev listed_rows : Rows
  listed_rows = alter rows (list_key inode window) list_cell

  abbrev pub recorded_rows : Rows
  recorded_rows = alter listed_rows (slice_key rec.id) slice_cell

  named_zero : rec.id ≢ 0
  named_zero e = omega (arith, e, some)

  -- ---- views

  -- a row that is neither a list nor a slice
  pub other_same : (key : RowKey) → (key.tab == TABLE_OF_LISTS) ≡ false → (key.tab == TABLE_OF_SLICES) ≡ false → get recorded_rows key ≡ get rows key
  other_same key no_list no_slice =
      get-other listed_rows (slice_key rec.id) slice_cell key no_slice ∙ get-other rows (list_key inode window) list_cell key no_list

  -- a list of another file
  pub list_beside : (key : RowKey) → key.tab ≡ TABLE_OF_LISTS → key.a ≢ inode → get recorded_rows key ≡ get rows key
  list_beside key four apart = get-other listed_rows (slice_key rec.id) slice_cell key (ap (λ n. n == 5) four)
      ∙ get-alter-apart row_key rows (list_key inode window) list_cell key (λ same. apart (ap (λ (k : RowKey). k.a) same))

  pub slice_there : slice_row_at recorded_rows rec.id ≡ Some new_slice
  slice_there = ap (λ c. slice_in (row_in c)) (get-alter-here row_key listed_rows (slice_key rec.id) slice_cell)

  pub slice_beside : (id : ℕ) → id ≢ rec.id → slice_row_at recorded_rows id ≡ slice_row_at rows id
  slice_beside id apart = ap (λ c. slice_in (row_in c))
      (get-alter-apart row_key listed_rows (slice_key rec.id) slice_cell (slice_key id) (λ same. apart (ap (λ (k : RowKey). k.a) same))
      ∙ get-other rows (list_key inode window) list_cell (slice_key id) refl)

  dead_same : (id : ℕ) → dead_at recorded_rows id ≡ dead_at rows id
  dead_same id = ap (λ c. dead_in (row_in c)) (other_same (dead_key id) refl refl)

  pub counters_same : counters_of_rows recorded_rows ≡ counters_of_rows rows
  counters_same = ap (λ c. or_no_counters (counters_in (row_in c))) (other_same counters_key refl refl)

  pub node_same : (i : ℕ) → node_row_at recorded_rows i ≡ node_row_at rows i
  node_same i = ap (λ c. node_in (row_in c)) (other_same (node_key i) refl refl)

  dropped_same : (i : ℕ) → dropped_at recorded_rows i ≡ dropped_at rows i
  dropped_same i = ap (λ c. dropped_in (row_in c)) (other_same (dropped_key i) refl refl)

  pub lists_here : (u : ℕ) → lists_of recorded_rows inode u ≡ with_list window (list ++ rec ∷ []) (lists_of rows inode) u
  lists_here u = lists_of-other listed_rows (slice_key rec.id) slice_cell refl inode u ∙ lists_of-list rows inode window low list_cell u

  pub lists_beside : (i u : ℕ) → i ≢ inode → lists_of recorded_rows i u ≡ lists_of rows i u
  lists_beside i u apart = lists_of-other listed_rows (slice_key rec.id) slice_cell refl i u ∙ lists_of-beside rows inode window low list_cell i u apart

  -- the list has the record behind it, and every other list is as it was
  pub lists-recorded : (file at : ℕ) → lists_of recorded_rows file at
      ≡ (if (file == inode) && (at == window) then list ++ rec ∷ [] else lists_of rows file at)
  lists-recorded file at = elim (cases_eq file inode) [
    | inl same ↦ ap (λ i. lists_of recorded_rows i at) same ∙ lists_here at
        ∙ (λ i. if sym (eq-eqb file inode same) i && (at == window) then list ++ rec ∷ [] else lists_of rows (sym same i) at)
    | inr apart ↦ lists_beside file at apart ∙ sym (cond-false _ _ _ (ap (λ b. b && (at == window)) (ne_eqb file inode apart)))
  ]

  named_same : (id : ℕ) → named_by recorded_rows id ≡ named_by rows id + records_naming id (rec ∷ [])
  named_same id =
      let put = named_by-list rows inode window low list_cell id in
      let more = naming-append id list (rec ∷ []) in
      let was = ap (records_naming id) list_is in
      named_by-other listed_rows (slice_key rec.id) slice_cell refl id ∙ omega (arith, put, more, was)

  named_here : named_by recorded_rows rec.id ≡ named_by rows rec.id + 1
  named_here = named_same rec.id ∙ ap (λ n. named_by rows rec.id + n) (naming-here rec.id rec [] refl)

  named_beside : (id : ℕ) → id ≢ rec.id → named_by recorded_rows id ≡ named_by rows id
  named_beside id apart = named_same id ∙ ap (λ n. named_by rows id + n) (naming-other id rec [] (λ e. apart (sym e))) ∙ omega arith

  count_more : record_count recorded_rows ≡ record_count rows + 1
  count_more =
      let put = record_count-list rows inode window low list_cell in
      let long = length-append list (rec ∷ []) in
      let was = ap (λ (l : List Rec). length l) list_is in
      record_count-other listed_rows (slice_key rec.id) slice_cell refl ∙ omega (arith, put, long, was)

  -- ---- slices

  -- no slice loses its row
  pub lives-recorded : (id : ℕ) (slice : SliceRow) → slice_row_at rows id ≡ Some slice → slice_row_at recorded_rows id ≡ None → ⊥
  lives-recorded id slice there none = elim (cases_eq id rec.id) [
    | inl same ↦ (let both : Some new_slice ≡ None = sym (ap (slice_row_at recorded_rows) same ∙ slice_there) ∙ none in absurd (cc))
    | inr apart ↦ (let both : Some slice ≡ None = sym (slice_beside id apart ∙ there) ∙ none in absurd (cc))
  ]

  module _ (w : WholeSlices rows) (unknown : IsUnknown rows rec.id) (given : rec.id < next_slice rows) where
    abbrev sizes : ℕ → ℕ
    sizes id = if id == rec.id then rec.size else w.sizes id

    sizes_here : sizes rec.id ≡ rec.size
    sizes_here = cond-true _ _ _ (eq-eqb rec.id rec.id refl)

    sizes_beside : (id : ℕ) → id ≢ rec.id → sizes id ≡ w.sizes id
    sizes_beside id apart = cond-false _ _ _ (ne_eqb id rec.id apart)

    abbrev IsSized : Rec → Type 0
    IsSized r = r.id ≢ 0 → r.size ≡ sizes r.id

    have : (P : Rec → Type 0) → ListsHave P rows → P rec → ListsHave P recorded_rows
    have P all new = listed-other P listed_rows (slice_key rec.id) slice_cell refl
        (listed-list rows inode window low list_cell P all (all-append P list (rec ∷ []) all_here (new, tt)))
      where
        all_here : AllByRecursion P list
        all_here = subst (AllByRecursion P) (sym list_is) (lists-have P rows inode window all)

    sized : ListsHave IsSized recorded_rows
    sized = have IsSized (λ key. all-mapped (λ r. (r.id ≢ 0 → r.size ≡ w.sizes r.id) × (r.id ≢ rec.id)) IsSized
        (λ r p named. p.0 named ∙ sym (sizes_beside r.id p.1)) (listed key (get rows key)) (all_both _ _ (listed key (get rows key)) (w.sized key) (unnamed_records rows rec.id unknown.unnamed key)))
        (λ named. sym sizes_here)

    slice_size : (id : ℕ) (slice : SliceRow) → slice_row_at recorded_rows id ≡ Some slice → (slice.size ≡ sizes id) × (1 ≤ slice.size) × (slice.size ≤ WINDOW)
    slice_size id slice there = elim (cases_eq id rec.id) [
      | inl same ↦ (let one : new_slice ≡ slice = same_Some new_slice slice (sym (ap (slice_row_at recorded_rows) same ∙ slice_there) ∙ there) in
          subst (λ (s : SliceRow). (s.size ≡ sizes id) × (1 ≤ s.size) × (s.size ≤ WINDOW)) one
          (sym (ap sizes same ∙ sizes_here), record_parts rec is named_zero, small))
      | inr apart ↦ (let old = w.slice_size id slice (sym (slice_beside id apart) ∙ there) in (old.0 ∙ sym (sizes_beside id apart), old.1, old.2))
    ]

    exact : (id : ℕ) → 0 < id → slice_count recorded_rows id ≡ named_by recorded_rows id
    exact id positive = elim (cases_eq id rec.id) [
      | inl same ↦ ap count_in (ap (slice_row_at recorded_rows) same ∙ slice_there) ∙ sym (ap (named_by recorded_rows) same ∙ named_here
          ∙ ap (λ n. n + 1) unknown.unnamed)
      | inr apart ↦ ap count_in (slice_beside id apart) ∙ w.exact id positive ∙ sym (named_beside id apart)
    ]

    unknown_still : (id : ℕ) → id ≢ rec.id → IsUnknown rows id → IsUnknown recorded_rows id
    unknown_still id apart old = record {
      unnamed = named_beside id apart ∙ old.unnamed;
      no_row = slice_beside id apart ∙ old.no_row;
      not_dead = dead_same id ∙ old.not_dead;
    }

    pub slices-recorded : WholeSlices recorded_rows
    slices-recorded = record {
      sizes = sizes;
      records = have IsRecord w.records is;
      sized = sized;
      slice_size = slice_size;
      exact = exact;
      dead_size = λ id dead some there. w.dead_size id dead some (sym (dead_same id) ∙ there);
      apart = λ id some there. elim (cases_eq id rec.id) [
        | inl same ↦ absurd (there (dead_same id ∙ ap (dead_at rows) same ∙ unknown.not_dead))
        | inr apart ↦ slice_beside id apart ∙ w.apart id some (λ none. there (dead_same id ∙ none))
      ];
      below = λ id high. (let high_was : next_slice rows ≤ id = subst (λ c. c.slice ≤ id) counters_same high in
          unknown_still id (λ same. absurd (omega (arith, same, high_was, given))) (w.below id high_was));
      none = slice_beside 0 (λ e. named_zero (sym e)) ∙ w.none;
      slices_end = subst (λ c. c.slice ≤ FULL_COUNT) (sym counters_same) w.slices_end;
    }

    -- other slices are kept
    pub others-recorded : KeepsOthers rec.id 1 rows recorded_rows
    others-recorded = record {
      next = ap (λ c. c.slice) counters_same;
      unknown = λ id some apart old. unknown_still id apart old;
      had = λ id slice apart there. record { slice = slice; is = sym (slice_beside id apart) ∙ there; size_is = refl };
      dies = λ id slice some there none. absurd (lives-recorded id slice there none);
      dead = λ id dead some there. dead_same id ∙ there;
      records = (let more = count_more in omega (arith, more));
    }

  -- ---- files

  -- what the file shows
  pub places-recorded : (p : ℕ) → place_in (lists_of recorded_rows inode) p
      ≡ put_over (place_in (lists_of rows inode)) (window * WINDOW + rec.pos) rec.len (shown rec) p
  places-recorded p = place_in-same (lists_of recorded_rows inode) (with_list window (list ++ rec ∷ []) (lists_of rows inode)) lists_here p
      ∙ place_in-push (lists_of rows inode) window list rec list_is is p

  -- and what others show
  pub places-beside : (i : ℕ) → i ≢ inode → (p : ℕ) → place_in (lists_of recorded_rows i) p ≡ place_in (lists_of rows i) p
  places-beside i apart p = place_in-same (lists_of recorded_rows i) (lists_of rows i) (λ u. lists_beside i u apart) p

  module _ (w : WholeFiles rows) (node : NodeRow) (there : node_row_at rows inode ≡ Some node) (file : node.kind ≡ 1)
      (within : window * WINDOW + rec.pos + rec.len ≤ node.length) where
    past : (i : ℕ) (n : NodeRow) → node_row_at recorded_rows i ≡ Some n → n.kind ≡ 1 → (p : ℕ) → n.length ≤ p → place_in (lists_of recorded_rows i) p ≡ Zero
    past i n here kind p high = elim (cases_eq i inode) [
      | inl same ↦ (let one : node ≡ n = same_Some node n (sym there ∙ ap (node_row_at rows) (sym same) ∙ sym (node_same i) ∙ here) in
          ap (λ j. place_in (lists_of recorded_rows j) p) same ∙ places-recorded p
          ∙ past-put_over node.length (place_in (lists_of rows inode)) (w.past inode node there file) (window * WINDOW + rec.pos) rec.len (shown rec) node.length
          (omega arith) within p (subst (λ (m : NodeRow). m.length ≤ p) (sym one) high))
      | inr apart ↦ places-beside i apart p ∙ w.past i n (sym (node_same i) ∙ here) kind p high
    ]

    kept : (i : ℕ) → HasLists rows i → HasLists recorded_rows i
    kept i (OfFile was here kind) = OfFile was (node_same i ∙ here) kind
    kept i (OfDropped here) = OfDropped (λ none. here (sym (dropped_same i) ∙ none))

    owned : (key : RowKey) → key.tab ≡ TABLE_OF_LISTS → get recorded_rows key ≢ None → HasLists recorded_rows key.a
    owned key tab here = elim (same_or_apart row_key key (list_key inode window)) [
      | inl same ↦ subst (λ (k : RowKey). HasLists recorded_rows k.a) (sym same) (OfFile node (node_same inode ∙ there) file)
      | inr apart ↦ kept key.a (w.owned key tab (λ none. here (
          get-other listed_rows (slice_key rec.id) slice_cell key (ap (λ n. n == 5) tab) ∙ get-alter-apart row_key rows (list_key inode window) list_cell key apart ∙ none)))
    ]

    pub files-recorded : WholeFiles recorded_rows
    files-recorded = record {
      small = λ i n here kind. w.small i n (sym (node_same i) ∙ here) kind;
      past = past;
      owned = owned;
      gone = λ i here. (let old = w.gone i (λ none. here (dropped_same i ∙ none)) in
          (node_same i ∙ old.0, subst (λ c. i < c.inode) (sym counters_same) old.1));
    }
