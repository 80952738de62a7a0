-- What changes of lists, and counts that follow them, do to slices.
use Rattle.std.proofs.Common.{◌≡◌, ◌≢◌, ℕ, ◌+◌, ◌<◌, ◌≤◌, ◌⊎◌, inl, inr, Bool, true, false, cond, true≢false, List, [], ◌∷◌, ◌++◌, length, Option, None, Some, Ok, refl, sym, ap, subst, ◌∙◌, arith}
use Rattle.std.specs.Prelude.{◌==◌, ◌&&◌, ◌||◌, not, nat_le, Contains, if◌then◌else◌, IsTrue}
use Rattle.std.specs.List.{AllByRecursion}
use Rattle.std.specs.Ordering.{eq_by_cmp}
use Rattle.std.proofs.lemmas.Bool.{eq-eqb, ne_eqb, eqb-true, eqb-false, leb-false, and_left}
use Rattle.std.proofs.lemmas.List.{length-append}
use Rattle.std.proofs.lemmas.List.Sums.{count_by-le-length}
use Rattle.std.proofs.lemmas.List.Elements.{recursion_from_All, All-weaker, All-contains_itself}
use Rattle.std.proofs.lemmas.Option.{same_Some}
use Rattle.jv_model.specs.declared.tables.TheConstants.{TABLE_OF_LISTS, TABLE_OF_SLICES, TABLE_OF_DEAD}
use Rattle.jv_model.specs.declared.limits.TheConstants.{FULL_COUNT}
use Rattle.jv_model.specs.declared.row.RowKey.{RowKey}
use Rattle.jv_model.specs.declared.row.Row.TheVariants.{OfSlice, OfDead}
use Rattle.jv_model.specs.declared.row.SliceRow.{SliceRow}
use Rattle.jv_model.specs.declared.row.Dead.{Dead}
use Rattle.jv_model.specs.declared.slice.Rec.{Rec}
use Rattle.jv_model.specs.promise.FiniteMap.{get, retain_keys, sum_over, total_over}
use Rattle.jv_model.specs.FiniteMap.{alter}
use Rattle.jv_model.specs.promise.rows.RowKeys.{row_key, row_cmp}
use Rattle.jv_model.specs.promise.rows.RowPlaces.{counters_key, slice_key, dead_key}
use Rattle.jv_model.specs.promise.blocks.Slices.{IsRecord}
use Rattle.jv_model.proofs.FiniteMapLaws.{share, get-alter, get-retain_keys, same_maps, sum-insert, sum-remove}
use Rattle.jv_model.specs.promise.Lists.{is_nil}
use Rattle.jv_volume.specs.promise.TypedRows.{Cell, Rows}
use Rattle.jv_volume.specs.promise.Views.{row_in, records_in, counters_in, slice_in, slice_row_at, dead_in, dead_at}
use Rattle.jv_volume.specs.promise.TreeOf.{or_no_counters}
use Rattle.jv_volume.specs.promise.Slices.{listed, records_naming, named_by, count_in, slice_count, ListsHave, next_slice, WholeSlices}
use Rattle.jv_volume.proofs.maps.MapLaws.{get-alter-apart}
use Rattle.jv_volume.proofs.shapes.ShapeMapLaws.{tied_same}
use Rattle.jv_rows.specs.Counts.{is_named, recounted, Recounted, Adjusted, IsFull}
use Rattle.jv_volume_bytes.specs.promise.Counts.{record_count}
use Rattle.jv_volume_bytes.specs.Counts.{Behind, HadSize, HasDied}
use Rattle.jv_volume_bytes.proofs.BehindLaws.{behind-none, behind-more}
use Rattle.jv_volume_bytes.proofs.BlockLaws.{named_has_row}
use Rattle.jv_volume_bytes.proofs.WholeLaws.{SlicesGo}
use Rattle.jv_volume.proofs.sums.ListSumLaws.{is_list_key, sum-list, sum-lists, named-lists, listed-lists}

-- ---- rows with the same lists

module _ (rows after : Rows) (same : (key : RowKey) → is_list_key key ≡ true → get after key ≡ get rows key) where
  record_count-lists : record_count after ≡ record_count rows
  unfolding record_count
  record_count-lists = sum-lists rows after same length refl

-- ---- one list changes

module _ (rows : Rows) (key : RowKey) (cell : Option Cell) where
  pub named-list : (id : ℕ) → named_by (alter rows key cell) id + records_naming id (listed key (get rows key)) ≡ named_by rows id + records_naming id (listed key cell)
  unfolding named_by
  named-list id = sum-list (records_naming id) refl rows key cell

  pub record_count-list : record_count (alter rows key cell) + length (listed key (get rows key)) ≡ record_count rows + length (listed key cell)
  unfolding record_count
  record_count-list = sum-list length refl rows key cell

  -- what holds of all records holds after, if it holds of the new ones
  pub lists_have-list : (P : Rec → Type 0) → ListsHave P rows → AllByRecursion P (listed key cell) → ListsHave P (alter rows key cell)
  lists_have-list P have new q = subst (λ c. AllByRecursion P (listed q c)) (sym (get-alter rows key cell q)) (by_tie (eq_by_cmp row_cmp q key) refl)
    where
      by_tie : (b : Bool) → eq_by_cmp row_cmp q key ≡ b → AllByRecursion P (listed q (cond b cell (get rows q)))
      by_tie true e = subst (λ k. AllByRecursion P (listed k cell)) (sym (tied_same row_key key q e)) new
      by_tie false e = have q

  module _ (table : key.tab ≡ TABLE_OF_LISTS) where
    apart_from : (q : RowKey) → (q.tab == TABLE_OF_LISTS) ≡ false → q ≢ key
    apart_from q other same = true≢false (sym (ap (λ (k : RowKey). k.tab == TABLE_OF_LISTS) same ∙ eq-eqb key.tab TABLE_OF_LISTS table) ∙ other)

    -- rows of other tables stay
    pub others-list : (q : RowKey) → (q.tab == TABLE_OF_LISTS) ≡ false → get (alter rows key cell) q ≡ get rows q
    others-list q other = get-alter-apart row_key rows key cell q (apart_from q other)

    pub behind-list : (gone added : List Rec) → Behind rows gone added
        → Behind (alter rows key cell) (gone ++ listed key (get rows key)) (added ++ listed key cell)
    behind-list gone added behind =
        behind-more rows (alter rows key cell) gone added (listed key (get rows key)) (listed key cell) behind
        (λ id. ap (λ c. count_in (slice_in (row_in c))) (others-list (slice_key id) refl)) (λ id some. named-list id)

-- ---- lists that change one after another

-- Lists have changed, and counts not yet: each record names a slice that had a row of its size.
pub record ListsMove (rows middle : Rows) (gone added : List Rec) : Type 0 where
  pub next : next_slice middle ≡ next_slice rows
  pub slices : (id : ℕ) → slice_row_at middle id ≡ slice_row_at rows id
  pub deads : (id : ℕ) → dead_at middle id ≡ dead_at rows id
  pub records : ListsHave IsRecord middle
  pub names : ListsHave (λ r. r.id ≢ 0 → HadSize rows r.id r.size) middle
  pub behind : Behind middle gone added
  pub count : record_count middle + length gone ≡ record_count rows + length added

-- each record of whole slices names one that has a row of its size
pub names-whole : (rows : Rows) → WholeSlices rows → ListsHave (λ r. r.id ≢ 0 → HadSize rows r.id r.size) rows
names-whole rows w key =
    let l = listed key (get rows key) in
    recursion_from_All (λ (r : Rec). r.id ≢ 0 → HadSize rows r.id r.size) l
    (All-weaker (Contains l) (λ (r : Rec). r.id ≢ 0 → HadSize rows r.id r.size) (named_has_row rows w key) l (All-contains_itself l))

-- none has
pub move-none : (rows : Rows) → WholeSlices rows → ListsMove rows rows [] []
move-none rows w = record {
  next = refl;
  slices = λ id. refl;
  deads = λ id. refl;
  records = w.records;
  names = names-whole rows w;
  behind = behind-none rows w;
  count = refl;
}

-- one more has
pub move-list : (rows middle : Rows) (gone added : List Rec) (key : RowKey) (cell : Option Cell) → key.tab ≡ TABLE_OF_LISTS → ListsMove rows middle gone added
    → AllByRecursion IsRecord (listed key cell) → AllByRecursion (λ r. r.id ≢ 0 → HadSize rows r.id r.size) (listed key cell)
    → ListsMove rows (alter middle key cell) (gone ++ listed key (get middle key)) (added ++ listed key cell)
move-list rows middle gone added key cell table m records names = record {
  next = ap (λ c. (or_no_counters (counters_in (row_in c))).slice) (others-list middle key cell table counters_key refl) ∙ m.next;
  slices = λ id. ap (λ c. slice_in (row_in c)) (others-list middle key cell table (slice_key id) refl) ∙ m.slices id;
  deads = λ id. ap (λ c. dead_in (row_in c)) (others-list middle key cell table (dead_key id) refl) ∙ m.deads id;
  records = lists_have-list middle key cell IsRecord m.records records;
  names = lists_have-list middle key cell (λ r. r.id ≢ 0 → HadSize rows r.id r.size) m.names names;
  behind = behind-list middle key cell table gone added m.behind;
  count =
      (let was = m.count in
      let now = record_count-list middle key cell in
      let less = length-append gone (listed key (get middle key)) in
      let more = length-append added (listed key cell) in
      omega (arith, was, now, less, more));
}

-- ---- counts have followed

-- the count and the size of a row that is there where its count isn't 0
count_of : (b : Bool) (size n : ℕ) → (n == 0) ≡ b → count_in (slice_in (row_in (cond b None (Some (Ok (OfSlice (record { size = size; count = n }))))))) ≡ n
count_of true size n e = sym (eqb-true n 0 e)
count_of false size n e = refl

size_of_cell : (b : Bool) (size n : ℕ) (slice : SliceRow) → slice_in (row_in (cond b None (Some (Ok (OfSlice (record { size = size; count = n })))))) ≡ Some slice → slice.size ≡ size
size_of_cell true size n slice e = absurd (cc)
size_of_cell false size n slice e = ap (λ (s : SliceRow). s.size) (sym (same_Some (record { size = size; count = n }) slice e))

-- a slice that no record names
unnamed_by : (zero_id none : Bool) (id n : ℕ) → (id == 0) ≡ zero_id → (n == 0) ≡ none → 0 < id → (not zero_id && not none) ≡ false → n ≡ 0
unnamed_by true none id n e f some h = (let is = eqb-true id 0 e in absurd (omega (arith, is, some)))
unnamed_by false true id n e f some h = eqb-true n 0 f
unnamed_by false false id n e f some h = absurd (true≢false h)

unnamed : (gone added : List Rec) (id : ℕ) → is_named gone added id ≡ false → 0 < id → records_naming id gone + records_naming id added ≡ 0
unnamed gone added id h some = unnamed_by (id == 0) (records_naming id gone + records_naming id added == 0) id (records_naming id gone + records_naming id added) refl refl some h

-- what became of a slice
data Becomes (gone added : List Rec) (due : ℕ) (rows after : Rows) (id : ℕ) : Type 0 where
  Follows : IsTrue (is_named gone added id) → Recounted id (records_naming id gone) (records_naming id added) due rows after → Becomes gone added due rows after id
  Stays : is_named gone added id ≡ false → slice_row_at after id ≡ slice_row_at rows id → dead_at after id ≡ dead_at rows id → Becomes gone added due rows after id

module _ (gone added : List Rec) (due : ℕ) (rows after : Rows) (a : Adjusted gone added due rows after) where
  becomes : (id : ℕ) → Becomes gone added due rows after id
  becomes id = by_name (is_named gone added id) refl
    where
      by_name : (b : Bool) → is_named gone added id ≡ b → Becomes gone added due rows after id
      by_name true e = Follows e (a.named id e)
      by_name false e = Stays e (ap (λ c. slice_in (row_in c)) (a.others (slice_key id) e)) (ap (λ c. dead_in (row_in c)) (a.others (dead_key id) e))

  -- rows of other tables stay
  pub others-adjusted : (key : RowKey) → (key.tab == TABLE_OF_SLICES) ≡ false → (key.tab == TABLE_OF_DEAD) ≡ false → get after key ≡ get rows key
  others-adjusted key five nine = a.others key (and_left (((key.tab == TABLE_OF_SLICES) || (key.tab == TABLE_OF_DEAD)) && is_nil key.b) (is_named gone added key.a)
      (and_left ((key.tab == TABLE_OF_SLICES) || (key.tab == TABLE_OF_DEAD)) (is_nil key.b) (ap (λ b. b || (key.tab == TABLE_OF_DEAD)) five ∙ nine)))

  lists-adjusted : (key : RowKey) → (key.tab == TABLE_OF_LISTS) ≡ true → get after key ≡ get rows key
  lists-adjusted key four =
      let tab = eqb-true key.tab TABLE_OF_LISTS four in
      others-adjusted key (ne_eqb key.tab TABLE_OF_SLICES (λ e. omega (arith, tab, e))) (ne_eqb key.tab TABLE_OF_DEAD (λ e. omega (arith, tab, e)))

  -- counts are exact again
  pub exact-adjusted : Behind rows gone added → (id : ℕ) → 0 < id → slice_count after id ≡ named_by after id
  exact-adjusted behind id some = by_becomes (becomes id)
    where
      by_becomes : Becomes gone added due rows after id → slice_count after id ≡ named_by after id
      by_becomes (Follows named r) =
          let next = recounted r.slice.count (records_naming id gone) (records_naming id added) in
          let now : slice_count after id ≡ next = ap (λ c. count_in (slice_in (row_in c))) r.row ∙ count_of (next == 0) r.slice.size next refl in
          let was : slice_count rows id ≡ r.slice.count = ap (λ c. count_in (slice_in (row_in c))) r.was in
          let by = behind.by id some in
          let same = named-lists rows after lists-adjusted id in
          omega (arith, now, was, by, same)
      by_becomes (Stays none row dead) =
          let now = ap count_in row in
          let by = behind.by id some in
          let same = named-lists rows after lists-adjusted id in
          let no = unnamed gone added id none some in
          omega (arith, now, by, same, no)

-- Lists have changed, and counts have followed: slices stay whole, and others are kept.
module _ (more : ℕ) (rows middle after : Rows) (gone added : List Rec) (due : ℕ) (w : WholeSlices rows) (m : ListsMove rows middle gone added)
    (a : Adjusted gone added due middle after) (few : length added ≤ length gone + more) where
  had_row : (id : ℕ) (slice : SliceRow) → get middle (slice_key id) ≡ Some (Ok (OfSlice slice)) → HadSize rows id slice.size
  had_row id slice is = record { slice = slice; is = sym (m.slices id) ∙ ap (λ c. slice_in (row_in c)) is; size_is = refl }

  had_after : (id : ℕ) (slice : SliceRow) → slice_row_at after id ≡ Some slice → HadSize rows id slice.size
  had_after id slice there = by_becomes (becomes gone added due middle after a id)
    where
      by_becomes : Becomes gone added due middle after id → HadSize rows id slice.size
      by_becomes (Follows named r) =
          let next = recounted r.slice.count (records_naming id gone) (records_naming id added) in
          let size_is : slice.size ≡ r.slice.size = size_of_cell (next == 0) r.slice.size next slice (sym (ap (λ c. slice_in (row_in c)) r.row) ∙ there) in
          let had = had_row id r.slice r.was in
          record { slice = had.slice; is = had.is; size_is = had.size_is ∙ sym size_is }
      by_becomes (Stays none row dead) = record { slice = slice; is = sym (m.slices id) ∙ sym row ∙ there; size_is = refl }

  dead_row : ℕ → Cell
  dead_row size = Ok (OfDead (record { size = size; due = due }))

  -- a slice whose row has gone is dead, with its size, until it is due
  pub dead_after : (id : ℕ) (slice : SliceRow) → slice_row_at rows id ≡ Some slice → slice_row_at after id ≡ None
      → dead_at after id ≡ Some (record { size = slice.size; due = due })
  dead_after id slice there none = by_becomes (becomes gone added due middle after a id)
    where
      by_zero : (r : Recounted id (records_naming id gone) (records_naming id added) due middle after) (b : Bool)
          → (recounted r.slice.count (records_naming id gone) (records_naming id added) == 0) ≡ b → dead_at after id ≡ Some (record { size = slice.size; due = due })
      by_zero r true e =
          let same : r.slice ≡ slice = same_Some r.slice slice (sym (ap (λ c. slice_in (row_in c)) r.was) ∙ m.slices id ∙ there) in
          ap (λ c. dead_in (row_in c)) r.dead ∙ ap (λ b. dead_in (row_in (cond b (Some (Ok (OfDead (record { size = r.slice.size; due = due })))) (get middle (dead_key id))))) e
          ∙ ap (λ (s : SliceRow). Some (record { size = s.size; due = due })) same
      by_zero r false e =
          let row = ap (λ c. slice_in (row_in c)) r.row
          ∙ ap (λ b. slice_in (row_in (cond b None (Some (Ok (OfSlice (record { size = r.slice.size; count = recounted r.slice.count (records_naming id gone) (records_naming id added) }))))))) e in
          absurd (cc)

      by_becomes : Becomes gone added due middle after id → dead_at after id ≡ Some (record { size = slice.size; due = due })
      by_becomes (Follows named r) = by_zero r (recounted r.slice.count (records_naming id gone) (records_naming id added) == 0) refl
      by_becomes (Stays other row dead) = (let there_after = row ∙ m.slices id ∙ there in absurd (cc))

  dies_after : (id : ℕ) (slice : SliceRow) → slice_row_at rows id ≡ Some slice → slice_row_at after id ≡ None → HasDied after id slice.size
  dies_after id slice there none = record { dead = record { size = slice.size; due = due }; is = dead_after id slice there none; size_is = refl }

  -- a slice with a row has no dead one
  not_dead : (id : ℕ) (slice : SliceRow) (dead : Dead) → 0 < id → slice_row_at rows id ≡ Some slice → dead_at rows id ≡ Some dead → ⊥
  not_dead id slice dead some there is = (let none = w.apart id some (λ n. (let both = sym is ∙ n in absurd (cc))) in absurd (cc))

  stays_after : (id : ℕ) (dead : Dead) → 0 < id → dead_at rows id ≡ Some dead → dead_at after id ≡ Some dead
  stays_after id dead some there = by_becomes (becomes gone added due middle after a id)
    where
      by_becomes : Becomes gone added due middle after id → dead_at after id ≡ Some dead
      by_becomes (Follows named r) = absurd (not_dead id r.slice dead some (sym (m.slices id) ∙ ap (λ c. slice_in (row_in c)) r.was) there)
      by_becomes (Stays other row stays) = stays ∙ m.deads id ∙ there

  died_after : (id : ℕ) (dead : Dead) → dead_at after id ≡ Some dead → (dead_at rows id ≡ Some dead) ⊎ (HadSize rows id dead.size × (slice_row_at after id ≡ None))
  died_after id dead there = by_becomes (becomes gone added due middle after a id)
    where
      by_zero : (r : Recounted id (records_naming id gone) (records_naming id added) due middle after) (b : Bool)
          → (recounted r.slice.count (records_naming id gone) (records_naming id added) == 0) ≡ b
          → (dead_at rows id ≡ Some dead) ⊎ (HadSize rows id dead.size × (slice_row_at after id ≡ None))
      by_zero r true e =
          let is : Some (record { size = r.slice.size; due = due }) ≡ dead_at after id =
          sym (ap (λ c. dead_in (row_in c)) r.dead ∙ ap (λ b. dead_in (row_in (cond b (Some (Ok (OfDead (record { size = r.slice.size; due = due })))) (get middle (dead_key id))))) e) in
          let same : record { size = r.slice.size; due = due } ≡ dead = same_Some _ _ (is ∙ there) in
          let had = had_row id r.slice r.was in
          inr (
            record { slice = had.slice; is = had.is; size_is = had.size_is ∙ ap (λ (d : Dead). d.size) same },
            ap (λ c. slice_in (row_in c)) r.row
                ∙ ap (λ b. slice_in (row_in (cond b None (Some (Ok (OfSlice (record { size = r.slice.size; count = recounted r.slice.count (records_naming id gone) (records_naming id added) }))))))) e,
          )
      by_zero r false e = inl (
          sym (m.deads id)
          ∙ sym (ap (λ c. dead_in (row_in c)) r.dead ∙ ap (λ b. dead_in (row_in (cond b (Some (Ok (OfDead (record { size = r.slice.size; due = due })))) (get middle (dead_key id))))) e)
          ∙ there)

      by_becomes : Becomes gone added due middle after id → (dead_at rows id ≡ Some dead) ⊎ (HadSize rows id dead.size × (slice_row_at after id ≡ None))
      by_becomes (Follows named r) = by_zero r (recounted r.slice.count (records_naming id gone) (records_naming id added) == 0) refl
      by_becomes (Stays other row stays) = inl (sym (m.deads id) ∙ sym stays ∙ there)

  lists_after : (P : Rec → Type 0) → ListsHave P middle → ListsHave P after
  lists_after P have key = subst (AllByRecursion P) (sym (listed-lists middle after (lists-adjusted gone added due middle after a) key)) (have key)

  pub go-adjusted : SlicesGo more rows after
  go-adjusted = record {
    next = ap (λ c. (or_no_counters (counters_in (row_in c))).slice) (others-adjusted gone added due middle after a counters_key refl refl) ∙ m.next;
    records = lists_after IsRecord m.records;
    names = lists_after (λ r. r.id ≢ 0 → HadSize rows r.id r.size) m.names;
    had = had_after;
    exact = exact-adjusted gone added due middle after a m.behind;
    dies = dies_after;
    stays = stays_after;
    died = died_after;
    count = (let was = m.count in let now = record_count-lists middle after (lists-adjusted gone added due middle after a) in omega (arith, was, now, few));
  }

-- ---- records that came alone

named_some : (zero_id none : Bool) (n : ℕ) → (n == 0) ≡ none → (not zero_id && not none) ≡ true → 0 < n
named_some true none n e h = absurd (cc)
named_some false true n e h = absurd (cc)
named_some false false n e h = (let some = eqb-false n 0 e in omega (arith, some))

-- no slice dies of them
pub lives-added : (added : List Rec) (due : ℕ) (middle after : Rows) → Adjusted [] added due middle after
    → (id : ℕ) (slice : SliceRow) → slice_row_at middle id ≡ Some slice → slice_row_at after id ≡ None → ⊥
lives-added added due middle after a id slice there none = by_becomes (becomes [] added due middle after a id)
  where
    by_zero : (r : Recounted id 0 (records_naming id added) due middle after) → 0 < 0 + records_naming id added
        → (b : Bool) → (recounted r.slice.count 0 (records_naming id added) == 0) ≡ b → ⊥
    by_zero r some true e = (let no = eqb-true (recounted r.slice.count 0 (records_naming id added)) 0 e in absurd (omega (arith, no, some)))
    by_zero r some false e =
        let row = ap (λ c. slice_in (row_in c)) r.row
        ∙ ap (λ b. slice_in (row_in (cond b None (Some (Ok (OfSlice (record { size = r.slice.size; count = recounted r.slice.count 0 (records_naming id added) }))))))) e in
        absurd (cc)

    by_becomes : Becomes [] added due middle after id → ⊥
    by_becomes (Follows named r) = by_zero r (named_some (id == 0) (0 + records_naming id added == 0) (0 + records_naming id added) refl named)
        (recounted r.slice.count 0 (records_naming id added) == 0) refl
    by_becomes (Stays other row dead) = (let there_after = row ∙ there in absurd (cc))

-- ---- counts that can't follow

total-le : {K X : Type 0} (f g : K → X → ℕ) → ((k : K) (x : X) → f k x ≤ g k x) → (es : List (K × X)) → total_over f es ≤ total_over g es
total-le f g le [] = omega arith
total-le f g le (e ∷ es) = (let first = le e.0 e.1 in let rest = total-le f g le es in omega (arith, first, rest))

-- no more records name a slice than there are
pub named_by-le : (rows : Rows) (id : ℕ) → named_by rows id ≤ record_count rows
unfolding named_by record_count sum_over
named_by-le rows id =
    total-le (λ key cell. records_naming id (listed key (Some cell))) (λ key cell. length (listed key (Some cell)))
    (λ key cell. count_by-le-length (λ (r : Rec). r.id == id) (listed key (Some cell))) rows.list

-- a count grows too far only where there are more records than 2^62
pub full-many : (rows : Rows) (gone added : List Rec) (id : ℕ) → Behind rows gone added → 0 < id → IsFull id (records_naming id gone) (records_naming id added) rows
    → FULL_COUNT < record_count rows
full-many rows gone added id behind some f =
    let next = recounted f.slice.count (records_naming id gone) (records_naming id added) in
    let was : slice_count rows id ≡ f.slice.count = ap (λ c. count_in (slice_in (row_in c))) f.was in
    let by = behind.by id some in
    let all = named_by-le rows id in
    let high : FULL_COUNT < next = le_not next (nat_le next f.slice.count) f.full in
    omega (arith, was, by, all, high)
  where
    neither : (a b : Bool) → (a || b) ≡ false → a ≡ false
    neither true b e = e
    neither false b e = refl

    le_not : (n : ℕ) (b : Bool) → (nat_le n FULL_COUNT || b) ≡ false → FULL_COUNT < n
    le_not n b e = leb-false n FULL_COUNT (neither (nat_le n FULL_COUNT) b e)
