-- Recounting slice after slice, as a loop does.
use Rattle.std.proofs.Common.{◌≡◌, ◌≢◌, ℕ, ◌+◌, Bool, true, false, cond, List, [], ◌∷◌, Option, None, Some, Result, Ok, Err, refl, sym, ap, subst, ◌∙◌, arith, inl, inr, true≢false}
use Rattle.std.specs.Prelude.{◌||◌, ◌&&◌, not, ◌==◌, unwrap_or, is_some, IfSome, IsTrue}
use Rattle.std.specs.List.{list_any}
use Rattle.std.specs.Option.{option_or}
use Rattle.std.specs.Ordering.{nat_cmp, eq_by_cmp}
use Rattle.std.specs.BTreeMap.{is_at}
use Rattle.std.proofs.lemmas.Bool.{cases_eq, eq-eqb, ne_eqb, eqb-true}
use Rattle.jv_model.specs.declared.tables.TheConstants.{TABLE_OF_SLICES, TABLE_OF_DEAD}
use Rattle.jv_model.specs.declared.fault.Fault.TheVariants.{NoSpace}
use Rattle.jv_model.specs.declared.fault.RowFault.{RowFault}
use Rattle.jv_model.specs.declared.fault.RowFault.TheVariants.{Bad, Failed, Memory}
use Rattle.jv_model.specs.declared.fault.TxFault.{TxFault}
use Rattle.jv_model.specs.declared.fault.TxFault.TheVariants.{Refused, Moved, Rows as OfRows}
use Rattle.jv_model.specs.declared.row.RowKey.{RowKey}
use Rattle.jv_model.specs.declared.row.Row.{Row}
use Rattle.jv_model.specs.declared.row.Row.TheVariants.{OfSlice, OfDead}
use Rattle.jv_model.specs.declared.row.SliceRow.{SliceRow}
use Rattle.jv_model.specs.declared.slice.Rec.{Rec}
use Rattle.jv_model.specs.promise.FiniteMap.{get, insert, remove}
use Rattle.jv_model.specs.promise.rows.RowGrammar.{is_slice}
use Rattle.jv_model.specs.promise.rows.RowKeys.{RowMap, row_key, row_cmp}
use Rattle.jv_model.specs.promise.rows.RowPlaces.{slice_key, dead_key}
use Rattle.jv_model.specs.promise.Lists.{is_nil}
use Rattle.jv_model.proofs.TestLaws.{and_false, if_some-by, of_known}
use Rattle.jv_outside.specs.declared.batch.Change.{Change}
use Rattle.jv_outside.specs.Holding.{Becomes}
use Rattle.jv_outside.specs.promise.Store.{Store, held}
use Rattle.jv_volume.specs.promise.TypedRows.{Cell, Rows}
use Rattle.jv_volume.specs.promise.Slices.{records_naming}
use Rattle.jv_volume.proofs.maps.MapLaws.{get-alter-here, get-alter-apart}
use Rattle.jv_volume.proofs.shapes.ShapeMapLaws.{tied_apart}
use Rattle.jv_rows.specs.Counts.{stored_count, is_named, recounted, may_become, slice_cell, dead_cell, Recounted, is_of_slice, Adjusted, IsFull, RefusesRecount, RefusesAdjust, Adjusts, with_count, LeavesStored, LeavesOthers, Recounts}
use Rattle.jv_rows.specs.Drafts.{key_in, last_change, drafted, cell, RefusesCell, Sees, Needs, IsNoRow, RefusesNeeded}
use Rattle.jv_rows.specs.Transactions.{FaultCause}
use Rattle.jv_rows.proofs.counts.CountsLaws.{at_key}
use Rattle.jv_rows.proofs.transactions.DraftLaws.{stored-below}
use Rattle.jv_rows.proofs.transactions.TransactionLaws.{drafted-none}

-- ---- one slice

not_itself : (id : ℕ) → (id == id) ≡ false → ⊥
not_itself id other = absurd (cc (eq-eqb id id refl))

apart_from_slice : (id : ℕ) (key : RowKey) → is_of_slice (λ i. i == id) key ≡ false → key ≢ slice_key id
apart_from_slice id key other same = not_itself id (subst (λ (k : RowKey). is_of_slice (λ i. i == id) k ≡ false) same other)

apart_from_dead : (id : ℕ) (key : RowKey) → is_of_slice (λ i. i == id) key ≡ false → key ≢ dead_key id
apart_from_dead id key other same = not_itself id (subst (λ (k : RowKey). is_of_slice (λ i. i == id) k ≡ false) same other)

slice_not_dead : (i j : ℕ) → slice_key i ≢ dead_key j
slice_not_dead i j same = true≢false (ap (λ (k : RowKey). k.tab == TABLE_OF_SLICES) same)

dead_not_slice : (i j : ℕ) → dead_key i ≢ slice_key j
dead_not_slice i j same = slice_not_dead j i (sym same)

module _ (id size due : ℕ) (rows : Rows) (count : ℕ) where
  abbrev dead_row : Cell
  dead_row = Ok (OfDead (record { size = size; due = due }))

  abbrev slice_row : Cell
  slice_row = Ok (OfSlice (record { size = size; count = count }))

  -- rows where the slice has another count
  abbrev counted_by : Bool → Rows
  counted_by b = cond b (insert (remove rows (slice_key id)) (dead_key id) dead_row) (insert rows (slice_key id) slice_row)

  abbrev pub counted : Rows
  counted = counted_by (count == 0)

  slice_by : (b : Bool) → get (counted_by b) (slice_key id) ≡ cond b None (Some slice_row)
  slice_by true =
      get-alter-apart row_key (remove rows (slice_key id)) (dead_key id) (Some dead_row) (slice_key id) (slice_not_dead id id)
      ∙ get-alter-here row_key rows (slice_key id) None
  slice_by false = get-alter-here row_key rows (slice_key id) (Some slice_row)

  dead_by : (b : Bool) → get (counted_by b) (dead_key id) ≡ cond b (Some dead_row) (get rows (dead_key id))
  dead_by true = get-alter-here row_key (remove rows (slice_key id)) (dead_key id) (Some dead_row)
  dead_by false = get-alter-apart row_key rows (slice_key id) (Some slice_row) (dead_key id) (dead_not_slice id id)

  others_by : (b : Bool) (key : RowKey) → is_of_slice (λ i. i == id) key ≡ false → get (counted_by b) key ≡ get rows key
  others_by true key other =
      get-alter-apart row_key (remove rows (slice_key id)) (dead_key id) (Some dead_row) key (apart_from_dead id key other)
      ∙ get-alter-apart row_key rows (slice_key id) None key (apart_from_slice id key other)
  others_by false key other = get-alter-apart row_key rows (slice_key id) (Some slice_row) key (apart_from_slice id key other)

  counted-slice : get counted (slice_key id) ≡ slice_cell size count
  counted-slice = slice_by (count == 0)

  counted-dead : get counted (dead_key id) ≡ dead_cell size count due (get rows (dead_key id))
  counted-dead = dead_by (count == 0)

  counted-others : (key : RowKey) → is_of_slice (λ i. i == id) key ≡ false → get counted key ≡ get rows key
  counted-others = others_by (count == 0)

-- ---- a slice that was read, and what comes of it

abbrev as_some : ℕ → Option ℕ
as_some n = Some n

may : (b : Bool) (n count : ℕ) → as_some count ≡ cond b (Some n) None → IsTrue b × (count ≡ n)
may true n count e = (refl, cc)
may false n count e = absurd (cc)

abbrev no_count : Option ℕ
no_count = None

may_not : (b : Bool) (n : ℕ) → no_count ≡ cond b (Some n) None → b ≡ false
may_not true n e = absurd (cc)
may_not false n e = refl

module _ (id gone added due : ℕ) (before after : Store) (changes changed : List Change) where
  -- its count may follow
  pub recounts : (slice : SliceRow) (count : ℕ) → Needs OfSlice is_slice (slice_key id) changes before after (Ok slice)
      → as_some count ≡ cond (may_become slice.count (recounted slice.count gone added)) (Some (recounted slice.count gone added)) None
      → ((known : RowMap) → drafted changed known ≡ with_count id (record { size = slice.size; count = count }) due (drafted changes known))
      → Recounts id gone added due before after changes changed (Ok tt)
  recounts slice count n next put = record {
    rows_are = n.rows_are;
    opened_at = n.opened_at;
    counts = n.counts;
    done = if_some-by (λ known. Recounted id gone added due (drafted changes known) (drafted changed known)) before.rows (λ known is.
        let rows = drafted changes known in
        let m = may (may_become slice.count (recounted slice.count gone added)) (recounted slice.count gone added) count next in
        let left : drafted changed known ≡ counted id slice.size due rows (recounted slice.count gone added) =
        put known ∙ ap (counted id slice.size due rows) m.1 in
        record {
          slice = slice;
          was = of_known (λ known. get (drafted changes known) (slice_key id) ≡ Some (Ok (OfSlice slice))) before.rows known is n.found;
          fits = m.0;
          row = ap (λ (r : Rows). get r (slice_key id)) left ∙ counted-slice id slice.size due rows (recounted slice.count gone added);
          dead = ap (λ (r : Rows). get r (dead_key id)) left ∙ counted-dead id slice.size due rows (recounted slice.count gone added);
        });
    others = λ known key other. ap (λ (r : Rows). get r key) (put known) ∙ counted-others id slice.size due (drafted changes known) count key other;
    refused = tt;
  }

  -- it would grow too far
  pub refuses-recount : (slice : SliceRow) → Needs OfSlice is_slice (slice_key id) changes before after (Ok slice)
      → no_count ≡ cond (may_become slice.count (recounted slice.count gone added)) (Some (recounted slice.count gone added)) None
      → Recounts id gone added due before after changes changed (Err (Refused NoSpace))
  refuses-recount slice n next = record {
    rows_are = n.rows_are;
    opened_at = n.opened_at;
    counts = n.counts;
    done = tt;
    others = tt;
    refused = (
      refl,
      if_some-by (λ known. IsFull id gone added (drafted changes known)) before.rows (λ known is. record {
        slice = slice;
        was = of_known (λ known. get (drafted changes known) (slice_key id) ≡ Some (Ok (OfSlice slice))) before.rows known is n.found;
        full = may_not (may_become slice.count (recounted slice.count gone added)) (recounted slice.count gone added) next;
      }),
    );
  }

  -- out of memory
  pub recount-memory : (slice : SliceRow) → Needs OfSlice is_slice (slice_key id) changes before after (Ok slice)
      → Recounts id gone added due before after changes changed (Err (OfRows Memory))
  recount-memory slice n = record { rows_are = n.rows_are; opened_at = n.opened_at; counts = n.counts; done = tt; others = tt; refused = tt }

  why_unread : (fault : TxFault) → RefusesNeeded (slice_key id) changes before.rows fault → RefusesRecount id gone added changes before.rows fault
  why_unread (Refused fault) h = absurd h
  why_unread (Moved list) h = absurd h
  why_unread (OfRows fault) h = h

  -- its row wasn't read
  pub recount-fails : (fault : TxFault) → Needs OfSlice is_slice (slice_key id) changes before after (Err fault)
      → Recounts id gone added due before after changes changed (Err fault)
  recount-fails fault n =
      record { rows_are = n.rows_are; opened_at = n.opened_at; counts = n.counts; done = tt; others = tt; refused = why_unread fault n.refused }

-- ---- rows as they are stored

neither : (a b : Bool) → (a || b) ≡ false → (a ≡ false) × (b ≡ false)
neither true b e = absurd (cc)
neither false b e = (refl, e)

abbrev is_change_of_slice : Change → Bool
is_change_of_slice change = (key_in change).tab == TABLE_OF_SLICES

none_of_slice : (changes : List Change) (id : ℕ) → list_any is_change_of_slice changes ≡ false → last_change (slice_key id) changes ≡ None
none_of_slice [] id none = refl
none_of_slice (first ∷ rest) id none =
    let both = neither (is_change_of_slice first) (list_any is_change_of_slice rest) none in
    let apart : eq_by_cmp row_cmp (slice_key id) (key_in first) ≡ false =
    tied_apart row_key (key_in first) (slice_key id) (λ same. true≢false (sym (ap (λ (k : RowKey). k.tab == TABLE_OF_SLICES) (sym same)) ∙ both.0)) in
    ap (λ o. option_or o (cond (eq_by_cmp row_cmp (slice_key id) (key_in first)) (Some first) None)) (none_of_slice rest id both.1)
    ∙ ap (λ b. cond b (Some first) None) apart

pub leaves_stored : (changes : List Change) (id : ℕ) → list_any is_change_of_slice changes ≡ false → LeavesStored (slice_key id) changes
leaves_stored changes id none known = stored-below changes known (slice_key id) (none_of_slice changes id none)

module _ {A : Type 0} (row : A → Row) (is_allowed : A → Bool) (key : RowKey) (changes : List Change) (before after : Store)
    (stored : LeavesStored key changes) where
  same_cell : (known : RowMap) → get (drafted changes known) key ≡ get (drafted [] known) key
  same_cell known = stored known ∙ ap (λ (r : Rows). get r key) (sym (drafted-none known))

  same_fault : (fault : RowFault) → RefusesCell key [] before.rows fault → RefusesCell key changes before.rows fault
  same_fault (Bad at bytes) h = (
    h.0,
    if_some-by (λ known. get (drafted changes known) key ≡ Some (Err bytes)) before.rows (λ known is.
        same_cell known ∙ of_known (λ known. get (drafted [] known) key ≡ Some (Err bytes)) before.rows known is h.1),
  )
  same_fault Failed h = tt
  same_fault Memory h = tt

  -- a reading over no changes is one over these
  pub sees-stored : (result : Result (Option A) RowFault) → Sees row is_allowed key [] before after result → Sees row is_allowed key changes before after result
  sees-stored (Ok found) s = record {
    rows_are = s.rows_are;
    opened_at = s.opened_at;
    counts = s.counts;
    found = if_some-by (λ known. get (drafted changes known) key ≡ cell row found) before.rows (λ known is.
        same_cell known ∙ of_known (λ known. get (drafted [] known) key ≡ cell row found) before.rows known is s.found);
    allowed = s.allowed;
    refused = tt;
  }
  sees-stored (Err fault) s = record {
    rows_are = s.rows_are;
    opened_at = s.opened_at;
    counts = s.counts;
    found = tt;
    allowed = tt;
    refused = same_fault fault s.refused;
  }

-- ---- slice after slice

abbrev pub Counts : Type 0
Counts = ℕ → Option ℕ

-- whether a slice is still to be recounted
abbrev pub is_left : Counts → Counts → ℕ → Bool
is_left fewer more id = is_some (fewer id) || is_some (more id)

-- whether it was
abbrev is_done : List Rec → List Rec → Counts → Counts → ℕ → Bool
is_done gone added fewer more id = is_named gone added id && not (is_left fewer more id)

-- what maps have of a slice: nothing, or how many records went and came
pub data Stands (gone added : List Rec) (fewer more : Option ℕ) (id : ℕ) : Type 0 where
  Taken : fewer ≡ None → more ≡ None → Stands gone added fewer more id
  ToTake : fewer ≡ stored_count gone id → more ≡ stored_count added id → Stands gone added fewer more id

-- what a loop over slices has reached
pub record IsAdjusting (gone added : List Rec) (due : ℕ) (fewer more : Counts) (start now : Store) (changes changed : List Change) : Type 0 where
  pub stands : (id : ℕ) → Stands gone added (fewer id) (more id) id
  pub same : Becomes (held start) (held now) start.rows start.opened
  pub done : IfSome start.rows (λ known. (id : ℕ) → IsTrue (is_named gone added id) → is_left fewer more id ≡ false
      → Recounted id (records_naming id gone) (records_naming id added) due (drafted changes known) (drafted changed known))
  pub others : LeavesOthers (is_done gone added fewer more) changes changed

-- how many records name a slice, by what a map has
abbrev stored : ℕ → ℕ → Option ℕ
stored id n = cond (id == 0 || n == 0) None (Some n)

-- of a slice that has some record, both numbers are those that the maps have
record IsToTake (gone added : List Rec) (fewer more : Option ℕ) (id : ℕ) : Type 0 where
  named : IsTrue (is_named gone added id)
  gone_is : unwrap_or fewer 0 ≡ records_naming id gone
  added_is : unwrap_or more 0 ≡ records_naming id added

unwrap_by : (b : Bool) (n : ℕ) → (n == 0) ≡ b → unwrap_or (cond b None (Some n)) 0 ≡ n
unwrap_by true n e = sym (eqb-true n 0 e)
unwrap_by false n e = refl

some_by : (zero_id none_gone none_added : Bool) (n m : ℕ) → (n == 0) ≡ none_gone → (m == 0) ≡ none_added
    → (is_some (cond (zero_id || none_gone) None (as_some n)) || is_some (cond (zero_id || none_added) None (as_some m))) ≡ true
    → (zero_id ≡ false) × ((n + m == 0) ≡ false)
some_by true none_gone none_added n m p q left = absurd (cc)
some_by false true true n m p q left = absurd (cc)
some_by false false none_added n m p q left = (refl, ne_eqb (n + m) 0 (λ e. true≢false (sym (eq-eqb n 0 (omega arith)) ∙ p)))
some_by false true false n m p q left = (refl, ne_eqb (n + m) 0 (λ e. true≢false (sym (eq-eqb m 0 (omega arith)) ∙ q)))

to_take : (gone added : List Rec) (id : ℕ) (fewer more : Option ℕ) → Stands gone added fewer more id → (is_some fewer || is_some more) ≡ true → IsToTake gone added fewer more id
to_take gone added id fewer more (Taken f m) left = absurd (true≢false (sym left ∙ ap (λ o. is_some o || is_some more) f ∙ ap is_some m))
to_take gone added id fewer more (ToTake f m) left =
    let n = records_naming id gone in
    let k = records_naming id added in
    let both = some_by (id == 0) (n == 0) (k == 0) n k refl refl (sym (ap (λ o. is_some o || is_some more) f ∙ ap (λ o. is_some (stored id n) || is_some o) m) ∙ left) in
    record {
      named = ap (λ b. not b && not (n + k == 0)) both.0 ∙ ap not both.1;
      gone_is = ap (λ o. unwrap_or o 0) f ∙ ap (λ b. unwrap_or (cond (b || n == 0) None (as_some n)) 0) both.0 ∙ unwrap_by (n == 0) n refl;
      added_is = ap (λ o. unwrap_or o 0) m ∙ ap (λ b. unwrap_or (cond (b || k == 0) None (as_some k)) 0) both.0 ∙ unwrap_by (k == 0) k refl;
    }

-- ---- before the first

stored_left : (id n m : ℕ) → IsTrue (not (id == 0) && not (n + m == 0)) → (is_some (stored id n) || is_some (stored id m)) ≡ true
stored_left id n m named = left_by (id == 0) (n == 0) (m == 0) refl refl refl
  where
    left_by : (zero_id none_gone none_added : Bool) → (id == 0) ≡ zero_id → (n == 0) ≡ none_gone → (m == 0) ≡ none_added
        → (is_some (cond (zero_id || none_gone) None (as_some n)) || is_some (cond (zero_id || none_added) None (as_some m))) ≡ true
    left_by true none_gone none_added i p q = absurd (true≢false (sym named ∙ ap (λ b. not b && not (n + m == 0)) i))
    left_by false false none_added i p q = refl
    left_by false true false i p q = refl
    left_by false true true i p q =
        let none : n + m ≡ 0 = omega (arith, eqb-true n 0 p, eqb-true m 0 q) in
        absurd (true≢false (sym named ∙ ap (λ b. not b && not (n + m == 0)) i ∙ ap not (eq-eqb (n + m) 0 none)))

pub none_adjusted : (gone added : List Rec) (due : ℕ) (fewer more : Counts) (start : Store) (changes : List Change)
    → ((id : ℕ) → fewer id ≡ stored_count gone id) → ((id : ℕ) → more id ≡ stored_count added id)
    → IsAdjusting gone added due fewer more start start changes changes
none_adjusted gone added due fewer more start changes f m = record {
  stands = λ id. ToTake (f id) (m id);
  same = record { content_is = refl; opened_at = refl; calm = refl };
  done = if_some-by (λ known. (id : ℕ) → IsTrue (is_named gone added id) → is_left fewer more id ≡ false
      → Recounted id (records_naming id gone) (records_naming id added) due (drafted changes known) (drafted changes known)) start.rows
      (λ known is id named left. absurd (true≢false (sym (stored_left id (records_naming id gone) (records_naming id added) named)
      ∙ sym (ap (λ o. is_some o || is_some (more id)) (f id) ∙ ap (λ o. is_some (stored_count gone id) || is_some o) (m id)) ∙ left)));
  others = λ known key other. refl;
}

-- ---- one more

-- without a slice
abbrev taken_out : ℕ → Counts → Counts → Type 0
taken_out id counts fewer = (q : ℕ) → fewer q ≡ cond (is_at (nat_cmp id) q) None (counts q)

out_here : (id : ℕ) (counts fewer : Counts) → taken_out id counts fewer → fewer id ≡ None
out_here id counts fewer out = out id ∙ ap (λ (b : Bool). cond b None (counts id)) (at_key id id ∙ eq-eqb id id refl)

out_there : (id : ℕ) (counts fewer : Counts) → taken_out id counts fewer → (q : ℕ) → id ≢ q → fewer q ≡ counts q
out_there id counts fewer out q apart = out q ∙ ap (λ (b : Bool). cond b None (counts q)) (at_key id q ∙ ne_eqb id q apart)

-- keys of slices that pass a weaker test
key_by : (P : ℕ → Bool) (Q : ℕ → Bool) → ((q : ℕ) → P q ≡ false → Q q ≡ false) → (key : RowKey) → is_of_slice P key ≡ false → is_of_slice Q key ≡ false
key_by P Q f key none = by (((key.tab == TABLE_OF_SLICES) || (key.tab == TABLE_OF_DEAD)) && is_nil key.b) none
  where
    by : (b : Bool) → (b && P key.a) ≡ false → (b && Q key.a) ≡ false
    by true e = f key.a e
    by false e = refl

module _ (gone added : List Rec) (due id : ℕ) (fewer more fewer' more' : Counts) (start middle now : Store) (changes between changed : List Change)
    (h : IsAdjusting gone added due fewer more start middle changes between) (left : is_left fewer more id ≡ true)
    (out_fewer : taken_out id fewer fewer') (out_more : taken_out id more more') where
  took : IsToTake gone added (fewer id) (more id) id
  took = to_take gone added id (fewer id) (more id) (h.stands id) left

  stands_next : (q : ℕ) → Stands gone added (fewer' q) (more' q) q
  stands_next q =
      elim (cases_eq id q) [
        | inl e ↦ subst (λ i. Stands gone added (fewer' i) (more' i) i) e (Taken (out_here id fewer fewer' out_fewer) (out_here id more more' out_more))
        | inr ne ↦ stands_as q (out_there id fewer fewer' out_fewer q ne) (out_there id more more' out_more q ne) (h.stands q)
      ]
    where
      stands_as : (q : ℕ) → fewer' q ≡ fewer q → more' q ≡ more q → Stands gone added (fewer q) (more q) q → Stands gone added (fewer' q) (more' q) q
      stands_as q e f (Taken a b) = Taken (e ∙ a) (f ∙ b)
      stands_as q e f (ToTake a b) = ToTake (e ∙ a) (f ∙ b)

  left_next : (q : ℕ) → id ≢ q → is_left fewer' more' q ≡ is_left fewer more q
  left_next q apart =
      ap (λ o. is_some o || is_some (more' q)) (out_there id fewer fewer' out_fewer q apart) ∙ ap (λ o. is_some (fewer q) || is_some o) (out_there id more more' out_more q apart)

  gone_next : is_left fewer' more' id ≡ false
  gone_next = ap (λ o. is_some o || is_some (more' id)) (out_here id fewer fewer' out_fewer) ∙ ap is_some (out_here id more more' out_more)

  -- what is done stays done
  not_done : (q : ℕ) → is_done gone added fewer' more' q ≡ false → is_done gone added fewer more q ≡ false
  not_done q none =
      elim (cases_eq id q) [
        | inl e ↦ subst (λ i. is_done gone added fewer more i ≡ false) e (ap (λ b. is_named gone added id && not b) left ∙ and_false (is_named gone added id))
        | inr ne ↦ ap (λ b. is_named gone added q && not b) (sym (left_next q ne)) ∙ none
      ]

  -- and so is the slice
  done_here : is_done gone added fewer' more' id ≡ true
  done_here = ap (λ b. b && not (is_left fewer' more' id)) took.named ∙ ap not gone_next

  not_this : (q : ℕ) → is_done gone added fewer' more' q ≡ false → (q == id) ≡ false
  not_this q none = ne_eqb q id (λ e. true≢false (sym done_here ∙ ap (is_done gone added fewer' more') (sym e) ∙ none))

  still : (q : ℕ) → is_left fewer more q ≡ true → is_done gone added fewer more q ≡ false
  still q is = ap (λ b. is_named gone added q && not b) is ∙ and_false (is_named gone added q)

  -- a slice that is still to be recounted stands as it did
  pub stands-left : (q : ℕ) → is_left fewer more q ≡ true → (known : RowMap) → get (drafted between known) (slice_key q) ≡ get (drafted changes known) (slice_key q)
  stands-left q is known = h.others known (slice_key q) (still q is)

-- the rows before and after at a slice's keys alone say how it was recounted
recounted_from : (id gone added due : ℕ) (rows other after : Rows) → get other (slice_key id) ≡ get rows (slice_key id) → get other (dead_key id) ≡ get rows (dead_key id)
    → Recounted id gone added due other after → Recounted id gone added due rows after
recounted_from id gone added due rows other after slice_is dead_is r = record {
  slice = r.slice;
  was = sym slice_is ∙ r.was;
  fits = r.fits;
  row = r.row;
  dead = r.dead ∙ ap (dead_cell r.slice.size (recounted r.slice.count gone added) due) dead_is;
}

recounted_to : (id gone added due : ℕ) (rows after other : Rows) → get other (slice_key id) ≡ get after (slice_key id) → get other (dead_key id) ≡ get after (dead_key id)
    → Recounted id gone added due rows after → Recounted id gone added due rows other
recounted_to id gone added due rows after other slice_is dead_is r = record {
  slice = r.slice;
  was = r.was;
  fits = r.fits;
  row = slice_is ∙ r.row;
  dead = dead_is ∙ r.dead;
}

module _ (gone added : List Rec) (due id : ℕ) (fewer more fewer' more' : Counts) (start middle now : Store) (changes between changed : List Change)
    (h : IsAdjusting gone added due fewer more start middle changes between) (left : is_left fewer more id ≡ true)
    (out_fewer : taken_out id fewer fewer') (out_more : taken_out id more more')
    (r : Recounts id (records_naming id gone) (records_naming id added) due middle now between changed (Ok tt)) where
  done_next : (known : RowMap) → start.rows ≡ Some known → (q : ℕ) → IsTrue (is_named gone added q) → is_left fewer' more' q ≡ false
      → Recounted q (records_naming q gone) (records_naming q added) due (drafted changes known) (drafted changed known)
  done_next known is q named none =
      elim (cases_eq id q) [
        | inl e ↦ subst (λ i. Recounted i (records_naming i gone) (records_naming i added) due (drafted changes known) (drafted changed known)) e
            (recounted_from id (records_naming id gone) (records_naming id added) due (drafted changes known) (drafted between known) (drafted changed known)
            (h.others known (slice_key id) (still gone added due id fewer more fewer' more' start middle now changes between changed h left out_fewer out_more id left))
            (h.others known (dead_key id) (still gone added due id fewer more fewer' more' start middle now changes between changed h left out_fewer out_more id left))
            (of_known (λ known. Recounted id (records_naming id gone) (records_naming id added) due (drafted between known) (drafted changed known)) middle.rows known (h.same.content_is ∙ is) r.done))
        | inr ne ↦ recounted_to q (records_naming q gone) (records_naming q added) due (drafted changes known) (drafted between known) (drafted changed known)
            (r.others known (slice_key q) (ne_eqb q id (λ e. ne (sym e)))) (r.others known (dead_key q) (ne_eqb q id (λ e. ne (sym e))))
            (of_known (λ known. (q : ℕ) → IsTrue (is_named gone added q) → is_left fewer more q ≡ false
            → Recounted q (records_naming q gone) (records_naming q added) due (drafted changes known) (drafted between known)) start.rows known is h.done q named
            (sym (left_next gone added due id fewer more fewer' more' start middle now changes between changed h left out_fewer out_more q ne) ∙ none))
      ]

  others_next : LeavesOthers (is_done gone added fewer' more') changes changed
  others_next known key none =
      r.others known key (key_by (is_done gone added fewer' more') (λ q. q == id) (not_this gone added due id fewer more fewer' more' start middle now changes between changed h left out_fewer out_more) key none)
      ∙ h.others known key (key_by (is_done gone added fewer' more') (is_done gone added fewer more) (not_done gone added due id fewer more fewer' more' start middle now changes between changed h left out_fewer out_more) key none)

  pub one_adjusted : IsAdjusting gone added due fewer' more' start now changes changed
  one_adjusted = record {
    stands = stands_next gone added due id fewer more fewer' more' start middle now changes between changed h left out_fewer out_more;
    same = record { content_is = r.rows_are ∙ h.same.content_is; opened_at = r.opened_at ∙ h.same.opened_at; calm = r.counts ∙ h.same.calm };
    done = if_some-by (λ known. (q : ℕ) → IsTrue (is_named gone added q) → is_left fewer' more' q ≡ false
        → Recounted q (records_naming q gone) (records_naming q added) due (drafted changes known) (drafted changed known)) start.rows done_next;
    others = others_next;
  }

-- ---- the end, and what ends it before

pub all_adjusted : (gone added : List Rec) (due : ℕ) (fewer more : Counts) (start now : Store) (changes changed : List Change)
    → IsAdjusting gone added due fewer more start now changes changed → ((id : ℕ) → (fewer id ≡ None) × (more id ≡ None))
    → Adjusts gone added due start now changes changed (Ok tt)
all_adjusted gone added due fewer more start now changes changed h none = record {
  rows_are = h.same.content_is;
  opened_at = h.same.opened_at;
  counts = h.same.calm;
  done = if_some-by (λ known. Adjusted gone added due (drafted changes known) (drafted changed known)) start.rows (λ known is. record {
    named = λ id named. of_known (λ known. (q : ℕ) → IsTrue (is_named gone added q) → is_left fewer more q ≡ false
        → Recounted q (records_naming q gone) (records_naming q added) due (drafted changes known) (drafted changed known)) start.rows known is h.done id named (none_left id);
    others = λ key other. h.others known key (key_by (is_named gone added) (is_done gone added fewer more)
        (λ q e. ap (λ b. b && not (is_left fewer more q)) e) key other);
  });
  refused = tt;
}
  where
    none_left : (id : ℕ) → is_left fewer more id ≡ false
    none_left id = ap (λ o. is_some o || is_some (more id)) (none id).0 ∙ ap is_some (none id).1

module _ (gone added : List Rec) (id : ℕ) (changes between : List Change) (rows : Option RowMap) (named : IsTrue (is_named gone added id))
    (stands : (known : RowMap) → get (drafted between known) (slice_key id) ≡ get (drafted changes known) (slice_key id)) where
  as_before : (fault : TxFault) → RefusesRecount id (records_naming id gone) (records_naming id added) between rows fault
      → RefusesRecount id (records_naming id gone) (records_naming id added) changes rows fault
  as_before (Refused fault) h = (
    h.0,
    if_some-by (λ known. IsFull id (records_naming id gone) (records_naming id added) (drafted changes known)) rows (λ known is.
        let f = of_known (λ known. IsFull id (records_naming id gone) (records_naming id added) (drafted between known)) rows known is h.1 in
        record { slice = f.slice; was = sym (stands known) ∙ f.was; full = f.full }),
  )
  as_before (Moved list) h = absurd h
  as_before (OfRows (Bad at bytes)) h = (
    h.0,
    if_some-by (λ known. IsNoRow (get (drafted changes known) (slice_key id)) bytes) rows (λ known is.
        subst (λ c. IsNoRow c bytes) (stands known) (of_known (λ known. IsNoRow (get (drafted between known) (slice_key id)) bytes) rows known is h.1)),
  )
  as_before (OfRows Failed) h = tt
  as_before (OfRows Memory) h = tt

  why_not : (fault : TxFault) → RefusesRecount id (records_naming id gone) (records_naming id added) between rows fault → RefusesAdjust gone added changes rows fault
  why_not (Refused fault) h = record { id = id; named = named; why = as_before (Refused fault) h }
  why_not (Moved list) h = absurd h
  why_not (OfRows (Bad at bytes)) h = record { id = id; named = named; why = as_before (OfRows (Bad at bytes)) h }
  why_not (OfRows Failed) h = tt
  why_not (OfRows Memory) h = tt

pub one_failed : (gone added : List Rec) (due id : ℕ) (fewer more : Counts) (start middle now : Store) (changes between changed : List Change) (fault : TxFault)
    → IsAdjusting gone added due fewer more start middle changes between → is_left fewer more id ≡ true
    → Recounts id (records_naming id gone) (records_naming id added) due middle now between changed (Err fault)
    → Adjusts gone added due start now changes changed (Err fault)
one_failed gone added due id fewer more start middle now changes between changed fault h left r =
    let took = to_take gone added id (fewer id) (more id) (h.stands id) left in
    let still : is_done gone added fewer more id ≡ false = ap (λ b. is_named gone added id && not b) left ∙ ap (λ b. b && false) took.named in
    record {
      rows_are = r.rows_are ∙ h.same.content_is;
      opened_at = r.opened_at ∙ h.same.opened_at;
      counts = subst (λ n. FaultCause n now.faults fault) h.same.calm r.counts;
      done = tt;
      refused = subst (λ rows. RefusesAdjust gone added changes rows fault) h.same.content_is
          (why_not gone added id changes between middle.rows took.named (λ known. h.others known (slice_key id) still) fault r.refused);
    }

-- ---- a step of the loop

module _ (gone added : List Rec) (due id g a : ℕ) (fewer more : Counts) (start middle now : Store) (changes between changed : List Change)
    (h : IsAdjusting gone added due fewer more start middle changes between) (left : is_left fewer more id ≡ true) where
  -- no change is of the slice that is recounted next
  pub left_stored : list_any is_change_of_slice changes ≡ false → LeavesStored (slice_key id) between
  left_stored none known =
      let took = to_take gone added id (fewer id) (more id) (h.stands id) left in
      h.others known (slice_key id) (ap (λ b. is_named gone added id && not b) left ∙ ap (λ b. b && false) took.named) ∙ leaves_stored changes id none known

  module _ (gone_is : g ≡ unwrap_or (fewer id) 0) (added_is : a ≡ unwrap_or (more id) 0) where
    by_records : (result : Result (Unit {0}) TxFault) → Recounts id g a due middle now between changed result
        → Recounts id (records_naming id gone) (records_naming id added) due middle now between changed result
    by_records result r =
        let took = to_take gone added id (fewer id) (more id) (h.stands id) left in
        subst (λ n. Recounts id n (records_naming id added) due middle now between changed result) (gone_is ∙ took.gone_is)
        (subst (λ m. Recounts id g m due middle now between changed result) (added_is ∙ took.added_is) r)

    pub step_adjusts : (fewer' more' : Counts) → taken_out id fewer fewer' → taken_out id more more' → Recounts id g a due middle now between changed (Ok tt)
        → IsAdjusting gone added due fewer' more' start now changes changed
    step_adjusts fewer' more' out_fewer out_more r =
        one_adjusted gone added due id fewer more fewer' more' start middle now changes between changed h left out_fewer out_more (by_records (Ok tt) r)

    pub step_fails : (fault : TxFault) → Recounts id g a due middle now between changed (Err fault) → Adjusts gone added due start now changes changed (Err fault)
    step_fails fault r = one_failed gone added due id fewer more start middle now changes between changed fault h left (by_records (Err fault) r)
