-- How a truncate ends: each exit of its parts, by what was read and what was changed.
use Rattle.std.specs.Cmp.{eq_by_cmp_equiv}
use Rattle.std.proofs.Common.{◌≡◌, ◌≢◌, ℕ, suc, ◌+◌, ◌-◌, ◌/◌, ◌%◌, ◌<◌, ◌^◌, inl, inr, Bool, true, false, cond, List, [], ◌∷◌, ◌++◌, length, take, get_or, Option, None, Some, Result, Ok, Err, refl, sym, ap, subst, ◌∙◌, arith}
use Rattle.std.proofs.Math.Seq.{take-suc}
use Rattle.std.specs.Prelude.{◌==◌, ◌&&◌, not, nat_le, IsTrue, IfErr, IfSome}
use Rattle.std.specs.List.{list_any}
use Rattle.std.proofs.lemmas.Bool.{cases_eq, ltb-true, le-leb, eqb-false, ne_eqb, or_left, or_right}
use Rattle.jv_model.specs.declared.fault.Fault.{Fault}
use Rattle.jv_model.specs.declared.tables.TheConstants.{TABLE_OF_LISTS}
use Rattle.jv_model.specs.declared.fault.RowFault.{RowFault}
use Rattle.jv_model.specs.declared.fault.RowFault.TheVariants.{Bad, Failed, Memory}
use Rattle.jv_model.specs.declared.fault.TxFault.{TxFault}
use Rattle.jv_model.specs.declared.fault.TxFault.TheVariants.{Refused, Moved, Rows as OfRows}
use Rattle.jv_model.specs.declared.limits.TheConstants.{FULL_COUNT, WINDOW}
use Rattle.jv_model.specs.declared.row.Row.TheVariants.{OfList, OfSlice}
use Rattle.jv_model.specs.declared.row.RowKey.{RowKey}
use Rattle.jv_model.specs.declared.row.SliceRow.{SliceRow}
use Rattle.jv_model.specs.declared.slice.Rec.{Rec}
use Rattle.jv_model.specs.promise.FiniteMap.{get}
use Rattle.jv_model.specs.FiniteMap.{alter}
use Rattle.jv_model.specs.promise.rows.RowGrammar.{is_slice, slice_of, slice_bytes, list_bytes}
use Rattle.jv_model.specs.promise.rows.RowKeys.{RowMap, row_key, is_key_of}
use Rattle.jv_model.specs.promise.rows.RowPlaces.{list_key, slice_key}
use Rattle.jv_outside.specs.declared.batch.Change.{Change}
use Rattle.jv_outside.specs.promise.Store.{Store}
use Rattle.jv_rows.specs.Counts.{is_named, recounted, IsFull, FailsToRecount, RefusesAdjust, Adjusted, Adjusts}
use Rattle.jv_rows.specs.Drafts.{drafted, IsNoRow, Sees}
use Rattle.jv_rows.specs.Lists.{is_past, HasList, HasNoList, RefusesList, FindsList}
use Rattle.jv_rows.specs.Readings.{ReadsRow}
use Rattle.jv_rows.specs.Tables.{slice_row}
use Rattle.jv_rows.specs.Transactions.{Agrees, BadFault, Looks}
use Rattle.jv_rows.specs.promise.Transactions.{IsBad, Malformed, NamesNone}
use Rattle.jv_rows.proofs.transactions.DraftLaws.{sees_stored}
use Rattle.jv_rows.proofs.transactions.TransactionLaws.{FailsBy, fails-memory, past-ends, fails-looks, fails-sees, stands-sees, as_stored}
use Rattle.jv_volume.specs.promise.TypedRows.{Rows, typed}
use Rattle.jv_volume.specs.promise.Views.{row_in, records_in, lists_of, slice_in}
use Rattle.jv_volume.specs.promise.Slices.{listed, records_naming, count_in}
use Rattle.jv_volume.specs.promise.Whole.{Whole}
use Rattle.jv_volume.proofs.stored.StoredLaws.{whole-typed}
use Rattle.jv_volume_bytes.proofs.BehindLaws.{naming-append}
use Rattle.jv_volume_bytes.proofs.BlockLaws.{naming-le}
use Rattle.jv_volume_bytes.proofs.CutLaws.{all-push, all-append}
use Rattle.jv_data.proofs.lists.CutListsLaws.{get-ended}
use Rattle.jv_data.proofs.lists.DroppedLaws.{get-without}
use Rattle.jv_data.specs.Truncating.{HasSlice, HaveSlices, records_of, Follow, ChecksSlice, ChecksSlices, Dropping, Dropped, DropsLists, IsLastBefore, LeaveSlices, SaysDue, EndsList, CutsLists}
use Rattle.jv_model.proofs.TestLaws.{if_some-by, of_known}

-- ---- readings of which the model sees nothing

pub looks-start : (store : Store) → Looks {A = Unit {0}} store store (Ok tt) (λ t. Ok tt)
looks-start store = record { rows_are = refl; opened_at = refl; counts = refl; agrees = λ known is whole bytes. refl; bad = tt }

pub looks-calm : (before after : Store) → after.rows ≡ before.rows → after.opened ≡ before.opened → after.faults ≡ before.faults
    → Looks {A = Unit {0}} before after (Ok tt) (λ t. Ok tt)
looks-calm before after rows_are opened_at calm =
    record { rows_are = rows_are; opened_at = opened_at; counts = calm; agrees = λ known is whole bytes. refl; bad = tt }

pub looks-then : (before middle after : Store) (result : Result (Unit {0}) TxFault) → Looks {A = Unit {0}} before middle (Ok tt) (λ t. Ok tt)
    → Looks {A = Unit {0}} middle after result (λ t. Ok tt) → Looks {A = Unit {0}} before after result (λ t. Ok tt)
looks-then before middle after result l m = past-ends before middle after (λ t. Ok tt) (λ t. Ok tt)
    (record { rows_are = l.rows_are; opened_at = l.opened_at; calm = l.counts; goes_on = λ known is whole bytes. refl }) result m

-- ---- a slice that a list names

-- a list with a record of a slice names it
some_named : (id : ℕ) → id ≢ 0 → (l : List Rec) → 0 < records_naming id l
    → list_any (λ r. not (r.id == 0) && is_key_of (slice_key r.id) (slice_key id)) l ≡ true
some_named id some [] naming = absurd (omega (arith, naming))
some_named id some (r ∷ rs) naming = elim (cases_eq r.id id) [
  | inl same ↦ or_left _ _ (ap (λ n. not (n == 0) && is_key_of (slice_key n) (slice_key id)) same
      ∙ ap (λ b. not b && is_key_of (slice_key id) (slice_key id)) (ne_eqb id 0 some) ∙ (eq_by_cmp_equiv row_key.total).refl (slice_key id))
  | inr apart ↦ or_right _ _ (some_named id some rs
      (let parts = naming-append id (r ∷ []) rs in
      let none : records_naming id (r ∷ []) ≡ 0 = ap (λ b. 0 + cond b 1 0) (ne_eqb r.id id apart) in
      omega (arith, parts, none, naming)))
]

module _ (inode window id : ℕ) (list : List Rec) (before after : Store) where
  abbrev key : RowKey
  key = slice_key id

  pub slice-seen : (result seen : Result (Option SliceRow) RowFault) → result ≡ seen → ReadsRow slice_of slice_bytes is_slice key before after result
      → Sees OfSlice is_slice key [] before after seen
  slice-seen result seen is r = sees_stored OfSlice slice_of 5 slice_row key refl slice_bytes is_slice [] before after seen refl
      (subst (ReadsRow slice_of slice_bytes is_slice key before after) is r)

  pub check-unread : (fault : RowFault) → Sees OfSlice is_slice key [] before after (Err fault) → ChecksSlice id before after (Err (OfRows fault))
  check-unread fault s = record {
    looks = fails-looks before after (λ t. Ok tt) (OfRows fault) (fails-sees OfSlice is_slice key [] before after (as_stored key before) fault s);
    slice = tt;
  }

  pub check-found : (slice : SliceRow) → Sees OfSlice is_slice key [] before after (Ok (Some slice)) → ChecksSlice id before after (Ok tt)
  check-found slice s = record {
    looks = looks-calm before after s.rows_are s.opened_at s.counts;
    slice = λ known is named. record { slice = slice; is = stands-sees OfSlice is_slice key [] before after (as_stored key before) (Some slice) s known is };
  }

  -- the list names a slice that has no row
  pub check-none : (at : RowKey) (bytes : List ℕ) → at ≡ list_key inode window → bytes ≡ list_bytes list → HasList before inode (window, list)
      → 0 < records_naming id list → id ≢ 0 → Sees OfSlice is_slice key [] before after (Ok None) → ChecksSlice id before after (Err (OfRows (Bad at bytes)))
  check-none at bytes at_is bytes_are there naming some s = record {
    looks = fails-looks before after (λ t. Ok tt) (OfRows (Bad at bytes)) (record {
      rows_are = s.rows_are;
      opened_at = s.opened_at;
      cause = s.counts;
      why = λ known is. (bad known is, λ whole. never known is whole);
    });
    slice = tt;
  }
    where
      stands : (known : RowMap) → before.rows ≡ Some known → get (typed known) (list_key inode window) ≡ Some (Ok (OfList list))
      stands known is = of_known (λ known. get (typed known) (list_key inode window) ≡ Some (Ok (OfList list))) before.rows known is there

      none : (known : RowMap) → before.rows ≡ Some known → get (typed known) key ≡ None
      none known is = stands-sees OfSlice is_slice key [] before after (as_stored key before) None s known is

      bad : (known : RowMap) → before.rows ≡ Some known → IsBad (typed known) at bytes
      bad known is = subst (λ (k : RowKey). IsBad (typed known) k bytes) (sym at_is)
          (NamesNone (OfList list) key (stands known is) bytes_are (some_named id some list naming) (none known is))

      never : (known : RowMap) → before.rows ≡ Some known → Whole (typed known) → ⊥
      never known is whole =
          let here : listed (list_key inode window) (get (typed known) (list_key inode window)) ≡ list = ap (λ c. records_in (row_in c)) (stands known is) in
          let all = naming-le (typed known) id (list_key inode window) in
          let mine = ap (records_naming id) here in
          let exact = whole.slices.exact id (omega (arith, some)) in
          let no : count_in (slice_in (row_in (get (typed known) key))) ≡ 0 = ap (λ c. count_in (slice_in (row_in c))) (none known is) in
          absurd (omega (arith, all, mine, exact, no, naming))

-- ---- all slices that a list names

-- the first records of a list name slices with rows
pub record IsChecking (list : List Rec) (before now : Store) (i : ℕ) : Type 0 where
  pub looks : Looks {A = Unit {0}} before now (Ok tt) (λ t. Ok tt)
  pub slices : (known : RowMap) → before.rows ≡ Some known → HaveSlices (typed known) (take i list)

pub checking-none : (list : List Rec) (store : Store) → IsChecking list store store 0
checking-none list store = record { looks = looks-start store; slices = λ known is. tt }

pub has_list-then : (before now : Store) (inode : ℕ) (found : ℕ × List Rec) → now.rows ≡ before.rows → HasList before inode found → HasList now inode found
has_list-then before now inode found rows_are h = subst (λ o. IfSome o (λ known. get (typed known) (list_key inode found.0) ≡ Some (Ok (OfList found.1)))) (sym rows_are) h

pub checking-more : (list : List Rec) (before now after : Store) (i : ℕ) (r none : Rec) → IsChecking list before now i → i < length list → r ≡ get_or list i none
    → ChecksSlice r.id now after (Ok tt) → IsChecking list before after (i + 1)
checking-more list before now after i r none c low is s = record {
  looks = looks-then before now after (Ok tt) c.looks s.looks;
  slices = λ known here. subst (HaveSlices (typed known)) (sym (next known))
      (all-push (λ r. r.id ≢ 0 → HasSlice (typed known) r.id) (take i list) r (c.slices known here) (λ named. s.slice known (c.looks.rows_are ∙ here) named));
}
  where
    one_more : i + 1 ≡ suc i
    one_more = omega arith

    next : (known : RowMap) → take (i + 1) list ≡ take i list ++ r ∷ []
    next known = ap (λ n. take n list) one_more ∙ take-suc list i none low ∙ ap (λ x. take i list ++ x ∷ []) (sym is)

pub checking-fails : (list : List Rec) (before now after : Store) (i id : ℕ) (fault : TxFault) → IsChecking list before now i
    → ChecksSlice id now after (Err fault) → ChecksSlices list before after (Err fault)
checking-fails list before now after i id fault c s = record { looks = looks-then before now after (Err fault) c.looks s.looks; slices = tt }

pub checking-all : (list : List Rec) (before now : Store) (i : ℕ) → IsChecking list before now i → take i list ≡ list → ChecksSlices list before now (Ok tt)
checking-all list before now i c all = record { looks = c.looks; slices = λ known is. subst (HaveSlices (typed known)) all (c.slices known is) }

-- ---- lists that are dropped

-- lists were dropped one after another
pub record IsDropping (inode : ℕ) (start now : Option ℕ) (before middle : Store) (changes changed : List Change) (gone : List Rec) : Type 0 where
  pub looks : Looks {A = Unit {0}} before middle (Ok tt) (λ t. Ok tt)
  pub so_far : (known : RowMap) → before.rows ≡ Some known → Dropping inode start now (typed known) (drafted changes known) (drafted changed known) gone

pub dropping-none : (inode : ℕ) (start : Option ℕ) (store : Store) (changes : List Change) (none : List Rec) → none ≡ []
    → IsDropping inode start start store store changes changes none
dropping-none inode start store changes none is = record {
  looks = looks-start store;
  so_far = λ known here. record { lists = []; follow = tt; now_is = refl; gone_is = is; is = refl };
}

module _ (inode : ℕ) (start now : Option ℕ) (before middle found : Store) (changes changed : List Change) (gone : List Rec)
    (d : IsDropping inode start now before middle changes changed gone) where
  -- the next list wasn't read
  pub dropping-unread : (fault : RowFault) → FindsList inode now middle found (Err fault) → DropsLists inode start before found changes changed (Err (OfRows fault))
  dropping-unread fault f = record {
    looks = looks-then before middle found (Err (OfRows fault)) d.looks (fails-looks middle found (λ t. Ok tt) (OfRows fault) (record {
      rows_are = f.rows_are;
      opened_at = f.opened_at;
      cause = f.counts;
      why = why fault f.refused;
    }));
    dropped = tt;
  }
    where
      why : (fault : RowFault) → RefusesList inode middle.rows fault → FailsBy middle.rows (OfRows fault)
      why (Bad at bytes) h = λ known is.
          let there = (of_known (λ known. (at.tab ≡ TABLE_OF_LISTS) × (get (typed known) at ≡ Some (Err bytes))) middle.rows known is h.1).1 in
          (Malformed there, λ whole. whole-typed (typed known) at bytes whole there)
      why Failed h = tt
      why Memory h = tt

  found_calm : (result : Option (ℕ × List Rec)) → FindsList inode now middle found (Ok result) → Looks {A = Unit {0}} before found (Ok tt) (λ t. Ok tt)
  found_calm result f = looks-then before middle found (Ok tt) d.looks (looks-calm middle found f.rows_are f.opened_at f.counts)

  -- there is none any more
  pub dropping-ends : FindsList inode now middle found (Ok None) → (records : List Rec) → records ≡ gone → DropsLists inode start before found changes changed (Ok records)
  dropping-ends f records same = record {
    looks = found_calm None f;
    dropped = λ known is. record {
      now = now;
      so_far = subst (Dropping inode start now (typed known) (drafted changes known) (drafted changed known)) (sym same) (d.so_far known is);
      ends = λ wide. f.least known (d.looks.rows_are ∙ is) wide;
    };
  }

  module _ (window : ℕ) (list : List Rec) (f : FindsList inode now middle found (Ok (Some (window, list)))) where
    pub dropping-fails : (after : Store) (last : List Change) (fault : TxFault) → ChecksSlices list found after (Err fault)
        → DropsLists inode start before after changes last (Err fault)
    dropping-fails after last fault s = record { looks = looks-then before found after (Err fault) (found_calm (Some (window, list)) f) s.looks; dropped = tt }

    module _ (after : Store) (s : ChecksSlices list found after (Ok tt)) where
      pub dropping-memory : (last : List Change) → DropsLists inode start before after changes last (Err (OfRows Memory))
      dropping-memory last = record {
        looks = looks-then before after after (Err (OfRows Memory)) (looks-then before found after (Ok tt) (found_calm (Some (window, list)) f) s.looks)
            (fails-looks after after (λ t. Ok tt) (OfRows Memory) (fails-memory after));
        dropped = tt;
      }

      pub dropping-more : (last : List Change) (more : List Rec) → ((known : RowMap) → drafted last known ≡ alter (drafted changed known) (list_key inode window) None)
          → more ≡ gone ++ list → IsDropping inode start (Some window) before after changes last more
      dropping-more last more dropped more_is = record {
        looks = looks-then before found after (Ok tt) (found_calm (Some (window, list)) f) s.looks;
        so_far = λ known is. (let p = d.so_far known is in record {
          lists = (window, list) ∷ p.lists;
          follow = (
            record {
              past = subst (λ o. is_past o window ≡ true) p.now_is f.past;
              small = f.small;
              there = of_known (λ known. get (typed known) (list_key inode window) ≡ Some (Ok (OfList list))) middle.rows known (d.looks.rows_are ∙ is) f.there;
              least = λ wide. subst (λ o. HasNoList (typed known) inode o (Some window)) p.now_is (f.least known (d.looks.rows_are ∙ is) wide);
              slices = s.slices known (f.rows_are ∙ d.looks.rows_are ∙ is);
            },
            p.follow,
          );
          now_is = refl;
          gone_is = more_is ∙ ap (λ l. l ++ list) p.gone_is;
          is = dropped known ∙ ap (λ (rows : Rows). alter rows (list_key inode window) None) p.is;
        });
      }

-- how many windows are still to be looked at
abbrev pub windows_left : Option ℕ → ℕ
windows_left None = 2 ^ 32 + 1
windows_left (Some window) = 2 ^ 32 - window

pub fewer-left : (now : Option ℕ) (window : ℕ) → is_past now window ≡ true → window < 2 ^ 32 → windows_left (Some window) < windows_left now
fewer-left None window past low = omega (arith, low)
fewer-left (Some w) window past low = (let more = ltb-true w window past in omega (arith, more, low))

-- ---- counts that follow

-- records of lists that follow one another name slices with rows
have_all : (rows : Rows) (inode : ℕ) (start : Option ℕ) (ds : List (ℕ × List Rec)) → Follow rows inode start ds → HaveSlices rows (records_of ds)
have_all rows inode start [] f = tt
have_all rows inode start (d ∷ ds) f = all-append (λ r. r.id ≢ 0 → HasSlice rows r.id) (records_of ds) d.1 (have_all rows inode start ds f.1) f.0.slices

pub has_named : (rows : Rows) (id : ℕ) → id ≢ 0 → (l : List Rec) → HaveSlices rows l → 0 < records_naming id l → HasSlice rows id
has_named rows id some [] all naming = absurd (omega (arith, naming))
has_named rows id some (r ∷ rs) all naming = elim (cases_eq r.id id) [
  | inl same ↦ subst (HasSlice rows) same (all.0 (λ zero. some (sym same ∙ zero)))
  | inr apart ↦ has_named rows id some rs all.1
      (let parts = naming-append id (r ∷ []) rs in
      let none : records_naming id (r ∷ []) ≡ 0 = ap (λ b. 0 + cond b 1 0) (ne_eqb r.id id apart) in
      omega (arith, parts, none, naming))
]

-- what a record that is named says
named_is : (gone : List Rec) (id : ℕ) → IsTrue (is_named gone [] id) → (id ≢ 0) × (0 < records_naming id gone)
named_is gone id is = by_count (id == 0) (records_naming id gone + 0 == 0) refl refl is
  where
    by_count : (a b : Bool) → (id == 0) ≡ a → (records_naming id gone + 0 == 0) ≡ b → (not a && not b) ≡ true → (id ≢ 0) × (0 < records_naming id gone)
    by_count true b e f h = absurd (cc)
    by_count false true e f h = absurd (cc)
    by_count false false e f h = (eqb-false id 0 e, (let n = eqb-false (records_naming id gone + 0) 0 f in omega (arith, n)))

module _ (gone : List Rec) (due : ℕ) (before after : Store) (changes changed : List Change)
    (have : (known : RowMap) → before.rows ≡ Some known → (id : ℕ) → id ≢ 0 → 0 < records_naming id gone → HasSlice (drafted changes known) id) where
  never_full : (fault : Fault) → FailsToRecount gone [] changes before.rows (Refused fault) → (known : RowMap) → before.rows ≡ Some known → ⊥
  never_full fault f known is =
      let full = of_known (λ known. IsFull f.id (records_naming f.id gone) 0 (drafted changes known)) before.rows known is f.why.1 in
      let fewer : nat_le (recounted full.slice.count (records_naming f.id gone) 0) full.slice.count ≡ true = le-leb _ _ (omega arith) in
      let both : true ≡ false = sym (or_right (nat_le (recounted full.slice.count (records_naming f.id gone) 0) FULL_COUNT) _ fewer) ∙ full.full in
      absurd (cc)

  never_bad : (at : RowKey) (bytes : List ℕ) → FailsToRecount gone [] changes before.rows (OfRows (Bad at bytes)) → (known : RowMap) → before.rows ≡ Some known → ⊥
  never_bad at bytes f known is =
      let p = named_is gone f.id f.named in
      let row = have known is f.id p.0 p.1 in
      let no = of_known (λ known. IsNoRow (get (drafted changes known) (slice_key f.id)) bytes) before.rows known is f.why.1 in
      subst (λ c. IsNoRow c bytes) row.is no

  agrees_by : (result : Result (Unit {0}) TxFault) → IfErr result (RefusesAdjust gone [] changes before.rows) → (known : RowMap) → before.rows ≡ Some known
      → Agrees {A = Unit {0}} result (Ok tt)
  agrees_by (Ok unit) h known is = refl
  agrees_by (Err (Refused fault)) h known is = absurd (never_full fault h known is)
  agrees_by (Err (Moved list)) h known is = h
  agrees_by (Err (OfRows (Bad at bytes))) h known is = never_bad at bytes h known is
  agrees_by (Err (OfRows Failed)) h known is = tt
  agrees_by (Err (OfRows Memory)) h known is = tt

  bad_by : (result : Result (Unit {0}) TxFault) → IfErr result (RefusesAdjust gone [] changes before.rows)
      → IfErr result (λ fault. IfSome before.rows (λ known. BadFault (typed known) fault))
  bad_by (Ok unit) h = tt
  bad_by (Err (Refused fault)) h = if_some-by (λ known. BadFault (typed known) (Refused fault)) before.rows (λ known is. tt)
  bad_by (Err (Moved list)) h = if_some-by (λ known. BadFault (typed known) (Moved list)) before.rows (λ known is. tt)
  bad_by (Err (OfRows (Bad at bytes))) h = if_some-by (λ known. BadFault (typed known) (OfRows (Bad at bytes))) before.rows (λ known is. absurd (never_bad at bytes h known is))
  bad_by (Err (OfRows Failed)) h = if_some-by (λ known. BadFault (typed known) (OfRows Failed)) before.rows (λ known is. tt)
  bad_by (Err (OfRows Memory)) h = if_some-by (λ known. BadFault (typed known) (OfRows Memory)) before.rows (λ known is. tt)

  pub adjust-looks : (result : Result (Unit {0}) TxFault) → Adjusts gone [] due before after changes changed result → Looks {A = Unit {0}} before after result (λ t. Ok tt)
  adjust-looks result a = record {
    rows_are = a.rows_are;
    opened_at = a.opened_at;
    counts = a.counts;
    agrees = λ known is whole bytes. agrees_by result a.refused known is;
    bad = bad_by result a.refused;
  }

module _ (inode len now due : ℕ) (start : Option ℕ) (before told ended dropped after : Store) (d0 d1 d2 d3 : List Change) (gone none : List Rec)
    (leave : LeaveSlices before.rows d0) (last : IsLastBefore len start) (t : SaysDue now before told (Ok due)) (e : EndsList inode len told ended d0 d1 (Ok tt))
    (d : DropsLists inode start ended dropped d1 d2 (Ok gone)) where
  so_far : Looks {A = Unit {0}} before dropped (Ok tt) (λ t. Ok tt)
  so_far = looks-then before ended dropped (Ok tt) (looks-then before told ended (Ok tt) t.looks e.looks) d.looks

  have_gone : (known : RowMap) → dropped.rows ≡ Some known → (id : ℕ) → id ≢ 0 → 0 < records_naming id gone → HasSlice (drafted d2 known) id
  have_gone known is id some naming =
      let at_ended : ended.rows ≡ Some known = sym d.looks.rows_are ∙ is in
      let at_told : told.rows ≡ Some known = sym e.looks.rows_are ∙ at_ended in
      let at_before : before.rows ≡ Some known = sym t.looks.rows_are ∙ at_told in
      let p = (d.dropped known at_ended).so_far in
      let row = has_named (typed known) id some (records_of p.lists) (have_all (typed known) inode start p.lists p.follow) (subst (λ l. 0 < records_naming id l) p.gone_is naming) in
      record {
        slice = row.slice;
        is = ap (λ (rows : Rows). get rows (slice_key id)) p.is
            ∙ get-without inode p.lists (drafted d1 known) (slice_key id) refl
            ∙ ap (λ (rows : Rows). get rows (slice_key id)) (e.ended known at_told)
            ∙ get-ended inode (len / WINDOW) (len % WINDOW) (drafted d0 known) (lists_of (typed known) inode (len / WINDOW)) (slice_key id) refl
            ∙ leave known at_before (slice_key id) refl
            ∙ row.is;
      }

  pub cut-ends : none ≡ [] → (result : Result (Unit {0}) TxFault) → Adjusts gone none due dropped after d2 d3 result → CutsLists inode len now before after d0 d3 result
  cut-ends is result adjusts = all result (subst (λ n. Adjusts gone n due dropped after d2 d3 result) is adjusts)
    where
      all : (result : Result (Unit {0}) TxFault) → Adjusts gone [] due dropped after d2 d3 result → CutsLists inode len now before after d0 d3 result
      all (Err fault) a = record { looks = looks-then before dropped after (Err fault) so_far (adjust-looks gone due dropped after d2 d3 have_gone (Err fault) a); cut = tt }
      all (Ok unit) a = record {
        looks = looks-then before dropped after (Ok tt) so_far (adjust-looks gone due dropped after d2 d3 have_gone (Ok tt) a);
        cut = λ known is. record {
          last = start;
          last_is = last;
          without = drafted d2 known;
          gone = gone;
          dropped = subst (λ (rows : Rows). Dropped inode start (typed known) rows (drafted d2 known) gone) (e.ended known (t.looks.rows_are ∙ is))
              (d.dropped known (e.looks.rows_are ∙ t.looks.rows_are ∙ is));
          due = due;
          is_due = t.due known is;
          adjusted = of_known (λ known. Adjusted gone [] due (drafted d2 known) (drafted d3 known)) dropped.rows known (so_far.rows_are ∙ is) a.done;
        };
      }
