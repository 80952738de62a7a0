-- One more record in a list: how its bytes are gone over, what is spelled with the record behind, and what becomes of the draft.
use Rattle.std.proofs.Common.{◌≡◌, ℕ, suc, ◌+◌, ◌-◌, ◌/◌, ◌<◌, ◌≤◌, ◌≢◌, Bool, true, false, cond, List, [], ◌∷◌, ◌++◌, length, Option, None, Some, Result, Ok, Err, option_map, refl, sym, ap, ◌∙◌, subst, arith, ne_eqb}
use Rattle.std.specs.Prelude.{◌&&◌, ◌==◌, not, IsTrue, OnOk, OnErr}
use Rattle.std.specs.List.{flat_map, list_all}
use Rattle.std.specs.Option.{IsSome, is_some}
use Rattle.std.proofs.lemmas.Bool.{and_parts}
use Rattle.std.proofs.lemmas.Grind.{flat_map-append}
use Rattle.std.proofs.lemmas.List.{append-nil}
use Rattle.std.proofs.lemmas.List.Concat.{flat_map-cons}
use Rattle.std.proofs.lemmas.List.Folds.{list_all-append}
use Rattle.jv_model.specs.declared.tables.TheConstants.{TABLE_OF_LISTS, RECORD_LENGTH}
use Rattle.jv_model.specs.declared.fault.Down.{Down}
use Rattle.jv_model.specs.declared.fault.Down.TheVariants.{Failed as DeviceFailed, Memory as DeviceMemory}
use Rattle.jv_model.specs.declared.fault.RowFault.{RowFault}
use Rattle.jv_model.specs.declared.fault.RowFault.TheVariants.{Bad, Failed, Memory}
use Rattle.jv_model.specs.declared.row.Row.TheVariants.{OfList}
use Rattle.jv_model.specs.declared.row.RowKey.{RowKey}
use Rattle.jv_model.specs.declared.slice.Rec.{Rec}
use Rattle.jv_model.specs.promise.FiniteMap.{get}
use Rattle.jv_model.specs.promise.blocks.Slices.{IsRecord, is_record}
use Rattle.jv_model.specs.rows.RowFaults.{row_fault}
use Rattle.jv_model.specs.promise.Optional.{◌>>=◌}
use Rattle.jv_model.specs.promise.rows.RowFields.{whole}
use Rattle.jv_model.specs.promise.rows.RowGrammar.{record_at, record_bytes, records_at, is_list, list_bytes, list_of, row_of}
use Rattle.jv_model.specs.promise.rows.RowKeys.{RowMap}
use Rattle.jv_model.specs.promise.rows.RowPlaces.{list_key}
use Rattle.jv_model.proofs.TestLaws.{some_of, and_false, if_some-by, of_known}
use Rattle.jv_model.specs.promise.Lists.{is_nil}
use Rattle.jv_outside.specs.declared.batch.Change.{Change}
use Rattle.jv_outside.specs.declared.batch.Change.TheVariants.{Put}
use Rattle.jv_outside.specs.promise.Rows.{applied}
use Rattle.jv_outside.specs.promise.Store.{Store}
use Rattle.jv_outside.specs.Store.{Finds}
use Rattle.jv_volume.specs.promise.TypedRows.{cell_of}
use Rattle.jv_volume.proofs.maps.TypedLaws.{get-typed}
use Rattle.jv_rows.specs.declared.misread.Misread.{Misread}
use Rattle.jv_rows.specs.declared.misread.Misread.TheVariants.{Malformed, Memory as MisreadMemory}
use Rattle.jv_rows.specs.Appending.{FindsLeft, reading, AppendsTo, Appends}
use Rattle.jv_rows.specs.Drafts.{last_change, cell, drafted, ReadsPut, Sees, Drafts}
use Rattle.jv_rows.specs.Reads.{Misses}
use Rattle.jv_model.specs.Lists.{AreBytes}
use Rattle.jv_rows.specs.RoundTrips.{RecordWidths, ListWidths}
use Rattle.jv_rows.specs.Tables.{list_row}
use Rattle.jv_rows.proofs.transactions.DraftLaws.{left_by, get-applied, spelled_cell, drafts_put}
use Rattle.jv_rows.proofs.grammars.ExactListLaws.{list_exact}
use Rattle.jv_rows.proofs.grammars.ReaderLaws.{some_is}

-- ---- records gone over one after the other

-- whether all bytes were read, as records that the grammar allows
abbrev pub is_well : Option (List Rec × List ℕ) → Bool
is_well None = false
is_well (Some x) = is_nil x.1 && list_all is_record x.0

-- an allowed record more changes nothing, and another spoils all
well-record : (r : Rec) (b : Bool) (others : Option (List Rec × List ℕ)) → is_record r ≡ b
    → is_well (others >>= λ x. Some (r ∷ x.0, x.1)) ≡ (b && is_well others)
well-record r true None is = refl
well-record r false None is = refl
well-record r true (Some x) is = ap (λ (c : Bool). is_nil x.1 && (c && list_all is_record x.0)) is
well-record r false (Some x) is = ap (λ (c : Bool). is_nil x.1 && (c && list_all is_record x.0)) is ∙ and_false (is_nil x.1)

-- how many records are left: one, and those behind it
one_more : (count i : ℕ) → i < count → count - i ≡ suc (count - (i + 1))
one_more count i lt = omega arith

gone_over : (count i : ℕ) (bytes : List ℕ) (r : Rec) (after : List ℕ) (b : Bool) → i < count → record_at bytes ≡ Some (r, after) → is_record r ≡ b
    → is_well (records_at (count - i) bytes) ≡ (b && is_well (records_at (count - (i + 1)) after))
unfolding records_at
gone_over count i bytes r after b lt h is =
    ap (λ (n : ℕ). is_well (records_at n bytes)) (one_more count i lt)
    ∙ ap (λ (o : Option (Rec × List ℕ)). is_well (o >>= λ first. records_at (count - (i + 1)) first.1 >>= λ others. Some (first.0 ∷ others.0, others.1))) h
    ∙ well-record r b (records_at (count - (i + 1)) after) is

some_records : (n : ℕ) (bytes : List ℕ) (x : List Rec × List ℕ) → records_at (suc n) bytes ≡ Some x → not (is_nil x.0) ≡ true
unfolding records_at
some_records n bytes x e = first (record_at bytes) x e
  where
    behind : (r : Rec) (o : Option (List Rec × List ℕ)) (x : List Rec × List ℕ) → (o >>= λ others. Some (r ∷ others.0, others.1)) ≡ Some x → not (is_nil x.0) ≡ true
    behind r None x e = absurd (cc)
    behind r (Some y) x e = (let same : (r ∷ y.0, y.1) ≡ x = some_is (r ∷ y.0, y.1) x e in ap (λ (z : List Rec × List ℕ). not (is_nil z.0)) (sym same))

    first : (o : Option (Rec × List ℕ)) (x : List Rec × List ℕ) → (o >>= λ first. records_at n first.1 >>= λ others. Some (first.0 ∷ others.0, others.1)) ≡ Some x → not (is_nil x.0) ≡ true
    first None x e = absurd (cc)
    first (Some y) x e = behind y.0 (records_at n y.1) x e

module _ (bytes : List ℕ) (count : ℕ) (count_is : count ≡ length bytes / RECORD_LENGTH) where
  -- records that aren't well are no list
  no_list : is_well (records_at count bytes) ≡ false → list_of bytes ≡ None
  unfolding list_of
  no_list h = none (records_at (length bytes / RECORD_LENGTH) bytes) (ap (λ (n : ℕ). is_well (records_at n bytes)) (sym count_is) ∙ h)
    where
      either : (a b c : Bool) (rs : List Rec) → (a && b) ≡ false → cond (a && (c && b)) (Some rs) None ≡ None
      either true b true rs h = ap (λ (t : Bool). cond t (Some rs) None) h
      either true b false rs h = refl
      either false b c rs h = refl

      none : (o : Option (List Rec × List ℕ)) → is_well o ≡ false → (o >>= λ records. whole is_list records.0 records.1) ≡ None
      none None h = refl
      none (Some x) h = either (is_nil x.1) (list_all is_record x.0) (not (is_nil x.0)) x.0 h

  pub too_short : count ≡ 0 → list_of bytes ≡ None
  unfolding list_of records_at
  too_short none =
      ap (λ (n : ℕ). records_at n bytes >>= λ records. whole is_list records.0 records.1) (sym count_is ∙ none) ∙ not_whole (is_nil bytes)
    where
      not_whole : (b : Bool) → ◌≡◌ {A = Option (List Rec)} (cond (b && false) (Some []) None) None
      not_whole true = refl
      not_whole false = refl

  module _ (i : ℕ) (rest : List ℕ) (so_far : is_well (records_at (count - i) rest) ≡ is_well (records_at count bytes)) where
    pub goes_over : (r : Rec) (after : List ℕ) → i < count → record_at rest ≡ Some (r, after) → is_record r ≡ true
        → is_well (records_at (count - (i + 1)) after) ≡ is_well (records_at count bytes)
    goes_over r after lt h is = sym (gone_over count i rest r after true lt h is) ∙ so_far

    pub spoils : (r : Rec) (after : List ℕ) → i < count → record_at rest ≡ Some (r, after) → is_record r ≡ false → list_of bytes ≡ None
    spoils r after lt h is = no_list (sym so_far ∙ gone_over count i rest r after false lt h is)

    pub stops : (e : Misread) → i < count → Misses e (record_at rest) → Misses e (list_of bytes)
    unfolding records_at
    stops MisreadMemory lt h = tt
    stops Malformed lt h =
        no_list (sym so_far ∙ ap (λ (n : ℕ). is_well (records_at n rest)) (one_more count i lt)
        ∙ ap (λ (o : Option (Rec × List ℕ)). is_well (o >>= λ first. records_at (count - (i + 1)) first.1 >>= λ others. Some (first.0 ∷ others.0, others.1))) h)

    -- at the end bytes are left, or none
    over : count ≤ i → (is_nil rest && true) ≡ is_well (records_at count bytes)
    unfolding records_at
    over le = (let none : count - i ≡ 0 = omega arith in ap (λ (n : ℕ). is_well (records_at n rest)) (sym none)) ∙ so_far

    -- whether bytes are left, by the test of their length
    nothing_left : (rest : List ℕ) (b : Bool) → b ≡ (length rest == 0) → (is_nil rest && true) ≡ b
    nothing_left [] b test = sym test
    nothing_left (byte ∷ rest) b test = (let some : length (byte ∷ rest) ≢ 0 = omega arith in sym (test ∙ ne_eqb (length (byte ∷ rest)) 0 some))

    pub left_over : count ≤ i → false ≡ (length rest == 0) → list_of bytes ≡ None
    left_over le test = no_list (sym (over le) ∙ nothing_left rest false test)

    pub all_over : count ≤ i → count ≢ 0 → true ≡ (length rest == 0) → IsSome (list_of bytes)
    unfolding list_of
    all_over le some test =
        listed (records_at (length bytes / RECORD_LENGTH) bytes) (λ x e. some_records (count - 1) bytes x (ap (λ (n : ℕ). records_at n bytes) (sym one ∙ count_is) ∙ e))
        (ap (λ (n : ℕ). is_well (records_at n bytes)) (sym count_is) ∙ sym (over le) ∙ nothing_left rest true test)
      where
        one : count ≡ suc (count - 1)
        one = omega arith

        both : (a b c : Bool) (rs : List Rec) → (a && b) ≡ true → c ≡ true → is_some (cond (a && (c && b)) (Some rs) None) ≡ true
        both a b true rs h is = ap (λ (t : Bool). is_some (cond t (Some rs) None)) h
        both a b false rs h is = absurd (cc)

        listed : (o : Option (List Rec × List ℕ)) → ((x : List Rec × List ℕ) → o ≡ Some x → not (is_nil x.0) ≡ true) → is_well o ≡ true
            → is_some (o >>= λ records. whole is_list records.0 records.1) ≡ true
        listed None some h = absurd (cc)
        listed (Some x) some h = both (is_nil x.1) (list_all is_record x.0) (not (is_nil x.0)) x.0 h (some x refl)

-- ---- a record behind a list

-- a list with one more record is one that the grammar allows
pub is_list-push : (list : List Rec) (rec : Rec) → IsTrue (list_all is_record list) → IsRecord rec → IsTrue (is_list (list ++ rec ∷ []))
is_list-push list rec all is = some list (list_all-append is_record list (rec ∷ []) ∙ (λ i. all i && (is i && true)))
  where
    some : (list : List Rec) → list_all is_record (list ++ rec ∷ []) ≡ true → (not (is_nil (list ++ rec ∷ [])) && list_all is_record (list ++ rec ∷ [])) ≡ true
    some [] e = e
    some (r ∷ rs) e = e

widths-push : (list : List Rec) (rec : Rec) → ListWidths list → RecordWidths rec → ListWidths (list ++ rec ∷ [])
widths-push [] rec all is = (is, tt)
widths-push (r ∷ rs) rec all is = (all.0, widths-push rs rec all.1 is)

bytes-push : (list : List Rec) (rec : Rec) → list_bytes (list ++ rec ∷ []) ≡ list_bytes list ++ record_bytes rec
unfolding list_bytes
bytes-push list rec =
    flat_map-append record_bytes list (rec ∷ [])
    ∙ ap (λ (t : List ℕ). flat_map record_bytes list ++ t) (flat_map-cons record_bytes rec [] ∙ append-nil (record_bytes rec))

-- the row that is spelled by the bytes of a list, or none, and those of a record behind them
row-push : (list : List Rec) (rec : Rec) → ListWidths list → IsTrue (list_all is_record list) → RecordWidths rec → IsRecord rec
    → row_of TABLE_OF_LISTS (list_bytes list ++ record_bytes rec) ≡ Some (OfList (list ++ rec ∷ []))
row-push list rec widths all low is =
    ap (row_of TABLE_OF_LISTS) (sym (bytes-push list rec)) ∙ list_row (list_bytes (list ++ rec ∷ []))
    ∙ ap (option_map OfList) (list_exact.again (list ++ rec ∷ []) (widths-push list rec widths low) (is_list-push list rec all is))

-- the bytes of a list, or none, and those of a record behind them are a list's
longer-push : (list : List Rec) (bytes : List ℕ) (rec : Rec) → bytes ≡ list_bytes list → ListWidths list → IsTrue (list_all is_record list) → RecordWidths rec → IsRecord rec
    → IsSome (list_of (bytes ++ record_bytes rec))
longer-push list bytes rec spelled widths all low is =
    subst IsSome
    (sym (ap (λ (b : List ℕ). list_of (b ++ record_bytes rec)) spelled ∙ ap list_of (sym (bytes-push list rec))
    ∙ list_exact.again (list ++ rec ∷ []) (widths-push list rec widths low) (is_list-push list rec all is)))
    refl

pub longer-found : (bytes : List ℕ) (rec : Rec) → AreBytes bytes → IsSome (list_of bytes) → RecordWidths rec → IsRecord rec → IsSome (list_of (bytes ++ record_bytes rec))
longer-found bytes rec are spelled low is =
    let list = some_of (list_of bytes) spelled in
    longer-push list.0 bytes rec (list_exact.same bytes list.0 are list.1) (list_exact.widths bytes list.0 are list.1)
    (and_parts _ (list_all is_record list.0) (list_exact.allowed bytes list.0 are list.1)).1 low is

pub longer-first : (rec : Rec) → RecordWidths rec → IsRecord rec → IsSome (list_of ([] ++ record_bytes rec))
unfolding list_bytes
longer-first rec low is = longer-push [] [] rec refl tt refl low is

-- ---- what becomes of the draft

module _ (key : RowKey) (at : key.tab ≡ TABLE_OF_LISTS) (rec : Rec) (low : RecordWidths rec) (is : IsRecord rec) (changes : List Change) where
  -- a put of a list's bytes with those of the record behind
  drafts-push : {E : Type 0} (list : List Rec) (bytes : List ℕ) (left : List Change) (result : Result (Unit {0}) E) → bytes ≡ list_bytes list → ListWidths list → IsTrue (list_all is_record list)
      → OnOk result (left ≡ changes ++ Put key (bytes ++ record_bytes rec) ∷ []) → OnErr result (left ≡ changes)
      → Drafts key (cell OfList (Some (list ++ rec ∷ []))) changes left result
  drafts-push list bytes left result spelled widths all ok err =
      drafts_put key (bytes ++ record_bytes rec) (OfList (list ++ rec ∷ [])) changes left result
      (ap (λ (t : ℕ). row_of t (bytes ++ record_bytes rec)) at ∙ ap (λ (b : List ℕ). row_of TABLE_OF_LISTS (b ++ record_bytes rec)) spelled ∙ row-push list rec widths all low is) ok err

  pub appends_to-done : (bytes : List ℕ) (left : List Change) → AreBytes bytes → IsSome (list_of bytes) → left ≡ changes ++ Put key (bytes ++ record_bytes rec) ∷ []
      → AppendsTo key bytes rec changes left (Ok tt)
  appends_to-done bytes left are spelled ok =
      let list = some_of (list_of bytes) spelled in
      let allowed = list_exact.allowed bytes list.0 are list.1 in
      record {
        found = Some list.0;
        read = record { found = (list.1, allowed); refused = tt };
        drafts = drafts-push list.0 bytes left (Ok tt) (list_exact.same bytes list.0 are list.1) (list_exact.widths bytes list.0 are list.1)
            (and_parts _ (list_all is_record list.0) allowed).1 ok tt;
      }

pub appends_to-malformed : (key : RowKey) (bytes : List ℕ) (rec : Rec) (changes : List Change) → list_of bytes ≡ None → AppendsTo key bytes rec changes changes (Err (Bad key bytes))
appends_to-malformed key bytes rec changes none = record {
  found = None;
  read = record { found = tt; refused = (refl, refl, none) };
  drafts = record { done = tt; undone = refl };
}

pub appends_to-memory : (key : RowKey) (bytes : List ℕ) (rec : Rec) (changes left : List Change) → left ≡ changes → AppendsTo key bytes rec changes left (Err Memory)
appends_to-memory key bytes rec changes left same = record {
  found = None;
  read = record { found = tt; refused = tt };
  drafts = record { done = tt; undone = same };
}

-- ---- the bytes that are found

pub finds-stored : (changes : List Change) (key : RowKey) (before after : Store) (result : Result (Option (List ℕ)) Down) → None ≡ last_change key changes
    → Finds before after result key → FindsLeft changes key before after result
finds-stored changes key before after (Ok found) none f = (
  f.0,
  if_some-by (λ known. found ≡ get (applied changes known) key) before.rows (λ known here. of_known (λ known. found ≡ get known key) before.rows known here f.1
      ∙ sym (get-applied changes known key ∙ ap (λ o. left_by o (get known key)) (sym none))),
)
finds-stored changes key before after (Err down) none f = f

pub finds-changed : (changes : List Change) (key : RowKey) (store : Store) (change : Change) (found : Option (List ℕ)) → Some change ≡ last_change key changes
    → found ≡ left_by (Some change) None → FindsLeft changes key store store (Ok found)
finds-changed changes key store change found last is = (
  record { content_is = refl; opened_at = refl; calm = refl },
  if_some-by (λ known. found ≡ get (applied changes known) key) store.rows (λ known here.
      is ∙ sym (get-applied changes known key ∙ ap (λ o. left_by o (get known key)) (sym last))),
)

module _ (inode window : ℕ) (rec : Rec) (changes : List Change) where
  abbrev key : RowKey
  key = list_key inode window

  there : (known : RowMap) (found : Option (List ℕ)) → found ≡ get (applied changes known) key → get (drafted changes known) key ≡ option_map (cell_of key) found
  unfolding drafted
  there known found is = get-typed (applied changes known) key ∙ ap (option_map (cell_of key)) (sym is)

  sees-bytes : (before after : Store) (bytes : List ℕ) (result : Result (Option (List Rec)) RowFault) → FindsLeft changes key before after (Ok (Some bytes))
      → ReadsPut list_of is_list key bytes result → Sees OfList is_list key changes before after result
  sees-bytes before after bytes (Ok None) f r = absurd r.found
  sees-bytes before after bytes (Ok (Some list)) f r = record {
    rows_are = f.0.content_is;
    opened_at = f.0.opened_at;
    counts = f.0.calm;
    found = if_some-by (λ known. get (drafted changes known) key ≡ Some (Ok (OfList list))) before.rows (λ known here.
        there known (Some bytes) (of_known (λ known. Some bytes ≡ get (applied changes known) key) before.rows known here f.1)
        ∙ ap (λ c. Some c) (spelled_cell OfList list_of 4 list_row key refl bytes (Some list) r.found.0));
    allowed = r.found.1;
    refused = tt;
  }
  sees-bytes before after bytes (Err (Bad bad_at malformed)) f r = record {
    rows_are = f.0.content_is;
    opened_at = f.0.opened_at;
    counts = f.0.calm;
    found = tt;
    allowed = tt;
    refused = (
      r.refused.0,
      if_some-by (λ known. get (drafted changes known) key ≡ Some (Err malformed)) before.rows (λ known here.
          there known (Some bytes) (of_known (λ known. Some bytes ≡ get (applied changes known) key) before.rows known here f.1)
          ∙ ap (λ c. Some c) (spelled_cell OfList list_of 4 list_row key refl bytes None r.refused.2)
          ∙ ap (λ (b : List ℕ). Some (Err b)) (sym r.refused.1)),
    );
  }
  sees-bytes before after bytes (Err Failed) f r = absurd r.refused
  sees-bytes before after bytes (Err Memory) f r = record { rows_are = f.0.content_is; opened_at = f.0.opened_at; counts = f.0.calm; found = tt; allowed = tt; refused = tt }

  -- a list was found
  pub appends-found : (before after : Store) (bytes : List ℕ) (left : List Change) (result : Result (Unit {0}) RowFault) → FindsLeft changes key before after (Ok (Some bytes))
      → AppendsTo key bytes rec changes left result → Appends inode window rec changes left before after result
  appends-found before after bytes left result f a = record { found = a.found; sees = sees-bytes before after bytes (reading a.found result) f a.read; drafts = a.drafts }

  -- there is no row
  pub appends-first : (low : RecordWidths rec) (is : IsRecord rec) (before after : Store) (left : List Change) → FindsLeft changes key before after (Ok None)
      → left ≡ changes ++ Put key ([] ++ record_bytes rec) ∷ [] → Appends inode window rec changes left before after (Ok tt)
  unfolding list_bytes
  appends-first low is before after left f ok = record {
    found = None;
    sees = record {
      rows_are = f.0.content_is;
      opened_at = f.0.opened_at;
      counts = f.0.calm;
      found = if_some-by (λ known. get (drafted changes known) key ≡ None) before.rows (λ known here.
          there known None (of_known (λ known. None ≡ get (applied changes known) key) before.rows known here f.1));
      allowed = tt;
      refused = tt;
    };
    drafts = drafts-push key refl rec low is changes [] [] left (Ok tt) refl tt refl ok tt;
  }

  pub appends-memory : (before after : Store) (found : Option (List ℕ)) (left : List Change) → FindsLeft changes key before after (Ok found) → left ≡ changes
      → Appends inode window rec changes left before after (Err Memory)
  appends-memory before after found left f same = record {
    found = None;
    sees = record { rows_are = f.0.content_is; opened_at = f.0.opened_at; counts = f.0.calm; found = tt; allowed = tt; refused = tt };
    drafts = record { done = tt; undone = same };
  }

  -- no key was made
  pub appends-none : (store : Store) → Appends inode window rec changes changes store store (Err Memory)
  appends-none store = record {
    found = None;
    sees = record { rows_are = refl; opened_at = refl; counts = refl; found = tt; allowed = tt; refused = tt };
    drafts = record { done = tt; undone = refl };
  }

  pub appends-down : (before after : Store) (down : Down) → FindsLeft changes key before after (Err down) → Appends inode window rec changes changes before after (Err (row_fault down))
  appends-down before after DeviceFailed f = record {
    found = None;
    sees = record { rows_are = f.content_is; opened_at = f.opened_at; counts = f.cause; found = tt; allowed = tt; refused = tt };
    drafts = record { done = tt; undone = refl };
  }
  appends-down before after DeviceMemory f = record {
    found = None;
    sees = record { rows_are = f.content_is; opened_at = f.opened_at; counts = f.cause; found = tt; allowed = tt; refused = tt };
    drafts = record { done = tt; undone = refl };
  }
