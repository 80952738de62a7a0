-- What stands at a key after changes, and what a reading or a put of a row does over them.
use Rattle.std.proofs.Common.{◌≡◌, ℕ, suc, ◌-◌, ◌<◌, ◌≤◌, length, take, get_or, arith, Bool, true, false, cond, List, [], ◌∷◌, ◌++◌, Option, None, Some, Result, Ok, Err, ok_or, option_map, refl, sym, ap, ◌∙◌}
use Rattle.std.proofs.Math.Seq.{take-suc}
use Rattle.std.specs.Prelude.{if◌then◌else◌, OnOk, OnErr, IfSome}
use Rattle.std.specs.Option.{option_or}
use Rattle.std.specs.Ordering.{eq_by_cmp}
use Rattle.jv_model.specs.declared.row.RowKey.{RowKey}
use Rattle.jv_model.specs.declared.row.Row.{Row}
use Rattle.jv_model.specs.declared.fault.RowFault.{RowFault}
use Rattle.jv_model.specs.declared.fault.RowFault.TheVariants.{Bad, Failed, Memory}
use Rattle.jv_model.specs.promise.FiniteMap.{get}
use Rattle.jv_model.specs.FiniteMap.{alter}
use Rattle.jv_model.specs.promise.rows.RowGrammar.{row_of}
use Rattle.jv_model.specs.promise.rows.RowKeys.{RowMap, row_cmp}
use Rattle.jv_model.proofs.FiniteMapLaws.{get-alter}
use Rattle.jv_outside.specs.declared.batch.Change.{Change}
use Rattle.jv_outside.specs.declared.batch.Change.TheVariants.{Put, Del}
use Rattle.jv_outside.specs.promise.Rows.{after_change, applied}
use Rattle.jv_outside.specs.promise.Store.{Store}
use Rattle.jv_volume.specs.promise.TypedRows.{cell_of, typed}
use Rattle.jv_volume.proofs.maps.TypedLaws.{get-typed, typed-alter}
use Rattle.jv_rows.specs.Readings.{IsFound, RefusesRow, ReadsRow}
use Rattle.jv_rows.specs.Drafts.{key_in, bytes_in, last_change, ReadsPut, drafted, cell, RefusesCell, Sees, Drafts}

-- ---- the last change of a key

-- what changes leave at a key where there was a value before
abbrev pub left_by : Option Change → Option (List ℕ) → Option (List ℕ)
left_by None before = before
left_by (Some change) before = bytes_in change

changed : (change : Change) (rows : RowMap) (key : RowKey) → get (after_change change rows) key ≡ cond (eq_by_cmp row_cmp key (key_in change)) (bytes_in change) (get rows key)
changed (Put at bytes) rows key = get-alter rows at (Some bytes) key
changed (Del at) rows key = get-alter rows at None key

first_left : (change : Change) (b : Bool) (last : Option Change) (before : Option (List ℕ))
    → left_by last (cond b (bytes_in change) before) ≡ left_by (option_or last (if b then Some change else None)) before
first_left change true None before = refl
first_left change false None before = refl
first_left change b (Some other) before = refl

-- what stands at a key after changes
pub get-applied : (changes : List Change) (rows : RowMap) (key : RowKey) → get (applied changes rows) key ≡ left_by (last_change key changes) (get rows key)
get-applied [] rows key = refl
get-applied (first ∷ rest) rows key =
    get-applied rest (after_change first rows) key ∙ ap (left_by (last_change key rest)) (changed first rows key)
    ∙ first_left first (eq_by_cmp row_cmp key (key_in first)) (last_change key rest) (get rows key)

or_none : {A : Type 0} (o : Option A) → option_or o None ≡ o
or_none None = refl
or_none (Some x) = refl

or_or : {A : Type 0} (x y z : Option A) → option_or (option_or x y) z ≡ option_or x (option_or y z)
or_or None y z = refl
or_or (Some x) y z = refl

-- the last change of a key among changes and one more
pub last_change-push : (key : RowKey) (changes : List Change) (change : Change)
    → last_change key (changes ++ change ∷ []) ≡ option_or (if eq_by_cmp row_cmp key (key_in change) then Some change else None) (last_change key changes)
last_change-push key [] change = sym (or_none _)
last_change-push key (first ∷ rest) change =
    ap (λ o. option_or o (if eq_by_cmp row_cmp key (key_in first) then Some first else None)) (last_change-push key rest change)
    ∙ or_or (if eq_by_cmp row_cmp key (key_in change) then Some change else None) (last_change key rest) (if eq_by_cmp row_cmp key (key_in first) then Some first else None)

-- it is the one more, if that is of the key
pub last_is : (key : RowKey) (changes : List Change) (change : Change) → eq_by_cmp row_cmp key (key_in change) ≡ true → last_change key (changes ++ change ∷ []) ≡ Some change
last_is key changes change is = last_change-push key changes change ∙ ap (λ b. option_or (if b then Some change else None) (last_change key changes)) is

pub last_is_before : (key : RowKey) (changes : List Change) (change : Change) → eq_by_cmp row_cmp key (key_in change) ≡ false → last_change key (changes ++ change ∷ []) ≡ last_change key changes
last_is_before key changes change is = last_change-push key changes change ∙ ap (λ b. option_or (if b then Some change else None) (last_change key changes)) is

-- a search that goes back from the end: the last change of a key among those from the first on
taken : (changes : List Change) (rest : ℕ) (change : Change) → 0 < rest → rest ≤ length changes → change ≡ get_or changes (rest - 1) change
    → take rest changes ≡ take (rest - 1) changes ++ change ∷ []
taken changes rest change some within is =
    ap (λ n. take n changes) one_more ∙ take-suc changes (rest - 1) change (omega arith) ∙ ap (λ x. take (rest - 1) changes ++ x ∷ []) (sym is)
  where
    one_more : rest ≡ suc (rest - 1)
    one_more = omega arith

pub search_ends : (key : RowKey) (changes : List Change) (rest : ℕ) (change : Change) → 0 < rest → rest ≤ length changes → change ≡ get_or changes (rest - 1) change
    → last_change key (take rest changes) ≡ last_change key changes → true ≡ eq_by_cmp row_cmp key (key_in change) → Some change ≡ last_change key changes
search_ends key changes rest change some within is so_far same =
    sym (last_is key (take (rest - 1) changes) change (sym same)) ∙ ap (last_change key) (sym (taken changes rest change some within is)) ∙ so_far

pub search_goes_on : (key : RowKey) (changes : List Change) (rest : ℕ) (change : Change) → 0 < rest → rest ≤ length changes → change ≡ get_or changes (rest - 1) change
    → last_change key (take rest changes) ≡ last_change key changes → false ≡ eq_by_cmp row_cmp key (key_in change)
    → last_change key (take (rest - 1) changes) ≡ last_change key changes
search_goes_on key changes rest change some within is so_far other =
    sym (last_is_before key (take (rest - 1) changes) change (sym other)) ∙ ap (last_change key) (sym (taken changes rest change some within is)) ∙ so_far

-- ---- one more change

applied-push : (changes : List Change) (change : Change) (rows : RowMap) → applied (changes ++ change ∷ []) rows ≡ after_change change (applied changes rows)
applied-push [] change rows = refl
applied-push (first ∷ rest) change rows = applied-push rest change (after_change first rows)

-- a put of bytes that spell a row puts the row
pub drafted-put : (changes : List Change) (key : RowKey) (bytes : List ℕ) (row : Row) → row_of key.tab bytes ≡ Some row
    → (known : RowMap) → drafted (changes ++ Put key bytes ∷ []) known ≡ alter (drafted changes known) key (Some (Ok row))
unfolding drafted
drafted-put changes key bytes row is known =
    ap typed (applied-push changes (Put key bytes) known) ∙ typed-alter (applied changes known) key (Some bytes)
    ∙ ap (λ o. alter (typed (applied changes known)) key (Some (ok_or o bytes))) is

-- a delete takes the row away
pub drafted-del : (changes : List Change) (key : RowKey) (known : RowMap) → drafted (changes ++ Del key ∷ []) known ≡ alter (drafted changes known) key None
unfolding drafted
drafted-del changes key known =
    ap typed (applied-push changes (Del key) known) ∙ typed-alter (applied changes known) key None

-- a put or a delete of one more row, by its result
pub drafts_put : {E : Type 0} (key : RowKey) (bytes : List ℕ) (row : Row) (before after : List Change) (result : Result (Unit {0}) E) → row_of key.tab bytes ≡ Some row
    → OnOk result (after ≡ before ++ Put key bytes ∷ []) → OnErr result (after ≡ before) → Drafts key (Some (Ok row)) before after result
drafts_put key bytes row before after (Ok unit) is ok err = record { done = λ known. ap (λ changes. drafted changes known) ok ∙ drafted-put before key bytes row is known; undone = tt }
drafts_put key bytes row before after (Err e) is ok err = record { done = tt; undone = err }

pub drafts_del : {E : Type 0} (key : RowKey) (before after : List Change) (result : Result (Unit {0}) E)
    → OnOk result (after ≡ before ++ Del key ∷ []) → OnErr result (after ≡ before) → Drafts key None before after result
drafts_del key before after (Ok unit) ok err = record { done = λ known. ap (λ changes. drafted changes known) ok ∙ drafted-del before key known; undone = tt }
drafts_del key before after (Err e) ok err = record { done = tt; undone = err }

-- ---- a reading

-- what stands at a key after changes, by their last one of the key
cell_left : (changes : List Change) (known : RowMap) (key : RowKey) (last : Option Change) → last_change key changes ≡ last
    → get (drafted changes known) key ≡ option_map (cell_of key) (left_by last (get known key))
unfolding drafted
cell_left changes known key last is =
    get-typed (applied changes known) key ∙ ap (option_map (cell_of key)) (get-applied changes known key ∙ ap (λ o. left_by o (get known key)) is)

-- where no change is of a key, its row is as it is stored
pub stored-below : (changes : List Change) (known : RowMap) (key : RowKey) → last_change key changes ≡ None → get (drafted changes known) key ≡ get (typed known) key
stored-below changes known key none = cell_left changes known key None none ∙ sym (get-typed known key)

-- a table's grammar: what rows' bytes spell there
module _ {A : Type 0} (row : A → Row) (read : List ℕ → Option A) (tab : ℕ) (reads : (bytes : List ℕ) → row_of tab bytes ≡ option_map row (read bytes))
    (key : RowKey) (at : key.tab ≡ tab) where
  pub spelled_cell : (bytes : List ℕ) (o : Option A) → read bytes ≡ o → cell_of key bytes ≡ ok_or (option_map row o) bytes
  spelled_cell bytes o is = ap (λ t. ok_or (row_of t bytes) bytes) at ∙ ap (λ r. ok_or r bytes) (reads bytes) ∙ ap (λ r. ok_or (option_map row r) bytes) is

  -- nothing changed the key
  found_below : (spelled : A → List ℕ) (changes : List Change) (known : RowMap) → last_change key changes ≡ None
      → (found : Option A) → IsFound read spelled (get known key) found → get (drafted changes known) key ≡ cell row found
  found_below spelled changes known none None h = cell_left changes known key None none ∙ ap (option_map (cell_of key)) h
  found_below spelled changes known none (Some x) h =
      cell_left changes known key None none ∙ ap (option_map (cell_of key)) h.0 ∙ ap (λ c. Some c) (spelled_cell (spelled x) (Some x) h.1)

  malformed_below : (changes : List Change) (known : RowMap) (bytes : List ℕ) → last_change key changes ≡ None → read bytes ≡ None → get known key ≡ Some bytes
      → get (drafted changes known) key ≡ Some (Err bytes)
  malformed_below changes known bytes none bad there =
      cell_left changes known key None none ∙ ap (option_map (cell_of key)) there ∙ ap (λ c. Some c) (spelled_cell bytes None bad)

  in_known : (P Q : RowMap → Type 0) (rows : Option RowMap) → ((known : RowMap) → P known → Q known) → IfSome rows P → IfSome rows Q
  in_known P Q None f h = h
  in_known P Q (Some known) f h = f known h

  refused_below : (changes : List Change) (rows : Option RowMap) → last_change key changes ≡ None → (fault : RowFault) → RefusesRow read key rows fault → RefusesCell key changes rows fault
  refused_below changes rows none (Bad where_is bytes) h =
      (h.0, in_known (λ known. get known key ≡ Some bytes) (λ known. get (drafted changes known) key ≡ Some (Err bytes)) rows (λ known there. malformed_below changes known bytes none h.1 there) h.2)
  refused_below changes rows none Failed h = tt
  refused_below changes rows none Memory h = tt

  module _ (spelled : A → List ℕ) (is_allowed : A → Bool) (changes : List Change) where
    -- a reading of the keeper's row, where no change is of the key
    pub sees_stored : (before after : Store) (result : Result (Option A) RowFault) → last_change key changes ≡ None
        → ReadsRow read spelled is_allowed key before after result → Sees row is_allowed key changes before after result
    sees_stored before after (Ok found) none r = record {
      rows_are = r.rows_are;
      opened_at = r.opened_at;
      counts = r.counts;
      found = in_known (λ known. IsFound read spelled (get known key) found) (λ known. get (drafted changes known) key ≡ cell row found) before.rows (λ known h. found_below spelled changes known none found h) r.found;
      allowed = r.allowed;
      refused = tt;
    }
    sees_stored before after (Err fault) none r = record {
      rows_are = r.rows_are;
      opened_at = r.opened_at;
      counts = r.counts;
      found = tt;
      allowed = tt;
      refused = refused_below changes before.rows none fault r.refused;
    }

    always : (P : RowMap → Type 0) (rows : Option RowMap) → ((known : RowMap) → P known) → IfSome rows P
    always P None f = tt
    always P (Some known) f = f known

    -- a row that was taken away
    pub sees_deleted : (at_key : RowKey) (store : Store) → last_change key changes ≡ Some (Del at_key) → Sees row is_allowed key changes store store (Ok None)
    sees_deleted at_key store last = record {
      rows_are = refl;
      opened_at = refl;
      counts = refl;
      found = always (λ known. get (drafted changes known) key ≡ None) store.rows (λ known. cell_left changes known key (Some (Del at_key)) last);
      allowed = tt;
      refused = tt;
    }

    put_there : (at_key : RowKey) (bytes : List ℕ) (known : RowMap) (o : Option A) → last_change key changes ≡ Some (Put at_key bytes) → read bytes ≡ o
        → get (drafted changes known) key ≡ Some (ok_or (option_map row o) bytes)
    put_there at_key bytes known o last is = cell_left changes known key (Some (Put at_key bytes)) last ∙ ap (λ c. Some c) (spelled_cell bytes o is)

    -- a row that was put
    pub sees_put : (at_key : RowKey) (bytes : List ℕ) (store : Store) (result : Result (Option A) RowFault) → last_change key changes ≡ Some (Put at_key bytes)
        → ReadsPut read is_allowed key bytes result → Sees row is_allowed key changes store store result
    sees_put at_key bytes store (Ok None) last r = absurd r.found
    sees_put at_key bytes store (Ok (Some x)) last r = record {
      rows_are = refl;
      opened_at = refl;
      counts = refl;
      found = always (λ known. get (drafted changes known) key ≡ Some (Ok (row x))) store.rows (λ known. put_there at_key bytes known (Some x) last r.found.0);
      allowed = r.found.1;
      refused = tt;
    }
    sees_put at_key bytes store (Err (Bad bad_at malformed)) last r = record {
      rows_are = refl;
      opened_at = refl;
      counts = refl;
      found = tt;
      allowed = tt;
      refused = (
        r.refused.0,
        always (λ known. get (drafted changes known) key ≡ Some (Err malformed)) store.rows
            (λ known. put_there at_key bytes known None last r.refused.2 ∙ ap (λ b. Some (Err b)) (sym r.refused.1)),
      );
    }
    sees_put at_key bytes store (Err Failed) last r = absurd r.refused
    sees_put at_key bytes store (Err Memory) last r = record { rows_are = refl; opened_at = refl; counts = refl; found = tt; allowed = tt; refused = tt }
