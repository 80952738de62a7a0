-- What a scan of one row behind a window's finds: the next list of the file.
use Rattle.std.proofs.Common.{◌≡◌, ℕ, ◌^◌, Bool, true, false, List, [], ◌∷◌, ◌++◌, length, Option, None, Some, Ok, Err, not, refl, sym, ap, subst, ◌∙◌, eq-eqb, eqb-true, true≢false}
use Rattle.std.specs.Prelude.{◌==◌, if◌then◌else◌, IfSome, IsTrue}
use Rattle.std.specs.Int.{w32, from_be_bytes}
use Rattle.std.specs.List.{AllByRecursion}
use Rattle.std.specs.Option.{option_map}
use Rattle.std.proofs.lemmas.Option.{IfSome_then}
use Rattle.jv_model.specs.declared.tables.TheConstants.{TABLE_OF_LISTS}
use Rattle.jv_model.specs.declared.fault.RowFault.{RowFault}
use Rattle.jv_model.specs.declared.fault.RowFault.TheVariants.{Bad, Failed, Memory}
use Rattle.jv_model.specs.declared.row.Row.{Row}
use Rattle.jv_model.specs.declared.row.Row.TheVariants.{OfList}
use Rattle.jv_model.specs.declared.row.RowKey.{RowKey}
use Rattle.jv_model.specs.declared.slice.Rec.{Rec}
use Rattle.jv_model.specs.promise.FiniteMap.{get}
use Rattle.jv_model.specs.promise.rows.RowFields.{word}
use Rattle.jv_model.specs.promise.rows.RowGrammar.{list_of}
use Rattle.jv_model.specs.rows.RowGrammar.{is_row}
use Rattle.jv_model.specs.promise.rows.RowKeys.{RowMap, row_key}
use Rattle.jv_model.specs.promise.rows.RowPlaces.{list_key}
use Rattle.jv_model.proofs.FiniteMapLaws.{first_where-found}
use Rattle.std.proofs.lemmas.Bool.{not-false}
use Rattle.jv_outside.specs.Rows.{rows_after}
use Rattle.jv_outside.specs.promise.Store.{Store}
use Rattle.jv_volume.specs.promise.TypedRows.{typed}
use Rattle.jv_rows.specs.Lists.{is_past, if_past, last_list_key, window_in, list_past, list_of_row, is_of_another, IsSpelled, HasNoList, HaveWindows, RefusesList, FindsList}
use Rattle.jv_rows.specs.Scans.{rows_read, AreAllowed, RefusesScan, ScansRows}
use Rattle.jv_rows.specs.Tables.{list_row}
use Rattle.jv_rows.proofs.scans.NextRowLaws.{word-less, word_below, IsRead, first_behind, off-one, of_read, passes, tab_of}
use Rattle.jv_rows.proofs.scans.NumberedRowsLaws.{NumberedTable, number_at, HasNumber, has_number, read_place, read_row, read_cell, read_there, none_between, none_behind}
use Rattle.jv_rows.proofs.scans.ScannedLaws.{off-scan}
use Rattle.jv_model.proofs.TestLaws.{if_some-by, of_known}

-- the lists of files, by their windows
abbrev lists : NumberedTable
lists = record {
  tab = TABLE_OF_LISTS;
  width = 4;
  limit = 2 ^ 32;
  bytes_of = word;
  number_of = from_be_bytes w32;
  some_bytes = λ n. refl;
  bytes_rise = word-less;
  below_limit = word_below;
}

-- ---- the list of a row

-- what was found is the row's list at its key's window
abbrev IsListOf : ℕ → Option ℕ → RowKey → Row → ℕ × List Rec → Type 0
IsListOf inode last key row found = HasNumber lists inode last key found.0 × (row ≡ OfList found.1)

module _ (inode : ℕ) (last : Option ℕ) (key : RowKey) (spelled : IsSpelled key) where
  -- what was found is the row's list, and has the number
  abbrev IsNumbered : List Rec → Option (ℕ × List Rec) → Option ℕ → Type 0
  IsNumbered records found number = (option_map (λ f. f.0) found ≡ number) × IfSome found (IsListOf inode last key (OfList records))

  list_numbered : (records : List Rec) → IsNumbered records (list_of_row inode last key (OfList records)) (number_at lists inode last key)
  list_numbered records = by_owner (key.a == inode) (window_in key.b) (has_number lists inode last key spelled)
    where
      by_past : (b : Bool) (window : ℕ) → IfSome (if b then Some window else None) (HasNumber lists inode last key)
          → IsNumbered records (if b then Some (window, records) else None) (if b then Some window else None)
      by_past true window has = (refl, (has, refl))
      by_past false window has = (refl, tt)

      by_owner : (b : Bool) (o : Option ℕ) → IfSome (if b then if_past last o else None) (HasNumber lists inode last key)
          → IsNumbered records (if b then list_past last o records else None) (if b then if_past last o else None)
      by_owner true None has = (refl, tt)
      by_owner true (Some window) has = by_past (is_past last window) window has
      by_owner false o has = (refl, tt)

  list_found : (row : Row) → IfSome (list_of_row inode last key row) (IsListOf inode last key row)
  list_found (OfList records) = (list_numbered records).1
  list_found _ = tt

list_is : (o : Option (List Rec)) (row : Row) → option_map OfList o ≡ Some row → (records : List Rec) × (row ≡ OfList records)
list_is None row h = absurd (cc)
list_is (Some records) row h = (records, cc)

-- ---- the row wasn't read

-- the first row behind a key
first_off : (last : RowKey) (before : Store) (at : RowKey) (bytes : List ℕ) → RefusesScan before.rows 4 (Some last) 1 (Bad at bytes) → (known : RowMap)
    → before.rows ≡ Some known
    → first_behind 4 last known ≡ Some (at, bytes)
first_off last before at bytes h known is =
    off-one 4 last known (at, bytes) (of_known (λ known. rows_read (rows_after known 4 (Some last) 1) ≡ Err (at, bytes)) before.rows known is h.1)

refuses : (inode : ℕ) (last : RowKey) (before now : Store) (fault : RowFault) → is_of_another inode fault ≡ false → RefusesScan before.rows 4 (Some last) 1 fault
    → RefusesList inode before.rows fault
refuses inode last before now (Bad at bytes) own h = (
  eqb-true at.a inode (not-false (at.a == inode) own),
  if_some-by (λ known. (at.tab ≡ TABLE_OF_LISTS) × (get (typed known) at ≡ Some (Err bytes))) before.rows (λ known is. (
    (tab_of 4 last at bytes (first_where-found row_key (passes 4 last) known (at, bytes) (first_off last before at bytes h known is)).passes).0,
    off-scan 4 (Some last) 1 before now at bytes h known is,
  )),
)
refuses inode last before now Failed own h = tt
refuses inode last before now Memory own h = tt

pub finds-unread : (inode : ℕ) (last : Option ℕ) (after : RowKey) (before now : Store) (fault : RowFault) → is_of_another inode fault ≡ false
    → ScansRows 4 (Some after) 1 before now (Err fault)
    → FindsList inode last before now (Err fault)
finds-unread inode last after before now fault own s = record {
  rows_are = s.rows_are;
  opened_at = s.opened_at;
  counts = s.counts;
  past = tt;
  small = tt;
  allowed = tt;
  there = tt;
  least = tt;
  refused = refuses inode after before now fault own s.refused;
}

-- it is another file's, so there is none behind
finds_other : (inode : ℕ) (last : Option ℕ) (before now : Store) (fault : RowFault) → is_of_another inode fault ≡ true
    → ScansRows 4 (Some (last_list_key inode last)) 1 before now (Err fault)
    → FindsList inode last before now (Ok None)
finds_other inode last before now (Bad at bytes) other s = record {
  rows_are = s.rows_are;
  opened_at = s.opened_at;
  counts = s.counts;
  past = tt;
  small = tt;
  allowed = tt;
  there = tt;
  least = λ known is wide j small past ahead. none_behind lists inode last known (at, bytes) (first_off (last_list_key inode last) before at bytes s.refused known is)
      (λ same. true≢false (sym other ∙ ap not (eq-eqb at.a inode same))) j small past;
  refused = tt;
}
finds_other inode last before now Failed other s = absurd (true≢false (sym other))
finds_other inode last before now Memory other s = absurd (true≢false (sym other))

pub finds-other : (inode : ℕ) (last : Option ℕ) (after : RowKey) (before now : Store) (fault : RowFault) → after ≡ last_list_key inode last
    → is_of_another inode fault ≡ true → ScansRows 4 (Some after) 1 before now (Err fault)
    → FindsList inode last before now (Ok None)
finds-other inode last after before now fault after_is other s =
    finds_other inode last before now fault other (subst (λ (k : RowKey). ScansRows 4 (Some k) 1 before now (Err fault)) after_is s)

-- ---- the row was read

one_last : {A : Type 0} (xs : List A) (x y : A) → xs ++ x ∷ [] ≡ y ∷ [] → x ≡ y
one_last [] x y e = cc
one_last (z ∷ []) x y e = absurd (cc)
one_last (z ∷ w ∷ ws) x y e = absurd (cc)

none_last : {A : Type 0} (xs : List A) (x : A) → xs ++ x ∷ [] ≡ [] → ⊥
none_last [] x e = absurd (cc)
none_last (z ∷ zs) x e = absurd (cc)

last_allowed : {A : Type 0} (P : A → Type 0) (xs : List A) (x : A) → AllByRecursion P (xs ++ x ∷ []) → P x
last_allowed P [] x all = all.0
last_allowed P (y ∷ ys) x all = last_allowed P ys x all.1

-- no window between has a list, whatever row was read
no_list_between : (inode : ℕ) (last : Option ℕ) (before now : Store) (list : List (RowKey × Row)) (found : Option (ℕ × List Rec))
    → ScansRows 4 (Some (last_list_key inode last)) 1 before now (Ok list)
    → ((e : RowKey × Row) → list ≡ e ∷ [] → (found ≡ list_of_row inode last e.0 e.1) × IsSpelled e.0) → (known : RowMap) → before.rows ≡ Some known
    → HaveWindows (typed known) → HasNoList (typed known) inode last (option_map (λ f. f.0) found)
no_list_between inode last before now list found s found_is known is wide =
    none_between lists inode last known list before now s is (option_map (λ f. f.0) found) read
  where
    read : (e : RowKey × List ℕ) → IsRead 4 (last_list_key inode last) known list e
        → (length e.0.b ≡ 4) × IsSpelled e.0 × (option_map (λ f. f.0) found ≡ number_at lists inode last e.0)
    read e r =
        let of = found_is (e.0, r.row) r.list_is in
        let row = list_is (list_of e.1) r.row (sym (list_row e.1) ∙ read_row lists inode last known list e r) in
        let there = read_cell lists inode last known list e r in (
          wide e.0 (read_place lists inode last known list e r).0 (λ none. (let both = sym there ∙ none in absurd (cc))),
          of.1,
          ap (option_map (λ f. f.0)) (of.0 ∙ ap (list_of_row inode last e.0) row.1) ∙ (list_numbered inode last e.0 of.1 row.0).0,
        )

-- the last of the rows is the first
pub finds-last : (inode : ℕ) (last : Option ℕ) (after : RowKey) (before now : Store) (list init : List (RowKey × Row)) (key : RowKey) (row : Row)
    (found : Option (ℕ × List Rec)) → after ≡ last_list_key inode last → ScansRows 4 (Some after) 1 before now (Ok list) → list ≡ init ++ (key, row) ∷ []
    → found ≡ list_of_row inode last key row → IsSpelled key → FindsList inode last before now (Ok found)
finds-last inode last after before now list init key row found after_is s ends found_is spelled = record {
  rows_are = s.rows_are;
  opened_at = s.opened_at;
  counts = s.counts;
  past = IfSome_then found is_list (λ f of. of.0.past);
  small = IfSome_then found is_list (λ f of. of.0.small);
  allowed = IfSome_then found is_list (λ f of. subst (λ r. IsTrue (is_row r)) of.1
      (last_allowed (λ (r : RowKey × Row). IsTrue (is_row r.1)) init (key, row) (subst AreAllowed ends s.allowed)));
  there = IfSome_then found is_list (λ f of. of_read (λ known. get (typed known) (list_key inode f.0) ≡ Some (Ok (OfList f.1))) 4 (last_list_key inode last)
      before now list scans (λ none. none_last init (key, row) (sym ends ∙ none)) (λ known e r. there f of known e r));
  least = no_list_between inode last before now list found scans (λ e is.
      let same = one_last init (key, row) e (sym ends ∙ is) in
      (found_is ∙ ap (λ (p : RowKey × Row). list_of_row inode last p.0 p.1) same, subst (λ (p : RowKey × Row). IsSpelled p.0) same spelled));
  refused = tt;
}
  where
    scans : ScansRows 4 (Some (last_list_key inode last)) 1 before now (Ok list)
    scans = subst (λ (k : RowKey). ScansRows 4 (Some k) 1 before now (Ok list)) after_is s

    is_list : IfSome found (IsListOf inode last key row)
    is_list = subst (λ o. IfSome o (IsListOf inode last key row)) (sym found_is) (list_found inode last key spelled row)

    there : (f : ℕ × List Rec) → IsListOf inode last key row f → (known : RowMap) (e : RowKey × List ℕ) → IsRead 4 (last_list_key inode last) known list e
        → get (typed known) (list_key inode f.0) ≡ Some (Ok (OfList f.1))
    there f of known e r =
        let same = one_last init (key, row) (e.0, r.row) (sym ends ∙ r.list_is) in
        let here = subst (λ (p : RowKey × Row). IsListOf inode last p.0 p.1 f) same of in
        read_there lists inode last known list e r f.0 here.0 ∙ ap (λ row. Some (Ok row)) here.1

-- there are no rows
pub finds-none : (inode : ℕ) (last : Option ℕ) (after : RowKey) (before now : Store) (list : List (RowKey × Row))
    → after ≡ last_list_key inode last → ScansRows 4 (Some after) 1 before now (Ok list) → list ≡ [] → FindsList inode last before now (Ok None)
finds-none inode last after before now list after_is s none = record {
  rows_are = s.rows_are;
  opened_at = s.opened_at;
  counts = s.counts;
  past = tt;
  small = tt;
  allowed = tt;
  there = tt;
  least = no_list_between inode last before now list None (subst (λ (k : RowKey). ScansRows 4 (Some k) 1 before now (Ok list)) after_is s)
      (λ e is. (let both = sym none ∙ is in absurd (cc)));
  refused = tt;
}
