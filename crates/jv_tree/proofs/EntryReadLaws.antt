-- The entries that stored rows of a directory have are those of the tree, and what a reading of them in pages answers.
use Rattle.std.proofs.Common.{◌≡◌, ◌≢◌, ℕ, ◌<◌, ◌++◌, Bool, true, false, cond, T, List, [], ◌∷◌, map, Option, Some, None, Result, Ok, Err, ok_or, refl, sym, ap, subst, ◌∙◌, true≢false, eqb-true}
use Rattle.std.specs.Prelude.{◌==◌, ◌&&◌, if◌then◌else◌, filter, IsErrAnd}
use Rattle.std.specs.Option.{option_map}
use Rattle.std.specs.List.{AllByRecursion}
use Rattle.std.specs.declared.cmp.Ordering.{Ordering}
use Rattle.std.specs.declared.cmp.Ordering.TheVariants.{Less}
use Rattle.std.specs.Ordering.{is_lt, nat_cmp, ordering_then}
use Rattle.std.specs.Cmp.{nat_cmp_total, tied_itself}
use Rattle.std.specs.FinMap.Entries.{put, is_sorted}
use Rattle.std.proofs.lemmas.Bool.{and_parts}
use Rattle.jv_model.specs.declared.tables.TheConstants.{TABLE_OF_EDGES}
use Rattle.jv_model.specs.declared.fault.Fault.{Fault}
use Rattle.jv_model.specs.declared.fault.RowFault.{RowFault}
use Rattle.jv_model.specs.declared.fault.TxFault.{TxFault}
use Rattle.jv_model.specs.declared.fault.TxFault.TheVariants.{Rows as OfRows}
use Rattle.jv_model.specs.declared.row.Edge.{Edge}
use Rattle.jv_model.specs.declared.row.Row.{Row}
use Rattle.jv_model.specs.declared.row.Row.TheVariants.{OfEdge}
use Rattle.jv_model.specs.declared.row.RowKey.{RowKey}
use Rattle.jv_model.specs.promise.FiniteMap.{KeyOrder, get, insert, map_of}
use Rattle.jv_model.specs.promise.rows.RowGrammar.{row_of, edge_of}
use Rattle.jv_model.specs.promise.rows.RowKeys.{RowMap, row_key, row_cmp}
use Rattle.jv_model.specs.promise.rows.RowPlaces.{edge_key}
use Rattle.jv_model.specs.promise.tree.Reading.{entries_of}
use Rattle.jv_model.specs.promise.tree.Tree.{Tree, EntryKey}
use Rattle.jv_model.proofs.TestLaws.{first_of_both, second_of_both}
use Rattle.jv_model.proofs.FiniteMapLaws.{put_first}
use Rattle.jv_outside.specs.promise.Store.{Store}
use Rattle.jv_volume.specs.promise.TypedRows.{Cell, cell_of, typed_entries, typed, is_key}
use Rattle.jv_volume.specs.promise.TreeOf.{entry_selected, entries_selected, entry_of_key, tree_of}
use Rattle.jv_volume.specs.promise.Views.{edge_in}
use Rattle.jv_volume.specs.promise.Whole.{Whole}
use Rattle.jv_volume.proofs.maps.MapLaws.{is_sorted-changed}
use Rattle.jv_volume.proofs.operations.ReadLaws.{entries_of-rows}
use Rattle.jv_volume.proofs.maps.TypedLaws.{get-typed}
use Rattle.jv_rows.specs.Scans.{ScansRows}
use Rattle.jv_rows.specs.Tables.{edge_row}
use Rattle.jv_rows.specs.Transactions.{Looks}
use Rattle.jv_rows.proofs.scans.ScannedLaws.{all-stored, fails-scan, IsStored}
use Rattle.jv_rows.proofs.transactions.TransactionLaws.{Past, past-fails, looks-exit}
use Rattle.jv_tree.specs.Directories.{entries_within}
use Rattle.jv_tree.proofs.DirectoryLaws.{edge_then, entries_from, edges_after, IsReadTo}
use Rattle.jv_tree.proofs.EdgeOrderLaws.{behind}
use Rattle.jv_tree.proofs.PageLaws.{IsEnd, read-all}

-- ---- rows by their types, in their order

module _ {K X : Type 0} (order : KeyOrder K) where
  -- the entries of a map that was made of sorted ones
  map_of-list : (es : List (K × X)) → T (is_sorted order.cmp es) → (map_of {order = order} es).list ≡ es
  unfolding insert
  map_of-list [] sorted = refl
  map_of-list (e ∷ es) sorted = ap (put order.cmp e.0 e.1) (map_of-list es (second_of_both _ _ sorted)) ∙ put_first order e.0 e.1 es (first_of_both _ _ sorted)

typed-list : (known : RowMap) → (typed known).list ≡ typed_entries known.list
unfolding typed
typed-list known = map_of-list row_key (typed_entries known.list) (subst T (sym (is_sorted-changed row_key cell_of known.list)) known.sorted)

-- ---- the entries of a directory

abbrev shown : ℕ → List (EntryKey × ℕ) → List (List ℕ × ℕ)
shown dir es = map (λ (e : EntryKey × ℕ). (e.0.name, e.1)) (filter (λ (e : EntryKey × ℕ). e.0.dir == dir) es)

abbrev inode_named : EntryKey → Option Row → Option ℕ
inode_named at found = option_map (λ (edge : Edge). edge.inode) (edge_in found)

module _ (dir : ℕ) (key : RowKey) (bytes : List ℕ) (others : List (EntryKey × ℕ)) where
  abbrev place : EntryKey
  place = record { dir = key.a; name = key.b }

  abbrev selected_by : Bool → Cell → List (List ℕ × ℕ)
  selected_by b cell = shown dir (entry_selected inode_named (if b then Some place else None) cell others)

  abbrev from_by : Bool → List (List ℕ × ℕ)
  from_by b = cond (b && (key.a == dir)) (edge_then key.b (edge_of bytes) (shown dir others)) (shown dir others)

  either : (b : Bool) (x : List (List ℕ × ℕ)) → cond b x x ≡ x
  either true x = refl
  either false x = refl

  by_dir : (edge : Edge) (b : Bool) → map (λ (e : EntryKey × ℕ). (e.0.name, e.1))
      (cond b ((place, edge.inode) ∷ filter (λ (e : EntryKey × ℕ). e.0.dir == dir) others) (filter (λ (e : EntryKey × ℕ). e.0.dir == dir) others))
      ≡ cond b ((key.b, edge.inode) ∷ shown dir others) (shown dir others)
  by_dir edge true = refl
  by_dir edge false = refl

  by_edge : (o : Option Edge) → selected_by true (ok_or (option_map OfEdge o) bytes) ≡ cond (key.a == dir) (edge_then key.b o (shown dir others))
      (shown dir others)
  by_edge None = sym (either (key.a == dir) (shown dir others))
  by_edge (Some edge) = by_dir edge (key.a == dir)

  listed_at : (t : Bool) → (key.tab == TABLE_OF_EDGES) ≡ t → shown dir (entry_selected inode_named (entry_of_key key) (cell_of key bytes) others)
      ≡ cond ((key.tab == TABLE_OF_EDGES) && (key.a == dir)) (edge_then key.b (edge_of bytes) (shown dir others)) (shown dir others)
  listed_at true is =
      let cell_is : cell_of key bytes ≡ ok_or (option_map OfEdge (edge_of bytes)) bytes =
      ap (λ (t : ℕ). ok_or (row_of t bytes) bytes) (eqb-true key.tab TABLE_OF_EDGES is) ∙ ap (λ (r : Option Row). ok_or r bytes) (edge_row bytes) in
      ap (λ (b : Bool). selected_by b (cell_of key bytes)) is ∙ ap (selected_by true) cell_is ∙ by_edge (edge_of bytes) ∙ sym (ap from_by is)
  listed_at false is = ap (λ (b : Bool). selected_by b (cell_of key bytes)) is ∙ sym (ap from_by is)

entries-listed : (dir : ℕ) (es : List (RowKey × List ℕ)) → shown dir (entries_selected entry_of_key inode_named (typed_entries es)) ≡ entries_from dir es
entries-listed dir [] = refl
entries-listed dir (e ∷ es) =
    listed_at dir e.0 e.1 (entries_selected entry_of_key inode_named (typed_entries es)) (e.0.tab == TABLE_OF_EDGES) refl
    ∙ ap (λ (l : List (List ℕ × ℕ)). cond ((e.0.tab == TABLE_OF_EDGES) && (e.0.a == dir)) (edge_then e.0.b (edge_of e.1) l) l) (entries-listed dir es)

-- ---- whole rows have no entry without a name

abbrev IsNamed : RowKey × List ℕ → Type 0
IsNamed e = e.0.tab ≡ TABLE_OF_EDGES → e.0.b ≡ [] → ⊥

all_weaker : {A : Type 0} (P Q : A → Type 0) (xs : List A) → ((x : A) → P x → Q x) → AllByRecursion P xs → AllByRecursion Q xs
all_weaker P Q [] weaker all = tt
all_weaker P Q (x ∷ xs) weaker all = (weaker x all.0, all_weaker P Q xs weaker all.1)

is_named : (known : RowMap) → Whole (typed known) → (e : RowKey × List ℕ) → get known e.0 ≡ Some e.1 → IsNamed e
is_named known whole e there table nameless =
    let cell : get (typed known) e.0 ≡ Some (cell_of e.0 e.1) = get-typed known e.0 ∙ ap (option_map (cell_of e.0)) there in
    let is = (whole.cells e.0 (cell_of e.0 e.1) cell).key_is in
    let bad : is_key e.0 ≡ false = λ i. is_key (record { tab = table i; a = e.0.a; b = nameless i }) in
    true≢false (sym is ∙ bad)

all_named : (known : RowMap) → Whole (typed known) → AllByRecursion IsNamed known.list
all_named known whole = all_weaker (IsStored known) IsNamed known.list (is_named known whole) (all-stored row_key known)

named_behind : (dir : ℕ) (key : RowKey) → key.tab ≡ TABLE_OF_EDGES → key.a ≡ dir → (name : List ℕ) → key.b ≡ name → (key.b ≡ [] → ⊥)
    → is_lt (row_cmp (edge_key dir []) key) ≡ true
named_behind dir key table number [] is some = absurd (some is)
named_behind dir key table number (x ∷ xs) is some =
    (λ i. is_lt (row_cmp (edge_key dir []) (record { tab = table i; a = number i; b = is i })))
    ∙ ap (λ (o : Ordering). is_lt (ordering_then (nat_cmp 3 3) (ordering_then o Less))) (tied_itself nat_cmp_total dir)

module _ (dir : ℕ) (e : RowKey × List ℕ) (es : List (RowKey × List ℕ)) (named : IsNamed e)
    (rest : entries_from dir (filter (behind (edge_key dir [])) es) ≡ entries_from dir es) where
  outside : behind (edge_key dir []) e ≡ false → (t : Bool) → ((e.0.tab == TABLE_OF_EDGES) && (e.0.a == dir)) ≡ t → t ≡ false
  outside before true is =
      let both = and_parts (e.0.tab == TABLE_OF_EDGES) (e.0.a == dir) is in
      let table : e.0.tab ≡ TABLE_OF_EDGES = eqb-true e.0.tab TABLE_OF_EDGES both.0 in
      let later : is_lt (row_cmp (edge_key dir []) e.0) ≡ true = named_behind dir e.0 table (eqb-true e.0.a dir both.1) e.0.b refl (named table) in
      let passes : behind (edge_key dir []) e ≡ true = ap (λ (b : Bool). b && is_lt (row_cmp (edge_key dir []) e.0)) both.0 ∙ later in
      absurd (true≢false (sym passes ∙ before))
  outside before false is = refl

  start_at : (b : Bool) → behind (edge_key dir []) e ≡ b
      → entries_from dir (cond b (e ∷ filter (behind (edge_key dir [])) es) (filter (behind (edge_key dir [])) es)) ≡ entries_from dir (e ∷ es)
  start_at true is = ap (λ (l : List (List ℕ × ℕ)). cond ((e.0.tab == TABLE_OF_EDGES) && (e.0.a == dir)) (edge_then e.0.b (edge_of e.1) l) l) rest
  start_at false is = rest ∙ sym (ap (λ (b : Bool). cond b (edge_then e.0.b (edge_of e.1) (entries_from dir es)) (entries_from dir es))
      (outside is ((e.0.tab == TABLE_OF_EDGES) && (e.0.a == dir)) refl))

from_start : (dir : ℕ) (es : List (RowKey × List ℕ)) → AllByRecursion IsNamed es → entries_from dir (filter (behind (edge_key dir [])) es) ≡ entries_from dir es
from_start dir [] all = refl
from_start dir (e ∷ es) all = start_at dir e es all.0 (from_start dir es all.1) (behind (edge_key dir []) e) refl

-- the entries of a directory in the tree are those of the rows behind the place of an empty name
pub entries-known : (bytes : ℕ → ℕ → ℕ) (known : RowMap) (dir : ℕ) → Whole (typed known)
    → entries_of (tree_of bytes (typed known)) dir ≡ entries_from dir (edges_after (edge_key dir []) known)
entries-known bytes known dir whole =
    entries_of-rows bytes (typed known) dir ∙ ap (λ (l : List (RowKey × Cell)). shown dir (entries_selected entry_of_key inode_named l)) (typed-list known)
    ∙ entries-listed dir known.list ∙ sym (from_start dir known.list (all_named known whole))

-- ---- the reading

abbrev pub lists_entries : ℕ → Tree → Result (List (List ℕ × ℕ)) Fault
lists_entries dir t = Ok (entries_of t dir)

module _ (dir n : ℕ) (start now after : Store) (last : RowKey) (entries : List (List ℕ × ℕ)) (so_far : IsReadTo dir start now last entries) where
  read_past : Past start now (lists_entries dir) (lists_entries dir)
  read_past = record { rows_are = so_far.rows_are; opened_at = so_far.opened_at; calm = so_far.calm; goes_on = λ known is whole bytes. refl }

  pub page-unread : (result : Result (List (List ℕ × ℕ)) TxFault) (fault : RowFault) → IsErrAnd result (λ e. e ≡ OfRows fault)
      → ScansRows 3 (Some last) n now after (Err fault)
      → Looks start after result (lists_entries dir)
  page-unread result fault is scan =
      looks-exit start after (lists_entries dir) result (OfRows fault) is
      (past-fails start now after (lists_entries dir) (lists_entries dir) read_past (OfRows fault) (fails-scan 3 (Some last) n now after fault scan))

  pub pages-read : (list : List (RowKey × Row)) (new : List (List ℕ × ℕ)) → ScansRows 3 (Some last) n now after (Ok list)
      → new ≡ entries ++ entries_within dir list → 0 < n → IsEnd dir list
      → Looks start after (Ok new) (lists_entries dir)
  pages-read list new scan adds some end = record {
    rows_are = scan.rows_are ∙ so_far.rows_are;
    opened_at = scan.opened_at ∙ so_far.opened_at;
    counts = scan.counts ∙ so_far.calm;
    agrees = λ known is whole bytes. ap (λ (l : List (List ℕ × ℕ)). Ok l)
        (entries-known bytes known dir whole ∙ read-all dir n start now after last entries new list so_far scan adds some end known is);
    bad = tt;
  }
