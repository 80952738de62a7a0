-- Pages of edges: which entries of a directory a page has, and what is left behind it.
use Rattle.std.proofs.Common.{◌≡◌, ℕ, zero, suc, ◌-◌, ◌<◌, ◌≤◌, Bool, true, false, cond, List, [], ◌∷◌, ◌++◌, length, get_or, take, drop, Option, Some, None, Result, Ok, Err, refl, sym, ap, subst, ◌∙◌, true≢false, eq-eqb, eqb-true, append_assoc, arith}
use Rattle.std.proofs.lemmas.Bool.{eqb-false, ne_eqb}
use Rattle.std.proofs.lemmas.List.{length-append}
use Rattle.std.specs.Prelude.{◌==◌, ◌&&◌, if◌then◌else◌, is_ok, is_some, filter, IfSome}
use Rattle.std.specs.Option.{option_map}
use Rattle.jv_model.specs.declared.tables.TheConstants.{TABLE_OF_EDGES}
use Rattle.jv_model.specs.declared.row.Edge.{Edge}
use Rattle.jv_model.specs.declared.row.Row.{Row}
use Rattle.jv_model.specs.declared.row.Row.TheVariants.{OfSetting, OfCounters, OfNode, OfEdge, OfList, OfSlice, OfSession, OfSustained, OfDropped, OfDead}
use Rattle.jv_model.specs.declared.row.RowKey.{RowKey}
use Rattle.jv_model.specs.promise.rows.RowGrammar.{row_of, edge_of}
use Rattle.jv_model.specs.promise.rows.RowKeys.{RowMap}
use Rattle.jv_model.specs.promise.rows.RowPlaces.{edge_key}
use Rattle.jv_model.proofs.TestLaws.{if_some-by, of_known, same_Ok}
use Rattle.jv_outside.specs.Rows.{rows_after}
use Rattle.jv_outside.specs.promise.Store.{Store}
use Rattle.jv_rows.specs.Scans.{row_then, rows_read, ScansRows}
use Rattle.jv_rows.specs.Tables.{edge_row}
use Rattle.jv_tree.specs.Directories.{last_of, is_entry, entry_then, entries_within, all_within}
use Rattle.jv_tree.proofs.DirectoryLaws.{edge_then, entries_from, edges_after, IsReadSoFar, IsReadTo}
use Rattle.jv_tree.proofs.EdgeOrderLaws.{behind, Chain, last_or, IsAtMost, chain-behind, last-above, chain-table, suffix, behind-again}
use Rattle.jv_rows.proofs.scans.ScannedLaws.{number-rises}
use Rattle.std.proofs.lemmas.Option.{same_Some}

-- ---- the last row of a list

pub last_is : (page : List (RowKey × Row)) (r : RowKey × Row) (i : ℕ) → length page ≡ suc i → r ≡ get_or page i r → Some r.0 ≡ last_of page
last_is [] r i len is = absurd (omega (arith, len))
last_is (x ∷ []) r zero len is = ap (λ (p : RowKey × Row). Some p.0) is
last_is (x ∷ []) r (suc i) len is = absurd (omega (arith, len))
last_is (x ∷ y ∷ page) r zero len is = absurd (omega (arith, len))
last_is (x ∷ y ∷ page) r (suc i) len is = last_is (y ∷ page) r i (omega (arith, len)) is

last_of-from : (k : RowKey) (list : List (RowKey × Row)) (key : RowKey) → last_of list ≡ Some key → last_or k list ≡ key
last_of-from k [] key e = absurd (true≢false (sym (ap is_some e)))
last_of-from k (r ∷ []) key e = same_Some r.0 key e
last_of-from k (r ∷ x ∷ rows) key e = last_of-from r.0 (x ∷ rows) key e

last_some : (r : RowKey × Row) (rows : List (RowKey × Row)) → is_some (last_of (r ∷ rows)) ≡ true
last_some r [] = refl
last_some r (x ∷ rows) = last_some x rows

-- ---- rows that were read

record FirstRead (key : RowKey) (o : Option Row) (others : Result (List (RowKey × Row)) (RowKey × List ℕ)) (list : List (RowKey × Row)) : Type 0 where
  row : Row
  rest : List (RowKey × Row)
  is : o ≡ Some row
  others_are : others ≡ Ok rest
  list_is : list ≡ (key, row) ∷ rest

read_first : (key : RowKey) (bytes : List ℕ) (o : Option Row) (others : Result (List (RowKey × Row)) (RowKey × List ℕ)) (list : List (RowKey × Row))
    → row_then key bytes o others ≡ Ok list
    → FirstRead key o others list
read_first key bytes None others list e = absurd (true≢false (sym (ap is_ok e)))
read_first key bytes (Some row) (Ok rest) list e =
    record { row = row; rest = rest; is = refl; others_are = refl; list_is = sym (same_Ok ((key, row) ∷ rest) list e) }
read_first key bytes (Some row) (Err off) list e = absurd (true≢false (sym (ap is_ok e)))

record EdgeRead (bytes : List ℕ) (row : Row) : Type 0 where
  edge : Edge
  spelled : edge_of bytes ≡ Some edge
  is : row ≡ OfEdge edge

edge_by : (bytes : List ℕ) (row : Row) (o : Option Edge) → edge_of bytes ≡ o → option_map OfEdge o ≡ Some row → EdgeRead bytes row
edge_by bytes row None e h = absurd (true≢false (sym (ap is_some h)))
edge_by bytes row (Some edge) e h = record { edge = edge; spelled = e; is = sym (same_Some (OfEdge edge) row h) }

-- a row of the table of edges is an edge
edge_is : (key : RowKey) (bytes : List ℕ) (row : Row) → key.tab ≡ TABLE_OF_EDGES → row_of key.tab bytes ≡ Some row → EdgeRead bytes row
edge_is key bytes row tab is = edge_by bytes row (edge_of bytes) refl (sym (edge_row bytes) ∙ ap (λ (t : ℕ). row_of t bytes) (sym tab) ∙ is)

last-read : (k : RowKey) (rows : List (RowKey × List ℕ)) (list : List (RowKey × Row)) → rows_read rows ≡ Ok list → last_or k list ≡ last_or k rows
last-read k [] list read = sym (ap (last_or k) (same_Ok [] list read))
last-read k (r ∷ rows) list read =
    let f = read_first r.0 r.1 (row_of r.0.tab r.1) (rows_read rows) list read in
    ap (last_or k) f.list_is ∙ last-read r.0 rows f.rest f.others_are

-- ---- the entries of a page

all_first : (b c d : Bool) → (b && c && d) ≡ true → (b ≡ true) × (c ≡ true) × (d ≡ true)
all_first true true d e = (refl, refl, e)
all_first true false d e = absurd (true≢false (sym e))
all_first false c d e = absurd (true≢false (sym e))

cons_within : (dir : ℕ) (r : RowKey × Row) (rows : List (RowKey × Row)) (edge : Edge) → r.1 ≡ OfEdge edge → (r.0.a == dir) ≡ true
    → entries_within dir (r ∷ rows) ≡ (r.0.b, edge.inode) ∷ entries_within dir rows
cons_within dir r rows edge is in_dir =
    ap (λ (row : Row). if r.0.a == dir then entry_then r.0.b row (entries_within dir rows) else []) is
    ∙ ap (λ (b : Bool). if b then (r.0.b, edge.inode) ∷ entries_within dir rows else []) in_dir

from_first : (dir : ℕ) (r : RowKey × List ℕ) (rows : List (RowKey × List ℕ)) (edge : Edge) → r.0.tab ≡ TABLE_OF_EDGES → edge_of r.1 ≡ Some edge → (d : Bool)
    → (r.0.a == dir) ≡ d
    → entries_from dir (r ∷ rows) ≡ cond d ((r.0.b, edge.inode) ∷ entries_from dir rows) (entries_from dir rows)
from_first dir r rows edge tab spelled d is_dir =
    ap (λ (b : Bool). cond (b && (r.0.a == dir)) (edge_then r.0.b (edge_of r.1) (entries_from dir rows)) (entries_from dir rows)) (eq-eqb r.0.tab TABLE_OF_EDGES tab)
    ∙ ap (λ (b : Bool). cond b (edge_then r.0.b (edge_of r.1) (entries_from dir rows)) (entries_from dir rows)) is_dir
    ∙ ap (λ (o : Option Edge). cond d (edge_then r.0.b o (entries_from dir rows)) (entries_from dir rows)) spelled

-- a page whose rows are all entries of the directory, and those behind it
all-page : (dir : ℕ) (k : RowKey) (rows : List (RowKey × List ℕ)) (n : ℕ) (list : List (RowKey × Row)) → Chain k rows → rows_read (take n rows) ≡ Ok list
    → all_within dir list ≡ true
    → entries_from dir rows ≡ entries_within dir list ++ entries_from dir (drop n rows)
all-page dir k rows zero list c read all = ap (λ (l : List (RowKey × Row)). entries_within dir l ++ entries_from dir rows) (same_Ok [] list read)
all-page dir k [] (suc n) list c read all = ap (λ (l : List (RowKey × Row)). entries_within dir l ++ []) (same_Ok [] list read)
all-page dir k (r ∷ rows) (suc n) list c read all =
    let f = read_first r.0 r.1 (row_of r.0.tab r.1) (rows_read (take n rows)) list read in
    let e = edge_is r.0 r.1 f.row c.0.table f.is in
    let each = all_first (is_entry f.row) (r.0.a == dir) (all_within dir f.rest) (sym (ap (all_within dir) f.list_is) ∙ all) in
    from_first dir r rows e.edge c.0.table e.spelled true each.1
    ∙ ap (λ (l : List (List ℕ × ℕ)). (r.0.b, e.edge.inode) ∷ l) (all-page dir r.0 rows n f.rest c.1 f.others_are each.2)
    ∙ ap (λ (l : List (List ℕ × ℕ)). l ++ entries_from dir (drop n rows)) (sym (cons_within dir (r.0, f.row) f.rest e.edge e.is each.1))
    ∙ ap (λ (l : List (RowKey × Row)). entries_within dir l ++ entries_from dir (drop n rows)) (sym f.list_is)

and_false : (t : Bool) (x y : List (List ℕ × ℕ)) → cond (t && false) x y ≡ y
and_false true x y = refl
and_false false x y = refl

skip_other : (dir : ℕ) (r : RowKey × List ℕ) (rows : List (RowKey × List ℕ)) → (r.0.a == dir) ≡ false → entries_from dir (r ∷ rows) ≡ entries_from dir rows
skip_other dir r rows other =
    ap (λ (b : Bool). cond ((r.0.tab == TABLE_OF_EDGES) && b) (edge_then r.0.b (edge_of r.1) (entries_from dir rows)) (entries_from dir rows)) other
    ∙ and_false (r.0.tab == TABLE_OF_EDGES) (edge_then r.0.b (edge_of r.1) (entries_from dir rows)) (entries_from dir rows)

-- rows of later directories have none of its entries
none-from : (dir : ℕ) (k : RowKey) (rows : List (RowKey × List ℕ)) → Chain k rows → k.tab ≡ TABLE_OF_EDGES → dir < k.a → entries_from dir rows ≡ []
none-from dir k [] c tab low = refl
none-from dir k (r ∷ rows) c tab low =
    let up : k.a ≤ r.0.a = number-rises k r.0 (tab ∙ sym c.0.table) c.0.above in
    let past : dir < r.0.a = omega (arith, low, up) in
    skip_other dir r rows (ne_eqb r.0.a dir (λ e. absurd (omega (arith, past, e)))) ∙ none-from dir r.0 rows c.1 c.0.table past

ends_at : (dir : ℕ) (k : RowKey) (r : RowKey × List ℕ) (rows : List (RowKey × List ℕ)) (row : Row) (rest : List (RowKey × Row)) → Chain k (r ∷ rows) → k.tab ≡ TABLE_OF_EDGES
    → dir ≤ k.a → EdgeRead r.1 row
    → all_within dir ((r.0, row) ∷ rest) ≡ false → (all_within dir rest ≡ false → dir ≤ r.0.a → entries_from dir rows ≡ entries_within dir rest) → (d : Bool)
    → (r.0.a == dir) ≡ d
    → entries_from dir (r ∷ rows) ≡ entries_within dir ((r.0, row) ∷ rest)
ends_at dir k r rows row rest c tab low e other more true is =
    let up : k.a ≤ r.0.a = number-rises k r.0 (tab ∙ sym c.0.table) c.0.above in
    let all_rest : all_within dir ((r.0, row) ∷ rest) ≡ all_within dir rest =
    ap (λ (x : Row). is_entry x && (r.0.a == dir) && all_within dir rest) e.is ∙ ap (λ (b : Bool). b && all_within dir rest) is in
    from_first dir r rows e.edge c.0.table e.spelled true is
    ∙ ap (λ (l : List (List ℕ × ℕ)). (r.0.b, e.edge.inode) ∷ l) (more (sym all_rest ∙ other) (omega (arith, low, up)))
    ∙ sym (cons_within dir (r.0, row) rest e.edge e.is is)
ends_at dir k r rows row rest c tab low e other more false is =
    let up : k.a ≤ r.0.a = number-rises k r.0 (tab ∙ sym c.0.table) c.0.above in
    let apart : r.0.a ≡ dir → ⊥ = eqb-false r.0.a dir is in
    let past : dir < r.0.a = omega (arith, low, up, apart) in
    from_first dir r rows e.edge c.0.table e.spelled false is ∙ none-from dir r.0 rows c.1 c.0.table past
    ∙ sym (ap (λ (b : Bool). if b then entry_then r.0.b row (entries_within dir rest) else []) is)

-- a page that has a row of another directory has all entries that are left
page-ends : (dir : ℕ) (k : RowKey) (rows : List (RowKey × List ℕ)) (n : ℕ) (list : List (RowKey × Row)) → Chain k rows → k.tab ≡ TABLE_OF_EDGES → dir ≤ k.a
    → rows_read (take n rows) ≡ Ok list
    → all_within dir list ≡ false → entries_from dir rows ≡ entries_within dir list
page-ends dir k rows zero list c tab low read other = absurd (true≢false (ap (all_within dir) (same_Ok [] list read) ∙ other))
page-ends dir k [] (suc n) list c tab low read other = absurd (true≢false (ap (all_within dir) (same_Ok [] list read) ∙ other))
page-ends dir k (r ∷ rows) (suc n) list c tab low read other =
    let f = read_first r.0 r.1 (row_of r.0.tab r.1) (rows_read (take n rows)) list read in
    ends_at dir k r rows f.row f.rest c tab low (edge_is r.0 r.1 f.row c.0.table f.is) (sym (ap (all_within dir) f.list_is) ∙ other)
    (λ more_other more_low. page-ends dir r.0 rows n f.rest c.1 c.0.table more_low f.others_are more_other) (r.0.a == dir) refl
    ∙ ap (entries_within dir) (sym f.list_is)

-- an empty page: no rows are left
page-none : (dir : ℕ) (rows : List (RowKey × List ℕ)) (n : ℕ) (list : List (RowKey × Row)) → 0 < n → rows_read (take n rows) ≡ Ok list → last_of list ≡ None
    → entries_from dir rows ≡ entries_within dir list
page-none dir rows zero list some read last = absurd (omega (arith, some))
page-none dir [] (suc n) list some read last = ap (entries_within dir) (same_Ok [] list read)
page-none dir (r ∷ rows) (suc n) list some read last =
    let f = read_first r.0 r.1 (row_of r.0.tab r.1) (rows_read (take n rows)) list read in
    absurd (true≢false (sym (last_some (r.0, f.row) f.rest) ∙ ap is_some (sym (ap last_of f.list_is) ∙ last)))

-- ---- the loop

last_within : (dir : ℕ) (k : RowKey) (list : List (RowKey × Row)) → k.a ≡ dir → all_within dir list ≡ true → (last_or k list).a ≡ dir
last_within dir k [] is all = is
last_within dir k (r ∷ rows) is all =
    let each = all_first (is_entry r.1) (r.0.a == dir) (all_within dir rows) all in
    last_within dir r.0 rows (eqb-true r.0.a dir each.1) each.2

module _ (dir n : ℕ) (known : RowMap) (last : RowKey) (entries : List (List ℕ × ℕ)) (list : List (RowKey × Row)) (s : IsReadSoFar known dir last entries)
    (read : rows_read (rows_after known 3 (Some last) n) ≡ Ok list) where
  rises : Chain last (edges_after last known)
  rises = chain-behind last known.list known.sorted

  -- all of a page were entries
  so_far-more : (key : RowKey) → last_of list ≡ Some key → all_within dir list ≡ true → IsReadSoFar known dir key (entries ++ entries_within dir list)
  so_far-more key last_key all =
      let q : RowKey = last_or last (take n (edges_after last known)) in
      let key_is : key ≡ q = sym (last_of-from last list key last_key) ∙ last-read last (take n (edges_after last known)) list read in
      let behind_it : edges_after key known ≡ drop n (edges_after last known) =
      ap (λ (k : RowKey). edges_after k known) key_is ∙ sym (behind-again last q (last-above last (edges_after last known) n rises) known.list)
      ∙ suffix last (edges_after last known) n rises in
      record {
        table = ap (λ (k : RowKey). k.tab) key_is ∙ chain-table last (edges_after last known) n s.table rises;
        number = sym (ap (λ (k : RowKey). k.a) (last_of-from last list key last_key)) ∙ last_within dir last list s.number all;
        parts = s.parts ∙ ap (λ (l : List (List ℕ × ℕ)). entries ++ l) (all-page dir last (edges_after last known) n list rises read all)
            ∙ sym (append_assoc entries (entries_within dir list) (entries_from dir (drop n (edges_after last known))))
            ∙ ap (λ (l : List (RowKey × List ℕ)). (entries ++ entries_within dir list) ++ entries_from dir l) (sym behind_it);
      }

  -- a row of another directory ends it
  so_far-ends : all_within dir list ≡ false → entries_from dir (edges_after (edge_key dir []) known) ≡ entries ++ entries_within dir list
  so_far-ends other =
      let low : dir ≤ last.a = omega (arith, s.number) in
      s.parts ∙ ap (λ (l : List (List ℕ × ℕ)). entries ++ l) (page-ends dir last (edges_after last known) n list rises s.table low read other)

  -- and so does an empty page
  so_far-none : 0 < n → last_of list ≡ None → entries_from dir (edges_after (edge_key dir []) known) ≡ entries ++ entries_within dir list
  so_far-none some none = s.parts ∙ ap (λ (l : List (List ℕ × ℕ)). entries ++ l) (page-none dir (edges_after last known) n list some read none)

-- a page ends it: by a row of another directory, or because it is empty
pub data IsEnd (dir : ℕ) (list : List (RowKey × Row)) : Type 0 where
  Other : all_within dir list ≡ false → IsEnd dir list
  NoMore : last_of list ≡ None → IsEnd dir list

pub read-start : (dir : ℕ) (name : List ℕ) (entries : List (List ℕ × ℕ)) (start : Store) → name ≡ [] → entries ≡ []
    → IsReadTo dir start start (record { tab = TABLE_OF_EDGES; a = dir; b = name }) entries
read-start dir name entries start no_name none = record {
  rows_are = refl;
  opened_at = refl;
  calm = refl;
  so_far = if_some-by (λ known. IsReadSoFar known dir (record { tab = TABLE_OF_EDGES; a = dir; b = name }) entries) start.rows (λ known is. record {
    table = refl;
    number = refl;
    parts = λ i. sym none i ++ entries_from dir (edges_after (record { tab = TABLE_OF_EDGES; a = dir; b = sym no_name i }) known);
  });
}

module _ (dir n : ℕ) (start now after : Store) (last : RowKey) (entries new : List (List ℕ × ℕ)) (list : List (RowKey × Row))
    (so_far : IsReadTo dir start now last entries)
    (scan : ScansRows 3 (Some last) n now after (Ok list)) (adds : new ≡ entries ++ entries_within dir list) where
  read_known : (known : RowMap) → start.rows ≡ Some known → rows_read (rows_after known 3 (Some last) n) ≡ Ok list
  read_known known is = of_known (λ known. rows_read (rows_after known 3 (Some last) n) ≡ Ok list) now.rows known (so_far.rows_are ∙ is) scan.found

  reached : (known : RowMap) → start.rows ≡ Some known → IsReadSoFar known dir last entries
  reached known is = of_known (λ known. IsReadSoFar known dir last entries) start.rows known is so_far.so_far

  pub read-more : (key : RowKey) → last_of list ≡ Some key → all_within dir list ≡ true → IsReadTo dir start after key new
  read-more key last_key all = record {
    rows_are = scan.rows_are ∙ so_far.rows_are;
    opened_at = scan.opened_at ∙ so_far.opened_at;
    calm = scan.counts ∙ so_far.calm;
    so_far = if_some-by (λ known. IsReadSoFar known dir key new) start.rows (λ known is.
        subst (IsReadSoFar known dir key) (sym adds) (so_far-more dir n known last entries list (reached known is) (read_known known is) key last_key all));
  }

  -- all entries were read
  pub read-all : 0 < n → IsEnd dir list → (known : RowMap) → start.rows ≡ Some known → entries_from dir (edges_after (edge_key dir []) known) ≡ new
  read-all some (Other other) known is = so_far-ends dir n known last entries list (reached known is) (read_known known is) other ∙ sym adds
  read-all some (NoMore none) known is = so_far-none dir n known last entries list (reached known is) (read_known known is) some none ∙ sym adds

-- ---- the loop ends

entry_is : (row : Row) → is_entry row ≡ true → (edge : Edge) × (row ≡ OfEdge edge)
entry_is (OfEdge edge) e = (edge, refl)
entry_is (OfSetting x) e = absurd (true≢false (sym e))
entry_is (OfCounters x) e = absurd (true≢false (sym e))
entry_is (OfNode x) e = absurd (true≢false (sym e))
entry_is (OfList x) e = absurd (true≢false (sym e))
entry_is (OfSlice x) e = absurd (true≢false (sym e))
entry_is (OfSession x) e = absurd (true≢false (sym e))
entry_is OfSustained e = absurd (true≢false (sym e))
entry_is (OfDropped x) e = absurd (true≢false (sym e))
entry_is (OfDead x) e = absurd (true≢false (sym e))

entries_some : (dir : ℕ) (page : List (RowKey × Row)) (key : RowKey) → last_of page ≡ Some key → all_within dir page ≡ true
    → 1 ≤ length (entries_within dir page)
entries_some dir [] key is all = absurd (true≢false (sym (ap is_some is)))
entries_some dir (r ∷ rows) key is all =
    let each = all_first (is_entry r.1) (r.0.a == dir) (all_within dir rows) all in
    let edge = entry_is r.1 each.0 in
    subst (λ (l : List (List ℕ × ℕ)). 1 ≤ length l) (sym (cons_within dir r rows edge.0 edge.1 each.1)) (omega arith)

-- each page adds entries, of which no list has 2^63
pub fewer-left : (bound dir : ℕ) (page : List (RowKey × Row)) (key : RowKey) (old new : List (List ℕ × ℕ)) → last_of page ≡ Some key
    → all_within dir page ≡ true
    → new ≡ old ++ entries_within dir page → length old < bound → bound - length new < bound - length old
fewer-left bound dir page key old new is all adds small =
    omega (arith, ap length adds, length-append old (entries_within dir page), entries_some dir page key is all, small)

-- ---- whether a directory has entries

abbrev pub has_some : List (List ℕ × ℕ) → Bool
has_some [] = false
has_some (e ∷ es) = true

first_by : (dir : ℕ) (r : RowKey × List ℕ) (rows : List (RowKey × List ℕ)) (edge : Edge) → r.0.tab ≡ TABLE_OF_EDGES → edge_of r.1 ≡ Some edge → dir ≤ r.0.a → Chain r.0 rows
    → (d : Bool) → (r.0.a == dir) ≡ d → has_some (entries_from dir (r ∷ rows)) ≡ d
first_by dir r rows edge tab spelled low c true is = ap has_some (from_first dir r rows edge tab spelled true is)
first_by dir r rows edge tab spelled low c false is =
    let apart : r.0.a ≡ dir → ⊥ = eqb-false r.0.a dir is in
    let past : dir < r.0.a = omega (arith, low, apart) in
    ap has_some (from_first dir r rows edge tab spelled false is ∙ none-from dir r.0 rows c tab past)

first_key : (k : RowKey) → List (RowKey × Row) → RowKey
first_key k [] = k
first_key k (r ∷ rows) = r.0

-- It has some if and only if the first row behind its beginning is of it.
pub first-of-page : (dir : ℕ) (rows : List (RowKey × List ℕ)) (key : RowKey) (row : Row) (rest : List (RowKey × Row)) → Chain (edge_key dir []) rows
    → rows_read (take 1 rows) ≡ Ok ((key, row) ∷ rest)
    → has_some (entries_from dir rows) ≡ (key.a == dir)
unfolding first_key
first-of-page dir [] key row rest c read = absurd (true≢false (sym (last_some (key, row) rest) ∙ ap (λ (l : List (RowKey × Row)). is_some (last_of l)) (sym (same_Ok [] ((key, row) ∷ rest) read))))
first-of-page dir (r ∷ rows) key row rest c read =
    let f = read_first r.0 r.1 (row_of r.0.tab r.1) (rows_read (take 0 rows)) ((key, row) ∷ rest) read in
    let e = edge_is r.0 r.1 f.row c.0.table f.is in
    let low : dir ≤ r.0.a = number-rises (edge_key dir []) r.0 (sym c.0.table) c.0.above in
    first_by dir r rows e.edge c.0.table e.spelled low c.1 (r.0.a == dir) refl ∙ ap (λ (k : RowKey). k.a == dir) (sym (ap (first_key key) f.list_is))

-- where no row is behind it, it has none
pub none-of-page : (dir : ℕ) (rows : List (RowKey × List ℕ)) → rows_read (take 1 rows) ≡ Ok [] → has_some (entries_from dir rows) ≡ false
none-of-page dir rows read = ap has_some (page-none dir rows 1 [] (omega arith) read refl)
