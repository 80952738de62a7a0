-- The entries of a directory, read in pages.
use Rattle.std.proofs.Common.{◌≡◌, ℕ, suc, ◌+◌, ◌-◌, ◌<◌, ◌≤◌, Bool, true, false, List, [], ◌∷◌, ◌++◌, length, get_or, drop, Option, Some, None, Result, Ok, Err, refl, sym, ap, ◌∙◌, append_assoc, arith}
use Rattle.std.specs.Prelude.{◌==◌, ◌&&◌, if◌then◌else◌, IfSome}
use Rattle.std.proofs.lemmas.List.{append-nil, at_drop_more}
use Rattle.jv_model.specs.declared.tables.TheConstants.{TABLE_OF_EDGES}
use Rattle.jv_model.specs.declared.row.Row.{Row}
use Rattle.jv_model.specs.declared.row.Row.TheVariants.{OfSetting, OfCounters, OfNode, OfEdge, OfList, OfSlice, OfSession, OfSustained, OfDropped, OfDead}
use Rattle.jv_model.specs.declared.row.RowKey.{RowKey}
use Rattle.jv_model.specs.promise.rows.RowKeys.{RowMap}
use Rattle.jv_model.specs.promise.rows.RowGrammar.{edge_of}
use Rattle.jv_model.specs.promise.rows.RowPlaces.{edge_key}
use Rattle.jv_model.specs.declared.row.Edge.{Edge}
use Rattle.jv_outside.specs.Rows.{is_after}
use Rattle.jv_outside.specs.promise.Store.{Store}
use Rattle.std.specs.Prelude.{filter}
use Rattle.jv_tree.specs.Directories.{is_entry, entry_then, entries_within, all_within}

-- how far a loop over rows has come: all so far were entries
pub record IsTakenSoFar (dir : ℕ) (page : List (RowKey × Row)) (count : ℕ) (before now : List (List ℕ × ℕ)) : Type 0 where
  pub taken : List (List ℕ × ℕ)
  pub adds : now ≡ before ++ taken
  pub entries : entries_within dir page ≡ taken ++ entries_within dir (drop count page)
  pub all : all_within dir page ≡ all_within dir (drop count page)

-- the entries that stored rows of a directory have
abbrev pub edge_then : List ℕ → Option Edge → List (List ℕ × ℕ) → List (List ℕ × ℕ)
edge_then name None others = others
edge_then name (Some edge) others = (name, edge.inode) ∷ others

abbrev pub entries_from : ℕ → List (RowKey × List ℕ) → List (List ℕ × ℕ)
entries_from dir [] = []
entries_from dir (r ∷ rows) = (if (r.0.tab == TABLE_OF_EDGES) && (r.0.a == dir) then edge_then r.0.b (edge_of r.1) (entries_from dir rows) else entries_from dir rows)

-- the rows of edges behind a key
abbrev pub edges_after : RowKey → RowMap → List (RowKey × List ℕ)
edges_after last known = filter (λ row. is_after 3 (Some last) row.0) known.list

-- the entries of a directory that were read, up to a key
pub record IsReadSoFar (known : RowMap) (dir : ℕ) (last : RowKey) (entries : List (List ℕ × ℕ)) : Type 0 where
  pub table : last.tab ≡ TABLE_OF_EDGES
  pub number : last.a ≡ dir
  pub parts : entries_from dir (edges_after (edge_key dir []) known) ≡ entries ++ entries_from dir (edges_after last known)

-- how far a loop over pages has come
pub record IsReadTo (dir : ℕ) (start now : Store) (last : RowKey) (entries : List (List ℕ × ℕ)) : Type 0 where
  pub rows_are : now.rows ≡ start.rows
  pub opened_at : now.opened ≡ start.opened
  pub calm : now.faults ≡ start.faults
  pub so_far : IfSome start.rows (λ known. IsReadSoFar known dir last entries)

-- ---- rows that were taken

module _ (dir : ℕ) (page : List (RowKey × Row)) (i : ℕ) (before now : List (List ℕ × ℕ)) (key : RowKey) (row : Row) (low : i < length page)
    (here : (key, row) ≡ get_or page i (key, row))
    (so_far : IsTakenSoFar dir page i before now) where
  entries_here : entries_within dir (drop i page) ≡ entries_within dir ((key, row) ∷ drop (i + 1) page)
  entries_here = at_drop_more (entries_within dir) page i (key, row) low ∙ ap (λ (x : RowKey × Row). entries_within dir (x ∷ drop (i + 1) page)) (sym here)

  all_here : all_within dir (drop i page) ≡ all_within dir ((key, row) ∷ drop (i + 1) page)
  all_here = at_drop_more (all_within dir) page i (key, row) low ∙ ap (λ (x : RowKey × Row). all_within dir (x ∷ drop (i + 1) page)) (sym here)

  -- one more entry
  pub taken-more : (edge : Edge) → row ≡ OfEdge edge → (key.a == dir) ≡ true → (after : List (List ℕ × ℕ)) → after ≡ now ++ (key.b, edge.inode) ∷ []
      → IsTakenSoFar dir page (i + 1) before after
  taken-more edge is in_dir after adds = record {
    taken = so_far.taken ++ (key.b, edge.inode) ∷ [];
    adds = adds ∙ ap (λ (l : List (List ℕ × ℕ)). l ++ (key.b, edge.inode) ∷ []) so_far.adds ∙ append_assoc before so_far.taken ((key.b, edge.inode) ∷ []);
    entries = so_far.entries ∙ ap (λ (l : List (List ℕ × ℕ)). so_far.taken ++ l) (entries_here
        ∙ ap (λ (r : Row). if key.a == dir then entry_then key.b r (entries_within dir (drop (i + 1) page)) else []) is
        ∙ ap (λ (b : Bool). if b then (key.b, edge.inode) ∷ entries_within dir (drop (i + 1) page) else []) in_dir)
        ∙ sym (append_assoc so_far.taken ((key.b, edge.inode) ∷ []) (entries_within dir (drop (i + 1) page)));
    all = so_far.all ∙ all_here ∙ ap (λ (r : Row). is_entry r && (key.a == dir) && all_within dir (drop (i + 1) page)) is
        ∙ ap (λ (b : Bool). b && all_within dir (drop (i + 1) page)) in_dir;
  }

  ended : entries_within dir (drop i page) ≡ [] → all_within dir (drop i page) ≡ false
      → (now ≡ before ++ entries_within dir page) × (false ≡ all_within dir page)
  ended none no_more = (
    so_far.adds ∙ ap (λ (l : List (List ℕ × ℕ)). before ++ l)
        (sym (append-nil so_far.taken) ∙ ap (λ (l : List (List ℕ × ℕ)). so_far.taken ++ l) (sym none) ∙ sym so_far.entries),
    sym (so_far.all ∙ no_more),
  )

  -- a row of another directory
  pub taken-other : (key.a == dir) ≡ false → (now ≡ before ++ entries_within dir page) × (false ≡ all_within dir page)
  taken-other other = ended
      (entries_here ∙ ap (λ (b : Bool). if b then entry_then key.b row (entries_within dir (drop (i + 1) page)) else []) other)
      (all_here ∙ ap (λ (b : Bool). is_entry row && b && all_within dir (drop (i + 1) page)) other ∙ none_of (is_entry row))
    where
      none_of : (b : Bool) → (b && false && all_within dir (drop (i + 1) page)) ≡ false
      none_of true = refl
      none_of false = refl

  -- a row that is no entry
  pub taken-no_entry : ((edge : Edge) → row ≡ OfEdge edge → ⊥) → (now ≡ before ++ entries_within dir page) × (false ≡ all_within dir page)
  taken-no_entry none = ended (entries_here ∙ no_entry row none (key.a == dir)) (all_here ∙ not_all row none)
    where
      either : (b : Bool) → (if b then (let nothing : List (List ℕ × ℕ) = [] in nothing) else []) ≡ []
      either true = refl
      either false = refl

      no_entry : (r : Row) → ((edge : Edge) → r ≡ OfEdge edge → ⊥) → (b : Bool)
          → (if b then entry_then key.b r (entries_within dir (drop (i + 1) page)) else []) ≡ []
      no_entry (OfEdge edge) other b = absurd (other edge refl)
      no_entry (OfSetting x) other b = either b
      no_entry (OfCounters x) other b = either b
      no_entry (OfNode x) other b = either b
      no_entry (OfList x) other b = either b
      no_entry (OfSlice x) other b = either b
      no_entry (OfSession x) other b = either b
      no_entry OfSustained other b = either b
      no_entry (OfDropped x) other b = either b
      no_entry (OfDead x) other b = either b

      not_all : (r : Row) → ((edge : Edge) → r ≡ OfEdge edge → ⊥) → (is_entry r && (key.a == dir) && all_within dir (drop (i + 1) page)) ≡ false
      not_all (OfEdge edge) other = absurd (other edge refl)
      not_all (OfSetting x) other = refl
      not_all (OfCounters x) other = refl
      not_all (OfNode x) other = refl
      not_all (OfList x) other = refl
      not_all (OfSlice x) other = refl
      not_all (OfSession x) other = refl
      not_all OfSustained other = refl
      not_all (OfDropped x) other = refl
      not_all (OfDead x) other = refl
