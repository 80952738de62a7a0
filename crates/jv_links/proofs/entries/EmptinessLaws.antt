-- Whether a directory has entries, by the first row of an entry behind its beginning.
use Rattle.std.proofs.Common.{◌≡◌, ℕ, ◌<◌, ◌≤◌, arith, length, slice_index_or, Bool, true, false, List, [], ◌∷◌, map, Some, Result, Ok, Err, refl, ap, subst, ◌∙◌}
use Rattle.std.specs.Prelude.{◌==◌, is_some, if◌then◌else◌, filter, IsErrAnd}
use Rattle.jv_model.specs.declared.fault.Fault.{Fault}
use Rattle.jv_model.specs.declared.fault.RowFault.{RowFault}
use Rattle.jv_model.specs.declared.fault.TxFault.{TxFault}
use Rattle.jv_model.specs.declared.fault.TxFault.TheVariants.{Rows as OfRows}
use Rattle.jv_model.specs.declared.row.Row.{Row}
use Rattle.jv_model.specs.declared.row.Row.TheVariants.{OfSustained}
use Rattle.jv_model.specs.declared.row.RowKey.{RowKey}
use Rattle.jv_model.specs.promise.FiniteMap.{first_passing, first_where, entries_where}
use Rattle.jv_model.specs.promise.rows.RowKeys.{RowMap}
use Rattle.jv_model.specs.promise.rows.RowPlaces.{edge_key}
use Rattle.jv_model.specs.promise.tree.Reading.{entries_of}
use Rattle.jv_model.specs.promise.tree.Tree.{Tree, EntryKey, has_entries}
use Rattle.jv_outside.specs.Rows.{rows_after}
use Rattle.jv_outside.specs.promise.Store.{Store}
use Rattle.jv_rows.specs.Scans.{rows_read, ScansRows}
use Rattle.jv_rows.specs.Transactions.{Looks}
use Rattle.jv_rows.proofs.transactions.TransactionLaws.{fails-looks, looks-exit}
use Rattle.jv_volume.specs.promise.TypedRows.{typed}
use Rattle.jv_volume.specs.promise.TreeOf.{tree_of}
use Rattle.jv_tree.proofs.DirectoryLaws.{entries_from, edges_after}
use Rattle.jv_tree.proofs.EdgeOrderLaws.{chain-behind}
use Rattle.jv_tree.proofs.PageLaws.{has_some, first-of-page, none-of-page}
use Rattle.jv_rows.proofs.scans.ScannedLaws.{fails-scan}
use Rattle.jv_tree.proofs.EntryReadLaws.{entries-known}
use Rattle.jv_model.proofs.TestLaws.{of_known}

kept_by : (test : EntryKey → ℕ → Bool) (e : EntryKey × ℕ) (es : List (EntryKey × ℕ)) (b : Bool)
    → is_some (first_passing test es) ≡ has_some
    (map (λ (x : EntryKey × ℕ). (x.0.name, x.1)) (filter (λ (x : EntryKey × ℕ). test x.0 x.1) es))
    → is_some (elim b [ true ↦ Some e | false ↦ first_passing test es ])
    ≡ has_some (map (λ (x : EntryKey × ℕ). (x.0.name, x.1))
    (if b then e ∷ filter (λ (x : EntryKey × ℕ). test x.0 x.1) es else filter (λ (x : EntryKey × ℕ). test x.0 x.1)
    es))
kept_by test e es true rest = refl
kept_by test e es false rest = rest

first_kept : (test : EntryKey → ℕ → Bool) (es : List (EntryKey × ℕ))
    → is_some (first_passing test es) ≡ has_some
    (map (λ (e : EntryKey × ℕ). (e.0.name, e.1)) (filter (λ (e : EntryKey × ℕ). test e.0 e.1) es))
first_kept test [] = refl
first_kept test (e ∷ es) = kept_by test e es (test e.0 e.1) (first_kept test es)

-- a directory has entries where a listing of it shows some
has_entries-listed : (t : Tree) (dir : ℕ) → has_entries t dir ≡ has_some (entries_of t dir)
unfolding first_where entries_where
has_entries-listed t dir = first_kept (λ key named. key.dir == dir) t.entries.list

module _ (dir : ℕ) (before after : Store) (last : RowKey) where
  abbrev finds : Tree → Result Bool Fault
  finds t = Ok (has_entries t dir)

  -- the row wasn't read
  pub emptiness-unread : (result : Result Bool TxFault) (fault : RowFault) → IsErrAnd result (λ e. e ≡ OfRows fault)
      → ScansRows 3 (Some last) 1 before after (Err fault)
      → Looks before after result finds
  emptiness-unread result fault is scan =
      looks-exit before after finds result (OfRows fault) is
      (fails-looks before after finds (OfRows fault) (fails-scan 3 (Some last) 1 before after fault scan))

  module _ (page : List (RowKey × Row)) (start : last ≡ edge_key dir [])
      (scan : ScansRows 3 (Some last) 1 before after (Ok page)) where
    read_known : (known : RowMap) → before.rows ≡ Some known
        → rows_read (rows_after known 3 (Some (edge_key dir [])) 1) ≡ Ok page
    read_known known is = subst (λ (k : RowKey). rows_read (rows_after known 3 (Some k) 1) ≡ Ok page) start
        (of_known (λ known. rows_read (rows_after known 3 (Some last) 1) ≡ Ok page) before.rows known is scan.found)

    found : (some : Bool) → ((known : RowMap) → before.rows ≡ Some known
        → has_some (entries_from dir (edges_after (edge_key dir []) known)) ≡ some)
        → Looks before after (Ok some) finds
    found some by_rows = record {
      rows_are = scan.rows_are;
      opened_at = scan.opened_at;
      counts = scan.counts;
      agrees = λ known is whole bytes.
          let t = tree_of bytes (typed known) in
          ap (λ (b : Bool). Ok b) (has_entries-listed t dir ∙ ap has_some (entries-known bytes known dir whole)
          ∙ by_rows known is);
      bad = tt;
    }

    -- the first row, if there is one, is of this directory or another
    by_page : (rows : List (RowKey × Row)) → page ≡ rows → (none : RowKey × Row)
        → (1 ≤ length rows → Looks before after (Ok ((slice_index_or rows 0 none).0.a == dir)) finds)
        × (length rows < 1 → Looks before after (Ok false) finds)
    by_page [] is none = (
      λ some. absurd (omega (arith, some)),
      λ few. found false (λ known at. none-of-page dir (edges_after (edge_key dir []) known)
          (read_known known at ∙ ap (λ (l : List (RowKey × Row)). Ok l) is)),
    )
    by_page (r ∷ rest) is none = (
      λ some. found (r.0.a == dir) (λ known at. first-of-page dir (edges_after (edge_key dir []) known) r.0 r.1 rest
          (chain-behind (edge_key dir []) known.list known.sorted)
          (read_known known at ∙ ap (λ (l : List (RowKey × Row)). Ok l) is)),
      λ few. absurd (omega (arith, few)),
    )

    pub emptiness-none : length page < 1 → Looks before after (Ok false) finds
    emptiness-none few = (by_page page refl (edge_key dir [], OfSustained)).1 few

    pub emptiness-first : (none : RowKey × Row) → 1 ≤ length page
        → Looks before after (Ok ((slice_index_or page 0 none).0.a == dir)) finds
    emptiness-first none some = (by_page page refl none).0 some
