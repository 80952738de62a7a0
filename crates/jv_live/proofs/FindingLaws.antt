-- What a scan of one row behind a file's finds: the next file that the session keeps.
use Rattle.std.proofs.Common.{◌≡◌, ℕ, ◌^◌, List, [], ◌∷◌, length, Option, None, Some, Result, Ok, Err, refl, sym, ap, subst, ◌∙◌, eqb-true}
use Rattle.std.specs.Prelude.{IfSome, IsTrue}
use Rattle.std.specs.Int.{w64, from_be_bytes}
use Rattle.std.specs.Option.{option_map}
use Rattle.std.proofs.lemmas.Option.{IfSome_then}
use Rattle.jv_model.specs.declared.tables.TheConstants.{TABLE_OF_SUSTAINED}
use Rattle.jv_model.specs.declared.fault.Fault.{Fault}
use Rattle.jv_model.specs.declared.fault.RowFault.{RowFault}
use Rattle.jv_model.specs.declared.fault.TxFault.TheVariants.{Rows as OfRows}
use Rattle.jv_model.specs.declared.row.Row.{Row}
use Rattle.jv_model.specs.declared.row.Row.TheVariants.{OfSustained}
use Rattle.jv_model.specs.declared.row.RowKey.{RowKey}
use Rattle.jv_model.specs.promise.FiniteMap.{get}
use Rattle.jv_model.specs.promise.rows.RowFields.{long}
use Rattle.jv_model.specs.promise.rows.RowGrammar.{sustained_of}
use Rattle.jv_model.specs.promise.rows.RowKeys.{RowMap}
use Rattle.jv_model.specs.promise.rows.RowPlaces.{sustained_key}
use Rattle.jv_model.specs.promise.tree.Tree.{Tree}
use Rattle.jv_outside.specs.promise.Store.{Store}
use Rattle.jv_rows.specs.Scans.{ScansRows}
use Rattle.jv_rows.specs.Tables.{sustained_row}
use Rattle.jv_rows.proofs.scans.ScannedLaws.{fails-scan}
use Rattle.jv_rows.proofs.scans.NextRowLaws.{long-less, IsRead, of_read}
use Rattle.jv_rows.proofs.scans.NumberedRowsLaws.{NumberedTable, number_at, HasNumber, has_number, read_place, read_row, read_cell, read_there, none_between}
use Rattle.jv_rows.proofs.transactions.TransactionLaws.{fails-looks}
use Rattle.jv_volume.specs.promise.TypedRows.{typed, is_key}
use Rattle.jv_volume.specs.promise.Views.{row_in, sustained_in}
use Rattle.jv_volume.specs.promise.Whole.{Whole}
use Rattle.jv_volume.proofs.maps.TableLaws.{long_below}
use Rattle.jv_live.specs.Steps.{last_key, first_kept, IsSpelled, FindsKept}

-- what is made of a tree by a step that only finds something
abbrev pub finds : Tree → Result (Unit {0}) Fault
finds t = Ok tt

module _ (sid : ℕ) (after : Option ℕ) (last : RowKey) (before now : Store) where
  -- the row wasn't read
  pub finds-unread : (fault : RowFault) → ScansRows 7 (Some last) 1 before now (Err fault) → FindsKept sid after before now (Err (OfRows fault))
  finds-unread fault s = record {
    looks = fails-looks before now finds (OfRows fault) (fails-scan 7 (Some last) 1 before now fault s);
    past = tt;
    small = tt;
    there = tt;
    least = tt;
  }

-- the files that sessions keep, by their inodes
abbrev sustained : NumberedTable
sustained = record {
  tab = TABLE_OF_SUSTAINED;
  width = 8;
  limit = 2 ^ 64;
  bytes_of = long;
  number_of = from_be_bytes w64;
  some_bytes = λ n. refl;
  bytes_rise = long-less;
  below_limit = long_below;
}

sustained_is : (o : Option (Unit {0})) (row : Row) → option_map (λ unit. OfSustained) o ≡ Some row → row ≡ OfSustained
sustained_is None row h = absurd (cc)
sustained_is (Some unit) row h = cc

-- where a row of the table has its key, eight bytes spell its file
eight_bytes : (key : RowKey) → key.tab ≡ TABLE_OF_SUSTAINED → IsTrue (is_key key) → length key.b ≡ 8
eight_bytes key tab is = eqb-true (length key.b) 8 (sym (ap (λ (t : ℕ). is_key (record { tab = t; a = key.a; b = key.b })) tab) ∙ is)

-- a file that the first of rows has
record IsFirst (sid : ℕ) (after : Option ℕ) (list : List (RowKey × Row)) (inode : ℕ) : Type 0 where
  first : RowKey × Row
  rest : List (RowKey × Row)
  list_is : list ≡ first ∷ rest
  number : HasNumber sustained sid after first.0 inode

first_found : (sid : ℕ) (after : Option ℕ) (list : List (RowKey × Row)) → IsSpelled list → IfSome (first_kept sid after list) (IsFirst sid after list)
first_found sid after [] spelled = tt
first_found sid after (r ∷ rows) spelled = IfSome_then (number_at sustained sid after r.0) (has_number sustained sid after r.0 spelled)
    (λ inode has. record { first = r; rest = rows; list_is = refl; number = has })

module _ (sid : ℕ) (after : Option ℕ) (before now : Store) (list : List (RowKey × Row)) (s : ScansRows 7 (Some (last_key sid after)) 1 before now (Ok list))
    (spelled : IsSpelled list) (found : Option ℕ) (found_is : found ≡ first_kept sid after list) where
  abbrev last : RowKey
  last = last_key sid after

  is_first : IfSome found (IsFirst sid after list)
  is_first = subst (λ o. IfSome o (IsFirst sid after list)) (sym found_is) (first_found sid after list spelled)

  module _ (known : RowMap) (e : RowKey × List ℕ) (r : IsRead 7 last known list e) where
    row_is : r.row ≡ OfSustained
    row_is = sustained_is (sustained_of e.1) r.row (sym (sustained_row e.1) ∙ read_row sustained sid after known list e r)

    pair_there : (inode : ℕ) → IsFirst sid after list inode → get (typed known) (sustained_key sid inode) ≡ Some (Ok OfSustained)
    pair_there inode is =
        let same : is.first ≡ (e.0, r.row) = cc in
        read_there sustained sid after known list e r inode (subst (λ (p : RowKey × Row). HasNumber sustained sid after p.0 inode) same is.number)
        ∙ ap (λ row. Some (Ok row)) row_is

    number_read : Whole (typed known) → (length e.0.b ≡ 8) × IsSpelled ((e.0, r.row) ∷ []) × (found ≡ number_at sustained sid after e.0)
    number_read whole = (
      eight_bytes e.0 (read_place sustained sid after known list e r).0 (whole.cells e.0 (Ok r.row) (read_cell sustained sid after known list e r)).key_is,
      subst IsSpelled r.list_is spelled,
      found_is ∙ ap (first_kept sid after) r.list_is,
    )

  -- the row behind was read
  pub finds-read : FindsKept sid after before now (Ok found)
  finds-read = record {
    looks = record { rows_are = s.rows_are; opened_at = s.opened_at; counts = s.counts; agrees = λ known is whole bytes. refl; bad = tt };
    past = IfSome_then found is_first (λ inode is. is.number.past);
    small = IfSome_then found is_first (λ inode is. is.number.small);
    there = IfSome_then found is_first (λ inode is. of_read (λ known. get (typed known) (sustained_key sid inode) ≡ Some (Ok OfSustained)) 7 last
        before now list s (λ none. (let both = sym is.list_is ∙ none in absurd (cc))) (λ known e r. pair_there known e r inode is));
    least = λ known is whole j small past ahead. ap (λ c. sustained_in (row_in c))
        (none_between sustained sid after known list before now s is found (λ e r. number_read known e r whole) j small past ahead);
  }
