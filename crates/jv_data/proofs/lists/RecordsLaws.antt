-- How the records of a window are read, and how a look at it goes.
use Rattle.std.proofs.Common.{◌≡◌, ◌≢◌, ℕ, ◌<◌, ◌^◌, List, [], ◌∷◌, Option, None, Some, Result, Ok, Err, refl, sym, ap, subst, ◌∙◌, lt-ltb}
use Rattle.std.specs.Prelude.{IsTrue}
use Rattle.std.specs.List.{AllByRecursion, list_all}
use Rattle.std.specs.Option.{unwrap_or}
use Rattle.std.proofs.lemmas.Bool.{and_parts, cond-true}
use Rattle.jv_model.specs.declared.fault.RowFault.{RowFault}
use Rattle.jv_model.specs.declared.fault.TxFault.{TxFault}
use Rattle.jv_model.specs.declared.fault.TxFault.TheVariants.{Rows as OfRows}
use Rattle.jv_model.specs.declared.row.Node.{Node as NodeRow}
use Rattle.jv_model.specs.declared.row.Row.TheVariants.{OfList}
use Rattle.jv_model.specs.declared.slice.Rec.{Rec}
use Rattle.jv_model.specs.promise.FiniteMap.{get}
use Rattle.jv_model.specs.promise.blocks.Slices.{IsRecord, is_record}
use Rattle.jv_model.specs.promise.rows.RowGrammar.{is_list, list_of, list_bytes}
use Rattle.jv_model.specs.promise.rows.RowKeys.{RowMap}
use Rattle.jv_model.specs.promise.rows.RowPlaces.{list_key}
use Rattle.jv_model.specs.tree.FileBytes.{length_seen}
use Rattle.jv_outside.specs.declared.batch.Change.{Change}
use Rattle.jv_outside.specs.promise.Store.{Store}
use Rattle.jv_volume.specs.promise.TypedRows.{Rows, Cell, typed}
use Rattle.jv_volume.specs.promise.Views.{row_in, records_in, lists_of}
use Rattle.jv_rows.specs.Drafts.{Sees, cell, drafted}
use Rattle.jv_rows.specs.Readings.{ReadsRow}
use Rattle.jv_rows.specs.Tables.{list_row}
use Rattle.jv_rows.proofs.transactions.DraftLaws.{sees_stored}
use Rattle.jv_rows.proofs.transactions.TransactionLaws.{past-ends, fails-looks, fails-sees, stands-sees, drafted-none}
use Rattle.jv_data.specs.Committing.{HasFile}
use Rattle.jv_data.specs.Records.{HasRecords, LooksAt}
use Rattle.jv_data.proofs.commits.CommitLaws.{looks-any}
use Rattle.jv_model.proofs.TestLaws.{if_some-by}

-- the records that the grammar allows
pub are_records : (records : List Rec) → IsTrue (list_all is_record records) → AllByRecursion IsRecord records
are_records [] all = tt
are_records (r ∷ rs) all = (let both = and_parts (is_record r) (list_all is_record rs) all in (both.0, are_records rs both.1))

listed_records : (records : List Rec) → IsTrue (is_list records) → AllByRecursion IsRecord records
listed_records records is = are_records records (and_parts _ (list_all is_record records) is).1

module _ (inode window : ℕ) (low : window < 2 ^ 32) (before after : Store) where
  -- a reading of the list's row, as one over no changes
  pub records-seen : (result seen : Result (Option (List Rec)) RowFault) → result ≡ seen
      → ReadsRow list_of list_bytes is_list (list_key inode window) before after result
      → Sees OfList is_list (list_key inode window) [] before after seen
  records-seen result seen is r =
      sees_stored OfList list_of 4 list_row (list_key inode window) refl list_bytes is_list [] before after seen refl
      (subst (ReadsRow list_of list_bytes is_list (list_key inode window) before after) is r)

  pub unchanged : (known : RowMap) → before.rows ≡ Some known → get (drafted [] known) (list_key inode window) ≡ get (typed known) (list_key inode window)
  unchanged known is = ap (λ rows. get rows (list_key inode window)) (drafted-none known)

  lists_as : (rows : Rows) (c : Option Cell) → get rows (list_key inode window) ≡ c → records_in (row_in c) ≡ lists_of rows inode window
  unfolding lists_of
  lists_as rows c is = ap (λ c. records_in (row_in c)) (sym is) ∙ sym (cond-true _ _ _ (lt-ltb window (2 ^ 32) low))

  -- a row that was found isn't malformed
  never_malformed : (rows : Rows) (found : Option (List Rec)) → get rows (list_key inode window) ≡ cell OfList found
      → (bytes : List ℕ) → get rows (list_key inode window) ≢ Some (Err bytes)
  never_malformed rows None is bytes bad = (let both = sym is ∙ bad in absurd (cc))
  never_malformed rows (Some records) is bytes bad = (let both = sym is ∙ bad in absurd (cc))

  -- readings over changes that leave the list as it was
  module _ (changes : List Change) (same : (known : RowMap) → before.rows ≡ Some known → get (drafted changes known) (list_key inode window) ≡ get (typed known) (list_key inode window)) where
    pub records-unread : (fault : RowFault) → Sees OfList is_list (list_key inode window) changes before after (Err fault)
        → HasRecords inode window before after (Err (OfRows fault))
    records-unread fault s = record {
      looks = fails-looks before after (λ t. Ok tt) (OfRows fault) (fails-sees OfList is_list (list_key inode window) changes before after same fault s);
      list = tt;
      records = tt;
      formed = tt;
    }

    records-found : (found : Option (List Rec)) (records : List Rec) → records_in (row_in (cell OfList found)) ≡ records
        → Sees OfList is_list (list_key inode window) changes before after (Ok found) → AllByRecursion IsRecord records
        → HasRecords inode window before after (Ok records)
    records-found found records is s all = record {
      looks = record { rows_are = s.rows_are; opened_at = s.opened_at; counts = s.counts; agrees = λ known here whole bytes. refl; bad = tt };
      list = if_some-by (λ known. records ≡ lists_of (typed known) inode window) before.rows (λ known here.
          sym is ∙ lists_as (typed known) (cell OfList found) (stands-sees OfList is_list (list_key inode window) changes before after same found s known here));
      records = all;
      formed = if_some-by (λ known. (bytes : List ℕ) → get (typed known) (list_key inode window) ≢ Some (Err bytes)) before.rows (λ known here.
          never_malformed (typed known) found (stands-sees OfList is_list (list_key inode window) changes before after same found s known here));
    }

    -- the records of the row that was found, none where there is no row
    pub records-seen_in : (found : Option (List Rec)) → Sees OfList is_list (list_key inode window) changes before after (Ok found)
        → HasRecords inode window before after (Ok (unwrap_or found []))
    records-seen_in None s = records-found None [] refl s tt
    records-seen_in (Some records) s = records-found (Some records) records refl s (listed_records records s.allowed)

-- a look whose list couldn't be read
pub look-unread : (sid inode window : ℕ) (before middle after : Store) (was : NodeRow) (fault : TxFault) → HasFile sid inode before middle (Ok was)
    → HasRecords inode window middle after (Err fault) → LooksAt sid inode window before after (Err fault)
look-unread sid inode window before middle after was fault h r = record {
  looks = past-ends before middle after (length_seen sid inode) (λ t. Ok was.length)
      (record { rows_are = h.looks.rows_are; opened_at = h.looks.opened_at; calm = h.looks.counts; goes_on = h.looks.agrees }) (Err fault)
      (looks-any middle after fault (λ t. Ok was.length) r.looks);
  list = tt;
  records = tt;
  formed = tt;
}
