-- One more record in the list of a window: how the bytes of its row are judged, and what the
-- changes are then.
use Rattle.std.specs.Prelude.{ℕ, List, [], ◌∷◌, ◌++◌, Option, Some, Result, Ok, Err}
use Rattle.std.specs.Option.{IsSome, unwrap_or}
use Rattle.jv_model.specs.declared.fault.Down.{Down}
use Rattle.jv_model.specs.declared.fault.RowFault.{RowFault}
use Rattle.jv_model.specs.declared.row.Row.TheVariants.{OfList}
use Rattle.jv_model.specs.declared.row.RowKey.{RowKey}
use Rattle.jv_model.specs.declared.slice.Rec.{Rec}
use Rattle.jv_model.specs.promise.FiniteMap.{get}
use Rattle.jv_model.specs.promise.rows.RowGrammar.{is_list, list_of}
use Rattle.jv_model.specs.promise.rows.RowPlaces.{list_key}
use Rattle.jv_outside.specs.declared.batch.Change.{Change}
use Rattle.jv_outside.specs.Holding.{Answers}
use Rattle.jv_outside.specs.promise.Rows.{applied}
use Rattle.jv_outside.specs.promise.Store.{Store, held}
use Rattle.jv_rows.specs.declared.misread.Misread.{Misread}
use Rattle.jv_rows.specs.Drafts.{cell, Drafts, ReadsPut, Sees}
use Rattle.jv_rows.specs.Reads.{Misses}

-- bytes were gone over: they spell a value, or why not
abbrev pub Judges : {Y : Type 0} → Result (Unit {0}) Misread → Option Y → Type 0
Judges (Ok unit) read = IsSome read
Judges (Err e) read = Misses e read

-- looking for the bytes that changes leave at a key, by the result
abbrev pub FindsLeft : List Change → RowKey → Store → Store → Result (Option (List ℕ)) Down
    → Type 0
FindsLeft changes key before after result =
    Answers (held before) (held after) result (λ known. get (applied changes known) key)

-- a reading that finds this row, and fails where a call failed
abbrev pub reading : Option (List Rec) → Result (Unit {0}) RowFault
    → Result (Option (List Rec)) RowFault
reading found (Ok unit) = Ok found
reading found (Err fault) = Err fault

-- One more record in a list that bytes spell: the list is read from them, and the row at the key
-- has the record behind it.
pub record AppendsTo (key : RowKey) (bytes : List ℕ) (rec : Rec) (changes left : List Change)
    (result : Result (Unit {0}) RowFault) : Type 0 where
  pub found : Option (List Rec)
  pub read : ReadsPut list_of is_list key bytes (reading found result)
  pub drafts : Drafts key (cell OfList (Some (unwrap_or found [] ++ rec ∷ []))) changes left result

-- One more record in the list of a window: a reading of the row, over the changes so far, goes so
-- and finds that list or none, and from then on the row has the record behind those that were
-- found. After an error the changes are as before.
pub record Appends (inode window : ℕ) (rec : Rec) (changes left : List Change)
    (before after : Store) (result : Result (Unit {0}) RowFault) : Type 0 where
  pub found : Option (List Rec)
  pub sees : Sees OfList is_list (list_key inode window) changes before after (reading found result)
  pub drafts : Drafts (list_key inode window)
      (cell OfList (Some (unwrap_or found [] ++ rec ∷ []))) changes left result
