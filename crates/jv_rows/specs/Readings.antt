-- What a reading of a keeper's row returns, against the grammar of its table.
use Rattle.std.specs.Prelude.{◌≡◌, ℕ, Bool, List, Option, None, Some, Result, Ok, Err, IfOk, IfErr, IfSome, IsTrue}
use Rattle.jv_model.specs.declared.row.RowKey.{RowKey}
use Rattle.jv_model.specs.declared.fault.RowFault.{RowFault}
use Rattle.jv_model.specs.declared.fault.RowFault.TheVariants.{Bad, Failed, Memory}
use Rattle.jv_model.specs.promise.FiniteMap.{get}
use Rattle.jv_model.specs.promise.rows.RowKeys.{RowMap}
use Rattle.jv_outside.specs.promise.Causes.{Rose}
use Rattle.jv_outside.specs.promise.Store.{Store}

-- what is found is what is stored: nothing, or the bytes of the value, from which it is read
abbrev pub IsFound : {A : Type 0} → (List ℕ → Option A) → (A → List ℕ) → Option (List ℕ) → Option A
    → Type 0
IsFound read spelled stored None = stored ≡ None
IsFound read spelled stored (Some x) = (stored ≡ Some (spelled x)) × (read (spelled x) ≡ Some x)

-- the keeper's count of faults rose where the keeper failed, and is the same otherwise
abbrev pub RowCause : ℕ → ℕ → RowFault → Type 0
RowCause before now (Bad at bytes) = now ≡ before
RowCause before now Failed = Rose before now
RowCause before now Memory = now ≡ before

-- what a reading does to the keeper's count of faults, by its result
abbrev pub RowCounts : {A : Type 0} → ℕ → ℕ → Result A RowFault → Type 0
RowCounts before now (Ok answer) = now ≡ before
RowCounts before now (Err fault) = RowCause before now fault

-- why a row wasn't read: its stored bytes are malformed, the keeper failed, or out of memory
abbrev pub RefusesRow : {A : Type 0} → (List ℕ → Option A) → RowKey → Option RowMap → RowFault
    → Type 0
RefusesRow read key rows (Bad at bytes) =
    (at ≡ key) × (read bytes ≡ None) × IfSome rows (λ known. get known key ≡ Some bytes)
RefusesRow read key rows Failed = Unit {0}
RefusesRow read key rows Memory = Unit {0}

-- a reading of the row at a key: rows and place are the same, and where the rows are known, the
-- answer is what is stored. A value is one that the grammar allows, whatever is known
pub record ReadsRow {A : Type 0} (read : List ℕ → Option A) (spelled : A → List ℕ)
    (is_allowed : A → Bool) (key : RowKey) (before after : Store)
    (result : Result (Option A) RowFault) : Type 0 where
  pub rows_are : after.rows ≡ before.rows
  pub opened_at : after.opened ≡ before.opened
  pub counts : RowCounts before.faults after.faults result
  pub found : IfOk result (λ found.
      IfSome before.rows (λ known. IsFound read spelled (get known key) found))
  pub allowed : IfOk result (λ found. IfSome found (λ x. IsTrue (is_allowed x)))
  pub refused : IfErr result (RefusesRow read key before.rows)
