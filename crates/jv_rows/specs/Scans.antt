-- What a reading of several rows returns.
use Rattle.std.specs.Prelude.{◌≡◌, ℕ, List, [], ◌∷◌, Option, None, Some, Result, Ok, Err, IfOk, IfErr, IfSome, IsTrue}
use Rattle.std.specs.List.{AllByRecursion}
use Rattle.jv_model.specs.declared.row.RowKey.{RowKey}
use Rattle.jv_model.specs.declared.row.Row.{Row}
use Rattle.jv_model.specs.declared.fault.RowFault.{RowFault}
use Rattle.jv_model.specs.declared.fault.RowFault.TheVariants.{Bad, Failed, Memory}
use Rattle.jv_model.specs.promise.rows.RowKeys.{RowMap}
use Rattle.jv_model.specs.promise.rows.RowGrammar.{row_of}
use Rattle.jv_model.specs.rows.RowGrammar.{is_row}
use Rattle.jv_outside.specs.promise.Store.{Store}
use Rattle.jv_outside.specs.Rows.{rows_after}
use Rattle.jv_rows.specs.Readings.{RowCounts}

-- a row and those behind it, up to the first that is malformed
abbrev pub row_then : RowKey → List ℕ → Option Row → Result (List (RowKey × Row)) (RowKey × List ℕ)
    → Result (List (RowKey × Row)) (RowKey × List ℕ)
row_then key bytes None rest = Err (key, bytes)
row_then key bytes (Some row) (Ok rows) = Ok ((key, row) ∷ rows)
row_then key bytes (Some row) (Err off) = Err off

-- each row by its table's grammar, or the first row that is malformed
abbrev pub rows_read : List (RowKey × List ℕ) → Result (List (RowKey × Row)) (RowKey × List ℕ)
rows_read [] = Ok []
rows_read (r ∷ rs) = row_then r.0 r.1 (row_of r.0.tab r.1) (rows_read rs)

-- each of them is allowed
abbrev pub AreAllowed : List (RowKey × Row) → Type 0
AreAllowed rows = AllByRecursion (λ r. IsTrue (is_row r.1)) rows

-- why a row wasn't read: it is malformed, or out of memory
abbrev pub RefusesBytes : RowKey → List ℕ → RowFault → Type 0
RefusesBytes key bytes (Bad at off) = (at ≡ key) × (off ≡ bytes) × (row_of key.tab bytes ≡ None)
RefusesBytes key bytes Failed = ⊥
RefusesBytes key bytes Memory = Unit {0}

-- why rows weren't read: the first that is malformed, or out of memory
abbrev pub RefusesRows : List (RowKey × List ℕ) → RowFault → Type 0
RefusesRows rows (Bad at bytes) = (row_of at.tab bytes ≡ None) × (rows_read rows ≡ Err (at, bytes))
RefusesRows rows Failed = ⊥
RefusesRows rows Memory = Unit {0}

abbrev pub RefusesScan : Option RowMap → ℕ → Option RowKey → ℕ → RowFault → Type 0
RefusesScan rows tab last count (Bad at bytes) = (row_of at.tab bytes ≡ None)
    × IfSome rows (λ known. rows_read (rows_after known tab last count) ≡ Err (at, bytes))
RefusesScan rows tab last count Failed = Unit {0}
RefusesScan rows tab last count Memory = Unit {0}

-- a reading of the first `count` rows of a table after a key
pub record ScansRows (tab : ℕ) (last : Option RowKey) (count : ℕ) (before after : Store)
    (result : Result (List (RowKey × Row)) RowFault) : Type 0 where
  pub rows_are : after.rows ≡ before.rows
  pub opened_at : after.opened ≡ before.opened
  pub counts : RowCounts before.faults after.faults result
  pub found : IfOk result (λ list.
      IfSome before.rows (λ known. rows_read (rows_after known tab last count) ≡ Ok list))
  pub allowed : IfOk result AreAllowed
  pub refused : IfErr result (RefusesScan before.rows tab last count)
