-- Changes that a transaction has drafted: what is read over them, and what one more does.
use Rattle.std.specs.Prelude.{◌≡◌, ℕ, Bool, if◌then◌else◌, List, [], ◌∷◌, Option, None, Some, Result, Ok, Err, IfOk, IfErr, IfSome, OnOk, OnErr, MatchOption, IsTrue}
use Rattle.std.specs.Option.{option_map, option_or}
use Rattle.jv_model.specs.declared.row.Row.{Row}
use Rattle.jv_model.specs.declared.row.RowKey.{RowKey}
use Rattle.jv_model.specs.declared.fault.RowFault.{RowFault}
use Rattle.jv_model.specs.declared.fault.TxFault.{TxFault}
use Rattle.jv_model.specs.declared.fault.TxFault.TheVariants.{Refused, Moved, Rows as OfRows}
use Rattle.jv_model.specs.declared.fault.RowFault.TheVariants.{Bad, Failed, Memory}
use Rattle.jv_model.specs.promise.FiniteMap.{get}
use Rattle.jv_model.specs.FiniteMap.{alter}
use Rattle.jv_model.specs.promise.rows.RowKeys.{RowMap, is_key_of}
use Rattle.jv_outside.specs.declared.batch.Change.{Change}
use Rattle.jv_outside.specs.declared.batch.Change.TheVariants.{Put, Del}
use Rattle.jv_outside.specs.promise.Rows.{applied}
use Rattle.jv_outside.specs.promise.Store.{Store}
use Rattle.jv_rows.specs.Readings.{RowCounts}
use Rattle.jv_rows.specs.Transactions.{TransactionCounts}
use Rattle.jv_volume.specs.promise.TypedRows.{Cell, Rows, typed}

-- the key that a change is of
abbrev pub key_in : Change → RowKey
key_in (Put key bytes) = key
key_in (Del key) = key

-- the bytes that a change leaves there
abbrev pub bytes_in : Change → Option (List ℕ)
bytes_in (Put key bytes) = Some bytes
bytes_in (Del key) = None

-- the last of changes that is of a key
abbrev pub last_change : RowKey → List Change → Option Change
last_change key [] = None
last_change key (first ∷ rest) =
    option_or (last_change key rest) (if is_key_of key (key_in first) then Some first else None)

-- why no value was read from bytes that a change left at a key: they are malformed, or out of
-- memory
abbrev pub RefusesPut : {A : Type 0} → (List ℕ → Option A) → RowKey → List ℕ → RowFault → Type 0
RefusesPut read key bytes (Bad at malformed) =
    (at ≡ key) × (malformed ≡ bytes) × (read bytes ≡ None)
RefusesPut read key bytes Failed = ⊥
RefusesPut read key bytes Memory = Unit {0}

-- what was read from bytes that a change left at a key: the value that they spell, which the
-- grammar allows
pub record ReadsPut {A : Type 0} (read : List ℕ → Option A) (is_allowed : A → Bool) (key : RowKey)
    (bytes : List ℕ) (result : Result (Option A) RowFault) : Type 0 where
  pub found : IfOk result (λ found.
      MatchOption found ⊥ (λ x. (read bytes ≡ Some x) × IsTrue (is_allowed x)))
  pub refused : IfErr result (RefusesPut read key bytes)

-- rows by their types, with changes made
unfoldable pub drafted : List Change → RowMap → Rows
drafted changes known = typed (applied changes known)

-- a row as a cell of its table
abbrev pub cell : {A : Type 0} → (A → Row) → Option A → Option Cell
cell row found = option_map (λ x. Ok (row x)) found

-- why a row wasn't read: bytes that are malformed, the keeper failed, or out of memory
abbrev pub RefusesCell : RowKey → List Change → Option RowMap → RowFault → Type 0
RefusesCell key changes rows (Bad at bytes) =
    (at ≡ key) × IfSome rows (λ known. get (drafted changes known) key ≡ Some (Err bytes))
RefusesCell key changes rows Failed = Unit {0}
RefusesCell key changes rows Memory = Unit {0}

-- A reading of the row at a key, over changes: rows and place are the same, and where the rows are
-- known, the answer is what stands there. A row is one that the grammar allows, whatever is known.
pub record Sees {A : Type 0} (row : A → Row) (is_allowed : A → Bool) (key : RowKey)
    (changes : List Change) (before after : Store)
    (result : Result (Option A) RowFault) : Type 0 where
  pub rows_are : after.rows ≡ before.rows
  pub opened_at : after.opened ≡ before.opened
  pub counts : RowCounts before.faults after.faults result
  pub found : IfOk result (λ found.
      IfSome before.rows (λ known. get (drafted changes known) key ≡ cell row found))
  pub allowed : IfOk result (λ found. IfSome found (λ x. IsTrue (is_allowed x)))
  pub refused : IfErr result (RefusesCell key changes before.rows)

-- One more change: the row at a key from then on. Out of memory the changes are as before.
pub record Drafts {E : Type 0} (key : RowKey) (stands : Option Cell) (before after : List Change)
    (result : Result (Unit {0}) E) : Type 0 where
  pub done : OnOk result ((known : RowMap)
      → drafted after known ≡ alter (drafted before known) key stands)
  pub undone : OnErr result (after ≡ before)

-- bytes that are no row, or none where nothing stands
abbrev pub IsNoRow : Option Cell → List ℕ → Type 0
IsNoRow None bytes = bytes ≡ []
IsNoRow (Some (Ok row)) bytes = ⊥
IsNoRow (Some (Err stored)) bytes = stored ≡ bytes

-- why a row that has to be there wasn't found: it is malformed or absent, the keeper failed, or out
-- of memory
abbrev pub RefusesNeeded : RowKey → List Change → Option RowMap → TxFault → Type 0
RefusesNeeded key changes rows (Refused fault) = ⊥
RefusesNeeded key changes rows (Moved list) = ⊥
RefusesNeeded key changes rows (OfRows (Bad at bytes)) =
    (at ≡ key) × IfSome rows (λ known. IsNoRow (get (drafted changes known) key) bytes)
RefusesNeeded key changes rows (OfRows Failed) = Unit {0}
RefusesNeeded key changes rows (OfRows Memory) = Unit {0}

-- A reading of a row that has to be there, over changes.
pub record Needs {A : Type 0} (row : A → Row) (is_allowed : A → Bool) (key : RowKey)
    (changes : List Change) (before after : Store) (result : Result A TxFault) : Type 0 where
  pub rows_are : after.rows ≡ before.rows
  pub opened_at : after.opened ≡ before.opened
  pub counts : TransactionCounts before.faults after.faults result
  pub found : IfOk result (λ x.
      IfSome before.rows (λ known. get (drafted changes known) key ≡ Some (Ok (row x))))
  pub allowed : IfOk result (λ x. IsTrue (is_allowed x))
  pub refused : IfErr result (RefusesNeeded key changes before.rows)
