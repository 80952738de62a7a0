-- The lists of a file, one after another by their windows.
use Rattle.std.specs.Prelude.{◌≡◌, ◌≢◌, ℕ, ◌<◌, ◌^◌, Bool, true, false, not, ◌==◌, nat_lt, if◌then◌else◌, List, [], length, Option, None, Some, Result, Ok, Err, IfOk, IfErr, IfSome, IsTrue}
use Rattle.std.specs.Int.{w32, from_be_bytes}
use Rattle.std.specs.Option.{option_map}
use Rattle.jv_model.specs.declared.tables.TheConstants.{TABLE_OF_LISTS}
use Rattle.jv_model.specs.declared.row.Row.{Row}
use Rattle.jv_model.specs.declared.row.Row.TheVariants.{OfList}
use Rattle.jv_model.specs.declared.row.RowKey.{RowKey}
use Rattle.jv_model.specs.declared.slice.Rec.{Rec}
use Rattle.jv_model.specs.declared.fault.RowFault.{RowFault}
use Rattle.jv_model.specs.declared.fault.RowFault.TheVariants.{Bad, Failed, Memory}
use Rattle.jv_model.specs.promise.FiniteMap.{get}
use Rattle.jv_model.specs.promise.rows.RowFields.{word}
use Rattle.jv_model.specs.promise.rows.RowGrammar.{is_list}
use Rattle.jv_model.specs.promise.rows.RowKeys.{RowMap}
use Rattle.jv_model.specs.promise.rows.RowPlaces.{list_key}
use Rattle.jv_outside.specs.promise.Store.{Store}
use Rattle.jv_volume.specs.promise.TypedRows.{Rows, typed}
use Rattle.jv_rows.specs.Readings.{RowCounts}

-- whether a number comes after one, if there is one
abbrev pub is_past : Option ℕ → ℕ → Bool
is_past None number = true
is_past (Some last) number = nat_lt last number

-- whether a number comes before one, if there is one
abbrev pub is_ahead : Option ℕ → ℕ → Bool
is_ahead None number = true
is_ahead (Some next) number = nat_lt number next

-- a number, if it comes after one
abbrev pub if_past : Option ℕ → Option ℕ → Option ℕ
if_past last None = None
if_past last (Some number) = (if is_past last number then Some number else None)

-- the key of a window of a file, or one below the keys of all its windows
abbrev pub last_list_key : ℕ → Option ℕ → RowKey
last_list_key inode None = record { tab = TABLE_OF_LISTS; a = inode; b = [] }
last_list_key inode (Some window) = list_key inode window

-- the window that four bytes spell
abbrev pub window_in : List ℕ → Option ℕ
window_in bytes = (if length bytes == 4 then Some (from_be_bytes w32 bytes) else None)

-- a window with its records, if it comes after one
abbrev pub list_past : Option ℕ → Option ℕ → List Rec → Option (ℕ × List Rec)
list_past last None records = None
list_past last (Some window) records =
    (if is_past last window then Some (window, records) else None)

-- the list of a row, if it is the file's and comes after a window
abbrev pub list_of_row : ℕ → Option ℕ → RowKey → Row → Option (ℕ × List Rec)
list_of_row inode last key (OfList records) =
    (if key.a == inode then list_past last (window_in key.b) records else None)
list_of_row inode last key _ = None

-- four bytes in a key are those of the window that they spell
abbrev pub IsSpelled : RowKey → Type 0
IsSpelled key = IfSome (window_in key.b) (λ window. key.b ≡ word window)

-- the window has this list, where the rows are known
abbrev pub HasList : Store → ℕ → ℕ × List Rec → Type 0
HasList store inode found =
    IfSome store.rows (λ known.
    get (typed known) (list_key inode found.0) ≡ Some (Ok (OfList found.1)))

-- no window between the two has a list
abbrev pub HasNoList : Rows → ℕ → Option ℕ → Option ℕ → Type 0
HasNoList rows inode last next = (window : ℕ) → window < 2 ^ 32 → is_past last window ≡ true
    → is_ahead next window ≡ true → get rows (list_key inode window) ≡ None

-- each key of a list has a window, as in whole rows
abbrev pub HaveWindows : Rows → Type 0
HaveWindows rows =
    (key : RowKey) → key.tab ≡ TABLE_OF_LISTS → get rows key ≢ None → length key.b ≡ 4

-- whether a row that is malformed is another file's
abbrev pub is_of_another : ℕ → RowFault → Bool
is_of_another inode (Bad at bytes) = not (at.a == inode)
is_of_another inode Failed = false
is_of_another inode Memory = false

-- why a file's list wasn't read: the row behind is one of the file's lists and malformed, the
-- keeper failed, or out of memory
abbrev pub RefusesList : ℕ → Option RowMap → RowFault → Type 0
RefusesList inode rows (Bad at bytes) = (at.a ≡ inode) × IfSome rows (λ known.
    (at.tab ≡ TABLE_OF_LISTS) × (get (typed known) at ≡ Some (Err bytes)))
RefusesList inode rows Failed = Unit {0}
RefusesList inode rows Memory = Unit {0}

-- A reading of a file's next list, after a window or from the first on: rows and place are the
-- same, and where the rows are known, there is none between.
pub record FindsList (inode : ℕ) (last : Option ℕ) (before now : Store)
    (result : Result (Option (ℕ × List Rec)) RowFault) : Type 0 where
  pub rows_are : now.rows ≡ before.rows
  pub opened_at : now.opened ≡ before.opened
  pub counts : RowCounts before.faults now.faults result
  pub past : IfOk result (λ found. IfSome found (λ f. is_past last f.0 ≡ true))
  pub small : IfOk result (λ found. IfSome found (λ f. f.0 < 2 ^ 32))
  pub allowed : IfOk result (λ found. IfSome found (λ f. IsTrue (is_list f.1)))
  pub there : IfOk result (λ found. IfSome found (HasList before inode))
  pub least : IfOk result (λ found. (known : RowMap) → before.rows ≡ Some known
      → HaveWindows (typed known)
      → HasNoList (typed known) inode last (option_map (λ f. f.0) found))
  pub refused : IfErr result (RefusesList inode before.rows)
