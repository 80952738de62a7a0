-- What a transaction on the bytes of files does, by the tree that the rows have with the bytes that
-- are known of slices.
use Rattle.std.specs.Prelude.{◌≡◌, ◌⊎◌, ℕ, ◌+◌, ◌<◌, Bool, false, ◌&&◌, ◌||◌, ◌==◌, Option, None, Some, Result, Ok, Err, IfErr, IfSome, OnOk, OnErr}
use Rattle.jv_model.specs.declared.tables.TheConstants.{TABLE_OF_COUNTERS, TABLE_OF_SLICES, TABLE_OF_DEAD, TABLE_OF_LISTS, TABLE_OF_NODES}
use Rattle.jv_model.specs.declared.fault.Fault.{Fault}
use Rattle.jv_model.specs.declared.fault.Fault.TheVariants.{NoSpace}
use Rattle.jv_model.specs.declared.fault.RowFault.TheVariants.{Bad, Failed, Memory}
use Rattle.jv_model.specs.declared.fault.TxFault.{TxFault}
use Rattle.jv_model.specs.declared.fault.TxFault.TheVariants.{Refused, Moved, Rows as OfRows}
use Rattle.jv_model.specs.declared.limits.TheConstants.{FULL_COUNT}
use Rattle.jv_model.specs.declared.op.Reply.{Reply}
use Rattle.jv_model.specs.declared.row.RowKey.{RowKey}
use Rattle.jv_model.specs.declared.row.SliceRow.{SliceRow}
use Rattle.jv_model.specs.declared.setting.Setting.{Setting}
use Rattle.jv_model.specs.promise.FiniteMap.{get}
use Rattle.jv_model.specs.promise.rows.RowKeys.{RowMap}
use Rattle.jv_model.specs.promise.tree.Tree.{Tree}
use Rattle.jv_model.specs.promise.tree.Caller.{Outcome}
use Rattle.jv_outside.specs.promise.Store.{Store}
use Rattle.jv_rows.specs.Transactions.{TransactionCounts, BadFault}
use Rattle.jv_volume.specs.promise.TypedRows.{Rows, typed}
use Rattle.jv_volume.specs.promise.Views.{setting_at, slice_row_at, dead_at}
use Rattle.jv_volume.specs.Whole.{FilesDrop}
use Rattle.jv_volume.specs.promise.Whole.{Whole}
use Rattle.jv_volume_bytes.specs.promise.Bytes.{KnownBytes, tree_with}
use Rattle.jv_volume_bytes.specs.Counts.{KeepsOthers}
use Rattle.jv_volume_bytes.specs.promise.Counts.{record_count}

-- the slice that a transaction makes, if it makes one; how many records it adds at most; and when a
-- slice may go that nothing names any more, by the volume's setting
pub record Makes : Type 0 where
  pub own : ℕ  -- 0 where it makes none
  pub size : ℕ
  pub more : ℕ
  pub due : Setting → ℕ  -- a transaction that may have any lets none go

-- each slice that had a row, and has none any more, is dead, with its size, until it may go
abbrev pub DieUntil : (Setting → ℕ) → Rows → Rows → Type 0
DieUntil due rows after = (setting : Setting) → setting_at rows ≡ Some setting
    → (id : ℕ) (slice : SliceRow) → slice_row_at rows id ≡ Some slice
    → slice_row_at after id ≡ None
    → dead_at after id ≡ Some (record { size = slice.size; due = due setting })

-- A transaction that was made: the rows left are whole, their tree is the model's after it, other
-- slices are kept, those that nothing names any more are dead, and no file goes.
pub record Changed (makes : Makes) (known : RowMap) (after : Option RowMap)
    (known_bytes : KnownBytes) (reply : Reply) (act : Tree → Result Outcome Fault) : Type 0 where
  pub left : RowMap
  pub is : after ≡ Some left
  pub whole : Whole (typed left)
  pub others : KeepsOthers makes.own makes.more (typed known) (typed left)
  pub size : (slice : SliceRow) → slice_row_at (typed left) makes.own ≡ Some slice
      → slice.size ≡ makes.size
  pub dies : DieUntil makes.due (typed known) (typed left)
  pub dropped : FilesDrop (typed known) (typed left)
  pub model : act (tree_with known_bytes (typed known)) ≡ Ok
      (record { tree = tree_with known_bytes (typed left); reply = reply })

-- there are too many records for a slice to be named more often, which the tree doesn't see, and the
-- model's transaction is refused for no other reason
pub record IsFull (crowded : Rows → Type 0) (rows : Rows) (fault : Fault)
    (wanted : Result Outcome Fault) : Type 0 where
  pub fault_is : fault ≡ NoSpace
  pub full : crowded rows
  pub otherwise : IfErr wanted (λ other. other ≡ NoSpace)

abbrev pub LandsChanged : {A : Type 0} → Makes → (Rows → Type 0) → RowMap → Option RowMap
    → KnownBytes → (A → Reply) → (Tree → Result Outcome Fault) → Result A TxFault → Type 0
LandsChanged makes crowded known after known_bytes reply act (Ok x) =
    Changed makes known after known_bytes (reply x) act
LandsChanged makes crowded known after known_bytes reply act (Err (Refused fault)) =
    (act (tree_with known_bytes (typed known)) ≡ Err fault)
    ⊎ IsFull crowded (typed known) fault (act (tree_with known_bytes (typed known)))
LandsChanged makes crowded known after known_bytes reply act (Err (Moved list)) = ⊥
LandsChanged makes crowded known after known_bytes reply act (Err (OfRows (Bad at bytes))) = ⊥
LandsChanged makes crowded known after known_bytes reply act (Err (OfRows Failed)) = Unit {0}
LandsChanged makes crowded known after known_bytes reply act (Err (OfRows Memory)) = Unit {0}

-- A transaction on the bytes of files: after an error the rows are as before, and over whole rows
-- that are ready for it, whatever is known of slices, it does what the model's does to their tree.
pub record Changes {A : Type 0} (makes : Makes) (ready : Rows → KnownBytes → Type 0)
    (crowded : Rows → Type 0) (before after : Store) (result : Result A TxFault)
    (reply : A → Reply) (act : Tree → Result Outcome Fault) : Type 0 where
  pub opened_at : after.opened ≡ before.opened
  pub counts : TransactionCounts before.faults after.faults result
  pub undone : OnErr result (after.rows ≡ before.rows)
  pub lands : (known : RowMap) → before.rows ≡ Some known → Whole (typed known)
      → (known_bytes : KnownBytes) → ready (typed known) known_bytes
      → LandsChanged makes crowded known after.rows known_bytes reply act result
  pub bad : IfErr result (λ fault. IfSome before.rows (λ known. BadFault (typed known) fault))

-- the rows that a transaction on a file's bytes may change: the counters, slices and dead slices,
-- and the file's own row and lists
abbrev pub may_change : ℕ → RowKey → Bool
may_change inode key = (key.tab == TABLE_OF_COUNTERS) || (key.tab == TABLE_OF_SLICES)
    || (key.tab == TABLE_OF_DEAD) || (((key.tab == TABLE_OF_LISTS) || (key.tab == TABLE_OF_NODES))
    && (key.a == inode))

-- Where a transaction on a file's bytes was made over whole rows, all rows that it may not change
-- are as before: those of the setting, of entries, sessions, sustained and dropped files, and other
-- files' rows and lists.
abbrev pub KeepsRest : {A : Type 0} → ℕ → Store → Store → Result A TxFault → Type 0
KeepsRest inode before after result =
    OnOk result ((known left : RowMap) → before.rows ≡ Some known → Whole (typed known)
    → after.rows ≡ Some left → (key : RowKey) → may_change inode key ≡ false
    → get (typed left) key ≡ get (typed known) key)

-- no transaction is refused but as the model's is
abbrev pub Never : Rows → Type 0
Never rows = ⊥

-- with `more` records more a slice could be named more often than may be
abbrev pub IsCrowded : ℕ → Rows → Type 0
IsCrowded more rows = FULL_COUNT < record_count rows + more

-- how many bytes a transaction says that it copied, none where it didn't
abbrev pub count_in : Result ℕ TxFault → ℕ
count_in (Ok count) = count
count_in (Err fault) = 0

-- whatever is known
abbrev pub AnyBytes : Rows → KnownBytes → Type 0
AnyBytes rows known_bytes = Unit {0}
