-- Looks at a window, numbers for slices, and commits of a slice's record.
use Rattle.std.specs.Prelude.{◌≡◌, ◌≢◌, ◌⊎◌, ℕ, ◌+◌, ◌*◌, ◌<◌, nat_lt, ◌==◌, ◌&&◌, if◌then◌else◌, List, [], ◌∷◌, ◌++◌, length, slice_index, Option, Some, Result, Ok, Err, IfOk, IfErr, IfSome, OnOk, OnErr}
use Rattle.std.specs.List.{AllByRecursion}
use Rattle.jv_model.specs.declared.fault.Fault.{Fault}
use Rattle.jv_model.specs.declared.fault.Fault.TheVariants.{NoSpace}
use Rattle.jv_model.specs.declared.fault.TxFault.{TxFault}
use Rattle.jv_model.specs.declared.fault.TxFault.TheVariants.{Refused, Moved, Rows as OfRows}
use Rattle.jv_model.specs.declared.fault.RowFault.TheVariants.{Bad, Failed, Memory}
use Rattle.jv_model.specs.declared.limits.TheConstants.{FULL_COUNT, WINDOW}
use Rattle.jv_model.specs.declared.op.Reply.TheVariants.{Done}
use Rattle.jv_model.specs.declared.row.RowKey.{RowKey}
use Rattle.jv_model.specs.declared.setting.Setting.{Setting}
use Rattle.jv_model.specs.declared.slice.Rec.{Rec}
use Rattle.jv_model.specs.promise.FiniteMap.{get}
use Rattle.jv_model.specs.promise.blocks.Slices.{IsRecord, shown}
use Rattle.jv_model.specs.promise.rows.RowKeys.{RowMap}
use Rattle.jv_model.specs.promise.rows.RowPlaces.{counters_key, list_key}
use Rattle.jv_model.specs.promise.tree.Attempt.{◌>>=◌, require}
use Rattle.jv_model.specs.promise.tree.Caller.{Outcome, done, session_there}
use Rattle.jv_model.specs.promise.tree.Tree.{Tree}
use Rattle.jv_model.specs.tree.FileBytes.{length_seen, commit_of}
use Rattle.jv_outside.specs.promise.Store.{Store}
use Rattle.jv_rows.specs.Transactions.{TransactionCounts, Looks, BadFault, without_answer}
use Rattle.jv_volume.specs.promise.TypedRows.{Rows, typed}
use Rattle.jv_volume.specs.promise.Views.{lists_of}
use Rattle.jv_volume.specs.promise.TreeOf.{tree_of}
use Rattle.jv_volume.specs.promise.Slices.{IsUnknown, next_slice}
use Rattle.jv_volume.specs.promise.Whole.{Whole, no_bytes}
use Rattle.jv_volume_bytes.specs.promise.Bytes.{KnownBytes, spot_byte}
use Rattle.jv_data.specs.declared.looking.View.{View}
use Rattle.jv_data.specs.Changing.{Changes, Never}
use Rattle.jv_model.specs.Optional.{mapped}

-- no malformed row stands at a key, where rows are known
abbrev pub IsWellFormed : RowKey → Option RowMap → Type 0
IsWellFormed key rows =
    IfSome rows (λ known. (bytes : List ℕ) → get (typed known) key ≢ Some (Err bytes))

-- A reading of a window's records, none where there is no list: over whole rows it succeeds, as far
-- as keeper and memory go. A malformed row is an error.
pub record HasRecords (inode window : ℕ) (before after : Store)
    (result : Result (List Rec) TxFault) : Type 0 where
  pub looks : Looks before after (without_answer result) (λ t. Ok tt)
  pub list : IfOk result (λ list.
      IfSome before.rows (λ known. list ≡ lists_of (typed known) inode window))
  pub records : IfOk result (AllByRecursion IsRecord)
  pub formed : OnOk result (IsWellFormed (list_key inode window) before.rows)

-- A look at a window of a file: its length, and the window's records. A malformed row of the list
-- is an error.
pub record LooksAt (sid inode window : ℕ) (before after : Store)
    (result : Result View TxFault) : Type 0 where
  pub looks : Looks before after (mapped (λ (view : View). view.length) result)
      (length_seen sid inode)
  pub list : IfOk result (λ view.
      IfSome before.rows (λ known. view.list ≡ lists_of (typed known) inode window))
  pub records : IfOk result (λ view. AllByRecursion IsRecord view.list)
  pub formed : OnOk result (IsWellFormed (list_key inode window) before.rows)

-- the number that the next slice gets
abbrev pub number_given : ℕ → Rows → Tree → Result ℕ Fault
number_given sid rows t = do
  _ ← session_there t sid
  _ ← require (nat_lt (next_slice rows) FULL_COUNT) NoSpace
  Ok (next_slice rows)

-- A number was given: the next one is one more, and all other rows are as before.
pub record Numbered (known : RowMap) (after : Option RowMap) (id : ℕ) : Type 0 where
  pub left : RowMap
  pub is : after ≡ Some left
  pub whole : Whole (typed left)
  pub low : 0 < id
  pub given : id ≡ next_slice (typed known)
  pub next : next_slice (typed left) ≡ id + 1
  pub unknown : IsUnknown (typed left) id
  pub same : (bytes : ℕ → ℕ → ℕ) → tree_of bytes (typed left) ≡ tree_of bytes (typed known)
  pub others : (key : RowKey) → get (typed left) key ≡ get (typed known) key ⊎ (key ≡ counters_key)

abbrev pub LandsNumber : ℕ → RowMap → Option RowMap → Result ℕ TxFault → Type 0
LandsNumber sid known after (Ok id) =
    (number_given sid (typed known) (tree_of no_bytes (typed known)) ≡ Ok id)
    × Numbered known after id
LandsNumber sid known after (Err (Refused fault)) =
    number_given sid (typed known) (tree_of no_bytes (typed known)) ≡ Err fault
LandsNumber sid known after (Err (Moved list)) = ⊥
LandsNumber sid known after (Err (OfRows (Bad at bytes))) = ⊥
LandsNumber sid known after (Err (OfRows Failed)) = Unit {0}
LandsNumber sid known after (Err (OfRows Memory)) = Unit {0}

-- A number is asked for: after an error the rows are as before.
pub record TakesNumber (sid : ℕ) (before after : Store) (result : Result ℕ TxFault) : Type 0 where
  pub opened_at : after.opened ≡ before.opened
  pub counts : TransactionCounts before.faults after.faults result
  pub undone : OnErr result (after.rows ≡ before.rows)
  pub lands : (known : RowMap) → before.rows ≡ Some known → Whole (typed known)
      → LandsNumber sid known after.rows result
  pub bad : IfErr result (λ fault. IfSome before.rows (λ known. BadFault (typed known) fault))

-- the bytes that a record shows
pub record Shows (known_bytes : KnownBytes) (rec : Rec) (bytes : List ℕ) : Type 0 where
  pub long : length bytes ≡ rec.len
  pub each : (n : ℕ) → n < rec.len → spot_byte known_bytes (shown rec n) ≡ slice_index bytes n

-- a record's slice has a number and nothing else names it, and the record shows these bytes
pub record IsNew (rec : Rec) (bytes : List ℕ) (rows : Rows)
    (known_bytes : KnownBytes) : Type 0 where
  pub unknown : IsUnknown rows rec.id
  pub below : rec.id < next_slice rows
  pub shows : Shows known_bytes rec bytes

-- the model's commit of bytes to a file, whose first block was begun at a moment
abbrev pub committing : (sid inode from : ℕ) → List ℕ → (started now : ℕ) → Tree
    → Result Outcome Fault
committing sid inode from bytes started now t = do
  after ← commit_of sid inode from bytes started now t
  done after

-- a commit of a record of a new slice to a window of a file, by which no slice dies: each that did
-- would be due at any moment
abbrev pub CommitsRecord : (sid now inode window : ℕ) → Rec → (started : ℕ) → Store → Store
    → Result (Unit {0}) TxFault → Type 0
CommitsRecord sid now inode window rec started before after result =
    (bytes : List ℕ) (due : Setting → ℕ)
    → Changes (record { own = rec.id; size = rec.size; more = 1; due = due })
    (IsNew rec bytes) Never before after result (λ unit. Done)
    (committing sid inode (window * WINDOW + rec.pos) bytes started now)

-- Where a commit was made, whatever the rows were, the window's list is what it was with the record
-- behind it, and every other list, of this file and of others, is as it was.
abbrev pub AppendsRecord : (inode window : ℕ) → Rec → Store → Store
    → Result (Unit {0}) TxFault → Type 0
AppendsRecord inode window rec before after result =
    OnOk result ((known left : RowMap) → before.rows ≡ Some known → after.rows ≡ Some left
    → (file at : ℕ) → lists_of (typed left) file at
    ≡ (if (file == inode) && (at == window)
    then lists_of (typed known) inode window ++ rec ∷ [] else lists_of (typed known) file at))
