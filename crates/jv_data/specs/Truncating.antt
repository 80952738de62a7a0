-- What a truncate does to a file's lists: the one that its length lies inside of reads zero from
-- there on, and those behind it are dropped.
use Rattle.std.specs.Prelude.{◌≡◌, ◌≢◌, ℕ, ◌*◌, ◌/◌, ◌%◌, ◌<◌, ◌≤◌, ◌^◌, true, ◌==◌, ◌||◌, nat_le, nat_lt, if◌then◌else◌, List, [], ◌∷◌, ◌++◌, Option, None, Some, Result, Ok, IfOk, OnOk, IsTrue}
use Rattle.std.specs.List.{AllByRecursion}
use Rattle.jv_model.specs.declared.tables.TheConstants.{TABLE_OF_SETTING}
use Rattle.jv_model.specs.declared.fault.TxFault.{TxFault}
use Rattle.jv_model.specs.declared.limits.TheConstants.{WINDOW}
use Rattle.jv_model.specs.declared.row.Node.{Node}
use Rattle.jv_model.specs.declared.row.Row.TheVariants.{OfList, OfSlice}
use Rattle.jv_model.specs.declared.row.SliceRow.{SliceRow}
use Rattle.jv_model.specs.declared.row.RowKey.{RowKey}
use Rattle.jv_model.specs.declared.setting.Setting.{Setting}
use Rattle.jv_model.specs.declared.slice.Rec.{Rec}
use Rattle.jv_model.specs.promise.FiniteMap.{get}
use Rattle.jv_model.specs.FiniteMap.{alter}
use Rattle.jv_model.specs.promise.rows.RowKeys.{RowMap}
use Rattle.jv_model.specs.promise.rows.RowPlaces.{list_key, slice_key}
use Rattle.jv_model.specs.tree.Trash.{due_after}
use Rattle.jv_outside.specs.declared.batch.Change.{Change}
use Rattle.jv_outside.specs.promise.Store.{Store}
use Rattle.jv_rows.specs.Counts.{Adjusted}
use Rattle.jv_rows.specs.Drafts.{drafted}
use Rattle.jv_rows.specs.Lists.{is_past, HasNoList, HaveWindows}
use Rattle.jv_rows.specs.Transactions.{Looks, without_answer}
use Rattle.jv_volume.specs.promise.TypedRows.{Rows, typed}
use Rattle.jv_volume.specs.promise.Views.{lists_of, node_row_at, setting_at}
use Rattle.jv_volume.specs.promise.Whole.{Whole}
use Rattle.jv_volume.specs.Whole.{is_of_slices}
use Rattle.jv_volume_bytes.specs.Places.{zero_record, cut_list}

-- a slice has a row
pub record HasSlice (rows : Rows) (id : ℕ) : Type 0 where
  pub slice : SliceRow
  pub is : get rows (slice_key id) ≡ Some (Ok (OfSlice slice))

-- each slice that records name has a row
abbrev pub HaveSlices : Rows → List Rec → Type 0
HaveSlices rows records = AllByRecursion (λ r. r.id ≢ 0 → HasSlice rows r.id) records

-- rows where a window's list, if it has one, reads zero from a position on; from its start on
-- nothing is added
abbrev pub rows_ended : ℕ → ℕ → ℕ → List Rec → Rows → Rows
rows_ended inode window pos [] rows = rows
rows_ended inode window pos (r ∷ rs) rows =
    (if pos == 0 then rows
    else alter rows (list_key inode window)
    (Some (Ok (OfList ((r ∷ rs) ++ zero_record pos ∷ [])))))

-- rows without lists of a file, the latest first, each with its window
abbrev pub rows_without : ℕ → List (ℕ × List Rec) → Rows → Rows
rows_without inode [] rows = rows
rows_without inode (d ∷ ds) rows = alter (rows_without inode ds rows) (list_key inode d.0) None

-- their records
abbrev pub records_of : List (ℕ × List Rec) → List Rec
records_of [] = []
records_of (d ∷ ds) = records_of ds ++ d.1

-- the latest of their windows, or the one before them all
abbrev pub latest : Option ℕ → List (ℕ × List Rec) → Option ℕ
latest last [] = last
latest last (d ∷ ds) = Some d.0

-- a file's next list after a window, whose records name slices with rows
pub record IsNext (rows : Rows) (inode : ℕ) (last : Option ℕ) (found : ℕ × List Rec) : Type 0 where
  pub past : is_past last found.0 ≡ true
  pub small : found.0 < 2 ^ 32
  pub there : get rows (list_key inode found.0) ≡ Some (Ok (OfList found.1))
  pub least : HaveWindows rows → HasNoList rows inode last (Some found.0)
  pub slices : HaveSlices rows found.1

-- lists that follow one another after a window
abbrev pub Follow : Rows → ℕ → Option ℕ → List (ℕ × List Rec) → Type 0
Follow rows inode last [] = Unit {0}
Follow rows inode last (d ∷ ds) = IsNext rows inode (latest last ds) d × Follow rows inode last ds

-- lists of a file that were dropped, one after another
pub record Dropping (inode : ℕ) (last now : Option ℕ) (rows middle after : Rows)
    (gone : List Rec) : Type 0 where
  pub lists : List (ℕ × List Rec)
  pub follow : Follow rows inode last lists
  pub now_is : now ≡ latest last lists
  pub gone_is : gone ≡ records_of lists
  pub is : after ≡ rows_without inode lists middle

-- all of a file's lists after a window
pub record Dropped (inode : ℕ) (last : Option ℕ) (rows middle after : Rows)
    (gone : List Rec) : Type 0 where
  pub now : Option ℕ
  pub so_far : Dropping inode last now rows middle after gone
  pub ends : HaveWindows rows → HasNoList rows inode now None

-- the last window that begins before a length, if one does
abbrev pub IsLastBefore : ℕ → Option ℕ → Type 0
IsLastBefore len last = (window : ℕ) → is_past last window ≡ nat_le len (window * WINDOW)

-- the moment when slices that die at a moment are due, by the setting of rows
pub record IsDue (now : ℕ) (rows : Rows) (due : ℕ) : Type 0 where
  pub setting : Setting
  pub set : setting_at rows ≡ Some setting
  pub is : due ≡ due_after now setting

-- The lists of a file are cut to a length, and counts of slices have followed: those that nothing
-- names any more are dead, due the trash's days after a moment.
pub record ListsCut (inode len now : ℕ) (rows middle after : Rows) : Type 0 where
  pub last : Option ℕ
  pub last_is : IsLastBefore len last
  pub without : Rows
  pub gone : List Rec
  pub dropped : Dropped inode last rows (rows_ended inode (len / WINDOW) (len % WINDOW)
      (lists_of rows inode (len / WINDOW)) middle) without gone
  pub due : ℕ
  pub is_due : IsDue now rows due
  pub adjusted : Adjusted gone [] due without after

-- changes that leave setting, lists, slices and dead slices as they are stored
abbrev pub LeaveSlices : Option RowMap → List Change → Type 0
LeaveSlices rows changes = (known : RowMap) → rows ≡ Some known → (key : RowKey)
    → IsTrue ((key.tab == TABLE_OF_SETTING) || is_of_slices key.tab)
    → get (drafted changes known) key ≡ get (typed known) key

-- The moment when slices that die at a moment are due.
pub record SaysDue (now : ℕ) (before after : Store) (result : Result ℕ TxFault) : Type 0 where
  pub looks : Looks before after (without_answer result) (λ t. Ok tt)
  pub due : IfOk result (λ due. (known : RowMap) → before.rows ≡ Some known
      → IsDue now (typed known) due)

-- The changes end the list that a length lies inside of.
pub record EndsList (inode len : ℕ) (before after : Store) (changes changed : List Change)
    (result : Result (Unit {0}) TxFault) : Type 0 where
  pub looks : Looks before after result (λ t. Ok tt)
  pub ended : OnOk result ((known : RowMap) → before.rows ≡ Some known
      → drafted changed known ≡ rows_ended inode (len / WINDOW) (len % WINDOW)
      (lists_of (typed known) inode (len / WINDOW)) (drafted changes known))

-- A slice that a record of a list names has a row.
pub record ChecksSlice (id : ℕ) (before after : Store)
    (result : Result (Unit {0}) TxFault) : Type 0 where
  pub looks : Looks before after result (λ t. Ok tt)
  pub slice : OnOk result ((known : RowMap) → before.rows ≡ Some known → id ≢ 0
      → HasSlice (typed known) id)

-- Each slice that a list's records name has a row.
pub record ChecksSlices (list : List Rec) (before after : Store)
    (result : Result (Unit {0}) TxFault) : Type 0 where
  pub looks : Looks before after result (λ t. Ok tt)
  pub slices : OnOk result ((known : RowMap) → before.rows ≡ Some known
      → HaveSlices (typed known) list)

-- The changes drop all lists of a file after a window; the answer is their records.
pub record DropsLists (inode : ℕ) (last : Option ℕ) (before after : Store)
    (changes changed : List Change) (result : Result (List Rec) TxFault) : Type 0 where
  pub looks : Looks before after (without_answer result) (λ t. Ok tt)
  pub dropped : IfOk result (λ gone. (known : RowMap) → before.rows ≡ Some known
      → Dropped inode last (typed known) (drafted changes known) (drafted changed known) gone)

-- The changes cut a file's lists to a length, over those that leave lists and slices as they are
-- stored.
pub record CutsLists (inode len now : ℕ) (before after : Store) (changes changed : List Change)
    (result : Result (Unit {0}) TxFault) : Type 0 where
  pub looks : Looks before after result (λ t. Ok tt)
  pub cut : OnOk result ((known : RowMap) → before.rows ≡ Some known
      → ListsCut inode len now (typed known) (drafted changes known) (drafted changed known))

-- rows whose lists are cut where a file gets shorter, and are as before where it doesn't
pub data Shortened (inode was len now : ℕ) (rows middle after : Rows) : Type 0 where
  Cut : len < was → ListsCut inode len now rows middle after
      → Shortened inode was len now rows middle after
  Kept : was ≤ len → after ≡ middle → Shortened inode was len now rows middle after

pub record Shortens (inode was len now : ℕ) (before after : Store) (changes changed : List Change)
    (result : Result (Unit {0}) TxFault) : Type 0 where
  pub looks : Looks before after result (λ t. Ok tt)
  pub lists : OnOk result ((known : RowMap) → before.rows ≡ Some known
      → Shortened inode was len now (typed known) (drafted changes known) (drafted changed known))

-- the list of a window of a file that had one length, once it has another
abbrev pub list_after : (was len window : ℕ) → List Rec → List Rec
list_after was len window list = (if nat_lt len was then cut_list len window list else list)

-- Where a truncate was made over whole rows, each list of the file is cut to the length if that is
-- less than its length was, and is as before if not: a list from the length on is gone, and no list
-- comes.
abbrev pub CutsFile : (inode len : ℕ) → Store → Store → Result (Unit {0}) TxFault → Type 0
CutsFile inode len before after result =
    OnOk result ((known left : RowMap) → before.rows ≡ Some known → Whole (typed known)
    → after.rows ≡ Some left → (was : Node) → node_row_at (typed known) inode ≡ Some was
    → (window : ℕ)
    → lists_of (typed left) inode window ≡ list_after was.length len window
    (lists_of (typed known) inode window))
