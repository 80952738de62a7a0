-- A client as the model has it: its session, its open files, what it saw of them, what it wrote and
-- didn't commit, and what it is doing.
use Rattle.std.specs.Prelude.{ℕ, ◌+◌, ◌-◌, Bool, true, false, ◌&&◌, not, ◌==◌, nat_le, if◌then◌else◌, List, [], ◌∷◌, ◌++◌, length, filter, slice_get, slice_set, unwrap_or, Option, None, Some}
use Rattle.jv_model.specs.declared.op.Op.{Op}
use Rattle.jv_model.specs.declared.op.Reply.{Reply}
use Rattle.jv_model.specs.declared.profile.Does.{Does}
use Rattle.jv_model.specs.promise.tree.Tree.{Content}
use Rattle.jv_model.specs.promise.client.Pending.{PendingByte}
use Rattle.jv_model.specs.promise.client.Origins.{Origin, Owed}
use Rattle.jv_model.specs.promise.Lists.{is_among, numbers_of}
use Rattle.std.specs.Option.{option_map_or}

-- an open file: its inode, and the number of the entry that opened it
pub record OpenFile : Type 0 where
  pub inode : ℕ
  pub opened : ℕ

-- a window of a file as it was when a client looked at it
pub record View : Type 0 where
  pub entry : ℕ  -- the number of its Look
  pub handle : ℕ  -- the handle it was read by, 0 for a compaction's
  pub inode : ℕ
  pub window : ℕ
  pub content : Content
  pub origin : ℕ → Origin  -- of each position

-- what an operation commits before it goes on: the files in their order, or all
pub data Flush : Type 0 where
  OfFiles : (inodes : List ℕ) → Flush
  OfAll : Flush

-- how far a compaction is
pub record Compaction : Type 0 where
  pub first : ℕ  -- the number of its first Look
  pub view : View  -- of its last Look
  pub quiets : List ℕ  -- the moments of its other requests
  pub missed : Option (List Owed)  -- what was owed when a block wasn't found
  pub has_replaced : Bool

-- How far a cleaning is: first sessions, then the trash, then files, then slices. Once it asked for
-- a slice it has found none, or removes the blocks of one that it found, one by one, and then its
-- row.
pub data CleaningPart : Type 0 where
  Sessions : CleaningPart
  Trash : CleaningPart
  Files : CleaningPart
  Slices : CleaningPart
  SliceAsked : CleaningPart
  OneBlock : CleaningPart  -- one block of the slice was removed
  BlockRemoved : CleaningPart  -- further requests: removals, the last of them maybe its row's

pub record Cleaning : Type 0 where
  pub part : CleaningPart
  pub sessions : ℕ
  pub trash : ℕ  -- entries of the trash, hour directories not counted
  pub hours : ℕ
  pub files : ℕ
  pub slices : ℕ

-- how far an operation is
pub data Stage : Type 0 where
  Working : (quiets started : ℕ) → Stage  -- requests of the next segment so far, and the moment of the second of them
  Reading : (misses : ℕ) → Stage  -- a request of a reading was made
  Missing : (misses window : ℕ) → List Owed → Stage  -- a block wasn't found; what was owed then
  LookedAgain : (misses window : ℕ) → List Owed → Stage  -- the window was looked at again after that
  Compacting : Compaction → Stage
  Cleans : Cleaning → Stage
  Listed : Stage  -- a collection listed a page of names
  Judged : Stage  -- it judged which names of its first page, or of each one, are leaked
  Removing : (requests : ℕ) → Stage  -- requests since: removals, and pages listed and judged
  Published : Stage  -- an upload published a block
  Replying : Reply → Stage  -- its answer is decided, and comes in this same step

pub record Doing : Type 0 where
  pub op : Op
  pub does : Does
  pub flush : Flush
  pub stage : Stage
  pub moved : Bool  -- it has an entry

-- The file of handle h stands at place h - 1.
pub record ModelClient : Type 0 where
  pub session : Option ℕ
  pub writeback : Bool
  pub handles : List (Option OpenFile)
  -- inodes that an unlink or a rename of this mount took the last entry of, while they were open
  pub sustained : List ℕ
  pub views : List View  -- the latest first
  pub pending : List PendingByte
  pub doing : Option Doing

abbrev pub unmounted : ModelClient
unmounted =
    record {
      session = None;
      writeback = false;
      handles = [];
      sustained = [];
      views = [];
      pending = [];
      doing = None;
    }

-- the session's number, 0 where there is none
abbrev pub session_of : ModelClient → ℕ
session_of c = unwrap_or c.session 0

-- handles
abbrev pub file_in : {X : Type 0} → Option (Option X) → Option X
file_in None = None
file_in (Some file) = file

-- what a handle names, in a table of handles
abbrev pub file_of : {X : Type 0} → List (Option X) → ℕ → Option X
file_of handles handle = if handle == 0 then None else file_in (slice_get handles (handle - 1))

-- the least handle that isn't in use
abbrev pub free_from : {X : Type 0} → ℕ → List (Option X) → ℕ
free_from handle [] = handle
free_from handle (None ∷ files) = handle
free_from handle (Some file ∷ files) = free_from (handle + 1) files

abbrev pub free_handle : {X : Type 0} → List (Option X) → ℕ
free_handle = free_from 1

abbrev pub open_count : {X : Type 0} → List (Option X) → ℕ
open_count [] = 0
open_count (None ∷ files) = open_count files
open_count (Some file ∷ files) = 1 + open_count files

abbrev pub with_file : {X : Type 0} → ℕ → Option X → List (Option X) → List (Option X)
with_file handle file handles = if nat_le handle (length handles)
    then slice_set handles (handle - 1) file else handles ++ file ∷ []

-- the inode of an open file, 0 for none
abbrev pub inode_in : Option OpenFile → ℕ
inode_in file = option_map_or (λ (file : OpenFile). file.inode) file 0

-- the inode that a handle of the client names, 0 for none
abbrev pub inode_at : ModelClient → ℕ → ℕ
inode_at c handle = inode_in (file_of c.handles handle)

-- the inodes of all open files
abbrev pub held_inodes : List (Option OpenFile) → List ℕ
held_inodes files = numbers_of (λ (file : OpenFile). file.inode) files

-- Whether a handle is the client's last one on a file that it removed itself while it had it open.
abbrev pub is_last_of_removed : ModelClient → ℕ → Bool
is_last_of_removed c handle = is_among (inode_at c handle) c.sustained
    && not (is_among (inode_at c handle) (held_inodes (with_file handle None c.handles)))

-- the client's views without those of a file that it changed
abbrev pub views_without : ℕ → List View → List View
views_without inode views = filter (λ view. not (view.inode == inode)) views

abbrev pub with_stage : Stage → ModelClient → ModelClient
with_stage stage c = elim c.doing [
  | None ↦ c
  | Some doing ↦ record c { doing = Some (record doing { stage = stage; moved = true }) }
]
