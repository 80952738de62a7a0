-- What a tree has to be for a small change of it.
use Rattle.std.specs.Prelude.{◌≡◌, ◌≢◌, ℕ, ◌<◌, true, ◌&&◌, is_some, None, Some, Result, Ok, IsTrue, ◌≤◌}
use Rattle.jv_model.specs.declared.fault.Fault.{Fault}
use Rattle.jv_model.specs.declared.fault.Fault.TheVariants.{NoSpace}
use Rattle.jv_model.specs.declared.limits.TheConstants.{READ_ONLY_MODE, TRASH_ROOT}
use Rattle.jv_model.specs.declared.row.Node.{Node as NodeRow}
use Rattle.jv_model.specs.promise.FiniteMap.{get, insert}
use Rattle.jv_model.specs.promise.tree.Attempt.{◌>>=◌, require}
use Rattle.jv_model.specs.promise.tree.Tree.{Tree, EntryKey, is_directory, is_counted, links_fit, node_at}
use Rattle.jv_model.specs.promise.tree.Changes.{put_entry}
use Rattle.jv_model.specs.promise.tree.Trash.{hour_inode, hour_place}
use Rattle.jv_volume.specs.promise.Fresh.{new_directory}
use Rattle.jv_volume.specs.promise.Shape.{NamesHour}
use Rattle.jv_volume.specs.promise.TypedRows.{is_entry_name}

-- an entry of a directory that names a node that is there
pub record StandsAt (t : Tree) (place : EntryKey) (inode : ℕ) : Type 0 where
  pub named : get t.entries place ≡ Some inode
  pub within : is_directory t place.dir ≡ true
  pub there : is_some (node_at t inode) ≡ true
  pub apart : place.dir ≢ inode

-- an entry that may come: it isn't there, and its directory and its node are
pub record MayStandAt (t : Tree) (place : EntryKey) (inode : ℕ) : Type 0 where
  pub free : get t.entries place ≡ None
  pub name : IsTrue (is_entry_name place.name)
  pub within : is_directory t place.dir ≡ true
  pub there : is_some (node_at t inode) ≡ true
  pub apart : place.dir ≢ inode

-- the tree with one more entry, where the link counts of directory and node can be stored
abbrev pub entry_put : ℕ → EntryKey → ℕ → Tree → Result Tree Fault
entry_put now place inode t = do
  _ ← require (links_fit (put_entry t now place inode) place.dir
      && links_fit (put_entry t now place inode) inode)
      NoSpace
  Ok (put_entry t now place inode)

-- a node is there
abbrev pub IsThere : ℕ → Tree → Type 0
IsThere inode t = is_some (node_at t inode) ≡ true

-- a node that may go: no entry names it, and its inode was given to it
pub record MayGo (t : Tree) (inode : ℕ) : Type 0 where
  pub there : is_some (node_at t inode) ≡ true
  pub unnamed : (at : EntryKey) → get t.entries at ≢ Some inode
  pub counted : is_counted inode ≡ true
  pub given : inode < t.next_inode

-- a file that a session keeps
abbrev pub sustaining : ℕ → ℕ → Tree → Tree
sustaining sid inode t =
    record t { sustained = insert t.sustained (record { sid = sid; inode = inode }) tt }

-- The directory of an hour is there, or may come: the trash is there, no entry has its place, none
-- names it, and none is in it. Entries of the trash are directories of hours, so there are few, and
-- inodes that are given stay below it.
pub record MayHaveHour (t : Tree) (hour : ℕ) : Type 0 where
  pub trash : is_directory t TRASH_ROOT ≡ true
  pub free : node_at t (hour_inode hour) ≡ None → get t.entries (hour_place hour) ≡ None
  pub unnamed : node_at t (hour_inode hour) ≡ None → (at : EntryKey)
      → get t.entries at ≢ Some (hour_inode hour)
  pub empty : node_at t (hour_inode hour) ≡ None → (at : EntryKey) (inode : ℕ)
      → get t.entries at ≡ Some inode
      → at.dir ≢ hour_inode hour
  pub hours : (at : EntryKey) (inode : ℕ) → get t.entries at ≡ Some inode → at.dir ≡ TRASH_ROOT
      → NamesHour at inode
  pub below : t.next_inode ≤ TRASH_ROOT

-- the row of an hour's directory, as it comes
abbrev pub hour_row : ℕ → NodeRow
hour_row now = new_directory TRASH_ROOT READ_ONLY_MODE now
