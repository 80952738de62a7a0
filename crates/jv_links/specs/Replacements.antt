-- What a rename replaces: what is asked of it, and what becomes of it.
use Rattle.std.specs.Prelude.{◌≡◌, ℕ, ◌≤◌, Bool, true, false, ◌&&◌, not, is_some, if◌then◌else◌, List, Option, None, Some, Result, IfOk, IsTrue}
use Rattle.jv_model.specs.declared.fault.Fault.{Fault}
use Rattle.jv_model.specs.declared.fault.Fault.TheVariants.{Invalid, NotADirectory, IsADirectory, DirectoryNotEmpty}
use Rattle.jv_model.specs.declared.fault.TxFault.{TxFault}
use Rattle.jv_model.specs.declared.limits.TheConstants.{LAST_MOMENT}
use Rattle.jv_model.specs.promise.FiniteMap.{get}
use Rattle.jv_model.specs.promise.rows.RowKeys.{RowMap}
use Rattle.jv_model.specs.promise.tree.Attempt.{◌>>=◌, require}
use Rattle.jv_model.specs.promise.tree.Caller.{Caller}
use Rattle.jv_model.specs.promise.tree.Removing.{may_go}
use Rattle.jv_model.specs.promise.tree.Renaming.{is_inside, without_target}
use Rattle.jv_model.specs.promise.tree.Tree.{Tree, EntryKey, is_directory, has_entries}
use Rattle.jv_outside.specs.declared.batch.Change.{Change}
use Rattle.jv_outside.specs.promise.Store.{Store}
use Rattle.jv_rows_drafts.specs.Drafting.{Minds}
use Rattle.jv_volume.specs.promise.Shape.{WholeShape, shape_of}
use Rattle.jv_links.specs.declared.fates.Removed.{Removed}
use Rattle.jv_links.specs.Removals.{HoldsFiles, KeepsAnew, kept_of, lost_at}

-- whether an inode that moves to a directory may stand there in place of another one
abbrev pub may_replace : Tree → ℕ → ℕ → ℕ → Result (Unit {0}) Fault
may_replace t dir source other = do
  _ ← require (not (is_inside t dir source)) Invalid
  _ ← require (not (is_directory t source && not (is_directory t other))) NotADirectory
  _ ← require (not (not (is_directory t source) && is_directory t other)) IsADirectory
  require (not (is_directory t other && has_entries t other)) DirectoryNotEmpty

-- an entry of a whole tree that may go with what it names: a file, a symlink, or an empty directory
pub record MayClear (t : Tree) (who : Caller) (place : EntryKey) (inode : ℕ)
    (directory : Bool) : Type 0 where
  pub whole : WholeShape (shape_of t)
  pub is : get t.entries place ≡ Some inode
  pub kind : is_directory t inode ≡ directory
  pub vacant : (is_directory t inode && has_entries t inode) ≡ false
  pub goes : may_go place ≡ true
  pub session : IsTrue (is_some (get t.sessions who.sid))
  pub held : HoldsFiles who.held t
  pub clock : who.now ≤ LAST_MOMENT

-- what a rename takes an entry from where it clears one: a file or a symlink
abbrev pub cleared : Tree → Caller → EntryKey → ℕ → Option Removed
cleared t who place inode =
    (if is_directory t inode then None else Some (lost_at t who place inode))

-- What was removed is what goes, and says which file the session keeps from then on, for each tree
-- that the drafted rows are those of.
abbrev pub SaysCleared : Caller → EntryKey → ℕ → Bool → List Change → Store
    → Result (Option Removed) TxFault → Type 0
SaysCleared who place inode directory was before result = IfOk result (λ removed. (known : RowMap)
    → before.rows ≡ Some known → (bytes : ℕ → ℕ → ℕ) (t : Tree)
    → Minds known was bytes t → MayClear t who place inode directory
    → KeepsAnew who.sid t (without_target t who place inode) (kept_of removed)
    × (cleared t who place inode ≡ removed))
