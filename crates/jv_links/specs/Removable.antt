-- An entry that may be removed, and the readings that reach it.
use Rattle.std.specs.Prelude.{ℕ, List, Option, Some, Result, Ok, IfOk}
use Rattle.jv_model.specs.declared.fault.Fault.{Fault}
use Rattle.jv_model.specs.declared.fault.Fault.TheVariants.{NotFound, NotPermitted}
use Rattle.jv_model.specs.declared.fault.TxFault.{TxFault}
use Rattle.jv_model.specs.promise.FiniteMap.{get}
use Rattle.jv_model.specs.promise.tree.Attempt.{◌>>=◌, require, some_or}
use Rattle.jv_model.specs.promise.tree.Removing.{may_go}
use Rattle.jv_model.specs.promise.tree.Tree.{Tree, EntryKey}
use Rattle.jv_model.specs.promise.tree.Walk.{entry_of}
use Rattle.jv_outside.specs.promise.Store.{Store}
use Rattle.jv_rows.specs.Transactions.{Looks}
use Rattle.jv_rows.specs.Walks.{HasNodeRow}
use Rattle.jv_links.specs.declared.fates.Removed.{Removed}
use Rattle.jv_links.specs.declared.removing.Removable.{Removable}
use Rattle.jv_links.specs.Removals.{lost_at}
use Rattle.jv_model.specs.promise.tree.Caller.{Caller, session_there}
use Rattle.jv_model.specs.Optional.{mapped}

-- where an entry stands, and the inode that it names
abbrev pub removable_at : Tree → ℕ → List ℕ → Result (EntryKey × ℕ) Fault
removable_at t sid path = do
  _ ← session_there t sid
  place ← entry_of t path
  _ ← require (may_go place) NotPermitted
  inode ← some_or (get t.entries place) NotFound
  Ok (place, inode)

-- what an unlink takes an entry from
abbrev pub unlinked : Tree → Caller → List ℕ → Result (Option Removed) Fault
unlinked t who path = do
  found ← removable_at t who.sid path
  Ok (Some (lost_at t who found.0 found.1))

-- the place of an entry that was reached
abbrev pub removable_place : Removable → EntryKey
removable_place entry = record { dir = entry.dir; name = entry.name }

-- the place of what was found, and its inode
abbrev pub place_and_inode : Removable → EntryKey × ℕ
place_and_inode entry = (removable_place entry, entry.node.inode)

-- Readings that reach an entry and its node: over whole rows they are the model's, and the node's
-- row, one that the grammar allows, stands there.
pub record ComesToRemovable (before after : Store) (result : Result Removable TxFault) (finds : Tree
    → Result (EntryKey × ℕ) Fault) : Type 0 where
  pub looks : Looks before after (mapped place_and_inode result) finds
  pub stands : IfOk result (λ entry. HasNodeRow after entry.node.inode entry.node.node)
