-- Files and symlinks that may have one more entry.
use Rattle.std.specs.Prelude.{ℕ, List, not, ◌||◌, Result, Ok}
use Rattle.jv_model.specs.declared.fault.Fault.{Fault}
use Rattle.jv_model.specs.declared.fault.Fault.TheVariants.{NotPermitted}
use Rattle.jv_model.specs.promise.tree.Attempt.{◌>>=◌, require}
use Rattle.jv_model.specs.promise.tree.Caller.{session_there}
use Rattle.jv_model.specs.promise.tree.Making.{is_trashed}
use Rattle.jv_model.specs.promise.tree.Tree.{Tree, is_directory}
use Rattle.jv_model.specs.promise.tree.Walk.{unfollowed_inode_of}

-- the inode of a path, where it may have one more entry
abbrev pub linkable : Tree → ℕ → List ℕ → Result ℕ Fault
linkable t sid path = do
  _ ← session_there t sid
  inode ← unfollowed_inode_of t path
  _ ← require (not (is_directory t inode || is_trashed t inode)) NotPermitted
  Ok inode
