-- What only inner contracts cite: of `promise/tree/FileBytes`.
use Rattle.std.specs.Prelude.{ℕ, ◌+◌, nat_lt, List, Result, Ok}
use Rattle.jv_model.specs.declared.fault.Fault.{Fault}
use Rattle.jv_model.specs.declared.fault.Fault.TheVariants.{NoSpace, TimedOut}
use Rattle.jv_model.specs.promise.tree.Attempt.{◌>>=◌, require}
use Rattle.jv_model.specs.promise.tree.Tree.{Tree, fits}
use Rattle.jv_model.specs.promise.tree.Caller.{session_there}
use Rattle.jv_model.specs.declared.lifetimes.TheConstants.{UPLOAD_LIFE}
use Rattle.jv_model.specs.promise.tree.FileBytes.{committed, open_content}

-- the length of a file, as a session sees it
abbrev pub length_seen : ℕ → ℕ → Tree → Result ℕ Fault
length_seen sid inode t = do
  _ ← session_there t sid
  content ← open_content t inode
  Ok content.length

-- a session's commit of bytes to a file, whose block was begun at a moment
abbrev pub commit_of : (sid inode from : ℕ) → List ℕ → (started now : ℕ) → Tree → Result Tree Fault
commit_of sid inode from patch started now t = do
  _ ← length_seen sid inode t
  _ ← require (nat_lt now (started + UPLOAD_LIFE)) (TimedOut started now)
  _ ← require (fits t (committed t now inode from patch)) NoSpace
  Ok (committed t now inode from patch)
