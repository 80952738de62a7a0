-- Entries by their numbers, and which of them are fresh looks at a file.
use Rattle.std.specs.Prelude.{◌≡◌, ℕ, ◌<◌, Bool, false, ◌==◌, IsSomeAnd, IfSome, List, Option}
use Rattle.jv_model.specs.declared.act.Act.{Act}
use Rattle.jv_model.specs.declared.act.ActKind.{ActKind}
use Rattle.jv_model.specs.declared.act.ActKind.TheVariants.{Look, Commit, Truncated, Copied}
use Rattle.jv_model.specs.promise.client.ModelClient.{OpenFile}
use Rattle.jv_model.specs.Lists.{numbered}

-- the entry with a number, the first one being 1
abbrev pub entry_at : List Act → ℕ → Option Act
entry_at journal number = numbered journal number

-- whether an entry changes a file's bytes: it commits to it, cuts or lengthens it, or copies into
-- it
abbrev pub changes_file : ℕ → ActKind → Bool
changes_file inode (Commit file from len staged) = file == inode
changes_file inode (Truncated file len) = file == inode
changes_file inode (Copied source from target to len) = target == inode
changes_file inode _ = false

-- An entry is a fresh look at a window of an open file, at the end of a journal: the client looked
-- at that window of the file, after it had opened it, and has not changed the file since.
pub record IsFreshLook (journal : List Act) (client : ℕ) (file : OpenFile)
    (window look : ℕ) : Type 0 where
  pub looked : IsSomeAnd (entry_at journal look)
      (λ act. (act.client ≡ client) × (act.kind ≡ Look file.inode window))
  pub opened : file.opened < look
  pub unchanged : (later : ℕ) → look < later
      → IfSome (entry_at journal later) (λ act. act.client ≡ client
      → changes_file file.inode act.kind ≡ false)
