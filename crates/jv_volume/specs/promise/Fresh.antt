-- The rows of new directories, and of a volume that was just formatted: its counters and its
-- directories.
use Rattle.std.specs.Prelude.{ℕ, ◌+◌, []}
use Rattle.jv_model.specs.declared.limits.TheConstants.{DIRECTORY_LENGTH, ROOT}
use Rattle.jv_model.specs.declared.row.Counters.{Counters}
use Rattle.jv_model.specs.declared.row.Node.{Node}

-- the first inode after the root is next, and nothing counts as used
abbrev pub fresh_counters : Counters
fresh_counters =
    record { inode = ROOT + 1; slice = 1; session = 1; used_space = 0; used_inodes = 0 }

-- an empty directory of a parent, with these permission bits, made at a moment
abbrev pub new_directory : ℕ → ℕ → ℕ → Node
new_directory parent mode at = record {
  kind = 2;
  mode = mode;
  uid = 0;
  gid = 0;
  nlink = 2;
  mtime = at;
  ctime = at;
  length = DIRECTORY_LENGTH;
  parent = parent;
  target = [];
}

-- one whose parent is the root
abbrev pub fresh_directory : ℕ → ℕ → Node
fresh_directory mode at = new_directory ROOT mode at
