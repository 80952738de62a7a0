-- What only inner contracts cite: of `promise/Stored`.
use Rattle.std.specs.Prelude.{ℕ, ◌==◌, if◌then◌else◌}
use Rattle.jv_model.specs.declared.row.Node.{Node as NodeRow}

-- the links that an entry of an inode of this kind adds to its directory
abbrev pub links_by : ℕ → ℕ
links_by kind = (if kind == 2 then 1 else 0)

-- a directory whose entries changed at a moment, with its links since then
abbrev pub directory_touched : ℕ → ℕ → NodeRow → NodeRow
directory_touched now links row = record row { mtime = now; ctime = now; nlink = links }
