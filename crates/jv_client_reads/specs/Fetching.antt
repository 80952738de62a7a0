-- A reading of a range, window by window.
use Rattle.std.specs.Prelude.{ℕ, zero, suc, ◌+◌, ◌-◌, List, [], ◌∷◌, ◌++◌, drop, length, slice_get, Option, None, Some}
use Rattle.jv_model.specs.declared.slice.BlockId.{BlockId}
use Rattle.jv_model.specs.promise.journal.Reading.{Asked}
use Rattle.jv_client_reads.specs.declared.begun.Begun.{Begun}
use Rattle.jv_client_reads.specs.declared.begun.Read.{Read}

-- The parts that aren't read yet, of which the first may have begun, and those that were read.
-- Blocks have this length.
pub record Fetching : Type 0 where
  pub block : ℕ
  pub parts : List Asked
  pub begun : Option Begun
  pub read : List Read

-- the window of the first part that isn't read yet, 0 where all are
abbrev pub first_window : List Asked → ℕ
first_window [] = 0
first_window (asked ∷ others) = asked.window

-- before anything is read
abbrev pub begins : ℕ → List Asked → Fetching
begins block parts = record { block = block; parts = parts; begun = None; read = [] }

-- the block that comes next
abbrev pub next_of : Option Begun → Option BlockId
next_of None = None
next_of (Some begun) = slice_get begun.part.left 0

abbrev pub block_needed : Fetching → Option BlockId
block_needed f = next_of f.begun

-- the most requests that parts still make: a look for each, and a block for each byte
abbrev pub weight : List Asked → ℕ
weight [] = 0
weight (asked ∷ others) = 1 + (asked.to - asked.from) + weight others

-- the most requests that the reading still makes
abbrev pub left_of : Option Begun → List Asked → ℕ
left_of None parts = weight parts
left_of (Some begun) parts = length begun.part.left + weight (drop 1 parts)

abbrev pub fetch_left : Fetching → ℕ
fetch_left f = left_of f.begun f.parts

-- what a reading returns: the entries of the looks that it cites, 0 for none, and the bytes
abbrev pub entry_at : ℕ → List Read → ℕ
entry_at n [] = 0
entry_at zero (read ∷ others) = read.entry
entry_at (suc n) (read ∷ others) = entry_at n others

abbrev pub bytes_read : List Read → List ℕ
bytes_read [] = []
bytes_read (read ∷ others) = read.bytes ++ bytes_read others

abbrev pub fetched_of : Fetching → ℕ × ℕ × List ℕ
fetched_of f = (entry_at 0 f.read, entry_at 1 f.read, bytes_read f.read)
