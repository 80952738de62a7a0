-- What only inner contracts cite: of `promise/Blocks`.
use Rattle.std.specs.Prelude.{ℕ, ◌==◌, ◌&&◌, List, filter, map, take, Option}
use Rattle.std.specs.Coded.{Coded, coded×, coded_list, coded_ℕ}
use Rattle.jv_model.specs.promise.FiniteMap.{empty_map, insert, remove}
use Rattle.jv_model.specs.FiniteMap.{map_code}
use Rattle.jv_outside.specs.declared.object.Staged.{Staged}
use Rattle.jv_outside.specs.Objects.{is_later}
use Rattle.jv_outside.specs.Overlaid.{overlaid}
use Rattle.jv_outside.specs.promise.Blocks.{StagedMap}

abbrev pub staged_map_code : Coded StagedMap
staged_map_code = map_code (coded× coded_ℕ (coded_list coded_ℕ)) (coded_list coded_ℕ)

-- the client and the name of a block
abbrev pub key_of : Staged → ℕ × List ℕ
key_of block = (block.client, block.name)

abbrev pub bytes_of : Staged → List ℕ
bytes_of block = block.bytes

-- staged blocks in any order as a map, where the first of one client and name stands
abbrev pub staged_map : List Staged → StagedMap
staged_map blocks = overlaid key_of bytes_of blocks empty_map

-- with these bytes at a client's name
abbrev pub staging : ℕ → List ℕ → List ℕ → StagedMap → StagedMap
staging client name bytes blocks = insert blocks (client, name) bytes

-- without a client's block of a name
abbrev pub unstaged : ℕ → List ℕ → StagedMap → StagedMap
unstaged client name blocks = remove blocks (client, name)

-- the names of a client's first `count` blocks after a name, or from its first on, in the order of
-- their names
abbrev pub names_after : ℕ → Option (List ℕ) → ℕ → StagedMap → List (List ℕ)
names_after client last count blocks =
    take count (map (λ block. block.0.1) (filter (λ block. (block.0.0 == client)
    && is_later last block.0.1) blocks.list))
