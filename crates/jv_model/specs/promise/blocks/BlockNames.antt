-- The names of blocks as objects.
use Rattle.std.specs.Prelude.{◌≡◌, ℕ, ◌/◌, ◌%◌, ◌<◌, ◌≤◌, ◌^◌, Bool, ◌&&◌, ◌==◌, nat_lt, nat_le, if◌then◌else◌, List, [], ◌∷◌, ◌++◌, slice_index, codes, decimal}
use Rattle.jv_model.specs.declared.limits.TheConstants.{MAX_BLOCKS}
use Rattle.jv_model.specs.declared.setting.Setting.{Setting}
use Rattle.jv_model.specs.declared.slice.BlockId.{BlockId}

-- the upper-case hexadecimal digit of a number below 16
abbrev pub upper_digit : ℕ → ℕ
upper_digit n = slice_index (codes "0123456789ABCDEF") n

-- the two digits of a byte, the high one first
abbrev pub upper_pair : ℕ → List ℕ
upper_pair byte = upper_digit (byte / 16) ∷ upper_digit (byte % 16) ∷ []

-- where the blocks of a slice lie without hash prefix: by millions of ids, and below that by
-- thousands
abbrev pub plain_folder : ℕ → List ℕ
plain_folder id = decimal (id / 1000 / 1000) ++ codes "/" ++ decimal (id / 1000)

-- and with hash prefix: by the lowest byte of the id, and below that by millions of ids
abbrev pub hashed_folder : ℕ → List ℕ
hashed_folder id = upper_pair (id % 256) ++ codes "/" ++ decimal (id / 1000 / 1000)

-- hash is 1 where names have the prefix
abbrev pub slice_folder : ℕ → ℕ → List ℕ
slice_folder hash id = (if hash == 1 then hashed_folder id else plain_folder id)

-- the spelling of a block's name: the slice's id, the block's index in it and its length in bytes
unfoldable pub block_name_of : Setting → ℕ → ℕ → ℕ → List ℕ
block_name_of setting id index size =
    setting.name ++ codes "/chunks/" ++ slice_folder setting.hash id ++ codes "/"
    ++ decimal id ++ codes "_" ++ decimal index ++ codes "_" ++ decimal size

-- the name of a block of the volume
abbrev pub name_in : Setting → BlockId → List ℕ
name_in setting block = block_name_of setting block.id block.index block.size

-- what a block may be, where blocks have this length at most: a slice has at most MAX_BLOCKS blocks
pub record IsBlock (block_size : ℕ) (block : BlockId) : Type 0 where
  pub id : 1 ≤ block.id
  pub id_in_range : block.id < 2 ^ 64
  pub index : block.index < MAX_BLOCKS
  pub some : 1 ≤ block.size
  pub size : block.size ≤ block_size

-- the same as a test
abbrev pub is_block : ℕ → BlockId → Bool
is_block block_size block =
    nat_le 1 block.id && nat_lt block.id (2 ^ 64) && nat_lt block.index MAX_BLOCKS
    && nat_le 1 block.size && nat_le block.size block_size

-- a text is the name of a block of a volume
pub record IsBlockName (setting : Setting) (block : BlockId) (text : List ℕ) : Type 0 where
  pub is_block : IsBlock setting.block block
  pub spelled : text ≡ name_in setting block
