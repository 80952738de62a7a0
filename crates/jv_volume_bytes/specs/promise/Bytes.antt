-- The bytes of files: what is known of each place of each slice. A transaction on rows sees none of
-- them.
use Rattle.std.specs.Prelude.{ℕ}
use Rattle.jv_model.specs.declared.slice.Spot.{Spot}
use Rattle.jv_model.specs.declared.slice.Spot.TheVariants.{Zero, Slice}
use Rattle.jv_model.specs.promise.tree.Tree.{Tree}
use Rattle.jv_volume.specs.promise.TypedRows.{Rows}
use Rattle.jv_volume.specs.promise.Views.{lists_of}
use Rattle.jv_volume.specs.promise.Slices.{place_in}
use Rattle.jv_volume.specs.promise.TreeOf.{tree_of}

-- the byte at a place of a slice, by the slice's number, its size, and the place
abbrev pub KnownBytes : Type 0
KnownBytes = ℕ → ℕ → ℕ → ℕ

-- the byte at a place
abbrev pub spot_byte : KnownBytes → Spot → ℕ
spot_byte known_bytes Zero = 0
spot_byte known_bytes (Slice id size at) = known_bytes id size at

-- the bytes that rows have, by inode and position
abbrev pub bytes_of : KnownBytes → Rows → ℕ → ℕ → ℕ
bytes_of known_bytes rows inode position =
    spot_byte known_bytes (place_in (lists_of rows inode) position)

-- the tree of rows, with the bytes of files
abbrev pub tree_with : KnownBytes → Rows → Tree
tree_with known_bytes rows = tree_of (bytes_of known_bytes rows) rows
