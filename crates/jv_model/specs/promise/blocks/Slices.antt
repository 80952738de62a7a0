-- Which byte of which slice a position of a window shows, what a reader sees of a window, and which
-- blocks that needs.
use Rattle.std.specs.Prelude.{ℕ, ◌+◌, ◌-◌, ◌*◌, ◌/◌, Bool, ◌&&◌, ◌==◌, nat_le, if◌then◌else◌, List, reverse, find, min, Option, None, Some, IsTrue}
use Rattle.jv_model.specs.declared.limits.TheConstants.{WINDOW}
use Rattle.jv_model.specs.declared.slice.Rec.{Rec}
use Rattle.jv_model.specs.declared.slice.Spot.{Spot}
use Rattle.jv_model.specs.declared.slice.Spot.TheVariants.{Zero, Slice}
use Rattle.jv_model.specs.declared.slice.BlockId.{BlockId}
use Rattle.jv_model.specs.promise.Ranges.{in_range}

-- a record shows a part of a slice, or nothing, which reads zero
abbrev pub is_part : Rec → Bool
is_part r = if r.id == 0 then r.size == 0 && r.off == 0 else nat_le (r.off + r.len) r.size

-- what a record may be: it shows this in a part of the window
abbrev pub is_record : Rec → Bool
is_record r = nat_le 1 r.len && nat_le (r.pos + r.len) WINDOW && is_part r

abbrev pub IsRecord : Rec → Type 0
IsRecord r = IsTrue (is_record r)

abbrev pub covers : ℕ → Rec → Bool
covers position r = in_range r.pos r.len position

-- the record that a position shows: the last one of the list that covers it
abbrev pub visible : List Rec → ℕ → Option Rec
visible list position = find (covers position) (reverse list)

-- the place that a record shows at a distance from its first position
abbrev pub shown : Rec → ℕ → Spot
shown r distance = (if r.id == 0 then Zero else Slice r.id r.size (r.off + distance))

-- where the byte lies that a record has for a position: a record without slice, and no record, read
-- zero
abbrev pub place_by : Option Rec → ℕ → Spot
place_by None position = Zero
place_by (Some r) position = shown r (position - r.pos)

-- the stored place of a position of a window
unfoldable pub stored_place : List Rec → ℕ → Spot
stored_place list position = place_by (visible list position) position

-- how many blocks a slice has, and the length of each
abbrev pub block_count : ℕ → ℕ → ℕ
block_count size block = (size + (block - 1)) / block

abbrev pub block_length : ℕ → ℕ → ℕ → ℕ
block_length size block index = min block (size - index * block)

abbrev pub block_at : ℕ → ℕ → ℕ → ℕ → BlockId
block_at id size block index =
    record { id = id; index = index; size = block_length size block index }
