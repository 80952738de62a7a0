-- What a look at a window of a file keeps: the window's records, and the file's length then.
use Rattle.std.specs.Prelude.{◌≡◌, ◌≢◌, ℕ, ◌+◌, ◌*◌, ◌<◌, List}
use Rattle.std.specs.List.{AllByRecursion}
use Rattle.jv_model.specs.declared.limits.TheConstants.{WINDOW}
use Rattle.jv_model.specs.declared.slice.Rec.{Rec}
use Rattle.jv_model.specs.promise.blocks.Slices.{IsRecord, stored_place}
use Rattle.jv_model.specs.promise.tree.Tree.{Content}
use Rattle.jv_volume.specs.promise.TypedRows.{Rows}
use Rattle.jv_volume.specs.promise.Slices.{next_slice}
use Rattle.jv_volume_bytes.specs.promise.Blocks.{Blocks, EachOfSlice, IsThere, known_by}
use Rattle.jv_volume_bytes.specs.promise.Bytes.{spot_byte}
use Rattle.jv_client_shared.specs.promise.Shared.{Known, Shared}
use Rattle.jv_client_shared.specs.Shared.{rows_in}

-- each block of a slice of this size is there
abbrev pub SliceIsThere : ℕ → Blocks → ℕ → ℕ → Type 0
SliceIsThere block blocks id size = EachOfSlice (IsThere blocks) block id size

-- what a record names has a number, with the size and the blocks that are known of it
pub record IsFound (block : ℕ) (rows : Rows) (g : Known) (r : Rec) : Type 0 where
  pub record_is : IsRecord r
  pub numbered : r.id ≢ 0 → r.id < next_slice rows
  pub sized : r.id ≢ 0 → r.size ≡ g.sizes r.id
  pub there : r.id ≢ 0 → SliceIsThere block g.blocks r.id r.size

-- A window's records show the bytes that a file had when it was looked at, as far as it went then,
-- by blocks that there were. This stays so whatever becomes of the file and of the blocks.
pub record ShowsWindow (block : ℕ) (rows : Rows) (g : Known) (window length : ℕ) (list : List Rec)
    (content : Content) : Type 0 where
  pub long : content.length ≡ length
  pub records : AllByRecursion (IsFound block rows g) list
  pub bytes : (place : ℕ) → place < WINDOW → window * WINDOW + place < length
      → content.byte (window * WINDOW + place) ≡ spot_byte (known_by block g.blocks)
      (stored_place list place)

-- a view of a window of a file, over what clients share
abbrev pub IsView : Known → Shared → ℕ → ℕ → List Rec → Content → Type 0
IsView g v window length list content =
    ShowsWindow v.yard.setting.block (rows_in v) g window length list content
