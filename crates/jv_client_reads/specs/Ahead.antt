-- The blocks that a reading has ahead.
use Rattle.std.specs.Prelude.{ℕ, ◌+◌, nat_le, if◌then◌else◌, Bool, true, false, List, [], ◌∷◌, ◌++◌, drop, Option, None, Some}
use Rattle.jv_model.specs.declared.slice.BlockId.{BlockId}
use Rattle.jv_model.specs.promise.journal.Reading.{Asked}
use Rattle.jv_client_handles.specs.declared.views.View.{View}
use Rattle.jv_client_handles.specs.Views.{SeenViews, view_at}
use Rattle.jv_slices_reading.specs.Parts.{blocks_between}
use Rattle.jv_client_reads.specs.declared.begun.Begun.{Begun}
use Rattle.jv_client_reads.specs.Fetching.{Fetching}
use Rattle.jv_client_reads.specs.Shows.{place_of, shown_len}

-- the blocks that a part needs, by the view of its window
abbrev pub part_blocks : ℕ → View → Asked → List BlockId
part_blocks block view asked =
    blocks_between block view.list (place_of asked) (place_of asked + shown_len view asked)

-- The blocks that parts need, up to the first whose window wasn't seen. After a part that the file
-- doesn't fill none is read.
abbrev pub parts_blocks : SeenViews → ℕ → List Asked → List BlockId
parts_blocks views block [] = []
parts_blocks views block (asked ∷ others) = elim (view_at views asked.window) [
  | None ↦ []
  | Some view ↦ part_blocks block view asked
      ++ (if nat_le asked.to view.length then parts_blocks views block others else [])
]

-- the parts after the first, once that was read
abbrev pub parts_after : Bool → List Asked → List Asked
parts_after true parts = drop 1 parts
parts_after false parts = []

-- the blocks that are left of the part that has begun, and those of the parts after it
abbrev pub ahead_of : SeenViews → ℕ → Option Begun → List Asked → List BlockId
ahead_of views block None parts = parts_blocks views block parts
ahead_of views block (Some begun) parts =
    begun.part.left ++ parts_blocks views block (parts_after begun.is_full parts)

-- The blocks that a reading has ahead by these views, in the order in which it reads them.
abbrev pub blocks_ahead : SeenViews → Fetching → List BlockId
blocks_ahead views f = ahead_of views f.block f.begun f.parts
