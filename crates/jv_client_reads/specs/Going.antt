-- What holds of a reading while it goes on.
use Rattle.std.specs.Prelude.{◌≡◌, ℕ, ◌+◌, ◌<◌, ◌≤◌, nat_le, All, IfSome, List, [], ◌∷◌, length, Option, None}
use Rattle.std.specs.Prelude.{Some}
use Rattle.jv_model.specs.promise.journal.Reading.{Asked}
use Rattle.jv_volume_bytes.specs.promise.Blocks.{Blocks, Grows, known_by}
use Rattle.jv_client_handles.specs.declared.views.View.{View}
use Rattle.jv_client_handles.specs.Views.{SeenViews, view_at}
use Rattle.jv_slices_reading.specs.Parts.{IsNamed, IsPartOf}
use Rattle.jv_slices_reading.specs.Laws.{ReadsBlocks}
use Rattle.jv_client_reads.specs.declared.begun.Begun.{Begun}
use Rattle.jv_client_reads.specs.declared.begun.Read.{Read}
use Rattle.jv_client_reads.specs.Fetching.{Fetching}
use Rattle.jv_client_reads.specs.Shows.{place_of, shown_bytes, shown_len}

-- a part has begun by a view of its window, with the positions that the file had; blocks of the
-- view's records are left
pub record IsBegunBy (block : ℕ) (asked : Asked) (view : View) (begun : Begun) : Type 0 where
  pub entry : begun.entry ≡ view.entry
  pub full : begun.is_full ≡ nat_le asked.to view.length
  pub part : IsPartOf view.list (place_of asked)
      (place_of asked + shown_len view asked) block begun.part
  pub named : All (IsNamed view.list block) begun.part.left

-- what has begun is the first of the parts, by what its handle saw
abbrev pub HasBegun : SeenViews → ℕ → Option Begun → List Asked → Type 0
HasBegun views block None parts = Unit {0}
HasBegun views block (Some begun) [] = ⊥
HasBegun views block (Some begun) (asked ∷ others) =
    (view : View) × (view_at views asked.window ≡ Some view) × IsBegunBy block asked view begun

abbrev pub CanFetch : SeenViews → Fetching → Type 0
CanFetch views f = HasBegun views f.block f.begun f.parts

-- a part was read by a view, by these blocks and by all that may come later
pub record IsShown (blocks : Blocks) (views : SeenViews) (block : ℕ) (asked : Asked) (view : View)
    (read : Read)
    : Type 0 where
  pub seen : view_at views asked.window ≡ Some view
  pub entry : read.entry ≡ view.entry
  pub bytes : (later : Blocks) → Grows blocks later
      → read.bytes ≡ shown_bytes (known_by block later) view asked

-- parts were read from the first on, and others are left; after one that the file doesn't fill none
-- is read
abbrev pub HasRead : Blocks → SeenViews → ℕ → List Asked → List Read → List Asked → Type 0
HasRead blocks views block all [] parts = parts ≡ all
HasRead blocks views block [] (read ∷ reads) parts = ⊥
HasRead blocks views block (asked ∷ others) (read ∷ reads) parts =
    (view : View) × IsShown blocks views block asked view read
    × (asked.to ≤ view.length → HasRead blocks views block others reads parts)
    × (view.length < asked.to → (reads ≡ []) × (parts ≡ []))

-- the reading of one or two parts has gone on well
pub record IsFetching (blocks : Blocks) (views : SeenViews) (all : List Asked)
    (f : Fetching) : Type 0 where
  pub some : 1 ≤ length all
  pub few : length all ≤ 2
  pub read : HasRead blocks views f.block all f.read f.parts
  pub begun : CanFetch views f
  pub fills : IfSome f.begun (λ begun. ReadsBlocks blocks begun.part)
