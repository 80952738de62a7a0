-- What a reader of a part may rely on.
use Rattle.std.specs.Prelude.{◌≡◌, ℕ, ◌<◌, List, slice_get, All, Some}
use Rattle.jv_model.specs.declared.slice.BlockId.{BlockId}
use Rattle.jv_model.specs.declared.slice.Rec.{Rec}
use Rattle.jv_volume.specs.promise.TypedRows.{Rows}
use Rattle.jv_volume_bytes.specs.promise.Blocks.{Blocks, Grows, HasBlocks, IsThere, known_by}
use Rattle.jv_volume_bytes.specs.Counts.{HadSize}
use Rattle.jv_slices_reading.specs.Parts.{FillsIn, IsNamed, IsKnownOf, Part, ReadsAs}

-- of each block that is there its bytes are known
abbrev pub BlocksAreKnown : Type 0
BlocksAreKnown = (block : ℕ) (blocks : Blocks) (b : BlockId) (bytes : List ℕ)
    → blocks b ≡ Some bytes → IsKnownOf (known_by block blocks) block bytes b

-- the slices of the records have rows with their sizes
abbrev pub HaveSlices : Rows → List Rec → Type 0
HaveSlices rows list = All (λ r. 0 < r.id → HadSize rows r.id r.size) list

-- where all blocks of all slices are there, so is each block of a record's slice
abbrev pub NamedAreThere : Type 0
NamedAreThere = (block : ℕ) (rows : Rows) (blocks : Blocks) (list : List Rec) (b : BlockId)
    → HasBlocks block rows blocks → HaveSlices rows list → IsNamed list block b → IsThere blocks b

-- a part reads as these blocks have it, and as all do that may be there later
abbrev pub ReadsBlocks : Blocks → Part → Type 0
ReadsBlocks blocks part =
    (later : Blocks) → Grows blocks later → ReadsAs (known_by part.block later) part

-- that goes on where blocks come, and where a block that is there is filled in
pub record ReadsGoOn : Type 0 where
  pub come : (blocks later : Blocks) (part : Part) → Grows blocks later → ReadsBlocks blocks part
      → ReadsBlocks later part
  pub filled : (blocks : Blocks) (b : BlockId) (bytes : List ℕ) (before after : Part)
      → blocks b ≡ Some bytes → slice_get before.left 0 ≡ Some b
      → after.block ≡ before.block → FillsIn bytes before after → ReadsBlocks blocks before
      → ReadsBlocks blocks after
