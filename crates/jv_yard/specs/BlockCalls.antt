-- What the calls on single blocks do.
use Rattle.std.specs.Prelude.{◌≡◌, ◌≢◌, ℕ, List, [], ◌∷◌, ◌++◌, length, Option, None, Some, IfSome, Result, Ok, Err}
use Rattle.jv_model.specs.declared.setting.Setting.{Setting}
use Rattle.jv_model.specs.declared.slice.BlockId.{BlockId}
use Rattle.jv_model.specs.promise.blocks.BlockNames.{IsBlockName}
use Rattle.jv_outside.specs.declared.parcel.Parcel.{Parcel}
use Rattle.jv_outside.specs.Objects.{IsPublished}
use Rattle.jv_outside.specs.promise.Objects.{bytes_at}
use Rattle.jv_outside.specs.promise.Blocks.{staged_at}
use Rattle.jv_outside.specs.Parcels.{Carries}
use Rattle.jv_yard.specs.declared.note.TheConstants.{MAIN}
use Rattle.jv_yard.specs.declared.note.Note.{Note}
use Rattle.jv_yard.specs.declared.note.What.{What}
use Rattle.jv_yard.specs.declared.note.What.TheVariants.{Put}
use Rattle.jv_yard.specs.declared.faults.YardFault.{YardFault}
use Rattle.jv_yard.specs.declared.faults.YardFault.TheVariants.{Shelf}
use Rattle.jv_yard.specs.promise.Staging.{staged_since}
use Rattle.jv_yard.specs.promise.YardValue.{YardValue}
use Rattle.jv_yard.specs.Refusals.{Refuses}

-- a client's block as its shelf has it, where it is staged there since a moment, and else as the
-- depot has it
abbrev pub IsBlockBy : Option ℕ → YardValue → ℕ → List ℕ → Option (List ℕ) → Type 0
IsBlockBy None yard client name value =
    IfSome yard.depot.content (λ objects. value ≡ bytes_at name objects)
IsBlockBy (Some since) yard client name value =
    IfSome yard.shelf.content (λ blocks. value ≡ staged_at client name blocks)

-- what a client reads at a name, where the device that it is read from is known
abbrev pub IsBlockOf : YardValue → ℕ → List ℕ → Option (List ℕ) → Type 0
IsBlockOf yard client name value =
    IsBlockBy (staged_since client name yard.staged) yard client name value

-- reading a block, by the result
abbrev pub GetsBlock : ℕ → List ℕ → YardValue → YardValue → Result (Option (List ℕ)) YardFault
    → Type 0
GetsBlock client name before after (Ok value) =
    (after ≡ before) × IsBlockOf before client name value
GetsBlock client name before after (Err fault) = Refuses before after fault

-- a note of main on a client's block
abbrev pub note_of : ℕ → What → BlockId → Note
note_of client what block = record { by = MAIN; client = client; what = what; block = block }

-- a parcel for a block of the volume, with as many bytes as its name says
pub record IsBlockParcel (setting : Setting) (parcel : Parcel) : Type 0 where
  pub block : BlockId
  pub named : IsBlockName setting block parcel.name
  pub bytes : List ℕ
  pub carries : Carries parcel.load bytes
  pub long : length bytes ≡ block.size

-- the parcel is published and noted, and nothing else has changed
pub record IsPut (client : ℕ) (parcel : Parcel) (before after : YardValue) : Type 0 where
  pub published : IsPublished before.depot after.depot parcel
  pub noted : (block : BlockId) → IsBlockName before.setting block parcel.name
      → after.log ≡ before.log ++ note_of client Put block ∷ []
  pub others : after ≡ record before { depot = after.depot; log = after.log }

-- putting a block into the depot, by the result: on error the parcel comes back, and it wasn't the
-- shelf that failed
abbrev pub PutsBlock : ℕ → Parcel → YardValue → YardValue → Result (Unit {0}) (Parcel × YardFault)
    → Type 0
PutsBlock client parcel before after (Ok unit) = IsPut client parcel before after
PutsBlock client parcel before after (Err refused) =
    (refused.0 ≡ parcel) × (refused.1 ≢ Shelf) × Refuses before after refused.1
