-- What is sent for one block of a slice.
use Rattle.std.proofs.Common.{◌≡◌, ℕ, ◌+◌, ◌-◌, ◌*◌, ◌<◌, ◌≤◌, ◌^◌, List, length, take, drop, min, refl, ap, ◌∙◌, arith}
use Rattle.std.proofs.lemmas.List.{length-take, length-drop}
use Rattle.jv_model.specs.declared.limits.TheConstants.{WINDOW}
use Rattle.jv_model.specs.declared.setting.Setting.{Setting}
use Rattle.jv_model.specs.promise.blocks.BlockNames.{block_name_of}
use Rattle.jv_model.specs.promise.blocks.Slices.{block_at, block_count, block_length}
use Rattle.jv_outside.specs.declared.parcel.Parcel.{Parcel}
use Rattle.jv_outside.specs.Parcels.{StandsFor}
use Rattle.jv_client_shared.proofs.FlyingLaws.{slice_block-is}
use Rattle.jv_client_shared.specs.Lengths.{IsLength}
use Rattle.jv_yard.specs.BlockCalls.{IsBlockParcel}
use Rattle.jv_yard.proofs.CallLaws.{block_parcel}

-- the part of a slice that is a block has the block's length
part-long : (bytes : List ℕ) (block index len from : ℕ) → from ≡ index * block
    → len ≡ block_length (length bytes) block index
    → length (take (from + len - from) (drop from bytes)) ≡ block_length (length bytes) block index
part-long bytes block index len from begins long =
    length-take (from + len - from) (drop from bytes)
    ∙ ap (min (from + len - from)) (length-drop from bytes)
    ∙ omega (arith, begins, long)

module _ (setting : Setting) (id index len at : ℕ) (name bytes : List ℕ) (parcel : Parcel) where
  abbrev from : ℕ
  from = index * setting.block

  abbrev part : List ℕ
  part = take (from + len - from) (drop from bytes)

  -- A parcel for the part of a slice that is a block, under the block's name, may be put.
  pub part-parcel : IsLength setting.block → 0 < id → id < 2 ^ 64 → length bytes ≤ WINDOW
      → index < block_count (length bytes) setting.block → len ≡ block_length (length bytes) setting.block index
      → name ≡ block_name_of setting id index len → StandsFor parcel name part at → IsBlockParcel setting parcel
  part-parcel length_is positive low short there long named stands =
      block_parcel setting (block_at id (length bytes) setting.block index) parcel part at
      (slice_block-is setting.block id (length bytes) index length_is positive low short there)
      (record {
        named = stands.named ∙ named ∙ ap (block_name_of setting id index) long;
        dated = stands.dated;
        carries = stands.carries;
      })
      (part-long bytes setting.block index len from refl long)
