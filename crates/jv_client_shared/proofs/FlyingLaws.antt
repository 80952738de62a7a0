-- Slices in flight over a store that is a tree's: the bytes of a complete one, and the next block to be put.
use Rattle.std.proofs.Common.{◌≡◌, ℕ, ◌+◌, ◌*◌, ◌<◌, ◌≤◌, ◌^◌, inl, inr, min, length, drop, ap, subst, ◌∙◌, arith}
use Rattle.std.specs.Prelude.{slice_index}
use Rattle.std.proofs.lemmas.Bool.{cases_lt}
use Rattle.std.proofs.lemmas.List.{length-take, length-drop}
use Rattle.std.proofs.lemmas.Nat.{mul-le}
use Rattle.jv_model.specs.declared.limits.TheConstants.{WINDOW, MIN_BLOCK, MAX_BLOCKS}
use Rattle.jv_model.specs.declared.slice.Rec.{Rec}
use Rattle.jv_model.specs.promise.blocks.BlockNames.{IsBlock, name_in}
use Rattle.jv_model.specs.promise.blocks.Slices.{block_at, block_count, shown}
use Rattle.jv_model.specs.promise.tree.Tree.{Tree}
use Rattle.jv_outside.specs.declared.parcel.Parcel.{Parcel}
use Rattle.jv_outside.specs.Parcels.{StandsFor}
use Rattle.jv_slices.proofs.BlockLaws.{block_begins}
use Rattle.jv_volume.specs.promise.TypedRows.{Rows, typed}
use Rattle.jv_volume.specs.promise.Slices.{next_slice}
use Rattle.jv_volume_bytes.specs.promise.Blocks.{known_by}
use Rattle.jv_volume_bytes.specs.promise.Bytes.{spot_byte}
use Rattle.jv_volume_bytes.specs.Flights.{Flight, InFlight, IsComplete, flight_block, flight_bytes}
use Rattle.jv_volume_bytes.proofs.FlightLaws.{complete-shows, complete-known}
use Rattle.jv_yard.specs.BlockCalls.{IsBlockParcel}
use Rattle.jv_yard.proofs.CallLaws.{block_parcel}
use Rattle.jv_client_shared.specs.Lengths.{IsLength}
use Rattle.jv_client_shared.specs.promise.Shared.{HasStore, Known, Shared}
use Rattle.jv_client_shared.specs.Flying.{Flies}
use Rattle.jv_client_shared.proofs.StoreLaws.{block_length, block_some, rows_are}

-- A block of a slice that has a number and fits into a window is one of the volume's.
pub slice_block-is : (block id size index : ℕ) → IsLength block → 0 < id → id < 2 ^ 64 → size ≤ WINDOW → index < block_count size block
    → IsBlock block (block_at id size block index)
slice_block-is block id size index long positive low short there =
    let least = long.least in
    let begins = block_begins size block index (omega (arith, least)) there in
    record {
      id = positive;
      id_in_range = low;
      index = elim (cases_lt index MAX_BLOCKS) [
        | inl few ↦ few
        | inr many ↦ absurd (omega (arith, begins, short, mul-le MAX_BLOCKS MIN_BLOCK index block many least))
      ];
      some = omega (arith, begins, least);
      size = omega arith;
    }

-- a block to be put has as many bytes as its name says
pub flight_bytes-long : (block : ℕ) (f : Flight) (index : ℕ) → length (flight_bytes block f index) ≡ (flight_block block f index).size
flight_bytes-long block f index = length-take block (drop (index * block) f.bytes) ∙ ap (min block) (length-drop (index * block) f.bytes)

module _ (t : Tree) (g : Known) (v : Shared) (s : HasStore t g v) (f : Flight) (flies : Flies g v f) where
  -- over the store's rows, by all blocks that are known
  pub flight_now : InFlight v.yard.setting.block (typed s.rows) g.blocks f
  flight_now = subst (λ (rows : Rows). InFlight v.yard.setting.block rows g.blocks f) (rows_are t g v s) flies.ever

  -- ---- a complete one

  -- its blocks have its bytes
  pub flight-known : IsComplete v.yard.setting.block f → (k : ℕ) → k < length f.bytes
      → known_by v.yard.setting.block g.blocks f.id (length f.bytes) k ≡ slice_index f.bytes k
  flight-known complete k low = complete-known v.yard.setting.block (typed s.rows) g.blocks f flight_now complete (block_some t g v s) k low

  -- and a record of a part of it shows them
  pub flight-shown : IsComplete v.yard.setting.block f → (r : Rec) → r.id ≡ f.id → r.size ≡ length f.bytes → r.off + r.len ≤ length f.bytes
      → (n : ℕ) → n < r.len → spot_byte (known_by v.yard.setting.block g.blocks) (shown r n) ≡ slice_index f.bytes (r.off + n)
  flight-shown complete r own long inside n low =
      complete-shows v.yard.setting.block (typed s.rows) g.blocks f flight_now complete (block_some t g v s) r own long inside n low

  -- ---- the next block

  -- The next block of a flight that fits into a window is one of the volume's.
  pub next_block-is : length f.bytes ≤ WINDOW → f.put < block_count (length f.bytes) v.yard.setting.block
      → IsBlock v.yard.setting.block (flight_block v.yard.setting.block f f.put)
  next_block-is short more =
      let low = subst (λ (rows : Rows). f.id < next_slice rows) (rows_are t g v s) flies.ever.below in
      let end = s.whole.slices.slices_end in
      slice_block-is v.yard.setting.block f.id (length f.bytes) f.put (block_length t g v s) flies.ever.some (omega (arith, low, end)) short more

  -- A parcel that stands for it may be put.
  pub next_block-parcel : (parcel : Parcel) (at : ℕ) → length f.bytes ≤ WINDOW → f.put < block_count (length f.bytes) v.yard.setting.block
      → StandsFor parcel (name_in v.yard.setting (flight_block v.yard.setting.block f f.put)) (flight_bytes v.yard.setting.block f f.put) at
      → IsBlockParcel v.yard.setting parcel
  next_block-parcel parcel at short more stands =
      block_parcel v.yard.setting (flight_block v.yard.setting.block f f.put) parcel (flight_bytes v.yard.setting.block f f.put) at
      (next_block-is short more) stands (flight_bytes-long v.yard.setting.block f f.put)
