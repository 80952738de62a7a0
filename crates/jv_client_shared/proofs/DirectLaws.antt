-- What the depot has while each block goes there at once and none is removed: it stays while others go on, a look finds what
-- its records name there, and a put adds a flight's next block.
use Rattle.std.proofs.Common.{◌≡◌, ◌≢◌, ℕ, ◌+◌, ◌<◌, List, length, sym, subst, arith}
use Rattle.std.specs.Prelude.{Contains}
use Rattle.std.proofs.lemmas.List.Elements.{All-contains, All-from_recursion}
use Rattle.jv_model.specs.declared.setting.Setting.{Setting}
use Rattle.jv_model.specs.declared.slice.BlockId.{BlockId}
use Rattle.jv_model.specs.declared.slice.Rec.{Rec}
use Rattle.jv_model.specs.promise.blocks.Slices.{block_at, block_count}
use Rattle.jv_volume.specs.promise.TypedRows.{Rows}
use Rattle.jv_volume.specs.promise.Views.{lists_of}
use Rattle.jv_volume.specs.promise.Slices.{WholeSlices}
use Rattle.jv_volume_bytes.specs.promise.Blocks.{Blocks, Grows, HasBlocks, IsThere}
use Rattle.jv_volume_bytes.specs.Blocks.{IsPut}
use Rattle.jv_volume_bytes.specs.Flights.{EachPut, Flight, flight_block, flight_bytes}
use Rattle.jv_volume_bytes.proofs.BlockLaws.{there-grows}
use Rattle.jv_volume_bytes.proofs.FlightLaws.{put-more}
use Rattle.jv_volume_bytes.proofs.WholeLaws.{all-mapped}
use Rattle.jv_client_shared.specs.promise.Shared.{InDepot, Shared, depot_in}
use Rattle.jv_client_shared.specs.Shared.{InStore}
use Rattle.jv_client_shared.specs.Seen.{SliceIsThere}
use Rattle.jv_client_shared.specs.Direct.{HasNamed, HasPut}
use Rattle.jv_client_shared.proofs.SeenLaws.{each_listed, listed_each}

-- ---- what records name

-- a look at rows whose slices have their blocks there
pub looked_has : (rows : Rows) (block : ℕ) (depot : Blocks) → WholeSlices rows → HasBlocks block rows depot → (inode window : ℕ)
    → HasNamed block depot (lists_of rows inode window)
looked_has rows block depot w has inode window =
    each_listed rows (λ r. r.id ≢ 0 → SliceIsThere block depot r.id r.size) (listed_each rows (IsThere depot) block w has) inode window

pub has_named-grows : (block : ℕ) (depot depot' : Blocks) → Grows depot depot' → (list : List Rec) → HasNamed block depot list → HasNamed block depot' list
has_named-grows block depot depot' grows list has =
    all-mapped (λ r. r.id ≢ 0 → SliceIsThere block depot r.id r.size) (λ r. r.id ≢ 0 → SliceIsThere block depot' r.id r.size)
    (λ r there named index low. there-grows depot depot' (block_at r.id r.size block index) grows (there named index low)) list has

-- a block of a slice that a record names is there
pub has_named-there : (block : ℕ) (depot : Blocks) (list : List Rec) → HasNamed block depot list → (b : BlockId) (r : Rec) → Contains list r → 0 < r.id
    → b ≡ block_at r.id r.size block b.index → b.index < block_count r.size block → IsThere depot b
has_named-there block depot list has b r among some is low =
    let Own : Rec → Type 0 = λ r. r.id ≢ 0 → SliceIsThere block depot r.id r.size in
    subst (IsThere depot) (sym is)
    (All-contains Own list r (All-from_recursion Own list has) among (λ none. absurd (omega (arith, none, some))) b.index low)

-- ---- slices in flight

pub has_put-grows : (block : ℕ) (depot depot' : Blocks) → Grows depot depot' → (f : Flight) → HasPut block depot f → HasPut block depot' f
has_put-grows block depot depot' grows f has index low = there-grows depot depot' (flight_block block f index) grows (has index low)

-- what was put is stored
pub has_put-stored : (v : Shared) (f : Flight) → HasPut v.yard.setting.block (depot_in v) f → EachPut (InStore v) v.yard.setting.block f
has_put-stored v f has index low = InDepot (has index low)

-- the put of the next block, which has the length of its name
pub has_put-next : (block : ℕ) (depot depot' : Blocks) (f : Flight) → length (flight_bytes block f f.put) ≡ (flight_block block f f.put).size
    → Grows depot depot' → IsPut (flight_block block f f.put) (flight_bytes block f f.put) depot depot' → HasPut block depot f
    → HasPut block depot' (record f { put = f.put + 1 })
has_put-next block depot depot' f long grows put has =
    put-more (IsThere depot') block f (has_put-grows block depot depot' grows f has) (record { bytes = flight_bytes block f f.put; is = put.here; long = long })

-- ---- over what clients share

module _ (v v' : Shared) (setting : v'.yard.setting ≡ v.yard.setting) (grows : Grows (depot_in v) (depot_in v')) where
  pub has_named-stays : (list : List Rec) → HasNamed v.yard.setting.block (depot_in v) list → HasNamed v'.yard.setting.block (depot_in v') list
  has_named-stays list has =
      subst (λ (x : Setting). HasNamed x.block (depot_in v') list) (sym setting)
      (has_named-grows v.yard.setting.block (depot_in v) (depot_in v') grows list has)

  pub has_put-stays : (f : Flight) → HasPut v.yard.setting.block (depot_in v) f → HasPut v'.yard.setting.block (depot_in v') f
  has_put-stays f has =
      subst (λ (x : Setting). HasPut x.block (depot_in v') f) (sym setting)
      (has_put-grows v.yard.setting.block (depot_in v) (depot_in v') grows f has)
