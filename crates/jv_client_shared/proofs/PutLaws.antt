-- The put of a flight's next block: it leads to the same tree, and the flight goes on with one more block.
use Rattle.std.proofs.Common.{◌≡◌, ◌≢◌, ℕ, ◌+◌, ◌<◌, ◌^◌, Bool, true, false, inl, inr, List, Option, None, Some, refl, sym, ap, subst, subst₂, ◌∙◌, arith}
use Rattle.std.specs.Prelude.{if◌then◌else◌}
use Rattle.jv_model.specs.declared.slice.BlockId.{BlockId}
use Rattle.jv_model.specs.promise.blocks.BlockNames.{IsBlock, name_in}
use Rattle.jv_model.specs.blocks.Slices.{is_same_block}
use Rattle.jv_model.specs.promise.tree.Tree.{Tree}
use Rattle.jv_outside.specs.declared.parcel.Parcel.{Parcel}
use Rattle.jv_outside.specs.promise.Carriage.{Carriage}
use Rattle.jv_outside.specs.promise.Holding.{Holding}
use Rattle.jv_outside.specs.promise.Objects.{ObjectMap}
use Rattle.jv_outside.specs.Objects.{with_object}
use Rattle.jv_outside.specs.Parcels.{StandsFor}
use Rattle.jv_slices.proofs.NeedLaws.{equal_if_same, same_self}
use Rattle.jv_volume.specs.promise.TypedRows.{Rows, typed}
use Rattle.jv_volume.specs.promise.Slices.{next_slice}
use Rattle.jv_volume_bytes.specs.promise.Blocks.{Blocks, EachBlock, Grows, IsThere}
use Rattle.jv_volume_bytes.specs.Blocks.{IsPut}
use Rattle.jv_volume_bytes.specs.Flights.{Flight, flight_block, flight_bytes}
use Rattle.jv_volume_bytes.proofs.BlockLaws.{each_block-still, grows-none, there-grows, tree-grows}
use Rattle.jv_volume_bytes.proofs.FlightLaws.{next_block-free, put-below, put-grows, put-next, put_or_was}
use Rattle.jv_yard.specs.declared.note.Note.{Note}
use Rattle.jv_yard.specs.BlockCalls.{IsPut as PutsParcel}
use Rattle.jv_yard.specs.promise.Contents.{blocks_in}
use Rattle.jv_yard.specs.promise.YardValue.{YardValue}
use Rattle.jv_yard.proofs.CallLaws.{KeepsStaged-same}
use Rattle.jv_yard.proofs.ContentsLaws.{put-objects, put-other, put-same}
use Rattle.jv_client_shared.specs.promise.Shared.{HasStore, IsStored, Known, Shared, depot_blocks, depot_in, staged_in}
use Rattle.jv_client_shared.specs.Shared.{rows_in, with_block}
use Rattle.jv_client_shared.specs.Flying.{Flies}
use Rattle.jv_client_shared.specs.Direct.{HasPut}
use Rattle.jv_client_shared.specs.Keeping.{KeepsShared, Leads}
use Rattle.jv_client_shared.proofs.DirectLaws.{has_put-next}
use Rattle.jv_client_shared.proofs.FlyingLaws.{flight_bytes-long}
use Rattle.jv_client_shared.proofs.StoreLaws.{block_length, block_some, known_has, depot_are, rows_are, stored-grows}

-- a block is known, and all others are as before
pub with_block-put : (b : BlockId) (bytes : List ℕ) (g : Known) → IsPut b bytes g.blocks (with_block b bytes g).blocks
with_block-put b bytes g = record {
  here = ap (λ test. if test then Some bytes else g.blocks b) (same_self b);
  others = λ other apart. by_test other apart (is_same_block b other) refl;
}
  where
    by_test : (other : BlockId) → other ≢ b → (test : Bool) → is_same_block b other ≡ test → (if test then Some bytes else g.blocks other) ≡ g.blocks other
    by_test other apart true e = absurd (apart (sym (equal_if_same b other e)))
    by_test other apart false e = refl

module _ (t : Tree) (g : Known) (v : Shared) (s : HasStore t g v) (f : Flight) (flies : Flies g v f) where
  abbrev next : BlockId
  next = flight_block v.yard.setting.block f f.put

  abbrev bytes : List ℕ
  bytes = flight_bytes v.yard.setting.block f f.put

  abbrev learned : Known
  learned = with_block next bytes g

  abbrev depot : Blocks
  depot = blocks_in v.yard.setting s.objects

  ever_put : IsPut next bytes g.blocks learned.blocks
  ever_put = with_block-put next bytes g

  ever_grows : Grows g.blocks learned.blocks
  ever_grows = put-grows next bytes g.blocks learned.blocks ever_put (next_block-free v.yard.setting.block (rows_in v) g.blocks f flies.ever)

  -- only blocks of the flight are new
  ever_own : (b : BlockId) (its : List ℕ) → b.id ≢ f.id → learned.blocks b ≡ Some its → g.blocks b ≡ Some its
  ever_own b its apart there = elim (put_or_was next bytes g.blocks learned.blocks ever_put b its there) [
    | inl was ↦ was
    | inr same ↦ absurd (apart (ap (λ (x : BlockId). x.id) same))
  ]

  -- the depot doesn't have the block yet
  depot_free : depot next ≡ None
  depot_free = by_bytes (depot next) refl
    where
      by_bytes : (o : Option (List ℕ)) → depot next ≡ o → depot next ≡ None
      by_bytes None e = e
      by_bytes (Some its) e =
          let known : g.blocks next ≡ Some its = s.copies next its e in
          let none : g.blocks next ≡ None = next_block-free v.yard.setting.block (rows_in v) g.blocks f flies.ever in
          absurd (cc)

  module _ (is : IsBlock v.yard.setting.block next) (at : ℕ) where
    abbrev after : ObjectMap
    after = with_object (name_in v.yard.setting next) bytes at s.objects

    abbrev depot' : Blocks
    depot' = blocks_in v.yard.setting after

    small : v.yard.setting.block < 2 ^ 32
    small = (let most = (block_length t g v s).most in omega (arith, most))

    depot_put : IsPut next bytes depot depot'
    depot_put = record {
      here = put-same v.yard.setting small s.objects next bytes at is;
      others = λ other apart. put-other v.yard.setting small s.objects next bytes at is other apart;
    }

    depot_grows : Grows depot depot'
    depot_grows = put-grows next bytes depot depot' depot_put depot_free

    depot_learned : Grows depot' learned.blocks
    depot_learned b its there = elim (put_or_was next bytes depot depot' depot_put b its there) [
      | inl was ↦ ever_grows b its (s.copies b its was)
      | inr same ↦ ap learned.blocks same ∙ ever_put.here ∙ sym depot_put.here ∙ ap depot' (sym same) ∙ there
    ]

    -- rows stay, so that what the put leaves true of a block stays true of all blocks of their slices
    still : (P Q : BlockId → Type 0) → ((b : BlockId) → P b → Q b) → EachBlock P v.yard.setting.block (typed s.rows)
        → EachBlock Q v.yard.setting.block (typed s.rows)
    still P Q stays = each_block-still P Q v.yard.setting.block (typed s.rows) (typed s.rows) (λ b row. stays b) (λ id. refl)

    module _ (held : Holding ObjectMap) (log : List Note) (carrier : Carriage) (content : held.content ≡ Some after) where
      abbrev put_shared : Shared
      put_shared = record v { yard = record v.yard { depot = held; log = log }; carrier = carrier }

      depot_then : depot' ≡ depot_in put_shared
      depot_then = sym (ap (depot_blocks v.yard.setting) content)

      put_store : HasStore t learned put_shared
      put_store = record {
        rows = s.rows;
        rows_are = s.rows_are;
        whole = s.whole;
        sized = s.sized;
        setting = s.setting;
        objects = after;
        objects_are = content;
        staged = s.staged;
        staged_are = s.staged_are;
        there = still (IsStored depot (staged_in v.yard s.staged)) (IsStored depot' (staged_in v.yard s.staged))
            (stored-grows depot depot' (staged_in v.yard s.staged) (staged_in v.yard s.staged) depot_grows
            (λ client. grows-none (staged_in v.yard s.staged client)))
            s.there;
        copies = depot_learned;
        staged_copies = λ client b its there. ever_grows b its (s.staged_copies client b its there);
        kept = KeepsStaged-same v.yard (record v.yard { depot = held; log = log }) refl refl refl s.kept;
        below = put-below next bytes g.blocks learned.blocks ever_put (typed s.rows)
            (subst (λ (rows : Rows). f.id < next_slice rows) (rows_are t g v s) flies.ever.below) s.below;
        tree = s.tree
            ∙ sym (tree-grows (typed s.rows) s.whole.slices v.yard.setting.block g.blocks learned.blocks (block_some t g v s) (known_has t g v s) ever_grows);
        direct = still (IsThere depot) (IsThere depot') (λ b. there-grows depot depot' b depot_grows) s.direct;
      }

      put_kept : KeepsShared f.id g learned v put_shared
      put_kept = record {
        setting = refl;
        keeps = record {
          learns = record { blocks = ever_grows; only = ever_own; sizes = λ id low. refl };
          numbers = record { next = omega arith; unknown = λ id some apart u. u };
        };
        direct = subst₂ Grows (sym (depot_are t g v s)) depot_then depot_grows;
      }

      put_flies : Flies learned put_shared (record f { put = f.put + 1 })
      put_flies = record { ever = put-next v.yard.setting.block (rows_in v) g.blocks f flies.ever learned.blocks ever_put; size = flies.size }

      put_has : HasPut v.yard.setting.block (depot_in v) f → HasPut v.yard.setting.block (depot_in put_shared) (record f { put = f.put + 1 })
      put_has has =
          subst (λ (blocks : Blocks). HasPut v.yard.setting.block blocks (record f { put = f.put + 1 })) depot_then
          (has_put-next v.yard.setting.block depot depot' f (flight_bytes-long v.yard.setting.block f f.put) depot_grows depot_put
          (subst (λ (blocks : Blocks). HasPut v.yard.setting.block blocks f) (depot_are t g v s) has))

  module _ (client : ℕ) (parcel : Parcel) (yard : YardValue) (carrier : Carriage) (at : ℕ) (is : IsBlock v.yard.setting.block next)
      (stands : StandsFor parcel (name_in v.yard.setting next) bytes at) (put : PutsParcel client parcel v.yard yard) where
    content_is : yard.depot.content ≡ Some (with_object (name_in v.yard.setting next) bytes at s.objects)
    content_is = put-objects client parcel v.yard yard (name_in v.yard.setting next) bytes at s.objects put stands s.objects_are

    -- The put leads to the same tree, where the block is known.
    pub put-leads : Leads f.id t g (with_block (flight_block v.yard.setting.block f f.put) (flight_bytes v.yard.setting.block f f.put) g) v
        (record v { yard = yard; carrier = carrier })
    put-leads =
        subst (λ (y : YardValue). Leads f.id t g (with_block next bytes g) v (record v { yard = y; carrier = carrier })) (sym put.others)
        (record { store = put_store is at yard.depot yard.log carrier content_is; kept = put_kept is at yard.depot yard.log carrier content_is })

    -- and the flight goes on with one more block
    pub put-flies_on : Flies (with_block (flight_block v.yard.setting.block f f.put) (flight_bytes v.yard.setting.block f f.put) g)
        (record v { yard = yard; carrier = carrier }) (record f { put = f.put + 1 })
    put-flies_on =
        subst (λ (y : YardValue). Flies (with_block next bytes g) (record v { yard = y; carrier = carrier }) (record f { put = f.put + 1 })) (sym put.others)
        (put_flies is at yard.depot yard.log carrier content_is)

    -- of which the depot has the blocks that were put
    pub put-has_put : HasPut v.yard.setting.block (depot_in v) f
        → HasPut yard.setting.block (depot_in (record v { yard = yard; carrier = carrier })) (record f { put = f.put + 1 })
    put-has_put has =
        subst (λ (y : YardValue). HasPut y.setting.block (depot_in (record v { yard = y; carrier = carrier })) (record f { put = f.put + 1 })) (sym put.others)
        (put_has is at yard.depot yard.log carrier content_is has)
