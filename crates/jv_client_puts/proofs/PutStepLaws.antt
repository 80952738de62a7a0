-- The put of a flight's next block, over what clients share: where it is put the flight goes on with one more block,
-- and else all stays. The tree is the same.
use Rattle.std.proofs.Common.{◌≡◌, ℕ, ◌+◌, ◌<◌, ◌≤◌, length, refl, sym, subst}
use Rattle.std.specs.Prelude.{Ok, Err}
use Rattle.jv_model.specs.declared.limits.TheConstants.{WINDOW}
use Rattle.jv_model.specs.promise.blocks.Slices.{block_count}
use Rattle.jv_model.specs.promise.tree.Tree.{Tree}
use Rattle.jv_outside.specs.promise.Carriage.{Carriage}
use Rattle.jv_volume_bytes.specs.Flights.{Flight, flight_block, flight_bytes}
use Rattle.jv_yard.specs.declared.faults.YardFault.TheVariants.{Depot as YardDepot}
use Rattle.jv_yard.specs.promise.YardValue.{YardValue}
use Rattle.jv_client_shared.specs.promise.Shared.{HasStore, Known, Shared, depot_in}
use Rattle.jv_client_shared.specs.Shared.{with_block}
use Rattle.jv_client_shared.specs.Flying.{Flies}
use Rattle.jv_client_shared.specs.Direct.{HasPut}
use Rattle.jv_client_shared.specs.Keeping.{HoldsSame, Leads}
use Rattle.jv_client_shared.proofs.FlyingLaws.{next_block-is}
use Rattle.jv_client_shared.proofs.KeepingLaws.{flies-stay_none}
use Rattle.jv_client_shared.proofs.PutLaws.{put-flies_on, put-has_put, put-leads}
use Rattle.jv_client_shared.proofs.SameLaws.{same-leads, same-refused, same-rows, same-then}
use Rattle.jv_client_puts.specs.declared.putting.PutFault.{PutFault}
use Rattle.jv_client_puts.specs.declared.putting.PutFault.TheVariants.{Carrier, Depot, Memory}
use Rattle.jv_client_puts.specs.Putting.{PutsFlight}

module _ (v : Shared) (f : Flight) (client now : ℕ) (yard : YardValue) (carrier : Carriage) where
  -- the devices once the block was put, or wasn't
  abbrev then_shared : Shared
  then_shared = record v { yard = yard; carrier = carrier }

  yard_same : yard ≡ v.yard → HoldsSame v then_shared
  yard_same same = subst (λ (y : YardValue). HoldsSame v (record v { yard = y; carrier = carrier })) (sym same)
      (same-rows v v.keeper carrier refl)

  -- A block that wasn't put leaves what the devices hold.
  pub unput-same : (fault : PutFault) → PutsFlight client now f v.yard yard v.carrier carrier (Err fault)
      → HoldsSame v (record v { yard = yard; carrier = carrier })
  unput-same Carrier puts = yard_same puts.0
  unput-same Depot puts = same-then v (record v { yard = yard }) then_shared (same-refused v yard YardDepot puts.0)
      (same-rows (record v { yard = yard }) v.keeper carrier refl)
  unput-same Memory puts = yard_same puts.0

  module _ (t : Tree) (g : Known) (s : HasStore t g v) where
    -- It leads to the same tree, whatever slice the step is about.
    pub unput-leads : (own : ℕ) (fault : PutFault) → PutsFlight client now f v.yard yard v.carrier carrier (Err fault)
        → Leads own t g g v (record v { yard = yard; carrier = carrier })
    unput-leads own fault puts = same-leads own t g v then_shared (unput-same fault puts) s

    module _ (flies : Flies g v f) where
      -- The flight stays as it was.
      pub unput-flies : (fault : PutFault) → PutsFlight client now f v.yard yard v.carrier carrier (Err fault)
          → Flies g (record v { yard = yard; carrier = carrier }) f
      unput-flies fault puts = flies-stay_none g g v then_shared (unput-leads 0 fault puts).kept f flies

      module _ (short : length f.bytes ≤ WINDOW) (more : f.put < block_count (length f.bytes) v.yard.setting.block)
          (puts : PutsFlight client now f v.yard yard v.carrier carrier (Ok tt)) where
        -- A block that was put leads to the same tree, where the block is known.
        pub put-step_leads : Leads f.id t g
            (with_block (flight_block v.yard.setting.block f f.put) (flight_bytes v.yard.setting.block f f.put) g)
            v (record v { yard = yard; carrier = carrier })
        put-step_leads = put-leads t g v s f flies client puts.0.parcel yard carrier now
            (next_block-is t g v s f flies short more) puts.0.stands puts.0.put

        -- The flight goes on with one more block.
        pub put-step_flies : Flies
            (with_block (flight_block v.yard.setting.block f f.put) (flight_bytes v.yard.setting.block f f.put) g)
            (record v { yard = yard; carrier = carrier }) (record f { put = f.put + 1 })
        put-step_flies = put-flies_on t g v s f flies client puts.0.parcel yard carrier now
            (next_block-is t g v s f flies short more) puts.0.stands puts.0.put

        -- The depot has that one too.
        pub put-step_has : HasPut v.yard.setting.block (depot_in v) f
            → HasPut yard.setting.block (depot_in (record v { yard = yard; carrier = carrier }))
            (record f { put = f.put + 1 })
        put-step_has = put-has_put t g v s f flies client puts.0.parcel yard carrier now
            (next_block-is t g v s f flies short more) puts.0.stands puts.0.put
