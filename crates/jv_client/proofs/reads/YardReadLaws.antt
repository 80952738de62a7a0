-- Reading a block: by what the yard has at its name.
use Rattle.std.proofs.Common.{◌≡◌, ℕ, List, Option, None, Some, Result, Ok, Err, subst}
use Rattle.jv_model.specs.declared.fault.Fault.{Fault}
use Rattle.jv_model.specs.declared.slice.BlockId.{BlockId}
use Rattle.jv_model.specs.promise.blocks.BlockNames.{name_in}
use Rattle.jv_yard.specs.declared.faults.YardFault.{YardFault}
use Rattle.jv_yard.specs.BlockCalls.{GetsBlock}
use Rattle.jv_yard.specs.promise.YardValue.{YardValue}
use Rattle.jv_yard.specs.Refusals.{yard_fault}
use Rattle.jv_client.specs.Getting.{IsBlockIn, ReadsBlock}

module _ (client : ℕ) (b : BlockId) (before after : YardValue) (name : List ℕ) (named : name ≡ name_in before.setting b)
  where
    here : (result : Result (Option (List ℕ)) YardFault) → GetsBlock client name before after result
        → GetsBlock client (name_in before.setting b) before after result
    here result gets = subst (λ name. GetsBlock client name before after result) named gets

    -- something was read, or nothing
    pub reads-value : (value found : Option (List ℕ)) → GetsBlock client name before after (Ok value)
        → IsBlockIn b.size value found → ReadsBlock client b before after (Ok found)
    reads-value value (Some bytes) gets is = (
      subst (λ value. GetsBlock client (name_in before.setting b) before after (Ok value)) is.0
          (here (Ok value) gets),
      is.1,
    )
    reads-value value None gets is = record { value = value; gets = here (Ok value) gets; none = is }

    -- a device failed, or memory ran out
    pub reads-refused : (why : YardFault) (fault : Fault) → GetsBlock client name before after (Err why)
        → fault ≡ yard_fault why → ReadsBlock client b before after (Err fault)
    reads-refused why fault gets is = record { why = why; gets = here (Err why) gets; is = is }
