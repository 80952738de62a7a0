-- What is seen of a yard, by what is seen of its devices.
use Rattle.jv_outside.specs.promise.Blocks.{StagedMap}
use Rattle.jv_outside.specs.promise.Holding.{Holding}
use Rattle.jv_outside.specs.promise.Objects.{ObjectMap}
use Rattle.jv_yard.specs.declared.yard.Yard.{Yard}
use Rattle.jv_yard.specs.Staging.{by_client}
use Rattle.jv_yard.specs.promise.YardValue.{YardValue}
use Rattle.jv_yard.specs.YardValue.{yard_value}

abbrev pub seen_yard : {D H : Type 0} → (D → Holding ObjectMap) → (H → Holding StagedMap) → Yard D H → YardValue
seen_yard depot shelf y =
    yard_value (depot y.depot) (shelf y.shelf) y.setting (by_client y.staged) y.last y.log.items
