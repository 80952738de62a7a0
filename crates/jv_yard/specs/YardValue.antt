-- What only inner contracts cite: of `promise/YardValue`.
use Rattle.std.specs.Prelude.{ℕ, List}
use Rattle.jv_model.specs.declared.setting.Setting.{Setting}
use Rattle.jv_outside.specs.promise.Holding.{Holding}
use Rattle.jv_outside.specs.promise.Objects.{ObjectMap}
use Rattle.jv_outside.specs.promise.Blocks.{StagedMap}
use Rattle.jv_yard.specs.declared.note.Note.{Note}
use Rattle.jv_yard.specs.promise.Staging.{Staging}
use Rattle.jv_yard.specs.promise.YardValue.{YardValue}

abbrev pub yard_value : Holding ObjectMap → Holding StagedMap → Setting → Staging → ℕ → List Note
    → YardValue
yard_value depot shelf setting staged last log =
    record {
      depot = depot;
      shelf = shelf;
      setting = setting;
      staged = staged;
      last = last;
      log = log;
    }
