-- What only inner contracts cite: of `promise/Starting`.
use Rattle.std.specs.Prelude.{◌≡◌, ℕ, ◌≤◌, ◌<◌, List, Result, Ok, Err}
use Rattle.jv_model.specs.declared.limits.TheConstants.{LAST_CLIENT}
use Rattle.jv_model.specs.declared.setting.Setting.{Setting}
use Rattle.jv_model.specs.promise.FiniteMap.{empty_map}
use Rattle.jv_outside.specs.promise.Holding.{Holding}
use Rattle.jv_outside.specs.promise.Blocks.{StagedMap}
use Rattle.jv_yard.specs.declared.faults.YardFault.{YardFault}
use Rattle.jv_yard.specs.promise.Staging.{ClientStaging}
use Rattle.jv_yard.specs.Staging.{by_client}
use Rattle.jv_yard.specs.promise.Starting.{IsFound, ShelfRefuses}

-- finding a client's staged blocks, by the result
abbrev pub FindsStaged : Setting → Holding StagedMap → Holding StagedMap → ℕ
    → Result ClientStaging YardFault → Type 0
FindsStaged setting before after client (Ok found) =
    (after ≡ before) × IsFound setting before.content client found
FindsStaged setting before after client (Err fault) = ShelfRefuses before after fault

-- finding the staged blocks of each client, by the result
abbrev pub FindsAll : Setting → Holding StagedMap → Holding StagedMap
    → Result (List ClientStaging) YardFault → Type 0
FindsAll setting before after (Ok found) = (after ≡ before)
    × ((client : ℕ) → client ≤ LAST_CLIENT
    → IsFound setting before.content client (by_client found client))
    × ((client : ℕ) → LAST_CLIENT < client → by_client found client ≡ empty_map)
FindsAll setting before after (Err fault) = ShelfRefuses before after fault
