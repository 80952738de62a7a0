-- Listing a client's blocks on a shelf, page by page.
use Rattle.std.specs.Prelude.{◌≡◌, ◌⊎◌, ℕ, ◌-◌, nat_lt, if◌then◌else◌, List, length, slice_get, Option, None, Some, IfSome, Contains, Result, Ok, Err}
use Rattle.jv_model.specs.declared.setting.Setting.{Setting}
use Rattle.jv_model.specs.promise.FiniteMap.{get}
use Rattle.jv_outside.specs.promise.Holding.{Holding}
use Rattle.jv_outside.specs.promise.Blocks.{StagedMap}
use Rattle.jv_outside.specs.Blocks.{names_after}
use Rattle.jv_yard.specs.declared.faults.YardFault.{YardFault}
use Rattle.jv_yard.specs.declared.finding.TheConstants.{PAGE}
use Rattle.jv_yard.specs.promise.Staging.{ClientStaging}
use Rattle.jv_yard.specs.promise.Starting.{ShelfRefuses}
use Rattle.jv_yard.specs.promise.YardValue.{NamesBlock}

-- listing a page, by the result
abbrev pub ListsPage : Holding StagedMap → Holding StagedMap → ℕ → Option (List ℕ)
    → Result (List (List ℕ)) YardFault → Type 0
ListsPage before after client last (Ok names) =
    (after ≡ before) × IfSome before.content (λ blocks. names ≡ names_after client last PAGE blocks)
ListsPage before after client last (Err fault) = ShelfRefuses before after fault

-- the last name of a full page
abbrev pub next_after : List (List ℕ) → Option (List ℕ)
next_after names = (if nat_lt (length names) PAGE then None else slice_get names (length names - 1))

-- those of the names that are of blocks of the volume are staged since a moment that 0 stands for,
-- and all others are as before
pub record AddsNames (setting : Setting) (names : List (List ℕ))
    (before after : ClientStaging) : Type 0 where
  pub added : (name : List ℕ) → Contains names name → NamesBlock setting name
      → get after name ≡ Some 0
  pub others : (name : List ℕ) → (get after name ≡ get before name) ⊎ (Contains names name
      × NamesBlock setting name × (get after name ≡ Some 0))
