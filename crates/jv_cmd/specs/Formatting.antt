-- What only inner contracts cite: of `promise/Formatting`.
use Rattle.std.specs.Prelude.{◌≡◌, ℕ, List, Option, Result, Ok, Err}
use Rattle.jv_model.specs.declared.setting.Setting.{Setting}
use Rattle.jv_model.specs.promise.rows.RowKeys.{RowMap}
use Rattle.jv_outside.specs.promise.Holding.{IsAttached}
use Rattle.jv_outside.specs.promise.Store.{Store, held}
use Rattle.jv_outside.specs.promise.Ticks.{Ticks}
use Rattle.jv_cmd.specs.declared.ended.Ended.{Ended}
use Rattle.jv_cmd.specs.promise.Worlds.{WorldValue}
use Rattle.jv_cmd.specs.promise.Formatting.{PutsRows, CannotPut, Formats}

-- rows were put where these are known to be, or not
abbrev pub PutsAfter : Setting → Option RowMap → Option RowMap → Ticks → Ticks
    → Result (Unit {0}) Ended → Type 0
PutsAfter setting rows after clock clock' (Ok unit) =
    PutsRows setting rows after clock.answers clock'.answers
PutsAfter setting rows after clock clock' (Err ended) =
    CannotPut rows clock clock' ended × (after ≡ rows)

-- the keeper was opened at a place, and then rows were put, or not
pub record PutsVolume (place : List ℕ) (setting : Setting) (before after : Store)
    (clock clock' : Ticks) (result : Result (Unit {0}) Ended) : Type 0 where
  pub found : Store
  pub attached : IsAttached place (held before) (held found)
  pub opened : after.opened ≡ found.opened
  pub puts : PutsAfter setting found.rows after.rows clock clock' result

-- the same where the keeper is opened at a place first
pub record FormatsAt (place : List ℕ) (setting : Setting) (before after : WorldValue)
    (ended : Ended) : Type 0 where
  pub found : Store
  pub attached : IsAttached place (held before.keeper) (held found)
  pub formats : Formats setting (record before { keeper = found }) after ended
