-- What only inner contracts cite: of `promise/Opening`.
use Rattle.std.specs.Prelude.{ℕ, List, Option, None, Some, Result, IfOk, IfErr, IfSome, IsTrue}
use Rattle.jv_model.specs.declared.setting.Setting.{Setting}
use Rattle.jv_model.specs.promise.rows.RowGrammar.{is_setting}
use Rattle.jv_model.specs.promise.rows.RowKeys.{RowMap}
use Rattle.jv_outside.specs.promise.Holding.{IsAttached}
use Rattle.jv_outside.specs.promise.Store.{Store, held}
use Rattle.jv_cmd.specs.declared.ended.Ended.{Ended}
use Rattle.jv_cmd.specs.promise.Faults.{UsesKeeper}
use Rattle.jv_cmd.specs.Faults.{ended_by}
use Rattle.jv_cmd.specs.promise.Opening.{SettingRow, IsAbsent, Spells, CannotRead, CannotOpen, IsKnown}

-- what is stored is this setting, or none
abbrev pub IsStored : Option RowMap → Option Setting → Type 0
IsStored rows None = SettingRow rows IsAbsent
IsStored rows (Some setting) = SettingRow rows (Spells setting)

-- the keeper was opened, and the setting read among the rows that are known then
pub record ReadsSetting (place : List ℕ) (before after : Store)
    (result : Result (Option Setting) Ended) : Type 0 where
  pub rows : IsAttached place (held before) (held after)
  pub keeper : UsesKeeper (ended_by result) 0 place before after
  pub found : IfOk result (IsStored after.rows)
  pub allowed : IfOk result (λ found. IfSome found (λ setting. IsTrue (is_setting setting)))
  pub refused : IfErr result (CannotRead after.rows)

-- the keeper was opened, and the volume's setting read, or there is no volume to run a session on
pub record OpensVolume (place : List ℕ) (before after : Store)
    (result : Result Setting Ended) : Type 0 where
  pub rows : IsAttached place (held before) (held after)
  pub keeper : UsesKeeper (ended_by result) 0 place before after
  pub ok : IfOk result (IsKnown after.rows)
  pub allowed : IfOk result (λ setting. IsTrue (is_setting setting))
  pub refused : IfErr result (CannotOpen after.rows)
