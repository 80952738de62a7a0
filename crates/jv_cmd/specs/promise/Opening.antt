-- What a keeper's row of the setting is to a command.
use Rattle.std.specs.Prelude.{◌≡◌, ℕ, ◌<◌, List, Option, None, Some, IfSome, IsSome, IsSomeAnd}
use Rattle.jv_model.specs.declared.tables.TheConstants.{ROWS_VERSION}
use Rattle.jv_model.specs.declared.setting.Setting.{Setting}
use Rattle.jv_model.specs.promise.FiniteMap.{get}
use Rattle.jv_model.specs.promise.rows.RowGrammar.{setting_of}
use Rattle.jv_model.specs.promise.rows.RowKeys.{RowMap}
use Rattle.jv_model.specs.promise.rows.RowPlaces.{setting_key}
use Rattle.jv_cmd.specs.declared.ended.Ended.{Ended}
use Rattle.jv_cmd.specs.declared.ended.Ended.TheVariants.{NoVolume, NewerVersion, MalformedSetting, KeeperFailed, OutOfMemory}

-- where the rows are known, that of the setting is so
abbrev pub SettingRow : Option RowMap → (Option (List ℕ) → Type 0) → Type 0
SettingRow rows Is = IfSome rows (λ known. Is (get known setting_key))

abbrev pub IsAbsent : Option (List ℕ) → Type 0
IsAbsent stored = stored ≡ None

-- it is there, and malformed
abbrev pub IsMalformed : Option (List ℕ) → Type 0
IsMalformed stored = IsSomeAnd stored (λ bytes. setting_of bytes ≡ None)

-- it spells this setting
abbrev pub Spells : Setting → Option (List ℕ) → Type 0
Spells setting stored = IsSomeAnd stored (λ bytes. setting_of bytes ≡ Some setting)

-- it spells a setting
abbrev pub IsSetting : Option (List ℕ) → Type 0
IsSetting stored = IsSomeAnd stored (λ bytes. IsSome (setting_of bytes))

-- it spells a setting of this version
abbrev pub HasVersion : ℕ → Option (List ℕ) → Type 0
HasVersion version stored =
    IsSomeAnd stored (λ bytes. IsSomeAnd (setting_of bytes) (λ setting. setting.version ≡ version))

-- why the setting wasn't read
abbrev pub CannotRead : Option RowMap → Ended → Type 0
CannotRead rows MalformedSetting = SettingRow rows IsMalformed
CannotRead rows KeeperFailed = Unit {0}
CannotRead rows OutOfMemory = Unit {0}
CannotRead rows _ = ⊥

-- why there is no volume to run a session on
abbrev pub CannotOpen : Option RowMap → Ended → Type 0
CannotOpen rows NoVolume = SettingRow rows IsAbsent
CannotOpen rows (NewerVersion version) =
    (ROWS_VERSION < version) × SettingRow rows (HasVersion version)
CannotOpen rows ended = CannotRead rows ended

-- a setting of the version that is known
pub record IsKnown (rows : Option RowMap) (setting : Setting) : Type 0 where
  pub stored : SettingRow rows (Spells setting)
  pub version : setting.version ≡ ROWS_VERSION
