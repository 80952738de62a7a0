-- What `format` does.
use Rattle.std.specs.Prelude.{◌≡◌, ℕ, List, ◌∷◌, ◌++◌, [], Option, IfSome, codes}
use Rattle.std.specs.Option.{option_map}
use Rattle.jv_model.specs.declared.setting.Setting.{Setting}
use Rattle.jv_model.specs.promise.rows.RowKeys.{RowMap}
use Rattle.jv_outside.specs.promise.Rows.{applied}
use Rattle.jv_outside.specs.promise.Stream.{HasAll, IsCut}
use Rattle.jv_outside.specs.promise.Ticks.{Ticks, Passes}
use Rattle.jv_rows.specs.promise.FreshRows.{fresh_rows}
use Rattle.jv_cmd.specs.declared.ended.Ended.{Ended}
use Rattle.jv_cmd.specs.declared.ended.Ended.TheVariants.{Succeeded, VolumeExists, MalformedSetting, OutFailed, ClockFailed, KeeperFailed, OutOfMemory}
use Rattle.jv_cmd.specs.promise.Opening.{SettingRow, IsAbsent, IsSetting, IsMalformed}
use Rattle.jv_cmd.specs.promise.Worlds.{WorldValue}

abbrev pub formatted_text : Setting → List ℕ
formatted_text setting = codes "formatted " ++ setting.name ++ 10 ∷ []

-- There was no volume, and the rows of a fresh one were put, at the moment that the clock answered.
pub record PutsRows (setting : Setting) (rows after : Option RowMap)
    (answers rest : Option (ℕ → ℕ)) : Type 0 where
  pub absent : SettingRow rows IsAbsent
  pub at : ℕ
  pub moment : IfSome answers (λ known. at ≡ known 0)
  pub asked : Passes answers rest 1
  pub put : after ≡ option_map (applied (fresh_rows setting at)) rows

-- Why no rows were put. The clock is asked only where there is no volume.
abbrev pub CannotPut : Option RowMap → Ticks → Ticks → Ended → Type 0
CannotPut rows before after VolumeExists = SettingRow rows IsSetting × (after ≡ before)
CannotPut rows before after MalformedSetting = SettingRow rows IsMalformed × (after ≡ before)
CannotPut rows before after ClockFailed =
    SettingRow rows IsAbsent × (after.answers ≡ before.answers)
CannotPut rows before after KeeperFailed = Unit {0}
CannotPut rows before after OutOfMemory = Unit {0}
CannotPut rows before after _ = ⊥

-- The rows of a fresh volume are there and the text is printed, or no row was put. The rows before
-- are those once the keeper was opened.
abbrev pub FormatEnds : Setting → WorldValue → WorldValue → Ended → Type 0
FormatEnds setting before after Succeeded =
    PutsRows setting before.keeper.rows after.keeper.rows before.clock.answers after.clock.answers
    × HasAll before.out after.out (formatted_text setting)
FormatEnds setting before after OutFailed =
    PutsRows setting before.keeper.rows after.keeper.rows before.clock.answers after.clock.answers
    × IsCut before.out after.out (formatted_text setting)
FormatEnds setting before after ended =
    CannotPut before.keeper.rows before.clock after.clock ended
    × (after.keeper.rows ≡ before.keeper.rows) × (after.out ≡ before.out)

-- Format reads no line, and uses none of the devices for blocks. The keeper stays where it was
-- opened.
pub record Formats (setting : Setting) (before after : WorldValue) (ended : Ended) : Type 0 where
  pub ends : FormatEnds setting before after ended
  pub opened : after.keeper.opened ≡ before.keeper.opened
  pub source : after.source ≡ before.source
  pub blocks : after.blocks ≡ before.blocks
  pub journal : after.journal ≡ before.journal
