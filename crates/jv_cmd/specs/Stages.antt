-- What only inner contracts cite: of `promise/Stages`.
use Rattle.std.specs.Prelude.{◌≡◌, [], Option, None, Some}
use Rattle.std.specs.Option.{option_map}
use Rattle.jv_model.specs.declared.setting.Setting.{Setting}
use Rattle.jv_model.specs.promise.FiniteMap.{empty_map}
use Rattle.jv_outside.specs.promise.Holding.{Holding}
use Rattle.jv_volume.specs.promise.TreeOf.{no_setting}
use Rattle.jv_yard.specs.promise.YardValue.{YardValue}
use Rattle.jv_yard.specs.YardValue.{yard_value}
use Rattle.jv_client_shared.specs.Lengths.{IsLength}

-- a device that holds something, of which nothing is known
abbrev pub unseen : {M : Type 0} → Holding M
unseen = record { content = None; opened = None; faults = 0 }

-- the yard that a door has; one of which nothing is known while it is out
abbrev pub yard_at : Option YardValue → YardValue
yard_at None = yard_value unseen unseen no_setting (λ client. empty_map) 0 []
yard_at (Some yard) = yard

-- what a door has, seen by a function on yards
abbrev pub given_by : {T : Type 0} → Option T → (T → YardValue) → Option YardValue
given_by found see = option_map see found

-- a yard that was just started, for a volume of this setting
pub record IsFirst (setting : Setting) (yard : YardValue) : Type 0 where
  pub setting_is : yard.setting ≡ setting
  pub block : IsLength setting.block
  pub last_is : yard.last ≡ 0
