-- What only inner contracts cite: of `promise/FreshRows`.
use Rattle.std.specs.Prelude.{codes}
use Rattle.jv_model.specs.declared.tables.TheConstants.{ROWS_VERSION}
use Rattle.jv_model.specs.declared.options.TheConstants.{DEFAULT_TRASH_DAYS}
use Rattle.jv_model.specs.declared.limits.TheConstants.{DEFAULT_BLOCK}
use Rattle.jv_model.specs.declared.setting.Setting.{Setting}

-- a volume named `juicefs` over memory, with default options
abbrev pub default_setting : Setting
default_setting = record {
  version = ROWS_VERSION;
  block = DEFAULT_BLOCK;
  trash_days = DEFAULT_TRASH_DAYS;
  capacity = 0;
  inodes = 0;
  hash = 0;
  name = codes "juicefs";
  bucket = codes ":memory:";
}
