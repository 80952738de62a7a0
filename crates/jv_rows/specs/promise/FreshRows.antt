-- The rows of a volume that was just formatted.
use Rattle.std.specs.Prelude.{ℕ, List, [], ◌∷◌}
use Rattle.jv_model.specs.declared.limits.TheConstants.{ROOT, TRASH_ROOT, FULL_MODE, READ_ONLY_MODE}
use Rattle.jv_model.specs.declared.setting.Setting.{Setting}
use Rattle.jv_model.specs.promise.rows.RowGrammar.{setting_bytes, counters_bytes, node_bytes}
use Rattle.jv_model.specs.promise.rows.RowPlaces.{setting_key, counters_key, node_key}
use Rattle.jv_volume.specs.promise.Fresh.{fresh_counters, fresh_directory}
use Rattle.jv_outside.specs.declared.batch.Change.{Change}
use Rattle.jv_outside.specs.declared.batch.Change.TheVariants.{Put}

-- the rows of a volume that is formatted at a moment: its setting, its counters, its root and its
-- trash
abbrev pub fresh_rows : Setting → ℕ → List Change
fresh_rows setting at =
    Put setting_key (setting_bytes setting)
    ∷ Put counters_key (counters_bytes fresh_counters)
    ∷ Put (node_key ROOT) (node_bytes (fresh_directory FULL_MODE at))
    ∷ Put (node_key TRASH_ROOT) (node_bytes (fresh_directory READ_ONLY_MODE at))
    ∷ []
