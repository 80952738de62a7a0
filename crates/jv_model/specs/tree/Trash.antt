-- What only inner contracts cite: of `promise/tree/Trash`.
use Rattle.std.specs.Prelude.{ℕ, ◌+◌, ◌*◌}
use Rattle.jv_model.specs.declared.lifetimes.TheConstants.{DAY}
use Rattle.jv_model.specs.declared.setting.Setting.{Setting}

-- when a slice may go that nothing names any more from a moment on: the volume's days later
abbrev pub due_after : ℕ → Setting → ℕ
due_after now setting = now + setting.trash_days * DAY
