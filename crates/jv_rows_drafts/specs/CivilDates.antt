-- Dates of the calendar's crate, as this project counts them.
use Rattle.std.specs.Prelude.{◌≡◌, ℕ, pos}
use Rattle.jiff_core.specs.declared.civil.date.Date.{Date}
use Rattle.jv_model.specs.promise.tree.HourNames.{date_of}

-- a date is that of a day, counted from 1970-01-01
pub record IsDateOf (date : Date) (day : ℕ) : Type 0 where
  pub year : date.year ≡ pos (date_of day).year
  pub month : date.month ≡ (date_of day).month
  pub day_is : date.day ≡ (date_of day).day
