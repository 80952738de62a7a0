use Rattle.std.proofs.Common.{◌∙◌, arith, ◌<◌, ◌/◌}
use Rattle.jv_model.specs.promise.tree.HourNames.{hour_at, day_hours, date_of}
use Rattle.jv_rows_drafts.proofs.CivilDateLaws.{small_half, small_byte, month_small, day_small, year_small, hour_text}
use Rattle.jv_rows_drafts.proofs.hours.hour_name.Goals as goal

pub returns : goal.returns
returns c =
    let clock = c.clock_at-clock.result in
    let hour = hour_at c.args.at in
    let is = c.clock_at-clock.ensures.date in
    let low : clock.time.hour < 128 = (let small = clock.time.hour_in in omega arith) in
    let year = small_half c.year-year.result (date_of (hour / day_hours)).year (c.year-year.ensures ∙ is.year)
    (year_small clock.date (date_of (hour / day_hours)).year is.year) in
    let month = small_byte c.month.result clock.date.month c.month.ensures (month_small clock.date) ∙ is.month in
    let day = small_byte c.day.result clock.date.day c.day.ensures (day_small clock.date) ∙ is.day_is in
    let rest = small_byte c.hour.result clock.time.hour c.hour.ensures low ∙ c.clock_at-clock.ensures.hour in
    rw (
      c.two_digits.ensures,
      c.two_digits-2.ensures,
      c.two_digits-month.ensures,
      c.two_digits-day.ensures,
      c.two_digits-hour.ensures,
    )
    (hour_text hour _ _ _ _ year month day rest)
