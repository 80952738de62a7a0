-- The date of a day by this project's arithmetic is that of the calendar.
use Rattle.std.proofs.Common.{◌≡◌, ℕ, suc, ◌+◌, ◌-◌, ◌*◌, ◌/◌, ◌%◌, ◌≤◌, ◌<◌, inl, inr, sym, ap, subst, ◌∙◌, arith, ℤ, pos, ◌+ℤ◌, ◌*ℤ◌, unsigned_abs, to_z, of_z, w8, w16, ◌++◌, ◌∷◌}
use Rattle.std.proofs.lemmas.Bool.{cases_lt, cond-true, cond-false, lt-ltb, le-ltb}
use Rattle.jiff_core.specs.declared.civil.date.Date.{Date as CivilDate}
use Rattle.jiff_core.specs.declared.civil.datetime.DateTime.{DateTime}
use Rattle.jiff_core.specs.Calendar.{day_count, days_from_civil, days_in_month, IsCivilDate}
use Rattle.jiff_core.specs.Date.{epoch_day}
use Rattle.jiff_core.specs.DateTime.{civil_nanos}
use Rattle.jiff_core.specs.Timestamp.{nanos_of_seconds}
use Rattle.jiff_core.specs.March.{march_days, march_months}
use Rattle.jiff_core.proofs.SignedLemmas.{signed_arith, back_small}
use Rattle.jiff_core.proofs.MarchLemmas.{leap_day, leap_day-shift, march_days-suc, day_count-late, day_count-early, day_in_month, day_in_early_month}
use Rattle.jiff_core.proofs.CalendarLemmas.{days_from_civil-day_count, days_in_month_bounds}
use Rattle.jiff_core.proofs.DateLemmas.{epoch_day_injective}
use Rattle.jiff_core.proofs.DateTimeLemmas.{civil_nanos-parts, time_nanos_bound}
use Rattle.jv_model.specs.declared.limits.TheConstants.{LAST_MOMENT}
use Rattle.jv_model.specs.declared.lifetimes.TheConstants.{HOUR}
use Rattle.jv_rows_drafts.specs.CivilDates.{IsDateOf}
use Rattle.jv_model.specs.promise.tree.HourNames.{day_hours, hour_at, hour_name, date_text, two_digits, year_in_era, days_before_year, month_in_year, days_before_month, date_of, era_days, days_before_1970}
use Rattle.jv_volume.proofs.names.HourNameLaws.{year_begins, year_few, month_begins, era_of, in_era, in_year, in_era_few}

-- A day of an era: its year, and its day in that year, which is within the year from March on to the end of February.

year_ends : (day : ℕ) → day < era_days
    → day < 365 * (year_in_era day + 1) + (year_in_era day + 1) / 4 - (year_in_era day + 1) / 100 +
    (year_in_era day + 1) / 400
year_ends day less = omega arith

-- days before a year that begins in March, counted from the year -10000
era_years : (era year : ℕ) → year ≤ 399
    → march_days (10000 + 400 * era + year) ≡ march_days 10000 + era_days * era + days_before_year year
era_years era year few = omega arith

era_years_next : (era year : ℕ) → year ≤ 399
    → march_days (suc (10000 + 400 * era + year))
    ≡ march_days 10000 + era_days * era + (365 * (year + 1) + (year + 1) / 4 - (year + 1) / 100 + (year + 1) / 400)
era_years_next era year few = omega arith

-- a day of a year, as a month and a day of the month
month_early : (day : ℕ) → month_in_year day < 10 → (5 * day + 461) / 153 ≡ month_in_year day + 3
month_early day early = omega arith

month_parts : (day : ℕ) → (5 * day + 461) % 153 / 5 ≡ day - days_before_month (month_in_year day)
month_parts day = omega arith

month_from_march : (day : ℕ) → (5 * day + 461) / 153 ≡ month_in_year day + 3
month_from_march day = omega arith

months_before : (month : ℕ) → march_months (month + 3) ≡ days_before_month month
months_before month = omega arith

day_parts : (day : ℕ) → day + days_before_1970 ≡ era_days * era_of day + in_era day
day_parts day = omega arith

-- the number of a year from March on, counted from the year -10000
abbrev march_year : ℕ → ℕ
march_year day = 10000 + 400 * era_of day + year_in_era (in_era day)

-- a day lies in its year
year_holds : (day : ℕ) → march_days (march_year day) + in_year day ≡ march_days 10000 + days_before_1970 + day
year_holds day =
    let few = year_few (in_era day) (in_era_few day) in
    omega (
      arith,
      era_years (era_of day) (year_in_era (in_era day)) few,
      day_parts day,
      year_begins (in_era day)
          (in_era_few day),
    )

year_within : (day : ℕ) → in_year day < 365 + leap_day (pos (suc (march_year day)))
year_within day =
    let few = year_few (in_era day) (in_era_few day) in
    omega (
      arith,
      era_years (era_of day) (year_in_era (in_era day)) few,
      era_years_next (era_of day) (year_in_era (in_era day)) few,
      march_days-suc (march_year day),
      year_begins (in_era day) (in_era_few day),
      year_ends (in_era day) (in_era_few day),
    )

-- what a date of the calendar has to be for a day
record IsCivilOf (day y m d : ℕ) : Type 0 where
  civil : IsCivilDate (pos y) m d
  count : day_count (pos y) m d ≡ day + 4371953

abbrev last_day : ℕ
last_day = LAST_MOMENT / HOUR / day_hours

abbrev day_of_month : ℕ → ℕ
day_of_month day = in_year day - days_before_month (month_in_year (in_year day)) + 1

month_has : (y : ℤ) (year_day m : ℕ) → m ≡ month_in_year year_day + 3 → m ≤ 12
    → year_day - days_before_month (month_in_year year_day) + 1 ≤ days_in_month y m
month_has y year_day m is low =
    let same : (5 * year_day + 461) / 153 ≡ m = omega (arith, month_from_march year_day) in
    let has = subst (λ k. (5 * year_day + 461) % 153 / 5 + 1 ≤ days_in_month y k) same
    (day_in_month y year_day (omega arith)) in
    omega (arith, has, month_parts year_day)

early_month_has : (y : ℤ) (year_day m : ℕ) → m + 12 ≡ month_in_year year_day + 3 → 1 ≤ m → year_day < 365 + leap_day y
    → year_day - days_before_month (month_in_year year_day) + 1 ≤ days_in_month y m
early_month_has y year_day m is some within =
    let same : (5 * year_day + 461) / 153 - 12 ≡ m = omega (arith, month_from_march year_day) in
    let late : 12 < (5 * year_day + 461) / 153 = omega (arith, month_from_march year_day) in
    let has = subst (λ k. (5 * year_day + 461) % 153 / 5 + 1 ≤ days_in_month y k) same
    (day_in_early_month y year_day late within) in
    omega (arith, has, month_parts year_day)

year_low : (day : ℕ) → day ≤ last_day → 400 * era_of day + year_in_era (in_era day) ≤ 9000
year_low day low = let few = year_few (in_era day) (in_era_few day) in let era : era_of day ≤ 15 = omega arith in
    omega arith

month_few : (day : ℕ) → month_in_year (in_year day) ≤ 11
month_few day =
    let few : in_year day ≤ 365 = (let within = year_within day in
    let leap : leap_day (pos (suc (march_year day))) ≤ 1 = grind arith in omega arith) in
    omega arith

-- a day from March to December
civil_early : (day y m : ℕ) → day ≤ last_day → month_in_year (in_year day) < 10
    → y ≡ 400 * era_of day + year_in_era (in_era day)
    → m ≡ month_in_year (in_year day) + 3 → IsCivilOf day y m (day_of_month day)
civil_early day y m low early y_is m_is =
    let year = year_low day low in
    let from : pos y +ℤ pos 10000 ≡ pos (march_year day) = omega (arith, signed_arith) in
    let counted = day_count-late (pos y) (march_year day) m (day_of_month day) from (omega arith) (omega arith)
    (omega arith) in
    let months : march_months m ≡ days_before_month (month_in_year (in_year day)) = ap march_months m_is
    ∙ months_before (month_in_year (in_year day)) in
    record {
      civil = (
        (omega (arith, signed_arith), omega (arith, signed_arith)),
        (omega arith, omega arith),
        (
          omega arith,
          month_has (pos y) (in_year day) m m_is (omega arith),
        ),
      );
      count = omega (arith, counted, months, year_holds day, month_begins (in_year day));
    }

-- one in January or February
civil_late : (day y m : ℕ) → day ≤ last_day → 10 ≤ month_in_year (in_year day)
    → y ≡ 400 * era_of day + year_in_era (in_era day) + 1
    → m + 12 ≡ month_in_year (in_year day) + 3 → IsCivilOf day y m (day_of_month day)
civil_late day y m low late y_is m_is =
    let year = year_low day low in
    let few = month_few day in
    let from : pos y +ℤ pos 10000 ≡ pos (suc (march_year day)) = omega (arith, signed_arith) in
    let counted = day_count-early (pos y) (march_year day) m (day_of_month day) from (omega arith) (omega arith)
    (omega arith) in
    let months : march_months (m + 12) ≡ days_before_month (month_in_year (in_year day)) = ap march_months m_is
    ∙ months_before (month_in_year (in_year day)) in
    let within : in_year day < 365 + leap_day (pos y) =
    omega (arith, year_within day, leap_day-shift (pos y) (suc (march_year day)) from) in
    record {
      civil = (
        (omega (arith, signed_arith), omega (arith, signed_arith)),
        (omega arith, omega arith),
        (
          omega arith,
          early_month_has (pos y) (in_year day) m m_is (omega arith) within,
        ),
      );
      count = omega (arith, counted, months, year_holds day, month_begins (in_year day));
    }

civil_of : (day : ℕ) → day ≤ last_day → IsCivilOf day (date_of day).year (date_of day).month (date_of day).day
civil_of day low = elim (cases_lt (month_in_year (in_year day)) 10) [
  | inl early ↦ civil_early day (date_of day).year (date_of day).month low early
      (ap (λ n. 400 * era_of day + year_in_era (in_era day) + n)
      (cond-true _ 0 1 (lt-ltb (month_in_year (in_year day)) 10 early)) ∙ omega arith)
      (cond-true _ _ _ (lt-ltb (month_in_year (in_year day)) 10 early))
  | inr late ↦ civil_late day (date_of day).year (date_of day).month low late
      (ap (λ n. 400 * era_of day + year_in_era (in_era day) + n)
      (cond-false _ 0 1 (le-ltb (month_in_year (in_year day)) 10 late)))
      (ap (λ n. n + 12) (cond-false _ _ _ (le-ltb (month_in_year (in_year day)) 10 late)) ∙ omega arith)
]

numbered : (y : ℤ) (m d day : ℕ) → day_count y m d ≡ day + 4371953 → days_from_civil y m d ≡ pos day
numbered y m d day count = omega (arith, signed_arith, days_from_civil-day_count y m d)

-- the date of the calendar that has a day's number is the day's
pub is_date_of : (date : CivilDate) (day : ℕ) → day ≤ LAST_MOMENT / HOUR / day_hours → epoch_day date ≡ pos day
    → IsDateOf date day
is_date_of date day low is =
    let own = civil_of day low in
    let y = (date_of day).year in
    let m = (date_of day).month in
    let d = (date_of day).day in
    let model : CivilDate = record {
      year = pos y;
      month = m;
      day = d;
      year_in = own.civil.0;
      month_in =
          own.civil.1;
      day_in = own.civil.2;
    } in
    let same = epoch_day_injective date model (is ∙ sym (numbered (pos y) m d day own.count)) in
    record { year = same.0; month = same.1; day_is = same.2 }

-- what a clock in UTC shows at a moment: the day, and the hour
pub day_shown : (clock : DateTime) (moment : ℕ)
    → civil_nanos clock ≡ pos moment *ℤ pos 1_000_000_000 +ℤ nanos_of_seconds (pos 0)
    → epoch_day clock.date ≡ pos (hour_at moment / day_hours)
day_shown clock moment is = omega (arith, signed_arith, civil_nanos-parts clock, time_nanos_bound clock.time)

pub hour_shown : (clock : DateTime) (moment : ℕ)
    → civil_nanos clock ≡ pos moment *ℤ pos 1_000_000_000 +ℤ nanos_of_seconds (pos 0)
    → clock.time.hour ≡ hour_at moment % day_hours
hour_shown clock moment is =
    let minutes = clock.time.minute_in in
    let seconds = clock.time.second_in in
    let rest = clock.time.subsec_in in
    let hours = clock.time.hour_in in
    omega (arith, signed_arith, civil_nanos-parts clock, time_nanos_bound clock.time)

-- ---- the text of an hour

-- signed numbers that are small are what they count, as unsigned ones too
pub small_half : (z : ℤ) (n : ℕ) → z ≡ pos n → n < 32768 → unsigned_abs (to_z w16 (of_z w16 z)) ≡ n
small_half z n is low = ap (λ (y : ℤ). unsigned_abs (to_z w16 (of_z w16 y))) is
    ∙ ap unsigned_abs (back_small w16 (pos n) (omega arith))

pub small_byte : (z : ℤ) (n : ℕ) → z ≡ pos n → n < 128 → unsigned_abs (to_z w8 (of_z w8 z)) ≡ n
small_byte z n is low = ap (λ (y : ℤ). unsigned_abs (to_z w8 (of_z w8 y))) is
    ∙ ap unsigned_abs (back_small w8 (pos n) (omega arith))

pub hour_text : (hour year month day rest : ℕ) → year ≡ (date_of (hour / day_hours)).year
    → month ≡ (date_of (hour / day_hours)).month
    → day ≡ (date_of (hour / day_hours)).day → rest ≡ hour % day_hours
    → date_text (record { year = year; month = month; day = day }) ++ 45 ∷ two_digits rest ≡ hour_name hour
unfolding hour_name
hour_text hour year month day rest y m d r =
    λ i. date_text (record { year = y i; month = m i; day = d i }) ++ 45 ∷ two_digits (r i)

-- a clock's numbers are small
pub month_small : (date : CivilDate) → date.month < 128
month_small date = let low = date.month_in.1 in omega arith

pub day_small : (date : CivilDate) → date.day < 128
day_small date = let low = date.day_in.1 in omega (arith, low, (days_in_month_bounds date.year date.month).0)

pub year_small : (date : CivilDate) (year : ℕ) → date.year ≡ pos year → year < 32768
year_small date year is = let low = date.year_in.1 in omega (arith, signed_arith, low, is)
