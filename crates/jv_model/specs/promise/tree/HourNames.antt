-- The names of hours, `YYYY-MM-DD-HH` in UTC by the Gregorian calendar.
use Rattle.std.specs.Prelude.{ℕ, ◌+◌, ◌-◌, ◌*◌, ◌/◌, ◌%◌, nat_lt, if◌then◌else◌, List, [], ◌∷◌, ◌++◌}
use Rattle.jv_model.specs.declared.lifetimes.TheConstants.{HOUR, DAY}

-- The calendar repeats after 400 years. Here its years begin on the first of March, so that a leap
-- day ends its year, and its eras of 400 years on the first of March of a year that 400 divides.
abbrev pub era_days : ℕ
era_days = 146097

-- the days from the first of March of year 0 to the first of January 1970
abbrev pub days_before_1970 : ℕ
days_before_1970 = 719468

-- The year of a day in its era, both from 0. What is left once the leap days before are taken out
-- is 365 days a year: there is one more every 4 years (1,460 days and it), none after 100 (36,524
-- days), and one after 400.
abbrev pub year_in_era : ℕ → ℕ
year_in_era day = (day - day / 1460 + day / 36524 - day / 146096) / 365

-- the days of an era before one of its years
abbrev pub days_before_year : ℕ → ℕ
days_before_year year = 365 * year + year / 4 - year / 100

-- The month of a day in its year, 0 for March. Five months from March on have 153 days, and so have
-- the five from August.
abbrev pub month_in_year : ℕ → ℕ
month_in_year day = (5 * day + 2) / 153

-- the days of a year before one of its months
abbrev pub days_before_month : ℕ → ℕ
days_before_month month = (153 * month + 2) / 5

pub record Date : Type 0 where
  pub year : ℕ
  pub month : ℕ
  pub day : ℕ

-- a date by its era, its year in it, and its month and day in that year, all from 0
abbrev pub date_in_era : ℕ → ℕ → ℕ → ℕ → Date
date_in_era era year month day = record {
  year = 400 * era + year + (if nat_lt month 10 then 0 else 1);
  month = (if nat_lt month 10 then month + 3 else month - 9);
  day = day + 1;
}

abbrev date_by_year : ℕ → ℕ → ℕ → Date
date_by_year era year day =
    date_in_era era year (month_in_year day) (day - days_before_month (month_in_year day))

abbrev date_by_era : ℕ → ℕ → Date
date_by_era era day = date_by_year era (year_in_era day) (day - days_before_year (year_in_era day))

-- the date of a day, counted from 1970-01-01
abbrev pub date_of : ℕ → Date
date_of day =
    date_by_era ((day + days_before_1970) / era_days) ((day + days_before_1970) % era_days)

abbrev pub two_digits : ℕ → List ℕ
two_digits n = (48 + n / 10 % 10) ∷ (48 + n % 10) ∷ []

abbrev pub four_digits : ℕ → List ℕ
four_digits n = two_digits (n / 100) ++ two_digits n

abbrev pub date_text : Date → List ℕ
date_text date = four_digits date.year ++ 45 ∷ two_digits date.month ++ 45 ∷ two_digits date.day

-- the hour of a moment, counted from 1970-01-01-00
abbrev pub hour_at : ℕ → ℕ
hour_at moment = moment / HOUR

abbrev pub day_hours : ℕ
day_hours = DAY / HOUR

-- the name of an hour
unfoldable pub hour_name : ℕ → List ℕ
hour_name hour = date_text (date_of (hour / day_hours)) ++ 45 ∷ two_digits (hour % day_hours)
