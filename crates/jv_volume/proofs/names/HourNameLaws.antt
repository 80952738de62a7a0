-- No two hours of the clock have one name, and no two of their directories.
use Rattle.std.proofs.Common.{◌≡◌, ◌≢◌, ℕ, ◌+◌, ◌-◌, ◌*◌, ◌/◌, ◌%◌, ◌≤◌, ◌<◌, false, ◌⊎◌, inl, inr, List, get_or, refl, sym, ap, subst, ◌∙◌, arith}
use Rattle.std.specs.Prelude.{IsTrue, nat_lt, nat_le}
use Rattle.std.proofs.lemmas.Bool.{cases_lt, cases_eq, cond-true, cond-false, lt-ltb, le-ltb, le-leb, ltb-true, leb-true, and_parts, and_from, or_from, ne_eqb}
use Rattle.jv_model.specs.declared.limits.TheConstants.{LAST_MOMENT, ROOT, TRASH_ROOT}
use Rattle.jv_model.specs.declared.lifetimes.TheConstants.{FIRST_HOUR}
use Rattle.jv_model.specs.promise.tree.HourNames.{year_in_era, days_before_year, month_in_year, days_before_month, date_in_era, date_of, era_days, days_before_1970, day_hours, hour_name, hour_at}
use Rattle.jv_model.specs.promise.tree.Trash.{hour_inode, hour_of}
use Rattle.jv_volume.specs.promise.Shape.{is_hour, is_top}

-- A year of an era has at most 366 days, and a month begins on a day of its year.

pub year_begins : (day : ℕ) → day < era_days → days_before_year (year_in_era day) ≤ day
year_begins day less = omega arith

year_ends : (day : ℕ) → day < era_days → day ≤ days_before_year (year_in_era day) + 365
year_ends day less = omega arith

pub year_few : (day : ℕ) → day < era_days → year_in_era day ≤ 399
year_few day less = omega arith

pub month_begins : (day : ℕ) → days_before_month (month_in_year day) ≤ day
month_begins day = omega arith

month_ends : (day : ℕ) → day - days_before_month (month_in_year day) ≤ 30
month_ends day = omega arith

month_few : (day : ℕ) → day ≤ 365 → month_in_year day ≤ 11
month_few day less = omega arith

-- a date by its parts

record SameDate (era year month day era' year' month' day' : ℕ) : Type 0 where
  era_is : era ≡ era'
  year_is : year ≡ year'
  month_is : month ≡ month'
  day_is : day ≡ day'

month_early : (era year month day : ℕ) → month < 10
    → ((date_in_era era year month day).month ≡ month + 3) × ((date_in_era era year month day).year ≡ 400 * era + year + 0)
month_early era year month day early = (cond-true _ _ _ (lt-ltb month 10 early), ap (λ n. 400 * era + year + n) (cond-true _ 0 1 (lt-ltb month 10 early)))

month_late : (era year month day : ℕ) → 10 ≤ month
    → ((date_in_era era year month day).month ≡ month - 9) × ((date_in_era era year month day).year ≡ 400 * era + year + 1)
month_late era year month day late = (cond-false _ _ _ (le-ltb month 10 late), ap (λ n. 400 * era + year + n) (cond-false _ 0 1 (le-ltb month 10 late)))

same_parts : (era year month day era' year' month' day' y m y' m' : ℕ) → month ≤ 11 → month' ≤ 11 → year ≤ 399 → year' ≤ 399
    → ((month < 10) × (m ≡ month + 3) × (y ≡ 400 * era + year + 0)) ⊎ ((10 ≤ month) × (m ≡ month - 9) × (y ≡ 400 * era + year + 1))
    → ((month' < 10) × (m' ≡ month' + 3) × (y' ≡ 400 * era' + year' + 0)) ⊎ ((10 ≤ month') × (m' ≡ month' - 9) × (y' ≡ 400 * era' + year' + 1))
    → y ≡ y' → m ≡ m' → day + 1 ≡ day' + 1 → SameDate era year month day era' year' month' day'
same_parts era year month day era' year' month' day' y m y' m' few few' low low' own other same_y same_m same_d =
    record { era_is = omega arith; year_is = omega arith; month_is = omega arith; day_is = omega arith }

by_month : (era year month day : ℕ)
    → ((month < 10) × ((date_in_era era year month day).month ≡ month + 3) × ((date_in_era era year month day).year ≡ 400 * era + year + 0))
    ⊎ ((10 ≤ month) × ((date_in_era era year month day).month ≡ month - 9) × ((date_in_era era year month day).year ≡ 400 * era + year + 1))
by_month era year month day = elim (cases_lt month 10) [
  | inl early ↦ let p = month_early era year month day early in inl (early, p.0, p.1)
  | inr late ↦ let p = month_late era year month day late in inr (late, p.0, p.1)
]

same_date : (era year month day era' year' month' day' : ℕ) → month ≤ 11 → month' ≤ 11 → year ≤ 399 → year' ≤ 399
    → (date_in_era era year month day).year ≡ (date_in_era era' year' month' day').year
    → (date_in_era era year month day).month ≡ (date_in_era era' year' month' day').month
    → day + 1 ≡ day' + 1 → SameDate era year month day era' year' month' day'
same_date era year month day era' year' month' day' few few' low low' same_y same_m same_d =
    same_parts era year month day era' year' month' day' _ _ _ _ few few' low low' (by_month era year month day)
    (by_month era' year' month' day') same_y same_m same_d

-- the parts of a day
abbrev pub era_of : ℕ → ℕ
era_of day = (day + days_before_1970) / era_days

abbrev pub in_era : ℕ → ℕ
in_era day = (day + days_before_1970) % era_days

abbrev pub in_year : ℕ → ℕ
in_year day = in_era day - days_before_year (year_in_era (in_era day))

abbrev in_month : ℕ → ℕ
in_month day = in_year day - days_before_month (month_in_year (in_year day))

pub in_era_few : (day : ℕ) → in_era day < era_days
in_era_few day = omega arith

in_year_few : (day : ℕ) → in_year day ≤ 365
in_year_few day = omega (arith, year_ends (in_era day) (in_era_few day))

-- days that have one date are one
date_injective : (day other : ℕ) → (date_of day).year ≡ (date_of other).year → (date_of day).month ≡ (date_of other).month
    → (date_of day).day ≡ (date_of other).day → day ≡ other
date_injective day other y m d =
    let same = same_date (era_of day) (year_in_era (in_era day)) (month_in_year (in_year day)) (in_month day) (era_of other) (year_in_era (in_era other))
    (month_in_year (in_year other)) (in_month other)
    (month_few (in_year day) (in_year_few day)) (month_few (in_year other) (in_year_few other)) (year_few (in_era day) (in_era_few day))
    (year_few (in_era other) (in_era_few other)) y m d in
    let years : days_before_year (year_in_era (in_era day)) ≡ days_before_year (year_in_era (in_era other)) = ap days_before_year same.year_is in
    let months : days_before_month (month_in_year (in_year day)) ≡ days_before_month (month_in_year (in_year other)) = ap days_before_month same.month_is in
    let whole_year : in_year day ≡ in_year other = sum_parts _ _ _ _ months same.day_is (month_begins (in_year day)) (month_begins (in_year other)) in
    let whole_era : in_era day ≡ in_era other = sum_parts _ _ _ _ years whole_year (year_begins (in_era day) (in_era_few day))
    (year_begins (in_era other) (in_era_few other)) in
    omega (arith, divided (day + days_before_1970) (other + days_before_1970) same.era_is whole_era)
  where
    sum_parts : (a b p q : ℕ) → p ≡ q → a - p ≡ b - q → p ≤ a → q ≤ b → a ≡ b
    sum_parts a b p q same rest l k = omega arith

    divided : (a b : ℕ) → a / era_days ≡ b / era_days → a % era_days ≡ b % era_days → a ≡ b
    divided a b e f = omega arith

-- digits

two_injective : (m n : ℕ) → m < 100 → n < 100 → 48 + m / 10 % 10 ≡ 48 + n / 10 % 10 → 48 + m % 10 ≡ 48 + n % 10 → m ≡ n
two_injective m n low low' tens ones = omega arith

four_injective : (m n : ℕ) → m < 10000 → n < 10000 → 48 + m / 100 / 10 % 10 ≡ 48 + n / 100 / 10 % 10 → 48 + m / 100 % 10 ≡ 48 + n / 100 % 10
    → 48 + m / 10 % 10 ≡ 48 + n / 10 % 10 → 48 + m % 10 ≡ 48 + n % 10 → m ≡ n
four_injective m n low low' thousands hundreds tens ones = omega arith

hours_divided : (a b : ℕ) → a / day_hours ≡ b / day_hours → a % day_hours ≡ b % day_hours → a ≡ b
hours_divided a b e f = omega arith

-- the hours of the clock
abbrev pub last_hour : ℕ
last_hour = hour_at LAST_MOMENT

day_low : (hour : ℕ) → hour ≤ last_hour → hour / day_hours ≤ 1590729
day_low hour h = omega arith

date_low : (day : ℕ) → day ≤ 1590729 → ((date_of day).year < 10000) × ((date_of day).month < 100) × ((date_of day).day < 100)
date_low day low =
    let era : era_of day ≤ 15 = omega arith in
    let year = year_few (in_era day) (in_era_few day) in
    let month = month_few (in_year day) (in_year_few day) in
    let rest : in_month day ≤ 30 = month_ends (in_year day) in
    elim (by_month (era_of day) (year_in_era (in_era day)) (month_in_year (in_year day)) (in_month day)) [
      | inl early ↦ (omega (arith, early.2, era, year), omega (arith, early.1, early.0), omega (arith, rest))
      | inr late ↦ (omega (arith, late.2, era, year), omega (arith, late.1, month), omega (arith, rest))
    ]

digit : ℕ → List ℕ → ℕ
digit k text = get_or text k 0

-- two hours of the clock that have one name are one
pub hour_name_injective : (hour other : ℕ) → hour ≤ last_hour → other ≤ last_hour → hour_name hour ≡ hour_name other → hour ≡ other
unfolding hour_name digit
hour_name_injective hour other low low' same =
    let own = date_low (hour / day_hours) (day_low hour low) in
    let its = date_low (other / day_hours) (day_low other low') in
    let year = four_injective _ _ own.0 its.0 (ap (digit 0) same) (ap (digit 1) same) (ap (digit 2) same) (ap (digit 3) same) in
    let month = two_injective _ _ own.1 its.1 (ap (digit 5) same) (ap (digit 6) same) in
    let day = two_injective _ _ own.2 its.2 (ap (digit 8) same) (ap (digit 9) same) in
    let days : hour / day_hours ≡ other / day_hours = date_injective _ _ year month day in
    let rest : hour % day_hours ≡ other % day_hours = two_injective _ _ (omega arith) (omega arith) (ap (digit 11) same) (ap (digit 12) same) in
    hours_divided hour other days rest

-- the directories of hours

later_inode : (hour : ℕ) → hour ≢ 0 → hour_inode hour ≡ TRASH_ROOT + hour
later_inode hour apart = cond-false _ _ _ (ne_eqb hour 0 apart)

hour_between : (inode : ℕ) → TRASH_ROOT < inode → inode ≤ FIRST_HOUR → IsTrue (is_hour inode)
hour_between inode more less = and_from _ _ (lt-ltb TRASH_ROOT inode more) (le-leb inode FIRST_HOUR less)

-- the directory of an hour of the clock
pub is_hour-hour_inode : (hour : ℕ) → hour ≤ last_hour → IsTrue (is_hour (hour_inode hour))
is_hour-hour_inode hour low = elim (cases_eq hour 0) [
  | inl e ↦ ap (λ h. is_hour (hour_inode h)) e
  | inr apart ↦ ap is_hour (later_inode hour apart) ∙ hour_between (TRASH_ROOT + hour) (omega arith) (omega arith)
]

-- and its hour
pub hour_of-hour_inode : (hour : ℕ) → hour ≤ last_hour → hour_of (hour_inode hour) ≡ hour
hour_of-hour_inode hour low = elim (cases_eq hour 0) [
  | inl e ↦ ap (λ h. hour_of (hour_inode h)) e ∙ sym e
  | inr apart ↦
      let later : hour_of (TRASH_ROOT + hour) ≡ TRASH_ROOT + hour - TRASH_ROOT = cond-false _ _ _
      (ne_eqb (TRASH_ROOT + hour) FIRST_HOUR (λ e. omega arith)) in
      ap hour_of (later_inode hour apart) ∙ later ∙ omega arith
]

record IsHour (inode : ℕ) : Type 0 where
  low : hour_of inode ≤ last_hour
  is : hour_inode (hour_of inode) ≡ inode

-- each directory of an hour is the one of its hour, which the clock has
hour_inode-hour_of : (inode : ℕ) → IsTrue (is_hour inode) → IsHour inode
hour_inode-hour_of inode h = elim (cases_eq inode FIRST_HOUR) [
  | inl e ↦ subst IsHour (sym e) (record { low = omega arith; is = refl })
  | inr apart ↦
      let more : TRASH_ROOT < inode = ltb-true TRASH_ROOT inode (and_parts (nat_lt TRASH_ROOT inode) (nat_le inode FIRST_HOUR) h).0 in
      let less : inode ≤ FIRST_HOUR = leb-true inode FIRST_HOUR (and_parts (nat_lt TRASH_ROOT inode) (nat_le inode FIRST_HOUR) h).1 in
      let hour : hour_of inode ≡ inode - TRASH_ROOT = cond-false _ _ _ (ne_eqb inode FIRST_HOUR apart) in
      record {
        low = omega (arith, hour);
        is = cond-false _ _ _ (ne_eqb (hour_of inode) 0 (λ e. omega (arith, hour))) ∙ omega (arith, hour);
      }
]

-- directories of hours under one name are one
pub hour_by_name : (inode hour : ℕ) → IsTrue (is_hour inode) → hour ≤ last_hour → hour_name hour ≡ hour_name (hour_of inode) → inode ≡ hour_inode hour
hour_by_name inode hour h low same =
    let own = hour_inode-hour_of inode h in
    sym own.is ∙ ap hour_inode (sym (hour_name_injective hour (hour_of inode) low own.low same))

-- the inodes of hours follow the trash's own
pub hour_after_trash : (inode : ℕ) → IsTrue (is_hour inode) → TRASH_ROOT < inode
hour_after_trash inode h = ltb-true TRASH_ROOT inode (and_parts (nat_lt TRASH_ROOT inode) (nat_le inode FIRST_HOUR) h).0

-- so an hour's directory is neither the root nor the trash
pub hour_is_deep : (inode : ℕ) → IsTrue (is_hour inode) → is_top inode ≡ false
hour_is_deep inode h =
    let more = hour_after_trash inode h in
    or_from _ _ (ne_eqb inode ROOT (λ e. omega arith)) (ne_eqb inode TRASH_ROOT (λ e. omega arith))
