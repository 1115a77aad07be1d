-- Years and months as intervals of day numbers (Apache Iceberg table spec v2, "Partition Transforms": years and months
-- from 1970-01-01; the calendar is that of ISO 8601, for the years -9999 to 9999).
use Rattle.std.specs.Prelude.{◌≡◌, ℕ, zero, suc, Bool, ◌&&◌, Option, None, Some, if◌then◌else◌, ℤ, pos, ◌+ℤ◌, ◌-ℤ◌}
use Rattle.std.specs.Prelude.{◌*ℤ◌, ◌≤ℤ◌, ◌<ℤ◌}
use Rattle.std.specs.Int.{IsInRange}
use Rattle.std.specs.Option.{option_map, option_and_then}
use Rattle.std.specs.Ordering.{is_le, is_lt, int_cmp}
use Rattle.jiff_core.specs.Calendar.{days_from_civil, days_in_year, days_in_month, IsYear}

-- the day lies in this year
pub record IsInYear (day y : ℤ) : Type 0 where
  pub known : IsYear y
  pub begun : days_from_civil y 1 1 ≤ℤ day
  pub not_over : day <ℤ (days_from_civil y 1 1 +ℤ pos (days_in_year y))

-- the day lies in this month of the year
pub record IsInMonth (day y : ℤ) (m : ℕ) : Type 0 where
  pub known : IsYear y
  pub month : IsInRange 1 12 m
  pub begun : days_from_civil y m 1 ≤ℤ day
  pub not_over : day <ℤ (days_from_civil y m 1 +ℤ pos (days_in_month y m))

-- the day lies in the year p years after 1970
abbrev pub IsYearUnit : ℤ → ℤ → Type 0
IsYearUnit day p = IsInYear day (p +ℤ pos 1970)

-- the day lies in the month p months after January 1970: p + 23641 is 12 times its year and its month
abbrev pub IsMonthUnit : ℤ → ℤ → Type 0
IsMonthUnit day p =
    (y : ℤ) × (m : ℕ) × IsInMonth day y m × ((p +ℤ pos 23641) ≡ ((y *ℤ pos 12) +ℤ pos m))

-- the day is one of n days from the first on
abbrev pub is_among : ℤ → ℤ → ℕ → Bool
is_among day first n = is_le (int_cmp first day) && is_lt (int_cmp day (first +ℤ pos n))

-- of the first n years from -9999 on, the one in which the day lies
unfoldable pub year_in : ℕ → ℤ → Option ℤ
year_in zero day = None
year_in (suc n) day =
    let y = pos n -ℤ pos 9999 in
    if is_among day (days_from_civil y 1 1) (days_in_year y) then Some y else year_in n day

-- of the first n months of the year, the one in which the day lies
unfoldable pub month_in : ℕ → ℤ → ℤ → Option ℕ
month_in zero y day = None
month_in (suc n) y day =
    if is_among day (days_from_civil y (suc n) 1) (days_in_month y (suc n)) then Some (suc n) else month_in n y day

-- years from 1970 to the day's
abbrev pub year_of : ℤ → Option ℤ
year_of day = option_map (λ (y : ℤ). y -ℤ pos 1970) (year_in 19999 day)

-- months from January 1970 to month m of year y
abbrev pub months_to : ℤ → ℕ → ℤ
months_to y m = ((y *ℤ pos 12) +ℤ pos m) -ℤ pos 23641

-- months from January 1970 to the day's
abbrev pub month_of : ℤ → Option ℤ
month_of day = option_and_then (λ (y : ℤ). option_map (months_to y) (month_in 12 y day)) (year_in 19999 day)
