-- Dates and times as texts (ISO 8601, in the forms of Apache Iceberg table spec v2, "JSON single-value serialization").
-- A year from 0000 to 9999 has four digits, any other one a sign before at least four (the expanded form). The calendar
-- is the proleptic Gregorian one, whose year 0 comes before year 1.
-- (43 is the plus, 45 the hyphen, 46 the point, 48 the digit 0, 58 the colon, 84 the letter T.)
use Rattle.std.specs.Prelude.{ℕ, suc, ◌+◌, ◌/◌, ◌%◌, nat_lt, List, [], ◌∷◌, ◌++◌, if◌then◌else◌, ℤ, pos, negsuc}
use Rattle.std.specs.Prelude.{◌+ℤ◌, ◌-ℤ◌, ◌*ℤ◌, unsigned_abs, unwrap_or}
use Rattle.std.specs.Fmt.{decimal}
use Rattle.std.specs.Int.{int_div_euclid, int_rem_euclid}
use Rattle.jiff_core.specs.Calendar.{days_from_civil}
use Rattle.ice_transform.specs.Years.{year_of, month_of}

abbrev pub two_digits : ℕ → List ℕ
two_digits n = (48 + n / 10) ∷ (48 + n % 10) ∷ []

abbrev pub four_digits : ℕ → List ℕ
four_digits n = two_digits (n / 100) ++ two_digits (n % 100)

-- four digits or more
abbrev pub year_digits : ℕ → List ℕ
year_digits n = if nat_lt n 10000 then four_digits n else decimal n

abbrev pub year_sign : ℤ → List ℕ
year_sign (pos n) = if nat_lt n 10000 then [] else 43 ∷ []
year_sign (negsuc n) = 45 ∷ []

abbrev pub year_text : ℤ → List ℕ
year_text year = year_sign year ++ year_digits (unsigned_abs year)

-- The calendar repeats after 400 years, which have 146,097 days: how often until a day, and the day that stands at its
-- place in the 400 years from 1970 on.
abbrev pub cycle_of : ℤ → ℤ
cycle_of day = int_div_euclid day (pos 146_097)

abbrev pub day_in_cycle : ℤ → ℤ
day_in_cycle day = int_rem_euclid day (pos 146_097)

-- the year of a day that the years -9999 to 9999 have
unfoldable pub near_year : ℤ → ℤ
near_year day = unwrap_or (year_of day) (pos 0) +ℤ pos 1970

-- the month of the year, from 1
unfoldable pub near_month : ℤ → ℕ
near_month day = suc (unsigned_abs (unwrap_or (month_of day) (pos 0)) % 12)

-- the day of the month, from 1
unfoldable pub near_day : ℤ → ℕ
near_day day = suc (unsigned_abs (day -ℤ days_from_civil (near_year day) (near_month day) 1))

-- a date: its year, its month and its day of the month
pub record CalendarDate : Type 0 where
  pub year : ℤ
  pub month : ℕ
  pub day : ℕ

-- the date of a day number, which counts from 1970-01-01
unfoldable pub date_of : ℤ → CalendarDate
date_of day = record {
  year = near_year (day_in_cycle day) +ℤ (cycle_of day *ℤ pos 400);
  month = near_month (day_in_cycle day);
  day = near_day (day_in_cycle day);
}

abbrev pub month_day_text : CalendarDate → List ℕ
month_day_text d = 45 ∷ (two_digits d.month ++ 45 ∷ two_digits d.day)

abbrev pub text_of_date : CalendarDate → List ℕ
text_of_date d = year_text d.year ++ month_day_text d

-- the text of a day number
abbrev pub date_text : ℤ → List ℕ
date_text day = text_of_date (date_of day)

-- the text of so many seconds of a day
abbrev pub seconds_text : ℕ → List ℕ
seconds_text n = two_digits (n / 3600) ++ 58 ∷ (two_digits (n / 60 % 60) ++ 58 ∷ two_digits (n % 60))

-- six digits
abbrev pub micros_text : ℕ → List ℕ
micros_text n = two_digits (n / 10000) ++ (two_digits (n / 100 % 100) ++ two_digits (n % 100))

-- the text of so many microseconds of a day
unfoldable pub time_text : ℕ → List ℕ
time_text n = seconds_text (n / 1_000_000) ++ 46 ∷ micros_text (n % 1_000_000)

-- so many microseconds from 1970-01-01 00:00 on: the day, and what is over
abbrev pub day_of_micros : ℤ → ℤ
day_of_micros n = int_div_euclid n (pos 86_400_000_000)

abbrev pub time_of_micros : ℤ → ℕ
time_of_micros n = unsigned_abs (int_rem_euclid n (pos 86_400_000_000))

-- the text of a moment, before its zone
abbrev pub timestamp_text : ℤ → List ℕ
timestamp_text n = date_text (day_of_micros n) ++ 84 ∷ time_text (time_of_micros n)
