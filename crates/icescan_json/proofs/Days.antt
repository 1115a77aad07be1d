-- The date of a day in the 400 years from 1970 on.
use Rattle.std.proofs.Common.{◌≡◌, ℕ, suc, ◌+◌, ◌-◌, ◌*◌, ◌%◌, ◌≤◌, ℤ, pos, negsuc, ◌+ℤ◌, ◌-ℤ◌, ◌*ℤ◌, ◌≤ℤ◌}
use Rattle.std.proofs.Common.{Some, arith, sym}
use Rattle.std.specs.Prelude.{unsigned_abs}
use Rattle.std.proofs.lemmas.Int.{ints}
use Rattle.jiff_core.specs.Calendar.{days_from_civil}
use Rattle.jiff_core.specs.Date.{epoch_day}
use Rattle.jiff_core.specs.declared.civil.date.Date.{Date}
use Rattle.jiff_core.proofs.DateLemmas.{days_from_civil-day}
use Rattle.jiff_core.proofs.SignedLemmas.{signed_arith}
use Rattle.ice_transform.specs.Years.{IsYearUnit, year_of, month_of}
use Rattle.ice_transform.proofs.Days.{year_of_date, month_of_date, year_of_means, year_units}
use Rattle.icescan_json.specs.Dates.{near_year, near_month, near_day}

-- day 0 begins 1970
first_begins : days_from_civil (pos 1970) 1 1 ≡ pos 0
unfolding days_from_civil
first_begins = omega (arith, signed_arith)

first_year : IsYearUnit (pos 0) (pos 0)
first_year = record {
  known = omega (arith, signed_arith);
  begun = omega (arith, signed_arith, first_begins);
  not_over = omega (arith, signed_arith, first_begins);
}

years : (d : Date) (day : ℤ) → epoch_day d ≡ day → Some (d.year -ℤ pos 1970) ≡ year_of day
years d day e = year_of_date d day (d.year -ℤ pos 1970) e (omega (arith, ints))

pub near_year_is : (d : Date) (day : ℤ) → epoch_day d ≡ day → d.year ≡ near_year day
unfolding near_year
near_year_is d day e = rw (← years d day e) (omega (arith, ints))

not_before : (d : Date) (day : ℤ) → epoch_day d ≡ day → pos 0 ≤ℤ day → pos 0 ≤ℤ (d.year -ℤ pos 1970)
not_before d day e low = year_units (pos 0) day (pos 0) (d.year -ℤ pos 1970) low first_year
    (year_of_means day (d.year -ℤ pos 1970) (sym (years d day e)))

month_digits : (k m : ℕ) → 1 ≤ m → m ≤ 12 → m ≡ suc ((12 * k + (m - 1)) % 12)
month_digits k m low high = omega arith

month_from : (y p : ℤ) (m : ℕ) → pos 0 ≤ℤ y → 1 ≤ m → m ≤ 12 → p ≡ (y *ℤ pos 12) +ℤ (pos m -ℤ pos 1)
    → m ≡ suc (unsigned_abs p % 12)
month_from (negsuc k) p m low one twelve e = absurd (omega (arith, ints))
month_from (pos k) p m low one twelve e =
    let f : p ≡ pos (12 * k + (m - 1)) = omega (arith, ints) in
    rw f (month_digits k m one twelve)

pub near_month_is : (d : Date) (day : ℤ) → epoch_day d ≡ day → pos 0 ≤ℤ day → d.month ≡ near_month day
unfolding near_month
near_month_is d day e low =
    let p = ((d.year *ℤ pos 12) +ℤ pos d.month) -ℤ pos 23641 in
    let found : Some p ≡ month_of day = month_of_date d day p e (omega (arith, ints)) in
    let is : p ≡ ((d.year -ℤ pos 1970) *ℤ pos 12) +ℤ (pos d.month -ℤ pos 1) = omega (arith, ints) in
    rw (← found) (month_from (d.year -ℤ pos 1970) p d.month (not_before d day e low) d.month_in.0 d.month_in.1 is)

day_from : (a day : ℤ) (n : ℕ) → 1 ≤ n → day +ℤ pos 1 ≡ a +ℤ pos n → n ≡ suc (unsigned_abs (day -ℤ a))
day_from a day n one e =
    let f : day -ℤ a ≡ pos (n - 1) = omega (arith, ints) in
    rw f (omega arith)

pub near_day_is : (d : Date) (day : ℤ) → epoch_day d ≡ day → pos 0 ≤ℤ day → d.day ≡ near_day day
unfolding near_day
near_day_is d day e low =
    let step = days_from_civil-day d.year d.month d.day 1 d.day_in.0 (omega arith) in
    rw (← near_year_is d day e, ← near_month_is d day e low)
    (day_from (days_from_civil d.year d.month 1) day d.day d.day_in.0 (omega (arith, signed_arith, step, e)))
