-- Days lie in the year and month of their date.
use Rattle.std.proofs.Common.{◌≡◌, ℕ, zero, suc, ◌-◌, ◌<◌, ◌≤◌, ℤ, pos, ◌+ℤ◌, ◌-ℤ◌, ◌*ℤ◌, ◌≤ℤ◌, ◌<ℤ◌, Bool, true, false}
use Rattle.std.proofs.Common.{◌&&◌, cond, Option, None, Some, arith, sym, ◌∙◌, ap, refl}
use Rattle.std.proofs.lemmas.Int.{ints, by_lt_z}
use Rattle.std.specs.Option.{option_map, option_and_then}
use Rattle.std.specs.Ordering.{is_le, is_lt, int_cmp, MatchOrdering}
use Rattle.std.specs.declared.cmp.Ordering.{Ordering}
use Rattle.std.specs.declared.cmp.Ordering.TheVariants.{Less as Below, Equal, Greater}
use Rattle.std.proofs.lemmas.Cmp.{int_ranked}
use Rattle.jiff_core.specs.Calendar.{days_from_civil, days_in_year, days_in_month, IsYear, IsEpochDay}
use Rattle.jiff_core.specs.Date.{epoch_day}
use Rattle.jiff_core.specs.declared.civil.date.Date.{Date}
use Rattle.jiff_core.proofs.CalendarLemmas.{day_of_year_bound, day_count-later_year, days_from_civil-day_count}
use Rattle.jiff_core.proofs.CalendarLemmas.{days_of_months_mono, days_of_months_more, day_count-day_of_year}
use Rattle.jiff_core.proofs.CalendarLemmas.{days_of_months_all, day_count-year_bounds}
use Rattle.jiff_core.proofs.DateLemmas.{civil, epoch_day-ordinal, days_from_civil-day}
use Rattle.jiff_core.proofs.SignedLemmas.{signed_arith}
use Rattle.ice_transform.specs.Years.{IsInYear, IsInMonth, IsYearUnit, IsMonthUnit, is_among, year_in, month_in}
use Rattle.ice_transform.specs.Years.{year_of, month_of, months_to}

in_year : (d : Date) → IsInYear (epoch_day d) d.year
in_year d =
    let o = epoch_day-ordinal d in
    let b = day_of_year_bound d.year d.month d.day (civil d) in
    record {
      known = d.year_in;
      begun = omega (arith, signed_arith, o, d.day_in.0);
      not_over = omega (arith, signed_arith, o, b);
    }

in_month : (d : Date) → IsInMonth (epoch_day d) d.year d.month
in_month d =
    let e = days_from_civil-day d.year d.month d.day 1 d.day_in.0 (omega arith) in
    record {
      known = d.year_in;
      month = d.month_in;
      begun = omega (arith, signed_arith, e, d.day_in.0);
      not_over = omega (arith, signed_arith, e, d.day_in.1);
    }

-- a later day lies in no earlier year
no_earlier : (a b y z : ℤ) → a ≤ℤ b → IsInYear a y → IsInYear b z → z <ℤ y → ⊥
no_earlier a b y z le in_y in_z lt =
    omega (
      arith,
      signed_arith,
      days_from_civil-day_count,
      day_count-later_year z y
          (omega (arith, signed_arith, in_z.known)) lt,
      in_y.begun,
      in_z.not_over,
    )

pub year_mono : (a b y z : ℤ) → a ≤ℤ b → IsInYear a y → IsInYear b z → y ≤ℤ z
year_mono a b y z le in_y in_z = by_lt_z z y (λ lt. absurd (no_earlier a b y z le in_y in_z lt)) (λ ge. ge)

pub year_units : (a b p q : ℤ) → a ≤ℤ b → IsYearUnit a p → IsYearUnit b q → p ≤ℤ q
year_units a b p q le in_p in_q = let m = year_mono a b _ _ le in_p in_q in omega (arith, ints)

-- a month lies in its year
month_in_year : (a y : ℤ) (m : ℕ) → IsInMonth a y m → IsInYear a y
month_in_year a y m h =
    let dc = day_count-day_of_year y m 1 (omega arith) in
    let le = days_of_months_mono y m 12 h.month.1 in
    record {
      known = h.known;
      begun = omega (arith, signed_arith, days_from_civil-day_count, dc, h.begun);
      not_over = omega (
        arith,
        signed_arith,
        days_from_civil-day_count,
        dc,
        h.not_over,
        le,
        days_of_months_all y,
        days_of_months_more y m h.month.0,
      );
    }

-- of one year, a later day lies in no earlier month
no_earlier_month : (a b y : ℤ) (m n : ℕ) → a ≤ℤ b → IsInMonth a y m → IsInMonth b y n → n < m → ⊥
no_earlier_month a b y m n le in_m in_n lt =
    let s = day_count-day_of_year y m 1 (omega arith) in
    let t = day_count-day_of_year y n 1 (omega arith) in
    let mono = days_of_months_mono y n (m - 1) (omega arith) in
    omega (
      arith,
      signed_arith,
      days_from_civil-day_count,
      s,
      t,
      mono,
      in_m.begun,
      in_n.not_over,
      days_of_months_more y
          n in_n.month.0,
    )

month_after : (a b p q y z : ℤ) (m n : ℕ) → a ≤ℤ b → IsInMonth a y m → IsInMonth b z n
    → (p +ℤ pos 23641) ≡ ((y *ℤ pos 12) +ℤ pos m) → (q +ℤ pos 23641) ≡ ((z *ℤ pos 12) +ℤ pos n) → q <ℤ p → ⊥
month_after a b p q y z m n le in_m in_n e f lt =
    let le_year = year_mono a b y z le (month_in_year a y m in_m) (month_in_year b z n in_n) in
    let same : z ≡ y = omega (arith, ints, in_m.month, in_n.month) in
    let later : n < m = omega (arith, ints, in_m.month, in_n.month) in
    no_earlier_month a b y m n le in_m (rw same at in_n) later

pub month_units : (a b p q : ℤ) → a ≤ℤ b → IsMonthUnit a p → IsMonthUnit b q → p ≤ℤ q
month_units a b p q le (y, m, in_m, e) (z, n, in_n, f) =
    by_lt_z q p (λ lt. absurd (month_after a b p q y z m n le in_m in_n e f lt)) (λ ge. ge)

and_parts : (a b : Bool) → (a && b) ≡ true → (a ≡ true) × (b ≡ true)
and_parts true b h = (refl, h)
and_parts false b h = absurd cc

pub le_means : (a b : ℤ) → is_le (int_cmp a b) ≡ true → a ≤ℤ b
le_means a b h = go (int_cmp a b) (int_ranked a b (int_cmp a b) refl) h where
  go : (o : Ordering) → MatchOrdering o (a <ℤ b) (a ≡ b) (b <ℤ a) → is_le o ≡ true → a ≤ℤ b
  go Below m h = omega (arith, ints)
  go Equal m h = omega (arith, ints)
  go Greater m h = absurd cc

lt_means : (a b : ℤ) → is_lt (int_cmp a b) ≡ true → a <ℤ b
lt_means a b h = go (int_cmp a b) (int_ranked a b (int_cmp a b) refl) h where
  go : (o : Ordering) → MatchOrdering o (a <ℤ b) (a ≡ b) (b <ℤ a) → is_lt o ≡ true → a <ℤ b
  go Below m h = m
  go Equal m h = absurd cc
  go Greater m h = absurd cc

pub le_shown : (a b : ℤ) → a ≤ℤ b → is_le (int_cmp a b) ≡ true
le_shown a b le = go (int_cmp a b) (int_ranked a b (int_cmp a b) refl) where
  go : (o : Ordering) → MatchOrdering o (a <ℤ b) (a ≡ b) (b <ℤ a) → is_le o ≡ true
  go Below m = refl
  go Equal m = refl
  go Greater m = absurd (omega (arith, ints))

lt_shown : (a b : ℤ) → a <ℤ b → is_lt (int_cmp a b) ≡ true
lt_shown a b lt = go (int_cmp a b) (int_ranked a b (int_cmp a b) refl) where
  go : (o : Ordering) → MatchOrdering o (a <ℤ b) (a ≡ b) (b <ℤ a) → is_lt o ≡ true
  go Below m = refl
  go Equal m = absurd (omega (arith, ints))
  go Greater m = absurd (omega (arith, ints))

among_means : (day first : ℤ) (n : ℕ) → is_among day first n ≡ true → (first ≤ℤ day) × (day <ℤ (first +ℤ pos n))
among_means day first n h =
    let p = and_parts (is_le (int_cmp first day)) (is_lt (int_cmp day (first +ℤ pos n))) h in
    (le_means first day p.0, lt_means day (first +ℤ pos n) p.1)

among_shown : (day first : ℤ) (n : ℕ) → first ≤ℤ day → day <ℤ (first +ℤ pos n) → is_among day first n ≡ true
among_shown day first n le lt =
    let a = le_shown first day le in
    let b = lt_shown day (first +ℤ pos n) lt in
    rw (a, b) refl

same_year : (day y z : ℤ) → IsInYear day y → IsInYear day z → y ≡ z
same_year day y z in_y in_z =
    let a = year_mono day day y z (omega (arith, ints)) in_y in_z in
    let b = year_mono day day z y (omega (arith, ints)) in_z in_y in
    omega (arith, ints)

same_month : (day y : ℤ) (m n : ℕ) → IsInMonth day y m → IsInMonth day y n → m ≡ n
same_month day y m n in_m in_n = omega (
  arith,
  no_earlier_month day day y m n (omega (arith, ints)) in_m in_n,
  no_earlier_month day day y n m (omega (arith, ints)) in_n in_m,
)

-- the year that is found
pub year_found : (n : ℕ) (day y : ℤ) → n ≤ 19999 → year_in n day ≡ Some y → IsInYear day y
unfolding year_in
year_found zero day y le h = absurd cc
year_found (suc n) day y le h = go (is_among day (days_from_civil z 1 1) (days_in_year z)) refl h
    (year_found n day y (omega arith)) where
      z : ℤ
      z = pos n -ℤ pos 9999

      go : (b : Bool) → is_among day (days_from_civil z 1 1) (days_in_year z) ≡ b
          → cond b (Some z) (year_in n day) ≡ Some y
          → (year_in n day ≡ Some y → IsInYear day y) → IsInYear day y
      go true test h rest =
          let e : z ≡ y = cc in
          let p = among_means day (days_from_civil z 1 1) (days_in_year z) test in
          rw (← e) record { known = omega (arith, ints); begun = p.0; not_over = p.1 }
      go false test h rest = rest h

-- the year in which a day lies is found
pub finds_year : (n : ℕ) (day y : ℤ) → IsInYear day y → y <ℤ (pos n -ℤ pos 9999) → n ≤ 19999 → year_in n day ≡ Some y
unfolding year_in
finds_year zero day y in_y lt le = absurd (omega (arith, ints, in_y.known))
finds_year (suc n) day y in_y lt le = go (is_among day (days_from_civil z 1 1) (days_in_year z)) refl
    (λ l. finds_year n day y in_y l (omega arith)) where
      z : ℤ
      z = pos n -ℤ pos 9999

      at_last : y ≡ z → is_among day (days_from_civil z 1 1) (days_in_year z) ≡ true
      at_last e = rw (← e) (among_shown day (days_from_civil y 1 1) (days_in_year y) in_y.begun in_y.not_over)

      go : (b : Bool) → is_among day (days_from_civil z 1 1) (days_in_year z) ≡ b
          → (y <ℤ (pos n -ℤ pos 9999) → year_in n day ≡ Some y) → cond b (Some z) (year_in n day) ≡ Some y
      go true test rest =
          let p = among_means day (days_from_civil z 1 1) (days_in_year z) test in
          let in_z : IsInYear day z = record { known = omega (arith, ints); begun = p.0; not_over = p.1 } in
          ap Some (same_year day z y in_z in_y)
      go false test rest =
          let other : y ≡ z → ⊥ = λ e. let k = at_last e in cc in
          rest (omega (arith, ints, other))

pub month_found : (n : ℕ) (y day : ℤ) (m : ℕ) → n ≤ 12 → IsYear y → month_in n y day ≡ Some m → IsInMonth day y m
unfolding month_in
month_found zero y day m le known h = absurd cc
month_found (suc n) y day m le known h = go (is_among day (days_from_civil y (suc n) 1) (days_in_month y (suc n))) refl
    h (month_found n y day m (omega arith) known) where
      go : (b : Bool) → is_among day (days_from_civil y (suc n) 1) (days_in_month y (suc n)) ≡ b
          → cond b (Some (suc n)) (month_in n y day) ≡ Some m → (month_in n y day ≡ Some m → IsInMonth day y m)
          → IsInMonth day y m
      go true test h rest =
          let e : suc n ≡ m = cc in
          let p = among_means day (days_from_civil y (suc n) 1) (days_in_month y (suc n)) test in
          rw (← e) record { known = known; month = (omega arith, omega arith); begun = p.0; not_over = p.1 }
      go false test h rest = rest h

pub finds_month : (n : ℕ) (y day : ℤ) (m : ℕ) → IsInMonth day y m → m ≤ n → n ≤ 12 → month_in n y day ≡ Some m
unfolding month_in
finds_month zero y day m in_m below le = absurd (omega (arith, in_m.month))
finds_month (suc n) y day m in_m below le = go (is_among day (days_from_civil y (suc n) 1) (days_in_month y (suc n)))
    refl (λ l. finds_month n y day m in_m l (omega arith)) where
      at_last : m ≡ suc n → is_among day (days_from_civil y (suc n) 1) (days_in_month y (suc n)) ≡ true
      at_last e = rw (← e) (among_shown day (days_from_civil y m 1) (days_in_month y m) in_m.begun in_m.not_over)

      go : (b : Bool) → is_among day (days_from_civil y (suc n) 1) (days_in_month y (suc n)) ≡ b
          → (m ≤ n → month_in n y day ≡ Some m) → cond b (Some (suc n)) (month_in n y day) ≡ Some m
      go true test rest =
          let p = among_means day (days_from_civil y (suc n) 1) (days_in_month y (suc n)) test in
          let in_n : IsInMonth day y (suc n) = record {
            known = in_m.known;
            month = (omega arith, omega arith);
            begun = p.0;
            not_over = p.1;
          } in
          ap Some (same_month day y (suc n) m in_n in_m)
      go false test rest =
          let other : m ≡ suc n → ⊥ = λ e. let k = at_last e in cc in
          rest (omega (arith, other))

-- a day of a year that is known is a day that the calendar knows
known_day : (day y : ℤ) → IsInYear day y → IsEpochDay day
known_day day y h =
    let b = day_count-year_bounds y h.known in (
      omega (arith, signed_arith, days_from_civil-day_count, b, h.begun),
      omega
          (arith, signed_arith, days_from_civil-day_count, b, h.not_over),
    )

year_of_some : (o : Option ℤ) (p : ℤ) → option_map (λ (y : ℤ). y -ℤ pos 1970) o ≡ Some p
    → (y : ℤ) × (o ≡ Some y) × (y ≡ p +ℤ pos 1970)
year_of_some None p h = absurd cc
year_of_some (Some y) p h = let e : y -ℤ pos 1970 ≡ p = cc in (y, refl, omega (arith, ints))

-- the number of years is that of the year in which the day lies
pub year_of_means : (day p : ℤ) → year_of day ≡ Some p → IsYearUnit day p
year_of_means day p h =
    let s = year_of_some (year_in 19999 day) p h in
    rw (← s.2) (year_found 19999 day s.0 (omega arith) s.1)

pub year_of_is : (day p : ℤ) → IsYearUnit day p → year_of day ≡ Some p
year_of_is day p h =
    let e = finds_year 19999 day (p +ℤ pos 1970) h (omega (arith, ints, h.known)) (omega arith) in
    let back : (p +ℤ pos 1970) -ℤ pos 1970 ≡ p = omega (arith, ints) in
    ap (option_map (λ (y : ℤ). y -ℤ pos 1970)) e ∙ ap Some back

months_some : (o : Option ℕ) (y p : ℤ) → option_map (months_to y) o ≡ Some p
    → (m : ℕ) × (o ≡ Some m) × (months_to y m ≡ p)
months_some None y p h = absurd cc
months_some (Some m) y p h = (m, refl, cc)

month_of_some : (o : Option ℤ) (day p : ℤ) → option_and_then (λ (y : ℤ). option_map (months_to y) (month_in 12 y day)) o
    ≡ Some p → (y : ℤ) × (m : ℕ) × (o ≡ Some y) × (month_in 12 y day ≡ Some m) × (months_to y m ≡ p)
month_of_some None day p h = absurd cc
month_of_some (Some y) day p h = let s = months_some (month_in 12 y day) y p h in (y, s.0, refl, s.1, s.2)

pub month_of_means : (day p : ℤ) → month_of day ≡ Some p → IsMonthUnit day p
month_of_means day p h =
    let s = month_of_some (year_in 19999 day) day p h in
    let in_y = year_found 19999 day s.0 (omega arith) s.2 in
    let e = s.4 in
    (s.0, s.1, month_found 12 s.0 day s.1 (omega arith) in_y.known s.3, omega (arith, ints))

pub month_of_is : (day p : ℤ) → IsMonthUnit day p → month_of day ≡ Some p
month_of_is day p (y, m, in_m, e) =
    let in_y = month_in_year day y m in_m in
    let year = finds_year 19999 day y in_y (omega (arith, ints, in_y.known)) (omega arith) in
    let month = finds_month 12 y day m in_m in_m.month.1 (omega arith) in
    let is : months_to y m ≡ p = omega (arith, ints) in
    ap (option_and_then (λ (y : ℤ). option_map (months_to y) (month_in 12 y day))) year ∙ ap (option_map (months_to y))
    month ∙ ap Some is

no_year : (o : Option ℤ) → ((y : ℤ) → o ≡ Some y → ⊥) → None ≡ o
no_year None h = refl
no_year (Some y) h = absurd (h y refl)

pub year_of_none : (day : ℤ) → (IsEpochDay day → ⊥) → None ≡ year_of day
year_of_none day h = no_year (year_of day) (λ p e. h (known_day day _ (year_of_means day p e)))

pub month_of_none : (day : ℤ) → (IsEpochDay day → ⊥) → None ≡ month_of day
month_of_none day h = no_year (month_of day) (λ p e. let u = month_of_means day p e in
    h (known_day day u.0 (month_in_year day u.0 u.1 u.2)))

pub year_of_date : (d : Date) (day p : ℤ) → epoch_day d ≡ day → p +ℤ pos 1970 ≡ d.year → Some p ≡ year_of day
year_of_date d day p e is = sym (year_of_is day p (rw (is, ← e) (in_year d)))

pub month_of_date : (d : Date) (day p : ℤ) → epoch_day d ≡ day → p +ℤ pos 23641 ≡ (d.year *ℤ pos 12) +ℤ pos d.month
    → Some p ≡ month_of day
month_of_date d day p e is = sym (month_of_is day p (d.year, d.month, (rw (← e) (in_month d)), is))
