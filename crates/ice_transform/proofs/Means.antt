-- The value that is computed is the one with the properties.
use Rattle.std.proofs.Common.{◌≡◌, ℕ, zero, suc, ◌<◌, ℤ, pos, negsuc, ◌*ℤ◌, ◌≤ℤ◌, ◌<ℤ◌, Bool, true, false, ◌||◌, cond}
use Rattle.std.proofs.Common.{List, Option, None, Some, refl, ap, arith, sym, ◌∙◌, take}
use Rattle.std.specs.Option.{option_map, option_and_then}
use Rattle.std.specs.Str.{IsUtf8}
use Rattle.std.proofs.lemmas.Str.{IsUtf8-from_is_utf8}
use Rattle.std.proofs.Math.IntN.{suc_ℤ, suc_ℤ-*ℤ}
use Rattle.std.proofs.lemmas.Int.{ints, by_lt_z}
use Rattle.ice_value.specs.declared.column_type.ColumnType.{ColumnType}
use Rattle.ice_value.specs.declared.column_type.ColumnType.TheVariants.{Int, Long, Date, Timestamp, Timestamptz, String}
use Rattle.ice_value.specs.declared.column_type.ColumnType.TheVariants.{Binary}
use Rattle.ice_value.specs.declared.cell.Cell.{Cell}
use Rattle.ice_value.specs.declared.cell.Cell.TheVariants.{Null, Bool as Flag, Whole, Text, Bytes}
use Rattle.ice_value.specs.Bounds.{fits_int, fits_long, is_cell}
use Rattle.ice_transform.specs.declared.transform.Transform.{Transform}
use Rattle.ice_transform.specs.declared.transform.Transform.TheVariants.{Identity, Bucket, Truncate, Year, Month, Day}
use Rattle.ice_transform.specs.declared.transform.Transform.TheVariants.{Hour, Void, Unknown}
use Rattle.ice_transform.specs.Cuts.{first_points}
use Rattle.ice_transform.specs.Definitions.{IsTruncated, IsDayOf, IsHourOf, IsPresentValue, IsTypedValue, IsValueOf}
use Rattle.ice_transform.specs.Floors.{floor_div, floor_to, int_if, long_if, IsUnitOf, IsTruncation}
use Rattle.ice_transform.specs.Murmur.{bucket_of}
use Rattle.ice_transform.specs.Values.{value_of, typed_value, takes_any, present_value, bucketed, truncated, day_of}
use Rattle.ice_transform.specs.Values.{hour_of, has_buckets, hashed_bytes}
use Rattle.ice_transform.specs.Years.{year_of, month_of, IsYearUnit, IsMonthUnit}
use Rattle.ice_transform.proofs.Days.{year_of_means, month_of_means, year_of_is, month_of_is}
use Rattle.ice_transform.proofs.Points.{points_of_text}
use Rattle.ice_transform.proofs.Rounded.{unit_is, truncation_is, times_mono}

suc_le : (p q : ℤ) → p <ℤ q → suc_ℤ p ≤ℤ q
suc_le (pos n) q lt = omega (arith, ints)
suc_le (negsuc zero) q lt = omega (arith, ints)
suc_le (negsuc (suc n)) q lt = omega (arith, ints)

not_below : (n : ℕ) (v p q : ℤ) → IsUnitOf (pos n) v p → IsUnitOf (pos n) v q → p <ℤ q → ⊥
not_below n v p q in_p in_q lt =
    let m = rw (suc_ℤ-*ℤ p (pos n)) at (times_mono n (suc_ℤ p) q (suc_le p q lt)) in
    omega (arith, ints, m, in_p, in_q)

-- a number lies in one unit
unit_same : (n : ℕ) (v p : ℤ) → 0 < n → IsUnitOf (pos n) v p → p ≡ floor_div (pos n) v
unit_same n v p h in_p =
    let in_q = unit_is n v h in
    by_lt_z p (floor_div (pos n) v) (λ lt. absurd (not_below n v p (floor_div (pos n) v) in_p in_q lt)) (λ ge.
    by_lt_z (floor_div (pos n) v) p (λ lt. absurd (not_below n v (floor_div (pos n) v) p in_q in_p lt))
    (λ le. omega (arith, ints)))

truncation_same : (n : ℕ) (v p : ℤ) → 0 < n → IsTruncation (pos n) v p → p ≡ floor_to (pos n) v
truncation_same n v p h (k, e, le, lt) =
    let in_k : IsUnitOf (pos n) v k = ((rw e at le), (rw e at lt)) in
    e ∙ ap (λ (q : ℤ). q *ℤ pos n) (unit_same n v k h in_k)

-- both ways
abbrev pub Means : Type 0 → Option Cell → Cell → Type 0
Means P o p = (P → o ≡ Some p) × (o ≡ Some p → P)

if_true : (b : Bool) (z p : ℤ) → b ≡ true → option_map Whole (cond b (Some z) None) ≡ Some (Whole z)
if_true b z p h = rw h refl

if_some : (b : Bool) (z : ℤ) (p : Cell) → option_map Whole (cond b (Some z) None) ≡ Some p → (b ≡ true) × (Whole z ≡ p)
if_some true z p h = (refl, cc)
if_some false z p h = absurd cc

whole_is : (x y : ℤ) → Whole x ≡ Whole y → x ≡ y
whole_is x y h = cc

int_means : (w : ℕ) (v p : ℤ) → 0 < w → Means (IsTruncation (pos w) v p × (fits_int p ≡ true))
    (option_map Whole (int_if (floor_to (pos w) v))) (Whole p)
int_means w v p h = (to, from) where
  to : IsTruncation (pos w) v p × (fits_int p ≡ true) → option_map Whole (int_if (floor_to (pos w) v)) ≡ Some (Whole p)
  to (t, fits) = let e = truncation_same w v p h t in rw (← e) (if_true (fits_int p) p p fits)

  from : option_map Whole (int_if (floor_to (pos w) v)) ≡ Some (Whole p)
      → IsTruncation (pos w) v p × (fits_int p ≡ true)
  from g =
      let s = if_some (fits_int (floor_to (pos w) v)) (floor_to (pos w) v) (Whole p) g in
      let e = whole_is (floor_to (pos w) v) p s.1 in
      rw (← e) (truncation_is w v h, s.0)

long_means : (w : ℕ) (v p : ℤ) → 0 < w → Means (IsTruncation (pos w) v p × (fits_long p ≡ true))
    (option_map Whole (long_if (floor_to (pos w) v))) (Whole p)
long_means w v p h = (to, from) where
  to : IsTruncation (pos w) v p × (fits_long p ≡ true)
      → option_map Whole (long_if (floor_to (pos w) v)) ≡ Some (Whole p)
  to (t, fits) = let e = truncation_same w v p h t in rw (← e) (if_true (fits_long p) p p fits)

  from : option_map Whole (long_if (floor_to (pos w) v)) ≡ Some (Whole p)
      → IsTruncation (pos w) v p × (fits_long p ≡ true)
  from g =
      let s = if_some (fits_long (floor_to (pos w) v)) (floor_to (pos w) v) (Whole p) g in
      let e = whole_is (floor_to (pos w) v) p s.1 in
      rw (← e) (truncation_is w v h, s.0)

no_cell : (o : Option ℤ) (p : Cell) → ((z : ℤ) → p ≡ Whole z → ⊥) → option_map Whole o ≡ Some p → ⊥
no_cell None p h e = cc
no_cell (Some z) p h e = h z cc

only_whole : (P : Cell → Type 0) (o : Option ℤ) → ((z : ℤ) → Means (P (Whole z)) (option_map Whole o) (Whole z))
    → (P Null → ⊥) → ((b : Bool) → P (Flag b) → ⊥) → ((s : List ℕ) → P (Text s) → ⊥) → ((s : List ℕ) → P (Bytes s) → ⊥)
    → (p : Cell) → Means (P p) (option_map Whole o) p
only_whole P o whole null flag text bytes (Whole z) = whole z
only_whole P o whole null flag text bytes Null = (λ h. absurd (null h), λ e. absurd (no_cell o Null (λ z f. cc) e))
only_whole P o whole null flag text bytes (Flag b) = (
  λ h. absurd (flag b h),
  λ e. absurd
      (no_cell o (Flag b) (λ z f. cc) e),
)
only_whole P o whole null flag text bytes (Text s) = (
  λ h. absurd (text s h),
  λ e. absurd
      (no_cell o (Text s) (λ z f. cc) e),
)
only_whole P o whole null flag text bytes (Bytes s) = (
  λ h. absurd (bytes s h),
  λ e. absurd
      (no_cell o (Bytes s) (λ z f. cc) e),
)

text_means : (w : ℕ) (s : List ℕ) (p : Cell) → IsUtf8 s
    → Means (IsTruncated w String (Text s) p) (Some (Text (first_points w s))) p
text_means w s (Text q) u = let e = points_of_text w s u in (
  λ h. ap (λ (x : List ℕ). Some (Text x)) (e ∙ sym h),
  λ h.
      let k : first_points w s ≡ q = cc in sym k ∙ e,
)
text_means w s Null u = (λ h. absurd h, λ e. cc)
text_means w s (Flag b) u = (λ h. absurd h, λ e. cc)
text_means w s (Whole z) u = (λ h. absurd h, λ e. cc)
text_means w s (Bytes q) u = (λ h. absurd h, λ e. cc)

bytes_means : (w : ℕ) (s : List ℕ) (p : Cell) → Means (IsTruncated w Binary (Bytes s) p) (Some (Bytes (take w s))) p
bytes_means w s (Bytes q) = (λ h. ap (λ (x : List ℕ). Some (Bytes x)) (sym h), λ h. let k : take w s ≡ q = cc in sym k)
bytes_means w s Null = (λ h. absurd h, λ e. cc)
bytes_means w s (Flag b) = (λ h. absurd h, λ e. cc)
bytes_means w s (Whole z) = (λ h. absurd h, λ e. cc)
bytes_means w s (Text q) = (λ h. absurd h, λ e. cc)

cut_means : (w : ℕ) (t : ColumnType) (c p : Cell) → 0 < w → is_cell t c ≡ true
    → Means (IsTruncated w t c p) (truncated w t c) p
cut_means w Int (Whole v) p h u = only_whole (IsTruncated w Int (Whole v)) (int_if (floor_to (pos w) v))
    (λ z. int_means w v z h) (λ e. e) (λ b e. e) (λ s e. e) (λ s e. e) p
cut_means w Long (Whole v) p h u = only_whole (IsTruncated w Long (Whole v)) (long_if (floor_to (pos w) v))
    (λ z. long_means w v z h) (λ e. e) (λ b e. e) (λ s e. e) (λ s e. e) p
cut_means w String (Text s) p h u = text_means w s p (IsUtf8-from_is_utf8 s u)
cut_means w Binary (Bytes s) p h u = bytes_means w s p
cut_means w t c p h u = (λ e. absurd e, λ e. cc)

-- a number of a relation, by the number that is computed
number_means : (Q : ℤ → Type 0) (o : Option ℤ) (p : Cell) → ((z : ℤ) → Q z → o ≡ Some z) → ((z : ℤ) → o ≡ Some z → Q z)
    → Means ((z : ℤ) × Q z × (p ≡ Whole z)) (option_map Whole o) p
number_means Q o p to from = (λ (z, q, e). ap (option_map Whole) (to z q) ∙ ap Some (sym e), back o refl) where
  back : (r : Option ℤ) → r ≡ o → option_map Whole r ≡ Some p → (z : ℤ) × Q z × (p ≡ Whole z)
  back None is h = absurd cc
  back (Some z) is h = let e : Whole z ≡ p = cc in (z, from z (sym is), sym e)

some_same : (x y : ℤ) → x ≡ y → Some y ≡ Some x
some_same x y e = ap Some (sym e)

some_is : (x y : ℤ) → Some x ≡ Some y → x ≡ y
some_is x y h = cc

unit_given : (n : ℕ) (v z : ℤ) → 0 < n → Some (floor_div (pos n) v) ≡ Some z → IsUnitOf (pos n) v z
unit_given n v z h e = let is = some_is (floor_div (pos n) v) z e in rw (← is) (unit_is n v h)

day_to : (t : ColumnType) (c : Cell) (z : ℤ) → IsDayOf t c z → day_of t c ≡ Some z
day_to Date (Whole v) z h = some_same z v h
day_to Timestamp (Whole v) z h = some_same z (floor_div (pos 86_400_000_000) v) (unit_same 86_400_000_000 v z
    (omega arith) h)
day_to Timestamptz (Whole v) z h = some_same z (floor_div (pos 86_400_000_000) v) (unit_same 86_400_000_000 v z
    (omega arith) h)
day_to t c z h = absurd h

day_from : (t : ColumnType) (c : Cell) (z : ℤ) → day_of t c ≡ Some z → IsDayOf t c z
day_from Date (Whole v) z h = sym (some_is v z h)
day_from Timestamp (Whole v) z h = unit_given 86_400_000_000 v z (omega arith) h
day_from Timestamptz (Whole v) z h = unit_given 86_400_000_000 v z (omega arith) h
day_from t c z h = cc

if_int : (z : ℤ) → fits_int z ≡ true → int_if z ≡ Some z
if_int z h = rw h refl

int_given : (b : Bool) (y z : ℤ) → cond b (Some y) None ≡ Some z → (b ≡ true) × (y ≡ z)
int_given true y z h = (refl, cc)
int_given false y z h = absurd cc

fits_unit : (v z : ℤ) → IsUnitOf (pos 3_600_000_000) v z × (fits_int z ≡ true)
    → int_if (floor_div (pos 3_600_000_000) v) ≡ Some z
fits_unit v z (u, f) = let e = unit_same 3_600_000_000 v z (omega arith) u in rw (← e) (if_int z f)

unit_fits : (v z : ℤ) → int_if (floor_div (pos 3_600_000_000) v) ≡ Some z
    → IsUnitOf (pos 3_600_000_000) v z × (fits_int z ≡ true)
unit_fits v z h =
    let s = int_given (fits_int (floor_div (pos 3_600_000_000) v)) (floor_div (pos 3_600_000_000) v) z h in
    rw (← s.1) (unit_is 3_600_000_000 v (omega arith), s.0)

hour_to : (t : ColumnType) (c : Cell) (z : ℤ) → IsHourOf t c z → hour_of t c ≡ Some z
hour_to Timestamp (Whole v) z h = fits_unit v z h
hour_to Timestamptz (Whole v) z h = fits_unit v z h
hour_to t c z h = absurd h

hour_from : (t : ColumnType) (c : Cell) (z : ℤ) → hour_of t c ≡ Some z → IsHourOf t c z
hour_from Timestamp (Whole v) z h = unit_fits v z h
hour_from Timestamptz (Whole v) z h = unit_fits v z h
hour_from t c z h = cc

-- a number of a day, by the day
dated_means : (Q : ℤ → ℤ → Type 0) (g : ℤ → Option ℤ) (t : ColumnType) (c p : Cell) → ((d z : ℤ) → Q d z → g d ≡ Some z)
    → ((d z : ℤ) → g d ≡ Some z → Q d z) →
    Means ((d : ℤ) × (z : ℤ) × IsDayOf t c d × Q d z × (p ≡ Whole z))
    (option_map Whole (option_and_then g (day_of t c))) p
dated_means Q g t c p to from = (
  λ (d, z, in_d, q, e). ap (λ (o : Option ℤ). option_map Whole (option_and_then g o))
      (day_to t c d in_d) ∙ ap (option_map Whole) (to d z q) ∙ ap Some (sym e),
  back (day_of t c) refl,
) where
  found : (d : ℤ) (r : Option ℤ) → r ≡ g d → IsDayOf t c d → option_map Whole r ≡ Some p
      → (d : ℤ) × (z : ℤ) × IsDayOf t c d × Q d z × (p ≡ Whole z)
  found d None is in_d h = absurd cc
  found d (Some z) is in_d h = let e : Whole z ≡ p = cc in (d, z, in_d, from d z (sym is), sym e)

  back : (o : Option ℤ) → o ≡ day_of t c → option_map Whole (option_and_then g o) ≡ Some p
      → (d : ℤ) × (z : ℤ) × IsDayOf t c d × Q d z × (p ≡ Whole z)
  back None is h = absurd cc
  back (Some d) is h = found d (g d) refl (day_from t c d (sym is)) h

bucket_means : (n : ℕ) (t : ColumnType) (c p : Cell)
    → Means ((bs : List ℕ) × (has_buckets t ≡ true) × (hashed_bytes c ≡ Some bs) × (p ≡ Whole (pos (bucket_of n bs))))
    (bucketed n t c) p
bucket_means n t c p = (to, from (has_buckets t) refl (hashed_bytes c) refl) where
  to : (bs : List ℕ) × (has_buckets t ≡ true) × (hashed_bytes c ≡ Some bs) × (p ≡ Whole (pos (bucket_of n bs)))
      → bucketed n t c ≡ Some p
  to (bs, h, e, f) = rw (h, e) (ap Some (sym f))

  from : (b : Bool) → has_buckets t ≡ b → (o : Option (List ℕ)) → hashed_bytes c ≡ o
      → cond b (option_map (λ bs. Whole (pos (bucket_of n bs))) o) None ≡ Some p →
      (bs : List ℕ) × (has_buckets t ≡ true) × (hashed_bytes c ≡ Some bs) × (p ≡ Whole (pos (bucket_of n bs)))
  from true h (Some bs) e g = let f : Whole (pos (bucket_of n bs)) ≡ p = cc in (bs, h, e, sym f)
  from true h None e g = absurd cc
  from false h o e g = absurd cc

present_means : (f : Transform) (t : ColumnType) (c p : Cell) → (takes_any f || is_cell t c) ≡ true
    → Means (IsPresentValue f t c p) (present_value f t c) p
present_means Identity t c p u = (λ e. ap Some (sym e), λ h. let e : c ≡ p = cc in sym e)
present_means (Bucket buckets) t c p u = bucket_means buckets.number t c p
present_means (Truncate width) t c p u = cut_means width.number t c p width.positive u
present_means Year t c p u = dated_means IsYearUnit year_of t c p year_of_is year_of_means
present_means Month t c p u = dated_means IsMonthUnit month_of t c p month_of_is month_of_means
present_means Day t c p u = number_means (IsDayOf t c) (day_of t c) p (day_to t c) (day_from t c)
present_means Hour t c p u = number_means (IsHourOf t c) (hour_of t c) p (hour_to t c) (hour_from t c)
present_means Void t c p u = (λ e. ap Some (sym e), λ h. let e : Null ≡ p = cc in sym e)
present_means (Unknown text) t c p u = (λ e. absurd e, λ h. cc)

typed_means : (f : Transform) (t : ColumnType) (c p : Cell) → Means (IsTypedValue f t c p) (typed_value f t c) p
typed_means f t c p = go (takes_any f || is_cell t c) refl where
  go : (b : Bool) → (takes_any f || is_cell t c) ≡ b
      → Means ((b ≡ true) × IsPresentValue f t c p) (cond b (present_value f t c) None) p
  go true e = let m = present_means f t c p e in (λ (x, h). m.0 h, λ h. (refl, m.1 h))
  go false e = (λ (x, h). absurd cc, λ h. absurd cc)

pub means : (f : Transform) (t : ColumnType) (c p : Cell) → Means (IsValueOf f t c p) (value_of f t c) p
means f t Null p = (λ e. ap Some (sym e), λ h. let e : Null ≡ p = cc in sym e)
means f t (Flag truth) p = typed_means f t (Flag truth) p
means f t (Whole v) p = typed_means f t (Whole v) p
means f t (Text text) p = typed_means f t (Text text) p
means f t (Bytes bytes) p = typed_means f t (Bytes bytes) p
