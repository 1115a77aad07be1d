-- Laws of the values of transforms.
use Rattle.std.proofs.Common.{◌≡◌, ℕ, ◌<◌, ℤ, pos, ◌≤ℤ◌, Bool, true, false, ◌||◌, cond, List, Option, None, Some, refl}
use Rattle.std.proofs.Common.{ap, arith, ◌∙◌, take}
use Rattle.std.specs.Option.{option_map, option_and_then}
use Rattle.ice_value.specs.declared.column_type.ColumnType.{ColumnType}
use Rattle.ice_value.specs.declared.column_type.ColumnType.TheVariants.{Int, Long, Date, Timestamp, Timestamptz, String}
use Rattle.ice_value.specs.declared.column_type.ColumnType.TheVariants.{Binary}
use Rattle.ice_value.specs.declared.cell.Cell.{Cell}
use Rattle.ice_value.specs.declared.cell.Cell.TheVariants.{Null, Bool as Flag, Whole, Text, Bytes}
use Rattle.ice_value.specs.Bounds.{fits_int, fits_long, is_cell}
use Rattle.ice_transform.specs.declared.transform.Transform.{Transform}
use Rattle.ice_transform.specs.declared.transform.Transform.TheVariants.{Identity, Bucket, Truncate, Year, Month, Day}
use Rattle.ice_transform.specs.declared.transform.Transform.TheVariants.{Hour, Void, Unknown}
use Rattle.ice_transform.specs.Cuts.{first_points}
use Rattle.ice_transform.specs.Floors.{floor_div, floor_to, int_if, long_if}
use Rattle.ice_transform.specs.Murmur.{bucket_of}
use Rattle.ice_transform.specs.Years.{year_of, month_of}
use Rattle.ice_value.specs.Cells.{is_at_most}
use Rattle.ice_transform.specs.Values.{value_of, typed_value, present_value, bucketed, truncated, day_of, hour_of}
use Rattle.ice_transform.specs.Values.{has_buckets, hashed_bytes, is_void, takes_any, is_rising}
use Rattle.ice_transform.proofs.Days.{year_of_means, month_of_means, year_units, month_units, le_means, le_shown}
use Rattle.ice_transform.proofs.Rounded.{unit_mono, truncation_mono}
use Rattle.ice_transform.proofs.CutOrder.{points_mono, take_mono}

-- no value of a test or of an option is null
abbrev NeverNull : Option Cell → Type 0
NeverNull o = o ≡ Some Null → ⊥

whole_solid : (o : Option ℤ) → NeverNull (option_map Whole o)
whole_solid None h = cc
whole_solid (Some z) h = cc

bytes_solid : (f : List ℕ → ℕ) (o : Option (List ℕ)) → NeverNull (option_map (λ bs. Whole (pos (f bs))) o)
bytes_solid f None h = cc
bytes_solid f (Some bs) h = cc

bucket_solid : (n : ℕ) (t : ColumnType) (c : Cell) → NeverNull (bucketed n t c)
bucket_solid n t c = go (has_buckets t) where
  go : (b : Bool) → NeverNull (cond b (option_map (λ bs. Whole (pos (bucket_of n bs))) (hashed_bytes c)) None)
  go true h = bytes_solid (bucket_of n) (hashed_bytes c) h
  go false h = cc

cut_solid : (w : ℕ) (t : ColumnType) (c : Cell) → NeverNull (truncated w t c)
cut_solid w Int (Whole v) h = whole_solid (int_if (floor_to (pos w) v)) h
cut_solid w Long (Whole v) h = whole_solid (long_if (floor_to (pos w) v)) h
cut_solid w String (Text text) h = cc
cut_solid w Binary (Bytes bytes) h = cc
cut_solid _ _ _ h = cc

present_solid : (f : Transform) (t : ColumnType) (c : Cell) → (c ≡ Null → ⊥) → is_void f ≡ false
    → NeverNull (present_value f t c)
present_solid Identity t c solid v h = solid cc
present_solid (Bucket buckets) t c solid v h = bucket_solid buckets.number t c h
present_solid (Truncate width) t c solid v h = cut_solid width.number t c h
present_solid Year t c solid v h = whole_solid (option_and_then year_of (day_of t c)) h
present_solid Month t c solid v h = whole_solid (option_and_then month_of (day_of t c)) h
present_solid Day t c solid v h = whole_solid (day_of t c) h
present_solid Hour t c solid v h = whole_solid (hour_of t c) h
present_solid Void t c solid v h = cc
present_solid (Unknown text) t c solid v h = cc

-- a value is what the transform makes of the cell
pub given : (f : Transform) (t : ColumnType) (c p : Cell) → typed_value f t c ≡ Some p → present_value f t c ≡ Some p
given f t c p h = go (takes_any f || is_cell t c) h where
  go : (b : Bool) → cond b (present_value f t c) None ≡ Some p → present_value f t c ≡ Some p
  go true e = e
  go false e = absurd cc

-- null alone has the value null
pub null_alone : (f : Transform) (t : ColumnType) (c : Cell) → is_void f ≡ false → value_of f t c ≡ Some Null → c ≡ Null
null_alone f t Null v h = refl
null_alone f t (Flag truth) v h = absurd (present_solid f t (Flag truth) (λ e. cc) v (given f t (Flag truth) Null h))
null_alone f t (Whole z) v h = absurd (present_solid f t (Whole z) (λ e. cc) v (given f t (Whole z) Null h))
null_alone f t (Text text) v h = absurd (present_solid f t (Text text) (λ e. cc) v (given f t (Text text) Null h))
null_alone f t (Bytes bytes) v h = absurd (present_solid f t (Bytes bytes) (λ e. cc) v (given f t (Bytes bytes) Null h))

-- a smaller number has no greater value
IsRising : (ℤ → Option ℤ) → Type 0
IsRising g = (a b x y : ℤ) → a ≤ℤ b → g a ≡ Some x → g b ≡ Some y → x ≤ℤ y

if_some : (b : Bool) (z u : ℤ) → cond b (Some z) None ≡ Some u → u ≡ z
if_some true z u h = cc
if_some false z u h = absurd cc

whole_of : (o : Option ℤ) (p : Cell) → option_map Whole o ≡ Some p → (x : ℤ) × (o ≡ Some x) × (Whole x ≡ p)
whole_of None p h = absurd cc
whole_of (Some x) p h = (x, refl, cc)

whole_rising : (g : ℤ → Option ℤ) → IsRising g → (a b : ℤ) (p q : Cell) → is_at_most (Whole a) (Whole b) ≡ true
    → option_map Whole (g a) ≡ Some p → option_map Whole (g b) ≡ Some q → is_at_most p q ≡ true
unfolding IsRising
whole_rising g rise a b p q le e f =
    let x = whole_of (g a) p e in
    let y = whole_of (g b) q f in
    rw (← x.2, ← y.2) (le_shown x.0 y.0 (rise a b x.0 y.0 (le_means a b le) x.1 y.1))

int_rising : (w : ℕ) → 0 < w → IsRising (λ v. int_if (floor_to (pos w) v))
unfolding IsRising
int_rising w h a b x y le e f =
    let m = truncation_mono w a b h le in
    let ex = if_some (fits_int (floor_to (pos w) a)) (floor_to (pos w) a) x e in
    let ey = if_some (fits_int (floor_to (pos w) b)) (floor_to (pos w) b) y f in
    rw (ex, ey) m

long_rising : (w : ℕ) → 0 < w → IsRising (λ v. long_if (floor_to (pos w) v))
unfolding IsRising
long_rising w h a b x y le e f =
    let m = truncation_mono w a b h le in
    let ex = if_some (fits_long (floor_to (pos w) a)) (floor_to (pos w) a) x e in
    let ey = if_some (fits_long (floor_to (pos w) b)) (floor_to (pos w) b) y f in
    rw (ex, ey) m

hour_rising : IsRising (λ v. int_if (floor_div (pos 3_600_000_000) v))
unfolding IsRising
hour_rising a b x y le e f =
    let m = unit_mono 3_600_000_000 a b (omega arith) le in
    let ex = if_some (fits_int (floor_div (pos 3_600_000_000) a)) (floor_div (pos 3_600_000_000) a) x e in
    let ey = if_some (fits_int (floor_div (pos 3_600_000_000) b)) (floor_div (pos 3_600_000_000) b) y f in
    rw (ex, ey) m

year_rising : IsRising year_of
unfolding IsRising
year_rising a b x y le e f = year_units a b x y le (year_of_means a x e) (year_of_means b y f)

month_rising : IsRising month_of
unfolding IsRising
month_rising a b x y le e f = month_units a b x y le (month_of_means a x e) (month_of_means b y f)

same_rising : IsRising Some
unfolding IsRising
same_rising a b x y le e f =
    let ex : a ≡ x = cc in
    let ey : b ≡ y = cc in
    rw (← ex, ← ey) le

-- of the day of a time
microseconds_rising : (g : ℤ → Option ℤ) → IsRising g → IsRising (λ v. g (floor_div (pos 86_400_000_000) v))
unfolding IsRising
microseconds_rising g rise a b x y le e f = rise (floor_div (pos 86_400_000_000) a) (floor_div (pos 86_400_000_000) b) x
    y (unit_mono 86_400_000_000 a b (omega arith) le) e f

days_rising : (g : ℤ → Option ℤ) → IsRising g → (t : ColumnType) (a b p q : Cell) → is_at_most a b ≡ true
    → option_map Whole (option_and_then g (day_of t a)) ≡ Some p
    → option_map Whole (option_and_then g (day_of t b)) ≡ Some q → is_at_most p q ≡ true
days_rising g rise Date (Whole a) (Whole b) p q le e f = whole_rising g rise a b p q le e f
days_rising g rise Timestamp (Whole a) (Whole b) p q le e f = whole_rising (λ v. g (floor_div (pos 86_400_000_000) v))
    (microseconds_rising g rise) a b p q le e f
days_rising g rise Timestamptz (Whole a) (Whole b) p q le e f = whole_rising (λ v. g (floor_div (pos 86_400_000_000) v))
    (microseconds_rising g rise) a b p q le e f
days_rising g rise t a b p q le e f = absurd cc

given_back : (o : Option ℤ) → option_and_then (λ (x : ℤ). Some x) o ≡ o
given_back None = refl
given_back (Some x) = refl

hours_rising : (t : ColumnType) (a b p q : Cell) → is_at_most a b ≡ true → option_map Whole (hour_of t a) ≡ Some p
    → option_map Whole (hour_of t b) ≡ Some q → is_at_most p q ≡ true
hours_rising Timestamp (Whole a) (Whole b) p q le e f = whole_rising (λ v. int_if (floor_div (pos 3_600_000_000) v))
    hour_rising a b p q le e f
hours_rising Timestamptz (Whole a) (Whole b) p q le e f = whole_rising (λ v. int_if (floor_div (pos 3_600_000_000) v))
    hour_rising a b p q le e f
hours_rising t a b p q le e f = absurd cc

cuts_rising : (w : ℕ) → 0 < w → (t : ColumnType) (a b p q : Cell) → is_at_most a b ≡ true → truncated w t a ≡ Some p
    → truncated w t b ≡ Some q → is_at_most p q ≡ true
cuts_rising w h Int (Whole a) (Whole b) p q le e f = whole_rising (λ v. int_if (floor_to (pos w) v)) (int_rising w h) a
    b p q le e f
cuts_rising w h Long (Whole a) (Whole b) p q le e f = whole_rising (λ v. long_if (floor_to (pos w) v)) (long_rising w h)
    a b p q le e f
cuts_rising w h String (Text a) (Text b) p q le e f =
    let x : Text (first_points w a) ≡ p = cc in
    let y : Text (first_points w b) ≡ q = cc in
    rw (← x, ← y) (points_mono w 0 a b le)
cuts_rising w h Binary (Bytes a) (Bytes b) p q le e f =
    let x : Bytes (take w a) ≡ p = cc in
    let y : Bytes (take w b) ≡ q = cc in
    rw (← x, ← y) (take_mono w a b le)
cuts_rising w h t a b p q le e f = absurd cc

present_rising : (f : Transform) (t : ColumnType) (a b p q : Cell) → is_rising f ≡ true → is_at_most a b ≡ true
    → present_value f t a ≡ Some p → present_value f t b ≡ Some q → is_at_most p q ≡ true
present_rising Identity t a b p q r le e f =
    let x : a ≡ p = cc in
    let y : b ≡ q = cc in
    rw (← x, ← y) le
present_rising (Truncate width) t a b p q r le e f = cuts_rising width.number width.positive t a b p q le e f
present_rising Year t a b p q r le e f = days_rising year_of year_rising t a b p q le e f
present_rising Month t a b p q r le e f = days_rising month_of month_rising t a b p q le e f
present_rising Day t a b p q r le e f =
    days_rising Some same_rising t a b p q le (ap (option_map Whole) (given_back (day_of t a)) ∙ e)
    (ap (option_map Whole) (given_back (day_of t b)) ∙ f)
present_rising Hour t a b p q r le e f = hours_rising t a b p q le e f
present_rising (Bucket buckets) t a b p q r le e f = absurd cc
present_rising Void t a b p q r le e f = absurd cc
present_rising (Unknown text) t a b p q r le e f = absurd cc

-- a smaller cell has no greater value
pub rising : (f : Transform) (t : ColumnType) (a b p q : Cell) → is_rising f ≡ true → is_at_most a b ≡ true
    → value_of f t a ≡ Some p → value_of f t b ≡ Some q → is_at_most p q ≡ true
rising f t (Flag a) (Flag b) p q r le e g = present_rising f t (Flag a) (Flag b) p q r le (given f t (Flag a) p e)
    (given f t (Flag b) q g)
rising f t (Whole a) (Whole b) p q r le e g = present_rising f t (Whole a) (Whole b) p q r le (given f t (Whole a) p e)
    (given f t (Whole b) q g)
rising f t (Text a) (Text b) p q r le e g = present_rising f t (Text a) (Text b) p q r le (given f t (Text a) p e)
    (given f t (Text b) q g)
rising f t (Bytes a) (Bytes b) p q r le e g = present_rising f t (Bytes a) (Bytes b) p q r le (given f t (Bytes a) p e)
    (given f t (Bytes b) q g)
rising f t _ _ p q r le e g = absurd cc

-- identity gives the cell itself
pub same_value : (t : ColumnType) (c : Cell) → value_of Identity t c ≡ Some c
same_value t Null = refl
same_value t (Flag truth) = refl
same_value t (Whole z) = refl
same_value t (Text text) = refl
same_value t (Bytes bytes) = refl
