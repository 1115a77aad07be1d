-- Values are of the result type.
use Rattle.std.proofs.Common.{◌≡◌, ◌≢◌, ℕ, ◌<◌, ℤ, pos, negsuc, ◌≤ℤ◌, ◌<ℤ◌, Bool, true, false, cond, List, Option, None}
use Rattle.std.proofs.Common.{Some, ◌⊎◌, inl, inr, refl, arith, sym, take}
use Rattle.std.specs.Option.{option_map, option_and_then}
use Rattle.std.proofs.Math.Nat.{mod-lt}
use Rattle.std.proofs.lemmas.Int.{ints}
use Rattle.std.proofs.lemmas.Bool.Decides.{nat_tests}
use Rattle.std.proofs.lemmas.Str.{is_utf8-from_IsUtf8, IsUtf8-from_is_utf8}
use Rattle.ice_value.specs.declared.column_type.ColumnType.{ColumnType}
use Rattle.ice_value.specs.declared.column_type.ColumnType.TheVariants.{Int, Long, Date, Timestamp, Timestamptz, String}
use Rattle.ice_value.specs.declared.column_type.ColumnType.TheVariants.{Binary}
use Rattle.ice_value.specs.declared.cell.Cell.{Cell}
use Rattle.ice_value.specs.declared.cell.Cell.TheVariants.{Null, Bool as Flag, Whole, Text, Bytes}
use Rattle.ice_value.specs.Bounds.{fits_int, fits_long, is_cell}
use Rattle.ice_transform.specs.declared.transform.Transform.{Transform}
use Rattle.ice_transform.specs.declared.transform.Transform.TheVariants.{Identity, Bucket, Truncate, Year, Month, Day}
use Rattle.ice_transform.specs.declared.transform.Transform.TheVariants.{Hour, Void, Unknown}
use Rattle.ice_transform.specs.Cuts.{first_points}
use Rattle.ice_transform.specs.Floors.{floor_div, floor_to, int_if, long_if}
use Rattle.ice_transform.specs.Murmur.{bucket_of}
use Rattle.ice_transform.specs.Years.{year_of, month_of, IsYearUnit, IsMonthUnit}
use Rattle.ice_transform.specs.Values.{value_of, typed_value, present_value, type_of, takes_any, bucketed, truncated}
use Rattle.ice_transform.specs.Values.{day_of, hour_of, has_buckets, has_days, has_hours, hashed_bytes}
use Rattle.ice_transform.proofs.Days.{year_of_means, month_of_means}
use Rattle.ice_transform.proofs.Points.{points_IsUtf8}
use Rattle.ice_transform.proofs.Rounded.{unit_is}
use Rattle.ice_transform.proofs.ValueLaws.{given}

-- the transform has a result type, and the cell is of it
abbrev IsTyped : Transform → ColumnType → Cell → Type 0
IsTyped f t p = (r : ColumnType) × (type_of f t ≡ Some r) × (is_cell r p ≡ true)

int_fits : (z : ℤ) → negsuc 0x7fff_ffff ≤ℤ z → z <ℤ pos 0x8000_0000 → fits_int z ≡ true
int_fits (pos n) low high = grind (arith, ints, nat_tests)
int_fits (negsuc n) low high = grind (arith, ints, nat_tests)

long_bounds : (z : ℤ) → fits_long z ≡ true → (negsuc 0x7fff_ffff_ffff_ffff ≤ℤ z) × (z <ℤ pos 0x8000_0000_0000_0000)
long_bounds (pos n) h = (grind (arith, ints, nat_tests), grind (arith, ints, nat_tests))
long_bounds (negsuc n) h = (grind (arith, ints, nat_tests), grind (arith, ints, nat_tests))

whole_of : (o : Option ℤ) (p : Cell) → option_map Whole o ≡ Some p → (z : ℤ) × (o ≡ Some z) × (Whole z ≡ p)
whole_of None p h = absurd cc
whole_of (Some z) p h = (z, refl, cc)

if_fits : (b : Bool) (z p : ℤ) → cond b (Some z) None ≡ Some p → (b ≡ true) × (z ≡ p)
if_fits true z p h = (refl, cc)
if_fits false z p h = absurd cc

int_of : (z p : ℤ) → int_if z ≡ Some p → fits_int p ≡ true
int_of z p h = let s = if_fits (fits_int z) z p h in rw (← s.1) s.0

long_of : (z p : ℤ) → long_if z ≡ Some p → fits_long p ≡ true
long_of z p h = let s = if_fits (fits_long z) z p h in rw (← s.1) s.0

-- an int, where the transform takes the type
int_typed : (f : Transform) (t : ColumnType) (z : ℤ) (p : Cell) → type_of f t ≡ Some Int → fits_int z ≡ true
    → Whole z ≡ p → IsTyped f t p
int_typed f t z p taken fits is = (Int, taken, rw (← is) fits)

bucket_typed : (f : Transform) (n : ℕ) (t : ColumnType) (c p : Cell) → 0 < n → n < 0x8000_0000
    → (has_buckets t ≡ true → type_of f t ≡ Some Int) → bucketed n t c ≡ Some p → IsTyped f t p
bucket_typed f n t c p some small taken h = go (has_buckets t) refl (hashed_bytes c) h where
  below : (bs : List ℕ) → fits_int (pos (bucket_of n bs)) ≡ true
  below bs = int_fits (pos (bucket_of n bs)) (omega (arith, ints)) (let l : bucket_of n bs < n = mod-lt _ some in
      omega (arith, ints, l))

  go : (b : Bool) → has_buckets t ≡ b → (o : Option (List ℕ))
      → cond b (option_map (λ bs. Whole (pos (bucket_of n bs))) o) None ≡ Some p → IsTyped f t p
  go true e (Some bs) g = int_typed f t (pos (bucket_of n bs)) p (taken e) (below bs) cc
  go true e None g = absurd cc
  go false e o g = absurd cc

cut_typed : (f : Transform) (w : ℕ) (t : ColumnType) (c p : Cell) → is_cell t c ≡ true → truncated w t c ≡ Some p
    → (type_of f Int ≡ Some Int) × (type_of f Long ≡ Some Long) × (type_of f String ≡ Some String) ×
    (type_of f Binary ≡ Some Binary) → IsTyped f t p
cut_typed f w Int (Whole v) p u h taken =
    let s = whole_of (int_if (floor_to (pos w) v)) p h in
    let fits = int_of (floor_to (pos w) v) s.0 s.1 in
    (Int, taken.0, rw (← s.2) fits)
cut_typed f w Long (Whole v) p u h taken =
    let s = whole_of (long_if (floor_to (pos w) v)) p h in
    let fits = long_of (floor_to (pos w) v) s.0 s.1 in
    (Long, taken.1, rw (← s.2) fits)
cut_typed f w String (Text text) p u h taken =
    let is : Text (first_points w text) ≡ p = cc in
    let utf8 = is_utf8-from_IsUtf8 _ (points_IsUtf8 w text (IsUtf8-from_is_utf8 text u)) in
    (String, taken.2, rw (← is) utf8)
cut_typed f w Binary (Bytes bytes) p u h taken =
    let is : Bytes (take w bytes) ≡ p = cc in
    (Binary, taken.3, rw (← is) refl)
cut_typed f w t c p u h taken = absurd cc

has_day : (t : ColumnType) (c : Cell) (d : ℤ) → day_of t c ≡ Some d → has_days t ≡ true
has_day Date (Whole v) d h = refl
has_day Timestamp (Whole v) d h = refl
has_day Timestamptz (Whole v) d h = refl
has_day t c d h = absurd cc

has_hour : (t : ColumnType) (c : Cell) (z : ℤ) → hour_of t c ≡ Some z → (has_hours t ≡ true) × (fits_int z ≡ true)
has_hour Timestamp (Whole v) z h = (refl, int_of (floor_div (pos 3_600_000_000) v) z h)
has_hour Timestamptz (Whole v) z h = (refl, int_of (floor_div (pos 3_600_000_000) v) z h)
has_hour t c z h = absurd cc

some_is : (x y : ℤ) → Some x ≡ Some y → x ≡ y
some_is x y h = cc

day_of_time : (v d : ℤ) → fits_long v ≡ true → Some (floor_div (pos 86_400_000_000) v) ≡ Some d → fits_int d ≡ true
day_of_time v d h e =
    let u = unit_is 86_400_000_000 v (omega arith) in
    let b = long_bounds v h in
    let is = some_is (floor_div (pos 86_400_000_000) v) d e in
    rw (← is) (int_fits (floor_div (pos 86_400_000_000) v) (omega (arith, ints, u, b)) (omega (arith, ints, u, b)))

day_fits : (t : ColumnType) (c : Cell) (d : ℤ) → is_cell t c ≡ true → day_of t c ≡ Some d → fits_int d ≡ true
day_fits Date (Whole v) d u h = let is = some_is v d h in rw (← is) u
day_fits Timestamp (Whole v) d u h = day_of_time v d u h
day_fits Timestamptz (Whole v) d u h = day_of_time v d u h
day_fits t c d u h = absurd cc

year_fits : (d z : ℤ) → IsYearUnit d z → fits_int z ≡ true
year_fits d z h = int_fits z (omega (arith, ints, h.known)) (omega (arith, ints, h.known))

month_fits : (d z : ℤ) → IsMonthUnit d z → fits_int z ≡ true
month_fits d z (y, m, h, e) = int_fits z (omega (arith, ints, e, h.known, h.month))
    (omega (arith, ints, e, h.known, h.month))

dated : (g : ℤ → Option ℤ) (o : Option ℤ) (z : ℤ) → option_and_then g o ≡ Some z
    → (d : ℤ) × (o ≡ Some d) × (g d ≡ Some z)
dated g None z h = absurd cc
dated g (Some d) z h = (d, refl, h)

dated_typed : (f : Transform) (g : ℤ → Option ℤ) (t : ColumnType) (c p : Cell)
    → (has_days t ≡ true → type_of f t ≡ Some Int) → ((d z : ℤ) → g d ≡ Some z → fits_int z ≡ true)
    → option_map Whole (option_and_then g (day_of t c)) ≡ Some p → IsTyped f t p
dated_typed f g t c p taken fits h =
    let s = whole_of (option_and_then g (day_of t c)) p h in
    let d = dated g (day_of t c) s.0 s.1 in
    int_typed f t s.0 p (taken (has_day t c d.0 d.1)) (fits d.0 s.0 d.2) s.2

int_where : (b : Bool) → b ≡ true → cond b (Some Int) None ≡ Some Int
int_where b h = rw h refl

present_typed : (f : Transform) (t : ColumnType) (c p : Cell) → is_cell t c ≡ true → present_value f t c ≡ Some p
    → (p ≡ Null) ⊎ IsTyped f t p
present_typed Identity t c p u h = let is : c ≡ p = cc in inr (t, refl, rw (← is) u)
present_typed (Bucket buckets) t c p u h = inr (bucket_typed (Bucket buckets) buckets.number t c p buckets.positive
    buckets.below (int_where (has_buckets t)) h)
present_typed (Truncate width) t c p u h = inr (cut_typed (Truncate width) width.number t c p u h
    (refl, refl, refl, refl))
present_typed Year t c p u h = inr (dated_typed Year year_of t c p (int_where (has_days t))
    (λ d z e. year_fits d z (year_of_means d z e)) h)
present_typed Month t c p u h = inr (dated_typed Month month_of t c p (int_where (has_days t)) (λ d z e. month_fits d z
    (month_of_means d z e)) h)
present_typed Day t c p u h =
    let s = whole_of (day_of t c) p h in
    inr (int_typed Day t s.0 p (int_where (has_days t) (has_day t c s.0 s.1)) (day_fits t c s.0 u s.1) s.2)
present_typed Hour t c p u h =
    let s = whole_of (hour_of t c) p h in
    let k = has_hour t c s.0 s.1 in
    inr (int_typed Hour t s.0 p (int_where (has_hours t) k.0) k.1 s.2)
present_typed Void t c p u h = let is : Null ≡ p = cc in inl (sym is)
present_typed (Unknown text) t c p u h = absurd cc

-- the value of a cell of the source type is null, or of the result type
pub value_typed : (f : Transform) (t : ColumnType) (c p : Cell) → is_cell t c ≡ true → value_of f t c ≡ Some p
    → (p ≡ Null) ⊎ IsTyped f t p
value_typed f t Null p u h = let is : Null ≡ p = cc in inl (sym is)
value_typed f t (Flag truth) p u h = present_typed f t (Flag truth) p u (given f t (Flag truth) p h)
value_typed f t (Whole z) p u h = present_typed f t (Whole z) p u (given f t (Whole z) p h)
value_typed f t (Text text) p u h = present_typed f t (Text text) p u (given f t (Text text) p h)
value_typed f t (Bytes bytes) p u h = present_typed f t (Bytes bytes) p u (given f t (Bytes bytes) p h)

untyped : (f : Transform) (t : ColumnType) (c : Cell) → takes_any f ≡ false → is_cell t c ≡ false
    → typed_value f t c ≡ None
untyped f t c a u = rw (a, u) refl

-- but for identity and void, a cell of another type has no value
pub no_value : (f : Transform) (t : ColumnType) (c : Cell) → takes_any f ≡ false → is_cell t c ≡ false → c ≢ Null
    → value_of f t c ≡ None
no_value f t Null a u solid = absurd (solid refl)
no_value f t (Flag truth) a u solid = untyped f t (Flag truth) a u
no_value f t (Whole z) a u solid = untyped f t (Whole z) a u
no_value f t (Text text) a u solid = untyped f t (Text text) a u
no_value f t (Bytes bytes) a u solid = untyped f t (Bytes bytes) a u
