-- What the value of a transform is (Apache Iceberg table spec v2, "Partition Transforms"), by its properties.
use Rattle.std.specs.Prelude.{◌≡◌, ℕ, true, ◌||◌, List, Some, ℤ, pos, take, encode_utf8_all}
use Rattle.std.specs.Str.{chars}
use Rattle.ice_value.specs.Bounds.{fits_int, fits_long, is_cell}
use Rattle.ice_value.specs.declared.column_type.ColumnType.{ColumnType}
use Rattle.ice_value.specs.declared.column_type.ColumnType.TheVariants.{Int, Long, Date, Timestamp, Timestamptz, String}
use Rattle.ice_value.specs.declared.column_type.ColumnType.TheVariants.{Binary}
use Rattle.ice_value.specs.declared.cell.Cell.{Cell}
use Rattle.ice_value.specs.declared.cell.Cell.TheVariants.{Null, Bool as Flag, Whole, Text, Bytes}
use Rattle.ice_transform.specs.declared.transform.Transform.{Transform}
use Rattle.ice_transform.specs.declared.transform.Transform.TheVariants.{Identity, Bucket, Truncate, Year, Month, Day}
use Rattle.ice_transform.specs.declared.transform.Transform.TheVariants.{Hour, Void, Unknown}
use Rattle.ice_transform.specs.Floors.{IsUnitOf, IsTruncation}
use Rattle.ice_transform.specs.Murmur.{bucket_of}
use Rattle.ice_transform.specs.Values.{has_buckets, hashed_bytes, takes_any}
use Rattle.ice_transform.specs.Years.{IsYearUnit, IsMonthUnit}

-- p is the multiple of the width with p ≤ v < p + width, in the type of v; of a text it is the first code points, of
-- bytes the first bytes
abbrev pub IsTruncated : ℕ → ColumnType → Cell → Cell → Type 0
IsTruncated w Int (Whole v) (Whole p) = IsTruncation (pos w) v p × (fits_int p ≡ true)
IsTruncated w Long (Whole v) (Whole p) = IsTruncation (pos w) v p × (fits_long p ≡ true)
IsTruncated w String (Text v) (Text p) = p ≡ encode_utf8_all (take w (chars v))
IsTruncated w Binary (Bytes v) (Bytes p) = p ≡ take w v
IsTruncated _ _ _ _ = ⊥

-- the day of a date, or in which a time in microseconds lies
abbrev pub IsDayOf : ColumnType → Cell → ℤ → Type 0
IsDayOf Date (Whole v) day = day ≡ v
IsDayOf Timestamp (Whole v) day = IsUnitOf (pos 86_400_000_000) v day
IsDayOf Timestamptz (Whole v) day = IsUnitOf (pos 86_400_000_000) v day
IsDayOf _ _ _ = ⊥

-- the hour in which a time in microseconds lies, where it fits an int
abbrev pub IsHourOf : ColumnType → Cell → ℤ → Type 0
IsHourOf Timestamp (Whole v) hour = IsUnitOf (pos 3_600_000_000) v hour × (fits_int hour ≡ true)
IsHourOf Timestamptz (Whole v) hour = IsUnitOf (pos 3_600_000_000) v hour × (fits_int hour ≡ true)
IsHourOf _ _ _ = ⊥

-- p is the value of c, which isn't null, by the transform
abbrev pub IsPresentValue : Transform → ColumnType → Cell → Cell → Type 0
IsPresentValue Identity t c p = p ≡ c
IsPresentValue (Bucket buckets) t c p =
    (bs : List ℕ) × (has_buckets t ≡ true) × (hashed_bytes c ≡ Some bs) ×
    (p ≡ Whole (pos (bucket_of buckets.number bs)))
IsPresentValue (Truncate width) t c p = IsTruncated width.number t c p
IsPresentValue Year t c p = (day : ℤ) × (year : ℤ) × IsDayOf t c day × IsYearUnit day year × (p ≡ Whole year)
IsPresentValue Month t c p = (day : ℤ) × (month : ℤ) × IsDayOf t c day × IsMonthUnit day month × (p ≡ Whole month)
IsPresentValue Day t c p = (day : ℤ) × IsDayOf t c day × (p ≡ Whole day)
IsPresentValue Hour t c p = (hour : ℤ) × IsHourOf t c hour × (p ≡ Whole hour)
IsPresentValue Void t c p = p ≡ Null
IsPresentValue (Unknown text) t c p = ⊥

-- but for identity and void, a cell that isn't of the source type has no value
abbrev pub IsTypedValue : Transform → ColumnType → Cell → Cell → Type 0
IsTypedValue f t c p = ((takes_any f || is_cell t c) ≡ true) × IsPresentValue f t c p

-- p is the transform's value of c over this source type
abbrev pub IsValueOf : Transform → ColumnType → Cell → Cell → Type 0
IsValueOf f t Null p = p ≡ Null
IsValueOf f t (Flag truth) p = IsTypedValue f t (Flag truth) p
IsValueOf f t (Whole v) p = IsTypedValue f t (Whole v) p
IsValueOf f t (Text text) p = IsTypedValue f t (Text text) p
IsValueOf f t (Bytes bytes) p = IsTypedValue f t (Bytes bytes) p
