-- The values of transforms (Apache Iceberg table spec v2, "Partition Transforms").
use Rattle.std.specs.Prelude.{ℕ, Bool, true, false, ◌||◌, List, Option, None, Some, if◌then◌else◌, ℤ, pos, take}
use Rattle.std.specs.Option.{option_map, option_and_then}
use Rattle.std.specs.Int.{w64, to_le_bytes, cast_unsigned}
use Rattle.ice_value.specs.declared.column_type.ColumnType.{ColumnType}
use Rattle.ice_value.specs.declared.column_type.ColumnType.TheVariants.{Int, Long, Date, Time, Timestamp, Timestamptz}
use Rattle.ice_value.specs.declared.column_type.ColumnType.TheVariants.{String, Uuid, Fixed, Binary}
use Rattle.ice_value.specs.declared.cell.Cell.{Cell}
use Rattle.ice_value.specs.declared.cell.Cell.TheVariants.{Null, Bool as Flag, Whole, Text, Bytes}
use Rattle.ice_value.specs.Bounds.{is_cell}
use Rattle.ice_transform.specs.declared.transform.Transform.{Transform}
use Rattle.ice_transform.specs.declared.transform.Transform.TheVariants.{Identity, Bucket, Truncate, Year, Month, Day}
use Rattle.ice_transform.specs.declared.transform.Transform.TheVariants.{Hour, Void, Unknown}
use Rattle.ice_transform.specs.Cuts.{first_points}
use Rattle.ice_transform.specs.Floors.{floor_div, floor_to, int_if, long_if}
use Rattle.ice_transform.specs.Murmur.{bucket_of}
use Rattle.ice_transform.specs.Years.{year_of, month_of}

-- the types that buckets take
abbrev pub has_buckets : ColumnType → Bool
has_buckets Int = true
has_buckets Long = true
has_buckets Date = true
has_buckets Time = true
has_buckets Timestamp = true
has_buckets Timestamptz = true
has_buckets String = true
has_buckets Uuid = true
has_buckets (Fixed size) = true
has_buckets Binary = true
has_buckets _ = false

-- the bytes that are hashed: 8 little-endian bytes of a number, the UTF-8 of a text, or the bytes themselves
abbrev pub hashed_bytes : Cell → Option (List ℕ)
hashed_bytes (Whole z) = Some (to_le_bytes w64 (cast_unsigned w64 z))
hashed_bytes (Text text) = Some text
hashed_bytes (Bytes bytes) = Some bytes
hashed_bytes _ = None

abbrev pub bucketed : ℕ → ColumnType → Cell → Option Cell
bucketed n t c = if has_buckets t then option_map (λ bs. Whole (pos (bucket_of n bs))) (hashed_bytes c) else None

abbrev pub truncated : ℕ → ColumnType → Cell → Option Cell
truncated w Int (Whole v) = option_map Whole (int_if (floor_to (pos w) v))
truncated w Long (Whole v) = option_map Whole (long_if (floor_to (pos w) v))
truncated w String (Text text) = Some (Text (first_points w text))
truncated w Binary (Bytes bytes) = Some (Bytes (take w bytes))
truncated _ _ _ = None

-- the day number of a date or a time in microseconds
abbrev pub day_of : ColumnType → Cell → Option ℤ
day_of Date (Whole day) = Some day
day_of Timestamp (Whole microseconds) = Some (floor_div (pos 86_400_000_000) microseconds)
day_of Timestamptz (Whole microseconds) = Some (floor_div (pos 86_400_000_000) microseconds)
day_of _ _ = None

-- the hour of a time in microseconds, where it fits an int
abbrev pub hour_of : ColumnType → Cell → Option ℤ
hour_of Timestamp (Whole microseconds) = int_if (floor_div (pos 3_600_000_000) microseconds)
hour_of Timestamptz (Whole microseconds) = int_if (floor_div (pos 3_600_000_000) microseconds)
hour_of _ _ = None

-- all cells have the value null
abbrev pub is_void : Transform → Bool
is_void Void = true
is_void _ = false

-- every cell has a value, whatever the source type is
abbrev pub takes_any : Transform → Bool
takes_any Identity = true
takes_any Void = true
takes_any _ = false

-- the value of a cell that isn't null, by the transform
abbrev pub present_value : Transform → ColumnType → Cell → Option Cell
present_value Identity t c = Some c
present_value (Bucket buckets) t c = bucketed buckets.number t c
present_value (Truncate width) t c = truncated width.number t c
present_value Year t c = option_map Whole (option_and_then year_of (day_of t c))
present_value Month t c = option_map Whole (option_and_then month_of (day_of t c))
present_value Day t c = option_map Whole (day_of t c)
present_value Hour t c = option_map Whole (hour_of t c)
present_value Void t c = Some Null
present_value (Unknown text) t c = None

-- but for identity and void, a cell that isn't of the source type has none
abbrev pub typed_value : Transform → ColumnType → Cell → Option Cell
typed_value f t c = if takes_any f || is_cell t c then present_value f t c else None

-- the value of a transform over a source type; every transform of null is null
abbrev pub value_of : Transform → ColumnType → Cell → Option Cell
value_of f t Null = Some Null
value_of f t (Flag truth) = typed_value f t (Flag truth)
value_of f t (Whole v) = typed_value f t (Whole v)
value_of f t (Text text) = typed_value f t (Text text)
value_of f t (Bytes bytes) = typed_value f t (Bytes bytes)

-- dates and times
abbrev pub has_days : ColumnType → Bool
has_days Date = true
has_days Timestamp = true
has_days Timestamptz = true
has_days _ = false

abbrev pub has_hours : ColumnType → Bool
has_hours Timestamp = true
has_hours Timestamptz = true
has_hours _ = false

-- numbers, texts and byte strings of any length
abbrev pub has_truncation : ColumnType → Bool
has_truncation Int = true
has_truncation Long = true
has_truncation String = true
has_truncation Binary = true
has_truncation _ = false

-- the type of the values of a transform; none where it is unknown or doesn't take the source type
abbrev pub type_of : Transform → ColumnType → Option ColumnType
type_of Identity t = Some t
type_of (Bucket buckets) t = if has_buckets t then Some Int else None
type_of (Truncate width) t = if has_truncation t then Some t else None
type_of Year t = if has_days t then Some Int else None
type_of Month t = if has_days t then Some Int else None
type_of Day t = if has_days t then Some Int else None
type_of Hour t = if has_hours t then Some Int else None
type_of Void t = Some Int
type_of (Unknown text) t = None

-- a known transform that keeps the order
abbrev pub is_rising : Transform → Bool
is_rising (Bucket buckets) = false
is_rising Void = false
is_rising (Unknown text) = false
is_rising _ = true
