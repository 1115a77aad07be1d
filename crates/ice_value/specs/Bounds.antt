-- Single values in bytes (Apache Iceberg table spec v2, "Appendix D: Single-value serialization", binary form).
use Rattle.std.specs.Prelude.{◌≡◌, ℕ, ◌==◌, not, ◌||◌, Bool, true, false, List, [], ◌∷◌, length, Option, None, Some}
use Rattle.std.specs.Prelude.{if◌then◌else◌, ℤ, pos, negsuc, nat_lt, ◌⊎◌}
use Rattle.std.specs.Option.{option_and_then, option_map}
use Rattle.std.specs.Int.{w32, w64, cast_signed, cast_unsigned, from_le_bytes, to_le_bytes}
use Rattle.std.specs.Str.{is_utf8}
use Rattle.std.specs.declared.cmp.Ordering.{Ordering}
use Rattle.ice_value.specs.declared.column_type.ColumnType.{ColumnType}
use Rattle.ice_value.specs.declared.column_type.ColumnType.TheVariants.{Boolean, Int, Long, Date, Time, Timestamp}
use Rattle.ice_value.specs.declared.column_type.ColumnType.TheVariants.{Timestamptz, String, Uuid, Fixed, Binary}
use Rattle.ice_value.specs.declared.column_type.ColumnType.TheVariants.{Decimal}
use Rattle.ice_value.specs.declared.cell.Cell.{Cell}
use Rattle.ice_value.specs.declared.cell.Cell.TheVariants.{Null, Bool as Flag, Whole, Text, Bytes}
use Rattle.ice_value.specs.Cells.{order}

-- z is the number of these 4 bytes, the lowest first
abbrev pub IsInt : ℤ → List ℕ → Type 0
IsInt z bs = (length bs ≡ 4) × (z ≡ cast_signed w32 (from_le_bytes w32 bs))

-- z is the number of these 8 bytes, the lowest first
abbrev pub IsLong : ℤ → List ℕ → Type 0
IsLong z bs = (length bs ≡ 8) × (z ≡ cast_signed w64 (from_le_bytes w64 bs))

-- The bytes hold this value of this type. Columns of type long may have been ints when a bound was written. Bounds of
-- floats, doubles and decimals aren't read.
abbrev pub Holds : ColumnType → Cell → List ℕ → Type 0
Holds Boolean (Flag truth) bs = (b : ℕ) × (bs ≡ b ∷ []) × (truth ≡ not (b == 0))
Holds Int (Whole z) bs = IsInt z bs
Holds Date (Whole z) bs = IsInt z bs
Holds Long (Whole z) bs = IsLong z bs ⊎ IsInt z bs
Holds Time (Whole z) bs = IsLong z bs
Holds Timestamp (Whole z) bs = IsLong z bs
Holds Timestamptz (Whole z) bs = IsLong z bs
Holds String (Text text) bs = (bs ≡ text) × (is_utf8 bs ≡ true)
Holds Uuid (Bytes u) bs = (bs ≡ u) × (length bs ≡ 16)
Holds (Fixed size) (Bytes value) bs = (bs ≡ value) × (length bs ≡ size)
Holds Binary (Bytes value) bs = bs ≡ value
Holds _ _ _ = ⊥

-- the number of 4 bytes
abbrev pub int_in : List ℕ → Option ℤ
int_in bs = if length bs == 4 then Some (cast_signed w32 (from_le_bytes w32 bs)) else None

-- the number of 8 bytes
abbrev pub long_in : List ℕ → Option ℤ
long_in bs = if length bs == 8 then Some (cast_signed w64 (from_le_bytes w64 bs)) else None

-- the number of 8 bytes, or of 4
abbrev pub widened_in : List ℕ → Option ℤ
widened_in bs = if length bs == 4 then Some (cast_signed w32 (from_le_bytes w32 bs)) else long_in bs

abbrev pub flag_in : List ℕ → Option Bool
flag_in (b ∷ []) = Some (not (b == 0))
flag_in _ = None

-- the bytes themselves, where there are so many
abbrev pub sized_in : ℕ → List ℕ → Option (List ℕ)
sized_in size bs = if length bs == size then Some bs else None

-- the value of this type that the bytes hold
abbrev pub cell_in : ColumnType → List ℕ → Option Cell
cell_in Boolean bs = option_map Flag (flag_in bs)
cell_in Int bs = option_map Whole (int_in bs)
cell_in Date bs = option_map Whole (int_in bs)
cell_in Long bs = option_map Whole (widened_in bs)
cell_in Time bs = option_map Whole (long_in bs)
cell_in Timestamp bs = option_map Whole (long_in bs)
cell_in Timestamptz bs = option_map Whole (long_in bs)
cell_in String bs = if is_utf8 bs then Some (Text bs) else None
cell_in Uuid bs = option_map Bytes (sized_in 16 bs)
cell_in (Fixed size) bs = option_map Bytes (sized_in size bs)
cell_in Binary bs = Some (Bytes bs)
cell_in _ bs = None

-- the order of the value that the bytes hold and the cell
abbrev pub order_in : ColumnType → List ℕ → Cell → Option Ordering
order_in t bs c = option_and_then (λ b. order b c) (cell_in t bs)

-- the number fits 32 bits
abbrev pub fits_int : ℤ → Bool
fits_int (pos n) = nat_lt n 0x8000_0000
fits_int (negsuc n) = nat_lt n 0x8000_0000

-- the number fits 64 bits
abbrev pub fits_long : ℤ → Bool
fits_long (pos n) = nat_lt n 0x8000_0000_0000_0000
fits_long (negsuc n) = nat_lt n 0x8000_0000_0000_0000

-- the cell is a value of this type, of those that have bounds
abbrev pub is_value : ColumnType → Cell → Bool
is_value Boolean (Flag truth) = true
is_value Int (Whole z) = fits_int z
is_value Date (Whole z) = fits_int z
is_value Long (Whole z) = fits_long z
is_value Time (Whole z) = fits_long z
is_value Timestamp (Whole z) = fits_long z
is_value Timestamptz (Whole z) = fits_long z
is_value String (Text text) = is_utf8 text
is_value Uuid (Bytes u) = length u == 16
is_value (Fixed size) (Bytes value) = length value == size
is_value Binary (Bytes value) = true
is_value _ _ = false

-- the bytes of a decimal number
abbrev pub is_decimal : ColumnType → Cell → Bool
is_decimal (Decimal precision scale) (Bytes bytes) = true
is_decimal _ _ = false

-- the cell is a value of this type; there are no cells of floats and doubles
abbrev pub is_cell : ColumnType → Cell → Bool
is_cell t c = is_decimal t c || is_value t c

abbrev pub flag_byte : Bool → ℕ
flag_byte true = 1
flag_byte false = 0

abbrev pub int_bytes : ℤ → List ℕ
int_bytes z = to_le_bytes w32 (cast_unsigned w32 z)

abbrev pub long_bytes : ℤ → List ℕ
long_bytes z = to_le_bytes w64 (cast_unsigned w64 z)

-- the bytes of a value of this type
abbrev pub bytes_of : ColumnType → Cell → List ℕ
bytes_of t Null = []
bytes_of t (Flag truth) = flag_byte truth ∷ []
bytes_of Int (Whole z) = int_bytes z
bytes_of Date (Whole z) = int_bytes z
bytes_of _ (Whole z) = long_bytes z
bytes_of t (Text text) = text
bytes_of t (Bytes value) = value

-- the bytes of the cell, where it is a value of this type
abbrev pub written : ColumnType → Cell → Option (List ℕ)
written t c = if is_value t c then Some (bytes_of t c) else None
