-- Partition values as JSON (Apache Iceberg table spec v2, "JSON single-value serialization"). A value that isn't of its
-- field's type, or of whose field no type is known, is written as what it is: a boolean, a number, a text, or the
-- hexadecimal digits of its bytes.
use Rattle.std.specs.Prelude.{ℕ, ◌/◌, ◌%◌, ◌==◌, List, [], ◌∷◌, ◌++◌, if◌then◌else◌, codes, length, map}
use Rattle.std.specs.Prelude.{Option, Some, None, ℤ, pos, negsuc, nat_lt}
use Rattle.std.specs.List.{enumerate_from, flat_map, slice_get}
use Rattle.serde_json.specs.Data.{Data, null, boolean, string, Items}
use Rattle.serde_json.specs.View.{items_of}
use Rattle.uuid.specs.Text.{hyphenated_text, lower}
use Rattle.ice_value.specs.declared.cell.Cell.{Cell}
use Rattle.ice_value.specs.declared.cell.Cell.TheVariants.{Null, Bool as Flag, Whole, Text, Bytes}
use Rattle.ice_value.specs.declared.column_type.ColumnType.{ColumnType}
use Rattle.ice_value.specs.declared.column_type.ColumnType.TheVariants.{Date, Time, Timestamp, Timestamptz, Uuid}
use Rattle.ice_value.specs.declared.column_type.ColumnType.TheVariants.{Decimal}
use Rattle.icescan_forms.specs.Objects.{number_json}
use Rattle.icescan_print.specs.Escaping.{hex_digit}
use Rattle.icescan_json.specs.Dates.{date_text, time_text, timestamp_text}
use Rattle.icescan_json.specs.Decimals.{decimal_text, is_decimal, unscaled}

-- so many microseconds after midnight are a time of the day
abbrev pub time_json : ℤ → Data
time_json (pos n) = if nat_lt n 86_400_000_000 then string (time_text n) else number_json (pos n)
time_json (negsuc n) = number_json (negsuc n)

abbrev pub whole_json : Option ColumnType → ℤ → Data
whole_json (Some Date) z = string (date_text z)
whole_json (Some Time) z = time_json z
whole_json (Some Timestamp) z = string (timestamp_text z)
whole_json (Some Timestamptz) z = string (timestamp_text z ++ codes "+00:00")
whole_json _ z = number_json z

-- two digits for each byte
abbrev pub hex_text : List ℕ → List ℕ
hex_text bytes = flat_map (λ b. hex_digit (b / 16) ∷ hex_digit (b % 16) ∷ []) bytes

abbrev pub uuid_json : List ℕ → Data
uuid_json bytes = string (if length bytes == 16 then hyphenated_text lower bytes else hex_text bytes)

abbrev pub decimal_json : ℕ → List ℕ → Data
decimal_json scale bytes =
    string (if is_decimal scale bytes then decimal_text scale (unscaled bytes) else hex_text bytes)

abbrev pub bytes_json : Option ColumnType → List ℕ → Data
bytes_json (Some Uuid) bytes = uuid_json bytes
bytes_json (Some (Decimal precision scale)) bytes = decimal_json scale bytes
bytes_json _ bytes = string (hex_text bytes)

unfoldable pub cell_json : Option ColumnType → Cell → Data
cell_json t Null = null
cell_json t (Flag truth) = boolean truth
cell_json t (Whole z) = whole_json t z
cell_json t (Text text) = string text
cell_json t (Bytes bytes) = bytes_json t bytes

-- the type at a place, where one is known
abbrev pub type_at : List (Option ColumnType) → ℕ → Option ColumnType
type_at types i = known (slice_get types i) where
  known : Option (Option ColumnType) → Option ColumnType
  known None = None
  known (Some t) = t

-- the values in their order, each with the type at its place
abbrev pub cells_json : List (Option ColumnType) → List Cell → Items
cells_json types cells = items_of (map (λ p. cell_json (type_at types p.0) p.1) (enumerate_from 0 cells))
