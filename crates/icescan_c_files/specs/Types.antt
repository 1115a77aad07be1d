-- What C is told of the type of a partition value.
use Rattle.std.specs.Prelude.{ℕ, Option, Some, None}
use Rattle.ice_value.specs.declared.column_type.ColumnType.{ColumnType}
use Rattle.ice_value.specs.declared.column_type.ColumnType.TheVariants as column
use Rattle.icescan_c_files.specs.declared.value_type.ValueType.{ValueType}

-- a type of this number, so wide, with so many digits behind the point
abbrev pub told_width : ℕ → ℕ → ℕ → ValueType
told_width number width scale = record { number = number; width = width; scale = scale }

-- the number of a type that is known, with the bytes of a fixed and the digits of a decimal
abbrev pub told_type : Option ColumnType → ValueType
told_type None = told_width 0 0 0
told_type (Some column.Boolean) = told_width 1 0 0
told_type (Some column.Int) = told_width 2 0 0
told_type (Some column.Long) = told_width 3 0 0
told_type (Some column.Float) = told_width 4 0 0
told_type (Some column.Double) = told_width 5 0 0
told_type (Some column.Date) = told_width 6 0 0
told_type (Some column.Time) = told_width 7 0 0
told_type (Some column.Timestamp) = told_width 8 0 0
told_type (Some column.Timestamptz) = told_width 9 0 0
told_type (Some column.String) = told_width 10 0 0
told_type (Some column.Uuid) = told_width 11 0 0
told_type (Some (column.Fixed bytes)) = told_width 12 bytes 0
told_type (Some column.Binary) = told_width 13 0 0
told_type (Some (column.Decimal precision scale)) = told_width 14 precision scale
