-- The texts of primitive types (Apache Iceberg table spec v2, "Primitive Types"), without spaces.
use Rattle.std.specs.Prelude.{ℕ, List, ◌++◌, codes}
use Rattle.std.specs.Fmt.{decimal}
use Rattle.ice_value.specs.declared.column_type.ColumnType.{ColumnType}
use Rattle.ice_value.specs.declared.column_type.ColumnType.TheVariants as type

abbrev pub type_text : ColumnType → List ℕ
type_text type.Boolean = codes "boolean"
type_text type.Int = codes "int"
type_text type.Long = codes "long"
type_text type.Float = codes "float"
type_text type.Double = codes "double"
type_text type.Date = codes "date"
type_text type.Time = codes "time"
type_text type.Timestamp = codes "timestamp"
type_text type.Timestamptz = codes "timestamptz"
type_text type.String = codes "string"
type_text type.Uuid = codes "uuid"
type_text (type.Fixed size) = codes "fixed[" ++ (decimal size ++ codes "]")
type_text type.Binary = codes "binary"
type_text (type.Decimal precision scale) =
    codes "decimal(" ++ (decimal precision ++ (codes "," ++ (decimal scale ++ codes ")")))
