-- The columns of a schema (Apache Iceberg table spec v2, "Schemas and Data Types"). A column is a field of the row or
-- of a struct, a list's element, or a map's key or value. A schema has its columns in a row, each at its place.
use Rattle.std.specs.Prelude.{ℕ, suc, ℤ, Bool, false, ◌&&◌, List, [], ◌∷◌, Option, None, Some, if◌then◌else◌, slice_get}
use Rattle.std.specs.Prelude.{find}
use Rattle.std.specs.Option.{option_and_then, option_eq}
use Rattle.std.specs.Ordering.{int_eq}
use Rattle.std.specs.Prelude.{nat_eq}
use Rattle.std.specs.Str.{bytes_eq}
use Rattle.ice_value.specs.declared.column_type.ColumnType.{ColumnType}
use Rattle.ice_meta.specs.declared.schema.Column.{Column}
use Rattle.ice_meta.specs.declared.schema.Schema.{Schema}

-- the name is there, and it is this one
abbrev pub is_name : List ℕ → Option (List ℕ) → Bool
is_name name None = false
is_name name (Some own) = bytes_eq own name

-- the column is a field of this name in the struct at a place, or in the row
abbrev pub is_field : Option ℕ → List ℕ → Column → Bool
is_field around name column = is_name name column.name && option_eq nat_eq column.around around

-- the place of the first column that passes, where the list begins at this place
abbrev pub first_place : (Column → Bool) → ℕ → List Column → Option ℕ
first_place test place [] = None
first_place test place (c ∷ cs) = if test c then Some place else first_place test (suc place) cs

-- the place of the first field of this name in the struct at a place, or in the row
abbrev pub field_place : Option ℕ → List ℕ → List Column → Option ℕ
field_place around name columns = first_place (is_field around name) 0 columns

-- the place to which a path of names leads from a struct or from the row
abbrev pub place_on : List Column → Option ℕ → List (List ℕ) → Option ℕ
place_on columns around [] = around
place_on columns around (name ∷ path) =
    option_and_then (λ place. place_on columns (Some place) path) (field_place around name columns)

-- the column to which a path of names leads from the row
abbrev pub column_on : List (List ℕ) → Schema → Option Column
column_on path schema = option_and_then (slice_get schema.columns) (place_on schema.columns None path)

-- the column of this id
abbrev pub column_of : ℤ → Schema → Option Column
column_of id schema = find (λ (c : Column). int_eq c.id id) schema.columns

-- the type of the column of this id, where its values are single ones
abbrev pub type_of : ℤ → Schema → Option ColumnType
type_of id schema = option_and_then (λ (c : Column). c.column_type) (column_of id schema)
