-- The field to which a name with dots leads in the JSON of a schema (Apache Iceberg table spec v2, "Schemas and Data
-- Types" and "Appendix C: JSON serialization", Schemas), and the column that is found by that name. Its names are those
-- between its dots. A field's own name may have a dot too: it is one name then, which a filter has in quotes.
use Rattle.std.specs.Prelude.{◌≡◌, ◌↔◌, ◌<◌, ℕ, ℤ, List, [], ◌∷◌, codes, Option, None, Some, Ok}
use Rattle.serde_json.specs.Data as json
use Rattle.serde_json.specs.Data.{Data, Items, Members, Num}
use Rattle.serde_json.specs.Find.{get, get_item, as_integer}
use Rattle.ice_value.specs.declared.column_type.ColumnType.{ColumnType}
use Rattle.ice_meta.specs.declared.schema.Column.{Column}
use Rattle.ice_meta.specs.declared.schema.Schema.{Schema}
use Rattle.ice_meta.specs.declared.table.Table.{Table}
use Rattle.ice_meta.specs.Columns.{column_on}
use Rattle.ice_meta.specs.Schemas.{schema_of}
use Rattle.ice_meta.specs.Tables.{table_of}
use Rattle.ice_meta.specs.Targets.{schema_with}
use Rattle.ice_meta.specs.Types.{primitive}

-- ---- in the JSON

abbrev pub IsNamed : List ℕ → Data → Type 0
IsNamed name field = get (codes "name") field ≡ Some (json.string name)

abbrev pub IsStruct : Data → Type 0
IsStruct type = get (codes "type") type ≡ Some (json.string (codes "struct"))

-- the first of the `fields` that has this name
abbrev pub IsFirstField : Data → List ℕ → Data → Type 0
IsFirstField struct name field = (fields : Items) × (place : ℕ)
    × (get (codes "fields") struct ≡ Some (json.array fields)) × (get_item place fields ≡ Some field)
    × IsNamed name field
    × ((before : ℕ) (other : Data) → before < place → get_item before fields ≡ Some other → IsNamed name other → ⊥)

-- the names lead to this field: the first name to a field of the struct, the others on within the struct that this is
abbrev pub LeadsTo : Data → List (List ℕ) → Data → Type 0
LeadsTo struct [] field = ⊥
LeadsTo struct (name ∷ []) field = IsFirstField struct name field
LeadsTo struct (name ∷ next ∷ names) field = (outer inner : Data) × IsFirstField struct name outer
    × (get (codes "type") outer ≡ Some inner) × IsStruct inner × LeadsTo inner (next ∷ names) field

-- the field's id is this whole number
abbrev pub HasId : Data → ℤ → Type 0
HasId field id = (number : Num) × (get (codes "id") field ≡ Some (json.number number))
    × (as_integer number ≡ Some id)

-- the field's values are of this type; of a struct, a list or a map they are no single ones
abbrev pub HasType : Data → Option ColumnType → Type 0
HasType field (Some type) = (text : List ℕ) × (get (codes "type") field ≡ Some (json.string text))
    × (primitive text ≡ Some type)
HasType field None = (members : Members) × (get (codes "type") field ≡ Some (json.object members))

-- ---- in the schema

-- a column of this id and type is found by the names
abbrev pub IsFound : List (List ℕ) → Schema → ℤ → Option ColumnType → Type 0
IsFound names schema id type = (column : Column) × (column_on names schema ≡ Some column) × (column.id ≡ id)
    × (column.column_type ≡ type)

-- A column is found exactly where the names lead to a field of its id and type,
abbrev pub FindsTheField : Type 0
FindsTheField = (d : Data) (schema : Schema) (names : List (List ℕ)) (id : ℤ) (type : Option ColumnType)
    → schema_of d ≡ Ok schema
    → IsFound names schema id type ↔ ((field : Data) × LeadsTo d names field × HasId field id × HasType field type)

-- and none is found exactly where they lead to no field.
abbrev pub FindsNoOther : Type 0
FindsNoOther = (d : Data) (schema : Schema) (names : List (List ℕ)) → schema_of d ≡ Ok schema
    → (column_on names schema ≡ None) ↔ ((field : Data) → LeadsTo d names field → ⊥)

-- ---- in the metadata of a table

-- the JSON is that of a schema among the `schemas`, whose id is this number
abbrev pub IsSchemaIn : Data → ℤ → Data → Type 0
IsSchemaIn metadata id d = (schemas : Items) × (place : ℕ) × (number : Num)
    × (get (codes "schemas") metadata ≡ Some (json.array schemas)) × (get_item place schemas ≡ Some d)
    × (get (codes "schema-id") d ≡ Some (json.number number)) × (as_integer number ≡ Some id)

-- A table has a schema under an id exactly where it is what the JSON of this id says.
abbrev pub HasTheSchema : Type 0
HasTheSchema = (metadata : Data) (table : Table) (id : ℤ) (schema : Schema) → table_of metadata ≡ Ok table
    → (schema_with id table ≡ Some schema) ↔ ((d : Data) × IsSchemaIn metadata id d × (schema_of d ≡ Ok schema))
