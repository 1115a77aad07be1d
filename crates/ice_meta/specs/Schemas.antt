-- Schemas as they are written (Apache Iceberg table spec v2, "Appendix C: JSON serialization", Schemas). A schema is a
-- struct. The element of a list, and the key and the value of a map, are columns that have an id and no name.
use Rattle.std.specs.Prelude.{ℕ, zero, suc, ℤ, List, [], ◌∷◌, ◌++◌, length, Option, None, Some, Result, Ok, Err}
use Rattle.std.specs.Prelude.{if◌then◌else◌, codes}
use Rattle.std.specs.Str.{bytes_eq}
use Rattle.contract_words.specs.Outcome.{◌>>=◌}
use Rattle.serde_json.specs.Data as json
use Rattle.serde_json.specs.Data.{Data, Items}
use Rattle.ice_value.specs.declared.column_type.ColumnType.{ColumnType}
use Rattle.ice_meta.specs.declared.fault.Member.{Member}
use Rattle.ice_meta.specs.declared.fault.Member.TheVariants as member
use Rattle.ice_meta.specs.declared.fault.MetaFault.{MetaFault}
use Rattle.ice_meta.specs.declared.fault.MetaFault.TheVariants.{WrongKind, UnknownType, TooBig}
use Rattle.ice_meta.specs.declared.schema.Column.{Column}
use Rattle.ice_meta.specs.declared.schema.Schema.{Schema}
use Rattle.ice_meta.specs.Members.{asked, there, int_in, text_in, flag_in, objects_in}
use Rattle.ice_meta.specs.Reading.{each_into, once}
use Rattle.ice_meta.specs.Types.{primitive}

-- the columns so far, or the first fault
abbrev pub Columns : Type 0
Columns = Result (List Column) MetaFault

-- what the type of the column at a place adds: the columns inside it
abbrev pub Reader : Type 0
Reader = ℕ → Data → List Column → Columns

-- the type at a member: a text is a primitive type, and an object a struct, a list or a map
abbrev pub type_in : Member → Data → Result (Option ColumnType) MetaFault
type_in m (json.string s) = asked (UnknownType s) (primitive s) >>= λ t. Ok (Some t)
type_in m (json.object ms) = Ok None
type_in m _ = Err (WrongKind m)

-- a primitive type has no columns inside it
abbrev pub within : Reader → Option ColumnType → ℕ → Data → List Column → Columns
within read None at d columns = read at d columns
within read (Some t) at d columns = Ok columns

-- one more column, whose type is at a member, and those inside it
unfoldable pub added : Reader → Option ℕ → Option (List ℕ) → ℤ → Member → Data → List Column → Columns
added read around name id m d columns = do
  whole ← there m d
  type ← type_in m whole
  within read type (length columns) whole
      (columns ++ record { id = id; around = around; name = name; column_type = type } ∷ [])

-- a field of a struct, or of the row
unfoldable pub field_at : Reader → Option ℕ → Data → List Column → Columns
field_at read around d columns = do
  id ← int_in member.Id d
  name ← text_in member.Name d
  required ← flag_in member.Required d
  added read around (Some name) id member.Type d columns

unfoldable pub fields_at : Reader → Option ℕ → Data → List Column → Columns
fields_at read around d columns = objects_in member.Fields d >>= λ items. each_into (field_at read around) items columns

unfoldable pub list_at : Reader → ℕ → Data → List Column → Columns
list_at read at d columns = int_in member.ElementId d >>= λ id. added read (Some at) None id member.Element d columns

unfoldable pub map_at : Reader → ℕ → Data → List Column → Columns
map_at read at d columns = do
  key_id ← int_in member.KeyId d
  with_key ← added read (Some at) None key_id member.Key d columns
  value_id ← int_in member.ValueId d
  added read (Some at) None value_id member.Value d with_key

-- what stands inside the type of this name
abbrev pub of_name : Reader → List ℕ → ℕ → Data → List Column → Columns
of_name read s at d columns =
    if bytes_eq s (codes "struct") then fields_at read (Some at) d columns
    else (if bytes_eq s (codes "list") then list_at read at d columns
    else (if bytes_eq s (codes "map") then map_at read at d columns else Err (UnknownType s)))

unfoldable pub object_at : Reader → ℕ → Data → List Column → Columns
object_at read at d columns = text_in member.Type d >>= λ s. of_name read s at d columns

-- the columns inside a type that has so many levels at most
unfoldable pub inside : ℕ → ℕ → Data → List Column → Columns
inside zero at d columns = Err TooBig
inside (suc levels) at d columns = object_at (inside levels) at d columns

-- JSON nests no deeper, so that no type has more levels
abbrev pub most_levels : ℕ
most_levels = 127

abbrev pub column_id : Column → ℤ
column_id column = column.id

-- a schema is written as a struct
abbrev pub if_struct : List ℕ → Result (List ℕ) MetaFault
if_struct s = if bytes_eq s (codes "struct") then Ok s else Err (UnknownType s)

unfoldable pub schema_of : Data → Result Schema MetaFault
schema_of d = do
  type ← text_in member.Type d
  struct ← if_struct type
  id ← int_in member.SchemaId d
  columns ← fields_at (inside most_levels) None d []
  different ← once column_id columns
  Ok (record { id = id; columns = different })
