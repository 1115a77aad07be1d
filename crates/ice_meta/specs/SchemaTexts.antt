-- The JSON of a schema with the members that are read alone (Apache Iceberg table spec v2, "Appendix C: JSON
-- serialization", Schemas), as a manifest's file has it ("Manifests": the metadata key `schema`). A member that is not
-- there, or not of its kind, is null.
use Rattle.std.specs.Prelude.{ℕ, zero, suc, ℤ, Bool, List, Option, None, Some, option_and_then, option_map, unwrap_or}
use Rattle.std.specs.Prelude.{if◌then◌else◌, codes}
use Rattle.std.specs.Option.{option_eq}
use Rattle.std.specs.Ordering.{int_eq}
use Rattle.std.specs.Str.{bytes_eq}
use Rattle.serde_json.specs.Data as json
use Rattle.serde_json.specs.Data.{Data, Items}
use Rattle.serde_json.specs.Find.{get, as_bool, as_str, as_number, as_i64}
use Rattle.serde_json.specs.Written.{compact_text}
use Rattle.ice_meta.specs.declared.fault.Member.{Member}
use Rattle.ice_meta.specs.declared.fault.Member.TheVariants as member
use Rattle.ice_meta.specs.Members.{member_name}
use Rattle.ice_meta_json.specs.Objects.{whole, no_object, inside, set, items_of}
use Rattle.ice_meta.specs.Schemas.{most_levels}

-- a text, a whole number or a truth of an object; anything else is null
abbrev pub text_of : Member → Data → Data
text_of m d = unwrap_or (option_map json.string (option_and_then as_str (get (member_name m) d))) json.null

abbrev pub number_of : Member → Data → Data
number_of m d =
    unwrap_or (option_map whole (option_and_then as_i64 (option_and_then as_number (get (member_name m) d)))) json.null

abbrev pub flag_of : Member → Data → Data
flag_of m d = unwrap_or (option_map json.boolean (option_and_then as_bool (get (member_name m) d))) json.null

-- how a struct, a list or a map is read
abbrev pub Nested : Type 0
Nested = Data → Data

-- a type: the text of a primitive one, or an object
abbrev pub type_of : Nested → Data → Data
type_of nested (json.string s) = json.string s
type_of nested (json.object ms) = nested (json.object ms)
type_of nested d = json.null

-- the type at a member
abbrev pub type_at : Nested → Member → Data → Data
type_at nested m d = type_of nested (inside (member_name m) d)

-- the object in which a member has this value
abbrev pub with : Member → Data → Data → Data
with m x d = set (member_name m) x d

abbrev pub field_of : Nested → Data → Data
field_of nested d =
    with member.Id (number_of member.Id d)
    (with member.Name (text_of member.Name d)
    (with member.Required (flag_of member.Required d)
    (with member.Type (type_at nested member.Type d) no_object)))

abbrev pub each_field : Nested → Items → Items
each_field nested json.no_items = json.no_items
each_field nested (json.item d ds) = json.item (field_of nested d) (each_field nested ds)

-- the fields of a struct, or of the row
abbrev pub fields_of : Nested → Data → Data
fields_of nested d = json.array (each_field nested (items_of (inside (member_name member.Fields) d)))

abbrev pub struct_of : Nested → Data → Data
struct_of nested d =
    with member.Type (text_of member.Type d)
    (with member.Fields (fields_of nested d) no_object)

abbrev pub list_of : Nested → Data → Data
list_of nested d =
    with member.Type (text_of member.Type d)
    (with member.ElementId (number_of member.ElementId d)
    (with member.Element (type_at nested member.Element d) no_object))

abbrev pub map_of : Nested → Data → Data
map_of nested d =
    with member.Type (text_of member.Type d)
    (with member.KeyId (number_of member.KeyId d)
    (with member.Key (type_at nested member.Key d)
    (with member.ValueId (number_of member.ValueId d)
    (with member.Value (type_at nested member.Value d) no_object))))

abbrev pub of_name : Nested → Option (List ℕ) → Data → Data
of_name nested None d = json.null
of_name nested (Some s) d =
    if bytes_eq s (codes "struct") then struct_of nested d
    else (if bytes_eq s (codes "list") then list_of nested d
    else (if bytes_eq s (codes "map") then map_of nested d else json.null))

-- a struct, a list or a map, by its name
abbrev pub object_of : Nested → Data → Data
object_of nested d = of_name nested (option_and_then as_str (get (member_name member.Type) d)) d

-- a struct, a list or a map that has so many levels at most
unfoldable pub nested_in : ℕ → Data → Data
nested_in zero d = json.null
nested_in (suc levels) d = object_of (nested_in levels) d

-- a schema
unfoldable pub schema_json : Data → Data
schema_json d =
    with member.Type (text_of member.Type d)
    (with member.SchemaId (number_of member.SchemaId d)
    (with member.Fields (fields_of (nested_in most_levels) d) no_object))

-- its text, without white space and with the members of each object in the order of their names' bytes
abbrev pub schema_text : Data → List ℕ
schema_text d = compact_text (schema_json d)

-- ---- the schemas of a table

-- the id of a schema is this number
abbrev pub has_number : ℤ → Data → Bool
has_number id d =
    option_eq int_eq (option_and_then as_i64 (option_and_then as_number (get (member_name member.SchemaId) d)))
    (Some id)

abbrev pub first_with : ℤ → Items → Data
first_with id json.no_items = json.null
first_with id (json.item d ds) = if has_number id d then d else first_with id ds

-- the schema of this id among those of the metadata
unfoldable pub schema_in : ℤ → Data → Data
schema_in id d = first_with id (items_of (inside (member_name member.Schemas) d))
