-- Which JSON is a type, whatever stands in it, and which is a field. Avro 1.11.1, "Schema Declaration".
use Rattle.std.specs.Prelude.{Bool, true, false, not, ◌&&◌, Option, Some, None, codes, is_some}
use Rattle.serde_json.specs.Data as json
use Rattle.serde_json.specs.Data.{Data}
use Rattle.serde_json.specs.Find.{get}
use Rattle.avro_schema.specs.declared.attributes.Kind.{Kind}
use Rattle.avro_schema.specs.declared.attributes.Kind.TheVariants as kind
use Rattle.avro_schema.specs.Attributes.{name_in, is_object, items_in, symbols_in, size_in, kind_of}
use Rattle.avro_schema.specs.Inside.{kind_in}

-- a text alone is no type with attributes
abbrev pub is_bare : Kind → Bool
is_bare kind.Array = false
is_bare kind.Map = false
is_bare kind.Record = false
is_bare kind.Enum = false
is_bare kind.Fixed = false
is_bare kind.Bytes = true
is_bare kind.Word = true

-- an object has the attributes that its type asks for
abbrev pub has_attributes : Option Kind → Data → Bool
has_attributes None d = false
has_attributes (Some kind.Array) d = is_some (get (codes "items") d)
has_attributes (Some kind.Map) d = is_some (get (codes "values") d)
has_attributes (Some kind.Record) d = is_some (name_in d) && is_some (items_in is_object (codes "fields") d)
has_attributes (Some kind.Enum) d = is_some (name_in d) && is_some (symbols_in d)
has_attributes (Some kind.Fixed) d = is_some (name_in d) && is_some (size_in d)
has_attributes (Some kind.Bytes) d = true
has_attributes (Some kind.Word) d = true

-- a text, an array that is no branch of another, or an object whose `type` is a text
abbrev pub is_type : Bool → Data → Bool
is_type is_branch json.null = false
is_type is_branch (json.boolean b) = false
is_type is_branch (json.number n) = false
is_type is_branch (json.string s) = is_bare (kind_of s)
is_type is_branch (json.array ds) = not is_branch
is_type is_branch (json.object ms) = has_attributes (kind_in (json.object ms)) (json.object ms)

abbrev pub is_field : Data → Bool
is_field f = is_some (name_in f) && is_some (get (codes "type") f)
