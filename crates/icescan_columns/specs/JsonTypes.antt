-- Where the columns of a schema stand in the metadata's JSON (Apache Iceberg table spec v2, "Appendix C: JSON
-- serialization", Schemas): whether a column is required is said there alone. A schema is written as a struct, whose
-- fields have ids; the element of a list, and the key and the value of a map, are named by ids beside them.
use Rattle.std.specs.Prelude.{ℕ, ℤ, Bool, true, false, ◌||◌, List, [], ◌∷◌, ◌++◌, Option, Some, None}
use Rattle.std.specs.Prelude.{if◌then◌else◌, codes}
use Rattle.std.specs.Prelude.{option_and_then, option_map, slice_get, unwrap_or}
use Rattle.std.specs.Borrow.{Bor}
use Rattle.std.specs.Option.{option_eq}
use Rattle.std.specs.Ordering.{int_eq}
use Rattle.serde_json.specs.Data as json
use Rattle.serde_json.specs.Data.{Data, Items}
use Rattle.serde_json.specs.Find.{as_array, as_bool, as_i64, as_number, as_str, get}
use Rattle.serde_json.specs.View.{view}
use Rattle.serde_json.specs.declared.value.Value.{Value}
use Rattle.ice_meta.specs.declared.schema.Column.{Column}

-- a member is this number
abbrev pub has_id : List ℕ → ℤ → Data → Bool
has_id member id d = option_eq int_eq (option_and_then as_i64 (option_and_then as_number (get member d))) (Some id)

-- a member is true
abbrev pub is_flagged : List ℕ → Data → Bool
is_flagged member d = unwrap_or (option_and_then as_bool (get member d)) false

-- the first item in which a member is this number
abbrev pub first_with : List ℕ → ℤ → Items → Option Data
first_with member id json.no_items = None
first_with member id (json.item d ds) = if has_id member id d then Some d else first_with member id ds

abbrev pub item_with : List ℕ → List ℕ → ℤ → Data → Option Data
item_with array member id d = option_and_then (first_with member id) (option_and_then as_array (get array d))

-- the schema of this id
abbrev pub schema_in : ℤ → Data → Option Data
schema_in id metadata = item_with (codes "schemas") (codes "schema-id") id metadata

abbrev pub field_in : ℤ → Data → Option Data
field_in id around = item_with (codes "fields") (codes "id") id around

-- the type of an element, a key or a value, in the list or map around it
abbrev pub inner_type : ℤ → Data → Option Data
inner_type id around =
    if has_id (codes "element-id") id around then get (codes "element") around
    else if has_id (codes "key-id") id around then get (codes "key") around
    else get (codes "value") around

-- the type of a column, in the row, struct, list or map around it
abbrev pub type_within : Column → Data → Option Data
type_within column around = within column.name
  where
    within : Option (List ℕ) → Option Data
    within None = inner_type column.id around
    within (Some name) = option_and_then (get (codes "type")) (field_in column.id around)

-- a field is required where it says so; an element and a value where the list or map says so; a key always is
abbrev pub inner_needs : ℤ → Data → Bool
inner_needs id around =
    if has_id (codes "element-id") id around then is_flagged (codes "element-required") around
    else has_id (codes "key-id") id around || is_flagged (codes "value-required") around

abbrev pub field_needs : Option Data → Bool
field_needs None = false
field_needs (Some field) = is_flagged (codes "required") field

abbrev pub needs_value : Column → Data → Bool
needs_value column around = needs column.name
  where
    needs : Option (List ℕ) → Bool
    needs None = inner_needs column.id around
    needs (Some name) = field_needs (field_in column.id around)

-- ---- all columns, each behind the one that it is in

-- the row, or the struct, list or map at a place
abbrev pub around_in : Option Data → List (Option Data) → Option ℕ → Option Data
around_in schema types None = schema
around_in schema types (Some place) = option_and_then (λ found. found) (slice_get types place)

abbrev pub type_of : Option Data → List (Option Data) → Column → Option Data
type_of schema types column = option_and_then (type_within column) (around_in schema types column.around)

abbrev pub or_false : Option Bool → Bool
or_false None = false
or_false (Some b) = b

abbrev pub is_required : Option Data → List (Option Data) → Column → Bool
is_required schema types column = or_false (option_map (needs_value column) (around_in schema types column.around))

abbrev pub types_from : Option Data → List (Option Data) → List Column → List (Option Data)
types_from schema types [] = types
types_from schema types (c ∷ cs) = types_from schema (types ++ type_of schema types c ∷ []) cs

abbrev pub all_types : Option Data → List Column → List (Option Data)
all_types schema columns = types_from schema [] columns

-- a type that is lent
abbrev pub seen : Option (Bor Value) → Option Data
seen found = option_map (λ value. view value.now) found

-- the word for a type that has columns inside it: `struct`, `list` or `map`
abbrev pub nested_word : Option Data → List ℕ
nested_word found = unwrap_or (option_and_then as_str (option_and_then (get (codes "type")) found)) (codes "-")
