-- What a walk through a schema comes to, in order. Avro 1.11.1, "Names": "before" in the depth-first, left-to-right
-- traversal of the JSON parse tree. A field comes before its type, and its type before the next field.
use Rattle.std.specs.Prelude.{ℕ, zero, suc, List, [], ◌∷◌, ◌++◌, Bool, true, false, Option, Some, None, codes}
use Rattle.serde_json.specs.Data as json
use Rattle.serde_json.specs.Data.{Data, Items}
use Rattle.serde_json.specs.Find.{get}
use Rattle.avro_schema.specs.declared.attributes.Kind.{Kind}
use Rattle.avro_schema.specs.declared.attributes.Kind.TheVariants as kind
use Rattle.avro_schema.specs.Names.{space_of}
use Rattle.avro_schema.specs.Attributes.{name_in, is_object, items_in}
use Rattle.avro_schema.specs.Reading.{defines}
use Rattle.avro_schema.specs.Inside.{kind_in}

-- where a type stands: how many levels there may be from it on, whether it is a branch of a union, the full names of
-- the records around it, the innermost first, and its namespace
pub record Place : Type 0 where
  pub levels : ℕ
  pub is_branch : Bool
  pub records : List (List ℕ)
  pub space : List ℕ

-- a type at its place, or a field, behind those before it in its record, the last of them first
pub data Stop : Type 0 where
  at_type : Place → Data → Stop
  at_field : Items → Data → Stop

-- the walk through a type: whether it is a branch, the records around it, its namespace, and the type
abbrev pub Walker : Type 0
Walker = Bool → List (List ℕ) → List ℕ → Data → List Stop

abbrev pub if_there : (Data → List Stop) → Option Data → List Stop
if_there through None = []
if_there through (Some d) = through d

abbrev pub in_branches : (Data → List Stop) → Items → List Stop
in_branches through json.no_items = []
in_branches through (json.item d ds) = through d ++ in_branches through ds

abbrev pub in_fields : (Data → List Stop) → Items → Items → List Stop
in_fields through before json.no_items = []
in_fields through before (json.item f fs) =
    at_field before f ∷ (if_there through (get (codes "type") f) ++ in_fields through (json.item f before) fs)

-- the fields are in the namespace of the record's full name
abbrev pub in_record : Walker → List (List ℕ) → List ℕ → Option (List ℕ) → Option Items → Data → List Stop
in_record through records space None fs d = []
in_record through records space (Some name) None d = []
in_record through records space (Some name) (Some fs) d =
    in_fields (through false (defines space name d ∷ records) (space_of (defines space name d))) json.no_items fs

abbrev pub in_kind : Walker → List (List ℕ) → List ℕ → Option Kind → Data → List Stop
in_kind through records space None d = []
in_kind through records space (Some kind.Array) d = if_there (through false records space) (get (codes "items") d)
in_kind through records space (Some kind.Map) d = if_there (through false records space) (get (codes "values") d)
in_kind through records space (Some kind.Record) d = in_record through records space (name_in d)
    (items_in is_object (codes "fields") d) d
in_kind through records space (Some kind.Enum) d = []
in_kind through records space (Some kind.Fixed) d = []
in_kind through records space (Some kind.Bytes) d = []
in_kind through records space (Some kind.Word) d = []

-- what stands in a type, from left to right
abbrev pub inside : Walker → List (List ℕ) → List ℕ → Data → List Stop
inside through records space json.null = []
inside through records space (json.boolean b) = []
inside through records space (json.number n) = []
inside through records space (json.string s) = []
inside through records space (json.array ds) = in_branches (through true records space) ds
inside through records space (json.object ms) =
    in_kind through records space (kind_in (json.object ms)) (json.object ms)

-- a type comes before what stands in it; where no level is left, nothing in it is looked at
unfoldable pub walk : ℕ → Walker
walk zero is_branch records space d =
    at_type (record { levels = zero; is_branch = is_branch; records = records; space = space }) d ∷ []
walk (suc n) is_branch records space d =
    at_type (record { levels = suc n; is_branch = is_branch; records = records; space = space }) d
    ∷ inside (walk n) records space d
