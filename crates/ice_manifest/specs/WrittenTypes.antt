-- Avro schemas as they are written: types with the names and ids that they are given, as JSON and as trees (Avro
-- 1.11.1, "Schema Declaration"; ids and logical types by the Apache Iceberg table spec v2, "Appendix A: Avro").
use Rattle.std.specs.Prelude.{ℕ, ℤ, Bool, List, Some, None, codes}
use Rattle.serde_json.specs.Data as json
use Rattle.serde_json.specs.Data.{Data, Items}
use Rattle.avro_schema.specs.declared.schema.ArrayKind.TheVariants as stands_for
use Rattle.avro_schema.specs.declared.schema.BytesKind.TheVariants.{Plain}
use Rattle.avro_schema.specs.Tree as tree_of
use Rattle.avro_schema.specs.Tree.{Tree, Fields, null, union, no_branches, branch}
use Rattle.ice_meta_json.specs.Objects.{set, whole, no_object}

-- a type that has no attributes
pub data Word : Type 0 where
  boolean : Word
  int : Word
  long : Word
  string : Word
  bytes : Word

mutual
  pub data Written : Type 0 where
    word : Word → Written
    -- days, in an int
    date : Written
    -- microseconds of a day, in a long
    time : Written
    -- microseconds, in a long; whether they are adjusted to UTC
    timestamp : Bool → Written
    -- so many bytes, under a name
    fixed : List ℕ → ℕ → Written
    -- the 16 bytes of a uuid, under a name
    uuid : List ℕ → Written
    -- a list, with the field id of its elements
    list : ℤ → Written → Written
    -- a map whose keys are no texts: a list of pairs
    map : Written → Written
    structure : List ℕ → WrittenFields → Written

  -- the fields of a record, each with its name, its id and its type
  pub data WrittenFields : Type 0 where
    no_more : WrittenFields
    required : List ℕ → ℤ → Written → WrittenFields → WrittenFields
    optional : List ℕ → ℤ → Written → WrittenFields → WrittenFields

-- ---- as JSON

abbrev pub word_text : Word → List ℕ
word_text boolean = codes "boolean"
word_text int = codes "int"
word_text long = codes "long"
word_text string = codes "string"
word_text bytes = codes "bytes"

abbrev pub typed_json : List ℕ → Data
typed_json s = set (codes "type") (json.string s) no_object

-- a primitive type that stands for another
abbrev pub logical_json : List ℕ → List ℕ → Data
logical_json type logical = set (codes "logicalType") (json.string logical) (typed_json type)

abbrev pub timestamp_json : Bool → Data
timestamp_json adjusted =
    set (codes "adjust-to-utc") (json.boolean adjusted) (logical_json (codes "long") (codes "timestamp-micros"))

abbrev pub fixed_json : List ℕ → ℕ → Data
fixed_json name size =
    set (codes "name") (json.string name)
    (set (codes "size") (json.number (json.unsigned size)) (typed_json (codes "fixed")))

abbrev pub uuid_json : List ℕ → Data
uuid_json name = set (codes "logicalType") (json.string (codes "uuid")) (fixed_json name 16)

abbrev pub array_json : Data → Data
array_json items = set (codes "items") items (typed_json (codes "array"))

abbrev pub list_json : ℤ → Data → Data
list_json id items = set (codes "element-id") (whole id) (array_json items)

abbrev pub map_json : Data → Data
map_json items = set (codes "logicalType") (json.string (codes "map")) (array_json items)

abbrev pub structure_json : List ℕ → Items → Data
structure_json name fields =
    set (codes "name") (json.string name) (set (codes "fields") (json.array fields) (typed_json (codes "record")))

-- a field of a record
abbrev pub required_json : List ℕ → ℤ → Data → Data
required_json name id type =
    set (codes "name") (json.string name) (set (codes "field-id") (whole id) (set (codes "type") type no_object))

-- null or of this type
abbrev pub or_null : Data → Data
or_null type = json.array (json.item (json.string (codes "null")) (json.item type json.no_items))

-- a field whose value may be null, and is where it is left out
abbrev pub optional_json : List ℕ → ℤ → Data → Data
optional_json name id type = set (codes "default") json.null (required_json name id (or_null type))

unfoldable mutual
  pub json_of : Written → Data
  json_of (word w) = json.string (word_text w)
  json_of date = logical_json (codes "int") (codes "date")
  json_of time = logical_json (codes "long") (codes "time-micros")
  json_of (timestamp adjusted) = timestamp_json adjusted
  json_of (fixed name size) = fixed_json name size
  json_of (uuid name) = uuid_json name
  json_of (list id w) = list_json id (json_of w)
  json_of (map w) = map_json (json_of w)
  json_of (structure name fs) = structure_json name (fields_json fs)

  pub fields_json : WrittenFields → Items
  fields_json no_more = json.no_items
  fields_json (required name id w fs) = json.item (required_json name id (json_of w)) (fields_json fs)
  fields_json (optional name id w fs) = json.item (optional_json name id (json_of w)) (fields_json fs)

-- ---- as trees

abbrev pub word_tree : Word → Tree
word_tree boolean = tree_of.boolean
word_tree int = tree_of.int
word_tree long = tree_of.long
word_tree string = tree_of.string
word_tree bytes = tree_of.octets Plain

abbrev pub null_or : Tree → Tree
null_or t = union (branch null (branch t no_branches))

abbrev mutual
  pub written_tree : Written → Tree
  written_tree (word w) = word_tree w
  written_tree date = tree_of.int
  written_tree time = tree_of.long
  written_tree (timestamp adjusted) = tree_of.long
  written_tree (fixed name size) = tree_of.fixed size Plain
  written_tree (uuid name) = tree_of.fixed 16 Plain
  written_tree (list id w) = tree_of.array (written_tree w) (Some id) stands_for.List
  written_tree (map w) = tree_of.array (written_tree w) None stands_for.Map
  written_tree (structure name fs) = tree_of.structure (written_fields fs)

  pub written_fields : WrittenFields → Fields
  written_fields no_more = tree_of.no_fields
  written_fields (required name id w fs) = tree_of.field (Some id) (written_tree w) (written_fields fs)
  written_fields (optional name id w fs) = tree_of.field (Some id) (null_or (written_tree w)) (written_fields fs)
