-- The tree of a schema that uses no name, from its JSON alone: rule by rule, with no limit and nothing that was read
-- before. Whether a name or an id stands twice is not asked. Avro 1.11.1, "Schema Declaration"; ids and the kinds of
-- arrays and bytes as in `Attributes`.
use Rattle.std.specs.Prelude.{◌≡◌, ℕ, List, Some, None, codes, ⊤}
use Rattle.serde_json.specs.Data as json
use Rattle.serde_json.specs.Data.{Data, Items}
use Rattle.serde_json.specs.Find.{get, as_array}
use Rattle.avro_schema.specs.declared.attributes.Kind.TheVariants as kind
use Rattle.avro_schema.specs.declared.schema.BytesKind.TheVariants as of_bytes
use Rattle.avro_schema.specs.declared.fault.SchemaFault.{SchemaFault}
use Rattle.avro_schema.specs.declared.fault.SchemaFault.TheVariants.{NotJson, UnknownType, UnknownName, Recursive}
use Rattle.avro_schema.specs.declared.fault.SchemaFault.TheVariants.{TooBig, FieldTwice, Memory, NameTwice}
use Rattle.avro_schema.specs.Tree.{Tree, octets, fixed, symbols, structure, array, map, union, Fields, no_fields, field}
use Rattle.avro_schema.specs.Tree.{Branches, no_branches, branch}
use Rattle.avro_schema.specs.Attributes.{text_in, name_in, is_object, items_in, symbols_in, id_in, array_kind}
use Rattle.avro_schema.specs.Attributes.{bytes_kind, size_in, plain, kind_of}

mutual
  -- the type has this tree
  pub data Shape : Data → Tree → Type 0 where
    word : {s : List ℕ} {t : Tree} → kind_of s ≡ kind.Word → plain s ≡ Some t → Shape (json.string s) t
    bytes_word : Shape (json.string (codes "bytes")) (octets of_bytes.Plain)
    a_union : {ds : Items} {bs : Branches} → BranchShapes ds bs → Shape (json.array ds) (union bs)
    a_word : {d : Data} {s : List ℕ} {t : Tree} → text_in (codes "type") d ≡ Some s → kind_of s ≡ kind.Word
        → plain s ≡ Some t → Shape d t
    some_bytes : {d : Data} → text_in (codes "type") d ≡ Some (codes "bytes") → Shape d (octets (bytes_kind d))
    a_fixed : {d : Data} {name : List ℕ} {n : ℕ} → text_in (codes "type") d ≡ Some (codes "fixed")
        → name_in d ≡ Some name → size_in d ≡ Some n → Shape d (fixed n (bytes_kind d))
    an_enum : {d : Data} {name : List ℕ} {n : ℕ} → text_in (codes "type") d ≡ Some (codes "enum")
        → name_in d ≡ Some name → symbols_in d ≡ Some n → Shape d (symbols n)
    an_array : {d items : Data} {t : Tree} → text_in (codes "type") d ≡ Some (codes "array") → get (codes "items") d
        ≡ Some items → Shape items t → Shape d (array t (id_in (codes "element-id") d) (array_kind d))
    a_map : {d values : Data} {t : Tree} → text_in (codes "type") d ≡ Some (codes "map")
        → get (codes "values") d ≡ Some values → Shape values t → Shape d (map t)
    a_record : {d : Data} {name : List ℕ} {ds : Items} {fs : Fields} → text_in (codes "type") d ≡ Some (codes "record")
        → name_in d ≡ Some name → items_in is_object (codes "fields") d ≡ Some ds → FieldShapes ds fs
        → Shape d (structure fs)

  -- the branches of a union, none of them a union
  pub data BranchShapes : Items → Branches → Type 0 where
    none : BranchShapes json.no_items no_branches
    more : {d : Data} {ds : Items} {t : Tree} {bs : Branches} → as_array d ≡ None → Shape d t → BranchShapes ds bs
        → BranchShapes (json.item d ds) (branch t bs)

  -- the fields of a record, each with a name
  pub data FieldShapes : Items → Fields → Type 0 where
    no_more : FieldShapes json.no_items no_fields
    one_more : {d type : Data} {name : List ℕ} {ds : Items} {t : Tree} {fs : Fields} → name_in d ≡ Some name
        → get (codes "type") d ≡ Some type → Shape type t → FieldShapes ds fs
        → FieldShapes (json.item d ds) (field (id_in (codes "field-id") d) t fs)

-- a name that is defined twice, or an id that two fields of a record have
abbrev pub IsTwice : SchemaFault → Type 0
IsTwice NotJson = ⊥
IsTwice UnknownType = ⊥
IsTwice UnknownName = ⊥
IsTwice Recursive = ⊥
IsTwice TooBig = ⊥
IsTwice (FieldTwice id) = ⊤
IsTwice Memory = ⊥
IsTwice NameTwice = ⊤
