-- What each kind of JSON stands for as a type, with a rule for a used name: every schema, with no limit and no order of
-- reading. Avro 1.11.1, "Schema Declaration" and "Names"; ids and the kinds of arrays and bytes as in `Attributes`.
use Rattle.std.specs.Prelude.{◌≡◌, ℕ, List, [], Option, Some, None, codes}
use Rattle.serde_json.specs.Data as json
use Rattle.serde_json.specs.Data.{Data, Items}
use Rattle.serde_json.specs.Find.{get, as_array}
use Rattle.avro_schema.specs.declared.attributes.Kind.TheVariants as kind
use Rattle.avro_schema.specs.declared.schema.BytesKind.TheVariants as of_bytes
use Rattle.avro_schema.specs.Tree.{Tree, octets, fixed, symbols, structure, array, map, union, Fields, no_fields, field}
use Rattle.avro_schema.specs.Tree.{Branches, no_branches, branch}
use Rattle.avro_schema.specs.Names.{space_of}
use Rattle.avro_schema.specs.Attributes.{text_in, name_in, is_object, items_in, symbols_in, id_in, array_kind}
use Rattle.avro_schema.specs.Attributes.{bytes_kind, size_in, plain, kind_of}
use Rattle.avro_schema.specs.Reading.{defines}
use Rattle.avro_schema.specs.Inside.{kind_in, Uses, Defines}
use Rattle.avro_schema.specs.Order.{At, DefinedIn}

-- the tree that each full name stands for
abbrev pub Meaning : Type 0
Meaning = List ℕ → Option Tree

mutual
  -- in this namespace the type stands for this tree
  pub data Stands : Meaning → List ℕ → Data → Tree → Type 0 where
    used_name : {names : Meaning} {space name : List ℕ} {d : Data} {t : Tree} → Uses space d name
        → names name ≡ Some t → Stands names space d t
    plain_text : {names : Meaning} {space s : List ℕ} {t : Tree} → kind_of s ≡ kind.Word → plain s ≡ Some t
        → Stands names space (json.string s) t
    bytes_text : {names : Meaning} {space : List ℕ}
        → Stands names space (json.string (codes "bytes")) (octets of_bytes.Plain)
    union_array : {names : Meaning} {space : List ℕ} {ds : Items} {bs : Branches} → BranchesStand names space ds bs
        → Stands names space (json.array ds) (union bs)
    plain_object : {names : Meaning} {space s : List ℕ} {d : Data} {t : Tree} → text_in (codes "type") d ≡ Some s
        → kind_of s ≡ kind.Word → plain s ≡ Some t → Stands names space d t
    bytes_object : {names : Meaning} {space : List ℕ} {d : Data} → kind_in d ≡ Some kind.Bytes
        → Stands names space d (octets (bytes_kind d))
    fixed_object : {names : Meaning} {space name : List ℕ} {d : Data} {n : ℕ} → kind_in d ≡ Some kind.Fixed
        → name_in d ≡ Some name → size_in d ≡ Some n → Stands names space d (fixed n (bytes_kind d))
    enum_object : {names : Meaning} {space name : List ℕ} {d : Data} {n : ℕ} → kind_in d ≡ Some kind.Enum
        → name_in d ≡ Some name → symbols_in d ≡ Some n → Stands names space d (symbols n)
    array_object : {names : Meaning} {space : List ℕ} {d e : Data} {t : Tree} → kind_in d ≡ Some kind.Array
        → get (codes "items") d ≡ Some e → Stands names space e t
        → Stands names space d (array t (id_in (codes "element-id") d) (array_kind d))
    map_object : {names : Meaning} {space : List ℕ} {d e : Data} {t : Tree} → kind_in d ≡ Some kind.Map
        → get (codes "values") d ≡ Some e → Stands names space e t → Stands names space d (map t)
    record_object : {names : Meaning} {space name : List ℕ} {d : Data} {ds : Items} {fs : Fields}
        → kind_in d ≡ Some kind.Record → name_in d ≡ Some name → items_in is_object (codes "fields") d ≡ Some ds
        → FieldsStand names (space_of (defines space name d)) ds fs → Stands names space d (structure fs)

  -- the branches of a union, none of them a union
  pub data BranchesStand : Meaning → List ℕ → Items → Branches → Type 0 where
    no_branch : {names : Meaning} {space : List ℕ} → BranchesStand names space json.no_items no_branches
    next_branch : {names : Meaning} {space : List ℕ} {d : Data} {ds : Items} {t : Tree} {bs : Branches}
        → as_array d ≡ None → Stands names space d t → BranchesStand names space ds bs
        → BranchesStand names space (json.item d ds) (branch t bs)

  -- the fields of a record, each with a name and a type
  pub data FieldsStand : Meaning → List ℕ → Items → Fields → Type 0 where
    no_field : {names : Meaning} {space : List ℕ} → FieldsStand names space json.no_items no_fields
    next_field : {names : Meaning} {space name : List ℕ} {d e : Data} {ds : Items} {t : Tree} {fs : Fields}
        → name_in d ≡ Some name → get (codes "type") d ≡ Some e → Stands names space e t
        → FieldsStand names space ds fs
        → FieldsStand names space (json.item d ds) (field (id_in (codes "field-id") d) t fs)

-- the names are those that the schema defines, and each stands for what its definition stands for
abbrev pub NamesOf : Data → Meaning → Type 0
NamesOf d names =
    ((place own name : List ℕ) (e : Data) → At place [] d own e → Defines own e name
    → (t : Tree) × ((names name ≡ Some t) × Stands names own e t))
    × ((name : List ℕ) (t : Tree) → names name ≡ Some t → DefinedIn [] d name)
