-- Which types stand inside which, and which names they use. Avro 1.11.1, "Schema Declaration" and "Names".
use Rattle.std.specs.Prelude.{◌≡◌, ℕ, List, Option, Some, None, option_map, codes}
use Rattle.serde_json.specs.Data as json
use Rattle.serde_json.specs.Data.{Data, Items}
use Rattle.serde_json.specs.Find.{get}
use Rattle.avro_schema.specs.declared.attributes.Kind.{Kind}
use Rattle.avro_schema.specs.declared.attributes.Kind.TheVariants as kind
use Rattle.avro_schema.specs.Names.{full, space_of}
use Rattle.avro_schema.specs.Attributes.{text_in, name_in, is_object, items_in, plain, kind_of}
use Rattle.avro_schema.specs.Reading.{defines}

-- what the type text of an object says
abbrev pub kind_in : Data → Option Kind
kind_in d = option_map kind_of (text_in (codes "type") d)

pub data Among : Data → Items → Type 0 where
  first : {d : Data} {ds : Items} → Among d (json.item d ds)
  later : {d e : Data} {ds : Items} → Among d ds → Among d (json.item e ds)

-- the second type is the items, the values, a branch or a field's type of the first; each has its namespace before it
pub data HasPart : List ℕ → Data → List ℕ → Data → Type 0 where
  its_items : {space : List ℕ} {d e : Data} → kind_in d ≡ Some kind.Array → get (codes "items") d ≡ Some e
      → HasPart space d space e
  its_values : {space : List ℕ} {d e : Data} → kind_in d ≡ Some kind.Map → get (codes "values") d ≡ Some e
      → HasPart space d space e
  a_branch : {space : List ℕ} {ds : Items} {e : Data} → Among e ds → HasPart space (json.array ds) space e
  a_field : {space name : List ℕ} {d e f : Data} {ds : Items} → kind_in d ≡ Some kind.Record → name_in d ≡ Some name
      → items_in is_object (codes "fields") d ≡ Some ds → Among f ds → get (codes "type") f ≡ Some e
      → HasPart space d (space_of (defines space name d)) e

-- the second type is the first, or stands in it at any depth
pub data Inside : List ℕ → Data → List ℕ → Data → Type 0 where
  itself : {space : List ℕ} {d : Data} → Inside space d space d
  further : {space next last : List ℕ} {d e f : Data} → HasPart space d next e → Inside next e last f
      → Inside space d last f

-- the type is a use of this full name
pub data Uses : List ℕ → Data → List ℕ → Type 0 where
  a_text : {space word : List ℕ} → kind_of word ≡ kind.Word → plain word ≡ None
      → Uses space (json.string word) (full space word)
  a_type : {space word : List ℕ} {d : Data} → text_in (codes "type") d ≡ Some word → kind_of word ≡ kind.Word
      → plain word ≡ None → Uses space d (full space word)

-- the type is a definition of this full name: record, enum and fixed are the named types
pub data Defines : List ℕ → Data → List ℕ → Type 0 where
  a_record : {space name : List ℕ} {d : Data} → kind_in d ≡ Some kind.Record → name_in d ≡ Some name
      → Defines space d (defines space name d)
  an_enum : {space name : List ℕ} {d : Data} → kind_in d ≡ Some kind.Enum → name_in d ≡ Some name
      → Defines space d (defines space name d)
  a_fixed : {space name : List ℕ} {d : Data} → kind_in d ≡ Some kind.Fixed → name_in d ≡ Some name
      → Defines space d (defines space name d)

-- somewhere in the type a name is used inside its own definition
pub data HasRecursion : List ℕ → Data → Type 0 where
  recursion : {space around own next last : List ℕ} {d whole part user : Data} → Inside space d around whole
      → Defines around whole own → HasPart around whole next part → Inside next part last user → Uses last user own
      → HasRecursion space d
