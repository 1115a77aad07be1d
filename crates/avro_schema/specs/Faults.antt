-- What makes a schema refused for its names or its ids. Avro 1.11.1, "Names": a schema may not contain multiple
-- definitions of a full name, and a name must be defined before it is used; field ids by the Iceberg table spec,
-- "Schemas": each field has an id that is unique.
use Rattle.std.specs.Prelude.{◌≡◌, ℕ, ℤ, List, Some, codes}
use Rattle.serde_json.specs.Data as json
use Rattle.serde_json.specs.Data.{Data, Items}
use Rattle.avro_schema.specs.declared.attributes.Kind.TheVariants as kind
use Rattle.avro_schema.specs.Attributes.{is_object, items_in, id_in}
use Rattle.avro_schema.specs.Inside.{kind_in, Among, Uses, Defines}
use Rattle.avro_schema.specs.Order.{At, DefinedBefore}

-- a full name is used that nothing before defines
pub data HasUnknownName : List ℕ → Data → Type 0 where
  unknown_name : {space place last name : List ℕ} {d u : Data} → At place space d last u → Uses last u name
      → (DefinedBefore place space d name → ⊥) → HasUnknownName space d

-- a full name is defined at a place, and before it too
pub data HasNameTwice : List ℕ → Data → Type 0 where
  name_twice : {space place own name : List ℕ} {d e : Data} → At place space d own e → Defines own e name
      → DefinedBefore place space d name → HasNameTwice space d

-- two of the fields have this id
pub data IdTwice : ℤ → Items → Type 0 where
  with_later : {id : ℤ} {d e : Data} {ds : Items} → id_in (codes "field-id") d ≡ Some id → Among e ds
      → id_in (codes "field-id") e ≡ Some id → IdTwice id (json.item d ds)
  among_later : {id : ℤ} {d : Data} {ds : Items} → IdTwice id ds → IdTwice id (json.item d ds)

-- somewhere two fields of one record have this id
pub data HasIdTwice : ℤ → List ℕ → Data → Type 0 where
  id_twice : {id : ℤ} {space place last : List ℕ} {d e : Data} {ds : Items} → At place space d last e
      → kind_in e ≡ Some kind.Record → items_in is_object (codes "fields") e ≡ Some ds → IdTwice id ds
      → HasIdTwice id space d
