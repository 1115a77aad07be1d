-- Where the fault of a schema stands, and what stands before it. Avro 1.11.1, "Names": "before" in the depth-first,
-- left-to-right traversal of the JSON parse tree.
use Rattle.std.specs.Prelude.{◌≡◌, ◌<◌, ℕ, ℤ, List, [], ◌∷◌, Some, codes, ⊤}
use Rattle.serde_json.specs.Data.{Data, Items}
use Rattle.avro_schema.specs.declared.fault.SchemaFault.{SchemaFault}
use Rattle.avro_schema.specs.declared.fault.SchemaFault.TheVariants.{NotJson, UnknownType, UnknownName, Recursive}
use Rattle.avro_schema.specs.declared.fault.SchemaFault.TheVariants.{TooBig, FieldTwice, Memory, NameTwice}
use Rattle.avro_schema.specs.declared.attributes.Kind.TheVariants as kind
use Rattle.avro_schema.specs.Attributes.{is_object, items_in}
use Rattle.avro_schema.specs.Inside.{kind_in, Uses, Defines}
use Rattle.avro_schema.specs.Order.{At, Before, DefinedBefore}
use Rattle.avro_schema.specs.Faults.{IdTwice}

-- two fields of this record have this id
abbrev pub RecordHasIdTwice : ℤ → Data → Type 0
RecordHasIdTwice id d = (ds : Items) × (kind_in d ≡ Some kind.Record)
    × (items_in is_object (codes "fields") d ≡ Some ds) × IdTwice id ds

-- the type at the first place ends, with all in it, before the type at the second begins
pub data EndsBefore : List ℕ → List ℕ → Type 0 where
  beside : {i j : ℕ} {place other : List ℕ} → i < j → EndsBefore (i ∷ place) (j ∷ other)
  both_in : {i : ℕ} {place other : List ℕ} → EndsBefore place other → EndsBefore (i ∷ place) (i ∷ other)

-- Before this place no type has a fault of names: each name that is used was defined before, none is defined twice, and
-- no record that ends there has an id twice.
pub record IsSoundBefore (place : List ℕ) (d : Data) : Type 0 where
  pub uses : (earlier last name : List ℕ) (u : Data) → Before earlier place → At earlier [] d last u → Uses last u name
      → DefinedBefore earlier [] d name
  pub definitions : (earlier own name : List ℕ) (e : Data) → Before earlier place → At earlier [] d own e
      → Defines own e name → DefinedBefore earlier [] d name → ⊥
  pub ids : (earlier last : List ℕ) (e : Data) (id : ℤ) → EndsBefore earlier place → At earlier [] d last e
      → RecordHasIdTwice id e → ⊥

-- The fault of names or ids is that of the type at this place. Of other faults nothing is said here.
abbrev pub IsFaultOf : List ℕ → Data → List ℕ → Data → SchemaFault → Type 0
IsFaultOf place d last u NotJson = ⊤
IsFaultOf place d last u UnknownType = ⊤
IsFaultOf place d last u UnknownName = (name : List ℕ) × Uses last u name × (DefinedBefore place [] d name → ⊥)
IsFaultOf place d last u Recursive = ⊤
IsFaultOf place d last u TooBig = ⊤
IsFaultOf place d last u (FieldTwice id) = RecordHasIdTwice id u
IsFaultOf place d last u Memory = ⊤
IsFaultOf place d last u NameTwice = (name : List ℕ) × Defines last u name × DefinedBefore place [] d name

-- the schema has this fault at a place, and none of names or ids before it
abbrev pub HasFirst : Data → SchemaFault → Type 0
HasFirst d e = (place : List ℕ) × (last : List ℕ) × (u : Data) × At place [] d last u × IsFaultOf place d last u e
    × IsSoundBefore place d
