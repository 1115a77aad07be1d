-- The types of a schema, each at its place, and the order of the places. Avro 1.11.1, "Names": a name is defined before
-- it is used, "before" in the depth-first, left-to-right traversal of the JSON parse tree.
use Rattle.std.specs.Prelude.{◌<◌, ℕ, zero, suc, List, [], ◌∷◌, Option, Some, None, codes}
use Rattle.serde_json.specs.Data as json
use Rattle.serde_json.specs.Data.{Data, Items}
use Rattle.serde_json.specs.Find.{get}
use Rattle.avro_schema.specs.declared.attributes.Kind.{Kind}
use Rattle.avro_schema.specs.declared.attributes.Kind.TheVariants as kind
use Rattle.avro_schema.specs.Names.{space_of}
use Rattle.avro_schema.specs.Attributes.{name_in, is_object, items_in}
use Rattle.avro_schema.specs.Reading.{defines}
use Rattle.avro_schema.specs.Inside.{kind_in, Defines}

-- a type, and the namespace around it
abbrev pub Node : Type 0
Node = List ℕ × Data

-- the type in front of the others, where it is there
abbrev pub before_others : List ℕ → Option Data → List Node → List Node
before_others space None others = others
before_others space (Some d) others = (space, d) ∷ others

-- the branches of a union
abbrev pub branch_nodes : List ℕ → Items → List Node
branch_nodes space json.no_items = []
branch_nodes space (json.item d ds) = (space, d) ∷ branch_nodes space ds

-- the types of the fields of a record
abbrev pub field_nodes : List ℕ → Items → List Node
field_nodes space json.no_items = []
field_nodes space (json.item d ds) = before_others space (get (codes "type") d) (field_nodes space ds)

-- the fields are in the namespace of the record's full name
abbrev pub record_nodes : List ℕ → Option (List ℕ) → Option Items → Data → List Node
record_nodes space None ds d = []
record_nodes space (Some name) None d = []
record_nodes space (Some name) (Some ds) d = field_nodes (space_of (defines space name d)) ds

abbrev pub nodes_of : Option Kind → List ℕ → Data → List Node
nodes_of None space d = []
nodes_of (Some kind.Array) space d = before_others space (get (codes "items") d) []
nodes_of (Some kind.Map) space d = before_others space (get (codes "values") d) []
nodes_of (Some kind.Record) space d = record_nodes space (name_in d) (items_in is_object (codes "fields") d) d
nodes_of (Some kind.Enum) space d = []
nodes_of (Some kind.Fixed) space d = []
nodes_of (Some kind.Bytes) space d = []
nodes_of (Some kind.Word) space d = []

-- the types that a type holds, from left to right: items, values, branches or the types of fields
unfoldable pub parts_in : List ℕ → Data → List Node
parts_in space json.null = []
parts_in space (json.boolean b) = []
parts_in space (json.number n) = []
parts_in space (json.string s) = []
parts_in space (json.array ds) = branch_nodes space ds
parts_in space (json.object ms) = nodes_of (kind_in (json.object ms)) space (json.object ms)

-- the part with this number
pub data Nth : ℕ → Node → List Node → Type 0 where
  first_part : {n : Node} {ns : List Node} → Nth zero n (n ∷ ns)
  later_part : {i : ℕ} {m n : Node} {ns : List Node} → Nth i n ns → Nth (suc i) n (m ∷ ns)

-- the second type stands in the first at this place: the number of the part at each step down
pub data At : List ℕ → List ℕ → Data → List ℕ → Data → Type 0 where
  root : {space : List ℕ} {d : Data} → At [] space d space d
  below : {i : ℕ} {place space last : List ℕ} {d f : Data} {n : Node} → Nth i n (parts_in space d)
      → At place n.0 n.1 last f → At (i ∷ place) space d last f

-- depth first, from left to right: a type comes before what it holds, and a part with all in it before the next part
pub data Before : List ℕ → List ℕ → Type 0 where
  around : {i : ℕ} {place : List ℕ} → Before [] (i ∷ place)
  left_of : {i j : ℕ} {place other : List ℕ} → i < j → Before (i ∷ place) (j ∷ other)
  in_one : {i : ℕ} {place other : List ℕ} → Before place other → Before (i ∷ place) (i ∷ other)

-- somewhere in the type this full name is defined
pub data DefinedIn : List ℕ → Data → List ℕ → Type 0 where
  defined_in : {space place own name : List ℕ} {d e : Data} → At place space d own e → Defines own e name
      → DefinedIn space d name

-- the same, before a place
pub data DefinedBefore : List ℕ → List ℕ → Data → List ℕ → Type 0 where
  defined_before : {space earlier place own name : List ℕ} {d e : Data} → Before earlier place
      → At earlier space d own e → Defines own e name → DefinedBefore place space d name
