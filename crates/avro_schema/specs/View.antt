-- The tree that a `Schema` is: the same, without where it lies in memory.
use Rattle.std.specs.Prelude.{ℤ, List, [], ◌∷◌, Option, map}
use Rattle.avro_schema.specs.declared.schema.Schema.{Schema, fold-Schema}
use Rattle.avro_schema.specs.declared.schema.Field.{Field}
use Rattle.avro_schema.specs.declared.schema.Schema.TheOpen.{Schema-F, Field-F}
use Rattle.avro_schema.specs.Tree.{Tree, null, boolean, int, long, float, double, symbols, octets, string, fixed}
use Rattle.avro_schema.specs.Tree.{structure, array, union, Fields, no_fields, field, Branches, no_branches, branch}
use Rattle.avro_schema.specs.Tree as tree_of

-- a field's id and tree
abbrev pub Part : Type 0
Part = Option ℤ × Tree

abbrev pub fields_of : List Part → Fields
fields_of [] = no_fields
fields_of (f ∷ fs) = field f.0 f.1 (fields_of fs)

abbrev pub branches_of : List Tree → Branches
branches_of [] = no_branches
branches_of (s ∷ ss) = branch s (branches_of ss)

-- one level, with each schema inside already seen as its tree
abbrev pub tree_step : Schema-F Tree Part → Tree
tree_step Schema-F.Null = null
tree_step Schema-F.Boolean = boolean
tree_step Schema-F.Int = int
tree_step Schema-F.Long = long
tree_step Schema-F.Float = float
tree_step Schema-F.Double = double
tree_step (Schema-F.Enum n) = symbols n
tree_step (Schema-F.Bytes kind) = octets kind
tree_step Schema-F.String = string
tree_step (Schema-F.Fixed n kind) = fixed n kind
tree_step (Schema-F.Record a) = structure (fields_of a.value.items)
tree_step (Schema-F.Array a id kind) = array a.value id kind
tree_step (Schema-F.Map a) = tree_of.map a.value
tree_step (Schema-F.Union a) = union (branches_of a.value.items)

abbrev pub field_step : Field-F Tree Part → Part
field_step f = (f.id, f.schema)

abbrev pub tree : Schema → Tree
tree = fold-Schema Tree Part tree_step field_step

abbrev pub trees : List Schema → List Tree
trees ss = map tree ss

abbrev pub parts : List Field → List Part
parts fs = map (λ f. (f.id, tree f.schema)) fs
