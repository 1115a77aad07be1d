-- One level of a schema whose values hold no others, as a tree.
use Rattle.std.proofs.Common.{◌≡◌, ℕ, ℤ, Option, rules}
use Rattle.std.specs.declared.alloc.Global.{Global}
use Rattle.std.specs.declared.sync.Arc.{Arc}
use Rattle.avro_schema.specs.declared.schema.Schema as Schema
use Rattle.avro_schema.specs.declared.schema.Schema.{the_lemmas}
use Rattle.avro_schema.specs.Tree as Tree
use Rattle.avro_schema.specs.View.{tree}

pub tree-Null : tree Schema.Null ≡ Tree.null
tree-Null = search (rules, the_lemmas)

pub tree-Boolean : tree Schema.Boolean ≡ Tree.boolean
tree-Boolean = search (rules, the_lemmas)

pub tree-Int : tree Schema.Int ≡ Tree.int
tree-Int = search (rules, the_lemmas)

pub tree-Long : tree Schema.Long ≡ Tree.long
tree-Long = search (rules, the_lemmas)

pub tree-Float : tree Schema.Float ≡ Tree.float
tree-Float = search (rules, the_lemmas)

pub tree-Double : tree Schema.Double ≡ Tree.double
tree-Double = search (rules, the_lemmas)

pub tree-Bytes : (kind : _) → tree (Schema.Bytes kind) ≡ Tree.octets kind
tree-Bytes kind = search (rules, the_lemmas)

pub tree-String : tree Schema.String ≡ Tree.string
tree-String = search (rules, the_lemmas)

pub tree-Fixed : (n : ℕ) (kind : _) → tree (Schema.Fixed n kind) ≡ Tree.fixed n kind
tree-Fixed n kind = search (rules, the_lemmas)

pub tree-Enum : (n : ℕ) → tree (Schema.Enum n) ≡ Tree.symbols n
tree-Enum n = search (rules, the_lemmas)

pub tree-Array : (a : Arc Schema.Schema Global) (id : Option ℤ) (kind : _)
    → tree (Schema.Array a id kind) ≡ Tree.array (tree a.value) id kind
tree-Array a id kind = search (rules, the_lemmas)
