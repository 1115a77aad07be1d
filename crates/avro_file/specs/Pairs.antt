-- Records of an int and another value, as Iceberg writes a map from column ids in an array.
-- Avro 1.11.1 specification, 'Records': the values of the fields, one after the other.
use Rattle.std.specs.Prelude.{◌≡◌, ℤ, Option, None}
use Rattle.avro_schema.specs.declared.schema.BytesKind.{BytesKind}
use Rattle.avro_schema.specs.Tree.{Tree, int, long, octets, structure, no_fields, field}
use Rattle.avro_file.specs.declared.pairs.Second.{Second}
use Rattle.avro_file.specs.declared.pairs.Second.TheVariants.{Long, Bytes}

-- a record of an int and of a value of this type, whose fields have no ids
abbrev pub pair : Tree → Tree
pair s = structure (field None int (field None s no_fields))

-- which types a second field may have
abbrev pub IsSecond : Second → Tree → Type 0
IsSecond Long s = s ≡ long
IsSecond Bytes s = (kind : BytesKind) × (s ≡ octets kind)

-- a record of an int and of a value of such a type
abbrev pub IsPair : Tree → Second → Type 0
IsPair t second = (key_id : Option ℤ) × (value_id : Option ℤ) × (s : Tree) × IsSecond second s
    × (t ≡ structure (field key_id int (field value_id s no_fields)))
