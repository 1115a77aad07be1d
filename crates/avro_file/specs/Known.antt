-- The tree of a schema that was kept.
use Rattle.avro_schema.specs.Tree.{Tree}
use Rattle.avro_schema.specs.View.{tree}
use Rattle.avro_file.specs.declared.named.KnownSchema.{KnownSchema}

abbrev pub known_tree : KnownSchema → Tree
known_tree k = tree k.schema
