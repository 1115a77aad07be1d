-- A full name that lies in two parts of a schema's text: its namespace, and the name in it.
use Rattle.std.specs.Prelude.{ℕ, List}
use Rattle.avro_schema.specs.declared.full_name.FullName.{FullName}
use Rattle.avro_schema.specs.Names.{within}

-- the text that the parts stand for
abbrev pub joined : FullName → List ℕ
joined n = within n.space.now n.name.now
