-- The tree that a schema's text names, or its first fault. Avro 1.11.1, "Schema Declaration": a schema is JSON in
-- UTF-8. The limits of nodes and levels are our own.
use Rattle.std.specs.Prelude.{ℕ, List, [], Option, Some, None, Result, Ok, Err, if◌then◌else◌}
use Rattle.std.specs.Str.{is_utf8}
use Rattle.serde_json.specs.Data.{Data}
use Rattle.serde_json.specs.Read.{read}
use Rattle.avro_schema.specs.declared.fault.SchemaFault.{SchemaFault}
use Rattle.avro_schema.specs.declared.fault.SchemaFault.TheVariants.{NotJson}
use Rattle.contract_words.specs.Outcome.{◌>>=◌}
use Rattle.avro_schema.specs.Tree.{Tree}
use Rattle.avro_schema.specs.declared.reading.Role.TheVariants as role
use Rattle.avro_schema.specs.Reading.{tree_at}

-- a text that is no JSON is read as nothing
abbrev pub if_read : Option Data → Result Data SchemaFault
if_read None = Err NotJson
if_read (Some d) = Ok d

unfoldable pub json_of : List ℕ → Result Data SchemaFault
json_of text = if is_utf8 text then if_read (read text) else Err NotJson

abbrev pub most_levels : ℕ
most_levels = 32

abbrev pub most_nodes : ℕ
most_nodes = 10000

unfoldable pub schema_of : List ℕ → Result Tree SchemaFault
schema_of text = do
  d ← json_of text
  t ← tree_at most_levels role.Elsewhere [] d (record { names = []; left = most_nodes })
  Ok t.0
