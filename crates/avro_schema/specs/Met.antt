-- What the reader's `Seen` stands for: the map as the list of its entries.
use Rattle.std.specs.Prelude.{List, map, Option, option_map, Result}
use Rattle.avro_schema.specs.declared.full_name.FullName.{FullName}
use Rattle.avro_schema.specs.declared.schema.Schema.{Schema}
use Rattle.avro_schema.specs.declared.names.Seen as code
use Rattle.avro_schema.specs.declared.fault.SchemaFault.{SchemaFault}
use Rattle.avro_schema.specs.declared.fault.SchemaFault.TheVariants.{Memory}
use Rattle.avro_schema.specs.Joined.{joined}
use Rattle.contract_words.specs.Outcome.{Gives}
use Rattle.avro_schema.specs.Tree.{Tree}
use Rattle.avro_schema.specs.View.{tree}
use Rattle.avro_schema.specs.Names.{Entry}
use Rattle.avro_schema.specs.Reading.{Seen, Read}

abbrev pub entries : List (FullName × Option Schema) → List Entry
entries es = map (λ e. (joined e.0, option_map tree e.1)) es

abbrev pub met : code.Seen → Seen
met s = record { names = entries s.names.entries; left = s.left }

-- a function returned what the definition reads, tree and state, unless memory ran out
abbrev pub Reads : Result (Schema × code.Seen) SchemaFault → Read Tree → Type 0
Reads result read = Gives Memory (λ x. (tree x.0, met x.1)) result read
