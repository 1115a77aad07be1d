use Rattle.std.proofs.Common.{◌≡◌, drop}
use Rattle.avro_schema.specs.Names.{dotted}
use Rattle.avro_schema.proofs.names.is_dotted.Given as goal

abbrev pub invariant-bytes : goal.invariant-bytes
invariant-bytes l = dotted (drop l.byte-index l.name) ≡ dotted l.name
