use Rattle.std.proofs.Common.{◌≡◌, ◌++◌, drop}
use Rattle.avro_file.specs.Writing.{properties_written}
use Rattle.avro_file.specs.Property.{shown_properties}
use Rattle.avro_file.proofs.writer.push_properties.Given as goal

abbrev pub invariant-properties : goal.invariant-properties
invariant-properties l = l.bytes.items ++ properties_written (shown_properties (drop l.property-index l.properties))
    ≡ l.initial.bytes.items ++ properties_written (shown_properties l.properties)
