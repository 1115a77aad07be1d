-- What a property of a file's metadata shows (Avro 1.11.1 specification, 'Object Container Files').
use Rattle.std.specs.Prelude.{List, map}
use Rattle.avro_file.specs.declared.writer.Property as declared
use Rattle.avro_file.specs.Header.{Property}

abbrev pub shown_property : declared.Property → Property
shown_property p = (p.key.now, p.value.now)

abbrev pub shown_properties : List declared.Property → List Property
shown_properties ps = map shown_property ps
